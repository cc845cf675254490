-- Buffers on hold in a memory, and its only open hold.
use Rattle.std.specs.Prelude.{◌≡◌, ℕ, ◌<◌, ◌≤◌, Bool, true, false, nat_lt, if◌then◌else◌, List, [], ◌∷◌, slice_index_or, Some}
use Rattle.arena_api.specs.Works.{Buffer, Tag, Hold, WorkView}
use Rattle.mem_work.specs.declared.marks.Mark.{Mark}
use Rattle.mem_work.specs.declared.marks.Mark.TheVariants.{Fresh, Past, Held}

abbrev pub tag_of : ℕ → ℕ → Tag
tag_of generation commit = record { generation = generation; commit = commit }

abbrev pub is_held : Mark → Bool
is_held Fresh = false
is_held (Past generation commit) = false
is_held (Held generation commit width) = true

-- a mark, after everything below a generation is freed
abbrev pub mark_freed : ℕ → Mark → Mark
mark_freed below Fresh = Fresh
mark_freed below (Past generation commit) = Past generation commit
mark_freed below (Held generation commit width) =
    if nat_lt generation below then Past generation commit else Held generation commit width

-- the mark of a buffer
abbrev pub mark_at : List Mark → ℕ → Mark
mark_at marks b = slice_index_or marks b Fresh

-- the buffer by its words, which say free or active, and by its mark
abbrev pub marked : Mark → Buffer → Buffer
marked Fresh buffer = buffer
marked (Past generation commit) (Buffer.free last) = Buffer.free (Some (tag_of generation commit))
marked (Past generation commit) (Buffer.active width last) = Buffer.active width (Some (tag_of generation commit))
marked (Past generation commit) (Buffer.held width tag) = Buffer.held width tag
marked (Held generation commit width) (Buffer.free last) = Buffer.held width (tag_of generation commit)
marked (Held generation commit width) (Buffer.active wide last) = Buffer.active wide last
marked (Held generation commit width) (Buffer.held wide tag) = Buffer.held wide tag

-- buffers with their marks
abbrev pub marked_buffers : List Mark → (ℕ → Buffer) → ℕ → Buffer
marked_buffers marks buffer b = marked (mark_at marks b) (buffer b)

-- the one open hold
abbrev pub only_hold : ℕ → ℕ → Hold
only_hold generation first = record { generation = generation; hold = 0; first = first }

-- the view of a memory with its marks and its hold
abbrev pub with_marks : {H : Type 0} → WorkView H → List Mark → ℕ → ℕ → WorkView H
with_marks work marks generation first = record work {
  buffer = marked_buffers marks work.buffer;
  queue = only_hold generation first ∷ [];
}

-- the condition on the mark of a buffer with this first word: the tag of a past mark is below the generation; the tag
-- of a held mark is at most the generation, and the buffer has no width
pub record IsHeldMark (generation first last word g c : ℕ) : Type 0 where
  pub few : g ≤ generation
  pub commit : c ≤ last
  pub later : g < generation → c ≤ first
  pub none : word ≡ 0

pub record IsMarkOfWidth (generation first last word : ℕ) (mark : Mark) : Type 0 where
  pub past : (g c : ℕ) → mark ≡ Past g c → g < generation
  pub held : (g c w : ℕ) → mark ≡ Held g c w → IsHeldMark generation first last word g c
