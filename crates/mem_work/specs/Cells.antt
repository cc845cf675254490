-- Words in memory, one buffer after another. The first word of a buffer is the width of its entries, or 0 if it is
-- free. A stamp is the number of the commit in progress. Each word has the stamp of the last time when it was stored
-- alone. After all of these, each entry has the stamp of the last time when it was stored whole.
use Rattle.std.specs.Prelude.{◌≡◌, ◌<◌, ℕ, zero, suc, ◌+◌, ◌-◌, ◌*◌, ◌^◌, Bool, ◌&&◌, ◌||◌, nat_lt, nat_le, if◌then◌else◌, List, [], ◌∷◌}
use Rattle.std.specs.Prelude.{◌++◌, length, slice_index, take, drop, replicate, None, Some}
use Rattle.std.specs.List.{list_all}
use Rattle.entry_ref.specs.References.{buffer_of, offset_of}
use Rattle.entry_ref.specs.declared.images.Image.{Image}
use Rattle.entry_ref.specs.Images.{words_at}
use Rattle.entry_ref.specs.Records.{Records}
use Rattle.arena_api.specs.Works.{Sizes, Buffer, Stored, WorkView, first_hold}
use Rattle.arena_api.specs.Calls.{next_image}

-- the width of a buffer's entries
abbrev pub width_in : List ℕ → ℕ → ℕ → ℕ
width_in table words b = slice_index table (b * words)

-- the place where an entry of this width begins
abbrev pub begin_of : ℕ → ℕ → ℕ → ℕ → ℕ
begin_of bits words width r = buffer_of bits r * words + offset_of bits r * width

-- the words after a range from p on is replaced
abbrev pub with_range : List ℕ → ℕ → List ℕ → List ℕ
with_range table p ws = take p table ++ (ws ++ drop (p + length ws) table)

-- whether a reference has an entry of this width
unfoldable pub names_entry : ℕ → ℕ → ℕ → ℕ → ℕ → Bool
names_entry bits buffers words width r =
    nat_lt (buffer_of bits r) buffers && (nat_lt 0 width
    && (nat_lt 0 (offset_of bits r) && nat_le (offset_of bits r * width + width) words))

-- the words of each entry, whether it is a record or not
unfoldable pub standing : List ℕ → ℕ → ℕ → ℕ → Records
standing table bits buffers words r =
    let width = width_in table words (buffer_of bits r) in
    if names_entry bits buffers words width r then take width (drop (begin_of bits words width r) table) else []

-- the place of an entry's stamp
abbrev pub stamp_at : ℕ → ℕ → ℕ → ℕ → ℕ
stamp_at bits buffers words r = buffers * words + (buffer_of bits r * words + offset_of bits r)

-- the stamps without those of a buffer
abbrev pub without_stamps : List ℕ → ℕ → ℕ → ℕ → List ℕ
without_stamps stamps buffers words b =
    with_range (with_range stamps (b * words) (replicate words 0)) (buffers * words + b * words) (replicate words 0)

-- whether a word was stored since a stamp: with its whole entry, or alone
abbrev pub was_stored_since : ℕ → ℕ → ℕ → Bool
was_stored_since since whole alone = nat_le since whole || nat_le since alone

-- in a free buffer nothing was stored since a stamp, neither a word nor an entry
abbrev pub IsUnused : List ℕ → List ℕ → ℕ → ℕ → ℕ → Type 0
IsUnused table stamps buffers words since = (b x : ℕ) → b < buffers → x < words → width_in table words b ≡ 0
    → (slice_index stamps (b * words + x) < since) × (slice_index stamps (buffers * words + (b * words + x)) < since)

-- whether each word of an entry was stored since a stamp
unfoldable pub is_whole : List ℕ → List ℕ → ℕ → ℕ → ℕ → ℕ → ℕ → Bool
is_whole table stamps bits buffers words since r =
    let width = width_in table words (buffer_of bits r) in
    let begin = begin_of bits words width r in
    let whole = slice_index stamps (stamp_at bits buffers words r) in
    names_entry bits buffers words width r && list_all (was_stored_since since whole) (take width (drop begin stamps))

-- the words that were stored since a stamp
unfoldable pub stored_since : List ℕ → List ℕ → ℕ → ℕ → ℕ → ℕ → Stored
stored_since table stamps bits buffers words since r i =
    let width = width_in table words (buffer_of bits r) in
    let begin = begin_of bits words width r in
    let there = was_stored_since since (slice_index stamps (stamp_at bits buffers words r)) (slice_index stamps (begin + i)) in
    if names_entry bits buffers words width r && (nat_lt i width && there) then Some (slice_index table (begin + i)) else None

-- the image of the last commit: the current words of what its root reaches
abbrev pub image_in : (ℕ → Records → ℕ → List ℕ) → ℕ → List ℕ → ℕ → ℕ → ℕ → ℕ → Image
image_in reaches shape table bits buffers words root = next_image reaches shape (standing table bits buffers words) root

-- the records: what was stored whole since the last commit, and the records of that commit
abbrev pub records_in : (ℕ → Records → ℕ → List ℕ) → ℕ → List ℕ → List ℕ → ℕ → ℕ → ℕ → ℕ → ℕ → Records
records_in reaches shape table stamps bits buffers words last root r =
    if is_whole table stamps bits buffers words (last + 1) r then standing table bits buffers words r
    else words_at (image_in reaches shape table bits buffers words root) r

abbrev pub buffer_by : ℕ → Buffer
buffer_by zero = Buffer.free None
buffer_by (suc width) = Buffer.active (suc width) None

-- the buffers of a memory
abbrev pub buffer_in : List ℕ → ℕ → ℕ → Buffer
buffer_in table words b = buffer_by (width_in table words b)

-- the sizes of a memory, with the highest limits
abbrev pub sizes_of : ℕ → ℕ → Sizes
sizes_of buffers words = record { buffers = buffers; words = words; commits = 2 ^ 32 - 1; generations = 2 ^ 48 - 1 }

-- the view of a memory by its words: it has no readers and keeps only the last commit
abbrev pub memory_view : (ℕ → Records → ℕ → List ℕ) → ℕ → List ℕ → List ℕ → ℕ → ℕ → ℕ → ℕ → ℕ → WorkView (Unit {0})
memory_view reaches shape table stamps bits buffers words last root = record {
  home = tt;
  sizes = sizes_of buffers words;
  buffer = buffer_in table words;
  queue = first_hold ∷ [];
  commits = record { floor = last; last = last; image = λ n. image_in reaches shape table bits buffers words root };
  stored = stored_since table stamps bits buffers words (last + 1);
  told = [];
  stops = 0;
  found = 0;
  made = 0;
}
