-- Open holds and generations: how an advance and a reclaim change them, and how buffers go on hold and become free.
use Rattle.std.specs.Prelude.{◌≡◌, ◌⊎◌, ℕ, suc, ◌<◌, ◌≤◌, true, false, nat_lt, if◌then◌else◌, List, [], ◌∷◌, ◌++◌, length, drop}
use Rattle.std.specs.Prelude.{Option, Some, None}
use Rattle.std.specs.List.{AllByRecursion}
use Rattle.entry_ref.specs.References.{buffer_of}
use Rattle.entry_ref.specs.Images.{words_at}
use Rattle.arena_api.specs.Works.{Buffer, Tag, Hold, Commits, WorkView, active_width, last_image, oldest_of, newest_of}
use Rattle.arena_api.specs.Calls.{IsKept, with_buffer}
use Rattle.arena_api.specs.declared.answers.Advance.{Advance}
use Rattle.arena_api.specs.declared.answers.Advance.TheVariants.{To, NoHold, Spent}
use Rattle.arena_api.specs.declared.answers.Oldest.{Oldest}

-- the current generation is that of the newest hold
abbrev pub current : {H : Type 0} → WorkView H → ℕ
current work = (newest_of work.queue).generation

-- hold numbers are below 16 and distinct, generations rise, and first commits never fall
pub record IsBefore (a b : Hold) : Type 0 where
  pub generation : a.generation < b.generation
  pub hold : a.hold ≡ b.hold → ⊥
  pub first : a.first ≤ b.first

abbrev pub AreInOrder : List Hold → Type 0
AreInOrder [] = Unit {0}
AreInOrder (h ∷ hs) = AllByRecursion (IsBefore h) hs × AreInOrder hs

pub record IsOpenHold {H : Type 0} (work : WorkView H) (h : Hold) : Type 0 where
  pub hold : h.hold < 16
  pub first : h.first ≤ work.commits.last
  pub generation : h.generation ≤ work.sizes.generations

pub record IsQueue {H : Type 0} (work : WorkView H) : Type 0 where
  pub some : 0 < length work.queue
  pub few : length work.queue ≤ 16
  pub order : AreInOrder work.queue
  pub each : AllByRecursion (IsOpenHold work) work.queue

-- the closed hold with the lowest number
pub record IsLowestClosed (queue : List Hold) (hold : ℕ) : Type 0 where
  pub below : hold < 16
  pub closed : AllByRecursion (λ h. h.hold ≡ hold → ⊥) queue
  pub lowest : (k : ℕ) → k < hold → AllByRecursion (λ h. h.hold ≡ k → ⊥) queue → ⊥

-- the next generation on a hold, for readers of the last commit or later ones
abbrev pub next_hold : {H : Type 0} → WorkView H → ℕ → Hold
next_hold work hold = record { generation = suc (current work); hold = hold; first = work.commits.last }

-- the holds with another newest one
abbrev pub with_newest : List Hold → Hold → List Hold
with_newest [] new = new ∷ []
with_newest (h ∷ []) new = new ∷ []
with_newest (h ∷ g ∷ hs) new = h ∷ with_newest (g ∷ hs) new

-- the newest hold was found unused: it takes the next generation
pub record Renews {H : Type 0} (old new : WorkView H) (on : ℕ) : Type 0 where
  pub hold : on ≡ (newest_of old.queue).hold
  pub queue : new.queue ≡ with_newest old.queue (next_hold old on)
  pub stops : new.stops ≡ old.stops
  pub found : new.found ≡ old.found

-- the newest hold was found in use: a closed one is opened after it
pub record Opens {H : Type 0} (old new : WorkView H) (on : ℕ) : Type 0 where
  pub closed : IsLowestClosed old.queue on
  pub queue : new.queue ≡ old.queue ++ next_hold old on ∷ []
  pub stops : new.stops ≡ suc old.stops
  pub found : 0 < new.found

pub record GoesTo {H : Type 0} (old new : WorkView H) (generation hold : ℕ) : Type 0 where
  pub below : current old < old.sizes.generations
  pub next : generation ≡ suc (current old)
  pub holds : Renews old new hold ⊎ Opens old new hold

-- the newest hold was found in use and all are open: the generation does not change
pub record FindsNoHold {H : Type 0} (old new : WorkView H) (holds count : ℕ) : Type 0 where
  pub below : current old < old.sizes.generations
  pub all : holds ≡ 16
  pub all_open : length old.queue ≡ 16
  pub in_use : 0 < count
  pub queue : new.queue ≡ old.queue
  pub stops : new.stops ≡ suc old.stops
  pub found : new.found ≡ count

-- the current generation is the last possible one
pub record IsSpent {H : Type 0} (old new : WorkView H) (generation : ℕ) : Type 0 where
  pub limit : current old ≡ old.sizes.generations
  pub tells : generation ≡ current old
  pub same : new ≡ old

-- what an advance returns, and how it changes the holds
abbrev pub Advances : {H : Type 0} → Advance → WorkView H → WorkView H → Type 0
Advances (To generation hold) old new = GoesTo old new generation hold
Advances (NoHold holds found) old new = FindsNoHold old new holds found
Advances (Spent generation) old new = IsSpent old new generation

-- only old commits are released
pub record LetsGo (old new : Commits) : Type 0 where
  pub last : new.last ≡ old.last
  pub rises : old.floor ≤ new.floor
  pub within : new.floor ≤ new.last
  pub kept : (n : ℕ) → new.floor ≤ n → n ≤ old.last → new.image n ≡ old.image n

-- nothing else changes
abbrev pub advanced : {H : Type 0} → WorkView H → WorkView H → WorkView H
advanced old new = record old { queue = new.queue; commits = new.commits; stops = new.stops; found = new.found }

-- the buffer is active, and has nothing of the last commit and nothing stored since then
pub record MayRetire {H : Type 0} (bits : ℕ) (work : WorkView H) (b : ℕ) : Type 0 where
  pub below : b < work.sizes.buffers
  pub active : 0 < active_width (work.buffer b)
  pub uncommitted : (r : ℕ) → buffer_of bits r ≡ b → words_at (last_image work.commits) r ≡ []
  pub unstored : (r i : ℕ) → buffer_of bits r ≡ b → work.stored r i ≡ None

-- a buffer is on hold with this tag: no kept commit from the tag's on has anything in it, and nothing was stored in
-- it since then; a reader that can reach it stands on a hold of the tag's generation or an older one
pub record IsHeldUnder {H : Type 0} (bits : ℕ) (work : WorkView H) (b : ℕ) (tag : Tag) : Type 0 where
  pub generation : tag.generation ≤ current work
  pub commit : tag.commit ≤ work.commits.last
  pub unused : (n r : ℕ) → IsKept work.commits n → tag.commit ≤ n → buffer_of bits r ≡ b → words_at (work.commits.image n) r ≡ []
  pub later : AllByRecursion (λ h. tag.generation < h.generation → tag.commit ≤ h.first) work.queue

-- the tag of a buffer that is put on hold now
abbrev pub tag_now : {H : Type 0} → WorkView H → Tag
tag_now work = record { generation = current work; commit = work.commits.last }

abbrev pub retired : {H : Type 0} → WorkView H → ℕ → WorkView H
retired work b = record work { buffer = with_buffer work.buffer b (Buffer.held (active_width (work.buffer b)) (tag_now work)) }

-- a buffer on hold becomes free if its tag is below a generation
abbrev pub freed_below : ℕ → Buffer → Buffer
freed_below generation (Buffer.free last) = Buffer.free last
freed_below generation (Buffer.active width last) = Buffer.active width last
freed_below generation (Buffer.held width tag) =
    if nat_lt tag.generation generation then Buffer.free (Some tag) else Buffer.held width tag

-- the oldest holds are closed, up to the first that is in use or the newest; buffers whose tag is below the oldest
-- open generation become free
pub record Reclaims {H : Type 0} (answer : Oldest) (old new : WorkView H) : Type 0 where
  pub closed : ℕ
  pub queue : new.queue ≡ drop closed old.queue
  pub left : closed < length old.queue
  pub buffer : new.buffer ≡ (λ b. freed_below (oldest_of new.queue).generation (old.buffer b))
  pub generation : answer.generation ≡ (oldest_of new.queue).generation
  pub hold : answer.hold ≡ (oldest_of new.queue).hold
  pub newest : answer.newest ≡ true → (length new.queue ≡ 1) × (answer.found ≡ 0) × (new.stops ≡ old.stops) × (new.found ≡ old.found)
  pub stopped : answer.newest ≡ false → (1 < length new.queue) × (0 < answer.found) × (new.stops ≡ suc old.stops)
      × (new.found ≡ answer.found)

abbrev pub reclaimed : {H : Type 0} → WorkView H → WorkView H → WorkView H
reclaimed old new = record old { buffer = new.buffer; queue = new.queue; commits = new.commits; stops = new.stops; found = new.found }
