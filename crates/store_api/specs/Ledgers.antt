-- The ledger of a store: the status of each entry, and counts by width.
use Rattle.std.specs.Prelude.{◌≡◌, ℕ, zero, suc, ◌+◌, ◌-◌, ◌/◌, ◌^◌, ◌<◌, ◌≤◌, Bool, true, false, ◌&&◌, ◌||◌, not, nat_eq, nat_lt, nat_le, if◌then◌else◌, min, List}
use Rattle.std.specs.Prelude.{[], ◌∷◌, length, Option, None, Some}
use Rattle.std.specs.List.{list_any}
use Rattle.entry_ref.specs.References.{buffer_of}
use Rattle.entry_ref.specs.declared.images.Image.{Image}
use Rattle.entry_ref.specs.Images.{words_at}
use Rattle.entry_ref.specs.Places.{IsEntry}
use Rattle.entry_ref.specs.Records.{Records}
use Rattle.arena_api.specs.Works.{WorkView, Buffer, Hold, Tag, active_width, oldest_of}
use Rattle.arena_api.specs.Generations.{current}
use Rattle.arena_api.specs.Calls.{IsKept}
use Rattle.store_api.specs.Statuses.{Status, is_open}

abbrev pub is_active : Buffer → Bool
is_active (Buffer.free tag) = false
is_active (Buffer.active width tag) = true
is_active (Buffer.held width tag) = false

abbrev pub is_held : Buffer → Bool
is_held (Buffer.free tag) = false
is_held (Buffer.active width tag) = false
is_held (Buffer.held width tag) = true

-- the counts of one width
pub record OfWidth : Type 0 where
  -- how often an entry was made, at most the greatest 64-bit number
  pub made : ℕ
  -- the free entries outside sealed buffers, and those left in the buffer being filled
  pub spare : ℕ
  -- the entries in use outside sealed buffers that the open unit made
  pub fresh : ℕ
  -- the buffers, active or on hold
  pub buffers : ℕ
  -- the buffer being filled, which is the one handed out last
  pub filled : Option ℕ

pub record Ledger (H : Type 0) : Type 0 where
  -- what the underlying work knows
  pub work : WorkView H
  pub shape : ℕ
  -- the number of bits of an offset in a reference
  pub bits : ℕ
  -- whether a unit is open
  pub unit : Bool
  pub status : ℕ → Status
  -- the statuses and records that an undo restores; if no unit is open, the current ones
  pub back : ℕ → Status
  pub back_records : Records
  pub of_width : ℕ → OfWidth
  -- the buffers that a compaction empties, and the buffer that the next commit puts on hold
  pub sealed : ℕ → Bool
  pub finished : Option ℕ

-- the widths of entries: powers of two for records of words, and 34 for tree nodes
abbrev pub widths : List ℕ
widths = 2 ∷ 4 ∷ 8 ∷ 16 ∷ 32 ∷ 64 ∷ 128 ∷ 256 ∷ 512 ∷ 1024 ∷ 34 ∷ []

abbrev pub is_width : ℕ → Bool
is_width width = list_any (nat_eq width) widths

-- the number of entries of a width that fit in a buffer, without its reserved offset 0
abbrev pub capacity : ℕ → ℕ → ℕ
capacity words width = words / width - 1

-- a reference names an entry of an active buffer
abbrev pub IsEntryOf : {H : Type 0} → ℕ → WorkView H → ℕ → Type 0
IsEntryOf bits work r = IsEntry bits work.sizes.buffers work.sizes.words (active_width (work.buffer (buffer_of bits r))) r

-- the counts after those of one width change
abbrev pub with_counts : (ℕ → OfWidth) → ℕ → OfWidth → ℕ → OfWidth
with_counts counts width new w = if nat_eq w width then new else counts w

-- one more, at most the greatest 64-bit number
abbrev pub one_more : ℕ → ℕ
one_more n = min (n + 1) (2 ^ 64 - 1)

-- the number of active buffers among the first n, and the number of held ones
abbrev pub active_count : (ℕ → Buffer) → ℕ → ℕ
active_count buffer zero = 0
active_count buffer (suc n) = active_count buffer n + (if is_active (buffer n) then 1 else 0)

abbrev pub held_count : (ℕ → Buffer) → ℕ → ℕ
held_count buffer zero = 0
held_count buffer (suc n) = held_count buffer n + (if is_held (buffer n) then 1 else 0)

-- the number of buffers of these widths
abbrev pub buffers_in : (ℕ → OfWidth) → List ℕ → ℕ
buffers_in counts [] = 0
buffers_in counts (width ∷ rest) = (counts width).buffers + buffers_in counts rest

-- it is this buffer
abbrev pub is_this : Option ℕ → ℕ → Bool
is_this None b = false
is_this (Some a) b = nat_eq a b

-- the buffer is the one of its width that is being filled
abbrev pub is_filled : {H : Type 0} → Ledger H → ℕ → Bool
is_filled ledger b = is_this (ledger.of_width (active_width (ledger.work.buffer b))).filled b

-- the entry has a record in the image
abbrev pub is_in : Image → ℕ → Bool
is_in image r = nat_lt 0 (length (words_at image r))

-- an entry of this width that a make can take
pub record IsSpare {H : Type 0} (bits : ℕ) (ledger : Ledger H) (width r : ℕ) : Type 0 where
  pub entry : IsEntryOf bits ledger.work r
  pub of_width : active_width (ledger.work.buffer (buffer_of bits r)) ≡ width
  pub opened : is_open (ledger.status r) ≡ true
  pub unsealed : ledger.sealed (buffer_of bits r) ≡ false

-- readers on a hold of a later generation than the tag's have the tag's commit or later ones
abbrev pub is_later : Tag → Hold → Bool
is_later tag h = not (nat_lt tag.generation h.generation) || nat_le tag.commit h.first

abbrev pub all_later : Tag → List Hold → Bool
all_later tag [] = true
all_later tag (h ∷ hs) = is_later tag h && all_later tag hs

-- an entry is held with a tag: no kept commit from the tag's on has it. A reader that can reach it stands on a hold
-- of the tag's generation or an older one, since readers on later holds have later commits; and such a hold is open
pub record IsHeldEntry {H : Type 0} (ledger : Ledger H) (r : ℕ) (tag : Tag) : Type 0 where
  pub unused : (n : ℕ) → IsKept ledger.work.commits n → tag.commit ≤ n → words_at (ledger.work.commits.image n) r ≡ []
  pub later : all_later tag ledger.work.queue ≡ true
  pub open_still : (oldest_of ledger.work.queue).generation ≤ tag.generation
  pub generation : tag.generation ≤ current ledger.work
  pub commit : tag.commit ≤ ledger.work.commits.last

-- an active buffer that is not being filled, which may be sealed
pub record IsUnfilled {H : Type 0} (ledger : Ledger H) (b : ℕ) : Type 0 where
  pub below : b < ledger.work.sizes.buffers
  pub active : 0 < active_width (ledger.work.buffer b)
  pub unfilled : is_filled ledger b ≡ false

-- no unit is open, so an undo would change nothing
pub record IsSettled {H : Type 0} (ledger : Ledger H) (m : Records) : Type 0 where
  pub back : ledger.back ≡ ledger.status
  pub back_records : ledger.back_records ≡ m
  pub fresh : (width : ℕ) → (ledger.of_width width).fresh ≡ 0

-- nothing was made of a width
abbrev pub no_counts : OfWidth
no_counts = record { made = 0; spare = 0; fresh = 0; buffers = 0; filled = None }

-- a store in which nothing was made
pub record IsNew {H : Type 0} (ledger : Ledger H) : Type 0 where
  pub unit : ledger.unit ≡ false
  pub status : (r : ℕ) → ledger.status r ≡ Status.unmade
  pub counts : (width : ℕ) → ledger.of_width width ≡ no_counts
  pub sealed : (b : ℕ) → ledger.sealed b ≡ false
  pub finished : ledger.finished ≡ None
