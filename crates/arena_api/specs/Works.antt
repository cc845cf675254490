-- What a work knows: the sizes, each buffer, the open holds, the kept commits, and what was stored since the last
-- commit.
use Rattle.std.specs.Prelude.{ℕ, suc, zero, ◌+◌, Bool, true, false, if◌then◌else◌, List, [], ◌∷◌, Option, Some}
use Rattle.entry_ref.specs.declared.images.Image.{Image}

-- the number of buffers, the words of each, and the highest numbers of a commit and of a generation
pub record Sizes : Type 0 where
  pub buffers : ℕ
  pub words : ℕ
  pub commits : ℕ
  pub generations : ℕ

-- the generation and the last commit at the time when a buffer was put on hold
pub record Tag : Type 0 where
  pub generation : ℕ
  pub commit : ℕ

-- a buffer is free, or active or held with the width of its entries; it keeps its last tag
pub data Buffer : Type 0 where
  free : Option Tag → Buffer
  active : ℕ → Option Tag → Buffer
  held : ℕ → Tag → Buffer

-- an open hold, with the first commit that its readers can have
pub record Hold : Type 0 where
  pub generation : ℕ
  pub hold : ℕ
  pub first : ℕ

-- the first hold of a work: generation 0 on hold 0, for readers of commit 0 or later ones
abbrev pub first_hold : Hold
first_hold = record { generation = 0; hold = 0; first = 0 }

abbrev pub oldest_of : List Hold → Hold
oldest_of [] = first_hold
oldest_of (h ∷ hs) = h

abbrev pub newest_of : List Hold → Hold
newest_of [] = first_hold
newest_of (h ∷ []) = h
newest_of (h ∷ g ∷ hs) = newest_of (g ∷ hs)

-- the commits from the floor to the last are kept, each with its image
pub record Commits : Type 0 where
  pub floor : ℕ
  pub last : ℕ
  pub image : ℕ → Image

-- words by entry and index
abbrev pub Stored : Type 0
Stored = ℕ → ℕ → Option ℕ

-- all that a work knows; `home` says to which arena it belongs
pub record WorkView (H : Type 0) : Type 0 where
  pub home : H
  pub sizes : Sizes
  pub buffer : ℕ → Buffer
  -- the open holds, the oldest first
  pub queue : List Hold
  pub commits : Commits
  -- what was stored since the last commit
  pub stored : Stored
  -- the images of all commits, or none
  pub told : List Image
  -- how often a hold was found in use, and the last count that was found
  pub stops : ℕ
  pub found : ℕ
  -- the number of readers made
  pub made : ℕ

-- the width of the entries of an active buffer, otherwise 0
abbrev pub active_width : Buffer → ℕ
active_width (Buffer.free tag) = 0
active_width (Buffer.active width tag) = width
active_width (Buffer.held width tag) = 0

-- the width of the entries of a buffer, or 0 if it is free
abbrev pub width_of : Buffer → ℕ
width_of (Buffer.free tag) = 0
width_of (Buffer.active width tag) = width
width_of (Buffer.held width tag) = width

abbrev pub is_free : Buffer → Bool
is_free (Buffer.free tag) = true
is_free (Buffer.active width tag) = false
is_free (Buffer.held width tag) = false

-- the tag of a buffer's last hold
abbrev pub last_tag : Buffer → Option Tag
last_tag (Buffer.free tag) = tag
last_tag (Buffer.active width tag) = tag
last_tag (Buffer.held width tag) = Some tag

-- the number of free buffers among the first n
abbrev pub free_count : (ℕ → Buffer) → ℕ → ℕ
free_count buffer zero = 0
free_count buffer (suc n) = free_count buffer n + (if is_free (buffer n) then 1 else 0)

-- the image of the last commit
abbrev pub last_image : Commits → Image
last_image commits = commits.image commits.last
