-- Where the words of records are: the buffers follow the named words, one after another.
use Rattle.std.specs.Prelude.{◌≡◌, ℕ, ◌+◌, ◌*◌, ◌<◌, ◌≤◌, List, length, slice_index, Some}
use Rattle.entry_ref.specs.References.{buffer_of, offset_of}
use Rattle.entry_ref.specs.declared.images.Image.{Image}
use Rattle.entry_ref.specs.Images.{record_at}

-- the place of a buffer's state, after the root, the newest hold and the counts of the sixteen holds
abbrev pub state_place : ℕ → ℕ
state_place b = 18 + b

-- the first word of a buffer, which holds the width of its entries
abbrev pub base : ℕ → ℕ → ℕ → ℕ
base buffers words b = 18 + buffers + b * words

-- word i of an entry of this width
abbrev pub place : ℕ → ℕ → ℕ → ℕ → ℕ → ℕ → ℕ
place bits buffers words width ref i = base buffers words (buffer_of bits ref) + (offset_of bits ref * width + i)

-- how many words the table has
abbrev pub size_of : ℕ → ℕ → ℕ
size_of buffers words = 18 + buffers + buffers * words

-- an entry of this width lies in its buffer, after the reserved offset 0
pub record IsEntry (bits buffers words width ref : ℕ) : Type 0 where
  pub inside : buffer_of bits ref < buffers
  pub wide : 0 < width
  pub first : 0 < offset_of bits ref
  pub last : offset_of bits ref * width + width ≤ words

-- this word is at this place
pub record IsWord (table : List ℕ) (p n : ℕ) : Type 0 where
  pub below : p < length table
  pub is : slice_index table p ≡ n

-- a record is in the table: it is as wide as the first word of its buffer says, and each word is at its place
pub record RecordStands (bits buffers words : ℕ) (table : List ℕ) (ref : ℕ) (ws : List ℕ) : Type 0 where
  pub entry : IsEntry bits buffers words (length ws) ref
  pub width : IsWord table (base buffers words (buffer_of bits ref)) (length ws)
  pub each : (i : ℕ) → i < length ws → IsWord table (place bits buffers words (length ws) ref i) (slice_index ws i)

-- each record of an image is in the table
abbrev pub StandsIn : ℕ → ℕ → ℕ → List ℕ → Image → Type 0
StandsIn bits buffers words table image =
    (ref : ℕ) (ws : List ℕ) → record_at image ref ≡ Some ws → RecordStands bits buffers words table ref ws
