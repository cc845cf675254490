-- How words are stored in a record: the words, followed by zeros up to one of the widths.
use Rattle.std.specs.Prelude.{◌≡◌, ℕ, ◌-◌, ◌/◌, ◌%◌, ◌^◌, ◌<◌, ◌≤◌, nat_le, ℤ, List, [], ◌∷◌, ◌++◌, length, slice_index, take, drop}
use Rattle.std.specs.Prelude.{replicate}
use Rattle.std.specs.Int.{cast_signed, w32}
use Rattle.std.specs.List.{find}
use Rattle.std.specs.Option.{unwrap_or}

-- the widths of records that are not tree nodes
abbrev pub classes : List ℕ
classes = 2 ∷ 4 ∷ 8 ∷ 16 ∷ 32 ∷ 64 ∷ 128 ∷ 256 ∷ 512 ∷ 1024 ∷ []

-- the least width that holds `n` words, at most 1024
abbrev pub class_of : ℕ → ℕ
class_of n = unwrap_or (find (nat_le n) classes) 1024

-- words, followed by zeros up to their class
abbrev pub filled : List ℕ → List ℕ
filled ws = ws ++ replicate (class_of (length ws) - length ws) 0

-- the items of a list that is stored after its count
abbrev pub stored_items : List ℕ → List ℕ
stored_items ws = take (slice_index ws 0) (drop 1 ws)

-- a stored list: its count, from 1 to `most`; its items; and zeros
pub record IsStoredList (most : ℕ) (ws : List ℕ) : Type 0 where
  pub some : 0 < length (stored_items ws)
  pub few : length (stored_items ws) ≤ most
  pub words : ws ≡ filled (length (stored_items ws) ∷ stored_items ws)

-- a weight is stored as 32 bits in two's complement
abbrev pub weight_in_bits : ℕ → ℤ
weight_in_bits bits = cast_signed w32 bits

-- a number and a weight in one word
abbrev pub unpacked : ℕ → ℕ × ℤ
unpacked word = (word / 2 ^ 32, weight_in_bits (word % 2 ^ 32))
