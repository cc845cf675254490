-- The position of a sought key among the keys of slots. `c k` compares a stored key k with the sought one.
use Rattle.std.specs.Prelude.{◌≡◌, ◌⊎◌, ◌≢◌, ℕ, suc, ◌<◌, ◌≤◌, List, length, slice_index}
use Rattle.std.specs.declared.cmp.Ordering.{Ordering}
use Rattle.std.specs.declared.cmp.Ordering.TheVariants.{Less, Equal, Greater}

-- the first key that is not below the sought one, or the number of keys
pub record IsSlot (c : ℕ → Ordering) (keys : List ℕ) (slot : ℕ) : Type 0 where
  pub within : slot ≤ length keys
  pub before : (j : ℕ) → j < slot → c (slice_index keys j) ≡ Less
  pub at : slot < length keys → c (slice_index keys slot) ≢ Less

-- the key of the slot is equal to the sought one, or no key is and this one is above it
pub record IsFound (c : ℕ → Ordering) (keys : List ℕ) (slot : ℕ) : Type 0 where
  pub within : slot < length keys
  pub equal : c (slice_index keys slot) ≡ Equal

pub record IsLacking (c : ℕ → Ordering) (keys : List ℕ) (slot : ℕ) : Type 0 where
  pub above : slot < length keys → c (slice_index keys slot) ≡ Greater

-- the slot, above the leaves, under which a key is sought: the last if all keys are below it
pub record IsPlace (c : ℕ → Ordering) (keys : List ℕ) (place : ℕ) : Type 0 where
  pub within : place < length keys
  pub before : (j : ℕ) → j < place → c (slice_index keys j) ≡ Less
  pub at : (c (slice_index keys place) ≢ Less) ⊎ (suc place ≡ length keys)
