-- Unused slots.
use Rattle.std.specs.Prelude.{◌≡◌, ℕ, ◌+◌, ◌<◌, ◌≤◌, List, slice_index}
use Rattle.tree_read.specs.declared.node_format.TheConstants.{FIRST_KEY, FIRST_VALUE}

-- the words of the slots from `used` to below `end` are 0
abbrev pub AreZero : List ℕ → ℕ → ℕ → Type 0
AreZero ws used end = (i : ℕ) → used ≤ i → i < end → (slice_index ws (FIRST_KEY + i) ≡ 0) × (slice_index ws (FIRST_VALUE + i) ≡ 0)
