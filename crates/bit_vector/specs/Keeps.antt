-- The blocks of a bit vector by their numbers.
use Rattle.std.specs.Prelude.{◌≡◌, ℕ, Option, Some}
use Rattle.std.specs.Ordering.{nat_cmp}
use Rattle.entry_ref.specs.Records.{Records}
use Rattle.tree_read.specs.Pairs.{lookup}
use Rattle.tree_read.specs.Trees.{tree_pairs}

-- the record of a block, if a bit vector has the block
abbrev pub block_at : Records → ℕ → ℕ → Option ℕ
block_at m root k = lookup (λ stored. nat_cmp stored k) (tree_pairs m root)

-- a block whose record is old was this block before
pub record KeepsBlocks (IsOld : ℕ → Type 0) (m n : Records) (root next : ℕ) : Type 0 where
  pub each : (k r : ℕ) → block_at n next k ≡ Some r → IsOld r → block_at m root k ≡ Some r
