-- Pairs of a tree on whose ways no node lies in a buffer.
use Rattle.std.specs.Prelude.{◌≡◌, ◌≢◌, ℕ, ◌<◌, Bool, true, false, List}
use Rattle.std.specs.declared.cmp.Ordering.{Ordering}
use Rattle.std.specs.declared.cmp.Ordering.TheVariants.{Equal}
use Rattle.entry_ref.specs.Records.{Records}
use Rattle.tree_read.specs.Keys.{seen_by}
use Rattle.tree_read.specs.Pairs.{seek}
use Rattle.tree_read.specs.SearchPlaces.{first_key}
use Rattle.frozen_btree.specs.Paths.{path_below, path_nodes, NoneIn}
use Rattle.compaction_steps.specs.Sights.{IsRun}

-- no node on the way to a pair's key lies in the buffer: from a node of a level down, or in a tree
abbrev pub IsWayBelow : {V : Type 0} → ℕ → ℕ → (V → V → Ordering) → (Records → ℕ → V) → Records → ℕ → ℕ → ℕ × ℕ → Type 0
IsWayBelow bits buffer order read m level ref p = NoneIn bits buffer (path_below m (seen_by read order (read m p.0) m) level ref)

abbrev pub IsWayApart : {V : Type 0} → ℕ → ℕ → (V → V → Ordering) → (Records → ℕ → V) → Records → ℕ → ℕ × ℕ → Type 0
IsWayApart bits buffer order read m root p = NoneIn bits buffer (path_nodes m (seen_by read order (read m p.0) m) root)

-- the first `count` pairs that are not below a key have the property, and `found` says whether the first of them is
-- at the key
pub record IsWay (P : ℕ × ℕ → Type 0) (c : ℕ → Ordering) (pairs : List (ℕ × ℕ)) (count last : ℕ) (found : Bool) : Type 0 where
  pub run : IsRun P (seek c pairs) count last
  pub at : found ≡ true → (0 < count) × (c (first_key (seek c pairs)) ≡ Equal)
  pub past : found ≡ false → 0 < count → c (first_key (seek c pairs)) ≢ Equal
