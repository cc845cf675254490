-- The keys of a tree: how they are read and compared.
use Rattle.std.specs.Prelude.{ℕ, List, map}
use Rattle.std.specs.declared.cmp.Ordering.{Ordering}
use Rattle.std.specs.List.Sorted.{IsStrictlySortedBy}
use Rattle.std.specs.Ordering.{nat_cmp}
use Rattle.entry_ref.specs.Records.{Records}
use Rattle.tree_read.specs.Trees.{IsTree, by_number}
use Rattle.image_format.specs.Values.{stored_value}
use Rattle.attr_types.specs.Value.{value_cmp}
use Rattle.check_images.specs.declared.keys.Keys.{Keys}
use Rattle.check_images.specs.declared.keys.Keys.TheVariants.{Numbers, Values}

-- compares two stored keys by what they represent
abbrev pub stored_cmp : Keys → Records → ℕ → ℕ → Ordering
stored_cmp Numbers m a b = nat_cmp a b
stored_cmp (Values type) m a b = value_cmp (stored_value type m a) (stored_value type m b)

-- a tree with keys of this kind
abbrev pub IsTreeOf : Keys → Records → ℕ → Type 0
IsTreeOf Numbers m root = IsTree nat_cmp by_number m root
IsTreeOf (Values type) m root = IsTree value_cmp (stored_value type) m root

-- the keys of pairs ascend
abbrev pub PairsAscend : Keys → Records → List (ℕ × ℕ) → Type 0
PairsAscend keys m pairs = IsStrictlySortedBy (stored_cmp keys m) (map (λ (p : ℕ × ℕ). p.0) pairs)
