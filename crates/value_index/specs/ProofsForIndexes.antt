-- Proof that an index stays the same while its records do. It is in specs/ since a part cites it, and is not part of
-- the specification.
use Rattle.std.proofs.Common.{◌≡◌, ℕ, ◌++◌}
use Rattle.entry_ref.specs.Records.{Records, SameAt}
use Rattle.tree_read.specs.Trees.{tree_nodes}
use Rattle.image_format.specs.Postings.{dictionary_reach}
use Rattle.image_format.specs.ProofsForImages.{trees_reach-same}
use Rattle.attr_types.specs.declared.kind.Kind.TheVariants.{Single}
use Rattle.attr_types.specs.declared.kind.ValueType.TheVariants.{Long}

pub index_reach-same : (m n : Records) (root : ℕ) → SameAt (tree_nodes m root ++ dictionary_reach m root) m n
    → tree_nodes n root ++ dictionary_reach n root ≡ tree_nodes m root ++ dictionary_reach m root
index_reach-same m n root same = trees_reach-same Single Long m n 0 root same
