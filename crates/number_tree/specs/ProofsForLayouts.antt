-- Proofs of the laws of the layout. They are in specs/ since an impl takes its laws only from there; they are not
-- part of the specification.
use Rattle.std.proofs.Common.{◌≡◌, ℕ, [], refl, arith}
use Rattle.std.specs.List.Sorted.{IsStrictlySortedBy}
use Rattle.std.specs.Ordering.{nat_cmp}
use Rattle.entry_ref.specs.Records.{Records, SameAt, AllThere}
use Rattle.tree_read.specs.ProofsForTrees.{tree_nodes-same, IsTree-same, tree_there}
use Rattle.tree_read.specs.Trees.{by_number}
use Rattle.number_tree.specs.Layouts.{tree_reaches, tree_lawful}

pub tree_empty_reaches : (shape : ℕ) (m : Records) → tree_reaches shape m 0 ≡ []
tree_empty_reaches shape m = refl

pub tree_empty_lawful : (shape : ℕ) (m : Records) → tree_lawful shape m 0
unfolding IsStrictlySortedBy
tree_empty_lawful shape m = record { node = λ some. absurd (omega arith); ascends = tt }

pub tree_present : (shape : ℕ) (m : Records) (root : ℕ) → tree_lawful shape m root → AllThere (tree_reaches shape m root) m
tree_present shape m root tree = tree_there m root tree.node

pub tree_stays : (shape : ℕ) (m n : Records) (root : ℕ) → SameAt (tree_reaches shape m root) m n → tree_lawful shape m root
    → tree_lawful shape n root × (tree_reaches shape n root ≡ tree_reaches shape m root)
tree_stays shape m n root same tree =
    (IsTree-same nat_cmp by_number m n root same refl tree, tree_nodes-same m n root same)
