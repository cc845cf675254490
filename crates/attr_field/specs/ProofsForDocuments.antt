-- Proof that what documents own stays the same while these records do. It is in specs/ since a part cites it, and is
-- not part of the specification.
use Rattle.std.proofs.Common.{◌≡◌, ℕ, List, ◌++◌, ap, ◌∙◌}
use Rattle.std.specs.List.{flat_map}
use Rattle.entry_ref.specs.Records.{Records, SameAt}
use Rattle.tree_read.specs.ProofsForTrees.{SameAt-left, tree_pairs-same, tree_nodes-same}
use Rattle.tree_read.specs.Trees.{tree_nodes, tree_pairs}

pub owned-same : (own : ℕ → List ℕ) (m n : Records) (root : ℕ)
    → SameAt (tree_nodes m root ++ flat_map (λ p. own p.1) (tree_pairs m root)) m n
    → tree_nodes n root ++ flat_map (λ p. own p.1) (tree_pairs n root) ≡ tree_nodes m root ++ flat_map (λ p. own p.1) (tree_pairs m root)
owned-same own m n root same =
    let nodes = SameAt-left m n (tree_nodes m root) (flat_map (λ p. own p.1) (tree_pairs m root)) same in
    ap (λ rs. rs ++ flat_map (λ p. own p.1) (tree_pairs n root)) (tree_nodes-same m n root nodes)
    ∙ ap (λ ps. tree_nodes m root ++ flat_map (λ p. own p.1) ps) (tree_pairs-same m n root nodes)
