-- What is owned is in use: a record of a part, and the root of a tree.
use Rattle.std.proofs.Common.{◌≡◌, ℕ, zero, suc, ◌<◌, [], ◌∷◌, length, inl, refl, arith}
use Rattle.entry_ref.specs.Records.{Among, Records}
use Rattle.store_api.specs.Calls.{IsUsedWidth}
use Rattle.store_api.specs.Ledgers.{Ledger}
use Rattle.store_api.specs.Parts.{Owns, Part}
use Rattle.store_api.proofs.Times.{all_at_times, among-times}
use Rattle.store_api.proofs.Uses.{in-uses}
use Rattle.tree_read.specs.Trees.{nodes_below, root_level, tree_nodes, IsRootNode}
use Rattle.frozen_btree.specs.Changes.{tree}
use Rattle.frozen_btree.proofs.ChangeLemmas.{tree-wide}

pub used_at : {H : Type 0} (a : Ledger H) (m : Records) (part : Part) (r width : ℕ) → Owns a m (part ∷ []) → Among r (part.reach m) → length (m r) ≡ width → IsUsedWidth a m width
used_at a m part r width owns among size = record {
  ref = r;
  used = (let some = among-times r (part.reach m) among in let each = owns.each r in in-uses a r (omega arith));
  length_is = size;
}

root_among : (m : Records) (level ref : ℕ) → Among ref (nodes_below m level ref)
unfolding nodes_below
root_among m zero ref = inl refl
root_among m (suc level) ref = inl refl

tree_among : (m : Records) (root : ℕ) → 0 < root → Among root (tree_nodes m root)
tree_among m zero some = absurd (omega arith)
tree_among m (suc ref) some = root_among m (root_level m (suc ref)) (suc ref)

pub node_used : {H : Type 0} (a : Ledger H) (m : Records) (root : ℕ) → (0 < root → IsRootNode m root) → 0 < root → Owns a m (tree root ∷ []) → IsUsedWidth a m 34
node_used a m root node some owns =
    let among = tree_among m root some in
    used_at a m (tree root) root 34 owns among (all_at_times (λ q. length (m q) ≡ 34) (tree_nodes m root) (tree-wide m root node) root (among-times root (tree_nodes m root) among))
