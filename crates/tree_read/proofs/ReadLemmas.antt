-- A node that was read, as slots.
use Rattle.std.proofs.Common.{◌≡◌, ℕ, suc, ◌∷◌, ◌≤◌, List, length, sym, ap, subst, ◌∙◌}
use Rattle.std.specs.List.{zip, flat_map, AllByRecursion}
use Rattle.entry_ref.specs.Records.{Records}
use Rattle.tree_read.proofs.TreeLemmas.{IsNode-form, length-node_values}
use Rattle.tree_read.specs.Nodes.{level_of, used_of, node_keys, node_values}
use Rattle.tree_read.specs.Trees.{pairs_below, nodes_below, IsNode}
use Rattle.tree_read.proofs.ChildLemmas.{keys-length}
use Rattle.tree_read.proofs.NodeKeyLemmas.{keys_all}
use Rattle.tree_read.proofs.SlotLemmas.{slot_pairs-leaf, slot_pairs-inner, slot_nodes-inner, hand-node, pairs-slots, nodes-slots}
use Rattle.tree_read.specs.Slots.{IsInHand}

module _ (m : Records) (least level ref : ℕ) (node : IsNode m least level ref) where
  pub node-size : length (m ref) ≡ 34
  node-size = (IsNode-form m least level ref node).size

  pub node-room : used_of (m ref) ≤ 16
  node-room = (IsNode-form m least level ref node).room

  pub node-level : level_of (m ref) ≡ level
  node-level = (IsNode-form m least level ref node).at_level

  pub node-even : length (node_keys (m ref)) ≡ length (node_values (m ref))
  node-even = keys-length m least level ref node ∙ sym (length-node_values level least (m ref) (IsNode-form m least level ref node))

  pub hand-read : IsInHand m level (node_keys (m ref)) (node_values (m ref))
  hand-read = hand-node m least level ref node node-even

  -- what holds of the key of each pair below holds of the slots' keys
  pub node-keys-all : (P : ℕ → Type 0) → AllByRecursion (λ p. P p.0) (pairs_below m level ref) → AllByRecursion P (node_keys (m ref))
  node-keys-all P all =
      keys_all P m level (node_keys (m ref)) (node_values (m ref)) hand-read
      (subst (AllByRecursion (λ (p : ℕ × ℕ). P p.0)) (pairs-slots m level ref) all)

pub leaf-pairs : (m : Records) (node : ℕ) (keys values : List ℕ) → keys ≡ node_keys (m node) → values ≡ node_values (m node) → pairs_below m 0 node ≡ zip keys values
leaf-pairs m node keys values e f =
    pairs-slots m 0 node ∙ slot_pairs-leaf m (node_keys (m node)) (node_values (m node))
    ∙ ap (λ ks. zip ks (node_values (m node))) (sym e) ∙ ap (zip keys) (sym f)

pub inner-pairs : (m : Records) (l node : ℕ) → pairs_below m (suc l) node ≡ flat_map (pairs_below m l) (node_values (m node))
inner-pairs m l node = pairs-slots m (suc l) node ∙ slot_pairs-inner m l (node_keys (m node)) (node_values (m node))

pub inner-nodes : (m : Records) (l node : ℕ) → nodes_below m (suc l) node ≡ node ∷ flat_map (nodes_below m l) (node_values (m node))
inner-nodes m l node = nodes-slots m (suc l) node ∙ ap (λ qs. node ∷ qs) (slot_nodes-inner m l (node_values (m node)))
