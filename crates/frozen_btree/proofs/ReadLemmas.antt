-- Nodes that were read as slots.
use Rattle.std.proofs.Common.{◌≡◌, ℕ, ◌-◌, ◌<◌, List, length, get_or, sym, subst, ◌∙◌, arith}
use Rattle.entry_ref.specs.Records.{Records}
use Rattle.tree_read.proofs.TreeLemmas.{IsNode-form}
use Rattle.tree_read.specs.Nodes.{level_of, node_keys, node_values}
use Rattle.tree_read.specs.Trees.{IsNode}
use Rattle.tree_read.proofs.SlotLemmas.{hand-node, pairs-slots, nodes-slots}
use Rattle.tree_read.proofs.CountLemmas.{child_at}
use Rattle.tree_read.specs.Slots.{IsInHand}
use Rattle.frozen_btree.specs.Removes.{IsChild}
use Rattle.tree_read.proofs.ReadLemmas.{node-room, node-level, node-even}
use Rattle.tree_read.proofs.ChildLemmas.{keys-length}

-- at the level and with the slots that were read
pub child-read : (m : Records) (level ref : ℕ) → IsNode m 8 level ref → (level_is : ℕ) (keys values : List ℕ)
    → level_is ≡ level_of (m ref) → keys ≡ node_keys (m ref) → values ≡ node_values (m ref) → IsChild m level_is ref keys values
child-read m level ref node level_is keys values e f g =
    subst (λ l. IsChild m l ref keys values) (sym (e ∙ node-level m 8 level ref node))
    (subst (λ ks. IsChild m level ref ks values) (sym f)
    (subst (λ vs. IsChild m level ref (node_keys (m ref)) vs) (sym g)
    (record {
      hand = hand-node m 8 level ref node (node-even m 8 level ref node);
      pairs_are = pairs-slots m level ref;
      nodes_are = nodes-slots m level ref;
      least = let size = keys-length m 8 level ref node in let filled = (IsNode-form m 8 level ref node).filled in omega arith;
      room = let size = keys-length m 8 level ref node in let room = node-room m 8 level ref node in omega arith;
    })))

-- a child of slots in hand
pub child-node : (m : Records) (level : ℕ) (keys values : List ℕ) (place : ℕ) → 0 < level → IsInHand m level keys values → place < length keys
    → IsNode m 8 (level - 1) (get_or values place 0)
child-node m level keys values place inner hand low =
    child_at m keys values place (let even = hand.even in omega arith) level (λ e. absurd (omega arith)) hand
