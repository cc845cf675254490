use Rattle.std.proofs.Common.{◌≡◌, ℕ, ◌≤◌, ◌+◌, ◌*◌, List, length, take, drop}
use Rattle.store_api.specs.Parts.{uses}
use Rattle.store_api.specs.Units.{MayDo}
use Rattle.tree_read.specs.Trees.{Keeps}
use Rattle.tree_read.specs.Slots.{slot_pairs, slot_nodes}
use Rattle.tree_changes.specs.Layers.{seen_changes}
use Rattle.tree_changes.specs.Counts.{FitBudgets, SpendsSlots}
use Rattle.tree_changes.proofs.ChangeBelowLemmas.{GoesOn}
use Rattle.tree_changes.proofs.change_below.+changing.Given as goal

abbrev pub decreases-change_child : goal.decreases-change_child
decreases-change_child g l = 3 * l.level

abbrev pub decreases-change_slots : goal.decreases-change_slots
decreases-change_slots g l = 3 * l.level + 1

abbrev pub decreases-change_below : goal.decreases-change_below
decreases-change_below g l = 3 * l.level + 2

abbrev pub invariant-change_slots-loop-slot : goal.invariant-change_slots-loop-slot
invariant-change_slots-loop-slot g l =
    let ledger = g.S.Store.ledger in
    let records = g.S.Frozen.records in
    let k = g.K.KeyOrder in
    let m = records l.fn.store in
    let keys = l.slots.keys.items in
    let values = l.slots.values.items in
    let all = seen_changes k.read k.order (λ change. k.sought change.key) (λ change. change.pair) m l.changes in
    let left = seen_changes k.read k.order (λ change. k.sought change.key) (λ change. change.pair) m (drop l.first l.changes) in
    record {
      goes : GoesOn (ledger l.fn.store) (ledger l.store) m (records l.store) l.fn.rows l.rows all left
          (slot_pairs m l.level keys values) (slot_pairs m l.level (drop l.slot keys) (drop l.slot values)) (slot_nodes m l.level (take l.slot values))
          l.fn.replaced.items l.replaced.items;
      within : l.first ≤ length l.changes;
      last : l.slot ≡ length keys → l.first ≡ length l.changes;
      keeps : Keeps m (records l.store);
      stays : (r : ℕ) → uses (ledger l.fn.store) r ≤ uses (ledger l.store) r;
      may : MayDo (ledger l.fn.store) (ledger l.store);
      spends : (budgets : List ℕ) → length budgets ≡ l.level → FitBudgets 0 budgets l.fn.rows → SpendsSlots (ledger l.fn.store) (ledger l.store) l.slot l.first budgets l.fn.rows l.rows;
    }
