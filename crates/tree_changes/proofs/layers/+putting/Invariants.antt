use Rattle.std.proofs.Common.{ℕ, ◌≤◌, ◌+◌, ◌*◌, ◌≡◌, List, length, take}
use Rattle.store_api.specs.Parts.{uses}
use Rattle.store_api.specs.Units.{MayDo}
use Rattle.tree_read.specs.Trees.{Keeps}
use Rattle.tree_read.specs.Slots.{slot_pairs, slot_nodes}
use Rattle.tree_changes.specs.Layers.{TurnsRows}
use Rattle.tree_changes.specs.Counts.{FitBudgets, SpendsRows}
use Rattle.tree_changes.proofs.layers.+putting.Given as goal

abbrev pub decreases-put_behind : goal.decreases-put_behind
decreases-put_behind g l = 2 * l.level

abbrev pub decreases-put_slots : goal.decreases-put_slots
decreases-put_slots g l = 2 * l.level + 1

abbrev pub invariant-put_slots-loop-slot : goal.invariant-put_slots-loop-slot
invariant-put_slots-loop-slot g l =
    let ledger = g.S.Store.ledger in
    let records = g.S.Frozen.records in
    record {
      turns : TurnsRows (ledger l.fn.store) (ledger l.store) (records l.fn.store) (records l.store) 0 l.fn.rows l.rows
          (slot_pairs (records l.fn.store) l.level (take l.slot l.keys) (take l.slot l.values))
          (slot_nodes (records l.fn.store) l.level (take l.slot l.values)) l.fn.replaced.items l.replaced.items;
      keeps : Keeps (records l.fn.store) (records l.store);
      stays : (r : ℕ) → uses (ledger l.fn.store) r ≤ uses (ledger l.store) r;
      may : MayDo (ledger l.fn.store) (ledger l.store);
      spends : (budgets : List ℕ) → length budgets ≡ l.level → FitBudgets 0 budgets l.fn.rows → SpendsRows (ledger l.fn.store) (ledger l.store) l.slot 0 budgets l.fn.rows l.rows;
    }
