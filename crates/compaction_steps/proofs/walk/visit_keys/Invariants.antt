use Rattle.std.proofs.Common.{◌≡◌, ◌+◌, ◌-◌, ◌≤◌, length}
use Rattle.attr_operations.specs.Fields.{trees_of}
use Rattle.attr_operations.specs.Views.{table_at}
use Rattle.compaction_steps.specs.Counts.{MakesKeys}
use Rattle.compaction_steps.specs.Units.{ArePlain}
use Rattle.compaction_steps.specs.Walks.{Visits}
use Rattle.compaction_steps.proofs.WalkLemmas.{stages_left}
use Rattle.compaction_steps.proofs.walk.visit_keys.Given as goal

-- so many keys were visited; before the first one nothing was changed but the plan
abbrev pub invariant-loop-done : goal.invariant-loop-done
invariant-loop-done g l =
    let ledger = g.S.Store.ledger in
    let records = g.S.Frozen.records in
    record {
      sized : length l.roots ≡ length l.fields;
      few : l.done ≤ l.keys;
      visits : Visits g.row.OFFSET_BITS l.root (ledger l.fn.store) (ledger l.store) (records l.fn.store) (records l.store) l.fields (trees_of l.fields l.fn.roots) (trees_of l.fields l.roots)
          l.fn.plan l.plan l.done;
      counts : MakesKeys (ArePlain (records l.fn.store) (trees_of l.fields l.fn.roots)) l.fields (table_at (records l.fn.store) (trees_of l.fields l.fn.roots)) (ledger l.fn.store) (ledger l.store) l.done;
      first : l.done ≡ 0 → (l.store ≡ l.fn.store) × (l.roots ≡ l.fn.roots);
    }

abbrev pub decreases-loop-done : goal.decreases-loop-done
decreases-loop-done g l = (l.keys - l.done) + stages_left l.plan
