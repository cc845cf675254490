use Rattle.std.proofs.Common.{◌≡◌, ◌≤◌}
use Rattle.std.specs.Prelude.{take}
use Rattle.attr_loader.specs.Batches.{AddsSteps, AppliesAll}
use Rattle.attr_loader.specs.Room.{after_values, values_of}
use Rattle.attr_loader.proofs.batch.apply_all.Given as goal

abbrev pub invariant-loop-op : goal.invariant-loop-op
invariant-loop-op g l = record {
  applies : AppliesAll g.S.Store.ledger l.fn.attribute l.attribute (take l.op-index l.fn.ops) l.skipped;
  done : l.done ≡ l.op-index;
  few : l.skipped ≤ l.op-index;
  plan : l.attribute.plan ≡ l.fn.attribute.plan;
  room : AddsSteps g.S.Store.ledger l.fn.attribute l.attribute (λ steps. after_values steps (values_of l.fn.attribute.fields l.fn.attribute.table (take l.op-index l.fn.ops)));
}
