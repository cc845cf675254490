use Rattle.std.proofs.Common.{◌≡◌, ◌-◌}
use Rattle.query_results.specs.Walks.{IsBefore}
use Rattle.query_results.proofs.walks.pass_near.Given as goal

abbrev pub invariant-loop-steps : goal.invariant-loop-steps
invariant-loop-steps g l =
    let m = g.F.Frozen.records l.fn.frozen in
    record {
      same : l.frozen ≡ l.fn.frozen;
      before : IsBefore m l.fn.root l.doc l.cursor;
    }

abbrev pub decreases-loop-steps : goal.decreases-loop-steps
decreases-loop-steps g l = 16 - l.steps
