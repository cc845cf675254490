use Rattle.std.proofs.Common.{◌≡◌, drop}
use Rattle.tree_read.specs.SearchPlaces.{pairs_from, IsAt}
use Rattle.compaction_steps.specs.Sights.{StandsApart, IsRun}
use Rattle.compaction_steps.proofs.runs.run_from.Given as goal

-- a run so far, and the pairs behind it
abbrev pub invariant-loop-pairs : goal.invariant-loop-pairs
invariant-loop-pairs g l =
    let m = g.F.Frozen.records l.fn.frozen in
    record {
      same : l.frozen ≡ l.fn.frozen;
      at : IsAt m l.cursor;
      rest : pairs_from m l.cursor ≡ drop l.pairs (pairs_from m l.fn.cursor);
      run : IsRun (StandsApart g.row.OFFSET_BITS l.buffer l.kind m l.sight) (pairs_from m l.fn.cursor) l.pairs l.last;
    }
