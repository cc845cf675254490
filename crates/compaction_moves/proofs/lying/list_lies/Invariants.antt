use Rattle.std.proofs.Common.{◌≡◌, map, take}
use Rattle.frozen_btree.specs.Paths.{NoneIn}
use Rattle.image_format.specs.Words.{stored_items}
use Rattle.compaction_moves.proofs.LyingLemmas.{record_of}
use Rattle.compaction_moves.proofs.lying.list_lies.Given as goal

-- the words so far refer to nothing there
abbrev pub invariant-loop-i : goal.invariant-loop-i
invariant-loop-i g l =
    let m = g.F.Frozen.records l.fn.frozen in
    record {
      same : l.frozen ≡ l.fn.frozen;
      so_far : NoneIn g.row.OFFSET_BITS l.buffer (map (record_of l.kind) (take l.i (stored_items (m l.list))));
    }
