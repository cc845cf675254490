use Rattle.std.proofs.Common.{◌≡◌, ◌≤◌, ◌*◌, ◌^◌, ◌+ℤ◌, drop}
use Rattle.std.specs.Int.RustNames.{unsigned_abs}
use Rattle.query_eval.specs.PartLists.{score_in_lists, AreListParts}
use Rattle.query_eval.proofs.parts.score_at.Given as goal

-- the sum so far and that of the lists that are left are the whole; each list adds 2 ^ 62 at most
abbrev pub invariant-loop-part : goal.invariant-loop-part
invariant-loop-part g l =
    let m = g.F.Frozen.records l.fn.frozen in
    record {
      same : l.frozen ≡ l.fn.frozen;
      left : AreListParts m (drop l.part-index l.lists);
      whole : l.score +ℤ score_in_lists m (drop l.part-index l.lists) l.doc ≡ score_in_lists m l.lists l.doc;
      bound : unsigned_abs l.score ≤ l.part-index * 2 ^ 62;
    }
