use Rattle.std.proofs.Common.{◌≡◌, ◌≤◌, ◌*◌, ◌^◌, drop, ◌+ℤ◌}
use Rattle.std.specs.Int.RustNames.{unsigned_abs}
use Rattle.attr_types.specs.Scores.{score_of}
use Rattle.attr_types.proofs.score.score_in.Given as goal

-- the sum so far and that of the parts that are left are the whole; each part adds 2 ^ 62 at most
abbrev pub invariant-loop-part : goal.invariant-loop-part
invariant-loop-part l = record {
  whole : l.score +ℤ score_of (drop l.part-index l.parts) l.items ≡ score_of l.parts l.items;
  bound : unsigned_abs l.score ≤ l.part-index * 2 ^ 62;
}
