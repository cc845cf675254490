use Rattle.std.proofs.Common.{◌≡◌, length, map, take, drop}
use Rattle.attr_types.specs.declared.score.Score.{Score}
use Rattle.attr_c.proofs.answer.copy_scored_docs.Given as goal

abbrev pub invariant-loop-i : goal.invariant-loop-i
invariant-loop-i l = record {
  front : take l.i l.into ≡ take l.i (map (λ (s : Score). s.doc) l.scores);
  rest : drop l.i l.into ≡ drop l.i l.fn.into;
  long : length l.into ≡ length l.fn.into;
}
