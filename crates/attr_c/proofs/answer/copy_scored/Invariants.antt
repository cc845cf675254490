use Rattle.std.proofs.Common.{◌≡◌, length, map, take, drop}
use Rattle.attr_c.specs.Copies.{score_told}
use Rattle.attr_c.proofs.answer.copy_scored.Given as goal

abbrev pub invariant-loop-i : goal.invariant-loop-i
invariant-loop-i l = record { front : take l.i l.into ≡ take l.i (map score_told l.scores); rest : drop l.i l.into ≡ drop l.i l.fn.into; long : length l.into ≡ length l.fn.into }
