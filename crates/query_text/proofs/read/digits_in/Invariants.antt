use Rattle.std.proofs.Common.{◌≡◌, drop}
use Rattle.query_text.specs.Reading.{digits_front}
use Rattle.query_text.proofs.read.digits_in.Given as goal

abbrev pub invariant-loop-i : goal.invariant-loop-i
invariant-loop-i l = digits_front l.size (drop l.i l.bytes) ≡ digits_front 0 l.bytes
