use Rattle.std.proofs.Common.{◌≡◌, drop, false}
use Rattle.query_text.specs.Reading.{bytes_front}
use Rattle.query_text.proofs.ReadingLemmas.{after_front}
use Rattle.query_text.proofs.read.bytes_in.Given as goal

abbrev pub invariant-loop-i : goal.invariant-loop-i
invariant-loop-i l = after_front l.found.items (bytes_front l.escaped (drop l.i l.bytes)) ≡ bytes_front false l.bytes
