use Rattle.std.proofs.Common.{◌≡◌, ◌-◌, length}
use Rattle.query_text.specs.Dot.{parts_front}
use Rattle.query_text.proofs.PartLemmas.{after_parts}
use Rattle.query_text.proofs.dot.read.parts_up_to_end.Given as goal

abbrev pub invariant-loop-count : goal.invariant-loop-count
invariant-loop-count l =
    after_parts l.parts (parts_front (length l.bytes - l._count) l.rest) ≡ parts_front (length l.bytes) l.bytes
