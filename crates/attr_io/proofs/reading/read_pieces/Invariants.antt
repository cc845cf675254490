use Rattle.std.proofs.Common.{◌≡◌, ◌≤◌, ◌+◌, ◌-◌, length, vec_len}
use Rattle.attr_io.specs.Bytes.{ReadsPieces}
use Rattle.attr_io.proofs.ReadLemmas.{TakesPieces}
use Rattle.attr_io.proofs.reading.read_pieces.Given as goal

-- what is kept is what the source gave, one piece past the limit at most; no read failed, and each so
-- far took a byte at least
abbrev pub invariant-loop-source : goal.invariant-loop-source
invariant-loop-source g l = record {
  takes : TakesPieces l.bytes.items (g.S.Source.left l.initial.source) (g.S.Source.left l.source) (g.S.Source.reads l.initial.source) (g.S.Source.reads l.source);
  reads : ReadsPieces l.limit (length l.piece) (g.S.Source.left l.initial.source) (g.S.Source.left l.source) (g.S.Source.reads l.initial.source) (g.S.Source.reads l.source);
  kept : g.S.Source.faults l.source ≡ g.S.Source.faults l.initial.source;
  within : vec_len l.bytes ≤ l.limit + length l.piece;
}

abbrev pub decreases-loop-source : goal.decreases-loop-source
decreases-loop-source g l = l.limit + 1 - vec_len l.bytes
