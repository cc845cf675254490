use Rattle.attr_io.specs.Bytes.{piece_bytes}
use Rattle.attr_io.proofs.ReadLemmas.{reads_none}
use Rattle.attr_io.proofs.reading.read_all.Goals as goal

-- no memory for a piece, so nothing was read
pub returns-in_err-piece-clause-pieces : goal.returns-in_err-piece-clause-pieces
returns-in_err-piece-clause-pieces g c = reads_none c.args.limit piece_bytes (g.S.Source.left c.args.source.now) (g.S.Source.reads c.args.source.now)
