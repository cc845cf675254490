use Rattle.compaction_moves.proofs.IndexLeaves.{leaves_buffer}
use Rattle.compaction_moves.proofs.index.leaves_law.Goals as goal

pub returns : goal.returns
returns g c victim s t sealed begun may =
    leaves_buffer g.row.OFFSET_BITS victim (g.S.Store.ledger s) (g.S.Store.ledger t) (g.S.Frozen.records s) (g.S.Frozen.records t) (g.met.S.Store.sized t) sealed begun may
    (g.met.S.Store.steady s) (g.met.S.Store.steady t)
