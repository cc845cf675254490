use Rattle.std.proofs.Common.{rules}
use Rattle.entry_ref.proofs.Bits.{offset-small}
use Rattle.entry_ref.proofs.EntryRef.offset.Goals as goal

pub returns-clause-limit : goal.returns-clause-limit
returns-clause-limit g c = rw (c.buffers.ensures) (offset-small g.row.OFFSET_BITS c.self.inside.raw (search rules))
