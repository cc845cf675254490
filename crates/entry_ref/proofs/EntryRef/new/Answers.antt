use Rattle.std.proofs.Common.{rules}
use Rattle.entry_ref.proofs.Bits.{packed-small}
use Rattle.entry_ref.proofs.EntryRef.new.Goals as goal

pub overflow_cast-result : goal.overflow_cast-result
overflow_cast-result g c =
    let small = packed-small g.row.OFFSET_BITS c.args.offset c.args.buffer (search rules) c.requires.offset c.requires.buffer in
    rw (c.buffers.ensures) (search rules)
