use Rattle.std.proofs.Common.{ap}
use Rattle.atomic_table.specs.Table.{Me}
use Rattle.gen_core.specs.declared.views.View.{View}
use Rattle.word_arena.specs.Ruled.{Slot}
use Rattle.word_arena.proofs.writer.Writer.into_seat.Goals as goal

pub into_badge-requires : goal.into_badge-requires
into_badge-requires g c = ap (λ (m : Me Slot View). m.1) c.args.self.stands.is
