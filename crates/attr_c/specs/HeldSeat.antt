-- How a handle changes when its content is written.
use base.Fml.{Fml}
use denote.Ref.{MutBor}
use denote.Follow.{follows}
use Rattle.attr_c.specs.declared.seat.Seat.{Seat}
use Rattle.attr_c.specs.declared.handles.HeldSeat.{HeldSeat}
use Rattle.attr_c.specs.contracts.handles.HeldSeat.{the_row as held_row}
use Rattle.attr_c.specs.contracts.seat.Seat.{the_row as engine_row}

abbrev pub with_value : HeldSeat → Seat → HeldSeat
with_value h x = record h { value = x }

-- once the borrow r ends, the handle behind h holds the last value written through r
abbrev pub held_seat_follows : MutBor HeldSeat → MutBor Seat → Fml
held_seat_follows h r = follows held_row engine_row h.ghost_name r.ghost_name (with_value h.now)
