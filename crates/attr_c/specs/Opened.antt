-- What C's variable for the pointer of a new engine or seat owns: a box, once a call has written one.
use base.Fml.{Fml, ftrue}
use denote.RawPtr.{Ptr}
use Rattle.std.specs.Prelude.{Option, Some, None}
use Rattle.std.specs.Box.Ownership.{box_owns}
use Rattle.std.specs.declared.alloc.Global.{Global}
use Rattle.attr_c.specs.Heap.{token}
use Rattle.attr_c.specs.declared.seat.Seat.{Seat}
use Rattle.attr_c.specs.declared.state.Engine.{Engine}
use Rattle.attr_c.specs.contracts.seat.Seat.{the_row as seat_row}
use Rattle.attr_c.specs.contracts.state.Engine.{the_row as engine_row}

abbrev pub opened_engine_owns : Global → Ptr → Option Engine → Fml
opened_engine_owns heap at None = ftrue
opened_engine_owns heap at (Some engine) = box_owns (token heap) engine_row at engine

abbrev pub opened_seat_owns : Global → Ptr → Option Seat → Fml
opened_seat_owns heap at None = ftrue
opened_seat_owns heap at (Some seat) = box_owns (token heap) seat_row at seat
