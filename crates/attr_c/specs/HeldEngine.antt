-- How a handle changes when its content is written.
use base.Fml.{Fml}
use denote.Ref.{MutBor}
use denote.Follow.{follows}
use Rattle.attr_c.specs.declared.state.Engine.{Engine}
use Rattle.attr_c.specs.declared.handles.HeldEngine.{HeldEngine}
use Rattle.attr_c.specs.contracts.handles.HeldEngine.{the_row as held_row}
use Rattle.attr_c.specs.contracts.state.Engine.{the_row as engine_row}

abbrev pub with_value : HeldEngine → Engine → HeldEngine
with_value h x = record h { value = x }

-- once the borrow r ends, the handle behind h holds the last value written through r
abbrev pub held_engine_follows : MutBor HeldEngine → MutBor Engine → Fml
held_engine_follows h r = follows held_row engine_row h.ghost_name r.ghost_name (with_value h.now)
