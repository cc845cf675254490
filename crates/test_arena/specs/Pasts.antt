-- What the writer of a row knows of its steps so far.
use Rattle.std.specs.Prelude.{IfSome}
use Rattle.arena_api.specs.Works.{WorkView}
use Rattle.arena_api.specs.Generations.{MayRetire}
use Rattle.test_kit.specs.Turns.{IsActive}
use Rattle.test_arena.specs.declared.writing.Past.{Past}

-- the buffer of the last node is active, and the claimed buffer may be put on hold
pub record IsOfPast {H : Type 0} (work : WorkView H) (p : Past) : Type 0 where
  pub active : IfSome p.node (IsActive work)
  pub clear : IfSome p.claimed (MayRetire 22 work)
