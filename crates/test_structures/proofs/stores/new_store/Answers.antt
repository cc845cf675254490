use Rattle.std.proofs.Common.{sym, subst, arith}
use Rattle.arena_api.specs.Calls.{IsFresh}
use Rattle.entry_store.proofs.Fresh.{opened-fresh}
use Rattle.test_structures.proofs.stores.new_store.Goals as goal

pub create-requires-2 : goal.create-requires-2
create-requires-2 g c = (omega arith, subst IsFresh (sym c.in_ok-work.ensures.knows) (opened-fresh _ _ _))
