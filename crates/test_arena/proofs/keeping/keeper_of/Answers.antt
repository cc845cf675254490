use Rattle.std.proofs.Common.{refl}
use Rattle.test_arena.proofs.KeepLemmas.{keeps-new}
use Rattle.test_arena.proofs.keeping.keeper_of.Goals as goal

pub invariant_of-result : goal.invariant_of-result
invariant_of-result g c = record { keeps = keeps-new (g.S.Store.ledger c.args.store) (g.S.Frozen.records c.args.store) _ refl refl refl c.requires }
