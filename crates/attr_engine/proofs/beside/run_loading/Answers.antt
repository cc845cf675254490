use Rattle.std.proofs.Common.{subst}
use Rattle.std.specs.Prelude.{IfOk}
use Rattle.attr_loader.specs.Loading.{Loads}
use Rattle.attr_engine.proofs.beside.run_loading.Goals as goal

pub returns-in-Ok-clause-loads : goal.returns-in-Ok-clause-loads
returns-in-Ok-clause-loads g c =
    subst (λ r. IfOk r (λ p. Loads g.S.Store.ledger c.args.loading.batch c.args.loading.ops.now c.args.loading.attribute p.0 p.1)) c.in-Ok.is c.in_ok-given.ensures.first.0

pub returns-in-Ok-clause-others : goal.returns-in-Ok-clause-others
returns-in-Ok-clause-others g c = c.in_ok-given.ensures.others

pub returns-in-Ok-clause-saver : goal.returns-in-Ok-clause-saver
returns-in-Ok-clause-saver g c = c.in_ok-given.ensures.saver
