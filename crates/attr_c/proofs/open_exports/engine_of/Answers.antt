use Rattle.std.proofs.Common.{ap}
use Rattle.std.proofs.lemmas.Result.{IfOk-weaker}
use Rattle.attr_c.specs.declared.state.Engine.{Engine}
use Rattle.attr_c.proofs.open_exports.engine_of.Goals as goal

pub returns-clause-made : goal.returns-clause-made
returns-clause-made c = IfOk-weaker c.boxed.result _ _ (λ engine is. ap (λ (e : Engine). e.inner) is) c.boxed.ensures.made
