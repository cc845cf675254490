use Rattle.std.proofs.lemmas.Result.{IfErr-weaker}
use Rattle.attr_c.proofs.OpenLemmas.{refuses_memory}
use Rattle.attr_c.proofs.open_exports.new_engine.Goals as goal

pub returns-clause-refused : goal.returns-clause-refused
returns-clause-refused c =
    IfErr-weaker c.engine_of.result _ _ (refuses_memory c.args.text.now c.args.sizes.now c.args.place.now) c.engine_of.ensures.memory
