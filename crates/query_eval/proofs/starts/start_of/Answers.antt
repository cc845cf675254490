use Rattle.query_eval.proofs.PartLemmas.{first_run}
use Rattle.query_eval.proofs.starts.start_of.Goals as goal

pub returns-in-None-clause-part : goal.returns-in-None-clause-part
returns-in-None-clause-part g c =
    first_run c.args.value_type (g.F.Frozen.records c.args.frozen.now) c.args.root c.requires c.args.leaf.now _ c.first.ensures.pairs

pub returns-in-Below-clause-part : goal.returns-in-Below-clause-part
returns-in-Below-clause-part g c =
    first_run c.args.value_type (g.F.Frozen.records c.args.frozen.now) c.args.root c.requires c.args.leaf.now _ c.first-in-Below.ensures.pairs
