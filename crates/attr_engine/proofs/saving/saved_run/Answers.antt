use Rattle.std.proofs.Common.{◌∙◌, refl, ap, List, map, Vec, Global}
use Rattle.attr_rounds.specs.declared.rounds.Round.{Round}
use Rattle.attr_rounds.specs.declared.asked.Told.{Told}
use Rattle.attr_report.specs.Run.{run_in}
use Rattle.attr_engine.specs.Writing.{operations_of_rounds}
use Rattle.attr_engine.proofs.WritingLemmas.{saved_run_of}
use Rattle.attr_engine.proofs.saving.saved_run.Goals as goal

pub returns : goal.returns
returns c = saved_run_of (run_in c.args._request.now) c.args._ops.now c.args.run_result c.in-Some.save _ c.requires.run_result c.in-Some.is (record {
  loaded = refl;
  full = refl;
  rounds = c.in_ok-rounds.ensures ∙ ap (λ (all_rounds : List (Vec (Round Told) Global)). map (λ r. operations_of_rounds r.items) all_rounds) c.as_slice.ensures.value;
  saved = refl;
  text = refl;
  writer = refl;
})
