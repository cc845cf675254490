use Rattle.std.proofs.Common.{sym, ◌∙◌}
use Rattle.query_eval.proofs.PartLemmas.{type_is, first_run, sought_run, sought_all}
use Rattle.query_eval.proofs.starts.start_at.Goals as goal

pub returns-then-is_of_type-clause-pairs : goal.returns-then-is_of_type-clause-pairs
returns-then-is_of_type-clause-pairs g c =
    let m = g.F.Frozen.records c.args.frozen.now in
    let typed = type_is c.args.value_type c.args.low.now (sym c.is_of_type.ensures ∙ c.if-is_of_type.true) in
    sought_all c.args.value_type m c.args.root c.requires c.args.low.now typed _ c.lower.ensures.pairs

pub returns-then-is_of_type-clause-part : goal.returns-then-is_of_type-clause-part
returns-then-is_of_type-clause-part g c =
    let m = g.F.Frozen.records c.args.frozen.now in
    let typed = type_is c.args.value_type c.args.low.now (sym c.is_of_type.ensures ∙ c.if-is_of_type.true) in
    λ leaf seeks. sought_run c.args.value_type m c.args.root c.requires c.args.low.now typed leaf _ c.lower.ensures.pairs seeks

pub returns-else-is_of_type-clause-part : goal.returns-else-is_of_type-clause-part
returns-else-is_of_type-clause-part g c =
    let m = g.F.Frozen.records c.args.frozen.now in
    λ leaf seeks. first_run c.args.value_type m c.args.root c.requires leaf _ c.first.ensures.pairs
