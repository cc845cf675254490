use Rattle.std.proofs.Common.{rules}
use Rattle.std.proofs.lemmas.Int.{to_z-of_z}
use Rattle.std.specs.Int.{w32}
use Rattle.std.specs.Int.RustNames.{FitsSigned}
use Rattle.image_format.specs.Postings.{index_of}
use Rattle.query_eval.proofs.PartListLemmas.{none_added, one_added}
use Rattle.query_eval.proofs.parts.push_part.Goals as goal

pub returns-in_default-clause-adds : goal.returns-in_default-clause-adds
returns-in_default-clause-adds g c =
    let m = g.F.Frozen.records c.args.frozen.now in
    none_added m (index_of c.args.value_type m c.args.root) c.args.part.now c.args.lists.now.items c.in_default.ensures.list

pub returns-clause-adds : goal.returns-clause-adds
returns-clause-adds g c =
    let m = g.F.Frozen.records c.args.frozen.now in
    let part = c.args.part.now in
    let fits : FitsSigned w32 part.weight = search rules in
    one_added m (index_of c.args.value_type m c.args.root) part c.args.lists.now.items c.push.new.self.items _ c.in_ok-push.ensures.items
    (to_z-of_z w32 part.weight fits) c.in-Some.ensures.form c.in-Some.ensures.list
