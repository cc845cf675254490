use Rattle.std.proofs.Common.{slice_index_or, refl, pos, ◌<◌, ◌+◌, ◌||◌, List, Some, length, drop, arith, sym, ap, subst, ◌∙◌}
use Rattle.list_lemmas.proofs.Places.{drop-read}
use Rattle.index_model.specs.Gathers.{is_gathered}
use Rattle.query_eval.specs.Lists.{list_has}
use Rattle.query_eval.specs.PartLists.{some_part_has, AreListParts}
use Rattle.query_eval.specs.Weights.{IsListWord}
use Rattle.query_eval.specs.declared.parts.ListPart.{ListPart}
use Rattle.query_eval.proofs.PartListLemmas.{one_more}
use Rattle.query_eval.proofs.parts.gather_parts.Goals as goal

abbrev none : ListPart
none = record { list = 0; weight = pos 0 }

pub gather_part-requires : goal.gather_part-requires
gather_part-requires g c =
    let lists = c.args.lists.now in
    let part = slice_index_or lists c.loop-part.part-index none in
    let below : c.loop-part.part-index < length lists = omega (arith, c.loop-part-test.true) in
    let left = subst (AreListParts (g.F.Frozen.records c.args.frozen.now)) (drop-read lists c.loop-part.part-index part none below refl) c.loop-part.invariant.left in
    subst (λ (f : g.row.F.Denot). IsListWord (g.F.Frozen.records f) (Some part.list)) (sym c.loop-part.invariant.same) left.0

pub loop-part-preserved : goal.loop-part-preserved
loop-part-preserved g c =
    let m = g.F.Frozen.records c.args.frozen.now in
    let lists = c.args.lists.now in
    let k = c.loop-part.part-index in
    let part = slice_index_or lists c.loop-part.part-index none in
    let before = c.loop-part.invariant in
    let below : k < length lists = omega (arith, c.loop-part-test.true) in
    let first = drop-read lists k part none below refl in
    record {
      same = c.gather_part.ensures.same ∙ before.same;
      left = (subst (AreListParts m) first before.left).1;
      whole = λ doc. one_more (is_gathered c.loop-part.all doc) (list_has m part.list doc) (some_part_has m (drop k lists) doc)
          (some_part_has m (drop (k + 1) lists) doc) (is_gathered c.in_ok-all.all doc) (some_part_has m lists doc)
          (c.in_ok-all.ensures.docs doc ∙ ap (λ (f : g.row.F.Denot). is_gathered c.loop-part.all doc || list_has (g.F.Frozen.records f) part.list doc) before.same)
          (ap (λ (ps : List ListPart). some_part_has m ps doc) first)
          (before.whole doc);
    }
