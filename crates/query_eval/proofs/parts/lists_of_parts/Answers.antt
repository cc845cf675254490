use Rattle.std.proofs.Common.{◌<◌, ◌+◌, ◌||◌, ◌+ℤ◌, ◌*ℤ◌, List, length, drop, arith, sym, ap, subst, ◌∙◌}
use Rattle.std.proofs.lemmas.List.{drop_all}
use Rattle.list_lemmas.proofs.Places.{drop-read}
use Rattle.std.specs.Map.{keys_of}
use Rattle.image_format.specs.Postings.{index_of}
use Rattle.index_model.specs.Index.{list_of}
use Rattle.index_model.specs.Sets.{has}
use Rattle.attr_types.specs.Scores.{score_of, weight_of}
use Rattle.attr_types.specs.declared.part.Part.{Part}
use Rattle.query_eval.specs.PartLists.{some_part_has, score_in_lists, AddsPart}
use Rattle.query_eval.specs.Parts.{IsIndexed}
use Rattle.query_eval.specs.Weights.{is_found}
use Rattle.query_eval.proofs.PartListLemmas.{one_more, or_none, plus_step, plus_nothing}
use Rattle.query_eval.proofs.parts.lists_of_parts.Goals as goal

pub push_part-requires : goal.push_part-requires
push_part-requires g c =
    (omega arith, subst (λ (f : g.row.F.Denot). IsIndexed c.args.value_type (g.F.Frozen.records f) c.args.root) (sym c.loop-part.invariant.same) c.requires)

pub loop-part-preserved : goal.loop-part-preserved
loop-part-preserved g c =
    let m = g.F.Frozen.records c.args.frozen.now in
    let index = index_of c.args.value_type m c.args.root in
    let parts = c.args.parts.now in
    let k = c.loop-part.part-index in
    let part = c.part-item.result in
    let before = c.loop-part.invariant in
    let old = c.loop-part.lists.items in
    let new = c.push_part.new.lists.items in
    let below : k < length parts = omega (arith, c.loop-part-test.true) in
    let first = drop-read parts k part part below c.part-item.is in
    let adds = subst (λ (f : g.row.F.Denot). AddsPart (g.F.Frozen.records f) (index_of c.args.value_type (g.F.Frozen.records f) c.args.root) part old new)
    before.same c.in_ok-push_part.ensures.adds in
    record {
      same = c.push_part.ensures.same ∙ before.same;
      words = adds.words before.words;
      found = λ doc.
          one_more (some_part_has m old doc) (has (keys_of (list_of part.value index)) doc) (is_found (drop k parts) index doc)
          (is_found (drop (k + 1) parts) index doc) (some_part_has m new doc) (is_found parts index doc)
          (adds.found doc) (ap (λ (ps : List Part). is_found ps index doc) first) (before.found doc);
      score = λ doc items has.
          plus_step (score_in_lists m old doc) (part.weight *ℤ weight_of part.value items) (score_of (drop (k + 1) parts) items)
          (score_of (drop k parts) items) (score_of parts items) (score_in_lists m new doc)
          (before.score doc items has) (ap (λ (ps : List Part). score_of ps items) first) (adds.score doc items has);
    }

pub returns-clause-lists : goal.returns-clause-lists
returns-clause-lists g c =
    let m = g.F.Frozen.records c.args.frozen.now in
    let index = index_of c.args.value_type m c.args.root in
    let lists = c.loop-part.lists.items in
    let end = c.loop-part.invariant in
    let none = sym (drop_all c.loop-part.part-index c.args.parts.now (omega (arith, c.loop-part-test.false))) in
    record {
      words = end.words;
      found = λ doc. or_none (some_part_has m lists doc) ∙ ap (λ (ps : List Part). some_part_has m lists doc || is_found ps index doc) none ∙ end.found doc;
      score = λ doc items has.
          plus_nothing (score_in_lists m lists doc) ∙ ap (λ (ps : List Part). score_in_lists m lists doc +ℤ score_of ps items) none ∙ end.score doc items has;
    }
