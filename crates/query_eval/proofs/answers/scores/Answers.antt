use Rattle.std.proofs.Common.{◌≡◌, ◌∙◌, ◌<◌, ℕ, List, length, get_or, arith, refl, sym, ap, subst, Some}
use Rattle.std.proofs.lemmas.Option.{slice_get_read}
use Rattle.std.proofs.lemmas.Result.{IfOk-weaker}
use Rattle.std.specs.Prelude.{slice_get}
use Rattle.attr_types.specs.declared.field.Field.{Field}
use Rattle.image_format.specs.Images.{table_of, IsLawfulImage}
use Rattle.image_format.specs.Postings.{index_of}
use Rattle.attr_types.specs.Scores.{scores}
use Rattle.attr_types.specs.declared.part.Part.{Part}
use Rattle.query_eval.specs.Parts.{IsIndexed}
use Rattle.query_eval.proofs.ImageLemmas.{is_indexed}
use Rattle.query_eval.proofs.ScoreLemmas.{AreScored, image_scores, no_scores, has_root}
use Rattle.query_eval.proofs.answers.scores.Goals as goal

field_there : (xs fields : List Field) (i : ℕ) (own : Field) → xs ≡ fields → i < length xs → own ≡ get_or xs i own → slice_get fields i ≡ Some own
field_there xs fields i own same within is =
    subst (λ fs. slice_get fs i ≡ Some own) same (slice_get_read xs (length xs) i own refl within is)

pub root_at-dictionary-requires : goal.root_at-dictionary-requires
root_at-dictionary-requires g c =
    let frozen = c.args.frozen.now in
    let m = g.F.Frozen.records frozen in
    let fields = c.args.fields.now in
    let own = c.in-Some.own.now in
    let lawful = subst (λ (s : ℕ). IsLawfulImage s m c.args.root) c.requires.shape c.requires.image in
    let at = field_there _ fields c.args.field own c.as_slice.ensures c.in-Some.ensures.lookup.3.0 c.in-Some.ensures.lookup.1 in
    (omega arith, has_root fields m c.args.root c.requires.few lawful c.args.field own at (g.met.F.Frozen.references frozen))

pub scored-requires : goal.scored-requires
scored-requires g c =
    let frozen = c.args.frozen.now in
    let m = g.F.Frozen.records frozen in
    let fields = c.args.fields.now in
    let own = c.in-Some.own.now in
    let lawful = subst (λ (s : ℕ). IsLawfulImage s m c.args.root) c.requires.shape c.requires.image in
    let at = field_there _ fields c.args.field own c.as_slice.ensures c.in-Some.ensures.lookup.3.0 c.in-Some.ensures.lookup.1 in (
      omega arith,
      subst (λ (f : g.row.F.Denot). IsIndexed own.value (g.F.Frozen.records f) c.root_at-dictionary.result) (sym c.root_at-dictionary.ensures.same)
          (subst (λ (r : ℕ). IsIndexed own.value m r) (sym c.root_at-dictionary.ensures.root)
          (is_indexed fields m c.args.root c.requires.few lawful c.args.field own at)),
    )

pub returns-in-Some-clause-scores : goal.returns-in-Some-clause-scores
returns-in-Some-clause-scores g c =
    let frozen = c.args.frozen.now in
    let m = g.F.Frozen.records frozen in
    let fields = c.args.fields.now in
    let own = c.in-Some.own.now in
    let parts = c.args.parts.now in
    let lawful = subst (λ (s : ℕ). IsLawfulImage s m c.args.root) c.requires.shape c.requires.image in
    let at = field_there _ fields c.args.field own c.as_slice.ensures c.in-Some.ensures.lookup.3.0 c.in-Some.ensures.lookup.1 in
    IfOk-weaker c.scored.result _ _
    (λ list are.
    image_scores fields m c.args.root c.requires.few lawful c.args.field own at parts list
    (subst (λ (r : ℕ). AreScored parts (index_of own.value m r) list) c.root_at-dictionary.ensures.root
    (subst (λ (f : g.row.F.Denot). AreScored parts (index_of own.value (g.F.Frozen.records f) c.root_at-dictionary.result) list) c.root_at-dictionary.ensures.same
    (subst (λ (ps : List Part). AreScored ps (index_of own.value (g.F.Frozen.records c.root_at-dictionary.new.frozen) c.root_at-dictionary.result) list) c.as_slice-in-Some.ensures are)))
    ∙ ap (λ (s : ℕ). scores c.args.field parts (table_of s m c.args.root)) (sym c.requires.shape))
    c.scored.ensures.scores

pub returns-in-None-clause-scores : goal.returns-in-None-clause-scores
returns-in-None-clause-scores g c =
    let m = g.F.Frozen.records c.args.frozen.now in
    let lawful = subst (λ (s : ℕ). IsLawfulImage s m c.args.root) c.requires.shape c.requires.image in
    let past = c.in-None.ensures.lookup.3 in
    let same = ap length c.as_slice.ensures in
    c.new.ensures
    ∙ no_scores c.args.fields.now m c.args.root c.requires.few lawful c.args.field c.args.parts.now (omega (arith, same, past))
    ∙ ap (λ (s : ℕ). scores c.args.field c.args.parts.now (table_of s m c.args.root)) (sym c.requires.shape)
