use Rattle.std.proofs.Common.{◌≡◌, ◌≤◌, ℕ, List, length, arith, sym, ap, subst, ◌∙◌}
use Rattle.std.proofs.lemmas.Result.{IfOk-weaker}
use Rattle.attr_types.specs.Query.{tree_of}
use Rattle.attr_types.specs.Table.{hits}
use Rattle.attr_types.specs.declared.field.Field.{Field}
use Rattle.attr_types.specs.declared.field.TheConstants.{MOST_FIELDS}
use Rattle.image_format.specs.Images.{table_of, IsLawfulImage}
use Rattle.index_model.specs.Sets.{Holds}
use Rattle.index_model.specs.Found.{found}
use Rattle.query_eval.specs.Indexes.{AreIndexed, HasDictionaries, dictionaries_at, indexes_in}
use Rattle.query_eval.specs.declared.dictionary.Dictionary.{Dictionary}
use Rattle.query_eval.proofs.ImageLemmas.{all_indexed, all_dictionaries, found_hits}
use Rattle.query_eval.proofs.answers.hits.Goals as goal

pub dictionaries_of-requires : goal.dictionaries_of-requires
dictionaries_of-requires g c =
    let frozen = c.args.frozen.now in
    let m = g.F.Frozen.records frozen in
    let fields = c.args.fields.now in
    let lawful = subst (λ (s : ℕ). IsLawfulImage s m c.args.root) c.requires.shape c.requires.image in
    let roots = all_dictionaries fields m c.args.root c.requires.few lawful (g.met.F.Frozen.references frozen) in (
      omega arith,
      (
        omega arith,
        (
          subst (λ (fs : List Field). length fs ≤ MOST_FIELDS) (sym c.as_slice.ensures) c.requires.few,
          subst (λ (fs : List Field). HasDictionaries m c.args.root 0 fs) (sym c.as_slice.ensures) roots,
        ),
      ),
    )

pub matching-requires : goal.matching-requires
matching-requires g c =
    let frozen = c.args.frozen.now in
    let m = g.F.Frozen.records frozen in
    let fields = c.args.fields.now in
    let bits = g.row.OFFSET_BITS in
    let lawful = subst (λ (s : ℕ). IsLawfulImage s m c.args.root) c.requires.shape c.requires.image in
    let named : c.as_slice-2.result.now ≡ dictionaries_at bits m c.args.root 0 fields =
    c.as_slice-2.ensures.value ∙ c.in_ok-dictionaries.ensures.list ∙ ap (λ (fs : List Field). dictionaries_at bits m c.args.root 0 fs) c.as_slice.ensures in (
      omega arith,
      subst (λ (f : g.row.F.Denot). AreIndexed bits (g.F.Frozen.records f) c.as_slice-2.result.now) (sym c.dictionaries_of.ensures.same)
          (subst (λ (ds : List (Dictionary bits)). AreIndexed bits m ds) (sym named) (all_indexed fields m c.args.root c.requires.few lawful bits)),
    )

pub returns-clause-hits : goal.returns-clause-hits
returns-clause-hits g c =
    let frozen = c.args.frozen.now in
    let m = g.F.Frozen.records frozen in
    let fields = c.args.fields.now in
    let bits = g.row.OFFSET_BITS in
    let query = tree_of c.args.query.now in
    let lawful = subst (λ (s : ℕ). IsLawfulImage s m c.args.root) c.requires.shape c.requires.image in
    let named : c.as_slice-2.result.now ≡ dictionaries_at bits m c.args.root 0 fields =
    c.as_slice-2.ensures.value ∙ c.in_ok-dictionaries.ensures.list ∙ ap (λ (fs : List Field). dictionaries_at bits m c.args.root 0 fs) c.as_slice.ensures in
    IfOk-weaker c.matching.result _ _
    (λ docs holds.
    found_hits fields m c.args.root c.requires.few lawful bits query docs
    (subst (λ (ds : List (Dictionary bits)). Holds docs (found query (indexes_in bits m ds))) named
    (subst (λ (f : g.row.F.Denot). Holds docs (found query (indexes_in bits (g.F.Frozen.records f) c.as_slice-2.result.now))) c.dictionaries_of.ensures.same holds))
    ∙ ap (λ (s : ℕ). hits query (table_of s m c.args.root)) (sym c.requires.shape))
    c.matching.ensures.docs
