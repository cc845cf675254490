use Rattle.std.proofs.Common.{ℕ, arith, refl, sym, subst}
use Rattle.attr_types.specs.declared.kind.Kind.TheVariants.{Single}
use Rattle.attr_types.specs.declared.kind.ValueType.TheVariants.{Long}
use Rattle.image_format.specs.Images.{table_of, IsLawfulImage}
use Rattle.image_format.specs.Shapes.{shape_of, types_of}
use Rattle.query_eval.proofs.ScoreLemmas.{has_root}
use Rattle.query_results.specs.Dictionaries.{IsDictionaryOf}
use Rattle.query_results.proofs.AttributeLemmas.{field_there}
use Rattle.query_results.proofs.IndexLemmas.{has_dictionary, no_dictionary}
use Rattle.query_results.proofs.dictionary.dictionary_of.Goals as goal

pub root_at-requires : goal.root_at-requires
root_at-requires g c =
    let frozen = c.args.frozen.now in
    let m = g.F.Frozen.records frozen in
    let fields = c.args.fields.now in
    let own = c.in-Some.own.now in
    let lawful = subst (λ (s : ℕ). IsLawfulImage s m c.args.root) c.requires.shape c.requires.image in
    let at = field_there _ fields c.args.field own refl c.in-Some.ensures.lookup.3.0 c.in-Some.ensures.lookup.1 in
    (omega arith, has_root fields m c.args.root c.requires.few lawful c.args.field own at (g.met.F.Frozen.references frozen))

pub returns-in-Some-clause-dictionary : goal.returns-in-Some-clause-dictionary
returns-in-Some-clause-dictionary g c =
    let m = g.F.Frozen.records c.args.frozen.now in
    let fields = c.args.fields.now in
    let own = c.in-Some.own.now in
    let lawful = subst (λ (s : ℕ). IsLawfulImage s m c.args.root) c.requires.shape c.requires.image in
    let at = field_there _ fields c.args.field own refl c.in-Some.ensures.lookup.3.0 c.in-Some.ensures.lookup.1 in
    subst (λ (s : ℕ). IsDictionaryOf g.row.OFFSET_BITS m c.args.field (table_of s m c.args.root)
    (record { kind = own.kind; value_type = own.value; root = c.root_at.result })) (sym c.requires.shape)
    (subst (λ (r : ℕ). IsDictionaryOf g.row.OFFSET_BITS m c.args.field (table_of (shape_of (types_of fields)) m c.args.root) (record { kind = own.kind; value_type = own.value; root = r }))
    (sym c.root_at.ensures.root) (has_dictionary fields m c.args.root c.requires.few lawful g.row.OFFSET_BITS c.args.field own at))

pub returns-in-None-clause-dictionary : goal.returns-in-None-clause-dictionary
returns-in-None-clause-dictionary g c =
    let m = g.F.Frozen.records c.args.frozen.now in
    let fields = c.args.fields.now in
    let lawful = subst (λ (s : ℕ). IsLawfulImage s m c.args.root) c.requires.shape c.requires.image in
    subst (λ (s : ℕ). IsDictionaryOf g.row.OFFSET_BITS m c.args.field (table_of s m c.args.root)
    (record { kind = Single; value_type = Long; root = c.from_raw.result })) (sym c.requires.shape)
    (subst (λ (r : ℕ). IsDictionaryOf g.row.OFFSET_BITS m c.args.field (table_of (shape_of (types_of fields)) m c.args.root) (record { kind = Single; value_type = Long; root = r }))
    (sym c.from_raw.ensures) (no_dictionary fields m c.args.root c.requires.few lawful g.row.OFFSET_BITS c.args.field c.in-None.ensures.lookup.3))
