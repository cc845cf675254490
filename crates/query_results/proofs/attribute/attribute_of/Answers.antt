use Rattle.std.proofs.Common.{ℕ, arith, refl, sym, ap, subst, ◌∙◌}
use Rattle.attr_types.specs.declared.kind.Kind.TheVariants.{Single}
use Rattle.attr_types.specs.declared.kind.ValueType.TheVariants.{Long}
use Rattle.image_format.specs.Documents.{column_at}
use Rattle.image_format.specs.Images.{table_of, IsLawfulImage}
use Rattle.index_model.specs.Columns.{items_of}
use Rattle.attr_field.specs.Documents.{IsDocuments}
use Rattle.attr_field.proofs.DocumentsLawLemmas.{documents_nothing}
use Rattle.result_model.specs.Values.{items_of as items_in_table}
use Rattle.query_results.proofs.AttributeLemmas.{field_there, has_root, reads_field, reads_nothing}
use Rattle.query_results.proofs.attribute.attribute_of.Goals as goal

pub root_at-requires : goal.root_at-requires
root_at-requires g c =
    let frozen = c.args.frozen.now in
    let m = g.F.Frozen.records frozen in
    let fields = c.args.fields.now in
    let own = c.in-Some.own.now in
    let lawful = subst (λ (s : ℕ). IsLawfulImage s m c.args.root) c.requires.shape c.requires.image in
    let at = field_there _ fields c.args.field own refl c.in-Some.ensures.lookup.3.0 c.in-Some.ensures.lookup.1 in
    (omega arith, has_root fields m c.args.root c.requires.few lawful (g.met.F.Frozen.references frozen) c.args.field own at)

pub returns-in-Some-clause-attribute : goal.returns-in-Some-clause-attribute
returns-in-Some-clause-attribute g c =
    let frozen = c.args.frozen.now in
    let m = g.F.Frozen.records frozen in
    let fields = c.args.fields.now in
    let own = c.in-Some.own.now in
    let lawful = subst (λ (s : ℕ). IsLawfulImage s m c.args.root) c.requires.shape c.requires.image in
    let at = field_there _ fields c.args.field own refl c.in-Some.ensures.lookup.3.0 c.in-Some.ensures.lookup.1 in
    let reads = reads_field fields m c.args.root c.requires.few lawful (g.met.F.Frozen.references frozen) c.args.field own at in
    record {
      documents = subst (λ (r : ℕ). IsDocuments own.kind own.value m r) (sym c.root_at.ensures.root) reads.documents_are;
      items = λ doc.
          ap (λ (r : ℕ). items_of (column_at own.kind own.value m r) doc) c.root_at.ensures.root ∙ reads.items doc
          ∙ ap (λ (s : ℕ). items_in_table c.args.field (table_of s m c.args.root) doc) (sym c.requires.shape);
    }

pub returns-in-None-clause-attribute : goal.returns-in-None-clause-attribute
returns-in-None-clause-attribute g c =
    let m = g.F.Frozen.records c.args.frozen.now in
    let fields = c.args.fields.now in
    let lawful = subst (λ (s : ℕ). IsLawfulImage s m c.args.root) c.requires.shape c.requires.image in
    let past = c.in-None.ensures.lookup.3 in
    let zero_is = c.from_raw.ensures in
    record {
      documents = subst (λ (r : ℕ). IsDocuments Single Long m r) (sym zero_is) (documents_nothing Single Long m).0;
      items = λ doc.
          ap (λ (r : ℕ). items_of (column_at Single Long m r) doc) zero_is
          ∙ reads_nothing fields m c.args.root c.requires.few lawful c.args.field past doc
          ∙ ap (λ (s : ℕ). items_in_table c.args.field (table_of s m c.args.root) doc) (sym c.requires.shape);
    }
