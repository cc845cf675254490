use Rattle.std.proofs.Common.{◌∙◌, ℕ, sym, ap, subst, arith}
use Rattle.std.proofs.lemmas.Result.{IfOk-weaker}
use Rattle.std.specs.BTreeMap.{is_at}
use Rattle.std.specs.Map.{lookup}
use Rattle.std.specs.Ordering.{nat_cmp}
use Rattle.attr_field.specs.Documents.{IsDocuments}
use Rattle.image_format.specs.Documents.{column_at}
use Rattle.image_format.specs.Images.{table_of, IsLawfulImage}
use Rattle.image_format.proofs.ImageLemmas.{field_is_there}
use Rattle.attr_c.specs.Said.{items_of}
use Rattle.attr_c.proofs.ItemLemmas.{field_there, has_documents_root, documents_are}
use Rattle.attr_c.proofs.reading.field_items.Goals as goal

pub root_at-tree-requires : goal.root_at-tree-requires
root_at-tree-requires g c =
    let frozen = c.args.frozen.now in
    let m = g.F.Frozen.records frozen in
    let fields = c.args.fields.now in
    let own = c.in-Some.own.now in
    let lawful = subst (λ (s : ℕ). IsLawfulImage s m c.args.root) c.requires.shape c.requires.image in
    let at = field_there _ fields c.args.field own c.as_slice.ensures c.in-Some.ensures.lookup.3.0 c.in-Some.ensures.lookup.1 in
    (omega arith, has_documents_root fields m c.args.root c.requires.few lawful c.args.field own at (g.met.F.Frozen.references frozen))

pub document_items-requires : goal.document_items-requires
document_items-requires g c =
    let frozen = c.args.frozen.now in
    let m = g.F.Frozen.records frozen in
    let fields = c.args.fields.now in
    let own = c.in-Some.own.now in
    let lawful = subst (λ (s : ℕ). IsLawfulImage s m c.args.root) c.requires.shape c.requires.image in
    let at = field_there _ fields c.args.field own c.as_slice.ensures c.in-Some.ensures.lookup.3.0 c.in-Some.ensures.lookup.1 in (
      omega arith,
      subst (λ (f : g.row.F.Denot). IsDocuments own.kind own.value (g.F.Frozen.records f) c.root_at-tree.result) (sym c.root_at-tree.ensures.same)
          (subst (λ (r : ℕ). IsDocuments own.kind own.value m r) (sym c.root_at-tree.ensures.root)
          (documents_are fields m c.args.root c.requires.few lawful c.args.field own at (g.met.F.Frozen.references frozen))),
    )

pub returns-in-Some-clause-items : goal.returns-in-Some-clause-items
returns-in-Some-clause-items g c = λ within.
    let frozen = c.args.frozen.now in
    let m = g.F.Frozen.records frozen in
    let fields = c.args.fields.now in
    let own = c.in-Some.own.now in
    let lawful = subst (λ (s : ℕ). IsLawfulImage s m c.args.root) c.requires.shape c.requires.image in
    let at = field_there _ fields c.args.field own c.as_slice.ensures c.in-Some.ensures.lookup.3.0 c.in-Some.ensures.lookup.1 in
    let there = (field_is_there fields m c.args.root c.requires.few lawful c.args.field own at).column in
    let found = λ (column : _). lookup (is_at (nat_cmp c.args.doc)) column in
    IfOk-weaker c.document_items.result _ _
    (λ items is. is
    ∙ ap (λ (f : g.row.F.Denot). found (column_at own.kind own.value (g.F.Frozen.records f) c.root_at-tree.result)) c.root_at-tree.ensures.same
    ∙ ap (λ (r : ℕ). found (column_at own.kind own.value m r)) c.root_at-tree.ensures.root
    ∙ ap found (sym there)
    ∙ ap (λ (s : ℕ). items_of c.args.field c.args.doc (table_of s m c.args.root)) (sym c.requires.shape))
    c.document_items.ensures.items
