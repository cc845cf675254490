use Rattle.std.proofs.Common.{ℕ, List, map, sym, ap, subst, ◌∙◌, true≢false}
use Rattle.std.proofs.lemmas.Result.{err_from_is_err_and}
use Rattle.std.specs.List.{AllByRecursion}
use Rattle.image_format.specs.Documents.{items_at, AreItemRecords}
use Rattle.attr_types.specs.Lawful.{IsDocNumber, IsLawfulItems}
use Rattle.attr_types.specs.declared.items.Item.{Item}
use Rattle.entry_ref.specs.Maps.{seen}
use Rattle.check_images.proofs.Walks.{refuted_by}
use Rattle.check_images.proofs.IndexLemmas.{lawful_column, lawful_rows}
use Rattle.check_images.proofs.attribute.read_column.Goals as goal

pub returns-in_err-pairs-clause-exact : goal.returns-in_err-pairs-clause-exact
returns-in_err-pairs-clause-exact c =
    let p = err_from_is_err_and c.from_residual.result c.from_residual.ensures.1 in
    rw (p.1, p.2) (refuted_by c.in_err-pairs.field-0.0 (λ whole. whole.0) c.in_err-pairs.ensures.exact)

pub returns-in_err-column-clause-exact : goal.returns-in_err-column-clause-exact
returns-in_err-column-clause-exact c =
    let m = seen c.args.records.now in
    let pairs = c.as_slice.ensures.value ∙ c.in_ok-pairs.ensures.pairs in
    let p = err_from_is_err_and c.from_residual-in_err-column.result c.from_residual-in_err-column.ensures.1 in
    rw (p.1, p.2)
    (refuted_by c.in_err-column.field-0.0 (λ whole. subst (AllByRecursion (λ (q : ℕ × ℕ). AreItemRecords c.args.kind c.args.value_type m q.1)) (sym pairs) whole.1) c.in_err-column.ensures.exact)

pub returns-then-not-are_lawful_documents-clause-exact : goal.returns-then-not-are_lawful_documents-clause-exact
returns-then-not-are_lawful_documents-clause-exact c = λ whole.
    let m = seen c.args.records.now in
    let pairs = c.as_slice.ensures.value ∙ c.in_ok-pairs.ensures.pairs in
    let column = c.as_slice-2.ensures.value ∙ c.in_ok-column.ensures.column ∙ ap (map (λ (p : ℕ × ℕ). (p.0, items_at c.args.kind c.args.value_type m p.1))) pairs in
    let rows = subst (AllByRecursion (λ (e : ℕ × List Item). IsDocNumber e.0 × IsLawfulItems c.args.kind e.1)) (sym column) (lawful_rows c.args.kind c.args.value_type m c.args.documents whole.2) in
    true≢false (sym (c.are_lawful_documents.ensures.1 rows) ∙ c.if-not-are_lawful_documents.true)

pub returns-clause-lawful : goal.returns-clause-lawful
returns-clause-lawful c =
    let m = seen c.args.records.now in
    let pairs = c.as_slice.ensures.value ∙ c.in_ok-pairs.ensures.pairs in
    let column = c.as_slice-2.ensures.value ∙ c.in_ok-column.ensures.column ∙ ap (map (λ (p : ℕ × ℕ). (p.0, items_at c.args.kind c.args.value_type m p.1))) pairs in
    lawful_column c.args.kind c.args.value_type m c.args.documents c.in_ok-pairs.ensures.tree
    (subst (AllByRecursion (λ (e : ℕ × List Item). IsDocNumber e.0 × IsLawfulItems c.args.kind e.1)) column (c.are_lawful_documents.ensures.0 c.if-not-are_lawful_documents.false))
