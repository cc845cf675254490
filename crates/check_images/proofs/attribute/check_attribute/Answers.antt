use Rattle.std.proofs.Common.{◌≡◌, ℕ, List, map, sym, subst, ◌∙◌, true≢false}
use Rattle.std.specs.Prelude.{Contains}
use Rattle.std.proofs.lemmas.Result.{err_from_is_err_and}
use Rattle.std.specs.List.{AllByRecursion}
use Rattle.image_format.proofs.ImageLemmas.{index_keys}
use Rattle.tree_read.specs.Trees.{tree_pairs}
use Rattle.index_model.specs.Columns.{Column, documents_with}
use Rattle.image_format.specs.Documents.{column_at}
use Rattle.image_format.specs.Postings.{list_form, postings_at, index_of}
use Rattle.image_format.specs.Values.{stored_value}
use Rattle.attr_types.specs.declared.items.Item.{Item}
use Rattle.attr_types.specs.declared.value.Value.{Value}
use Rattle.entry_ref.specs.Maps.{seen}
use Rattle.check_images.proofs.Walks.{refuted_by}
use Rattle.check_images.proofs.IndexLemmas.{to_lists, from_lists, has_values, values_cover}
use Rattle.check_images.proofs.attribute.check_attribute.Goals as goal

pub returns-in_err-column-clause-exact : goal.returns-in_err-column-clause-exact
returns-in_err-column-clause-exact c =
    let p = err_from_is_err_and c.from_residual.result c.from_residual.ensures.1 in
    rw (p.1, p.2) (refuted_by c.in_err-column.field-0.0 (λ lawful. (lawful.forms.documents_tree, lawful.forms.items, lawful.column)) c.in_err-column.ensures.exact)

pub returns-in_err-values-clause-exact : goal.returns-in_err-values-clause-exact
returns-in_err-values-clause-exact c =
    let m = seen c.args.records.now in
    let type = c.args.value_type in
    let pairs = tree_pairs m c.args.dictionary in
    let all = column_at c.args.kind type m c.args.documents in
    let same = c.as_slice.ensures.value ∙ c.in_ok-column.ensures.column in
    let p = err_from_is_err_and c.from_residual-in_err-values.result c.from_residual-in_err-values.ensures.1 in
    rw (p.1, p.2)
    (refuted_by c.in_err-values.field-0.0
    (λ lawful. (
      lawful.forms.dictionary_tree,
      lawful.forms.entries,
      subst (λ (t : Column). AllByRecursion (λ (q : ℕ × ℕ). postings_at m (list_form q.1) ≡ documents_with (stored_value type m q.0) t) pairs) (sym same) (from_lists type m all pairs lawful.lists),
    ))
    c.in_err-values.ensures.exact)

pub returns-then-not-have_all_values-clause-exact : goal.returns-then-not-have_all_values-clause-exact
returns-then-not-have_all_values-clause-exact c = λ lawful.
    let m = seen c.args.records.now in
    let type = c.args.value_type in
    let all = column_at c.args.kind type m c.args.documents in
    let values = c.as_slice-2.ensures.value ∙ c.in_ok-values.ensures.values ∙ sym (index_keys type m (tree_pairs m c.args.dictionary)) in
    let rows = c.as_slice-3.ensures.value ∙ c.in_ok-column.ensures.column in
    let covered = subst (λ (t : Column). AllByRecursion (λ (e : ℕ × List Item). AllByRecursion (λ (item : Item). Contains c.as_slice-2.result.now item.value) e.1) t) (sym rows)
    (subst (λ (vs : List Value). AllByRecursion (λ (e : ℕ × List Item). AllByRecursion (λ (item : Item). Contains vs item.value) e.1) all) (sym values)
    (values_cover all (index_of type m c.args.dictionary) lawful.values)) in
    true≢false (sym (c.have_all_values.ensures.1 covered) ∙ c.if-not-have_all_values.true)

pub returns-clause-lawful : goal.returns-clause-lawful
returns-clause-lawful c =
    let m = seen c.args.records.now in
    let type = c.args.value_type in
    let pairs = tree_pairs m c.args.dictionary in
    let all = column_at c.args.kind type m c.args.documents in
    let lists = subst (λ (t : Column). AllByRecursion (λ (p : ℕ × ℕ). postings_at m (list_form p.1) ≡ documents_with (stored_value type m p.0) t) pairs)
    (c.as_slice.ensures.value ∙ c.in_ok-column.ensures.column) c.in_ok-values.ensures.lists in
    let values = c.as_slice-2.ensures.value ∙ c.in_ok-values.ensures.values in
    let rows = c.as_slice-3.ensures.value ∙ c.in_ok-column.ensures.column in
    let covered = subst (AllByRecursion (λ (e : ℕ × List Item). AllByRecursion (λ (item : Item). Contains (map (λ (p : ℕ × ℕ). stored_value type m p.0) pairs) item.value) e.1)) rows
    (subst (λ (vs : List Value). AllByRecursion (λ (e : ℕ × List Item). AllByRecursion (λ (item : Item). Contains vs item.value) e.1) c.as_slice-3.result.now) values
    (c.have_all_values.ensures.0 c.if-not-have_all_values.false)) in
    record {
      forms = record {
        documents_tree = c.in_ok-column.ensures.tree;
        items = c.in_ok-column.ensures.items;
        dictionary_tree = c.in_ok-values.ensures.tree;
        entries = c.in_ok-values.ensures.entries;
      };
      column = c.in_ok-column.ensures.lawful;
      values = has_values type m all pairs c.in_ok-values.ensures.entries lists covered;
      lists = to_lists type m all pairs lists;
    }
