use Rattle.std.proofs.Common.{◌∙◌, sym, ap}
use Rattle.std.proofs.lemmas.Result.{err_from_is_err_and}
use Rattle.index_model.specs.Columns.{documents_with}
use Rattle.entry_ref.specs.Maps.{seen}
use Rattle.check_images.proofs.Walks.{refuted_by}
use Rattle.check_images.proofs.ItemLemmas.{value_told}
use Rattle.check_images.proofs.PairLemmas.{same_pairs, other_pairs}
use Rattle.check_images.proofs.dictionary.read_entry.Goals as goal

pub returns-in_err-list-clause-exact : goal.returns-in_err-list-clause-exact
returns-in_err-list-clause-exact c =
    let p = err_from_is_err_and c.from_residual-in_err-list.result c.from_residual-in_err-list.ensures.1 in
    rw (p.1, p.2) (refuted_by c.in_err-list.field-0.0 (λ both. both.0.1) c.in_err-list.ensures.exact)

pub returns-then-ne-clause-exact : goal.returns-then-ne-clause-exact
returns-then-ne-clause-exact c = λ both.
    other_pairs c.as_slice.result.now c.as_slice-2.result.now c.ne.result c.ne.ensures c.if-ne.true
    (c.as_slice.ensures.value ∙ c.in_ok-list.ensures.list ∙ both.1
    ∙ ap (λ v. documents_with v c.args.column.now) (sym (value_told c.args.value_type
    (seen c.args.records.now) c.args.reference c.words_at.result.now c.in_ok-value.field-0 c.in-Some.value c.words_at.ensures.words c.in-Some.is c.in_ok-value.ensures))
    ∙ sym c.in_ok-wanted.ensures ∙ sym c.as_slice-2.ensures.value)

pub returns-clause-list : goal.returns-clause-list
returns-clause-list c =
    let same = same_pairs c.as_slice.result.now c.as_slice-2.result.now c.ne.result c.ne.ensures c.if-ne.false in
    sym c.in_ok-list.ensures.list ∙ sym c.as_slice.ensures.value ∙ same ∙ c.as_slice-2.ensures.value ∙ c.in_ok-wanted.ensures
    ∙ ap (λ v. documents_with v c.args.column.now) (value_told c.args.value_type
    (seen c.args.records.now) c.args.reference c.words_at.result.now c.in_ok-value.field-0 c.in-Some.value c.words_at.ensures.words c.in-Some.is c.in_ok-value.ensures)
