use Rattle.std.proofs.Common.{◌≡◌, ℕ}
use Rattle.std.proofs.lemmas.Result.{err_from_is_err_and}
use Rattle.list_lemmas.proofs.Each.{AllByRecursion-at}
use Rattle.index_model.specs.Columns.{documents_with}
use Rattle.image_format.specs.Postings.{list_form, postings_at, IsDictionaryEntry}
use Rattle.image_format.specs.Values.{stored_value}
use Rattle.entry_ref.specs.Maps.{seen}
use Rattle.check_images.proofs.Walks.{refuted_by}
use Rattle.check_images.proofs.dictionary.read_dictionary.Goals as goal

pub returns-in_err-value-clause-exact : goal.returns-in_err-value-clause-exact
returns-in_err-value-clause-exact c =
    let m = seen c.args.records.now in
    let type = c.args.value_type in
    let i = c.loop-pair.pair-index in
    let below = c.loop-pair-test.true in
    let p = err_from_is_err_and c.from_residual.result c.from_residual.ensures.1 in
    rw (p.1, p.2)
    (refuted_by c.in_err-value.field-0.0
    (λ all. (
      AllByRecursion-at (IsDictionaryEntry type m) c.args.pairs.now i (0, 0) below all.0,
      AllByRecursion-at (λ (q : ℕ × ℕ). postings_at m (list_form q.1) ≡ documents_with (stored_value type m q.0) c.args.column.now) c.args.pairs.now i (0, 0) below all.1,
    ))
    c.in_err-value.ensures.exact)
