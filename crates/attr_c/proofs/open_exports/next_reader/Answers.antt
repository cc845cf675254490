use Rattle.std.proofs.Common.{◌≡◌, ◌∙◌, length, rules, subst, sym, vec_len}
use Rattle.std.proofs.lemmas.List.{nil_from_length}
use Rattle.list_lemmas.proofs.Tests.{zero_from_test}
use Rattle.attr_c.specs.Seats.{HasNoReader}
use Rattle.attr_c.specs.declared.state.AnyOpen.TheVariants.{Narrow, Wide}
use Rattle.attr_c.proofs.open_exports.next_reader.Goals as goal

pub returns-then-is_empty-clause-none : goal.returns-then-is_empty-clause-none
returns-then-is_empty-clause-none c =
    let is : c.args.inner.now ≡ Narrow c.in-Narrow.inner = search rules in
    let count : length c.in-Narrow.inner.pool.items ≡ vec_len c.in-Narrow.inner.pool = search rules in
    let none = zero_from_test (vec_len c.in-Narrow.inner.pool) c.is_empty.result c.is_empty.ensures c.if-is_empty.true in
    subst HasNoReader (sym is) (nil_from_length c.in-Narrow.inner.pool.items (count ∙ none))

pub returns-then-is_empty-2-clause-none : goal.returns-then-is_empty-2-clause-none
returns-then-is_empty-2-clause-none c =
    let is : c.args.inner.now ≡ Wide c.in-Wide.inner = search rules in
    let count : length c.in-Wide.inner.pool.items ≡ vec_len c.in-Wide.inner.pool = search rules in
    let none = zero_from_test (vec_len c.in-Wide.inner.pool) c.is_empty-in-Wide.result c.is_empty-in-Wide.ensures c.if-is_empty-2.true in
    subst HasNoReader (sym is) (nil_from_length c.in-Wide.inner.pool.items (count ∙ none))
