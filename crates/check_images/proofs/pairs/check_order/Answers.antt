use Rattle.std.proofs.Common.{length, sym, ap, ◌∙◌}
use Rattle.list_lemmas.proofs.Tests.{zero_from_test, above_zero_from_test}
use Rattle.check_images.proofs.KeyLemmas.{ascends-first, ascends-more, ascends-last, is_less, not_less}
use Rattle.check_images.specs.Keys.{stored_cmp}
use Rattle.entry_ref.specs.Maps.{seen}
use Rattle.check_images.proofs.pairs.check_order.Goals as goal

pub returns-then-is_empty-clause-ascends : goal.returns-then-is_empty-clause-ascends
returns-then-is_empty-clause-ascends c = λ value.
    ascends-first c.args.keys (seen c.args.records.now) c.args.pairs.now (c.args.key, value)
    (zero_from_test (length c.args.pairs.now) c.is_empty.result c.is_empty.ensures c.if-is_empty.true)

pub returns-then-is_lt-clause-ascends : goal.returns-then-is_lt-clause-ascends
returns-then-is_lt-clause-ascends c = λ value.
    let m = seen c.args.records.now in
    let is = c.in_ok-order.ensures ∙ ap (λ k. stored_cmp c.args.keys m k c.args.key) c.last_of.ensures.last in
    ascends-more c.args.keys m c.args.pairs.now (c.args.key, value) c.requires (sym is ∙ is_less c.in_ok-order.order c.is_lt.result c.is_lt.ensures c.if-is_lt.true)

pub returns-else-is_lt-clause-exact : goal.returns-else-is_lt-clause-exact
returns-else-is_lt-clause-exact c = λ value up.
    let m = seen c.args.records.now in
    let is = c.in_ok-order.ensures ∙ ap (λ k. stored_cmp c.args.keys m k c.args.key) c.last_of.ensures.last in
    not_less c.in_ok-order.order c.is_lt.result c.is_lt.ensures c.if-is_lt.false
    (is
    ∙ ascends-last c.args.keys m c.args.pairs.now (c.args.key, value)
    (above_zero_from_test (length c.args.pairs.now) c.is_empty.result c.is_empty.ensures c.if-is_empty.false)
    up)
