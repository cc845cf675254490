use Rattle.std.proofs.Common.{◌++◌, ◌∷◌, [], None, Some}
use Rattle.std.proofs.lemmas.Result.{err_from_is_err_and}
use Rattle.attr_types.specs.declared.items.Item.{Item}
use Rattle.attr_saver.specs.Fields.{read_item, read_items, last_value}
use Rattle.attr_saver.proofs.Loops.{goes_on, ends, is_done, last_value-push}
use Rattle.attr_saver.proofs.value.read_items.Goals as goal

pub returns-in_err-item : goal.returns-in_err-item
returns-in_err-item c =
    let p = err_from_is_err_and c.from_residual.result c.from_residual.ensures.1 in
    rw (p.1, p.2) (ends (read_item c.args.kind c.args.value_type) (λ (item : Item). Some item.value) c.args.count c.loop.counter c.loop.items.items
    (last_value c.loop.items.items) c.loop.reader (read_items c.args.kind c.args.value_type c.args.count None c.args.reader.now)
    c.in_err-item.field-0.0 c.loop-test.true (rw c.as_slice.ensures.value at c.in_err-item.ensures) c.loop.invariant)

pub loop-preserved : goal.loop-preserved
loop-preserved c =
    rw c.in_ok-push.ensures.items (goes_on (read_item c.args.kind c.args.value_type) (λ (item : Item). Some item.value) c.args.count c.loop.counter c.loop.items.items
    (last_value c.loop.items.items) c.loop.reader (read_items c.args.kind c.args.value_type c.args.count None c.args.reader.now)
    c.in_ok-item.item (last_value (c.loop.items.items ++ c.in_ok-item.item ∷ [])) _ c.loop-test.true (rw c.as_slice.ensures.value at c.in_ok-item.ensures)
    (last_value-push c.loop.items.items c.in_ok-item.item) c.loop.invariant)

pub returns : goal.returns
returns c = rw c.from_vec.ensures (is_done (read_item c.args.kind c.args.value_type) (λ (item : Item). Some item.value) c.args.count c.loop.counter c.loop.items.items
    (last_value c.loop.items.items) c.loop.reader (read_items c.args.kind c.args.value_type c.args.count None c.args.reader.now) c.loop-test.false c.loop.invariant)
