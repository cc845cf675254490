use Rattle.std.proofs.Common.{◌≡◌, ◌+◌, ◌<◌, length, set, sym, ap, subst, ◌∙◌, arith, length-append, ◌^◌}
use Rattle.tree_read.proofs.SlotLemmas.{hand-kept, hand-left, hand-right}
use Rattle.tree_read.specs.Slots.{slot_pairs, IsInHand}
use Rattle.frozen_btree.proofs.SettleLemmas.{settles-shared, part-at, hand-at, few-left, few-right, shifted-sizes}
use Rattle.frozen_nodes.proofs.MakesLemmas.{makes-more, makes-then, refuses-from, refuses-exit}
use Rattle.frozen_nodes.proofs.Results.{on_err}
use Rattle.frozen_btree.proofs.neighbours.share.Goals as goal

pub make_part-requires-clause-hand : goal.make_part-requires-clause-hand
make_part-requires-clause-hand g c =
    let m = g.S.Frozen.records c.args.store.now in
    let left = c.shift.new.left in
    let right = c.shift.new.right in
    subst (λ l. IsInHand m l left.keys.items left.values.items) (sym c.shift.ensures.level)
    (hand-left m c.args.left.now.level left.keys.items left.values.items right.keys.items right.values.items c.shift.ensures.even
    (hand-at m c.args.left.now.level _ _ _ _ c.shift.ensures.keys c.shift.ensures.values c.requires.hand))

pub make_part-requires-clause-few : goal.make_part-requires-clause-few
make_part-requires-clause-few g c =
    let m = g.S.Frozen.records c.args.store.now in
    let left = c.shift.new.left in
    let right = c.shift.new.right in
    subst (λ l. length (slot_pairs m l left.keys.items left.values.items) < 2 ^ 32) (sym c.shift.ensures.level)
    (few-left m c.args.left.now.level left.keys.items left.values.items right.keys.items right.values.items c.shift.ensures.even _ _ c.shift.ensures.keys c.shift.ensures.values 4294967296 c.requires.few)

pub make_part-requires-2-clause-hand : goal.make_part-requires-2-clause-hand
make_part-requires-2-clause-hand g c =
    let m = g.S.Frozen.records c.args.store.now in
    let n = g.S.Frozen.records c.make_part.new.store in
    let left = c.shift.new.left in
    let right = c.shift.new.right in
    subst (λ l. IsInHand n l right.keys.items right.values.items) (sym (c.shift.ensures.level_right ∙ c.requires.same_level))
    (hand-kept m n c.in_ok-part.ensures.makes.node.makes.keeps c.args.left.now.level right.keys.items right.values.items
    (hand-right m c.args.left.now.level left.keys.items left.values.items right.keys.items right.values.items c.shift.ensures.even
    (hand-at m c.args.left.now.level _ _ _ _ c.shift.ensures.keys c.shift.ensures.values c.requires.hand)))

pub make_part-requires-2-clause-few : goal.make_part-requires-2-clause-few
make_part-requires-2-clause-few g c =
    let m = g.S.Frozen.records c.args.store.now in
    let n = g.S.Frozen.records c.make_part.new.store in
    let left = c.shift.new.left in
    let right = c.shift.new.right in
    let hand = hand-at m c.args.left.now.level _ _ _ _ c.shift.ensures.keys c.shift.ensures.values c.requires.hand in
    subst (λ l. length (slot_pairs n l right.keys.items right.values.items) < 2 ^ 32) (sym (c.shift.ensures.level_right ∙ c.requires.same_level))
    (few-right m n c.in_ok-part.ensures.makes.node.makes.keeps c.args.left.now.level left.keys.items left.values.items right.keys.items right.values.items c.shift.ensures.even hand _ _ c.shift.ensures.keys
    c.shift.ensures.values 4294967296 c.requires.few)

pub returns-clause-settles : goal.returns-clause-settles
returns-clause-settles g c =
    let ledger = g.S.Store.ledger in
    let records = g.S.Frozen.records in
    let m = records c.args.store.now in
    let level = c.args.left.now.level in
    let slots = c.args.slots.now in
    let left = c.shift.new.left in
    let right = c.shift.new.right in
    let one = c.in_ok-part.part in
    let two = c.in_ok-part-2.part in
    let hand = hand-at m level _ _ _ _ c.shift.ensures.keys c.shift.ensures.values c.requires.hand in
    let first = part-at (ledger c.args.store.now) (ledger c.make_part.new.store) m (records c.make_part.new.store)
    left.level left.keys.items left.values.items one level left.keys.items left.values.items
    c.shift.ensures.level (λ k. left.keys.items) (λ k. left.values.items) c.in_ok-part.ensures.makes in
    let second = part-at (ledger c.make_part.new.store) (ledger c.make_part-2.new.store) (records c.make_part.new.store) (records c.make_part-2.new.store)
    right.level right.keys.items right.values.items two level right.keys.items right.values.items
    (c.shift.ensures.level_right ∙ c.requires.same_level) (λ k. right.keys.items) (λ k. right.values.items) c.in_ok-part-2.ensures.makes in
    let size = ap length c.shift.ensures.keys in
    let both = length-append left.keys.items right.keys.items in
    let before = length-append c.args.left.now.keys.items c.args.right.now.keys.items in
    let sum : length left.keys.items + length right.keys.items ≡ length c.args.left.now.keys.items + length c.args.right.now.keys.items = omega arith in
    let many = shifted-sizes (length c.args.left.now.keys.items) (length c.args.right.now.keys.items) (length left.keys.items) (length right.keys.items)
    sum c.requires.many c.requires.least c.requires.one_short c.shift.ensures.longer c.shift.ensures.shorter in
    settles-shared (ledger c.args.store.now) (ledger c.make_part.new.store) (ledger c.make_part-2.new.store) m (records c.make_part.new.store) (records c.make_part-2.new.store)
    level left.keys.items left.values.items right.keys.items right.values.items one.key one.node two.key two.node c.shift.ensures.even hand
    first.node first.key many.0 second.node second.key many.1
    _ _ c.shift.ensures.keys c.shift.ensures.values c.args.first slots.keys.items slots.values.items c.set_part-2.new.slots.keys.items c.set_part-2.new.slots.values.items
    c.requires.parent c.requires.first
    (c.set_part-2.ensures.keys ∙ ap (λ ks. set ks (c.args.first + 1) two.key) c.set_part.ensures.keys)
    (c.set_part-2.ensures.values ∙ ap (λ vs. set vs (c.args.first + 1) two.node) c.set_part.ensures.values)

pub returns-in_err-part-clause-refused : goal.returns-in_err-part-clause-refused
returns-in_err-part-clause-refused g c =
    let ledger = g.S.Store.ledger in
    let records = g.S.Frozen.records in
    let s = c.args.store.now in
    let t = c.make_part.new.store in
    on_err c.from_residual.result (makes-more (ledger s) (ledger t) (records s) (records t) 0 1 (omega arith) c.in_err-part.ensures.refused)

pub returns-in_err-part-2-clause-refused : goal.returns-in_err-part-2-clause-refused
returns-in_err-part-2-clause-refused g c =
    let ledger = g.S.Store.ledger in
    let records = g.S.Frozen.records in
    let s = c.args.store.now in
    let t = c.make_part.new.store in
    let u = c.make_part-2.new.store in
    on_err c.from_residual-in_err-part-2.result (makes-then (ledger s) (ledger t) (ledger u) (records s) (records t) (records u) 1 0 1 (omega arith) c.in_ok-part.ensures.makes.node.makes c.in_err-part-2.ensures.refused)

pub returns-in_err-part-2-clause-refuses : goal.returns-in_err-part-2-clause-refuses
returns-in_err-part-2-clause-refuses g c =
    let ledger = g.S.Store.ledger in
    let records = g.S.Frozen.records in
    let s = c.args.store.now in
    let t = c.make_part.new.store in
    let u = c.make_part-2.new.store in
    refuses-exit (ledger s) (ledger u) 34 c.from_residual-in_err-part-2.result c.in_err-part-2.field-0.0 c.from_residual-in_err-part-2.ensures.1
    (refuses-from (ledger s) (ledger t) (ledger u) 34 c.in_err-part-2.field-0.0 c.in_ok-part.ensures.makes.node.makes.may c.in_err-part-2.ensures.refuses)
