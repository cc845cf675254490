use Rattle.std.proofs.Common.{◌≡◌, suc, ◌-◌, ◌<◌, ◌++◌, length, get_or, refl, sym, subst, arith, ◌^◌}
use Rattle.std.proofs.lemmas.Result.{on_ok_weaker}
use Rattle.tree_read.proofs.SlotLemmas.{hand-append}
use Rattle.tree_read.specs.Slots.{slot_pairs, slot_nodes, IsInHand}
use Rattle.frozen_btree.proofs.ParentLemmas.{puts-left, puts-right, few-before, few-behind}
use Rattle.frozen_btree.specs.Removes.{IsChild, PutsBack, spliced}
use Rattle.frozen_btree.specs.Settles.{SettlesSlots}
use Rattle.frozen_btree.proofs.parent.put_back.Goals as goal

pub make_neighbours-requires-clause-hand : goal.make_neighbours-requires-clause-hand
make_neighbours-requires-clause-hand g c =
    let records = g.S.Frozen.records in
    let child = c.args.child.now in
    let left = c.read_child-left.result in
    let same = c.read_child-left.ensures.same in
    let level : child.level ≡ left.level = (let a = c.requires.upper in let b = c.read_child-left.ensures.level in omega arith) in
    let hand = subst (λ l. IsInHand (records c.args.store.now) l child.keys.items child.values.items) level c.requires.hand in
    subst (λ s. IsInHand (records s) left.level (left.keys.items ++ child.keys.items) (left.values.items ++ child.values.items)) (sym same)
    (hand-append (records c.args.store.now) left.level left.keys.items left.values.items child.keys.items child.values.items c.read_child-left.ensures.child.hand hand)

pub make_neighbours-requires-clause-few : goal.make_neighbours-requires-clause-few
make_neighbours-requires-clause-few g c =
    let records = g.S.Frozen.records in
    let m = records c.args.store.now in
    let slots = c.args.slots.now in
    let child = c.args.child.now in
    let left = c.read_child-left.result in
    let sibling = get_or slots.values.items (c.args.place - 1) 0 in
    let same = c.read_child-left.ensures.same in
    let level : left.level ≡ child.level = (let a = c.requires.upper in let b = c.read_child-left.ensures.level in omega arith) in
    let read = subst (λ l. IsChild m l sibling left.keys.items left.values.items) level c.read_child-left.ensures.child in
    let some = c.if-place-gt0.true in
    let low = c.requires.place in
    let even = c.requires.parent.even in
    let next : suc (c.args.place - 1) ≡ c.args.place = omega arith in
    subst (λ s. length (slot_pairs (records s) left.level (left.keys.items ++ child.keys.items) (left.values.items ++ child.values.items)) < 2 ^ 32) (sym same)
    (subst (λ l. length (slot_pairs m l (left.keys.items ++ child.keys.items) (left.values.items ++ child.values.items)) < 2 ^ 32) (sym level)
    (few-before m child.level slots.keys.items slots.values.items child.keys.items child.values.items
    c.requires.parent c.requires.hand c.args.place (c.args.place - 1) sibling 4294967296 left.keys.items left.values.items next (omega arith) refl read.hand.even read.pairs_are c.requires.few))

pub make_neighbours-requires-else-place-gt0-clause-hand : goal.make_neighbours-requires-else-place-gt0-clause-hand
make_neighbours-requires-else-place-gt0-clause-hand g c =
    let records = g.S.Frozen.records in
    let child = c.args.child.now in
    let right = c.read_child-right.result in
    let same = c.read_child-right.ensures.same in
    let level : right.level ≡ child.level = (let a = c.requires.upper in let b = c.read_child-right.ensures.level in omega arith) in
    let hand = subst (λ l. IsInHand (records c.args.store.now) l right.keys.items right.values.items) level c.read_child-right.ensures.child.hand in
    subst (λ s. IsInHand (records s) child.level (child.keys.items ++ right.keys.items) (child.values.items ++ right.values.items)) (sym same)
    (hand-append (records c.args.store.now) child.level child.keys.items child.values.items right.keys.items right.values.items c.requires.hand hand)

pub make_neighbours-requires-else-place-gt0-clause-few : goal.make_neighbours-requires-else-place-gt0-clause-few
make_neighbours-requires-else-place-gt0-clause-few g c =
    let records = g.S.Frozen.records in
    let m = records c.args.store.now in
    let slots = c.args.slots.now in
    let child = c.args.child.now in
    let right = c.read_child-right.result in
    let sibling = get_or slots.values.items 1 0 in
    let same = c.read_child-right.ensures.same in
    let level : right.level ≡ child.level = (let a = c.requires.upper in let b = c.read_child-right.ensures.level in omega arith) in
    let read = subst (λ l. IsChild m l sibling right.keys.items right.values.items) level c.read_child-right.ensures.child in
    let none = c.if-place-gt0.false in
    let zero : c.args.place ≡ 0 = omega arith in
    let many = c.requires.many in
    let even = c.requires.parent.even in
    let few = subst (λ p. length (spliced m child.level p slots.keys.items slots.values.items (slot_pairs m child.level child.keys.items child.values.items)) < 2 ^ 32) zero c.requires.few in
    subst (λ s. length (slot_pairs (records s) child.level (child.keys.items ++ right.keys.items) (child.values.items ++ right.values.items)) < 2 ^ 32) (sym same)
    (few-behind m child.level slots.keys.items slots.values.items child.keys.items child.values.items
    c.requires.parent c.requires.hand sibling 4294967296 right.keys.items right.values.items (omega arith) refl read.pairs_are few)

pub returns-then-place-gt0-clause-puts : goal.returns-then-place-gt0-clause-puts
returns-then-place-gt0-clause-puts g c =
    let ledger = g.S.Store.ledger in
    let records = g.S.Frozen.records in
    let m = records c.args.store.now in
    let new = c.make_neighbours.new.store in
    let slots = c.args.slots.now in
    let child = c.args.child.now in
    let left = c.read_child-left.result in
    let after = c.make_neighbours.new.slots in
    let first = c.args.place - 1 in
    let sibling = get_or slots.values.items first 0 in
    let same = c.read_child-left.ensures.same in
    let level : left.level ≡ child.level = (let a = c.requires.upper in let b = c.read_child-left.ensures.level in omega arith) in
    let read = subst (λ l. IsChild m l sibling left.keys.items left.values.items) level c.read_child-left.ensures.child in
    let some = c.if-place-gt0.true in
    let short : length child.keys.items < 8 = omega arith in
    let next : suc first ≡ c.args.place = omega arith in
    on_ok_weaker c.make_neighbours.result
    (λ (settles : SettlesSlots (ledger c.read_child-left.new.frozen) (ledger new) (records c.read_child-left.new.frozen) (records new) left.level
    (slot_pairs (records c.read_child-left.new.frozen) left.level (left.keys.items ++ child.keys.items) (left.values.items ++ child.values.items))
    (slot_nodes (records c.read_child-left.new.frozen) left.level (left.values.items ++ child.values.items))
    first 2 slots.keys.items slots.values.items after.keys.items after.values.items).
    puts-left (ledger c.args.store.now) (ledger new) m (records new) child.level slots.keys.items slots.values.items child.keys.items child.values.items
    c.args.replaced.now.items c.read_child-left.new.replaced.items after.keys.items after.values.items c.requires.parent c.requires.hand
    c.args.place first sibling left.keys.items left.values.items next c.requires.place short refl read.hand read.pairs_are read.nodes_are c.read_child-left.ensures.replaced
    (subst (λ l. SettlesSlots (ledger c.args.store.now) (ledger new) m (records new) l
    (slot_pairs m l (left.keys.items ++ child.keys.items) (left.values.items ++ child.values.items))
    (slot_nodes m l (left.values.items ++ child.values.items))
    first 2 slots.keys.items slots.values.items after.keys.items after.values.items) level
    (subst (λ s. SettlesSlots (ledger s) (ledger new) (records s) (records new) left.level
    (slot_pairs (records s) left.level (left.keys.items ++ child.keys.items) (left.values.items ++ child.values.items))
    (slot_nodes (records s) left.level (left.values.items ++ child.values.items))
    first 2 slots.keys.items slots.values.items after.keys.items after.values.items) same settles)))
    c.make_neighbours.ensures.settles

pub returns-else-place-gt0-clause-puts : goal.returns-else-place-gt0-clause-puts
returns-else-place-gt0-clause-puts g c =
    let ledger = g.S.Store.ledger in
    let records = g.S.Frozen.records in
    let m = records c.args.store.now in
    let new = c.make_neighbours-else-place-gt0.new.store in
    let slots = c.args.slots.now in
    let child = c.args.child.now in
    let right = c.read_child-right.result in
    let after = c.make_neighbours-else-place-gt0.new.slots in
    let sibling = get_or slots.values.items 1 0 in
    let same = c.read_child-right.ensures.same in
    let level : right.level ≡ child.level = (let a = c.requires.upper in let b = c.read_child-right.ensures.level in omega arith) in
    let read = subst (λ l. IsChild m l sibling right.keys.items right.values.items) level c.read_child-right.ensures.child in
    let none = c.if-place-gt0.false in
    let zero : c.args.place ≡ 0 = omega arith in
    let many = c.requires.many in
    let short : length child.keys.items < 8 = omega arith in
    on_ok_weaker c.make_neighbours-else-place-gt0.result
    (λ (settles : SettlesSlots (ledger c.read_child-right.new.frozen) (ledger new) (records c.read_child-right.new.frozen) (records new) child.level
    (slot_pairs (records c.read_child-right.new.frozen) child.level (child.keys.items ++ right.keys.items) (child.values.items ++ right.values.items))
    (slot_nodes (records c.read_child-right.new.frozen) child.level (child.values.items ++ right.values.items))
    0 2 slots.keys.items slots.values.items after.keys.items after.values.items).
    subst (λ p. PutsBack (ledger c.args.store.now) (ledger new) m (records new) child.level p slots.keys.items slots.values.items child.keys.items child.values.items
    c.args.replaced.now.items c.read_child-right.new.replaced.items after.keys.items after.values.items) (sym zero)
    (puts-right (ledger c.args.store.now) (ledger new) m (records new) child.level slots.keys.items slots.values.items child.keys.items child.values.items
    c.args.replaced.now.items c.read_child-right.new.replaced.items after.keys.items after.values.items c.requires.parent c.requires.hand
    sibling right.keys.items right.values.items (omega arith) short refl read.hand read.pairs_are read.nodes_are c.read_child-right.ensures.replaced
    (subst (λ s. SettlesSlots (ledger s) (ledger new) (records s) (records new) child.level
    (slot_pairs (records s) child.level (child.keys.items ++ right.keys.items) (child.values.items ++ right.values.items))
    (slot_nodes (records s) child.level (child.values.items ++ right.values.items))
    0 2 slots.keys.items slots.values.items after.keys.items after.values.items) same settles)))
    c.make_neighbours-else-place-gt0.ensures.settles
