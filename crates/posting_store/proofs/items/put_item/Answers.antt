use Rattle.std.proofs.Common.{◌<◌, ◌/◌, ℕ, ℤ, w32, List, map, get_or, ap, subst, ◌∙◌, arith}
use Rattle.std.specs.BTreeMap.{insert_entry}
use Rattle.std.specs.Ordering.{nat_cmp}
use Rattle.std.proofs.lemmas.Int.{to_z-of_z}
use Rattle.image_format.specs.Words.{unpacked}
use Rattle.posting_store.proofs.ItemLemmas.{DocBelow, put_before, put_last, take_all}
use Rattle.posting_store.proofs.items.put_item.Goals as goal

pub returns-then-here-number-2 : goal.returns-then-here-number-2
returns-then-here-number-2 c =
    let xs = c.loop-i.items.items in
    let i = c.loop-i.i in
    let doc = c.args.doc in
    let item = c.loop-i.invariant.item ∙ ap (λ (w : ℤ). (c.args.doc, w)) (to_z-of_z w32 c.args.weight c.ranges.weight) in
    let seen = subst (λ (ys : List ℕ). c.number-number.result < get_or ys i 0 / 4294967296) c.deref.ensures.0 c.if-here-number-2.true in
    let above = subst (λ (n : ℕ). n < get_or xs i 0 / 4294967296) c.number-number.ensures.number seen in
    ap (map unpacked) c.insert-then-here-number-2.ensures.items
    ∙ put_before doc c.args.weight c.item_of-item.result item xs i (omega arith) c.loop-i.invariant.passed above
    ∙ ap (λ (ys : List ℕ). insert_entry nat_cmp (map unpacked ys) doc c.args.weight) c.loop-i.invariant.same

pub returns : goal.returns
returns c =
    let xs = c.loop-i.items.items in
    let doc = c.args.doc in
    let item = c.loop-i.invariant.item ∙ ap (λ (w : ℤ). (c.args.doc, w)) (to_z-of_z w32 c.args.weight c.ranges.weight) in
    ap (map unpacked) c.push.ensures.items
    ∙ put_last doc c.args.weight c.item_of-item.result item xs (take_all (DocBelow doc) xs c.loop-i.i (omega arith) c.loop-i.invariant.passed)
    ∙ ap (λ (ys : List ℕ). insert_entry nat_cmp (map unpacked ys) doc c.args.weight) c.loop-i.invariant.same
