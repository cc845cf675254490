use Rattle.std.proofs.Common.{◌/◌, ℕ, List, map, get_or, sym, ap, ◌∙◌, arith}
use Rattle.std.specs.BTreeMap.{is_at}
use Rattle.std.specs.Map.{remove_entry}
use Rattle.std.specs.Ordering.{nat_cmp}
use Rattle.image_format.specs.Words.{unpacked}
use Rattle.posting_store.proofs.ItemLemmas.{DocApart, take_here, take_none, take_all}
use Rattle.posting_store.proofs.items.take_item.Goals as goal

pub returns-then-deref-i : goal.returns-then-deref-i
returns-then-deref-i c =
    let xs = c.loop-i.items.items in
    let i = c.loop-i.i in
    let here = ap (λ (ys : List ℕ). get_or ys i 0 / 4294967296) (sym c.deref.ensures.0) ∙ c.if-deref-i.true ∙ c.number-number.ensures.number in
    ap (map unpacked) c.remove.ensures.items
    ∙ take_here c.args.doc xs i (omega arith) c.loop-i.invariant.passed here
    ∙ ap (λ (ys : List ℕ). remove_entry (is_at (nat_cmp c.args.doc)) (map unpacked ys)) c.loop-i.invariant.same

pub returns : goal.returns
returns c =
    let xs = c.loop-i.items.items in
    take_none c.args.doc xs (take_all (DocApart c.args.doc) xs c.loop-i.i (omega arith) c.loop-i.invariant.passed)
    ∙ ap (λ (ys : List ℕ). remove_entry (is_at (nat_cmp c.args.doc)) (map unpacked ys)) c.loop-i.invariant.same
