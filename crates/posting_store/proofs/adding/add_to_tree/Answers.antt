use Rattle.std.proofs.Common.{◌≡◌, false, ◌+◌, ◌*◌, ℕ, ℤ, length, w32, ap, subst, ◌∙◌, refl, arith}
use Rattle.std.proofs.lemmas.Int.{to_z-of_z}
use Rattle.std.specs.BTreeMap.{insert_entry}
use Rattle.std.specs.Int.{cast_unsigned}
use Rattle.std.specs.Ordering.{nat_cmp}
use Rattle.image_format.specs.Words.{weight_in_bits}
use Rattle.posting_store.specs.Lists.{list_at}
use Rattle.posting_store.specs.Changes.{IsListWidth, MakesList}
use Rattle.std.proofs.lemmas.Result.{err_from_is_err_and}
use Rattle.store_api.proofs.May.{may_do-same}
use Rattle.posting_store.proofs.RefusalLemmas.{of_one}
use Rattle.posting_store.proofs.ItemLemmas.{cmp_same}
use Rattle.posting_store.proofs.LeafLemmas.{tree_keyed, tree_owned, tree_added, counts_added, width_added}
use Rattle.posting_store.proofs.adding.add_to_tree.Goals as goal

pub insert-requires : goal.insert-requires
insert-requires g c =
    let ledger = g.S.Store.ledger in
    let s = c.args.store.now in
    let m = g.S.Frozen.records s in
    let is : c.args.list ≡ 2 * c.entry.result + 1 = let e = c.entry.ensures in let odd = c.requires.tree in omega arith in (
      omega arith,
      (
        c.requires.unit,
        (
          tree_keyed (ledger s) (ledger s) m m c.args.list c.entry.result c.requires.list c.requires.plain is,
          (
            record { readable = tt; apart = tt; equal = cmp_same c.number-number.result c.number-number.result refl },
            tree_owned (ledger s) (ledger s) m m c.args.list c.entry.result c.requires.list c.requires.plain is c.requires.owns,
          ),
        ),
      ),
    )

pub returns-in_err-root-clause-counts : goal.returns-in_err-root-clause-counts
returns-in_err-root-clause-counts g c =
    let ledger = g.S.Store.ledger in
    let records = g.S.Frozen.records in
    let s = c.args.store.now in
    let t = c.insert.new.store in
    let is : c.args.list ≡ 2 * c.entry.result + 1 = let e = c.entry.ensures in let odd = c.requires.tree in omega arith in
    counts_added (ledger s) (ledger t) (records s) (records t) c.args.list c.entry.result c.requires.list c.requires.plain is c.args.doc c.args.weight c.insert.ensures.counts

pub returns-clause-makes : goal.returns-clause-makes
returns-clause-makes g c =
    let ledger = g.S.Store.ledger in
    let records = g.S.Frozen.records in
    let s = c.args.store.now in
    let t = c.insert.new.store in
    let number = c.number-number in
    let bits = c.cast_unsigned-bits in
    let is : c.args.list ≡ 2 * c.entry.result + 1 = let e = c.entry.ensures in let odd = c.requires.tree in omega arith in
    let reads : weight_in_bits bits.result ≡ c.args.weight =
    let again = to_z-of_z w32 c.args.weight c.ranges.weight in ap weight_in_bits bits.ensures ∙ ap (λ (w : ℤ). weight_in_bits (cast_unsigned w32 w)) again ∙ again in
    subst (λ (doc : ℕ). MakesList (ledger s) (ledger t) (records s) (records t) c.args.list (insert_entry nat_cmp (list_at (records s) c.args.list) doc c.args.weight) false c.tree.result) number.ensures.number
    (tree_added (ledger s) (ledger t) (records s) (records t) c.args.list c.entry.result c.requires.list c.requires.plain is
    number.result bits.result c.args.weight (number.ensures.first, number.ensures.last) bits.type_inv reads
    c.tree.result c.in_ok-root.root c.tree.ensures.word c.tree.ensures.plain c.in_ok-root.ensures.keyed.tree c.in_ok-root.ensures.pairs c.in_ok-root.ensures.owns c.in_ok-root.ensures.turns)

pub returns-clause-counts : goal.returns-clause-counts
returns-clause-counts g c =
    let ledger = g.S.Store.ledger in
    let records = g.S.Frozen.records in
    let s = c.args.store.now in
    let t = c.insert.new.store in
    let is : c.args.list ≡ 2 * c.entry.result + 1 = let e = c.entry.ensures in let odd = c.requires.tree in omega arith in
    counts_added (ledger s) (ledger t) (records s) (records t) c.args.list c.entry.result c.requires.list c.requires.plain is c.args.doc c.args.weight c.insert.ensures.counts

pub returns-in_err-root-clause-refuses : goal.returns-in_err-root-clause-refuses
returns-in_err-root-clause-refuses g c =
    let ledger = g.S.Store.ledger in
    let records = g.S.Frozen.records in
    let s = c.args.store.now in
    let t = c.insert.new.store in
    let is : c.args.list ≡ 2 * c.entry.result + 1 = let e = c.entry.ensures in let odd = c.requires.tree in omega arith in
    let p = err_from_is_err_and c.from_residual.result c.from_residual.ensures.1 in
    rw (p.1, p.2) (of_one (IsListWidth (length (insert_entry nat_cmp (list_at (records s) c.args.list) c.args.doc c.args.weight))) (ledger s) (ledger s) (ledger t) 34 _ (may_do-same (ledger s)) refl
    (width_added (ledger s) (ledger t) (records s) (records t) c.args.list c.entry.result c.requires.list c.requires.plain is c.args.doc c.args.weight) c.in_err-root.ensures.refuses)
