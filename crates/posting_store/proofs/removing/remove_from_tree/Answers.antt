use Rattle.std.proofs.Common.{◌≡◌, false, ◌+◌, ◌*◌, ℕ, length, refl, sym, subst, arith}
use Rattle.std.specs.Prelude.{IsSome}
use Rattle.std.specs.BTreeMap.{is_at}
use Rattle.std.specs.Map.{lookup, remove_entry}
use Rattle.std.specs.Ordering.{nat_cmp}
use Rattle.posting_store.specs.Lists.{list_at}
use Rattle.posting_store.specs.Changes.{IsListWidth, MakesList}
use Rattle.std.proofs.lemmas.Result.{err_from_is_err_and}
use Rattle.store_api.proofs.May.{may_do-same}
use Rattle.posting_store.proofs.RefusalLemmas.{of_one}
use Rattle.posting_store.proofs.FormLemmas.{many_odd}
use Rattle.posting_store.proofs.LeafLemmas.{tree_keyed, tree_owned, pair_there, tree_removed, counts_removed, width_removed}
use Rattle.posting_store.proofs.removing.remove_from_tree.Goals as goal

pub remove-requires : goal.remove-requires
remove-requires g c =
    let ledger = g.S.Store.ledger in
    let s = c.args.store.now in
    let m = g.S.Frozen.records s in
    let odd = many_odd m c.args.list c.requires.plain c.requires.list (let many = c.requires.many in omega arith) in
    let is : c.args.list ≡ 2 * c.entry.result + 1 = let e = c.entry.ensures in omega arith in
    let there : IsSome (lookup (is_at (nat_cmp c.number.result)) (list_at m c.args.list))
    = subst (λ (doc : ℕ). IsSome (lookup (is_at (nat_cmp doc)) (list_at m c.args.list))) (sym c.number.ensures.number) c.requires.there in (
      omega arith,
      (
        c.requires.unit,
        (
          tree_keyed (ledger s) (ledger s) m m c.args.list c.entry.result c.requires.list c.requires.plain is,
          (
            pair_there (ledger s) (ledger s) m m c.args.list c.entry.result c.requires.list c.requires.plain is c.number.result there c.requires.many,
            tree_owned (ledger s) (ledger s) m m c.args.list c.entry.result c.requires.list c.requires.plain is c.requires.owns,
          ),
        ),
      ),
    )

pub returns-in_err-root-clause-counts : goal.returns-in_err-root-clause-counts
returns-in_err-root-clause-counts g c =
    let ledger = g.S.Store.ledger in
    let records = g.S.Frozen.records in
    let s = c.args.store.now in
    let t = c.remove.new.store in
    let odd = many_odd (records s) c.args.list c.requires.plain c.requires.list (let many = c.requires.many in omega arith) in
    let is : c.args.list ≡ 2 * c.entry.result + 1 = let e = c.entry.ensures in omega arith in
    counts_removed (ledger s) (ledger t) (records s) (records t) c.args.list c.entry.result c.requires.list c.requires.plain is c.args.doc c.requires.there c.requires.many c.remove.ensures.counts

pub returns-clause-makes : goal.returns-clause-makes
returns-clause-makes g c =
    let ledger = g.S.Store.ledger in
    let records = g.S.Frozen.records in
    let s = c.args.store.now in
    let t = c.remove.new.store in
    let m = records s in
    let odd = many_odd m c.args.list c.requires.plain c.requires.list (let many = c.requires.many in omega arith) in
    let is : c.args.list ≡ 2 * c.entry.result + 1 = let e = c.entry.ensures in omega arith in
    let there : IsSome (lookup (is_at (nat_cmp c.number.result)) (list_at m c.args.list))
    = subst (λ (doc : ℕ). IsSome (lookup (is_at (nat_cmp doc)) (list_at m c.args.list))) (sym c.number.ensures.number) c.requires.there in
    subst (λ (doc : ℕ). MakesList (ledger s) (ledger t) m (records t) c.args.list (remove_entry (is_at (nat_cmp doc)) (list_at m c.args.list)) false c.tree.result) c.number.ensures.number
    (tree_removed (ledger s) (ledger t) m (records t) c.args.list c.entry.result c.requires.list c.requires.plain is c.number.result there c.requires.many
    c.tree.result c.in_ok-root.root c.tree.ensures.word c.tree.ensures.plain c.in_ok-root.ensures.keyed.tree c.in_ok-root.ensures.pairs c.in_ok-root.ensures.owns c.in_ok-root.ensures.turns)

pub returns-clause-counts : goal.returns-clause-counts
returns-clause-counts g c =
    let ledger = g.S.Store.ledger in
    let records = g.S.Frozen.records in
    let s = c.args.store.now in
    let t = c.remove.new.store in
    let odd = many_odd (records s) c.args.list c.requires.plain c.requires.list (let many = c.requires.many in omega arith) in
    let is : c.args.list ≡ 2 * c.entry.result + 1 = let e = c.entry.ensures in omega arith in
    counts_removed (ledger s) (ledger t) (records s) (records t) c.args.list c.entry.result c.requires.list c.requires.plain is c.args.doc c.requires.there c.requires.many c.remove.ensures.counts

pub returns-in_err-root-clause-refuses : goal.returns-in_err-root-clause-refuses
returns-in_err-root-clause-refuses g c =
    let ledger = g.S.Store.ledger in
    let records = g.S.Frozen.records in
    let s = c.args.store.now in
    let t = c.remove.new.store in
    let odd = many_odd (records s) c.args.list c.requires.plain c.requires.list (let many = c.requires.many in omega arith) in
    let is : c.args.list ≡ 2 * c.entry.result + 1 = let e = c.entry.ensures in omega arith in
    let p = err_from_is_err_and c.from_residual.result c.from_residual.ensures.1 in
    rw (p.1, p.2) (of_one (IsListWidth (length (remove_entry (is_at (nat_cmp c.args.doc)) (list_at (records s) c.args.list)))) (ledger s) (ledger s) (ledger t) 34 _ (may_do-same (ledger s)) refl
    (width_removed (ledger s) (ledger t) (records s) (records t) c.args.list c.entry.result c.requires.list c.requires.plain is c.args.doc c.requires.there c.requires.many) c.in_err-root.ensures.refuses)
