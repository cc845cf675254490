use Rattle.std.proofs.Common.{◌≡◌, ◌+◌, ◌*◌, refl, arith}
use Rattle.std.proofs.lemmas.Result.{err_from_is_err_and}
use Rattle.store_api.specs.Calls.{IsUsedWidth}
use Rattle.store_api.proofs.May.{may_do-same}
use Rattle.posting_store.proofs.LeafLemmas.{tree_keyed, tree_owned}
use Rattle.posting_store.proofs.RefusalLemmas.{of_one}
use Rattle.posting_store.proofs.MoveLemmas.{tree_counts, tree_moved, tree_used}
use Rattle.posting_store.proofs.moving.move_tree.Goals as goal

pub touch-requires : goal.touch-requires
touch-requires g c =
    let ledger = g.S.Store.ledger in
    let s = c.args.store.now in
    let m = g.S.Frozen.records s in
    let is : c.args.list ≡ 2 * c.entry.result + 1 = (let e = c.entry.ensures in let odd = c.requires.tree in omega arith) in (
      omega arith,
      (
        c.requires.unit,
        (
          c.requires.sealed,
          (
            tree_keyed (ledger s) (ledger s) m m c.args.list c.entry.result c.requires.list c.requires.plain is,
            tree_owned (ledger s) (ledger s) m m c.args.list c.entry.result c.requires.list c.requires.plain is c.requires.owns,
          ),
        ),
      ),
    )

pub returns-in_err-root-clause-counts : goal.returns-in_err-root-clause-counts
returns-in_err-root-clause-counts g c =
    let ledger = g.S.Store.ledger in
    let records = g.S.Frozen.records in
    let s = c.args.store.now in
    let t = c.touch.new.store in
    tree_counts (ledger s) (ledger t) (records s) (records t) c.args.list c.entry.result c.requires.list c.requires.plain c.requires.tree c.entry.ensures c.touch.ensures.counts

pub returns-in_err-root-clause-refuses : goal.returns-in_err-root-clause-refuses
returns-in_err-root-clause-refuses g c =
    let ledger = g.S.Store.ledger in
    let a = ledger c.args.store.now in
    let m = g.S.Frozen.records c.args.store.now in
    let is : c.args.list ≡ 2 * c.entry.result + 1 = (let e = c.entry.ensures in let odd = c.requires.tree in omega arith) in
    let used = tree_used a m c.args.list c.entry.result c.requires.list c.requires.plain is c.requires.owns in
    let p = err_from_is_err_and c.from_residual.result c.from_residual.ensures.1 in
    rw (p.1, p.2) (of_one (IsUsedWidth a m) a a (ledger c.touch.new.store) 34 _ (may_do-same a) refl used c.in_err-root.ensures.refuses)

pub returns-clause-moves : goal.returns-clause-moves
returns-clause-moves g c =
    let ledger = g.S.Store.ledger in
    let records = g.S.Frozen.records in
    let s = c.args.store.now in
    let t = c.touch.new.store in
    tree_moved (ledger s) (ledger t) (records s) (records t) c.args.list c.entry.result c.requires.list c.requires.plain c.requires.tree c.entry.ensures
    g.row.OFFSET_BITS c.args.buffer c.args.doc c.tree.result c.in_ok-root.root c.tree.ensures.word c.tree.ensures.plain c.in_ok-root.ensures.keyed.tree c.in_ok-root.ensures.pairs
    c.in_ok-root.ensures.owns c.in_ok-root.ensures.turns c.in_ok-root.ensures.apart

pub returns-clause-counts : goal.returns-clause-counts
returns-clause-counts g c =
    let ledger = g.S.Store.ledger in
    let records = g.S.Frozen.records in
    let s = c.args.store.now in
    let t = c.touch.new.store in
    tree_counts (ledger s) (ledger t) (records s) (records t) c.args.list c.entry.result c.requires.list c.requires.plain c.requires.tree c.entry.ensures c.touch.ensures.counts
