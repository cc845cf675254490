use Rattle.std.proofs.Common.{ℕ, sym, ap, subst, arith}
use Rattle.std.specs.Ordering.{nat_cmp}
use Rattle.std.proofs.lemmas.Result.{IfOk-weaker}
use Rattle.number_tree.proofs.HoldLemmas.{number_keyed}
use Rattle.tree_read.specs.Trees.{IsTree, by_number}
use Rattle.test_trees.proofs.RowLemmas.{owns_begun, tree_begun, sealed-unit, is-sealed, sealed-owns}
use Rattle.test_trees.proofs.of_touch.touch_sealed.Goals as goal

pub touch-requires : goal.touch-requires
touch-requires g c =
    let ledger = g.S.Store.ledger in
    let records = g.S.Frozen.records in
    let s = c.args.store.now in
    let b = c.begin.new.self in
    let d = c.seal.new.self in
    let root = c.args.root in
    let buffer = c.in-Some.buffer in
    let begins = c.begin.ensures.ledger in
    let owns = owns_begun (ledger s) (ledger b) (records s) (records b) root c.requires begins c.begin.ensures.records in
    let is = tree_begun (ledger s) (ledger b) (records s) (records b) root c.requires begins c.begin.ensures.records in
    let seals = c.seal.ensures.seals in
    let same = c.seal.ensures.records in (
      omega arith,
      (
        sealed-unit (ledger b) (ledger d) (records b) (records d) buffer root seals same (ap (λ l. l.unit) begins),
        (
          is-sealed (ledger b) (ledger d) (records b) (records d) buffer root seals same,
          (
            number_keyed (records d) root (subst (λ f. IsTree nat_cmp by_number f root) (sym same) is),
            sealed-owns (ledger b) (ledger d) (records b) (records d) buffer root seals same owns,
          ),
        ),
      ),
    )

pub returns-in-Some : goal.returns-in-Some
returns-in-Some g c = IfOk-weaker c.touch.result _ _ (λ (r : ℕ) keyed. keyed.tree.node) c.touch.ensures.keyed

pub returns-in-None : goal.returns-in-None
returns-in-None g c =
    let ledger = g.S.Store.ledger in
    let records = g.S.Frozen.records in
    let s = c.args.store.now in
    let b = c.begin.new.self in
    let begins = c.begin.ensures.ledger in
    (tree_begun (ledger s) (ledger b) (records s) (records b) c.args.root c.requires begins c.begin.ensures.records).node
