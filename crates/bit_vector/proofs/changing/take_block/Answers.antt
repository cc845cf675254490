use Rattle.std.proofs.Common.{◌∷◌, [], rules, sym, ap, subst, arith, refl, ◌+◌, ◌*◌}
use Rattle.std.specs.Prelude.{IsSome}
use Rattle.store_api.proofs.May.{may_do-then}
use Rattle.frozen_btree.specs.Changes.{levels}
use Rattle.bit_vector.proofs.CountLemmas.{nodes_more, nodes_then}
use Rattle.bit_vector.proofs.SetLemmas.{no_numbers}
use Rattle.bit_vector.proofs.TurnLemmas.{listed, number_keyed, owns_old, owns_tree, takes_block}
use Rattle.bit_vector.proofs.changing.take_block.Goals as goal

pub remove-requires : goal.remove-requires
remove-requires g c =
    let a = g.S.Store.ledger c.args.store.now in
    let m = g.S.Frozen.records c.args.store.now in (
      omega arith,
      (
        c.requires.unit,
        (
          number_keyed m c.args.root c.requires.vector.tree_is,
          (
            subst IsSome (sym c.requires.has) refl,
            owns_tree a a a m m m c.args.root 0 c.args.number (c.args.old ∷ []) [] c.requires.vector c.requires.owns (ap listed c.requires.has),
          ),
        ),
      ),
    )

pub drop_one-requires : goal.drop_one-requires
drop_one-requires g c =
    let a = g.S.Store.ledger c.args.store.now in
    let m = g.S.Frozen.records c.args.store.now in
    let b = g.S.Store.ledger c.remove.new.store in
    let n = g.S.Frozen.records c.remove.new.store in (
      omega arith,
      (
        search rules,
        owns_old a b b m n n c.args.root c.in_ok-next.next c.args.number (c.args.old ∷ []) [] c.requires.vector c.requires.owns (ap listed c.requires.has) c.in_ok-next.ensures.turns,
      ),
    )

pub returns-clause-sets : goal.returns-clause-sets
returns-clause-sets g c =
    let ledger = g.S.Store.ledger in
    let records = g.S.Frozen.records in
    let s = c.args.store.now in
    let t = c.remove.new.store in
    let u = c.drop_one.new.store in
    takes_block (ledger s) (ledger t) (ledger u) (records s) (records t) (records u) c.args.root c.in_ok-next.next c.args.number (c.args.old ∷ []) [] c.requires.vector c.requires.owns
    (ap listed c.requires.has) c.in_ok-next.ensures.turns c.drop_one.ensures.turns c.in_ok-next.ensures.keyed.tree c.in_ok-next.ensures.pairs (λ r. refl) (λ r. refl)
    (no_numbers c.args.number) c.requires.owns

pub returns-in_err-next-clause-counts : goal.returns-in_err-next-clause-counts
returns-in_err-next-clause-counts g c =
    let s = c.args.store.now in
    let h = levels (g.S.Frozen.records s) c.args.root in
    nodes_more (g.S.Store.ledger s) (g.S.Store.ledger c.remove.new.store) (h + 1) (2 * h + 1) (omega arith) c.remove.ensures.counts

pub returns-clause-counts : goal.returns-clause-counts
returns-clause-counts g c =
    let ledger = g.S.Store.ledger in
    let s = c.args.store.now in
    let h = levels (g.S.Frozen.records s) c.args.root in
    nodes_more (ledger s) (ledger c.drop_one.new.store) (h + 1) (2 * h + 1) (omega arith)
    (nodes_then (ledger s) (ledger c.remove.new.store) (ledger c.drop_one.new.store) (h + 1) c.remove.ensures.counts c.drop_one.ensures.none_made)

pub returns-clause-may : goal.returns-clause-may
returns-clause-may g c = may_do-then _ _ _ c.remove.ensures.may c.drop_one.ensures.may
