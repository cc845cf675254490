use Rattle.std.proofs.Common.{◌≡◌, ◌∷◌, [], ℕ, rules, ap, subst, arith, ◌+◌, ◌*◌}
use Rattle.store_api.specs.Parts.{entry}
use Rattle.store_api.proofs.May.{may_do-then}
use Rattle.tree_read.specs.Pairs.{put}
use Rattle.tree_read.specs.Trees.{tree_pairs}
use Rattle.frozen_btree.specs.Changes.{levels}
use Rattle.doc_vector.proofs.DocumentLemmas.{same_number}
use Rattle.bit_vector.specs.Blocks.{beside_block}
use Rattle.bit_vector.proofs.CountLemmas.{nodes_then}
use Rattle.bit_vector.proofs.TurnLemmas.{listed, number_keyed, owns_old, owns_tree, puts_block}
use Rattle.bit_vector.proofs.changing.replace_block.Goals as goal

pub insert-requires : goal.insert-requires
insert-requires g c =
    let a = g.S.Store.ledger c.args.store.now in
    let m = g.S.Frozen.records c.args.store.now in (
      omega arith,
      (
        c.requires.unit,
        (
          number_keyed m c.args.root c.requires.vector.tree_is,
          (
            record { readable = tt; apart = tt; equal = same_number c.args.number },
            owns_tree a a a m m m c.args.root 0 c.args.number (c.args.old ∷ []) (entry c.args.block ∷ []) c.requires.vector c.requires.owns (ap listed c.requires.has),
          ),
        ),
      ),
    )

pub drop_one-requires : goal.drop_one-requires
drop_one-requires g c =
    let a = g.S.Store.ledger c.args.store.now in
    let m = g.S.Frozen.records c.args.store.now in
    let b = g.S.Store.ledger c.insert.new.store in
    let n = g.S.Frozen.records c.insert.new.store in (
      omega arith,
      (
        search rules,
        owns_old a b b m n n c.args.root c.in_ok-next.next c.args.number (c.args.old ∷ []) (entry c.args.block ∷ []) c.requires.vector c.requires.owns (ap listed c.requires.has)
            c.in_ok-next.ensures.turns,
      ),
    )

pub returns-clause-sets : goal.returns-clause-sets
returns-clause-sets g c =
    let ledger = g.S.Store.ledger in
    let records = g.S.Frozen.records in
    let s = c.args.store.now in
    let t = c.insert.new.store in
    let u = c.drop_one.new.store in
    puts_block (ledger s) (ledger t) (ledger u) (records s) (records t) (records u) c.args.root c.in_ok-next.next c.args.number c.args.block (c.args.old ∷ []) c.requires.vector c.requires.form
    c.requires.numbers c.requires.owns (ap listed c.requires.has) c.in_ok-next.ensures.turns c.drop_one.ensures.turns c.in_ok-next.ensures.keyed.tree
    (subst (λ (v : ℕ). tree_pairs (records t) c.in_ok-next.next ≡ put (beside_block c.args.number) (c.args.number, v) (tree_pairs (records s) c.args.root)) c.raw.ensures c.in_ok-next.ensures.pairs)

pub returns-clause-counts : goal.returns-clause-counts
returns-clause-counts g c =
    let ledger = g.S.Store.ledger in
    let s = c.args.store.now in
    nodes_then (ledger s) (ledger c.insert.new.store) (ledger c.drop_one.new.store) (2 * levels (g.S.Frozen.records s) c.args.root + 1) c.insert.ensures.counts c.drop_one.ensures.none_made

pub returns-clause-may : goal.returns-clause-may
returns-clause-may g c = may_do-then _ _ _ c.insert.ensures.may c.drop_one.ensures.may
