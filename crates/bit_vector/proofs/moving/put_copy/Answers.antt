use Rattle.std.proofs.Common.{◌≡◌, ◌∷◌, [], ℕ, ap, subst, arith, ◌∙◌, ◌+◌, ◌*◌}
use Rattle.std.proofs.lemmas.Result.{err_from_is_err_and}
use Rattle.store_api.specs.Parts.{entry}
use Rattle.store_api.proofs.May.{may_do-then}
use Rattle.tree_read.specs.Pairs.{put}
use Rattle.tree_read.specs.Trees.{tree_pairs}
use Rattle.frozen_btree.specs.Changes.{levels}
use Rattle.doc_vector.proofs.DocumentLemmas.{same_number}
use Rattle.bit_vector.specs.Blocks.{beside_block}
use Rattle.bit_vector.proofs.CountLemmas.{nodes_then}
use Rattle.bit_vector.proofs.MoveLemmas.{copy_form, copy_numbers, put_copies}
use Rattle.bit_vector.proofs.TurnLemmas.{listed, number_keyed, owns_old, owns_tree, put_pairs, puts_block}
use Rattle.bit_vector.proofs.moving.put_copy.Goals as goal

pub insert-requires : goal.insert-requires
insert-requires g c =
    let a = g.S.Store.ledger c.args.store.now in
    let m = g.S.Frozen.records c.args.store.now in (
      omega arith,
      (
        c.requires.unit,
        (
          number_keyed m c.args.root c.requires.vector.tree_is,
          (
            record { readable = tt; apart = tt; equal = same_number c.args.number },
            owns_tree a a a m m m c.args.root 0 c.args.number (c.args.block ∷ []) (entry c.args.copy ∷ []) c.requires.vector c.requires.owns (ap listed c.requires.has),
          ),
        ),
      ),
    )

pub drop_one-requires : goal.drop_one-requires
drop_one-requires g c =
    let a = g.S.Store.ledger c.args.store.now in
    let m = g.S.Frozen.records c.args.store.now in
    let b = g.S.Store.ledger c.insert.new.store in
    let n = g.S.Frozen.records c.insert.new.store in (
      omega arith,
      (
        c.insert.ensures.may.unit ∙ c.requires.unit,
        owns_old a b b m n n c.args.root c.in_ok-next.next c.args.number (c.args.block ∷ []) (entry c.args.copy ∷ []) c.requires.vector c.requires.owns (ap listed c.requires.has)
            c.in_ok-next.ensures.turns,
      ),
    )

pub returns-in_err-next-clause-puts : goal.returns-in_err-next-clause-puts
returns-in_err-next-clause-puts g c = let p = err_from_is_err_and c.from_residual.result c.from_residual.ensures.1 in rw p.1 tt

pub returns-in_err-next-clause-counts : goal.returns-in_err-next-clause-counts
returns-in_err-next-clause-counts g c = c.insert.ensures.counts

pub returns-in_err-next-clause-refuses : goal.returns-in_err-next-clause-refuses
returns-in_err-next-clause-refuses g c =
    let p = err_from_is_err_and c.from_residual.result c.from_residual.ensures.1 in rw (p.1, p.2) c.in_err-next.ensures.refuses

pub returns-in_err-next-clause-may : goal.returns-in_err-next-clause-may
returns-in_err-next-clause-may g c = c.insert.ensures.may

pub returns-clause-puts : goal.returns-clause-puts
returns-clause-puts g c =
    let ledger = g.S.Store.ledger in
    let records = g.S.Frozen.records in
    let s = c.args.store.now in
    let t = c.insert.new.store in
    let u = c.drop_one.new.store in
    let m = records s in
    let form = copy_form m c.args.root c.args.number c.args.copy c.args.block c.requires.vector c.requires.has c.requires.same in
    let numbers = copy_numbers m c.args.root c.args.number c.args.copy c.args.block c.requires.vector c.requires.has c.requires.same in
    let pairs = subst (λ (v : ℕ). tree_pairs (records t) c.in_ok-next.next ≡ put (beside_block c.args.number) (c.args.number, v) (tree_pairs m c.args.root)) c.raw.ensures c.in_ok-next.ensures.pairs in
    put_copies (ledger s) (ledger u) m (records u) c.args.root c.in_ok-next.next c.args.number c.args.copy c.args.block c.requires.vector c.requires.has c.requires.same
    (put_pairs (ledger s) (ledger t) (ledger u) m (records t) (records u) c.args.root c.in_ok-next.next c.args.number c.args.copy (c.args.block ∷ []) c.requires.vector form numbers
    c.requires.owns (ap listed c.requires.has) c.in_ok-next.ensures.turns c.drop_one.ensures.turns c.in_ok-next.ensures.keyed.tree pairs)
    (puts_block (ledger s) (ledger t) (ledger u) m (records t) (records u) c.args.root c.in_ok-next.next c.args.number c.args.copy (c.args.block ∷ []) c.requires.vector form numbers
    c.requires.owns (ap listed c.requires.has) c.in_ok-next.ensures.turns c.drop_one.ensures.turns c.in_ok-next.ensures.keyed.tree pairs)

pub returns-clause-counts : goal.returns-clause-counts
returns-clause-counts g c =
    let ledger = g.S.Store.ledger in
    let s = c.args.store.now in
    nodes_then (ledger s) (ledger c.insert.new.store) (ledger c.drop_one.new.store) (2 * levels (g.S.Frozen.records s) c.args.root + 1) c.insert.ensures.counts c.drop_one.ensures.none_made

pub returns-clause-refuses : goal.returns-clause-refuses
returns-clause-refuses g c = tt

pub returns-clause-may : goal.returns-clause-may
returns-clause-may g c = may_do-then _ _ _ c.insert.ensures.may c.drop_one.ensures.may
