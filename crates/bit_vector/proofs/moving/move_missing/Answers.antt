use Rattle.std.proofs.Common.{refl, arith}
use Rattle.store_api.specs.Calls.{IsUsedWidth}
use Rattle.store_api.proofs.May.{may_do-same}
use Rattle.frozen_btree.specs.Changes.{levels}
use Rattle.frozen_btree.proofs.Results.{is_valid, not_valid}
use Rattle.bit_vector.specs.Changes.{vector_most}
use Rattle.bit_vector.proofs.CountLemmas.{if_one, within_none}
use Rattle.bit_vector.proofs.MoveLemmas.{none_found, nothing_moves, vector_low, way_moves, way_used, way_within}
use Rattle.bit_vector.proofs.moving.move_missing.Goals as goal

pub returns-then-not-valid-clause-moves : goal.returns-then-not-valid-clause-moves
returns-then-not-valid-clause-moves g c =
    let s = c.args.store.now in
    nothing_moves g.row.OFFSET_BITS c.args.buffer c.args.number (g.S.Store.ledger s) (g.S.Frozen.records s) c.args.root c.requires.vector c.requires.owns c.requires.lacks
    (not_valid c.valid.result c.args.root c.valid.ensures.1 c.if-not-valid.true)

pub returns-then-not-valid-clause-counts : goal.returns-then-not-valid-clause-counts
returns-then-not-valid-clause-counts g c = within_none (g.S.Store.ledger c.args.store.now) (vector_most 1 10)

pub returns-then-not-valid-clause-refuses : goal.returns-then-not-valid-clause-refuses
returns-then-not-valid-clause-refuses g c = tt

pub returns-then-not-valid-clause-may : goal.returns-then-not-valid-clause-may
returns-then-not-valid-clause-may g c = may_do-same (g.S.Store.ledger c.args.store.now)

pub move_way-requires : goal.move_way-requires
move_way-requires g c = (omega arith, (c.requires.unit, (c.requires.sealed, (c.requires.vector, c.requires.owns))))

pub returns-clause-moves : goal.returns-clause-moves
returns-clause-moves g c =
    let ledger = g.S.Store.ledger in
    let records = g.S.Frozen.records in
    let s = c.args.store.now in
    let t = c.move_way.new.store in
    let bits = g.row.OFFSET_BITS in
    way_moves bits c.args.buffer c.args.number (ledger s) (ledger t) (records s) (records t) c.args.root
    (none_found bits c.args.buffer c.args.number (records s) c.args.root c.requires.lacks) c.move_way.result c.move_way.ensures.moves

pub returns-clause-counts : goal.returns-clause-counts
returns-clause-counts g c =
    let s = c.args.store.now in
    let m = g.S.Frozen.records s in
    way_within (g.S.Store.ledger s) (g.S.Store.ledger c.move_way.new.store) (levels m c.args.root) (vector_low m c.args.root c.requires.vector) c.move_way.ensures.counts

pub returns-clause-refuses : goal.returns-clause-refuses
returns-clause-refuses g c =
    let a = g.S.Store.ledger c.args.store.now in
    let m = g.S.Frozen.records c.args.store.now in
    let used = way_used a m c.args.root c.requires.vector c.requires.owns (is_valid c.valid.result c.args.root c.valid.ensures.0 c.if-not-valid.false) in
    if_one (IsUsedWidth a m) a a (g.S.Store.ledger c.move_way.new.store) 34 c.move_way.result (may_do-same a) refl used c.move_way.ensures.refuses

pub returns-clause-may : goal.returns-clause-may
returns-clause-may g c = c.move_way.ensures.may
