use Rattle.std.proofs.Common.{◌≡◌, refl, arith}
use Rattle.entry_ref.specs.References.{buffer_of}
use Rattle.store_api.specs.Calls.{IsUsedWidth}
use Rattle.store_api.proofs.May.{may_do-same}
use Rattle.frozen_btree.specs.Changes.{levels}
use Rattle.bit_vector.proofs.CountLemmas.{if_one}
use Rattle.bit_vector.proofs.MoveLemmas.{one_found, root_some, vector_low, way_moves, way_used, way_within}
use Rattle.bit_vector.proofs.moving.move_there.Goals as goal

pub move_way-requires : goal.move_way-requires
move_way-requires g c = (omega arith, (c.requires.unit, (c.requires.sealed, (c.requires.vector, c.requires.owns))))

pub returns-then-buffer-clause-moves : goal.returns-then-buffer-clause-moves
returns-then-buffer-clause-moves g c =
    let ledger = g.S.Store.ledger in
    let records = g.S.Frozen.records in
    let s = c.args.store.now in
    let t = c.move_way.new.store in
    let bits = g.row.OFFSET_BITS in
    let apart : buffer_of bits c.args.block ≡ c.args.buffer → ⊥ = (λ e. let is = c.buffer.ensures.value in let other = c.if-buffer.true in absurd (omega arith)) in
    way_moves bits c.args.buffer c.args.number (ledger s) (ledger t) (records s) (records t) c.args.root
    (one_found bits c.args.buffer c.args.number (records s) c.args.root c.args.block c.requires.has apart) c.move_way.result c.move_way.ensures.moves

pub returns-then-buffer-clause-counts : goal.returns-then-buffer-clause-counts
returns-then-buffer-clause-counts g c =
    let s = c.args.store.now in
    let m = g.S.Frozen.records s in
    way_within (g.S.Store.ledger s) (g.S.Store.ledger c.move_way.new.store) (levels m c.args.root) (vector_low m c.args.root c.requires.vector) c.move_way.ensures.counts

pub returns-then-buffer-clause-refuses : goal.returns-then-buffer-clause-refuses
returns-then-buffer-clause-refuses g c =
    let a = g.S.Store.ledger c.args.store.now in
    let m = g.S.Frozen.records c.args.store.now in
    let used = way_used a m c.args.root c.requires.vector c.requires.owns (root_some m c.args.root c.args.number c.args.block c.requires.has) in
    if_one (IsUsedWidth a m) a a (g.S.Store.ledger c.move_way.new.store) 34 c.move_way.result (may_do-same a) refl used c.move_way.ensures.refuses

pub returns-then-buffer-clause-may : goal.returns-then-buffer-clause-may
returns-then-buffer-clause-may g c = c.move_way.ensures.may

pub move_found-requires : goal.move_found-requires
move_found-requires g c = (omega arith, (c.requires.unit, (c.requires.sealed, (c.requires.vector, (c.requires.has, c.requires.owns)))))

pub returns-clause-moves : goal.returns-clause-moves
returns-clause-moves g c = c.move_found.ensures.moves

pub returns-clause-counts : goal.returns-clause-counts
returns-clause-counts g c = c.move_found.ensures.counts

pub returns-clause-refuses : goal.returns-clause-refuses
returns-clause-refuses g c = c.move_found.ensures.refuses

pub returns-clause-may : goal.returns-clause-may
returns-clause-may g c = c.move_found.ensures.may
