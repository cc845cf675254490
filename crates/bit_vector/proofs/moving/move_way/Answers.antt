use Rattle.std.proofs.Common.{arith}
use Rattle.bit_vector.proofs.MoveLemmas.{way_if, way_owned}
use Rattle.bit_vector.proofs.TurnLemmas.{number_keyed}
use Rattle.bit_vector.proofs.moving.move_way.Goals as goal

pub touch-requires : goal.touch-requires
touch-requires g c =
    let a = g.S.Store.ledger c.args.store.now in
    let m = g.S.Frozen.records c.args.store.now in (
      omega arith,
      (
        c.requires.unit,
        (
          c.requires.sealed,
          (
            number_keyed m c.args.root c.requires.vector.tree_is,
            way_owned g.row.OFFSET_BITS c.args.buffer c.args.number a a m m c.args.root c.requires.vector c.requires.owns,
          ),
        ),
      ),
    )

pub returns-clause-moves : goal.returns-clause-moves
returns-clause-moves g c =
    let ledger = g.S.Store.ledger in
    let records = g.S.Frozen.records in
    let s = c.args.store.now in
    let t = c.touch.new.store in
    let it = c.touch.ensures in
    way_if g.row.OFFSET_BITS c.args.buffer c.args.number (ledger s) (ledger t) (records s) (records t) c.args.root c.requires.vector c.requires.owns
    c.touch.result it.keyed it.pairs it.apart it.turns

pub returns-clause-counts : goal.returns-clause-counts
returns-clause-counts g c = c.touch.ensures.counts

pub returns-clause-refuses : goal.returns-clause-refuses
returns-clause-refuses g c = c.touch.ensures.refuses

pub returns-clause-may : goal.returns-clause-may
returns-clause-may g c = c.touch.ensures.may
