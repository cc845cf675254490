use Rattle.word_arena.specs.Ruled.{writer_of}
use Rattle.word_arena.proofs.Allowed.{store_owed}
use Rattle.word_arena.proofs.WordStored.{inside_table, may_word, knows_stored, others_stored, desk_stored}
use Rattle.word_arena.proofs.work.store_in.Goals as goal

pub store-requires : goal.store-requires
store-requires g c =
    let d = c.requires.desk.4 in (
      d.own,
      inside_table d c.args.entry c.args.i c.args.at c.requires.may c.requires.place,
      store_owed _ _ _ _ _ _ (writer_of c.args.seat.now.me.0) _ _ d.is (may_word d c.args.entry c.args.i c.args.at c.requires.may c.requires.place),
    )

pub returns-clause-desk : goal.returns-clause-desk
returns-clause-desk g c =
    let e = c.store.ensures in
    desk_stored c.requires.desk.4 c.args.entry c.args.i c.args.at c.requires.may c.requires.place c.args.word e.0 e.2.told.is e.2.told.good

pub returns-clause-knows : goal.returns-clause-knows
returns-clause-knows g c =
    let e = c.store.ensures in
    knows_stored c.requires.desk.4 c.args.entry c.args.i c.args.at c.requires.may c.requires.place c.args.word e.0 e.2.told.is

pub returns-clause-others : goal.returns-clause-others
returns-clause-others g c =
    others_stored c.requires.desk.4 c.args.entry c.args.i c.args.at c.requires.may c.requires.place c.args.word c.store.ensures.2.told.is
