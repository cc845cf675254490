use Rattle.word_arena.specs.Ruled.{writer_of}
use Rattle.word_arena.proofs.Allowed.{find_owed}
use Rattle.word_arena.proofs.WordStored.{inside_table, may_word, knows_stored, others_stored, desk_stored}
use Rattle.word_arena.proofs.work.find_in.Goals as goal

pub load-requires : goal.load-requires
load-requires g c =
    let d = c.requires.desk.4 in (
      d.own,
      inside_table d c.args.entry c.args.i c.args.at c.requires.may c.requires.place,
      find_owed _ _ _ _ _ _ (writer_of c.args.seat.now.me.0) _ d.is (may_word d c.args.entry c.args.i c.args.at c.requires.may c.requires.place),
    )

pub returns-clause-desk : goal.returns-clause-desk
returns-clause-desk g c =
    let e = c.load.ensures in
    desk_stored c.requires.desk.4 c.args.entry c.args.i c.args.at c.requires.may c.requires.place c.load.result e.0 e.2.told.is e.2.told.good

pub returns-clause-knows : goal.returns-clause-knows
returns-clause-knows g c =
    let e = c.load.ensures in
    knows_stored c.requires.desk.4 c.args.entry c.args.i c.args.at c.requires.may c.requires.place c.load.result e.0 e.2.told.is

pub returns-clause-others : goal.returns-clause-others
returns-clause-others g c =
    others_stored c.requires.desk.4 c.args.entry c.args.i c.args.at c.requires.may c.requires.place c.load.result c.load.ensures.2.told.is
