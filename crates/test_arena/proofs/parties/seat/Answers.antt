use Rattle.std.proofs.Common.{sym, subst}
use Rattle.arena_api.specs.Calls.{IsFresh}
use Rattle.word_arena.specs.Knows.{view_of}
use Rattle.word_arena.specs.Ruled.{writer_of}
use Rattle.test_arena.proofs.KeepLemmas.{seat-fresh}
use Rattle.test_arena.proofs.parties.seat.Goals as goal

pub returns-in-Ok : goal.returns-in-Ok
returns-in-Ok c =
    let old = c.args.writer.now.place in
    let new = c.reader.new.self.place in
    subst (λ z. IsFresh (view_of z (writer_of new.me.0))) (sym c.reader.ensures.table)
    (subst (λ w. IsFresh (view_of old.table_id w)) (sym c.in-Ok.ensures.ok.2) (seat-fresh old.table_id (writer_of old.me.0) c.requires))

pub returns-in-Err : goal.returns-in-Err
returns-in-Err c = subst (λ w. IsFresh (view_of w.place.table_id (writer_of w.place.me.0))) (sym c.in-Err.ensures.none.2) c.requires
