use Rattle.std.proofs.Common.{ap, refl, subst, ◌∙◌, ◌≡◌, [], ◌∷◌, ◌++◌}
use Rattle.atomic_table.specs.Table.{Me}
use Rattle.gen_core.specs.declared.views.View.{View}
use Rattle.gen_core.specs.declared.views.View.TheVariants.{Writer}
use Rattle.gen_core.specs.declared.views.WriterView.{WriterView}
use Rattle.gen_core.specs.Events.{joined}
use Rattle.word_arena.specs.Ruled.{Slot, writer_of, reader_of, bare}
use Rattle.word_arena.proofs.Allowed.{join_owed, meet_owed}
use Rattle.word_arena.proofs.Desks.{desk-some, desk_after, good-joined}
use Rattle.gen_core.specs.declared.views.Sizes.{Sizes}
use Rattle.gen_core.proofs.Layouts.{IsLayout}
use Rattle.word_arena.specs.declared.rule.Watched.{Watched}
use Rattle.word_arena.specs.Released.{IsWholeRun}
use Rattle.word_arena.specs.Runs.{KnowsCommits}
use Rattle.word_arena.proofs.HandsOut.{whole_run}
use Rattle.word_arena.proofs.RunLemmas.{loads_root, knows_commits, took_reads}
use Rattle.gen_core.specs.declared.views.Event.TheVariants.{MeetLoad}
use Rattle.word_arena.proofs.writer.Writer.take_in.Goals as goal

pub join_seat-requires : goal.join_seat-requires
join_seat-requires g c =
    let s = c.args.self.now in
    let r = c.args.reader in rw c.arena-arena.ensures (
      s.stands.own,
      c.requires ∙ s.stands.own,
      ap (λ (m : Me Slot View). m.1) r.stands.post.is,
      desk-some s.stands,
      join_owed g.L.Layout.reaches g.L.Layout.lawful _ 0 _ _ (writer_of s.place.me.0) _ _ (reader_of r.place.me.0) s.stands.is r.stands.post.is (record { calm = s.stands.calm; idle = r.stands.idle }),
    )

pub load-requires : goal.load-requires
load-requires g c =
    let s = c.args.self.now in
    let r = c.args.reader in
    let v : WriterView = joined (writer_of s.place.me.0) (reader_of r.place.me.0) in
    let slots : s.place.me.1 ≡ [] = ap (λ (m : Me Slot View). m.1) s.stands.is in
    rw c.arena-arena.ensures (c.join_seat.ensures.0 ∙ s.stands.own, desk-some s.stands, meet_owed _ _ _ _ _ _ v (ap bare c.join_seat.ensures.2 ∙ (λ k. (Writer v, slots k))) s.stands.calm)

pub invariant_of-self : goal.invariant_of-self
invariant_of-self g c =
    let s = c.args.self.now in
    let r = c.args.reader in
    let w : WriterView = writer_of s.place.me.0 in
    let v : WriterView = joined w (reader_of r.place.me.0) in
    let j = c.join_seat.ensures in
    let l = c.load.ensures in
    record {
      stands = desk_after s.stands v (l.0 ∙ j.0) (l.2.told.same ∙ ap bare j.2) refl s.stands.same_buffers s.stands.same_holds s.stands.commits s.stands.readers s.stands.calm
          (good-joined w (reader_of r.place.me.0) s.stands.good) (record { none = s.stands.entries.none });
    }

pub returns-clause-run : goal.returns-clause-run
returns-clause-run g c =
    let layout : IsLayout g.L.Layout.reaches g.L.Layout.lawful = record { empty_reaches = g.L.Layout.empty_reaches; empty_lawful = g.L.Layout.empty_lawful; present = g.L.Layout.present; stays = g.L.Layout.stays } in
    subst (λ (z : Sizes). IsWholeRun g.L.Layout.reaches g.L.Layout.lawful z c.load.new.seat.me.0.seen) (ap (λ (m : Me Slot Watched). (writer_of m.0).sizes) c.join_seat.ensures.2)
    (whole_run g.L.Layout.reaches g.L.Layout.lawful layout _ _ _ _ c.load.ensures.2.event)

-- the join changes the view alone
pub returns-clause-meets : goal.returns-clause-meets
returns-clause-meets g c =
    let k = loads_root c.load.ensures.2.event in
    record {
      between = k.between;
      seen = k.seen ∙ ap (λ (m : Me Slot Watched). (m.0.seen ++ k.between) ++ MeetLoad ∷ []) c.join_seat.ensures.2;
      mine = k.mine ∙ ap (λ (m : Me Slot Watched). m.0.mine ++ MeetLoad ∷ []) c.join_seat.ensures.2;
    }

pub returns-clause-reads : goal.returns-clause-reads
returns-clause-reads g c = took_reads g.L.Layout.reaches g.L.Layout.lawful MeetLoad refl _ _ _ _ c.load.ensures.2.event

pub returns-clause-knows : goal.returns-clause-knows
returns-clause-knows g c =
    subst (λ (z : Sizes). KnowsCommits g.L.Layout.reaches g.L.Layout.lawful z c.load.new.seat.me.0) (ap (λ (m : Me Slot Watched). (writer_of m.0).sizes) c.join_seat.ensures.2)
    (knows_commits g.L.Layout.reaches g.L.Layout.lawful MeetLoad refl _ _ _ _ c.load.ensures.2.event)
