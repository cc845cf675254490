use Rattle.std.proofs.Common.{arith, ap, refl, ◌+◌, ℕ}
use Rattle.gen_core.specs.Events.{with_reader}
use Rattle.word_arena.specs.Ruled.{writer_of, bare}
use Rattle.word_arena.proofs.Allowed.{split_owed}
use Rattle.word_arena.proofs.Desks.{desk-some, desk_after, good-reader}
use Rattle.word_arena.proofs.writer.Writer.reader.Goals as goal

pub split_seat-place-requires : goal.split_seat-place-requires
split_seat-place-requires g c =
    let s = c.args.self.now in
    let few = c.if-self-ge-MOST_READERS.false in rw c.arena-held.ensures (
      s.stands.own,
      desk-some s.stands,
      split_owed g.L.Layout.reaches g.L.Layout.lawful _ 0 _ _ (writer_of s.place.me.0) s.stands.is
          (record { calm = s.stands.calm; few = let h = s.stands.readers.0 in omega arith }),
    )

pub invariant_of-self : goal.invariant_of-self
invariant_of-self g c =
    let s = c.args.self.now in
    let w = writer_of s.place.me.0 in
    let e = c.split_seat-place.ensures in
    record {
      stands = rw (c.next-arena.ensures.arena, c.next-arena.ensures.made) (desk_after s.stands (with_reader w) e.0 (ap bare e.2) refl s.stands.same_buffers s.stands.same_holds s.stands.commits (
        ap (λ (n : ℕ). n + 1) s.stands.readers.0,
        (let below = c.if-self-ge-MOST_READERS.false in
            omega arith),
      ) s.stands.calm (good-reader w s.stands.good) (record { none = s.stands.entries.none }));
    }

pub returns-then-self-ge-MOST_READERS-clause-none : goal.returns-then-self-ge-MOST_READERS-clause-none
returns-then-self-ge-MOST_READERS-clause-none g c =
    let s = c.args.self.now in
    let same = s.stands.readers.0 in
    let few = s.stands.readers.1 in
    let many = c.if-self-ge-MOST_READERS.true in
    (omega arith, omega arith, refl)

pub returns-clause-seat : goal.returns-clause-seat
returns-clause-seat g c =
    let same = c.args.self.now.stands.readers.0 in
    let below = c.if-self-ge-MOST_READERS.false in
    omega arith
