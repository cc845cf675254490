use Rattle.std.proofs.Common.{refl, ap, subst, sym, ◌∙◌, ◌≡◌, ◌<◌, ℕ, length, slice_index}
use Rattle.atomic_table.specs.declared.shared.Seat.{Seat}
use Rattle.entry_ref.specs.Places.{place}
use Rattle.gen_core.specs.Work.{writer_records}
use Rattle.word_arena.specs.Ruled.{Slot, writer_of, bare}
use Rattle.word_arena.specs.Knows.{IsDesk}
use Rattle.word_arena.proofs.Guards.{seat_same}
use Rattle.word_arena.proofs.Desks.{place-inside, may_load_word, word_found, desk-prop}
use Rattle.word_arena.proofs.Allowed.{load_own_owed}
use Rattle.word_arena.specs.declared.rule.Watched.{Watched}
use Rattle.word_arena.proofs.writer.WriterFrozen.word.Goals as goal

pub load-requires : goal.load-requires
load-requires g c =
    let s = c.place_of_word-place.new.self in
    let same = c.place_of_word-place.ensures.same in
    let inside = subst (λ (n : ℕ). c.args.i < n) (λ k. length (writer_records (writer_of (sym same k).place.me.0) c.args.entry)) c.requires in
    let is = c.place_of_word-place.ensures.place ∙ (λ k. place g.row.OFFSET_BITS (sym same k).seats.arena.value.sizes.buffers (sym same k).seats.arena.value.sizes.words
    (length (writer_records (writer_of (sym same k).place.me.0) c.args.entry)) c.args.entry c.args.i) in
    rw c.arena-arena.ensures (
      s.stands.own,
      place-inside s.stands c.args.entry c.args.i inside _ is,
      load_own_owed _ _ _ _ _ _ (writer_of s.place.me.0) _ s.stands.is (may_load_word s.stands c.args.entry c.args.i inside _ is),
    )

pub returns-clause-value : goal.returns-clause-value
returns-clause-value g c =
    let s = c.place_of_word-place.new.self in
    let same = c.place_of_word-place.ensures.same in
    let inside = subst (λ (n : ℕ). c.args.i < n) (λ k. length (writer_records (writer_of (sym same k).place.me.0) c.args.entry)) c.requires in
    let is = c.place_of_word-place.ensures.place ∙ (λ k. place g.row.OFFSET_BITS (sym same k).seats.arena.value.sizes.buffers (sym same k).seats.arena.value.sizes.words
    (length (writer_records (writer_of (sym same k).place.me.0) c.args.entry)) c.args.entry c.args.i) in
    word_found s.stands c.args.entry c.args.i inside refl is c.load.ensures.2.told ∙ (λ k. slice_index (writer_records (writer_of (same k).place.me.0) c.args.entry) c.args.i)

pub returns-clause-same : goal.returns-clause-same
returns-clause-same g c =
    let s = c.place_of_word-place.new.self in
    let same = c.place_of_word-place.ensures.same in
    let l = c.load.ensures in
    let seat = seat_same s.place c.load.new.seat l.0 l.1 l.2.event.same in
    subst (λ (p : Seat Slot Watched). (st : IsDesk g.row.OFFSET_BITS s.seats.arena.value.table.shared.table_id s.seats.arena.value.sizes s.buffers.items s.holds s.last s.seats.made p.table_id
    (bare p.me)) → record s { place = p; stands = st } ≡ s) (sym seat)
    (λ st. ap (λ x. record s { stands = x }) (desk-prop _ _ _ _ _ _ _ _ _ st s.stands)) _ ∙ same
