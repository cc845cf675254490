use Rattle.std.proofs.Common.{arith, ap, subst, sym, ◌∙◌, ◌≡◌, ℕ}
use Rattle.entry_ref.specs.References.{buffer_of}
use Rattle.atomic_table.specs.declared.shared.Seat.{Seat}
use Rattle.entry_ref.specs.Places.{base, place, IsEntry}
use Rattle.word_arena.specs.Ruled.{Slot, writer_of, bare}
use Rattle.word_arena.specs.Knows.{IsDesk}
use Rattle.word_arena.proofs.Guards.{seat_same}
use Rattle.word_arena.proofs.Desks.{the_entry, base-below, may_load_width, width_found, few-words, few-buffers, desk-prop}
use Rattle.word_arena.proofs.Allowed.{load_own_owed}
use Rattle.word_arena.specs.declared.rule.Watched.{Watched}
use Rattle.word_arena.proofs.writer.Writer.place_of_word.Goals as goal

pub first_word-first-requires : goal.first_word-first-requires
first_word-first-requires g c = let s = c.args.self.now in rw c.arena-arena.ensures (record { few_buffers = few-buffers s.stands; few_words = few-words s.stands })

pub load-width-requires : goal.load-width-requires
load-width-requires g c =
    let s = c.args.self.now in
    let at : c.first_word-first.result ≡ base s.seats.arena.value.sizes.buffers s.seats.arena.value.sizes.words (buffer_of g.row.OFFSET_BITS c.args.entry) =
    (rw c.arena-arena.ensures at c.first_word-first.ensures) ∙ ap (λ (n : ℕ). base s.seats.arena.value.sizes.buffers s.seats.arena.value.sizes.words n) c.buffer.ensures.value in
    rw c.arena-arena.ensures (
      s.stands.own,
      base-below s.stands c.args.entry c.args.i c.requires _ at,
      load_own_owed _ _ _ _ _ _ (writer_of s.place.me.0) _ s.stands.is (may_load_width s.stands c.args.entry c.args.i c.requires _ at),
    )

pub overflow_cast-width : goal.overflow_cast-width
overflow_cast-width g c =
    let s = c.args.self.now in
    let at : c.first_word-first.result ≡ base s.seats.arena.value.sizes.buffers s.seats.arena.value.sizes.words (buffer_of g.row.OFFSET_BITS c.args.entry) =
    (rw c.arena-arena.ensures at c.first_word-first.ensures) ∙ ap (λ (n : ℕ). base s.seats.arena.value.sizes.buffers s.seats.arena.value.sizes.words n) c.buffer.ensures.value in
    let width = width_found s.stands c.args.entry c.args.i c.requires at c.load-width.ensures.2.told in
    let e = (the_entry s.stands c.args.entry c.args.i c.requires).last in
    let few = few-words s.stands in
    omega arith

pub place_of-requires : goal.place_of-requires
place_of-requires g c =
    let s = c.args.self.now in
    let at : c.first_word-first.result ≡ base s.seats.arena.value.sizes.buffers s.seats.arena.value.sizes.words (buffer_of g.row.OFFSET_BITS c.args.entry) =
    (rw c.arena-arena.ensures at c.first_word-first.ensures) ∙ ap (λ (n : ℕ). base s.seats.arena.value.sizes.buffers s.seats.arena.value.sizes.words n) c.buffer.ensures.value in
    let width = width_found s.stands c.args.entry c.args.i c.requires at c.load-width.ensures.2.told in
    let h = c.requires in
    rw c.arena-arena.ensures (
      omega arith,
      (
        subst (λ (n : ℕ). IsEntry g.row.OFFSET_BITS s.seats.arena.value.sizes.buffers s.seats.arena.value.sizes.words n c.args.entry) (sym width)
            (the_entry s.stands c.args.entry c.args.i c.requires),
        omega arith,
      ),
    )

pub returns-clause-place : goal.returns-clause-place
returns-clause-place g c =
    let s = c.args.self.now in
    let at : c.first_word-first.result ≡ base s.seats.arena.value.sizes.buffers s.seats.arena.value.sizes.words (buffer_of g.row.OFFSET_BITS c.args.entry) =
    (rw c.arena-arena.ensures at c.first_word-first.ensures) ∙ ap (λ (n : ℕ). base s.seats.arena.value.sizes.buffers s.seats.arena.value.sizes.words n) c.buffer.ensures.value in
    let width = width_found s.stands c.args.entry c.args.i c.requires at c.load-width.ensures.2.told in
    (rw c.arena-arena.ensures at c.place_of.ensures) ∙ ap (λ (n : ℕ). place g.row.OFFSET_BITS s.seats.arena.value.sizes.buffers s.seats.arena.value.sizes.words n c.args.entry c.args.i) width

pub returns-clause-same : goal.returns-clause-same
returns-clause-same g c =
    let s = c.args.self.now in
    let w = c.load-width.ensures in
    let seat = seat_same s.place c.load-width.new.seat w.0 w.1 w.2.event.same in
    subst (λ (p : Seat Slot Watched). (st : IsDesk g.row.OFFSET_BITS s.seats.arena.value.table.shared.table_id s.seats.arena.value.sizes s.buffers.items s.holds s.last s.seats.made p.table_id (bare p.me))
    → record s { place = p; stands = st } ≡ s) (sym seat)
    (λ st. ap (λ x. record s { stands = x }) (desk-prop _ _ _ _ _ _ _ _ _ st s.stands)) _
