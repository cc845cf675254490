use Rattle.std.proofs.Common.{arith, ap, subst, sym, ◌∙◌, ◌≡◌, ℕ}
use Rattle.entry_ref.specs.References.{buffer_of}
use Rattle.atomic_table.specs.declared.shared.Seat.{Seat}
use Rattle.entry_ref.specs.Places.{base, place, IsEntry}
use Rattle.word_arena.specs.Ruled.{Slot, IsGuard, bare}
use Rattle.word_arena.proofs.Guards.{the_entry, base-below, width_found, may_load_width, seat_same, guard-prop, post-buffers}
use Rattle.word_arena.proofs.Allowed.{load_word_owed}
use Rattle.word_arena.specs.declared.rule.Watched.{Watched}
use Rattle.word_arena.proofs.reader.Guarded.place_of_word.Goals as goal

pub first_word-first-requires : goal.first_word-first-requires
first_word-first-requires g c = let s = c.args.self.now in rw c.deref-arena.ensures (record { few_buffers = post-buffers s.stands.post; few_words = s.stands.post.limits.few_words })

pub load-width-requires : goal.load-width-requires
load-width-requires g c =
    let s = c.args.self.now in
    let at : c.first_word-first.result ≡ base s.arena.value.sizes.buffers s.arena.value.sizes.words (buffer_of g.row.OFFSET_BITS c.args.entry) =
    (rw c.deref-arena.ensures at c.first_word-first.ensures) ∙ ap (λ (n : ℕ). base s.arena.value.sizes.buffers s.arena.value.sizes.words n) c.buffer.ensures.value in
    rw c.deref-arena.ensures (s.stands.post.own, base-below s.stands c.args.entry c.args.i c.requires _ at, load_word_owed _ _ _ _ _ _ _ _ s.stands.post.is (may_load_width s.stands c.args.entry c.args.i c.requires _ at))

pub overflow_cast-width : goal.overflow_cast-width
overflow_cast-width g c =
    let s = c.args.self.now in
    let at : c.first_word-first.result ≡ base s.arena.value.sizes.buffers s.arena.value.sizes.words (buffer_of g.row.OFFSET_BITS c.args.entry) =
    (rw c.deref-arena.ensures at c.first_word-first.ensures) ∙ ap (λ (n : ℕ). base s.arena.value.sizes.buffers s.arena.value.sizes.words n) c.buffer.ensures.value in
    let width = width_found s.stands c.args.entry c.args.i c.requires at c.load-width.ensures.2.told in
    let e = (the_entry s.stands c.args.entry c.args.i c.requires).last in
    let few = s.stands.post.limits.few_words in
    omega arith

pub place_of-requires : goal.place_of-requires
place_of-requires g c =
    let s = c.args.self.now in
    let at : c.first_word-first.result ≡ base s.arena.value.sizes.buffers s.arena.value.sizes.words (buffer_of g.row.OFFSET_BITS c.args.entry) =
    (rw c.deref-arena.ensures at c.first_word-first.ensures) ∙ ap (λ (n : ℕ). base s.arena.value.sizes.buffers s.arena.value.sizes.words n) c.buffer.ensures.value in
    let width = width_found s.stands c.args.entry c.args.i c.requires at c.load-width.ensures.2.told in
    let h = c.requires in
    rw c.deref-arena.ensures (
      omega arith,
      (
        subst (λ (n : ℕ). IsEntry g.row.OFFSET_BITS s.arena.value.sizes.buffers s.arena.value.sizes.words n c.args.entry) (sym width)
            (the_entry s.stands c.args.entry c.args.i c.requires),
        omega arith,
      ),
    )

pub returns-clause-place : goal.returns-clause-place
returns-clause-place g c =
    let s = c.args.self.now in
    let at : c.first_word-first.result ≡ base s.arena.value.sizes.buffers s.arena.value.sizes.words (buffer_of g.row.OFFSET_BITS c.args.entry) =
    (rw c.deref-arena.ensures at c.first_word-first.ensures) ∙ ap (λ (n : ℕ). base s.arena.value.sizes.buffers s.arena.value.sizes.words n) c.buffer.ensures.value in
    let width = width_found s.stands c.args.entry c.args.i c.requires at c.load-width.ensures.2.told in
    (rw c.deref-arena.ensures at c.place_of.ensures) ∙ ap (λ (n : ℕ). place g.row.OFFSET_BITS s.arena.value.sizes.buffers s.arena.value.sizes.words n c.args.entry c.args.i) width

pub returns-clause-same : goal.returns-clause-same
returns-clause-same g c =
    let s = c.args.self.now in
    let w = c.load-width.ensures in
    let seat = seat_same s.place c.load-width.new.seat w.0 w.1 w.2.event.1.same in
    subst (λ (p : Seat Slot Watched). (st : IsGuard g.row.OFFSET_BITS s.arena.value.table.shared.table_id s.arena.value.sizes s.hold s.found p.table_id (bare p.me))
    → record s { place = p; stands = st } ≡ s) (sym seat)
    (λ st. ap (λ x. record s { stands = x }) (guard-prop _ _ _ _ _ _ _ st s.stands)) _
