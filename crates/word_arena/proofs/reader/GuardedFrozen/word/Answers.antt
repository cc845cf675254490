use Rattle.std.proofs.Common.{refl, ap, subst, sym, ◌∙◌, ◌≡◌, ◌<◌, ℕ, length, slice_index}
use Rattle.atomic_table.specs.declared.shared.Seat.{Seat}
use Rattle.entry_ref.specs.Images.{words_at}
use Rattle.entry_ref.specs.Places.{place}
use Rattle.word_arena.specs.Ruled.{Slot, reader_of, seen_image, IsGuard, bare}
use Rattle.word_arena.proofs.Guards.{place-inside, word_found, may_load_word, seat_same, guard-prop}
use Rattle.word_arena.proofs.Allowed.{load_word_owed}
use Rattle.word_arena.specs.declared.rule.Watched.{Watched}
use Rattle.word_arena.proofs.reader.GuardedFrozen.word.Goals as goal

pub load-requires : goal.load-requires
load-requires g c =
    let s = c.place_of_word-place.new.self in
    let same = c.place_of_word-place.ensures.same in
    let inside = subst (λ (n : ℕ). c.args.i < n) (λ k. length (words_at (seen_image (reader_of (sym same k).place.me.0)) c.args.entry)) c.requires in
    let is = c.place_of_word-place.ensures.place ∙ (λ k. place g.row.OFFSET_BITS (sym same k).arena.value.sizes.buffers (sym same k).arena.value.sizes.words
    (length (words_at (seen_image (reader_of (sym same k).place.me.0)) c.args.entry)) c.args.entry c.args.i) in
    rw c.deref-arena.ensures (
      s.stands.post.own,
      place-inside s.stands c.args.entry c.args.i inside _ is,
      load_word_owed _ _ _ _ _ _ (reader_of s.place.me.0) _ s.stands.post.is (may_load_word s.stands c.args.entry c.args.i inside _ is),
    )

pub returns-clause-value : goal.returns-clause-value
returns-clause-value g c =
    let s = c.place_of_word-place.new.self in
    let same = c.place_of_word-place.ensures.same in
    let inside = subst (λ (n : ℕ). c.args.i < n) (λ k. length (words_at (seen_image (reader_of (sym same k).place.me.0)) c.args.entry)) c.requires in
    let is = c.place_of_word-place.ensures.place ∙ (λ k. place g.row.OFFSET_BITS (sym same k).arena.value.sizes.buffers (sym same k).arena.value.sizes.words
    (length (words_at (seen_image (reader_of (sym same k).place.me.0)) c.args.entry)) c.args.entry c.args.i) in
    word_found s.stands c.args.entry c.args.i inside refl is c.load.ensures.2.told ∙ (λ k. slice_index (words_at (seen_image (reader_of (same k).place.me.0)) c.args.entry) c.args.i)

pub returns-clause-same : goal.returns-clause-same
returns-clause-same g c =
    let s = c.place_of_word-place.new.self in
    let same = c.place_of_word-place.ensures.same in
    let l = c.load.ensures in
    let seat = seat_same s.place c.load.new.seat l.0 l.1 l.2.event.1.same in
    subst (λ (p : Seat Slot Watched). (st : IsGuard g.row.OFFSET_BITS s.arena.value.table.shared.table_id s.arena.value.sizes s.hold s.found p.table_id (bare p.me))
    → record s { place = p; stands = st } ≡ s) (sym seat)
    (λ st. ap (λ x. record s { stands = x }) (guard-prop _ _ _ _ _ _ _ st s.stands)) _ ∙ same
