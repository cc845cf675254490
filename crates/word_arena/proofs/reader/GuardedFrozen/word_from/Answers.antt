use Rattle.std.proofs.Common.{arith, refl, ap, subst, sym, ◌∙◌, ◌≡◌, ◌+◌, length}
use Rattle.atomic_table.specs.declared.shared.Seat.{Seat}
use Rattle.atomic_table.specs.Seated.{TableId}
use Rattle.entry_ref.specs.Images.{words_at}
use Rattle.entry_ref.specs.Places.{place, size_of}
use Rattle.word_arena.specs.Ruled.{reader_of, seen_image, Slot, IsGuard, bare}
use Rattle.word_arena.proofs.Guards.{few-buffers, place-inside, word_found, may_load_word, guard-prop, seat_same}
use Rattle.word_arena.proofs.Allowed.{load_word_owed}
use Rattle.word_arena.specs.declared.rule.Watched.{Watched}
use Rattle.word_arena.proofs.reader.GuardedFrozen.word_from.Goals as goal

pub overflow_add-start : goal.overflow_add-start
overflow_add-start g c =
    let s = c.args.self.now in
    let start : c.args.start ≡ place g.row.OFFSET_BITS s.arena.value.sizes.buffers s.arena.value.sizes.words (length (words_at (seen_image (reader_of s.place.me.0)) c.args.entry)) c.args.entry 0 = c.requires.start in
    let is : c.args.start + c.args.i ≡ place g.row.OFFSET_BITS s.arena.value.sizes.buffers s.arena.value.sizes.words (length (words_at (seen_image (reader_of s.place.me.0)) c.args.entry)) c.args.entry c.args.i =
    omega (arith, start) in
    let lt = place-inside s.stands c.args.entry c.args.i c.requires.there _ is in
    let few = few-buffers s.stands in
    let words : s.arena.value.table.shared.table_id.words ≡ size_of s.arena.value.sizes.buffers s.arena.value.sizes.words =
    ap (λ (x : TableId). x.words) (sym s.stands.post.own) ∙ s.stands.post.words in
    let product = s.stands.post.product in
    omega arith

pub load-requires : goal.load-requires
load-requires g c =
    let s = c.args.self.now in
    let start : c.args.start ≡ place g.row.OFFSET_BITS s.arena.value.sizes.buffers s.arena.value.sizes.words (length (words_at (seen_image (reader_of s.place.me.0)) c.args.entry)) c.args.entry 0 = c.requires.start in
    let is : c.args.start + c.args.i ≡ place g.row.OFFSET_BITS s.arena.value.sizes.buffers s.arena.value.sizes.words (length (words_at (seen_image (reader_of s.place.me.0)) c.args.entry)) c.args.entry c.args.i =
    omega (arith, start) in
    rw c.deref-arena.ensures (
      s.stands.post.own,
      place-inside s.stands c.args.entry c.args.i c.requires.there _ is,
      load_word_owed _ _ _ _ _ _ (reader_of s.place.me.0) _ s.stands.post.is (may_load_word s.stands c.args.entry c.args.i c.requires.there _ is),
    )

pub returns-clause-value : goal.returns-clause-value
returns-clause-value g c =
    let s = c.args.self.now in
    let start : c.args.start ≡ place g.row.OFFSET_BITS s.arena.value.sizes.buffers s.arena.value.sizes.words (length (words_at (seen_image (reader_of s.place.me.0)) c.args.entry)) c.args.entry 0 = c.requires.start in
    let is : c.args.start + c.args.i ≡ place g.row.OFFSET_BITS s.arena.value.sizes.buffers s.arena.value.sizes.words (length (words_at (seen_image (reader_of s.place.me.0)) c.args.entry)) c.args.entry c.args.i =
    omega (arith, start) in
    word_found s.stands c.args.entry c.args.i c.requires.there refl is c.load.ensures.2.told

pub returns-clause-same : goal.returns-clause-same
returns-clause-same g c =
    let s = c.args.self.now in
    let l = c.load.ensures in
    let seat = seat_same s.place c.load.new.seat l.0 l.1 l.2.event.1.same in
    subst (λ (p : Seat Slot Watched). (st : IsGuard g.row.OFFSET_BITS s.arena.value.table.shared.table_id s.arena.value.sizes s.hold s.found p.table_id (bare p.me))
    → record s { place = p; stands = st } ≡ s) (sym seat)
    (λ st. ap (λ x. record s { stands = x }) (guard-prop _ _ _ _ _ _ _ st s.stands)) _
