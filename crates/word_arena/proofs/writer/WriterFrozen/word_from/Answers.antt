use Rattle.std.proofs.Common.{arith, refl, ap, subst, sym, ◌≡◌, ◌+◌, ◌*◌, ◌≤◌, length}
use Rattle.atomic_table.specs.declared.shared.Seat.{Seat}
use Rattle.gen_core.specs.declared.views.Sizes.{Sizes}
use Rattle.gen_core.specs.Work.{writer_records}
use Rattle.entry_ref.specs.Places.{place}
use Rattle.word_arena.specs.Ruled.{writer_of, Slot, bare}
use Rattle.word_arena.specs.Knows.{IsDesk}
use Rattle.word_arena.proofs.Desks.{arena-words, few-buffers, place-inside, word_found, may_load_word, desk-prop}
use Rattle.word_arena.proofs.Guards.{seat_same}
use Rattle.word_arena.proofs.Allowed.{load_own_owed}
use Rattle.word_arena.specs.declared.rule.Watched.{Watched}
use Rattle.word_arena.proofs.writer.WriterFrozen.word_from.Goals as goal

pub overflow_add-start : goal.overflow_add-start
overflow_add-start g c =
    let s = c.args.self.now in
    let start : c.args.start ≡ place g.row.OFFSET_BITS s.seats.arena.value.sizes.buffers s.seats.arena.value.sizes.words
    (length (writer_records (writer_of s.place.me.0) c.args.entry)) c.args.entry 0 = c.requires.start in
    let is : c.args.start + c.args.i ≡ place g.row.OFFSET_BITS s.seats.arena.value.sizes.buffers s.seats.arena.value.sizes.words (length (writer_records (writer_of s.place.me.0) c.args.entry)) c.args.entry c.args.i =
    omega (arith, start) in
    let lt = place-inside s.stands c.args.entry c.args.i c.requires.there _ is in
    let few = few-buffers s.stands in
    let words = arena-words s.stands in
    let product : s.seats.arena.value.sizes.buffers * s.seats.arena.value.sizes.words ≤ 67108864 = subst (λ (x : Sizes). x.buffers * x.words ≤ 67108864) s.stands.same_sizes s.stands.product in
    omega arith

pub load-requires : goal.load-requires
load-requires g c =
    let s = c.args.self.now in
    let start : c.args.start ≡ place g.row.OFFSET_BITS s.seats.arena.value.sizes.buffers s.seats.arena.value.sizes.words
    (length (writer_records (writer_of s.place.me.0) c.args.entry)) c.args.entry 0 = c.requires.start in
    let is : c.args.start + c.args.i ≡ place g.row.OFFSET_BITS s.seats.arena.value.sizes.buffers s.seats.arena.value.sizes.words (length (writer_records (writer_of s.place.me.0) c.args.entry)) c.args.entry c.args.i =
    omega (arith, start) in
    rw c.arena-arena.ensures (
      s.stands.own,
      place-inside s.stands c.args.entry c.args.i c.requires.there _ is,
      load_own_owed _ _ _ _ _ _ (writer_of s.place.me.0) _ s.stands.is (may_load_word s.stands c.args.entry c.args.i c.requires.there _ is),
    )

pub returns-clause-value : goal.returns-clause-value
returns-clause-value g c =
    let s = c.args.self.now in
    let start : c.args.start ≡ place g.row.OFFSET_BITS s.seats.arena.value.sizes.buffers s.seats.arena.value.sizes.words
    (length (writer_records (writer_of s.place.me.0) c.args.entry)) c.args.entry 0 = c.requires.start in
    let is : c.args.start + c.args.i ≡ place g.row.OFFSET_BITS s.seats.arena.value.sizes.buffers s.seats.arena.value.sizes.words (length (writer_records (writer_of s.place.me.0) c.args.entry)) c.args.entry c.args.i =
    omega (arith, start) in
    word_found s.stands c.args.entry c.args.i c.requires.there refl is c.load.ensures.2.told

pub returns-clause-same : goal.returns-clause-same
returns-clause-same g c =
    let s = c.args.self.now in
    let l = c.load.ensures in
    let seat = seat_same s.place c.load.new.seat l.0 l.1 l.2.event.same in
    subst (λ (p : Seat Slot Watched). (st : IsDesk g.row.OFFSET_BITS s.seats.arena.value.table.shared.table_id s.seats.arena.value.sizes s.buffers.items s.holds s.last s.seats.made p.table_id
    (bare p.me))
    → record s { place = p; stands = st } ≡ s) (sym seat)
    (λ st. ap (λ x. record s { stands = x }) (desk-prop _ _ _ _ _ _ _ _ _ st s.stands)) _
