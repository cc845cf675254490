use Rattle.std.proofs.Common.{◌<◌, arith, rules, ap, subst, sym, ◌≡◌, ◌+◌, ◌*◌, ◌≤◌, length}
use Rattle.atomic_table.specs.declared.shared.Seat.{Seat}
use Rattle.gen_core.specs.declared.views.Sizes.{Sizes}
use Rattle.gen_core.specs.Work.{writer_records}
use Rattle.entry_ref.specs.Places.{place}
use Rattle.word_arena.specs.Ruled.{writer_of, Slot, bare}
use Rattle.word_arena.specs.Knows.{IsDesk}
use Rattle.word_arena.proofs.Desks.{arena-words, few-buffers, place-inside, desk-prop}
use Rattle.word_arena.specs.declared.rule.Watched.{Watched}
use Rattle.word_arena.proofs.writer.WriterFrozen.read_from.Goals as goal

pub overflow_add-at : goal.overflow_add-at
overflow_add-at g c =
    let s = c.args.self.now in
    let low : c.args.first < length (writer_records (writer_of s.place.me.0) c.args.entry) = search rules in
    let start : c.args.start ≡ place g.row.OFFSET_BITS s.seats.arena.value.sizes.buffers s.seats.arena.value.sizes.words
    (length (writer_records (writer_of s.place.me.0) c.args.entry)) c.args.entry 0 = c.requires.start in
    let is : c.args.start + c.args.first ≡ place g.row.OFFSET_BITS s.seats.arena.value.sizes.buffers s.seats.arena.value.sizes.words
    (length (writer_records (writer_of s.place.me.0) c.args.entry)) c.args.entry c.args.first =
    omega (arith, start) in
    let lt = place-inside s.stands c.args.entry c.args.first low _ is in
    let few = few-buffers s.stands in
    let words = arena-words s.stands in
    let product : s.seats.arena.value.sizes.buffers * s.seats.arena.value.sizes.words ≤ 67108864 = subst (λ (x : Sizes). x.buffers * x.words ≤ 67108864) s.stands.same_sizes s.stands.product in
    let from : c.from.result ≡ c.args.first = c.from.ensures in
    omega arith

pub returns-clause-same : goal.returns-clause-same
returns-clause-same g c =
    let s = c.args.self.now in
    subst (λ (p : Seat Slot Watched). (st : IsDesk g.row.OFFSET_BITS s.seats.arena.value.table.shared.table_id s.seats.arena.value.sizes s.buffers.items s.holds s.last s.seats.made p.table_id
    (bare p.me))
    → record s { place = p; stands = st } ≡ s) (sym c.load_words.ensures.same)
    (λ st. ap (λ x. record s { stands = x }) (desk-prop _ _ _ _ _ _ _ _ _ st s.stands)) _
