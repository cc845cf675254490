use Rattle.std.proofs.Common.{◌<◌, arith, rules, ap, subst, sym, ◌∙◌, ◌≡◌, ◌+◌, length}
use Rattle.atomic_table.specs.declared.shared.Seat.{Seat}
use Rattle.atomic_table.specs.Seated.{TableId}
use Rattle.entry_ref.specs.Images.{words_at}
use Rattle.entry_ref.specs.Places.{place, size_of}
use Rattle.word_arena.specs.Ruled.{reader_of, seen_image, Slot, IsGuard, bare}
use Rattle.word_arena.proofs.Guards.{few-buffers, place-inside, guard-prop}
use Rattle.word_arena.specs.declared.rule.Watched.{Watched}
use Rattle.word_arena.proofs.reader.GuardedFrozen.read_from.Goals as goal

pub overflow_add-at : goal.overflow_add-at
overflow_add-at g c =
    let s = c.args.self.now in
    let low : c.args.first < length (words_at (seen_image (reader_of s.place.me.0)) c.args.entry) = search rules in
    let start : c.args.start ≡ place g.row.OFFSET_BITS s.arena.value.sizes.buffers s.arena.value.sizes.words (length (words_at (seen_image (reader_of s.place.me.0)) c.args.entry)) c.args.entry 0 = c.requires.start in
    let is : c.args.start + c.args.first ≡ place g.row.OFFSET_BITS s.arena.value.sizes.buffers s.arena.value.sizes.words
    (length (words_at (seen_image (reader_of s.place.me.0)) c.args.entry)) c.args.entry c.args.first =
    omega (arith, start) in
    let lt = place-inside s.stands c.args.entry c.args.first low _ is in
    let few = few-buffers s.stands in
    let words : s.arena.value.table.shared.table_id.words ≡ size_of s.arena.value.sizes.buffers s.arena.value.sizes.words =
    ap (λ (x : TableId). x.words) (sym s.stands.post.own) ∙ s.stands.post.words in
    let product = s.stands.post.product in
    let from : c.from.result ≡ c.args.first = c.from.ensures in
    omega arith

pub returns-clause-same : goal.returns-clause-same
returns-clause-same g c =
    let s = c.args.self.now in
    subst (λ (p : Seat Slot Watched). (st : IsGuard g.row.OFFSET_BITS s.arena.value.table.shared.table_id s.arena.value.sizes s.hold s.found p.table_id (bare p.me))
    → record s { place = p; stands = st } ≡ s) (sym c.load_words.ensures.same)
    (λ st. ap (λ x. record s { stands = x }) (guard-prop _ _ _ _ _ _ _ st s.stands)) _
