use Rattle.std.proofs.Common.{arith, refl, ap, subst, sym, ◌∙◌, ◌≡◌, ◌+◌, ◌<◌, length, slice_index}
use Rattle.std.proofs.lemmas.List.{length-set}
use Rattle.atomic_table.specs.declared.shared.Seat.{Seat}
use Rattle.atomic_table.specs.Seated.{TableId}
use Rattle.entry_ref.specs.Images.{words_at}
use Rattle.entry_ref.specs.Places.{place, size_of}
use Rattle.word_arena.specs.Ruled.{Slot, reader_of, seen_image, IsGuard, bare}
use Rattle.word_arena.proofs.Guards.{few-buffers, place-inside, word_found, may_load_word, seat_same}
use Rattle.word_arena.proofs.Allowed.{load_word_owed}
use Rattle.word_arena.proofs.ReadLemmas.{read_more}
use Rattle.word_arena.specs.declared.rule.Watched.{Watched}
use Rattle.word_arena.proofs.reader.load_words.Goals as goal

pub overflow_add-at : goal.overflow_add-at
overflow_add-at g c =
    let s = c.loop-i.seat in
    let same = c.loop-i.invariant.same in
    let arena = c.args.arena.now in
    let there = c.requires.there in
    let at = c.requires.at in
    let room = c.loop-i.invariant.room in
    let test = c.loop-i-test.true in
    let st : IsGuard g.row.OFFSET_BITS arena.table.shared.table_id arena.sizes c.requires.guard.0 c.requires.guard.1 s.table_id (bare s.me) =
    subst (λ (x : Seat Slot Watched). IsGuard g.row.OFFSET_BITS arena.table.shared.table_id arena.sizes c.requires.guard.0 c.requires.guard.1 x.table_id (bare x.me)) (sym same) c.requires.guard.2 in
    let below : c.args.first + c.loop-i.i < length (words_at (seen_image (reader_of c.args.seat.now.me.0)) c.args.entry) = omega (arith, there, test, room) in
    let inside : c.args.first + c.loop-i.i < length (words_at (seen_image (reader_of s.me.0)) c.args.entry) =
    subst (λ (x : Seat Slot Watched). c.args.first + c.loop-i.i < length (words_at (seen_image (reader_of x.me.0)) c.args.entry)) (sym same) below in
    let on : c.args.at + c.loop-i.i ≡ place g.row.OFFSET_BITS arena.sizes.buffers arena.sizes.words
    (length (words_at (seen_image (reader_of c.args.seat.now.me.0)) c.args.entry)) c.args.entry (c.args.first + c.loop-i.i) =
    omega (arith, at) in
    let is : c.args.at + c.loop-i.i ≡ place g.row.OFFSET_BITS arena.sizes.buffers arena.sizes.words (length (words_at (seen_image (reader_of s.me.0)) c.args.entry)) c.args.entry (c.args.first + c.loop-i.i) =
    subst (λ (x : Seat Slot Watched). c.args.at + c.loop-i.i ≡ place g.row.OFFSET_BITS arena.sizes.buffers arena.sizes.words
    (length (words_at (seen_image (reader_of x.me.0)) c.args.entry)) c.args.entry (c.args.first + c.loop-i.i)) (sym same) on in
    let lt = place-inside st c.args.entry (c.args.first + c.loop-i.i) inside _ is in
    let words : arena.table.shared.table_id.words ≡ size_of arena.sizes.buffers arena.sizes.words = ap (λ (x : TableId). x.words) (sym st.post.own) ∙ st.post.words in
    let few = few-buffers st in
    let product = st.post.product in
    omega arith

pub load-requires : goal.load-requires
load-requires g c =
    let s = c.loop-i.seat in
    let same = c.loop-i.invariant.same in
    let arena = c.args.arena.now in
    let there = c.requires.there in
    let at = c.requires.at in
    let room = c.loop-i.invariant.room in
    let test = c.loop-i-test.true in
    let st : IsGuard g.row.OFFSET_BITS arena.table.shared.table_id arena.sizes c.requires.guard.0 c.requires.guard.1 s.table_id (bare s.me) =
    subst (λ (x : Seat Slot Watched). IsGuard g.row.OFFSET_BITS arena.table.shared.table_id arena.sizes c.requires.guard.0 c.requires.guard.1 x.table_id (bare x.me)) (sym same) c.requires.guard.2 in
    let below : c.args.first + c.loop-i.i < length (words_at (seen_image (reader_of c.args.seat.now.me.0)) c.args.entry) = omega (arith, there, test, room) in
    let inside : c.args.first + c.loop-i.i < length (words_at (seen_image (reader_of s.me.0)) c.args.entry) =
    subst (λ (x : Seat Slot Watched). c.args.first + c.loop-i.i < length (words_at (seen_image (reader_of x.me.0)) c.args.entry)) (sym same) below in
    let on : c.args.at + c.loop-i.i ≡ place g.row.OFFSET_BITS arena.sizes.buffers arena.sizes.words
    (length (words_at (seen_image (reader_of c.args.seat.now.me.0)) c.args.entry)) c.args.entry (c.args.first + c.loop-i.i) =
    omega (arith, at) in
    let is : c.args.at + c.loop-i.i ≡ place g.row.OFFSET_BITS arena.sizes.buffers arena.sizes.words (length (words_at (seen_image (reader_of s.me.0)) c.args.entry)) c.args.entry (c.args.first + c.loop-i.i) =
    subst (λ (x : Seat Slot Watched). c.args.at + c.loop-i.i ≡ place g.row.OFFSET_BITS arena.sizes.buffers arena.sizes.words
    (length (words_at (seen_image (reader_of x.me.0)) c.args.entry)) c.args.entry (c.args.first + c.loop-i.i)) (sym same) on in
    (st.post.own, place-inside st c.args.entry (c.args.first + c.loop-i.i) inside _ is, load_word_owed _ _ _ _ _ _ (reader_of s.me.0) _ st.post.is (may_load_word st c.args.entry (c.args.first + c.loop-i.i) inside _ is))

pub loop-i-preserved : goal.loop-i-preserved
loop-i-preserved g c =
    let s = c.loop-i.seat in
    let same = c.loop-i.invariant.same in
    let arena = c.args.arena.now in
    let there = c.requires.there in
    let at = c.requires.at in
    let room = c.loop-i.invariant.room in
    let test = c.loop-i-test.true in
    let st : IsGuard g.row.OFFSET_BITS arena.table.shared.table_id arena.sizes c.requires.guard.0 c.requires.guard.1 s.table_id (bare s.me) =
    subst (λ (x : Seat Slot Watched). IsGuard g.row.OFFSET_BITS arena.table.shared.table_id arena.sizes c.requires.guard.0 c.requires.guard.1 x.table_id (bare x.me)) (sym same) c.requires.guard.2 in
    let below : c.args.first + c.loop-i.i < length (words_at (seen_image (reader_of c.args.seat.now.me.0)) c.args.entry) = omega (arith, there, test, room) in
    let inside : c.args.first + c.loop-i.i < length (words_at (seen_image (reader_of s.me.0)) c.args.entry) =
    subst (λ (x : Seat Slot Watched). c.args.first + c.loop-i.i < length (words_at (seen_image (reader_of x.me.0)) c.args.entry)) (sym same) below in
    let on : c.args.at + c.loop-i.i ≡ place g.row.OFFSET_BITS arena.sizes.buffers arena.sizes.words
    (length (words_at (seen_image (reader_of c.args.seat.now.me.0)) c.args.entry)) c.args.entry (c.args.first + c.loop-i.i) =
    omega (arith, at) in
    let is : c.args.at + c.loop-i.i ≡ place g.row.OFFSET_BITS arena.sizes.buffers arena.sizes.words (length (words_at (seen_image (reader_of s.me.0)) c.args.entry)) c.args.entry (c.args.first + c.loop-i.i) =
    subst (λ (x : Seat Slot Watched). c.args.at + c.loop-i.i ≡ place g.row.OFFSET_BITS arena.sizes.buffers arena.sizes.words
    (length (words_at (seen_image (reader_of x.me.0)) c.args.entry)) c.args.entry (c.args.first + c.loop-i.i)) (sym same) on in
    let l = c.load.ensures in
    let found = word_found st c.args.entry (c.args.first + c.loop-i.i) inside refl is l.2.told in
    let value : c.load.result ≡ slice_index (words_at (seen_image (reader_of c.args.seat.now.me.0)) c.args.entry) (c.args.first + c.loop-i.i) =
    subst (λ (x : Seat Slot Watched). c.load.result ≡ slice_index (words_at (seen_image (reader_of x.me.0)) c.args.entry) (c.args.first + c.loop-i.i)) same found in
    record {
      same = seat_same s c.load.new.seat l.0 l.1 l.2.event.1.same ∙ same;
      room = length-set c.loop-i.into c.loop-i.i c.load.result ∙ room;
      read = read_more c.loop-i.into _ c.args.first c.loop-i.i c.load.result (omega (arith, test, room)) below value c.loop-i.invariant.read;
    }
