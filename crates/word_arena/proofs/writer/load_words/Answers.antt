use Rattle.std.proofs.Common.{arith, refl, subst, sym, ◌∙◌, ◌≡◌, ◌+◌, ◌*◌, ◌<◌, ◌≤◌, length, slice_index}
use Rattle.std.proofs.lemmas.List.{length-set}
use Rattle.atomic_table.specs.declared.shared.Seat.{Seat}
use Rattle.entry_ref.specs.Places.{place}
use Rattle.gen_core.specs.declared.views.Sizes.{Sizes}
use Rattle.gen_core.specs.Work.{writer_records}
use Rattle.word_arena.specs.Ruled.{Slot, writer_of, bare}
use Rattle.word_arena.specs.Knows.{IsDesk}
use Rattle.word_arena.proofs.Guards.{seat_same}
use Rattle.word_arena.proofs.Desks.{arena-words, few-buffers, place-inside, may_load_word, word_found}
use Rattle.word_arena.proofs.Allowed.{load_own_owed}
use Rattle.word_arena.proofs.ReadLemmas.{read_more}
use Rattle.word_arena.specs.declared.rule.Watched.{Watched}
use Rattle.word_arena.proofs.writer.load_words.Goals as goal

pub overflow_add-at : goal.overflow_add-at
overflow_add-at g c =
    let s = c.loop-i.seat in
    let same = c.loop-i.invariant.same in
    let arena = c.args.arena.now in
    let there = c.requires.there in
    let at = c.requires.at in
    let room = c.loop-i.invariant.room in
    let test = c.loop-i-test.true in
    let st : IsDesk g.row.OFFSET_BITS arena.table.shared.table_id arena.sizes c.requires.desk.0 c.requires.desk.1 c.requires.desk.2 c.requires.desk.3 s.table_id (bare s.me) =
    subst (λ (x : Seat Slot Watched). IsDesk g.row.OFFSET_BITS arena.table.shared.table_id arena.sizes c.requires.desk.0 c.requires.desk.1 c.requires.desk.2 c.requires.desk.3 x.table_id (bare x.me))
    (sym same) c.requires.desk.4 in
    let below : c.args.first + c.loop-i.i < length (writer_records (writer_of c.args.seat.now.me.0) c.args.entry) = omega (arith, there, test, room) in
    let inside : c.args.first + c.loop-i.i < length (writer_records (writer_of s.me.0) c.args.entry) =
    subst (λ (x : Seat Slot Watched). c.args.first + c.loop-i.i < length (writer_records (writer_of x.me.0) c.args.entry)) (sym same) below in
    let on : c.args.at + c.loop-i.i ≡ place g.row.OFFSET_BITS arena.sizes.buffers arena.sizes.words (length (writer_records (writer_of c.args.seat.now.me.0) c.args.entry)) c.args.entry (c.args.first + c.loop-i.i) =
    omega (arith, at) in
    let is : c.args.at + c.loop-i.i ≡ place g.row.OFFSET_BITS arena.sizes.buffers arena.sizes.words (length (writer_records (writer_of s.me.0) c.args.entry)) c.args.entry (c.args.first + c.loop-i.i) =
    subst (λ (x : Seat Slot Watched). c.args.at + c.loop-i.i ≡ place g.row.OFFSET_BITS arena.sizes.buffers arena.sizes.words
    (length (writer_records (writer_of x.me.0) c.args.entry)) c.args.entry (c.args.first + c.loop-i.i)) (sym same) on in
    let lt = place-inside st c.args.entry (c.args.first + c.loop-i.i) inside _ is in
    let words = arena-words st in
    let few = few-buffers st in
    let product : arena.sizes.buffers * arena.sizes.words ≤ 67108864 = subst (λ (x : Sizes). x.buffers * x.words ≤ 67108864) st.same_sizes st.product in
    omega arith

pub load-requires : goal.load-requires
load-requires g c =
    let s = c.loop-i.seat in
    let same = c.loop-i.invariant.same in
    let arena = c.args.arena.now in
    let there = c.requires.there in
    let at = c.requires.at in
    let room = c.loop-i.invariant.room in
    let test = c.loop-i-test.true in
    let st : IsDesk g.row.OFFSET_BITS arena.table.shared.table_id arena.sizes c.requires.desk.0 c.requires.desk.1 c.requires.desk.2 c.requires.desk.3 s.table_id (bare s.me) =
    subst (λ (x : Seat Slot Watched). IsDesk g.row.OFFSET_BITS arena.table.shared.table_id arena.sizes c.requires.desk.0 c.requires.desk.1 c.requires.desk.2 c.requires.desk.3 x.table_id (bare x.me))
    (sym same) c.requires.desk.4 in
    let below : c.args.first + c.loop-i.i < length (writer_records (writer_of c.args.seat.now.me.0) c.args.entry) = omega (arith, there, test, room) in
    let inside : c.args.first + c.loop-i.i < length (writer_records (writer_of s.me.0) c.args.entry) =
    subst (λ (x : Seat Slot Watched). c.args.first + c.loop-i.i < length (writer_records (writer_of x.me.0) c.args.entry)) (sym same) below in
    let on : c.args.at + c.loop-i.i ≡ place g.row.OFFSET_BITS arena.sizes.buffers arena.sizes.words (length (writer_records (writer_of c.args.seat.now.me.0) c.args.entry)) c.args.entry (c.args.first + c.loop-i.i) =
    omega (arith, at) in
    let is : c.args.at + c.loop-i.i ≡ place g.row.OFFSET_BITS arena.sizes.buffers arena.sizes.words (length (writer_records (writer_of s.me.0) c.args.entry)) c.args.entry (c.args.first + c.loop-i.i) =
    subst (λ (x : Seat Slot Watched). c.args.at + c.loop-i.i ≡ place g.row.OFFSET_BITS arena.sizes.buffers arena.sizes.words
    (length (writer_records (writer_of x.me.0) c.args.entry)) c.args.entry (c.args.first + c.loop-i.i)) (sym same) on in
    (st.own, place-inside st c.args.entry (c.args.first + c.loop-i.i) inside _ is, load_own_owed _ _ _ _ _ _ (writer_of s.me.0) _ st.is (may_load_word st c.args.entry (c.args.first + c.loop-i.i) inside _ is))

pub loop-i-preserved : goal.loop-i-preserved
loop-i-preserved g c =
    let s = c.loop-i.seat in
    let same = c.loop-i.invariant.same in
    let arena = c.args.arena.now in
    let there = c.requires.there in
    let at = c.requires.at in
    let room = c.loop-i.invariant.room in
    let test = c.loop-i-test.true in
    let st : IsDesk g.row.OFFSET_BITS arena.table.shared.table_id arena.sizes c.requires.desk.0 c.requires.desk.1 c.requires.desk.2 c.requires.desk.3 s.table_id (bare s.me) =
    subst (λ (x : Seat Slot Watched). IsDesk g.row.OFFSET_BITS arena.table.shared.table_id arena.sizes c.requires.desk.0 c.requires.desk.1 c.requires.desk.2 c.requires.desk.3 x.table_id (bare x.me))
    (sym same) c.requires.desk.4 in
    let below : c.args.first + c.loop-i.i < length (writer_records (writer_of c.args.seat.now.me.0) c.args.entry) = omega (arith, there, test, room) in
    let inside : c.args.first + c.loop-i.i < length (writer_records (writer_of s.me.0) c.args.entry) =
    subst (λ (x : Seat Slot Watched). c.args.first + c.loop-i.i < length (writer_records (writer_of x.me.0) c.args.entry)) (sym same) below in
    let on : c.args.at + c.loop-i.i ≡ place g.row.OFFSET_BITS arena.sizes.buffers arena.sizes.words (length (writer_records (writer_of c.args.seat.now.me.0) c.args.entry)) c.args.entry (c.args.first + c.loop-i.i) =
    omega (arith, at) in
    let is : c.args.at + c.loop-i.i ≡ place g.row.OFFSET_BITS arena.sizes.buffers arena.sizes.words (length (writer_records (writer_of s.me.0) c.args.entry)) c.args.entry (c.args.first + c.loop-i.i) =
    subst (λ (x : Seat Slot Watched). c.args.at + c.loop-i.i ≡ place g.row.OFFSET_BITS arena.sizes.buffers arena.sizes.words
    (length (writer_records (writer_of x.me.0) c.args.entry)) c.args.entry (c.args.first + c.loop-i.i)) (sym same) on in
    let l = c.load.ensures in
    let found = word_found st c.args.entry (c.args.first + c.loop-i.i) inside refl is l.2.told in
    let value : c.load.result ≡ slice_index (writer_records (writer_of c.args.seat.now.me.0) c.args.entry) (c.args.first + c.loop-i.i) =
    subst (λ (x : Seat Slot Watched). c.load.result ≡ slice_index (writer_records (writer_of x.me.0) c.args.entry) (c.args.first + c.loop-i.i)) same found in
    record {
      same = seat_same s c.load.new.seat l.0 l.1 l.2.event.same ∙ same;
      room = length-set c.loop-i.into c.loop-i.i c.load.result ∙ room;
      read = read_more c.loop-i.into _ c.args.first c.loop-i.i c.load.result (omega (arith, test, room)) below value c.loop-i.invariant.read;
    }
