use Rattle.std.proofs.Common.{slice_index, subst, ◌≡◌, ◌<◌, ℕ, Some, length, cond, sym, ap, ◌∙◌, arith, inl, inr, List}
use Rattle.std.proofs.Math.ListN.{get_or-eq_default}
use Rattle.std.proofs.lemmas.Bool.{cases_eq, cases_lt, eq-eqb, ne_eqb}
use Rattle.entry_ref.specs.References.{buffer_of}
use Rattle.entry_ref.specs.Records.{with_words}
use Rattle.entry_ref.specs.Places.{IsEntry}
use Rattle.gen_core.specs.Work.{writer_records}
use Rattle.arena_api.specs.Works.{active_width}
use Rattle.arena_api.specs.Calls.{padded, IsWordIn, MayStore}
use Rattle.arena_api.proofs.Padded.{length-padded, padded-at}
use Rattle.word_arena.specs.Ruled.{writer_of, bare}
use Rattle.word_arena.specs.Knows.{place_by, known_by, IsDesk, HasDesk}
use Rattle.word_arena.proofs.Desks.{has_desk, keeps_both}
use Rattle.word_arena.specs.ProofsForWork.{desk_bits, work_whole}
use Rattle.word_arena.proofs.work.WriterWork.put.Goals as goal

pub returns-clause-records : goal.returns-clause-records
returns-clause-records g c = λ k q. at q k
  where
    ws : List ℕ
    ws = padded c.args.words.now c.args.width

    long : length ws ≡ c.args.width
    long = length-padded c.args.words.now c.args.width c.requires.fits

    filled : (i : ℕ) → i < c.args.width → (known_by c.put_zeros.new.seat).stored c.args.entry i ≡ Some (slice_index c.args.words.now i)
    filled i lt = elim (cases_lt i (length c.args.words.now)) [
      | inl h ↦ c.put_zeros.ensures.kept i h ∙ c.put_words.ensures.filled i h
      | inr h ↦ c.put_zeros.ensures.filled i h lt ∙ ap (λ n. Some n) (sym (get_or-eq_default c.args.words.now 0 h))
    ]

    is : writer_records (writer_of c.put_zeros.new.seat.me.0) c.args.entry ≡ ws
    is =
        let s = c.args.self.now in
        let st : IsDesk g.row.OFFSET_BITS c.arena-arena.result.now.table.shared.table_id c.arena-arena.result.now.sizes s.buffers.items s.holds s.last s.seats.made s.place.table_id (bare s.place.me) =
        rw c.arena-arena.ensures s.stands in
        let desk = keeps_both c.put_words.ensures.desk c.put_zeros.ensures.desk s.buffers.items s.holds s.last s.seats.made st in
        let wide = c.requires.entry.wide in
        let now = known_by c.put_zeros.new.seat in
        let knows = c.put_zeros.ensures.knows ∙ (λ k. record (c.put_words.ensures.knows k) { stored = now.stored }) in
        let width : length ws ≡ active_width (now.buffer (buffer_of g.row.OFFSET_BITS c.args.entry)) =
        long ∙ sym c.requires.width ∙ sym (ap (λ v. active_width (v.buffer (buffer_of g.row.OFFSET_BITS c.args.entry))) knows) in
        work_whole (writer_of c.put_zeros.new.seat.me.0) desk.good g.row.OFFSET_BITS (desk_bits desk) c.args.entry ws (omega (arith, long, wide)) width
        (λ i h. filled i (omega (arith, h, long)) ∙ ap (λ n. Some n) (sym (padded-at c.args.words.now c.args.width i)))

    at : (q : ℕ) → writer_records (writer_of c.put_zeros.new.seat.me.0) q ≡ with_words (writer_records (writer_of c.args.self.now.place.me.0)) c.args.entry ws q
    at q = elim (cases_eq q c.args.entry) [
      | inl e ↦ ap (writer_records (writer_of c.put_zeros.new.seat.me.0)) e ∙ is ∙ ap (λ t. cond t ws (writer_records (writer_of c.args.self.now.place.me.0) q)) (sym (eq-eqb q c.args.entry e))
      | inr ne ↦ c.put_zeros.ensures.others q ne ∙ c.put_words.ensures.others q ne ∙ ap (λ t. cond t ws (writer_records (writer_of c.args.self.now.place.me.0) q)) (sym (ne_eqb q c.args.entry ne))
    ]

pub place_in-place-requires : goal.place_in-place-requires
place_in-place-requires g c =
    let old = known_by c.args.self.now.place in
    let width = c.requires.width in
    let wide = c.requires.entry.wide in
    let word : IsWordIn g.row.OFFSET_BITS old c.args.entry 0 = record {
      entry = subst (λ n. IsEntry g.row.OFFSET_BITS old.sizes.buffers old.sizes.words n c.args.entry) (sym width) c.requires.entry;
      inside = omega (arith, wide, width);
    } in
    (omega arith, (omega arith, (word, width)))

pub put_words-requires : goal.put_words-requires
put_words-requires g c =
    let s = c.args.self.now in
    let desk : HasDesk g.row.OFFSET_BITS c.arena-arena.result.now.table.shared.table_id c.arena-arena.result.now.sizes s.place =
    rw c.arena-arena.ensures (s.buffers.items, s.holds, s.last, s.seats.made, s.stands) in
    let B : ℕ = g.row.OFFSET_BITS in
    let old = known_by c.args.self.now.place in
    let width = c.requires.width in
    let fits = c.requires.fits in
    let may : (i : ℕ) → i < length c.args.words.now → MayStore B old c.args.entry i = λ i lt. record {
      word = record {
        entry = subst (λ n. IsEntry B old.sizes.buffers old.sizes.words n c.args.entry) (sym width) c.requires.entry;
        inside = omega (arith, lt, width, fits);
      };
      unkept = c.requires.unkept;
    } in
    (omega arith, (omega arith, (omega (arith, fits), (desk, (may, c.place_in-place.ensures)))))

pub put_zeros-requires : goal.put_zeros-requires
put_zeros-requires g c =
    let s = c.args.self.now in
    let desk : HasDesk g.row.OFFSET_BITS c.arena-arena.result.now.table.shared.table_id c.arena-arena.result.now.sizes s.place =
    rw c.arena-arena.ensures (s.buffers.items, s.holds, s.last, s.seats.made, s.stands) in
    let B : ℕ = g.row.OFFSET_BITS in
    let old = known_by c.args.self.now.place in
    let now = known_by c.put_words.new.seat in
    let width = c.requires.width in
    let knows = c.put_words.ensures.knows in
    let may : (i : ℕ) → i < c.args.width → MayStore B (record old { stored = now.stored }) c.args.entry i = λ i lt. record {
      word = record {
        entry = subst (λ n. IsEntry B old.sizes.buffers old.sizes.words n c.args.entry) (sym width) c.requires.entry;
        inside = omega (arith, lt, width);
      };
      unkept = c.requires.unkept;
    } in
    let place : c.place_in-place.result ≡ place_by B now c.args.entry 0 = c.place_in-place.ensures ∙ (λ k. place_by B (sym knows k) c.args.entry 0) in
    (omega arith, (omega arith, (has_desk c.put_words.ensures.desk desk, (subst (λ v. (i : ℕ) → i < c.args.width → MayStore B v c.args.entry i) (sym knows) may, place))))

pub returns-clause-knows : goal.returns-clause-knows
returns-clause-knows g c =
    let now = known_by c.put_zeros.new.seat in
    c.put_zeros.ensures.knows ∙ (λ k. record (c.put_words.ensures.knows k) { stored = now.stored })

pub invariant_of-self : goal.invariant_of-self
invariant_of-self g c =
    let s = c.args.self.now in
    let st : IsDesk g.row.OFFSET_BITS c.arena-arena.result.now.table.shared.table_id c.arena-arena.result.now.sizes s.buffers.items s.holds s.last s.seats.made s.place.table_id (bare s.place.me) =
    rw c.arena-arena.ensures s.stands in
    record { stands = rw (sym c.arena-arena.ensures) (keeps_both c.put_words.ensures.desk c.put_zeros.ensures.desk s.buffers.items s.holds s.last s.seats.made st) }

pub returns-clause-apart : goal.returns-clause-apart
returns-clause-apart g c = λ q i ne. c.put_zeros.ensures.apart q i ne ∙ c.put_words.ensures.apart q i ne
