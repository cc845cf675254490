-- What is kept where an entry was made.
use Rattle.std.proofs.Common.{◌≡◌, ◌≢◌, ◌⊎◌, ℕ, zero, suc, ◌+◌, ◌*◌, ◌/◌, ◌<◌, ◌≤◌, Bool, true, false, cond, List, [], ◌∷◌, length, set, Option, None, Some, refl, sym, ap, subst, ◌∙◌, arith, inl, inr, get_or-set_other}
use Rattle.std.proofs.Common.{get_or-set_same}
use Rattle.std.specs.List.{slice_get, sum_by, count_by}
use Rattle.std.proofs.Math.ListN.{length-set}
use Rattle.std.proofs.Math.Nat.{mul_comm, mul-le-mul_right, div-mul-le_self, div-le_self}
use Rattle.std.proofs.lemmas.List.Sums.{sum_by-set}
use Rattle.std.proofs.lemmas.Option.{slice_get_within, get_or_from_slice_get}
use Rattle.std.proofs.lemmas.Bool.{cases_lt, cases_eq, eq-eqb, ne_eqb, true≢false}
use Rattle.entry_ref.specs.References.{buffer_of, offset_of, packed, buffer_limit, offset_limit}
use Rattle.entry_ref.proofs.Bits.{packed-buffer, packed-offset}
use Rattle.store_api.specs.Ledgers.{is_width, capacity, one_more}
use Rattle.store_api.specs.Calls.{took_spare}
use Rattle.buffer_states.specs.declared.Buffer.{Buffer}
use Rattle.buffer_states.specs.Buffers.{new_buffer, buffer_at, is_state_active}
use Rattle.entry_ledger.specs.declared.state.State.{State}
use Rattle.entry_ledger.specs.declared.state.State.TheVariants.{Free, Made, Dropped}
use Rattle.entry_ledger.specs.States.{ShelfView, empty_shelf, is_free_state, IsOpen, with_made}
use Rattle.entry_ledger.proofs.StackSteps.{count-none}
use Rattle.entry_ledger.specs.declared.shelves.Taken.{Taken}
use Rattle.entry_ledger.specs.Shelves.{ShelvesView, shelf_at, row_of, made_in, filled_at, Takes}
use Rattle.entry_ledger.proofs.Rows.{width-bounds}
use Rattle.entry_ledger.proofs.Making.{made-length}
use Rattle.hold_lists.specs.Held.{HeldEntry}
use Rattle.entry_ledger.specs.Entries.{EntriesView, width_of, is_open_entry, is_free_entry}
use Rattle.entry_ledger.specs.Calls.{CanTake, made_at as entry_made_at}
use Rattle.entry_ledger.specs.Ledgers.{LedgerView, entries_of, state_in, mark_of, unheld_in, taken_buffer, IsCounted, IsFlagged, IsSound, AreEntries, unmade_of_width, is_buffer_of}
use Rattle.entry_ledger.proofs.States.{state_by, mark-same, at-suc}
use Rattle.entry_ledger.proofs.Flags.{flag-same, flags-set}
use Rattle.entry_ledger.proofs.Unmade.{few-entries, unmade-take, unmade-apart, enough-made}
use Rattle.entry_ledger.proofs.Takes.{entries_in, takes-state, takes-counts, buffers-same}
use Rattle.entry_ledger.proofs.Good.{entry-at, room-of, width-is}
use Rattle.entry_ledger.proofs.Sound.{sound-made, list-keep}
use Rattle.entry_ledger.proofs.Counted.{unheld-made, again-dead, counted-again, counted-next, words-more}

pub taken-mark : (again : Bool) (buffer : Buffer) → mark_of (taken_buffer again buffer) ≡ mark_of buffer
taken-mark true buffer = refl
taken-mark false buffer = refl

pub taken-flag : (again : Bool) (buffer : Buffer) → (taken_buffer again buffer).filled ≡ buffer.filled
taken-flag true buffer = refl
taken-flag false buffer = refl

-- the state of an entry by its place
pub state-at : (bits : ℕ) (shelves : List ShelfView) (b x : ℕ) → b < buffer_limit bits → state_by bits shelves (packed bits (x + 1) b) ≡ slice_get (shelf_at shelves b).states x
state-at bits shelves b x low =
    let offset : offset_of bits (packed bits (x + 1) b) ≡ suc x = packed-offset bits (x + 1) b low ∙ omega arith in
    ap (λ n. state_in (shelf_at shelves n) (offset_of bits (packed bits (x + 1) b))) (packed-buffer bits (x + 1) b low)
    ∙ ap (state_in (shelf_at shelves b)) offset ∙ at-suc (shelf_at shelves b) x

-- an open place has no state, or a free one
pub open-place : (s : ShelfView) (x : ℕ) → IsOpen s x → is_open_entry (slice_get s.states x) ≡ true
open-place s x can = by_state (slice_get s.states x) refl
  where
    by_state : (o : Option State) → slice_get s.states x ≡ o → is_open_entry o ≡ true
    by_state None is = refl
    by_state (Some state) is = ap is_free_state (sym (get_or_from_slice_get s.states x state Free is)) ∙ can.free (slice_get_within s.states x state is)

pub open-undropped : (s : ShelfView) (x : ℕ) → IsOpen s x → (after g : ℕ) → slice_get s.states x ≡ Some (Dropped after g) → ⊥
open-undropped s x can after g is = true≢false (sym (open-place s x can) ∙ ap is_open_entry is)

open-low : (s : ShelfView) (x : ℕ) → length s.states ≤ s.room → IsOpen s x → x < s.room
open-low s x fits can = elim (cases_lt x (length s.states)) [
  | inl k ↦ omega (arith, k, fits)
  | inr k ↦ (can.next (omega (arith, k, can.within))).0
]

-- of states of which none is free, no entry is
none-free : (states : List State) → count_by is_free_state states ≡ 0 → (o : ℕ) (shelf : ShelfView) → shelf.states ≡ states → is_free_entry (state_in shelf o) ≡ false
none-free states none zero shelf is = refl
none-free states none (suc i) shelf is = ap is_free_entry (at-suc shelf i ∙ ap (λ xs. slice_get xs i) is) ∙ by_state (slice_get states i) refl
  where
    by_state : (o : Option State) → slice_get states i ≡ o → is_free_entry o ≡ false
    by_state None e = refl
    by_state (Some s) e = ap is_free_state (sym (get_or_from_slice_get states i s Made e)) ∙ count-none Made is_free_state states refl none i

module _ (bits : ℕ) (v : LedgerView) (held : List HeldEntry) (room unheld : ℕ) (k : AreEntries bits v held room unheld)
    (new : ShelvesView) (width : ℕ) (valid : is_width width ≡ true) (t : Taken) (takes : Takes v.shelves new width t) where
  abbrev shelf : ShelfView
  shelf = shelf_at v.shelves.shelves t.buffer

  abbrev entry : ℕ
  entry = packed bits (t.place + 1) t.buffer

  abbrev e : EntriesView
  e = entries_in bits v

  pub take-low : t.buffer < buffer_limit bits
  take-low = omega (arith, takes.below, k.count, k.few_buffers)

  take-room : (0 < shelf.width) × (shelf.room ≡ capacity v.shelves.words shelf.width)
  take-room = (let low = open-low shelf t.place (k.counted t.buffer).of.taken takes.is_open in room-of v.shelves.words shelf (k.counted t.buffer).of (omega (arith, low)))

  pub take-active : is_state_active (buffer_at v.buffers t.buffer).state ≡ true
  take-active = by_test (is_state_active (buffer_at v.buffers t.buffer).state) refl
    where
      by_test : (a : Bool) → is_state_active (buffer_at v.buffers t.buffer).state ≡ a → a ≡ true
      by_test true is = refl
      by_test false is =
          let none : shelf.width ≡ 0 = (k.counted t.buffer).width ∙ ap (λ a. cond a (buffer_at v.buffers t.buffer).width 0) is in
          absurd (omega (arith, none, take-room.0))

  pub take-width : (buffer_at v.buffers t.buffer).width ≡ shelf.width
  take-width = sym ((k.counted t.buffer).width ∙ ap (λ a. cond a (buffer_at v.buffers t.buffer).width 0) take-active)

  pub take-place : t.place < capacity v.shelves.words width
  take-place =
      let low = open-low shelf t.place (k.counted t.buffer).of.taken takes.is_open in
      let is : shelf.room ≡ capacity v.shelves.words width = take-room.1 ∙ ap (capacity v.shelves.words) takes.of_width in
      omega (arith, low, is)

  pub can-take : CanTake bits (entries_of bits v) width entry
  unfolding entries_of
  can-take = record {
    entry = entry-at bits e.count e.words width entry (omega (arith, packed-buffer bits (t.place + 1) t.buffer take-low, takes.below))
        (omega (arith, (width-bounds width valid).0)) (omega (arith, packed-offset bits (t.place + 1) t.buffer take-low))
        (omega (arith, packed-offset bits (t.place + 1) t.buffer take-low, take-place));
    of_width = ap (width_of e) (packed-buffer bits (t.place + 1) t.buffer take-low) ∙ width-is bits v held room unheld k t.buffer ∙ takes.of_width;
    unsealed = ap (λ n. (e.mark n).sealed) (packed-buffer bits (t.place + 1) t.buffer take-low) ∙ (k.counted t.buffer).sealed ∙ takes.unsealed;
    is_open = ap is_open_entry (state-at bits v.shelves.shelves t.buffer t.place take-low) ∙ open-place shelf t.place takes.is_open;
    free_first = λ none q of_q unsealed.
        (let a = buffer_of bits q in
        let next : t.place ≡ length shelf.states = last-place (sym (state-at bits v.shelves.shelves t.buffer t.place take-low) ∙ none) in
        none-free (shelf_at v.shelves.shelves a).states
        (takes.free_first next a (sym (width-is bits v held room unheld k a) ∙ of_q) (sym (k.counted a).sealed ∙ unsealed)) (offset_of bits q) (shelf_at v.shelves.shelves a) refl);
  }
    where
      past-none : (xs : List State) (i : ℕ) → slice_get xs i ≡ None → length xs ≤ i
      past-none [] i none = omega arith
      past-none (x ∷ xs) zero none = absurd (cc)
      past-none (x ∷ xs) (suc i) none = omega (arith, past-none xs i none)

      last-place : slice_get shelf.states t.place ≡ None → t.place ≡ length shelf.states
      last-place none = omega (arith, past-none shelf.states t.place none, takes.is_open.within)

  -- the count of its buffer has room for one more, or for one less
  pub next-fits : t.again ≡ false → (buffer_at v.buffers t.buffer).used + (buffer_at v.buffers t.buffer).width < 4294967296
  next-fits again =
      let next = takes.again.1 again in
      let few : length shelf.states + 2 ≤ v.shelves.words / width = omega (arith, take-place, next) in
      let all : (length shelf.states + 2) * width ≤ v.shelves.words / width * width = mul-le-mul_right width few in
      let used : shelf.width * (length shelf.states + 2) ≡ shelf.width * (1 + length shelf.states) + shelf.width =
      words-more shelf.width (1 + length shelf.states) (length shelf.states + 2) (omega arith) in
      let wide : shelf.width * (length shelf.states + 2) ≡ (length shelf.states + 2) * width =
      ap (λ w. w * (length shelf.states + 2)) takes.of_width ∙ mul_comm width (length shelf.states + 2) in
      omega (arith, all, used, wide, div-mul-le_self v.shelves.words width, (k.counted t.buffer).used, take-width, k.few_words)

  pub again-fits : t.again ≡ true → (buffer_at v.buffers t.buffer).width ≤ (buffer_at v.buffers t.buffer).dead
  again-fits again =
      let dead = again-dead v.shelves.words v.last (buffer_at v.buffers t.buffer) shelf (k.counted t.buffer) t.place takes.is_open (takes.again.0 again) in
      omega (arith, dead, take-width)

  pub offset-low : t.place + 1 < offset_limit bits
  offset-low = omega (arith, take-place, div-le_self v.shelves.words width, k.offsets, k.some_words)

  pub offset-small : t.place + 1 < 4294967296
  offset-small = omega (arith, take-place, div-le_self v.shelves.words width, k.few_words)

  pub counted-take : IsCounted v.shelves.words v.last (taken_buffer t.again (buffer_at v.buffers t.buffer)) (with_made shelf t.place)
  counted-take = by_test t.again refl
    where
      by_test : (a : Bool) → t.again ≡ a → IsCounted v.shelves.words v.last (taken_buffer a (buffer_at v.buffers t.buffer)) (with_made shelf t.place)
      by_test true is = counted-again v.shelves.words v.last (buffer_at v.buffers t.buffer) shelf (k.counted t.buffer) t.place takes.is_open (takes.again.0 is) (buffer_at v.buffers t.buffer).width take-width
      by_test false is = counted-next v.shelves.words v.last (buffer_at v.buffers t.buffer) shelf (k.counted t.buffer) t.place takes.is_open (takes.again.1 is) (buffer_at v.buffers t.buffer).width take-width

  shelves_is : new.shelves ≡ set v.shelves.shelves t.buffer (with_made shelf t.place)
  shelves_is = ap (λ (u : ShelvesView). u.shelves) takes.new_is

  words_is : new.words ≡ v.shelves.words
  words_is = ap (λ (u : ShelvesView). u.words) takes.new_is

  filled_is : new.filled ≡ v.shelves.filled
  filled_is = ap (λ (u : ShelvesView). u.filled) takes.new_is

  module _ (buffer : Buffer) (marked : mark_of buffer ≡ mark_of (buffer_at v.buffers t.buffer)) where
    abbrev pub after : LedgerView
    after = record v { shelves = new; buffers = set v.buffers t.buffer buffer }

    inside : t.buffer < length v.buffers
    inside = omega (arith, takes.below, k.count)

    pub take-entries : entries_in bits after ≡ entry_made_at e width entry
    take-entries = λ i. record {
      count = (ap length shelves_is ∙ length-set {A = ShelfView} v.shelves.shelves t.buffer (with_made shelf t.place)) i;
      words = words_is i;
      last = v.last;
      generation = v.generation;
      oldest = v.oldest;
      state = λ q. takes-state bits v.shelves new width t takes valid k.made_rows (omega (arith, k.few_buffers, k.count)) q i;
      mark = λ a. mark-same v.buffers t.buffer buffer inside marked a i;
      of_width = λ w. takes-counts bits v.shelves new width t takes valid k.made_rows (k.counted t.buffer).of.taken v after refl refl (buffers-same v.buffers t.buffer buffer inside marked) w i;
      finished = v.finished;
    }

    pub take-kept : buffer.filled ≡ (buffer_at v.buffers t.buffer).filled → IsCounted v.shelves.words v.last buffer (with_made shelf t.place) → AreEntries bits after held room unheld
    unfolding entries_of
    take-kept flag counted = record {
      count = length-set {A = Buffer} v.buffers t.buffer buffer ∙ k.count ∙ sym (ap length shelves_is ∙ length-set {A = ShelfView} v.shelves.shelves t.buffer (with_made shelf t.place));
      few_buffers = omega (arith, k.few_buffers, length-set {A = Buffer} v.buffers t.buffer buffer);
      some_words = omega (arith, k.some_words, words_is);
      few_words = omega (arith, k.few_words, words_is);
      offsets = omega (arith, k.offsets, words_is);
      product = subst (λ n. n * new.words ≤ 67108864) (sym (length-set {A = Buffer} v.buffers t.buffer buffer)) (subst (λ n. length v.buffers * n ≤ 67108864) (sym words_is) k.product);
      made_rows = ap (λ (u : ShelvesView). length u.made) takes.new_is ∙ length-set {A = ℕ} v.shelves.made (row_of width) (one_more (made_in v.shelves.made width)) ∙ k.made_rows;
      filled_rows = ap length filled_is ∙ k.filled_rows;
      counted = each;
      filled = filled;
      flagged = λ a. subst (λ f. IsFlagged f a (buffer_at (set v.buffers t.buffer buffer) a)) (sym filled_is)
          (flags-set v.shelves.filled v.buffers t.buffer buffer inside k.flagged (flag-same v.shelves.filled t.buffer (buffer_at v.buffers t.buffer) buffer marked flag (k.flagged t.buffer)) a);
      enough = λ w is. subst (λ n. n * capacity new.words w ≤ made_in new.made w + unmade_of_width new.shelves w) (sym (buffers-same v.buffers t.buffer buffer inside marked w))
          (subst (λ n. count_by (is_buffer_of w) v.buffers * capacity n w ≤ made_in new.made w + unmade_of_width new.shelves w) (sym words_is)
          (subst (λ xs. count_by (is_buffer_of w) v.buffers * capacity v.shelves.words w ≤ made_in new.made w + unmade_of_width xs w) (sym shelves_is) (enough w is (cases_eq w width))));
      sound = subst IsSound (sym take-entries) (sound-made e width entry k.sound);
      list = list-keep bits e (entries_in bits after) held entry Made k.list refl refl (λ b. ap (λ (u : EntriesView). u.mark b) take-entries) (λ q. ap (λ (u : EntriesView). u.state q) take-entries)
          (ap (λ n. is_state_active (e.mark n).state) (packed-buffer bits (t.place + 1) t.buffer take-low) ∙ take-active)
          (λ past g is. open-undropped shelf t.place takes.is_open past g (sym (state-at bits v.shelves.shelves t.buffer t.place take-low) ∙ is))
          (λ past g is. absurd (cc));
      unheld_is =
          (let count = sum_by-set unheld_in v.shelves.shelves t.buffer (with_made shelf t.place) empty_shelf takes.below in
          let same = unheld-made v.shelves.words v.last (buffer_at v.buffers t.buffer) shelf (k.counted t.buffer) t.place takes.is_open in
          let moved : unheld ≡ sum_by unheld_in (set v.shelves.shelves t.buffer (with_made shelf t.place)) = omega (arith, count, same, k.unheld_is) in
          moved ∙ ap (sum_by unheld_in) (sym shelves_is));
      fits = k.fits;
    }
      where
        enough : (w : ℕ) → is_width w ≡ true → (w ≡ width) ⊎ (w ≢ width)
            → count_by (is_buffer_of w) v.buffers * capacity v.shelves.words w ≤ made_in new.made w + unmade_of_width (set v.shelves.shelves t.buffer (with_made shelf t.place)) w
        enough w is (inl same) =
            let made : made_in new.made w ≡ one_more (made_in v.shelves.made w) =
            ap (λ (u : EntriesView). (u.of_width w).made) take-entries ∙ ap (λ u. (cond u (took_spare (e.of_width width)) (e.of_width w)).made) (eq-eqb w width same)
            ∙ ap (λ n. one_more (made_in v.shelves.made n)) (sym same) in
            enough-made (count_by (is_buffer_of w) v.buffers * capacity v.shelves.words w) (made_in v.shelves.made w) (made_in new.made w) (unmade_of_width v.shelves.shelves w)
            (unmade_of_width (set v.shelves.shelves t.buffer (with_made shelf t.place)) w) (few-entries v.buffers v.shelves.words w k.product) (k.sound.few_made w) (k.enough w is)
            (unmade-take v.shelves.shelves t.buffer t.place takes.below takes.is_open w) made
        enough w is (inr ne) =
            let made : made_in new.made w ≡ made_in v.shelves.made w =
            ap (λ (u : EntriesView). (u.of_width w).made) take-entries ∙ ap (λ u. (cond u (took_spare (e.of_width width)) (e.of_width w)).made) (ne_eqb w width ne) in
            omega (arith, made, k.enough w is, unmade-apart v.shelves.shelves t.buffer t.place takes.below takes.is_open w (λ same. ne (same ∙ takes.of_width)))

        each : (a : ℕ) → IsCounted new.words v.last (buffer_at (set v.buffers t.buffer buffer) a) (shelf_at new.shelves a)
        each a = subst (λ n. IsCounted n v.last (buffer_at (set v.buffers t.buffer buffer) a) (shelf_at new.shelves a)) (sym words_is)
            (subst (λ xs. IsCounted v.shelves.words v.last (buffer_at (set v.buffers t.buffer buffer) a) (shelf_at xs a)) (sym shelves_is) (elim (cases_eq a t.buffer) [
              | inl same ↦
                  subst (λ n. IsCounted v.shelves.words v.last (buffer_at (set v.buffers t.buffer buffer) n) (shelf_at (set v.shelves.shelves t.buffer (with_made shelf t.place)) n)) (sym same)
                  (subst (λ b. IsCounted v.shelves.words v.last b (shelf_at (set v.shelves.shelves t.buffer (with_made shelf t.place)) t.buffer)) (sym (get_or-set_same v.buffers t.buffer buffer new_buffer inside))
                  (subst (IsCounted v.shelves.words v.last buffer) (sym (get_or-set_same v.shelves.shelves t.buffer (with_made shelf t.place) empty_shelf takes.below)) counted))
              | inr ne ↦
                  subst (λ b. IsCounted v.shelves.words v.last b (shelf_at (set v.shelves.shelves t.buffer (with_made shelf t.place)) a)) (sym (get_or-set_other v.buffers t.buffer a buffer new_buffer ne))
                  (subst (IsCounted v.shelves.words v.last (buffer_at v.buffers a)) (sym (get_or-set_other v.shelves.shelves t.buffer a (with_made shelf t.place) empty_shelf ne)) (k.counted a))
            ]))

        filled : (a : ℕ) → length (shelf_at new.shelves a).states < (shelf_at new.shelves a).room → filled_at new.filled (shelf_at new.shelves a).width ≡ Some a
        filled a = subst (λ xs. length (shelf_at xs a).states < (shelf_at xs a).room → filled_at new.filled (shelf_at xs a).width ≡ Some a) (sym shelves_is) (λ less. elim (cases_eq a t.buffer) [
          | inl same ↦
              (let is : shelf_at (set v.shelves.shelves t.buffer (with_made shelf t.place)) a ≡ with_made shelf t.place =
              ap (shelf_at (set v.shelves.shelves t.buffer (with_made shelf t.place))) same ∙ get_or-set_same v.shelves.shelves t.buffer (with_made shelf t.place) empty_shelf takes.below in
              let low : length (with_made shelf t.place).states < shelf.room = subst (λ (s : ShelfView). length s.states < s.room) is less in
              ap (λ (s : ShelfView). filled_at new.filled s.width) is ∙ ap (λ f. filled_at f shelf.width) filled_is
              ∙ k.filled t.buffer (omega (arith, low, made-length shelf t.place takes.is_open)) ∙ ap Some (sym same))
          | inr ne ↦
              (let is = get_or-set_other v.shelves.shelves t.buffer a (with_made shelf t.place) empty_shelf ne in
              ap (λ (s : ShelfView). filled_at new.filled s.width) is ∙ ap (λ f. filled_at f (shelf_at v.shelves.shelves a).width) filled_is
              ∙ k.filled a (subst (λ (s : ShelfView). length s.states < s.room) is less))
        ])
