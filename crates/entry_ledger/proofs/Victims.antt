-- The words of a buffer that are used, dead and held are those of its counts; so are those of all buffers together, and a victim of the buffers is one of the entries.
use Rattle.std.proofs.Common.{◌≡◌, ◌≢◌, ℕ, zero, suc, ◌+◌, ◌*◌, ◌<◌, ◌≤◌, Bool, true, false, not, ◌&&◌, cond, List, [], ◌∷◌, length, Option, None, Some, refl, sym, ap, ◌∙◌, arith, inl, inr}
use Rattle.std.specs.Prelude.{nat_lt, ◌⊎◌}
use Rattle.std.specs.List.{slice_get, sum_by, count_by}
use Rattle.std.proofs.lemmas.List.Sums.{sum_by-cons}
use Rattle.std.proofs.lemmas.Bool.{cases_lt, cases_eq, and_parts, lt-ltb, ltb-true, not-true, true≢false}
use Rattle.list_lemmas.specs.Counting.{one_if}
use Rattle.entry_ref.specs.References.{packed}
use Rattle.store_api.specs.Ledgers.{capacity}
use Rattle.store_api.specs.Usages.{over_buffers}
use Rattle.buffer_states.specs.declared.Buffer.{Buffer}
use Rattle.buffer_states.specs.declared.WordCounts.{WordCounts}
use Rattle.buffer_states.specs.Buffers.{buffer_at, new_buffer, is_state_active, is_candidate, words_of}
use Rattle.buffer_states.specs.Buffers.{IsVictim as IsVictimBuffer}
use Rattle.entry_ledger.specs.declared.state.State.{State}
use Rattle.entry_ledger.specs.States.{ShelfView, is_dead, is_held}
use Rattle.entry_ledger.specs.Shelves.{shelf_at}
use Rattle.hold_lists.specs.Held.{HeldEntry}
use Rattle.entry_ledger.specs.Entries.{EntriesView, width_of, is_taken_entry, is_dead_entry, is_held_entry, count_entries, entries_that, used_words, dead_words, held_words}
use Rattle.entry_ledger.specs.Calls.{IsCandidate, IsVictim, HasWords}
use Rattle.entry_ledger.specs.Ledgers.{LedgerView, entries_of, AreEntries}
use Rattle.entry_ledger.proofs.Spares.{sum_below, sum_same, sum_shift, sum_zeros, sum_list}
use Rattle.entry_ledger.proofs.States.{state_by}
use Rattle.entry_ledger.proofs.Takes.{entries_in}
use Rattle.entry_ledger.proofs.Good.{width-is, room-of}
use Rattle.entry_ledger.proofs.Taking.{state-at}
use Rattle.entry_ledger.proofs.Marks.{active-inside, unflagged, unfilled}

-- the entries of a buffer, place by place
count-below : (bits : ℕ) (passes : Option State → Bool) (state : ℕ → Option State) (b n : ℕ)
    → count_entries bits passes state b n ≡ sum_below (λ i. one_if (passes (state (packed bits (suc i) b)))) n
count-below bits passes state b zero = refl
count-below bits passes state b (suc n) = ap (λ m. m + one_if (passes (state (packed bits (suc n) b)))) (count-below bits passes state b n)

-- the places of a list that pass are its elements that do
count-places : (passes : Option State → Bool) (test : State → Bool) → passes None ≡ false → ((s : State) → passes (Some s) ≡ test s) → (states : List State) (n : ℕ) → length states ≤ n
    → sum_below (λ p. one_if (passes (slice_get states p))) n ≡ count_by test states
count-places passes test none some [] n fits = sum_same (λ p. one_if (passes None)) (λ p. 0) n (λ q below. ap one_if none) ∙ sum_zeros n
count-places passes test none some (s ∷ states) zero fits = absurd (omega (arith, fits))
count-places passes test none some (s ∷ states) (suc n) fits =
    let here : one_if (passes (Some s)) ≡ one_if (test s) = ap one_if (some s) in
    let rest = count-places passes test none some states n (omega (arith, fits)) in
    sum_shift (λ p. one_if (passes (slice_get (s ∷ states) p))) n ∙ omega (arith, here, rest, sum_by-cons (λ t. cond (test t) 1 0) s states)

count-all : (states : List State) → count_by (λ (s : State). true) states ≡ length states
count-all [] = refl
count-all (s ∷ states) = omega (arith, count-all states, sum_by-cons (λ (t : State). cond true 1 0) s states)

over-below : (words : ℕ → ℕ) (n : ℕ) → sum_below words n ≡ over_buffers words n
over-below words zero = refl
over-below words (suc n) = ap (λ m. m + words n) (over-below words n)

module _ (bits : ℕ) (v : LedgerView) (held : List HeldEntry) (room unheld : ℕ) (k : AreEntries bits v held room unheld) where
  abbrev e : EntriesView
  e = entries_in bits v

  abbrev shelf : ℕ → ShelfView
  shelf b = shelf_at v.shelves.shelves b

  taken-low : (b : ℕ) → length (shelf b).states ≤ capacity v.shelves.words (width_of e b)
  taken-low b = by_room (cases_lt 0 (shelf b).room)
    where
      by_room : (0 < (shelf b).room) ⊎ ((shelf b).room ≤ 0) → length (shelf b).states ≤ capacity v.shelves.words (width_of e b)
      by_room (inl some) =
          let is : (shelf b).room ≡ capacity v.shelves.words (width_of e b) =
          (room-of v.shelves.words (shelf b) (k.counted b).of some).1 ∙ ap (capacity v.shelves.words) (sym (width-is bits v held room unheld k b)) in
          let fits = (k.counted b).of.taken in
          omega (arith, is, fits)
      by_room (inr none) = (let fits = (k.counted b).of.taken in omega (arith, none, fits))

  entries-counted : (passes : Option State → Bool) (test : State → Bool) → passes None ≡ false → ((s : State) → passes (Some s) ≡ test s) → (b : ℕ) → b < length v.buffers
      → entries_that bits passes e b ≡ count_by test (shelf b).states
  entries-counted passes test none some b below =
      count-below bits passes e.state b (capacity v.shelves.words (width_of e b))
      ∙ sum_same (λ i. one_if (passes (e.state (packed bits (suc i) b)))) (λ i. one_if (passes (slice_get (shelf b).states i))) (capacity v.shelves.words (width_of e b))
      (λ i low. ap (λ o. one_if (passes o)) (at i))
      ∙ count-places passes test none some (shelf b).states (capacity v.shelves.words (width_of e b)) (taken-low b)
    where
      at : (i : ℕ) → e.state (packed bits (suc i) b) ≡ slice_get (shelf b).states i
      at i =
          let next : suc i ≡ i + 1 = omega arith in
          ap (λ n. state_by bits v.shelves.shelves (packed bits n b)) next ∙ state-at bits v.shelves.shelves b i (omega (arith, below, k.few_buffers))

  used-is : (b : ℕ) → b < length v.buffers → used_words bits e b ≡ (buffer_at v.buffers b).used
  used-is b below =
      ap (λ n. width_of e b * (1 + n)) (entries-counted is_taken_entry (λ s. true) refl (λ s. refl) b below ∙ count-all (shelf b).states)
      ∙ ap (λ w. w * (1 + length (shelf b).states)) (width-is bits v held room unheld k b) ∙ sym (k.counted b).used

  dead-is : (b : ℕ) → b < length v.buffers → dead_words bits e b ≡ (buffer_at v.buffers b).dead
  dead-is b below =
      ap (λ n. width_of e b * n) (entries-counted is_dead_entry is_dead refl (λ s. refl) b below)
      ∙ ap (λ w. w * count_by is_dead (shelf b).states) (width-is bits v held room unheld k b) ∙ sym (k.counted b).dead

  held-is : (b : ℕ) → b < length v.buffers → held_words bits e b ≡ (buffer_at v.buffers b).held
  held-is b below =
      ap (λ n. width_of e b * n) (entries-counted (is_held_entry v.last) (is_held v.last) refl (λ s. refl) b below)
      ∙ ap (λ w. w * count_by (is_held v.last) (shelf b).states) (width-is bits v held room unheld k b) ∙ sym (k.counted b).held

  -- a count of the buffers, summed by their numbers
  summed : (count : Buffer → ℕ) (words : ℕ → ℕ) → ((b : ℕ) → b < length v.buffers → words b ≡ count (buffer_at v.buffers b)) → sum_by count v.buffers ≡ over_buffers words e.count
  summed count words each =
      sym (sum_list count new_buffer v.buffers) ∙ sum_same (λ b. count (buffer_at v.buffers b)) words (length v.buffers) (λ b below. sym (each b below))
      ∙ over-below words (length v.buffers) ∙ ap (over_buffers words) k.count

  pub words-are : (words : WordCounts) → words ≡ words_of v.buffers → HasWords bits (entries_of bits v) words
  unfolding entries_of
  words-are words is = record {
    used = ap (λ (w : WordCounts). w.used) is ∙ summed (λ (b : Buffer). b.used) (used_words bits e) used-is;
    dead = ap (λ (w : WordCounts). w.dead) is ∙ summed (λ (b : Buffer). b.dead) (dead_words bits e) dead-is;
    held = ap (λ (w : WordCounts). w.held) is ∙ summed (λ (b : Buffer). b.held) (held_words bits e) held-is;
  }

  candidate-back : (b : ℕ) → IsCandidate bits e b → (b < length v.buffers) × (is_candidate (buffer_at v.buffers b) ≡ true)
  candidate-back b can =
      let buffer = buffer_at v.buffers b in
      let below = active-inside v.buffers b can.active in
      let many : nat_lt buffer.used (buffer.dead * 20) ≡ true =
      lt-ltb buffer.used (buffer.dead * 20) (let dead = can.dead in omega (arith, dead, used-is b below, dead-is b below)) in (
        below,
        ap (λ t. t && not buffer.filled && not buffer.sealed && nat_lt buffer.used (buffer.dead * 20)) can.active
            ∙ ap (λ t. true && not t && not buffer.sealed && nat_lt buffer.used (buffer.dead * 20)) (unflagged v.shelves.filled b buffer (k.flagged b) can.unfilled)
            ∙ ap (λ t. true && not false && not t && nat_lt buffer.used (buffer.dead * 20)) can.unsealed
            ∙ ap (λ t. true && not false && not false && t) many,
      )

  candidate-is : (b : ℕ) → b < length v.buffers → is_candidate (buffer_at v.buffers b) ≡ true → IsCandidate bits e b
  candidate-is b below is =
      let buffer = buffer_at v.buffers b in
      let last = and_parts (is_state_active buffer.state && not buffer.filled && not buffer.sealed) (nat_lt buffer.used (buffer.dead * 20)) is in
      let seal = and_parts (is_state_active buffer.state && not buffer.filled) (not buffer.sealed) last.0 in
      let flag = and_parts (is_state_active buffer.state) (not buffer.filled) seal.0 in
      let dead : buffer.used < buffer.dead * 20 = ltb-true buffer.used (buffer.dead * 20) last.1 in
      record {
        below = omega (arith, below, k.count);
        active = flag.0;
        unfilled = unfilled v.shelves.filled b buffer (k.flagged b) (not-true buffer.filled flag.1);
        unsealed = not-true buffer.sealed seal.1;
        dead = omega (arith, dead, used-is b below, dead-is b below);
      }

  pub victim-none : ((b : ℕ) → b < length v.buffers → is_candidate (buffer_at v.buffers b) ≡ false) → (b : ℕ) → IsCandidate bits (entries_of bits v) b → ⊥
  unfolding entries_of
  victim-none none b can = (let is = candidate-back b can in absurd (true≢false (sym is.1 ∙ none b is.0)))

  pub victim-is : (b : ℕ) → IsVictimBuffer v.buffers b → IsVictim bits (entries_of bits v) b
  unfolding entries_of
  victim-is b victim = record { candidate = candidate-is b victim.below victim.candidate; most = most }
    where
      most : (a : ℕ) → IsCandidate bits e a → (dead_words bits e a < dead_words bits e b) ⊎ ((dead_words bits e a ≡ dead_words bits e b) × (b ≤ a))
      most a can = (let is = candidate-back a can in by_place is.0 is.1 (cases_lt a b) (cases_eq (buffer_at v.buffers a).dead (buffer_at v.buffers b).dead))
        where
          by_place : a < length v.buffers → is_candidate (buffer_at v.buffers a) ≡ true → (a < b) ⊎ (b ≤ a)
              → ((buffer_at v.buffers a).dead ≡ (buffer_at v.buffers b).dead) ⊎ ((buffer_at v.buffers a).dead ≢ (buffer_at v.buffers b).dead)
              → (dead_words bits e a < dead_words bits e b) ⊎ ((dead_words bits e a ≡ dead_words bits e b) × (b ≤ a))
          by_place low is (inl before) same = inl (omega (arith, victim.first a before is, dead-is a low, dead-is b victim.below))
          by_place low is (inr after) (inl same) = inr (dead-is a low ∙ same ∙ sym (dead-is b victim.below), after)
          by_place low is (inr after) (inr ne) = inl (omega (arith, victim.most a low is, ne, dead-is a low, dead-is b victim.below))
