-- What is kept where nothing is open.
use Rattle.std.proofs.Common.{◌≡◌, ℕ, zero, suc, ◌+◌, ◌*◌, ◌<◌, ◌≤◌, Bool, true, false, not, ◌&&◌, cond, eqb, List, [], ◌∷◌, length, get_or, replicate, Option, None, Some, refl, sym, ap, subst, ◌∙◌, arith}
use Rattle.std.specs.List.{sum_by, count_by}
use Rattle.std.proofs.lemmas.List.{length-replicate}
use Rattle.std.proofs.lemmas.List.Folds.{sum_by-replicate}
use Rattle.std.proofs.lemmas.Bool.{true≢false}
use Rattle.entry_ref.specs.References.{buffer_of, offset_of, buffer_limit, offset_limit}
use Rattle.store_api.specs.Ledgers.{is_width, is_this, widths, capacity, buffers_in, no_counts}
use Rattle.buffer_states.specs.declared.Buffer.{Buffer}
use Rattle.buffer_states.specs.Buffers.{new_buffer, buffer_at, is_state_free}
use Rattle.entry_ledger.specs.declared.state.State.{State}
use Rattle.entry_ledger.specs.States.{ShelfView, empty_shelf}
use Rattle.entry_ledger.specs.Shelves.{shelf_at, row_of, made_in, filled_at, spare_in, spare_of_width}
use Rattle.entry_ledger.specs.Entries.{EntriesView, count_marks}
use Rattle.entry_ledger.specs.Calls.{new_entries, free_mark}
use Rattle.entry_ledger.specs.Ledgers.{LedgerView, entries_of, state_in, mark_of, counts_of, fresh_in, unheld_in, unmade_of_width, is_buffer_of, IsCounted, IsFlagged, IsHeldList, IsSound, AreEntries}
use Rattle.entry_ledger.proofs.Takes.{entries_in}
use Rattle.entry_ledger.proofs.Opens.{none-either}

-- each place of a list of one thing has it, and each place past its end where that is what a read past the end gives
same-places : {A : Type 0} (x : A) (n i : ℕ) → get_or (replicate n x) i x ≡ x
same-places x zero i = refl
same-places x (suc n) zero = refl
same-places x (suc n) (suc i) = same-places x n i

sum-none : {A : Type 0} (f : A → ℕ) (x : A) → f x ≡ 0 → (n : ℕ) → sum_by f (replicate n x) ≡ 0
sum-none f x nothing n = sum_by-replicate f n x ∙ ap (λ m. n * m) nothing ∙ omega arith

none-some : (s : Option State) (state : State) → s ≡ None → s ≡ Some state → ⊥
none-some s state none is = absurd (cc)

no-state : (o : ℕ) → state_in empty_shelf o ≡ None
no-state o = by_test (eqb o 0)
  where
    none : Option State
    none = None

    by_test : (t : Bool) → cond t None none ≡ None
    by_test true = refl
    by_test false = refl

abbrev pub created : ℕ → ℕ → LedgerView
created buffers words = record {
  shelves = record { words = words; shelves = replicate buffers empty_shelf; made = replicate 11 0; filled = replicate 11 None };
  buffers = replicate buffers new_buffer;
  last = 0;
  generation = 0;
  oldest = 0;
  finished = None;
}

module _ (bits buffers words : ℕ) where
  abbrev e : EntriesView
  e = entries_in bits (created buffers words)

  states-none : (r : ℕ) → e.state r ≡ None
  states-none r = ap (λ s. state_in s (offset_of bits r)) (same-places empty_shelf buffers (buffer_of bits r)) ∙ no-state (offset_of bits r)

  mark-new : (b : ℕ) → e.mark b ≡ free_mark
  mark-new b = ap mark_of (same-places new_buffer buffers b)

  counts-none : (w : ℕ) → counts_of (created buffers words) w ≡ no_counts
  counts-none w =
      let made : made_in (replicate 11 0) w ≡ 0 = same-places 0 11 (row_of w) in
      let spare : spare_of_width (replicate buffers empty_shelf) w ≡ 0 = sum-none (spare_in w) empty_shelf (none-either (eqb 0 w && not false)) buffers in
      let fresh : sum_by (fresh_in w) (replicate buffers empty_shelf) ≡ 0 = sum-none (fresh_in w) empty_shelf (none-either (eqb 0 w && not false)) buffers in
      let of : count_by (is_buffer_of w) (replicate buffers new_buffer) ≡ 0 = sum-none (λ x. cond (is_buffer_of w x) 1 0) new_buffer refl buffers in
      let filled : filled_at (replicate 11 None) w ≡ None = same-places None 11 (row_of w) in
      λ i. record { made = made i; spare = spare i; fresh = fresh i; buffers = of i; filled = filled i }

  pub created-entries : entries_in bits (created buffers words) ≡ new_entries buffers words
  created-entries = λ i. record {
    count = length-replicate {A = ShelfView} buffers empty_shelf i;
    words = words;
    last = 0;
    generation = 0;
    oldest = 0;
    state = λ r. states-none r i;
    mark = λ b. mark-new b i;
    of_width = λ w. counts-none w i;
    finished = None;
  }

  all-free : (n : ℕ) → count_marks is_state_free (λ b. free_mark) n ≡ n
  all-free zero = refl
  all-free (suc n) = omega (arith, all-free n)

  none-in : (ws : List ℕ) → buffers_in (λ w. no_counts) ws ≡ 0
  none-in [] = refl
  none-in (w ∷ ws) = omega (arith, none-in ws)

  sound-new : IsSound (new_entries buffers words)
  sound-new = record {
    order = omega arith;
    up_to = λ r s is. absurd (none-some None s refl is);
    marks = λ b. record { width = λ used. absurd (true≢false used); from = λ held. absurd (true≢false (sym held)); to = λ held. absurd (true≢false (sym held)) };
    sealed = λ b is. absurd (true≢false (sym is));
    finished = λ b is. absurd (none-number b is);
    few_made = λ w. omega arith;
    whole = omega (arith, all-free buffers, none-in widths);
  }
    where
      none-number : (b : ℕ) → None ≡ Some b → ⊥
      none-number b is = absurd (cc)

  list-new : IsHeldList bits (new_entries buffers words) []
  list-new = record {
    each = λ i d below. absurd (omega (arith, below));
    apart = λ i j d before below. absurd (omega (arith, below));
    all = λ r after g is. absurd (none-some None _ refl is);
  }

  counted-new : (b : ℕ) → IsCounted words 0 (buffer_at (replicate buffers new_buffer) b) (shelf_at (replicate buffers empty_shelf) b)
  counted-new b =
      subst (λ x. IsCounted words 0 x (shelf_at (replicate buffers empty_shelf) b)) (sym (same-places new_buffer buffers b))
      (subst (IsCounted words 0 new_buffer) (sym (same-places empty_shelf buffers b)) (record {
        of = record { width = λ some. absurd (omega (arith, some)); room = refl; taken = omega arith };
        width = refl;
        sealed = refl;
        used = refl;
        dead = refl;
        held = refl;
        dropped = refl;
      }))

  filled-new : (b : ℕ) → length (shelf_at (replicate buffers empty_shelf) b).states < (shelf_at (replicate buffers empty_shelf) b).room
      → filled_at (replicate 11 None) (shelf_at (replicate buffers empty_shelf) b).width ≡ Some b
  filled-new b less = absurd (let none : 0 < 0 = subst (λ (s : ShelfView). length s.states < s.room) (same-places empty_shelf buffers b) less in omega (arith, none))

  flagged-new : (b : ℕ) → IsFlagged (replicate 11 None) b (buffer_at (replicate buffers new_buffer) b)
  flagged-new b =
      let none : filled_at (replicate 11 None) 0 ≡ None = same-places None 11 (row_of 0) in
      subst (IsFlagged (replicate 11 None) b) (sym (same-places new_buffer buffers b)) (sym (ap (λ f. is_this f b) none))

  enough-new : (w : ℕ) → is_width w ≡ true
      → count_by (is_buffer_of w) (replicate buffers new_buffer) * capacity words w ≤ made_in (replicate 11 0) w + unmade_of_width (replicate buffers empty_shelf) w
  enough-new w is =
      let of : count_by (is_buffer_of w) (replicate buffers new_buffer) ≡ 0 = sum-none (λ x. cond (is_buffer_of w x) 1 0) new_buffer refl buffers in
      subst (λ n. n * capacity words w ≤ made_in (replicate 11 0) w + unmade_of_width (replicate buffers empty_shelf) w) (sym of) (omega arith)

  module _ (few : buffers < buffer_limit bits) (many : 8192 ≤ words) (low : words ≤ 65536) (offsets : words ≤ offset_limit bits) (product : buffers * words ≤ 67108864) where
    pub created-kept : AreEntries bits (created buffers words) [] 0 0
    unfolding entries_of
    created-kept = record {
      count = length-replicate {A = Buffer} buffers new_buffer ∙ sym (length-replicate {A = ShelfView} buffers empty_shelf);
      few_buffers = omega (arith, few, length-replicate {A = Buffer} buffers new_buffer);
      some_words = many;
      few_words = low;
      offsets = offsets;
      product = subst (λ n. n * words ≤ 67108864) (sym (length-replicate {A = Buffer} buffers new_buffer)) product;
      made_rows = refl;
      filled_rows = refl;
      counted = counted-new;
      filled = filled-new;
      flagged = flagged-new;
      enough = enough-new;
      sound = subst IsSound (sym created-entries) sound-new;
      list = subst (λ u. IsHeldList bits u []) (sym created-entries) list-new;
      unheld_is = sym (sum-none unheld_in empty_shelf refl buffers);
      fits = omega arith;
    }
