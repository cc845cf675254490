-- What is kept where an entry that was taken has another state.
use Rattle.std.proofs.Common.{◌≡◌, ℕ, ◌+◌, ◌*◌, ◌<◌, ◌≤◌, Bool, true, false, ◌&&◌, leb, List, length, set, Some, refl, sym, ap, subst, ◌∙◌, arith, inl, inr, get_or-set_other, get_or-set_same}
use Rattle.std.specs.Prelude.{nat_lt}
use Rattle.std.specs.List.{sum_by, count_by}
use Rattle.std.proofs.Math.ListN.{length-set}
use Rattle.std.proofs.lemmas.Bool.{cases_eq}
use Rattle.list_lemmas.specs.Counting.{one_if}
use Rattle.list_lemmas.proofs.Counts.{count_by-set}
use Rattle.entry_ref.specs.References.{packed}
use Rattle.store_api.specs.Ledgers.{is_width, widths, capacity, buffers_in}
use Rattle.buffer_states.specs.declared.Buffer.{Buffer}
use Rattle.buffer_states.specs.Buffers.{new_buffer, buffer_at, is_state_free, is_state_active, is_on_hold}
use Rattle.entry_ledger.specs.declared.state.State.{State}
use Rattle.entry_ledger.specs.declared.state.State.TheVariants.{Free, Returned, Made, InUse, LetGo, DroppedNow, Dropped}
use Rattle.entry_ledger.specs.States.{ShelfView, empty_shelf, spare_of, is_free_state, is_made, state_at, with_state_at}
use Rattle.entry_ledger.specs.Shelves.{shelf_at, made_in, filled_at, spare_of_width, with_shelf}
use Rattle.hold_lists.specs.Held.{HeldEntry}
use Rattle.entry_ledger.specs.Entries.{EntriesView, Mark, is_timely, count_marks}
use Rattle.entry_ledger.specs.Calls.{with_state}
use Rattle.entry_ledger.specs.Ledgers.{LedgerView, entries_of, mark_of, unheld_in, unmade_of_width, is_buffer_of, IsCounted, IsHeldList, IsSound, AreEntries}
use Rattle.entry_ledger.proofs.States.{state-set, changes-set, mark-same}
use Rattle.entry_ledger.proofs.Flags.{flag-same, flags-set}
use Rattle.entry_ledger.proofs.Counts.{fresh_of_width, spare-here, spare-other, spare-sealed, fresh-here, fresh-other, fresh-sealed}
use Rattle.entry_ledger.proofs.Unmade.{unmade-same}
use Rattle.entry_ledger.proofs.Takes.{entries_in, buffers-same}
use Rattle.entry_ledger.proofs.Sound.{buffers-in-same, state-cases}

up-to-same : (e new : EntriesView) → new.last ≡ e.last → new.oldest ≡ e.oldest → new.generation ≡ e.generation → (s : State) → is_timely new s ≡ is_timely e s
up-to-same e new last oldest generation Free = refl
up-to-same e new last oldest generation Returned = refl
up-to-same e new last oldest generation Made = refl
up-to-same e new last oldest generation (InUse after) = ap (leb after) last
up-to-same e new last oldest generation LetGo = refl
up-to-same e new last oldest generation (DroppedNow after) = ap (nat_lt after) last
up-to-same e new last oldest generation (Dropped after g) =
    ap (λ n. leb after n && leb new.oldest g && leb g new.generation) last ∙ ap (λ n. leb after e.last && leb n g && leb g new.generation) oldest
    ∙ ap (λ n. leb after e.last && leb e.oldest g && leb g n) generation

-- what holds of states, buffers and counts, where one state is another and only what is to spare or was made changes
pub sound-state : (e new : EntriesView) (r : ℕ) (state : State) → IsSound e → new.words ≡ e.words → new.count ≡ e.count → new.last ≡ e.last → new.generation ≡ e.generation → new.oldest ≡ e.oldest
    → new.finished ≡ e.finished → new.mark ≡ e.mark → ((q : ℕ) → new.state q ≡ with_state e.state r state q)
    → ((w : ℕ) → (new.of_width w).made ≡ (e.of_width w).made) → ((w : ℕ) → (new.of_width w).buffers ≡ (e.of_width w).buffers) → ((w : ℕ) → (new.of_width w).filled ≡ (e.of_width w).filled)
    → is_timely e state ≡ true → IsSound new
sound-state e new r state k words count last generation oldest finished mark states made buffers filled up_to = record {
  order = omega (arith, k.order, oldest, generation);
  up_to = λ q s is. moved s (state-cases e.state r state q s (sym (states q) ∙ is) (λ same new_is. ap (is_timely e) (sym new_is) ∙ up_to) (λ was. k.up_to q s was));
  marks = λ b. (let m = ap (λ f. f b) mark in record {
    width = λ f. ap (λ (t : Mark). is_width t.width) m ∙ (k.marks b).width (ap (λ (t : Mark). is_state_free t.state) (sym m) ∙ f);
    from = λ h. subst (λ n. n ≤ (new.mark b).generation) (sym oldest) (subst (λ (t : Mark). e.oldest ≤ t.generation) (sym m) ((k.marks b).from (ap (λ (t : Mark). is_on_hold t.state) (sym m) ∙ h)));
    to = λ h. subst (λ n. (new.mark b).generation ≤ n) (sym generation) (subst (λ (t : Mark). t.generation ≤ e.generation) (sym m) ((k.marks b).to (ap (λ (t : Mark). is_on_hold t.state) (sym m) ∙ h)));
  });
  sealed = λ b is. (let m = ap (λ f. f b) mark in let old = k.sealed b (ap (λ (t : Mark). t.sealed) (sym m) ∙ is) in record {
    below = omega (arith, old.below, count);
    active = ap (λ (t : Mark). is_state_active t.state) m ∙ old.active;
    unfilled = λ f. old.unfilled (ap (λ (t : Mark). (e.of_width t.width).filled) (sym m) ∙ sym (filled (new.mark b).width) ∙ f);
  });
  finished = λ b is. ap (λ f. (f b).sealed) mark ∙ k.finished b (sym finished ∙ is);
  few_made = λ w. omega (arith, made w, k.few_made w);
  whole =
      ap (λ f. count_marks is_state_free f new.count + buffers_in new.of_width widths) mark ∙ ap (λ n. count_marks is_state_free e.mark n + buffers_in new.of_width widths) count
      ∙ ap (λ n. count_marks is_state_free e.mark e.count + n) (buffers-in-same new.of_width e.of_width buffers widths) ∙ k.whole ∙ sym count;
}
  where
    moved : (s : State) → is_timely e s ≡ true → is_timely new s ≡ true
    moved s is = up-to-same e new last oldest generation s ∙ is

module _ (s : ShelfView) (x : ℕ) (state : State) (there : x < length s.states) where
  pub spare-change : spare_of (with_state_at s x state) + one_if (is_free_state (state_at s.states x)) ≡ spare_of s + one_if (is_free_state state)
  spare-change = omega (arith, count_by-set is_free_state s.states x state Free there, length-set {A = State} s.states x state)

  pub made-change : count_by is_made (set s.states x state) + one_if (is_made (state_at s.states x)) ≡ count_by is_made s.states + one_if (is_made state)
  made-change = count_by-set is_made s.states x state Free there

-- the shelves after one entry has another state: what is to spare, and what the unit made
module _ (shelves : List ShelfView) (b x : ℕ) (state : State) (h : b < length shelves) (there : x < length (shelf_at shelves b).states) where
  abbrev shelf : ShelfView
  shelf = shelf_at shelves b

  abbrev changed : List ShelfView
  changed = set shelves b (with_state_at shelf x state)

  -- a number of each width that changes with the entry where its shelf is of the width and not sealed
  by_width : (P : ℕ → ℕ → ℕ → ℕ → Type 0)
      → ((m n : ℕ) → P m n m n)
      → ((m n p q : ℕ) → p + one_if (is_free_state (state_at shelf.states x)) ≡ m + one_if (is_free_state state)
      → q + one_if (is_made (state_at shelf.states x)) ≡ n + one_if (is_made state) → P m n p q)
      → (w : ℕ) → P (spare_of_width shelves w) (fresh_of_width shelves w) (spare_of_width changed w) (fresh_of_width changed w)
  by_width P same change w = elim (cases_eq w shelf.width) [
    | inl e ↦ by_seal e shelf.sealed refl
    | inr ne ↦
        subst (λ p. P (spare_of_width shelves w) (fresh_of_width shelves w) p (fresh_of_width changed w)) (sym (spare-other shelves b (with_state_at shelf x state) h refl refl w ne))
        (subst (λ q. P (spare_of_width shelves w) (fresh_of_width shelves w) (spare_of_width shelves w) q) (sym (fresh-other shelves b (with_state_at shelf x state) h refl refl w ne))
        (same (spare_of_width shelves w) (fresh_of_width shelves w)))
  ]
    where
      by_seal : w ≡ shelf.width → (t : Bool) → shelf.sealed ≡ t → P (spare_of_width shelves w) (fresh_of_width shelves w) (spare_of_width changed w) (fresh_of_width changed w)
      by_seal e true sealed =
          subst (λ p. P (spare_of_width shelves w) (fresh_of_width shelves w) p (fresh_of_width changed w)) (sym (spare-sealed shelves b (with_state_at shelf x state) h refl refl sealed w))
          (subst (λ q. P (spare_of_width shelves w) (fresh_of_width shelves w) (spare_of_width shelves w) q) (sym (fresh-sealed shelves b (with_state_at shelf x state) h refl refl sealed w))
          (same (spare_of_width shelves w) (fresh_of_width shelves w)))
      by_seal e false unsealed =
          subst (λ v. P (spare_of_width shelves v) (fresh_of_width shelves v) (spare_of_width changed v) (fresh_of_width changed v)) (sym e)
          (change (spare_of_width shelves shelf.width) (fresh_of_width shelves shelf.width) (spare_of_width changed shelf.width) (fresh_of_width changed shelf.width)
          (omega (arith, spare-here shelves b (with_state_at shelf x state) h refl refl unsealed, spare-change shelf x state there))
          (omega (arith, fresh-here shelves b (with_state_at shelf x state) h refl refl unsealed, made-change shelf x state there)))

  -- where no free entry is taken, and one that the unit made is free then
  pub drops-counts : one_if (is_free_state (state_at shelf.states x)) ≡ 0 → one_if (is_free_state state) + one_if (is_made state) ≡ one_if (is_made (state_at shelf.states x))
      → (w : ℕ) → (spare_of_width shelves w ≤ spare_of_width changed w) × (spare_of_width changed w + fresh_of_width changed w ≡ spare_of_width shelves w + fresh_of_width shelves w)
  drops-counts used even w = by_width (λ m n p q. (m ≤ p) × (p + q ≡ m + n)) (λ m n. (omega arith, refl)) (λ m n p q spare made. (omega (arith, spare, used), omega (arith, spare, made, used, even))) w

  -- where what was free is free still, and nothing is made: the unit's end
  pub ends-counts : one_if (is_free_state (state_at shelf.states x)) ≤ one_if (is_free_state state) → (w : ℕ) → spare_of_width shelves w ≤ spare_of_width changed w
  ends-counts keeps w = by_width (λ m n p q. m ≤ p) (λ m n. omega arith) (λ m n p q spare made. omega (arith, spare, keeps)) w

  -- where none is made, and none was
  pub frees-counts : one_if (is_made state) ≡ one_if (is_made (state_at shelf.states x)) → (w : ℕ) → fresh_of_width changed w ≡ fresh_of_width shelves w
  frees-counts same w = by_width (λ m n p q. q ≡ n) (λ m n. refl) (λ m n p q spare made. omega (arith, made, same)) w

  -- what an undo takes back was made by the unit
  pub undoes-counts : one_if (is_free_state state) ≡ one_if (is_free_state (state_at shelf.states x)) + one_if (is_made (state_at shelf.states x)) → one_if (is_made state) ≡ 0
      → (w : ℕ) → spare_of_width changed w + fresh_of_width changed w ≡ spare_of_width shelves w + fresh_of_width shelves w
  undoes-counts free made w = by_width (λ m n p q. p + q ≡ m + n) (λ m n. refl) (λ m n p q spare fresh. omega (arith, spare, fresh, free, made)) w

module _ (bits : ℕ) (v : LedgerView) (held : List HeldEntry) (room unheld : ℕ) (k : AreEntries bits v held room unheld)
    (b x : ℕ) (state : State) (h : b < length v.shelves.shelves) (there : x < length (shelf_at v.shelves.shelves b).states)
    (buffer : Buffer) (marked : mark_of buffer ≡ mark_of (buffer_at v.buffers b)) where
  abbrev old_shelf : ShelfView
  old_shelf = shelf_at v.shelves.shelves b

  abbrev new_shelf : ShelfView
  new_shelf = with_state_at old_shelf x state

  abbrev pub changed_view : LedgerView
  changed_view = record v { shelves = with_shelf v.shelves b new_shelf; buffers = set v.buffers b buffer }

  within : b < length v.buffers
  within = omega (arith, h, k.count)

  pub change-state : (q : ℕ) → (entries_in bits changed_view).state q ≡ with_state (entries_in bits v).state (packed bits (x + 1) b) state q
  change-state q = state-set bits v.shelves.shelves b x new_shelf state h (omega (arith, h, k.count, k.few_buffers)) (changes-set old_shelf.states x state there) q

  pub change-mark : (entries_in bits changed_view).mark ≡ (entries_in bits v).mark
  change-mark = λ i a. mark-same v.buffers b buffer within marked a i

  pub change-count : (entries_in bits changed_view).count ≡ (entries_in bits v).count
  change-count = length-set {A = ShelfView} v.shelves.shelves b new_shelf

  pub change-sound : is_timely (entries_in bits v) state ≡ true → IsSound (entries_in bits changed_view)
  unfolding entries_of
  change-sound up_to = sound-state (entries_in bits v) (entries_in bits changed_view) (packed bits (x + 1) b) state k.sound refl change-count refl refl refl refl change-mark change-state
      (λ w. refl) (λ w. buffers-same v.buffers b buffer within marked w) (λ w. refl) up_to

  -- all but the list
  pub change-kept : buffer.filled ≡ (buffer_at v.buffers b).filled → (later : List HeldEntry) (space left : ℕ) → IsCounted v.shelves.words v.last buffer new_shelf → is_timely (entries_in bits v) state ≡ true
      → IsHeldList bits (entries_in bits changed_view) later → left ≡ sum_by unheld_in (set v.shelves.shelves b new_shelf) → left ≤ space → AreEntries bits changed_view later space left
  unfolding entries_of
  change-kept flag later space left counted up_to list sum fits = record {
    count = length-set {A = Buffer} v.buffers b buffer ∙ k.count ∙ sym change-count;
    few_buffers = omega (arith, k.few_buffers, length-set {A = Buffer} v.buffers b buffer);
    some_words = k.some_words;
    few_words = k.few_words;
    offsets = k.offsets;
    product = subst (λ n. n * v.shelves.words ≤ 67108864) (sym (length-set {A = Buffer} v.buffers b buffer)) k.product;
    made_rows = k.made_rows;
    filled_rows = k.filled_rows;
    counted = each;
    filled = filled;
    flagged = flags-set v.shelves.filled v.buffers b buffer within k.flagged (flag-same v.shelves.filled b (buffer_at v.buffers b) buffer marked flag (k.flagged b));
    enough = λ w is. subst (λ n. n * capacity v.shelves.words w ≤ made_in v.shelves.made w + unmade_of_width (set v.shelves.shelves b new_shelf) w) (sym (buffers-same v.buffers b buffer within marked w))
        (subst (λ n. count_by (is_buffer_of w) v.buffers * capacity v.shelves.words w ≤ made_in v.shelves.made w + n)
        (sym (unmade-same v.shelves.shelves b new_shelf h refl refl (length-set {A = State} old_shelf.states x state) w)) (k.enough w is));
    sound = change-sound up_to;
    list = list;
    unheld_is = sum;
    fits = fits;
  }
    where
      each : (a : ℕ) → IsCounted v.shelves.words v.last (buffer_at (set v.buffers b buffer) a) (shelf_at (set v.shelves.shelves b new_shelf) a)
      each a = elim (cases_eq a b) [
        | inl same ↦
            subst (λ n. IsCounted v.shelves.words v.last (buffer_at (set v.buffers b buffer) n) (shelf_at (set v.shelves.shelves b new_shelf) n)) (sym same)
            (subst (λ t. IsCounted v.shelves.words v.last t (shelf_at (set v.shelves.shelves b new_shelf) b)) (sym (get_or-set_same v.buffers b buffer new_buffer within))
            (subst (IsCounted v.shelves.words v.last buffer) (sym (get_or-set_same v.shelves.shelves b new_shelf empty_shelf h)) counted))
        | inr ne ↦
            subst (λ t. IsCounted v.shelves.words v.last t (shelf_at (set v.shelves.shelves b new_shelf) a)) (sym (get_or-set_other v.buffers b a buffer new_buffer ne))
            (subst (IsCounted v.shelves.words v.last (buffer_at v.buffers a)) (sym (get_or-set_other v.shelves.shelves b a new_shelf empty_shelf ne)) (k.counted a))
      ]

      filled : (a : ℕ) → length (shelf_at (set v.shelves.shelves b new_shelf) a).states < (shelf_at (set v.shelves.shelves b new_shelf) a).room
          → filled_at v.shelves.filled (shelf_at (set v.shelves.shelves b new_shelf) a).width ≡ Some a
      filled a less = elim (cases_eq a b) [
        | inl same ↦
            (let is : shelf_at (set v.shelves.shelves b new_shelf) a ≡ new_shelf =
            ap (shelf_at (set v.shelves.shelves b new_shelf)) same ∙ get_or-set_same v.shelves.shelves b new_shelf empty_shelf h in
            let low : length new_shelf.states < old_shelf.room = subst (λ (s : ShelfView). length s.states < s.room) is less in
            ap (λ (s : ShelfView). filled_at v.shelves.filled s.width) is ∙ k.filled b (omega (arith, low, length-set {A = State} old_shelf.states x state)) ∙ ap Some (sym same))
        | inr ne ↦
            (let is = get_or-set_other v.shelves.shelves b a new_shelf empty_shelf ne in
            ap (λ (s : ShelfView). filled_at v.shelves.filled s.width) is ∙ k.filled a (subst (λ (s : ShelfView). length s.states < s.room) is less))
      ]
