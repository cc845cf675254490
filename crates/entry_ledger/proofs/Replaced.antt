-- What is kept where one buffer and its shelf are others of the same width, and no entry has a new state.
use Rattle.std.proofs.Common.{◌≡◌, ◌≢◌, ℕ, ◌+◌, ◌*◌, ◌<◌, ◌≤◌, true, false, cond, List, length, set, Option, Some, refl, sym, ap, subst, ◌∙◌, arith, inl, inr, get_or-set_other, get_or-set_same}
use Rattle.std.specs.List.{count_by, sum_by}
use Rattle.std.proofs.Math.ListN.{length-set}
use Rattle.std.proofs.lemmas.List.Sums.{sum_by-set}
use Rattle.std.proofs.lemmas.Bool.{cases_eq, eq-eqb, ne_eqb}
use Rattle.list_lemmas.specs.Counting.{one_if}
use Rattle.list_lemmas.proofs.Counts.{count_by-set}
use Rattle.store_api.specs.Ledgers.{is_width, widths, capacity, buffers_in}
use Rattle.buffer_states.specs.declared.Buffer.{Buffer}
use Rattle.buffer_states.specs.Buffers.{new_buffer, buffer_at, is_state_free, is_state_active, is_on_hold}
use Rattle.entry_ledger.specs.declared.state.State.{State}
use Rattle.entry_ledger.specs.States.{ShelfView, empty_shelf}
use Rattle.entry_ledger.specs.Shelves.{shelf_at, made_in, filled_at, with_shelf}
use Rattle.hold_lists.specs.Held.{HeldEntry}
use Rattle.entry_ledger.specs.Entries.{count_marks}
use Rattle.entry_ledger.specs.Calls.{with_mark}
use Rattle.entry_ledger.specs.Ledgers.{LedgerView, entries_of, mark_of, unheld_in, unmade_in, unmade_of_width, is_buffer_of, IsCounted, IsFlagged, IsHeldList, IsSound, AreEntries}
use Rattle.entry_ledger.proofs.Flags.{flags-set}
use Rattle.entry_ledger.proofs.Takes.{entries_in}
use Rattle.entry_ledger.proofs.Sound.{buffers-in-same}
use Rattle.entry_ledger.proofs.Marks.{marks-same}

pub mark-set : (buffers : List Buffer) (b : ℕ) (new : Buffer) → b < length buffers
    → (a : ℕ) → mark_of (buffer_at (set buffers b new) a) ≡ with_mark (λ n. mark_of (buffer_at buffers n)) b (mark_of new) a
mark-set buffers b new h a = elim (cases_eq a b) [
  | inl e ↦
      ap (λ n. mark_of (buffer_at (set buffers b new) n)) e ∙ ap mark_of (get_or-set_same buffers b new new_buffer h)
      ∙ sym (ap (λ t. cond t (mark_of new) (mark_of (buffer_at buffers a))) (eq-eqb a b e))
  | inr ne ↦ ap mark_of (get_or-set_other buffers b a new new_buffer ne) ∙ sym (ap (λ t. cond t (mark_of new) (mark_of (buffer_at buffers a))) (ne_eqb a b ne))
]

-- what holds of each buffer and its shelf
pub each-buffer : (P : ℕ → Buffer → Type 0) (buffers : List Buffer) (b : ℕ) (new : Buffer) → b < length buffers → ((a : ℕ) → a ≢ b → P a (buffer_at buffers a)) → P b new
    → (a : ℕ) → P a (buffer_at (set buffers b new) a)
each-buffer P buffers b new h others here a = elim (cases_eq a b) [
  | inl e ↦ subst (λ n. P n (buffer_at (set buffers b new) n)) (sym e) (subst (P b) (sym (get_or-set_same buffers b new new_buffer h)) here)
  | inr ne ↦ subst (P a) (sym (get_or-set_other buffers b a new new_buffer ne)) (others a ne)
]

pub each-shelf : (P : ℕ → ShelfView → Type 0) (shelves : List ShelfView) (b : ℕ) (new : ShelfView) → b < length shelves → ((a : ℕ) → a ≢ b → P a (shelf_at shelves a)) → P b new
    → (a : ℕ) → P a (shelf_at (set shelves b new) a)
each-shelf P shelves b new h others here a = elim (cases_eq a b) [
  | inl e ↦ subst (λ n. P n (shelf_at (set shelves b new) n)) (sym e) (subst (P b) (sym (get_or-set_same shelves b new empty_shelf h)) here)
  | inr ne ↦ subst (P a) (sym (get_or-set_other shelves b a new empty_shelf ne)) (others a ne)
]

-- a buffer of the same width, free or not as before
pub buffers-kept : (buffers : List Buffer) (b : ℕ) (new : Buffer) → b < length buffers → ((w : ℕ) → is_buffer_of w new ≡ is_buffer_of w (buffer_at buffers b))
    → (w : ℕ) → count_by (is_buffer_of w) (set buffers b new) ≡ count_by (is_buffer_of w) buffers
buffers-kept buffers b new h same w =
    let equal : one_if (is_buffer_of w new) ≡ one_if (is_buffer_of w (buffer_at buffers b)) = ap one_if (same w) in
    omega (arith, count_by-set (is_buffer_of w) buffers b new new_buffer h, equal)

-- the new buffer and its shelf
pub record IsReplaced (v : LedgerView) (b : ℕ) (buffer : Buffer) (shelf : ShelfView) (finished : Option ℕ) : Type 0 where
  pub counted : IsCounted v.shelves.words v.last buffer shelf
  pub taken : length shelf.states < shelf.room → filled_at v.shelves.filled shelf.width ≡ Some b
  pub flagged : IsFlagged v.shelves.filled b buffer
  pub of_width : (w : ℕ) → is_buffer_of w buffer ≡ is_buffer_of w (buffer_at v.buffers b)
  pub free : is_state_free buffer.state ≡ is_state_free (buffer_at v.buffers b).state
  pub unmade : (w : ℕ) → unmade_in w shelf ≡ unmade_in w (shelf_at v.shelves.shelves b)
  pub width : is_state_free buffer.state ≡ false → is_width buffer.width ≡ true
  pub from : is_on_hold buffer.state ≡ true → v.oldest ≤ buffer.generation
  pub to : is_on_hold buffer.state ≡ true → buffer.generation ≤ v.generation
  pub sealed : buffer.sealed ≡ true → (is_state_active buffer.state ≡ true) × (filled_at v.shelves.filled buffer.width ≡ Some b → ⊥)
  pub here : finished ≡ Some b → buffer.sealed ≡ true
  pub others : (a : ℕ) → finished ≡ Some a → v.finished ≡ Some a

module _ (bits : ℕ) (v : LedgerView) (held : List HeldEntry) (room unheld : ℕ) (k : AreEntries bits v held room unheld)
    (b : ℕ) (h : b < length v.shelves.shelves) (buffer : Buffer) (shelf : ShelfView) (finished : Option ℕ) (new : IsReplaced v b buffer shelf finished) where
  abbrev pub replaced : LedgerView
  replaced = record v { shelves = with_shelf v.shelves b shelf; buffers = set v.buffers b buffer; finished = finished }

  within : b < length v.buffers
  within = omega (arith, h, k.count)

  pub replace-count : (entries_in bits replaced).count ≡ (entries_in bits v).count
  replace-count = length-set {A = ShelfView} v.shelves.shelves b shelf

  pub replace-buffers : (w : ℕ) → count_by (is_buffer_of w) (set v.buffers b buffer) ≡ count_by (is_buffer_of w) v.buffers
  replace-buffers w = buffers-kept v.buffers b buffer within new.of_width w

  replace-sound : ((r : ℕ) (s : State) → (entries_in bits replaced).state r ≡ Some s → (entries_in bits v).state r ≡ Some s) → IsSound (entries_of bits replaced)
  unfolding entries_of
  replace-sound states = record {
    order = k.sound.order;
    up_to = λ r s is. k.sound.up_to r s (states r s is);
    marks = λ a. (let is = kinds a in record { width = is.0; from = is.1; to = is.2 });
    sealed = λ a is. (let old = seals a is in record { below = omega (arith, old.0, replace-count); active = old.1; unfilled = old.2 });
    finished = ends;
    few_made = k.sound.few_made;
    whole =
        ap (λ n. n + buffers_in (entries_in bits replaced).of_width widths) (marks-same is_state_free (entries_in bits replaced).mark (entries_in bits v).mark frees (entries_in bits replaced).count)
        ∙ ap (λ n. count_marks is_state_free (entries_in bits v).mark n + buffers_in (entries_in bits replaced).of_width widths) replace-count
        ∙ ap (λ n. count_marks is_state_free (entries_in bits v).mark (entries_in bits v).count + n)
        (buffers-in-same (entries_in bits replaced).of_width (entries_in bits v).of_width replace-buffers widths) ∙ k.sound.whole ∙ sym replace-count;
  }
    where
      kinds : (a : ℕ) → (is_state_free (buffer_at (set v.buffers b buffer) a).state ≡ false → is_width (buffer_at (set v.buffers b buffer) a).width ≡ true)
          × (is_on_hold (buffer_at (set v.buffers b buffer) a).state ≡ true → v.oldest ≤ (buffer_at (set v.buffers b buffer) a).generation)
          × (is_on_hold (buffer_at (set v.buffers b buffer) a).state ≡ true → (buffer_at (set v.buffers b buffer) a).generation ≤ v.generation)
      kinds = each-buffer (λ a t. (is_state_free t.state ≡ false → is_width t.width ≡ true) × (is_on_hold t.state ≡ true → v.oldest ≤ t.generation) × (is_on_hold t.state ≡ true → t.generation ≤ v.generation))
          v.buffers b buffer within (λ a ne. ((k.sound.marks a).width, (k.sound.marks a).from, (k.sound.marks a).to)) (new.width, new.from, new.to)

      seals : (a : ℕ) → (buffer_at (set v.buffers b buffer) a).sealed ≡ true
          → (a < length v.shelves.shelves) × (is_state_active (buffer_at (set v.buffers b buffer) a).state ≡ true) × (filled_at v.shelves.filled (buffer_at (set v.buffers b buffer) a).width ≡ Some a → ⊥)
      seals = each-buffer (λ a t. t.sealed ≡ true → (a < length v.shelves.shelves) × (is_state_active t.state ≡ true) × (filled_at v.shelves.filled t.width ≡ Some a → ⊥))
          v.buffers b buffer within (λ a ne is. ((k.sound.sealed a is).below, (k.sound.sealed a is).active, (k.sound.sealed a is).unfilled)) (λ is. (h, (new.sealed is).0, (new.sealed is).1))

      ends : (a : ℕ) → finished ≡ Some a → (buffer_at (set v.buffers b buffer) a).sealed ≡ true
      ends = each-buffer (λ a t. finished ≡ Some a → t.sealed ≡ true) v.buffers b buffer within (λ a ne is. k.sound.finished a (new.others a is)) new.here

      frees : (a : ℕ) → is_state_free (buffer_at (set v.buffers b buffer) a).state ≡ is_state_free (buffer_at v.buffers a).state
      frees = each-buffer (λ a t. is_state_free t.state ≡ is_state_free (buffer_at v.buffers a).state) v.buffers b buffer within (λ a ne. refl) new.free

  pub replace-kept : ((r : ℕ) (s : State) → (entries_in bits replaced).state r ≡ Some s → (entries_in bits v).state r ≡ Some s) → IsHeldList bits (entries_in bits replaced) held
      → (left : ℕ) → left ≡ sum_by unheld_in (set v.shelves.shelves b shelf) → left ≤ room → AreEntries bits replaced held room left
  unfolding entries_of
  replace-kept states list left sum fits = record {
    count = length-set {A = Buffer} v.buffers b buffer ∙ k.count ∙ sym replace-count;
    few_buffers = omega (arith, k.few_buffers, length-set {A = Buffer} v.buffers b buffer);
    some_words = k.some_words;
    few_words = k.few_words;
    offsets = k.offsets;
    product = subst (λ n. n * v.shelves.words ≤ 67108864) (sym (length-set {A = Buffer} v.buffers b buffer)) k.product;
    made_rows = k.made_rows;
    filled_rows = k.filled_rows;
    counted = λ a. each-buffer (λ n t. IsCounted v.shelves.words v.last t (shelf_at (set v.shelves.shelves b shelf) n)) v.buffers b buffer within
        (λ n ne. subst (IsCounted v.shelves.words v.last (buffer_at v.buffers n)) (sym (get_or-set_other v.shelves.shelves b n shelf empty_shelf ne)) (k.counted n))
        (subst (IsCounted v.shelves.words v.last buffer) (sym (get_or-set_same v.shelves.shelves b shelf empty_shelf h)) new.counted) a;
    filled = each-shelf (λ a t. length t.states < t.room → filled_at v.shelves.filled t.width ≡ Some a) v.shelves.shelves b shelf h (λ a ne. k.filled a) new.taken;
    flagged = flags-set v.shelves.filled v.buffers b buffer within k.flagged new.flagged;
    enough = λ w is. (let unmade = sum_by-set (unmade_in w) v.shelves.shelves b shelf empty_shelf h in
        let same : unmade_of_width (set v.shelves.shelves b shelf) w ≡ unmade_of_width v.shelves.shelves w = omega (arith, unmade, new.unmade w) in
        subst (λ n. n * capacity v.shelves.words w ≤ made_in v.shelves.made w + unmade_of_width (set v.shelves.shelves b shelf) w) (sym (replace-buffers w))
        (subst (λ n. count_by (is_buffer_of w) v.buffers * capacity v.shelves.words w ≤ made_in v.shelves.made w + n) (sym same) (k.enough w is)));
    sound = replace-sound states;
    list = list;
    unheld_is = sum;
    fits = fits;
  }
