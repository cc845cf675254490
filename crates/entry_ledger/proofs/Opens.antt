-- What is kept where a free buffer was opened for entries of a width.
use Rattle.std.proofs.Common.{◌≡◌, ◌≢◌, ℕ, zero, suc, ◌+◌, ◌-◌, ◌*◌, ◌<◌, ◌≤◌, Bool, true, false, not, ◌&&◌, cond, eqb, List, [], ◌∷◌, map, length, set, Option, None, Some, refl, sym, ap, subst, ◌∙◌, arith, inl, inr}
use Rattle.std.proofs.Common.{get_or-set_other, get_or-set_same}
use Rattle.std.specs.List.{sum_by, count_by}
use Rattle.std.proofs.Math.ListN.{length-set}
use Rattle.std.proofs.Math.Nat.{mul_comm, mul-suc, div-le_self}
use Rattle.std.proofs.lemmas.List.{length-map}
use Rattle.std.proofs.lemmas.List.Elements.{All-from_get_or}
use Rattle.std.proofs.lemmas.List.Sums.{sum_by-cons, sum_by-set, sum_by-le, get_or-le-sum_by}
use Rattle.std.proofs.lemmas.Bool.{cases_eq, eq-eqb, ne_eqb, true≢false}
use Rattle.list_lemmas.specs.Counting.{one_if}
use Rattle.list_lemmas.proofs.Counts.{count_by-set}
use Rattle.store_api.specs.Ledgers.{OfWidth, is_width, is_this, capacity, with_counts}
use Rattle.buffer_states.specs.declared.Buffer.{Buffer}
use Rattle.buffer_states.specs.declared.BufferState.{BufferState}
use Rattle.buffer_states.specs.declared.BufferState.TheVariants.{Free, Active, OnHold}
use Rattle.buffer_states.specs.Buffers.{new_buffer, buffer_at, end_filling, filled_buffer, activated, is_state_free}
use Rattle.entry_ledger.specs.declared.state.State.{State}
use Rattle.entry_ledger.specs.States.{ShelfView, empty_shelf, spare_of, is_free_state}
use Rattle.entry_ledger.specs.Shelves.{shelf_at, row_of, made_in, filled_at, spare_in, spare_of_width}
use Rattle.entry_ledger.specs.ShelvesKept.{IsOfWidth}
use Rattle.entry_ledger.proofs.Rows.{width-bounds, row_of-below, row_of-apart}
use Rattle.hold_lists.specs.Held.{HeldEntry}
use Rattle.entry_ledger.specs.Entries.{EntriesView, Mark}
use Rattle.entry_ledger.specs.Calls.{with_mark, opened_at}
use Rattle.entry_ledger.specs.Ledgers.{LedgerView, entries_of, mark_of, counts_of, fresh_in, unheld_in, unmade_in, unmade_of_width, is_buffer_of, IsCounted, IsFlagged, IsHeldList, IsSound, AreEntries}
use Rattle.entry_ledger.proofs.States.{buffer-map, state-same}
use Rattle.entry_ledger.proofs.Takes.{entries_in}
use Rattle.entry_ledger.proofs.Good.{within-shelf}
use Rattle.entry_ledger.proofs.Plain.{list-kept}
use Rattle.entry_ledger.proofs.Commits.{sound-in}
use Rattle.entry_ledger.proofs.Opened.{free-inactive, mark-here, mark-other, sound-opened, list-opened}

-- a shelf without room is empty
empty-from : (s : ShelfView) → s.width ≡ 0 → s.sealed ≡ false → s.room ≡ 0 → length s.states ≤ s.room → s ≡ empty_shelf
empty-from s width unsealed room taken = λ i. record { width = width i; sealed = unsealed i; room = room i; states = none s.states (omega (arith, room, taken)) i }
  where
    none : (xs : List State) → length xs ≤ 0 → xs ≡ []
    none [] low = refl
    none (x ∷ xs) low = absurd (omega (arith, low))

pub none-either : (t : Bool) → cond t zero zero ≡ zero
none-either true = refl
none-either false = refl

whole-room : (n : ℕ) → n - 0 ≡ n
whole-room n = omega arith

whole-spare : (n : ℕ) → 0 + (n - 0) ≡ n
whole-spare n = omega arith

-- buffers that are filled no longer are of the same widths
count-ended : (u w : ℕ) (bs : List Buffer) → count_by (is_buffer_of u) (map (end_filling w) bs) ≡ count_by (is_buffer_of u) bs
count-ended u w [] = refl
count-ended u w (x ∷ bs) =
    sum_by-cons (λ b. cond (is_buffer_of u b) 1 0) (end_filling w x) (map (end_filling w) bs)
    ∙ ap (λ n. cond (is_buffer_of u x) 1 0 + n) (count-ended u w bs) ∙ sym (sum_by-cons (λ b. cond (is_buffer_of u b) 1 0) x bs)

-- the shelf that is opened
abbrev pub open_shelf : ℕ → ℕ → ShelfView
open_shelf words w = record empty_shelf { width = w; room = capacity words w }

abbrev pub opened : LedgerView → ℕ → ℕ → LedgerView
opened v b w = record v {
  shelves = record v.shelves { shelves = set v.shelves.shelves b (open_shelf v.shelves.words w); filled = set v.shelves.filled (row_of w) (Some b) };
  buffers = activated v.buffers b w;
}

module _ (bits : ℕ) (v : LedgerView) (held : List HeldEntry) (room unheld : ℕ) (k : AreEntries bits v held room unheld) (b : ℕ) (free : is_state_free (buffer_at v.buffers b).state ≡ true) where
  abbrev shelf : ShelfView
  shelf = shelf_at v.shelves.shelves b

  free-unsealed : (buffer_at v.buffers b).sealed ≡ false
  free-unsealed = by_test (buffer_at v.buffers b).sealed refl
    where
      by_test : (t : Bool) → (buffer_at v.buffers b).sealed ≡ t → t ≡ false
      by_test false is = refl
      by_test true is = absurd (true≢false (sym ((sound-in bits v k.sound).sealed b is).active ∙ free-inactive (buffer_at v.buffers b).state free))

  pub free-empty : shelf ≡ empty_shelf
  free-empty =
      let none : shelf.width ≡ 0 = (k.counted b).width ∙ ap (λ t. cond t (buffer_at v.buffers b).width 0) (free-inactive (buffer_at v.buffers b).state free) in
      empty-from shelf none (sym (k.counted b).sealed ∙ free-unsealed)
      ((k.counted b).of.room ∙ ap (λ t. cond t 0 (capacity v.shelves.words shelf.width)) (eq-eqb shelf.width 0 none)) (k.counted b).of.taken

-- what is not in the list is little
module _ (bits : ℕ) (v : LedgerView) (held : List HeldEntry) (room unheld : ℕ) (k : AreEntries bits v held room unheld) where
  unheld-low : (s : ShelfView) → IsOfWidth v.shelves.words s → unheld_in s ≤ v.shelves.words
  unheld-low s of = (let low = by_test (eqb s.width 0) in omega (arith, low, of.room))
    where
      by_test : (t : Bool) → cond t 0 (capacity v.shelves.words s.width) ≤ v.shelves.words
      by_test true = omega arith
      by_test false = omega (arith, div-le_self v.shelves.words s.width)

  pub unheld-few : unheld ≤ 67108864
  unheld-few =
      let most : sum_by unheld_in v.shelves.shelves ≤ length v.shelves.shelves * v.shelves.words =
      sum_by-le unheld_in v.shelves.words v.shelves.shelves
      (All-from_get_or (λ (s : ShelfView). unheld_in s ≤ v.shelves.words) v.shelves.shelves empty_shelf (λ a below. unheld-low (shelf_at v.shelves.shelves a) (k.counted a).of)) in
      let all : length v.shelves.shelves * v.shelves.words ≤ 67108864 = subst (λ n. n * v.shelves.words ≤ 67108864) k.count k.product in
      omega (arith, most, all, k.unheld_is)

  pub capacity-few : (w : ℕ) → capacity v.shelves.words w ≤ 65536
  capacity-few w = omega (arith, div-le_self v.shelves.words w, k.few_words)

-- the room of the list may be more
pub room-kept : (bits : ℕ) (v : LedgerView) (held : List HeldEntry) (room unheld : ℕ) → AreEntries bits v held room unheld → (more : ℕ) → room ≤ more → AreEntries bits v held more unheld
room-kept bits v held room unheld k more rises = list-kept bits v held room unheld k held more k.list (omega (arith, k.fits, rises))

-- a free buffer may be opened for entries of a width that has none to spare
pub record CanOpen (v : LedgerView) (b w : ℕ) : Type 0 where
  pub inside : b < length v.shelves.shelves
  pub free : is_state_free (buffer_at v.buffers b).state ≡ true
  pub valid : is_width w ≡ true
  pub spare : spare_of_width v.shelves.shelves w ≡ 0

pub can-open : (bits : ℕ) (v now : LedgerView) (b w : ℕ) → v ≡ now → b < (entries_of bits now).count → is_state_free ((entries_of bits now).mark b).state ≡ true → is_width w ≡ true
    → ((entries_of bits now).of_width w).spare ≡ 0 → CanOpen v b w
unfolding entries_of
can-open bits v now b w is inside free valid spare = subst (λ (u : LedgerView). CanOpen u b w) (sym is) (record { inside = inside; free = free; valid = valid; spare = spare })

pub free-is : (s : BufferState) → is_state_free s ≡ true → s ≡ Free
free-is Free is = refl
free-is Active is = absurd (true≢false (sym is))
free-is OnHold is = absurd (true≢false (sym is))

module _ (bits : ℕ) (v : LedgerView) (held : List HeldEntry) (room unheld : ℕ) (k : AreEntries bits v held room unheld) (b w : ℕ) (can : CanOpen v b w) where
  abbrev new : ShelfView
  new = open_shelf v.shelves.words w

  abbrev e : EntriesView
  e = entries_in bits v

  abbrev mark : Mark
  mark = mark_of (filled_buffer w)

  abbrev counts : OfWidth
  counts = record (counts_of v w) { spare = capacity v.shelves.words w; buffers = (counts_of v w).buffers + 1; filled = Some b }

  shelf-empty : shelf_at v.shelves.shelves b ≡ empty_shelf
  shelf-empty = free-empty bits v held room unheld k b can.free

  some_width : 2 ≤ w
  some_width = (width-bounds w can.valid).0

  inside-buffers : b < length v.buffers
  inside-buffers = omega (arith, can.inside, k.count)

  long-buffers : length (activated v.buffers b w) ≡ length v.buffers
  long-buffers = length-set {A = Buffer} (map (end_filling w) v.buffers) b (filled_buffer w) ∙ length-map v.buffers (end_filling w)

  long-shelves : length (set v.shelves.shelves b new) ≡ length v.shelves.shelves
  long-shelves = length-set {A = ShelfView} v.shelves.shelves b new

  shelf-here : shelf_at (set v.shelves.shelves b new) b ≡ new
  shelf-here = get_or-set_same v.shelves.shelves b new empty_shelf can.inside

  shelf-other : (a : ℕ) → a ≢ b → shelf_at (set v.shelves.shelves b new) a ≡ shelf_at v.shelves.shelves a
  shelf-other a ne = get_or-set_other v.shelves.shelves b a new empty_shelf ne

  buffer-here : buffer_at (activated v.buffers b w) b ≡ filled_buffer w
  buffer-here = get_or-set_same (map (end_filling w) v.buffers) b (filled_buffer w) new_buffer (let long = length-map v.buffers (end_filling w) in omega (arith, inside-buffers, long))

  buffer-other : (a : ℕ) → a ≢ b → buffer_at (activated v.buffers b w) a ≡ end_filling w (buffer_at v.buffers a)
  buffer-other a ne = get_or-set_other (map (end_filling w) v.buffers) b a (filled_buffer w) new_buffer ne ∙ buffer-map (end_filling w) refl v.buffers a

  filled-here : filled_at (set v.shelves.filled (row_of w) (Some b)) w ≡ Some b
  filled-here = get_or-set_same v.shelves.filled (row_of w) (Some b) None (let low = row_of-below w can.valid in omega (arith, low, k.filled_rows))

  filled-other : (u : ℕ) → u ≢ w → filled_at (set v.shelves.filled (row_of w) (Some b)) u ≡ filled_at v.shelves.filled u
  filled-other u ne = get_or-set_other v.shelves.filled (row_of w) (row_of u) (Some b) None (row_of-apart u w can.valid ne)

  marks-are : (a : ℕ) → mark_of (buffer_at (activated v.buffers b w) a) ≡ with_mark (λ n. mark_of (buffer_at v.buffers n)) b mark a
  marks-are a = elim (cases_eq a b) [
    | inl same ↦
        ap (λ n. mark_of (buffer_at (activated v.buffers b w) n)) same ∙ ap mark_of buffer-here ∙ sym (mark-here (λ n. mark_of (buffer_at v.buffers n)) b mark a same)
    | inr ne ↦ ap mark_of (buffer-other a ne) ∙ sym (mark-other (λ n. mark_of (buffer_at v.buffers n)) b mark a ne)
  ]

  -- a number that the open shelf has, where the empty one has can.spare
  sum-opened : (f : ShelfView → ℕ) → f empty_shelf ≡ 0 → sum_by f (set v.shelves.shelves b new) ≡ sum_by f v.shelves.shelves + f new
  sum-opened f nothing =
      let was : f (shelf_at v.shelves.shelves b) ≡ 0 = ap f shelf-empty ∙ nothing in
      omega (arith, sum_by-set f v.shelves.shelves b new empty_shelf can.inside, was)

  spare-opened : (u : ℕ) → spare_of_width (set v.shelves.shelves b new) u ≡ spare_of_width v.shelves.shelves u + spare_in u new
  spare-opened u = sum-opened (spare_in u) (none-either (eqb 0 u && not false))

  fresh-opened : (u : ℕ) → sum_by (fresh_in u) (set v.shelves.shelves b new) ≡ sum_by (fresh_in u) v.shelves.shelves
  fresh-opened u =
      let nothing : fresh_in u new ≡ 0 = none-either (eqb w u && not false) in
      omega (arith, sum-opened (fresh_in u) (none-either (eqb 0 u && not false)), nothing)

  unmade-opened : (u : ℕ) → unmade_of_width (set v.shelves.shelves b new) u ≡ unmade_of_width v.shelves.shelves u + unmade_in u new
  unmade-opened u = sum-opened (unmade_in u) (none-either (eqb 0 u))

  buffers-opened : (u : ℕ) → count_by (is_buffer_of u) (activated v.buffers b w) ≡ count_by (is_buffer_of u) v.buffers + one_if (eqb w u)
  buffers-opened u =
      let long = length-map v.buffers (end_filling w) in
      let is = count_by-set (is_buffer_of u) (map (end_filling w) v.buffers) b (filled_buffer w) new_buffer (omega (arith, inside-buffers, long)) in
      let was : one_if (is_buffer_of u (buffer_at (map (end_filling w) v.buffers) b)) ≡ 0 =
      ap (λ (x : Buffer). one_if (is_buffer_of u x)) (buffer-map (end_filling w) refl v.buffers b) ∙ ap (λ t. one_if (not t && eqb (buffer_at v.buffers b).width u)) can.free in
      let now : one_if (is_buffer_of u (filled_buffer w)) ≡ one_if (eqb w u) = refl in
      omega (arith, is, was, now, count-ended u w v.buffers)

  spare-here : spare_in w new ≡ capacity v.shelves.words w
  spare-here = ap (λ t. cond (t && not false) (spare_of new) 0) (eq-eqb w w refl) ∙ whole-spare (capacity v.shelves.words w)

  spare-other : (u : ℕ) → u ≢ w → spare_in u new ≡ 0
  spare-other u ne = ap (λ t. cond (t && not false) (spare_of new) 0) (ne_eqb w u (λ e. ne (sym e)))

  unmade-here : unmade_in w new ≡ capacity v.shelves.words w
  unmade-here = ap (λ t. cond t (capacity v.shelves.words w - 0) 0) (eq-eqb w w refl) ∙ whole-room (capacity v.shelves.words w)

  unmade-other : (u : ℕ) → u ≢ w → unmade_in u new ≡ 0
  unmade-other u ne = ap (λ t. cond t (capacity v.shelves.words w - 0) 0) (ne_eqb w u (λ e. ne (sym e)))

  one-more : one_if (eqb w w) ≡ 1
  one-more = ap one_if (eq-eqb w w refl)

  no-more : (u : ℕ) → u ≢ w → one_if (eqb w u) ≡ 0
  no-more u ne = ap one_if (ne_eqb w u (λ e. ne (sym e)))

  counts-here : counts_of (opened v b w) w ≡ counts
  counts-here =
      let spare : spare_of_width (set v.shelves.shelves b new) w ≡ capacity v.shelves.words w = omega (arith, spare-opened w, can.spare, spare-here) in
      let buffers : count_by (is_buffer_of w) (activated v.buffers b w) ≡ count_by (is_buffer_of w) v.buffers + 1 = omega (arith, buffers-opened w, one-more) in
      λ i. record { made = made_in v.shelves.made w; spare = spare i; fresh = fresh-opened w i; buffers = buffers i; filled = filled-here i }

  counts-other : (u : ℕ) → u ≢ w → counts_of (opened v b w) u ≡ counts_of v u
  counts-other u ne =
      let spare : spare_of_width (set v.shelves.shelves b new) u ≡ spare_of_width v.shelves.shelves u = omega (arith, spare-opened u, spare-other u ne) in
      let buffers : count_by (is_buffer_of u) (activated v.buffers b w) ≡ count_by (is_buffer_of u) v.buffers = omega (arith, buffers-opened u, no-more u ne) in
      λ i. record { made = made_in v.shelves.made u; spare = spare i; fresh = fresh-opened u i; buffers = buffers i; filled = filled-other u ne i }

  counts-are : (u : ℕ) → counts_of (opened v b w) u ≡ with_counts (counts_of v) w counts u
  counts-are u = elim (cases_eq u w) [
    | inl same ↦ ap (counts_of (opened v b w)) same ∙ counts-here ∙ sym (ap (λ t. cond t counts (counts_of v u)) (eq-eqb u w same))
    | inr ne ↦ counts-other u ne ∙ sym (ap (λ t. cond t counts (counts_of v u)) (ne_eqb u w ne))
  ]

  pub opened-entries : entries_in bits (opened v b w) ≡ opened_at e b w
  opened-entries = λ i. record {
    count = long-shelves i;
    words = v.shelves.words;
    last = v.last;
    generation = v.generation;
    oldest = v.oldest;
    state = λ r. state-same bits v.shelves.shelves b new can.inside (sym (ap (λ (s : ShelfView). s.states) shelf-empty)) r i;
    mark = λ a. marks-are a i;
    of_width = λ u. counts-are u i;
    finished = v.finished;
  }

  counted-here : IsCounted v.shelves.words v.last (filled_buffer w) new
  counted-here = record {
    of = record { width = λ some. can.valid; room = sym (ap (λ t. cond t 0 (capacity v.shelves.words w)) (ne_eqb w 0 (λ e. omega (arith, some_width, e)))); taken = omega arith };
    width = refl;
    sealed = refl;
    used = once w;
    dead = nothing w;
    held = nothing w;
    dropped = nothing w;
  }
    where
      once : (n : ℕ) → n ≡ n * 1
      once n = omega arith

      nothing : (n : ℕ) → 0 ≡ n * 0
      nothing n = omega arith

  counted-opened : (a : ℕ) → IsCounted v.shelves.words v.last (buffer_at (activated v.buffers b w) a) (shelf_at (set v.shelves.shelves b new) a)
  counted-opened a = elim (cases_eq a b) [
    | inl same ↦
        subst (λ n. IsCounted v.shelves.words v.last (buffer_at (activated v.buffers b w) n) (shelf_at (set v.shelves.shelves b new) n)) (sym same)
        (subst (λ (x : Buffer). IsCounted v.shelves.words v.last x (shelf_at (set v.shelves.shelves b new) b)) (sym buffer-here)
        (subst (IsCounted v.shelves.words v.last (filled_buffer w)) (sym shelf-here) counted-here))
    | inr ne ↦
        (let was = k.counted a in
        subst (λ (x : Buffer). IsCounted v.shelves.words v.last x (shelf_at (set v.shelves.shelves b new) a)) (sym (buffer-other a ne))
        (subst (IsCounted v.shelves.words v.last (end_filling w (buffer_at v.buffers a))) (sym (shelf-other a ne))
        (record { of = was.of; width = was.width; sealed = was.sealed; used = was.used; dead = was.dead; held = was.held; dropped = was.dropped })))
  ]

  -- no other shelf of the width has entries that were not taken
  none-left : (a : ℕ) → (shelf_at v.shelves.shelves a).width ≡ w → length (shelf_at v.shelves.shelves a).states < (shelf_at v.shelves.shelves a).room → ⊥
  none-left a wide less = by_test (shelf_at v.shelves.shelves a).sealed refl
    where
      by_test : (t : Bool) → (shelf_at v.shelves.shelves a).sealed ≡ t → ⊥
      by_test true is =
          let marked : (buffer_at v.buffers a).sealed ≡ true = (k.counted a).sealed ∙ is in
          let seal = (sound-in bits v k.sound).sealed a marked in
          let width : (buffer_at v.buffers a).width ≡ (shelf_at v.shelves.shelves a).width =
          sym ((k.counted a).width ∙ ap (λ t. cond t (buffer_at v.buffers a).width 0) seal.active) in
          seal.unfilled (ap (filled_at v.shelves.filled) width ∙ k.filled a less)
      by_test false is =
          let some : spare_in w (shelf_at v.shelves.shelves a)
          ≡ count_by is_free_state (shelf_at v.shelves.shelves a).states + ((shelf_at v.shelves.shelves a).room - length (shelf_at v.shelves.shelves a).states) =
          ap (λ t. cond (t && not (shelf_at v.shelves.shelves a).sealed) (spare_of (shelf_at v.shelves.shelves a)) 0) (eq-eqb (shelf_at v.shelves.shelves a).width w wide)
          ∙ ap (λ t. cond (true && not t) (spare_of (shelf_at v.shelves.shelves a)) 0) is in
          omega (arith, get_or-le-sum_by (spare_in w) v.shelves.shelves a empty_shelf (within-shelf v.shelves.shelves a (omega (arith, less))), can.spare, some, less)

  filled-opened : (a : ℕ) → length (shelf_at (set v.shelves.shelves b new) a).states < (shelf_at (set v.shelves.shelves b new) a).room
      → filled_at (set v.shelves.filled (row_of w) (Some b)) (shelf_at (set v.shelves.shelves b new) a).width ≡ Some a
  filled-opened a less = elim (cases_eq a b) [
    | inl same ↦
        ap (λ n. filled_at (set v.shelves.filled (row_of w) (Some b)) (shelf_at (set v.shelves.shelves b new) n).width) same
        ∙ ap (λ (s : ShelfView). filled_at (set v.shelves.filled (row_of w) (Some b)) s.width) shelf-here ∙ filled-here ∙ ap Some (sym same)
    | inr ne ↦
        (let is = shelf-other a ne in
        let low : length (shelf_at v.shelves.shelves a).states < (shelf_at v.shelves.shelves a).room = subst (λ (s : ShelfView). length s.states < s.room) is less in
        let apart : (shelf_at v.shelves.shelves a).width ≢ w = λ wide. none-left a wide low in
        ap (λ (s : ShelfView). filled_at (set v.shelves.filled (row_of w) (Some b)) s.width) is ∙ filled-other (shelf_at v.shelves.shelves a).width apart ∙ k.filled a low)
  ]

  flagged-opened : (a : ℕ) → IsFlagged (set v.shelves.filled (row_of w) (Some b)) a (buffer_at (activated v.buffers b w) a)
  flagged-opened a = elim (cases_eq a b) [
    | inl same ↦
        subst (λ n. IsFlagged (set v.shelves.filled (row_of w) (Some b)) n (buffer_at (activated v.buffers b w) n)) (sym same)
        (subst (IsFlagged (set v.shelves.filled (row_of w) (Some b)) b) (sym buffer-here) (sym (ap (λ f. is_this f b) filled-here ∙ eq-eqb b b refl)))
    | inr ne ↦
        subst (IsFlagged (set v.shelves.filled (row_of w) (Some b)) a) (sym (buffer-other a ne)) (elim (cases_eq (buffer_at v.buffers a).width w) [
          | inl wide ↦
              ap (λ t. (buffer_at v.buffers a).filled && not t) (eq-eqb (buffer_at v.buffers a).width w wide) ∙ none-and (buffer_at v.buffers a).filled
              ∙ sym (ap (λ n. is_this (filled_at (set v.shelves.filled (row_of w) (Some b)) n) a) wide ∙ ap (λ f. is_this f a) filled-here ∙ ne_eqb b a (λ e. ne (sym e)))
          | inr apart ↦
              ap (λ t. (buffer_at v.buffers a).filled && not t) (ne_eqb (buffer_at v.buffers a).width w apart) ∙ all-and (buffer_at v.buffers a).filled
              ∙ k.flagged a ∙ ap (λ f. is_this f a) (sym (filled-other (buffer_at v.buffers a).width apart))
        ])
  ]
    where
      none-and : (t : Bool) → (t && not true) ≡ false
      none-and true = refl
      none-and false = refl

      all-and : (t : Bool) → (t && not false) ≡ t
      all-and true = refl
      all-and false = refl

  enough-opened : (u : ℕ) → is_width u ≡ true
      → count_by (is_buffer_of u) (activated v.buffers b w) * capacity v.shelves.words u ≤ made_in v.shelves.made u + unmade_of_width (set v.shelves.shelves b new) u
  enough-opened u is = elim (cases_eq u w) [
    | inl same ↦
        subst (λ n. count_by (is_buffer_of n) (activated v.buffers b w) * capacity v.shelves.words n ≤ made_in v.shelves.made n + unmade_of_width (set v.shelves.shelves b new) n) (sym same)
        (let all : count_by (is_buffer_of w) (activated v.buffers b w) * capacity v.shelves.words w ≡ count_by (is_buffer_of w) v.buffers * capacity v.shelves.words w + capacity v.shelves.words w =
        one-times (count_by (is_buffer_of w) (activated v.buffers b w)) (count_by (is_buffer_of w) v.buffers) (capacity v.shelves.words w) (omega (arith, buffers-opened w, one-more)) in
        omega (arith, all, k.enough w can.valid, unmade-opened w, unmade-here))
    | inr ne ↦
        (let count : count_by (is_buffer_of u) (activated v.buffers b w) ≡ count_by (is_buffer_of u) v.buffers = omega (arith, buffers-opened u, no-more u ne) in
        let left : unmade_of_width (set v.shelves.shelves b new) u ≡ unmade_of_width v.shelves.shelves u = omega (arith, unmade-opened u, unmade-other u ne) in
        subst (λ n. n * capacity v.shelves.words u ≤ made_in v.shelves.made u + unmade_of_width (set v.shelves.shelves b new) u) (sym count)
        (subst (λ n. count_by (is_buffer_of u) v.buffers * capacity v.shelves.words u ≤ made_in v.shelves.made u + n) (sym left) (k.enough u is)))
  ]
    where
      one-times : (m n c : ℕ) → m ≡ suc n → m * c ≡ n * c + c
      one-times m n c is = ap (λ t. t * c) is ∙ mul_comm (suc n) c ∙ mul-suc c n ∙ ap (λ t. t + c) (mul_comm c n)

  unheld-opened : sum_by unheld_in (set v.shelves.shelves b new) ≡ unheld + capacity v.shelves.words w
  unheld-opened =
      let here : unheld_in new ≡ capacity v.shelves.words w = whole-room (capacity v.shelves.words w) in
      omega (arith, sum-opened unheld_in refl, here, k.unheld_is)

  pub open-kept : (more : ℕ) → unheld + capacity v.shelves.words w ≤ more → AreEntries bits (opened v b w) held more (unheld + capacity v.shelves.words w)
  unfolding entries_of
  open-kept more fits = record {
    count = long-buffers ∙ k.count ∙ sym long-shelves;
    few_buffers = omega (arith, k.few_buffers, long-buffers);
    some_words = k.some_words;
    few_words = k.few_words;
    offsets = k.offsets;
    product = subst (λ n. n * v.shelves.words ≤ 67108864) (sym long-buffers) k.product;
    made_rows = k.made_rows;
    filled_rows = length-set {A = Option ℕ} v.shelves.filled (row_of w) (Some b) ∙ k.filled_rows;
    counted = counted-opened;
    filled = filled-opened;
    flagged = flagged-opened;
    enough = enough-opened;
    sound = subst IsSound (sym opened-entries) (sound-opened e b w can.inside can.free can.valid k.sound);
    list = subst (λ u. IsHeldList bits u held) (sym opened-entries) (list-opened e b w can.inside can.free can.valid bits held k.list);
    unheld_is = sym unheld-opened;
    fits = fits;
  }
