-- The ledger after the finished buffer was put on hold.
use Rattle.std.proofs.Common.{◌≡◌, ℕ, zero, suc, ◌+◌, ◌-◌, ◌<◌, ◌≤◌, Bool, true, false, not, ◌&&◌, cond, eqb, leb, List, [], ◌∷◌, length, set, Option, None, Some, refl, sym, ap, ◌∙◌, arith, inl, inr, get_or-set_other}
use Rattle.std.proofs.Common.{get_or-set_same}
use Rattle.std.specs.Prelude.{nat_lt}
use Rattle.std.specs.List.{count_by, slice_get}
use Rattle.std.proofs.lemmas.List.Elements.{All-weaker}
use Rattle.std.proofs.lemmas.List.Sums.{sum_by-set}
use Rattle.std.proofs.lemmas.Bool.{cases_lt, cases_eq, eq-eqb, ne_eqb, eqb-true, and_parts, not-true, true≢false}
use Rattle.entry_ref.specs.References.{buffer_of, offset_of, packed}
use Rattle.buffer_states.specs.declared.Buffer.{Buffer}
use Rattle.buffer_states.specs.declared.BufferState.TheVariants.{OnHold}
use Rattle.buffer_states.specs.Buffers.{new_buffer, buffer_at, is_state_active, is_on_hold}
use Rattle.entry_ledger.specs.declared.state.State.{State}
use Rattle.entry_ledger.specs.declared.state.State.TheVariants.{Free, Returned, Made, InUse, LetGo, DroppedNow, Dropped}
use Rattle.entry_ledger.specs.States.{ShelfView, empty_shelf, is_made, is_touched, spare_of, state_at}
use Rattle.entry_ledger.specs.Shelves.{shelf_at, filled_at, spare_in, spare_of_width}
use Rattle.hold_lists.specs.Held.{HeldEntry, HoldTag}
use Rattle.entry_ledger.specs.Entries.{EntriesView, is_timely, is_settled_entry, is_dropped_since}
use Rattle.entry_ledger.specs.Calls.{retired_at}
use Rattle.entry_ledger.specs.Ledgers.{LedgerView, entries_of, state_in, mark_of, fresh_in, unheld_in, unmade_in, tag_fits, tag_below, held_fits, is_in_list, IsHeldList, AreEntries}
use Rattle.entry_ledger.proofs.States.{state_by, at-suc}
use Rattle.entry_ledger.proofs.Counts.{fresh_of_width}
use Rattle.entry_ledger.proofs.Takes.{entries_in}
use Rattle.entry_ledger.proofs.Taking.{state-at}
use Rattle.entry_ledger.proofs.Commits.{count-no}
use Rattle.entry_ledger.proofs.Marks.{active-shelf, active-used, unflagged}
use Rattle.entry_ledger.proofs.Seals.{sealed-none}
use Rattle.entry_ledger.proofs.Replaced.{mark-set, IsReplaced, replace-count, replace-buffers, replace-kept}

-- an entry of the list that was dropped before the last commit has a tag up to the current generation
tag-low : (e : EntriesView) (tag : Option HoldTag) (state : Option State) → tag_fits e.last e.generation tag state ≡ true → is_dropped_since e.last state ≡ false
    → ((s : State) → state ≡ Some s → is_timely e s ≡ true) → tag_below e.generation tag ≡ true
tag-low e None (Some (Dropped after g)) fits since low = absurd (true≢false (sym (and_parts (eqb after e.last) (eqb g e.generation) fits).0 ∙ since))
tag-low e (Some tag) (Some (Dropped after g)) fits since low =
    let first = and_parts (nat_lt after e.last && eqb tag.generation g) (eqb tag.commit (suc after)) fits in
    let second = and_parts (nat_lt after e.last) (eqb tag.generation g) first.0 in
    let same : tag.generation ≡ g = eqb-true tag.generation g second.1 in
    let is = and_parts (leb after e.last && leb e.oldest g) (leb g e.generation) (low (Dropped after g) refl) in
    ap (λ n. leb n e.generation) same ∙ is.1
tag-low e None None fits since low = absurd (true≢false (sym fits))
tag-low e None (Some Free) fits since low = absurd (true≢false (sym fits))
tag-low e None (Some Returned) fits since low = absurd (true≢false (sym fits))
tag-low e None (Some Made) fits since low = absurd (true≢false (sym fits))
tag-low e None (Some (InUse after)) fits since low = absurd (true≢false (sym fits))
tag-low e None (Some LetGo) fits since low = absurd (true≢false (sym fits))
tag-low e None (Some (DroppedNow after)) fits since low = absurd (true≢false (sym fits))
tag-low e (Some tag) None fits since low = absurd (true≢false (sym fits))
tag-low e (Some tag) (Some Free) fits since low = absurd (true≢false (sym fits))
tag-low e (Some tag) (Some Returned) fits since low = absurd (true≢false (sym fits))
tag-low e (Some tag) (Some Made) fits since low = absurd (true≢false (sym fits))
tag-low e (Some tag) (Some (InUse after)) fits since low = absurd (true≢false (sym fits))
tag-low e (Some tag) (Some LetGo) fits since low = absurd (true≢false (sym fits))
tag-low e (Some tag) (Some (DroppedNow after)) fits since low = absurd (true≢false (sym fits))

nothing : (t : Bool) (n : ℕ) → n ≡ 0 → cond t n 0 ≡ 0
nothing true n is = is
nothing false n is = refl

none_some : (s : State) → None ≡ Some s → ⊥
none_some s e = absurd (cc)

some_none : (b : ℕ) → None ≡ Some b → ⊥
some_none b e = absurd (cc)

-- an empty shelf has no states
empty-none : (o : ℕ) → state_in empty_shelf o ≡ None
empty-none zero = refl
empty-none (suc y) = at-suc empty_shelf y

pub present : (xs : List State) (i : ℕ) → i < length xs → slice_get xs i ≡ Some (state_at xs i)
present [] i below = absurd (omega (arith, below))
present (y ∷ ys) zero below = refl
present (y ∷ ys) (suc i) below = present ys i (omega (arith, below))

module _ (bits : ℕ) (v : LedgerView) (held : List HeldEntry) (room unheld : ℕ) (k : AreEntries bits v held room unheld) (b : ℕ) (finished : v.finished ≡ Some b) where
  abbrev shelf : ShelfView
  shelf = shelf_at v.shelves.shelves b

  -- the finished buffer is sealed, active and not filled
  pub retire-is : ((buffer_at v.buffers b).sealed ≡ true) × (is_state_active (buffer_at v.buffers b).state ≡ true) × (filled_at v.shelves.filled (buffer_at v.buffers b).width ≡ Some b → ⊥)
  unfolding entries_of
  retire-is = (let sealed = k.sound.finished b finished in let is = k.sound.sealed b sealed in (sealed, is.active, is.unfilled))

  pub retire-inside : b < length v.shelves.shelves
  retire-inside = (active-shelf bits v held room unheld k b retire-is.1).0

  pub retire-sealed : shelf.sealed ≡ true
  retire-sealed = sym (k.counted b).sealed ∙ retire-is.0

  pub retire-unflagged : (buffer_at v.buffers b).filled ≡ false
  retire-unflagged = unflagged v.shelves.filled b (buffer_at v.buffers b) (k.flagged b) retire-is.2

  pub retire-unheld : unheld_in shelf ≤ unheld
  retire-unheld = omega (arith, sum_by-set unheld_in v.shelves.shelves b empty_shelf empty_shelf retire-inside, k.unheld_is)

  pub retire-settled : ((r : ℕ) → is_settled_entry ((entries_in bits v).state r) ≡ true) → count_by is_touched shelf.states ≡ 0
  retire-settled settled = count-no is_touched shelf.states (λ i below.
      (let is : (entries_in bits v).state (packed bits (i + 1) b) ≡ Some (state_at shelf.states i) =
      state-at bits v.shelves.shelves b i (omega (arith, retire-inside, k.count, k.few_buffers)) ∙ present shelf.states i below in
      not-true (is_touched (state_at shelf.states i)) (sym (ap is_settled_entry is) ∙ settled (packed bits (i + 1) b))))

  abbrev buffer : Buffer
  buffer = record new_buffer { state = OnHold; width = (buffer_at v.buffers b).width; generation = v.generation }

  abbrev pub retired_view : LedgerView
  retired_view = record v {
    shelves = record v.shelves { shelves = set v.shelves.shelves b empty_shelf };
    buffers = set v.buffers b (record new_buffer { state = OnHold; width = (buffer_at v.buffers b).width; generation = v.generation });
    finished = None;
  }

  -- a shelf that is not filled has no entry that was not taken
  left-none : (w : ℕ) → unmade_in w shelf ≡ 0
  left-none w = elim (cases_lt (length shelf.states) shelf.room) [
    | inl less ↦ absurd (retire-is.2 (ap (filled_at v.shelves.filled) (sym (active-shelf bits v held room unheld k b retire-is.1).1) ∙ k.filled b less))
    | inr most ↦
        nothing (eqb shelf.width w) (shelf.room - length shelf.states) (omega (arith, most))
  ]

  new : IsReplaced v b buffer empty_shelf None
  unfolding entries_of
  new = record {
    counted = record {
      of = record { width = λ wide. absurd (omega (arith, wide)); room = refl; taken = omega arith };
      width = refl;
      sealed = refl;
      used = omega arith;
      dead = omega arith;
      held = omega arith;
      dropped = omega arith;
    };
    taken = λ less. absurd (omega (arith, less));
    flagged = sym retire-unflagged ∙ k.flagged b;
    of_width = λ w. ap (λ t. not t && eqb (buffer_at v.buffers b).width w) (sym (active-used (buffer_at v.buffers b).state retire-is.1));
    free = sym (active-used (buffer_at v.buffers b).state retire-is.1);
    unmade = λ w. nothing (eqb 0 w) 0 refl ∙ sym (left-none w);
    width = λ is. (active-shelf bits v held room unheld k b retire-is.1).2;
    from = λ is. (let order = k.sound.order in order);
    to = λ is. omega arith;
    sealed = λ is. absurd (true≢false (sym is));
    here = λ is. absurd (some_none b is);
    others = λ a is. absurd (some_none a is);
  }

  retire-state : (r : ℕ) → state_by bits (set v.shelves.shelves b empty_shelf) r ≡ cond (eqb (buffer_of bits r) b) None (state_by bits v.shelves.shelves r)
  retire-state r = elim (cases_eq (buffer_of bits r) b) [
    | inl e ↦
        ap (λ n. state_in (shelf_at (set v.shelves.shelves b empty_shelf) n) (offset_of bits r)) e
        ∙ ap (λ s. state_in s (offset_of bits r)) (get_or-set_same v.shelves.shelves b empty_shelf empty_shelf retire-inside) ∙ empty-none (offset_of bits r)
        ∙ sym (ap (λ t. cond t None (state_by bits v.shelves.shelves r)) (eq-eqb (buffer_of bits r) b e))
    | inr ne ↦
        ap (λ s. state_in s (offset_of bits r)) (get_or-set_other v.shelves.shelves b (buffer_of bits r) empty_shelf empty_shelf ne)
        ∙ sym (ap (λ t. cond t None (state_by bits v.shelves.shelves r)) (ne_eqb (buffer_of bits r) b ne))
  ]

  states-were : (r : ℕ) (s : State) → (entries_in bits retired_view).state r ≡ Some s → (entries_in bits v).state r ≡ Some s
  states-were r s is = by_test (eqb (buffer_of bits r) b) (sym (retire-state r) ∙ is)
    where
      by_test : (t : Bool) → cond t None (state_by bits v.shelves.shelves r) ≡ Some s → state_by bits v.shelves.shelves r ≡ Some s
      by_test true e = absurd (none_some s e)
      by_test false e = e

  retire-list : ((r : ℕ) → is_dropped_since v.last ((entries_in bits v).state r) ≡ false) → IsHeldList bits (entries_in bits retired_view) held
  unfolding entries_of
  retire-list tagged = record {
    each = All-weaker (λ t. is_in_list bits (entries_in bits v) t ≡ true) (λ t. is_in_list bits (entries_in bits retired_view) t ≡ true) each held k.list.each;
    apart = k.list.apart;
    all = λ r after g is. k.list.all r after g (states-were r (Dropped after g) is);
  }
    where
      low : b < length v.buffers
      low = omega (arith, retire-inside, k.count)

      each : (t : HeldEntry) → is_in_list bits (entries_in bits v) t ≡ true → is_in_list bits (entries_in bits retired_view) t ≡ true
      each t is = elim (cases_eq (buffer_of bits t.entry) b) [
        | inl e ↦
            (let active : is_state_active (buffer_at v.buffers (buffer_of bits t.entry)).state ≡ true = ap (λ n. is_state_active (buffer_at v.buffers n).state) e ∙ retire-is.1 in
            let was : tag_fits v.last v.generation t.tag ((entries_in bits v).state t.entry) ≡ true =
            sym (ap (λ u. cond u (tag_fits v.last v.generation t.tag ((entries_in bits v).state t.entry))
            (cond (is_on_hold (buffer_at v.buffers (buffer_of bits t.entry)).state) (tag_below (buffer_at v.buffers (buffer_of bits t.entry)).generation t.tag) false)) active) ∙ is in
            let now : tag_below v.generation t.tag ≡ true = tag-low (entries_in bits v) t.tag ((entries_in bits v).state t.entry) was (tagged t.entry) (λ s at. k.sound.up_to t.entry s at) in
            ap (λ n. held_fits v.last v.generation (mark_of (buffer_at (set v.buffers b buffer) n)) t.tag ((entries_in bits retired_view).state t.entry)) e
            ∙ ap (λ u. held_fits v.last v.generation (mark_of u) t.tag ((entries_in bits retired_view).state t.entry)) (get_or-set_same v.buffers b buffer new_buffer low) ∙ now)
        | inr ne ↦
            ap (λ u. held_fits v.last v.generation (mark_of u) t.tag ((entries_in bits retired_view).state t.entry)) (get_or-set_other v.buffers b (buffer_of bits t.entry) buffer new_buffer ne)
            ∙ ap (held_fits v.last v.generation (mark_of (buffer_at v.buffers (buffer_of bits t.entry))) t.tag)
            (retire-state t.entry ∙ ap (λ u. cond u None (state_by bits v.shelves.shelves t.entry)) (ne_eqb (buffer_of bits t.entry) b ne)) ∙ is
      ]

  pub retire-kept : ((r : ℕ) → is_dropped_since v.last ((entries_in bits v).state r) ≡ false) → (left : ℕ) → left ≡ unheld - unheld_in shelf → AreEntries bits retired_view held room left
  unfolding entries_of
  retire-kept tagged left is = replace-kept bits v held room unheld k b retire-inside buffer empty_shelf None new states-were (retire-list tagged) left
      (omega (arith, sum_by-set unheld_in v.shelves.shelves b empty_shelf empty_shelf retire-inside, k.unheld_is, is)) (omega (arith, k.fits, is))

  pub retire-retired : entries_of bits retired_view ≡ retired_at bits (entries_of bits v) b
  unfolding entries_of
  retire-retired = λ i. record {
    count = replace-count bits v held room unheld k b retire-inside buffer empty_shelf None new i;
    words = v.shelves.words;
    last = v.last;
    generation = v.generation;
    oldest = v.oldest;
    state = λ r. retire-state r i;
    mark = λ a. mark-set v.buffers b buffer (omega (arith, retire-inside, k.count)) a i;
    of_width = λ w. record ((entries_in bits v).of_width w) {
      spare = spare w i;
      fresh = fresh w i;
      buffers = replace-buffers bits v held room unheld k b retire-inside buffer empty_shelf None new w i;
    };
    finished = None;
  }
    where
      spare : (w : ℕ) → spare_of_width (set v.shelves.shelves b empty_shelf) w ≡ spare_of_width v.shelves.shelves w
      spare w =
          let was : spare_in w shelf ≡ 0 = ap (λ t. cond (eqb shelf.width w && not t) (spare_of shelf) 0) retire-sealed ∙ sealed-none (eqb shelf.width w) (spare_of shelf) in
          let now : spare_in w empty_shelf ≡ 0 = nothing (eqb 0 w && not false) 0 refl in
          omega (arith, sum_by-set (spare_in w) v.shelves.shelves b empty_shelf empty_shelf retire-inside, was, now)

      fresh : (w : ℕ) → fresh_of_width (set v.shelves.shelves b empty_shelf) w ≡ fresh_of_width v.shelves.shelves w
      fresh w =
          let was : fresh_in w shelf ≡ 0 = ap (λ t. cond (eqb shelf.width w && not t) (count_by is_made shelf.states) 0) retire-sealed ∙ sealed-none (eqb shelf.width w) (count_by is_made shelf.states) in
          let now : fresh_in w empty_shelf ≡ 0 = nothing (eqb 0 w && not false) 0 refl in
          omega (arith, sum_by-set (fresh_in w) v.shelves.shelves b empty_shelf empty_shelf retire-inside, was, now)
