-- What is always so, from what is kept.
use Rattle.std.proofs.Common.{eqb, ◌⊎◌, ◌≢◌, ◌≡◌, ℕ, zero, suc, ◌+◌, ◌-◌, ◌*◌, ◌/◌, ◌<◌, ◌≤◌, Bool, true, false, not, ◌&&◌, cond, List, [], ◌∷◌, length, None, Some, refl, sym, ap, subst, ◌∙◌, arith, inl, inr}
use Rattle.std.specs.List.{All, AllByRecursion, slice_get, count_by}
use Rattle.std.proofs.Math.Nat.{div-mul-le_self, mul-le-mul_right}
use Rattle.std.proofs.lemmas.List.Elements.{All-head, All-tail}
use Rattle.std.proofs.lemmas.Nat.{le-div}
use Rattle.std.proofs.lemmas.Option.{slice_get_within}
use Rattle.std.proofs.lemmas.Bool.{cases_lt, cases_eq, eq-eqb, ne_eqb}
use Rattle.entry_ref.specs.References.{buffer_of, offset_of}
use Rattle.entry_ref.specs.Places.{IsEntry}
use Rattle.store_api.specs.Ledgers.{capacity, is_width}
use Rattle.entry_ledger.specs.declared.state.State.{State}
use Rattle.buffer_states.specs.declared.BufferState.{BufferState}
use Rattle.buffer_states.specs.declared.BufferState.TheVariants.{Free, Active, OnHold}
use Rattle.buffer_states.specs.Buffers.{buffer_at, is_state_active, is_state_free, new_buffer}
use Rattle.entry_ledger.specs.States.{ShelfView, empty_shelf}
use Rattle.entry_ledger.specs.Shelves.{shelf_at, made_in, filled_at}
use Rattle.entry_ledger.specs.ShelvesKept.{IsOfWidth}
use Rattle.entry_ledger.proofs.Rows.{width-bounds}
use Rattle.entry_ledger.proofs.Opening.{some-capacity}
use Rattle.hold_lists.specs.Held.{HeldEntry}
use Rattle.entry_ledger.specs.Entries.{EntriesView, IsEntryOf, IsSealed, IsSpare, IsGood, width_of, is_open_entry}
use Rattle.entry_ledger.specs.Ledgers.{LedgerView, entries_of, state_in, unmade_in, unmade_of_width, is_buffer_of, AreEntries}
use Rattle.entry_ledger.proofs.Unmade.{few-unmade, few-buffers}
use Rattle.entry_ledger.proofs.Packed.{unmade-spare, sum-but, sum-counted}
use Rattle.entry_ledger.proofs.Spares.{IsOpenAt, spare_place, few_spare}
use Rattle.entry_ledger.proofs.Takes.{entries_in}

-- a shelf past the last is empty
past : (shelves : List ShelfView) (b : ℕ) → length shelves ≤ b → shelf_at shelves b ≡ empty_shelf
past [] b past_is = refl
past (s ∷ shelves) zero past_is = absurd (omega (arith, past_is))
past (s ∷ shelves) (suc b) past_is = past shelves b (omega (arith, past_is))

pub within-shelf : (shelves : List ShelfView) (b : ℕ) → 0 < (shelf_at shelves b).room → b < length shelves
within-shelf shelves b some = elim (cases_lt b (length shelves)) [
  | inl k ↦ k
  | inr k ↦ absurd (let none : (shelf_at shelves b).room ≡ 0 = ap (λ (s : ShelfView). s.room) (past shelves b (omega (arith, k))) in omega (arith, some, none))
]

-- the room of an open shelf
pub room-of : (words : ℕ) (s : ShelfView) → IsOfWidth words s → 0 < s.room → (0 < s.width) × (s.room ≡ capacity words s.width)
room-of words s of some = by_number s.width refl
  where
    by_number : (w : ℕ) → s.width ≡ w → (0 < s.width) × (s.room ≡ capacity words s.width)
    by_number zero e = absurd (let none : s.room ≡ 0 = of.room ∙ ap (λ t. cond t 0 (capacity words s.width)) (eq-eqb s.width 0 e) in omega (arith, some, none))
    by_number (suc w) e = (omega (arith, e), of.room ∙ ap (λ t. cond t 0 (capacity words s.width)) (ne_eqb s.width 0 (λ z. omega (arith, e, z))))

-- a place with a state is one of an offset
pub at-offset : (s : ShelfView) (o : ℕ) (state : State) → state_in s o ≡ Some state → (0 < o) × (o - 1 < length s.states)
at-offset s o state is = elim (cases_eq o 0) [
  | inl e ↦ absurd (let none : None ≡ Some state = sym (ap (λ t. cond t None (slice_get s.states (o - 1))) (eq-eqb o 0 e)) ∙ is in cc)
  | inr ne ↦
      (omega (arith, ne), slice_get_within s.states (o - 1) state (sym (ap (λ t. cond t None (slice_get s.states (o - 1))) (ne_eqb o 0 ne)) ∙ is))
]

-- an offset up to the capacity is one of an entry
pub entry-at : (bits buffers words w r : ℕ) → buffer_of bits r < buffers → 0 < w → 0 < offset_of bits r → offset_of bits r - 1 < capacity words w → IsEntry bits buffers words w r
entry-at bits buffers words w r inside wide first low = record {
  inside = inside;
  wide = wide;
  first = first;
  last =
      (let few : offset_of bits r + 1 ≤ words / w = omega (arith, first, low) in
      let all : (offset_of bits r + 1) * w ≤ words / w * w = mul-le-mul_right w few in
      omega (arith, all, div-mul-le_self words w));
}

-- and the other way round
pub place-low : (bits buffers words w r : ℕ) → IsEntry bits buffers words w r → offset_of bits r - 1 < capacity words w
place-low bits buffers words w r entry =
    let all : (offset_of bits r + 1) * w ≤ words = omega (arith, entry.last) in
    let few : offset_of bits r + 1 ≤ words / w = le-div (offset_of bits r + 1) words w entry.wide all in
    omega (arith, few, entry.first)

module _ (bits : ℕ) (v : LedgerView) (held : List HeldEntry) (room unheld : ℕ) (k : AreEntries bits v held room unheld) where
  abbrev e : EntriesView
  e = entries_in bits v

  abbrev shelf : ℕ → ShelfView
  shelf b = shelf_at v.shelves.shelves b

  pub width-is : (b : ℕ) → width_of e b ≡ (shelf b).width
  width-is b = sym (k.counted b).width

  pub entries-are : (r : ℕ) (s : State) → e.state r ≡ Some s → IsEntryOf bits e r
  entries-are r s is =
      let b = buffer_of bits r in
      let at = at-offset (shelf b) (offset_of bits r) s is in
      let of = (k.counted b).of in
      let some : 0 < (shelf b).room = omega (arith, at.1, of.taken) in
      let open_is = room-of v.shelves.words (shelf b) of some in
      subst (λ w. IsEntry bits e.count e.words w r) (sym (width-is b))
      (entry-at bits e.count e.words (shelf b).width r (within-shelf v.shelves.shelves b some) open_is.0 at.0 (omega (arith, at.1, of.taken, open_is.1)))

  -- the place of an entry lies in its shelf
  pub place-in : (r : ℕ) → IsEntryOf bits e r → offset_of bits r - 1 < (shelf (buffer_of bits r)).room
  place-in r entry =
      let b = buffer_of bits r in
      let here : IsEntry bits e.count e.words (shelf b).width r = subst (λ w. IsEntry bits e.count e.words w r) (width-is b) entry in
      let low = place-low bits e.count e.words (shelf b).width r here in
      let is : (shelf b).room ≡ capacity e.words (shelf b).width =
      (k.counted b).of.room ∙ ap (λ t. cond t 0 (capacity e.words (shelf b).width)) (ne_eqb (shelf b).width 0 (λ z. (let wide = here.wide in omega (arith, wide, z)))) in
      omega (arith, low, is)

  filled-is : (r : ℕ) → IsEntryOf bits e r → e.state r ≡ None → (e.of_width (width_of e (buffer_of bits r))).filled ≡ Some (buffer_of bits r)
  filled-is r entry none =
      let b = buffer_of bits r in
      let low = place-in r entry in
      let above : length (shelf b).states ≤ offset_of bits r - 1 = past-none (shelf b).states (offset_of bits r - 1)
      (sym (ap (λ t. cond t None (slice_get (shelf b).states (offset_of bits r - 1))) (ne_eqb (offset_of bits r) 0 (λ z. (let first = entry.first in omega (arith, first, z))))) ∙ none) in
      subst (λ w. filled_at v.shelves.filled w ≡ Some b) (sym (width-is b)) (k.filled b (omega (arith, low, above)))
    where
      past-none : (xs : List State) (i : ℕ) → slice_get xs i ≡ None → length xs ≤ i
      past-none [] i none = omega arith
      past-none (x ∷ xs) zero none = absurd (cc)
      past-none (x ∷ xs) (suc i) none = omega (arith, past-none xs i none)

  spare-at : (w r : ℕ) → IsSpare bits e w r → IsOpenAt bits (length v.shelves.shelves) (spare_place w v.shelves.shelves) (λ b. (shelf b).room) r
  spare-at w r spare =
      let b = buffer_of bits r in
      let entry : IsEntryOf bits e r = subst (λ n. IsEntry bits e.count e.words n r) (sym spare.of_width) spare.entry in
      let wide : (shelf b).width ≡ w = sym (width-is b) ∙ spare.of_width in
      let unsealed : (shelf b).sealed ≡ false = sym (k.counted b).sealed ∙ spare.unsealed in
      let state : e.state r ≡ slice_get (shelf b).states (offset_of bits r - 1) =
      ap (λ t. cond t None (slice_get (shelf b).states (offset_of bits r - 1))) (ne_eqb (offset_of bits r) 0 (λ z. (let first = entry.first in omega (arith, first, z)))) in
      record {
        inside = entry.inside;
        first = entry.first;
        low = place-in r entry;
        is =
            ap (λ t. cond (t && not (shelf b).sealed) (is_open_entry (slice_get (shelf b).states (offset_of bits r - 1))) false) (eq-eqb (shelf b).width w wide)
            ∙ ap (λ t. cond (true && not t) (is_open_entry (slice_get (shelf b).states (offset_of bits r - 1))) false) unsealed
            ∙ ap is_open_entry (sym state) ∙ spare.is_open;
      }

  spares-at : (w : ℕ) (refs : List ℕ) → All (IsSpare bits e w) refs → AllByRecursion (IsOpenAt bits (length v.shelves.shelves) (spare_place w v.shelves.shelves) (λ b. (shelf b).room)) refs
  spares-at w [] all = tt
  spares-at w (r ∷ refs) all = (spare-at w r (All-head (IsSpare bits e w) r refs all), spares-at w refs (All-tail (IsSpare bits e w) r refs all))

  -- what has room left is not sealed
  unsealed-is : (b : ℕ) → length (shelf b).states < (shelf b).room → (shelf b).sealed ≡ false
  unfolding entries_of
  unsealed-is b less = by_seal (shelf b).sealed refl
    where
      by_seal : (t : Bool) → (shelf b).sealed ≡ t → t ≡ false
      by_seal false is = refl
      by_seal true is = absurd (
          let sealed = k.sound.sealed b ((k.counted b).sealed ∙ is) in
          let wide : (shelf b).width ≡ (buffer_at v.buffers b).width = (k.counted b).width ∙ ap (λ t. cond t (buffer_at v.buffers b).width 0) sealed.active in
          sealed.unfilled (ap (filled_at v.shelves.filled) (sym wide) ∙ k.filled b less))

  -- the room of the shelves of a width
  abbrev room_in : ℕ → ShelfView → ℕ
  room_in w s = cond (eqb s.width w) (capacity v.shelves.words w) 0

  unmade-room : (w : ℕ) → 0 < w → (b : ℕ) → unmade_in w (shelf b) ≤ room_in w (shelf b)
  unmade-room w wide b = elim (cases_eq (shelf b).width w) [
    | inl same ↦
        (let is : unmade_in w (shelf b) ≡ (shelf b).room - length (shelf b).states = ap (λ t. cond t ((shelf b).room - length (shelf b).states) 0) (eq-eqb (shelf b).width w same) in
        let all : room_in w (shelf b) ≡ capacity v.shelves.words w = ap (λ t. cond t (capacity v.shelves.words w) 0) (eq-eqb (shelf b).width w same) in
        let has : (shelf b).room ≡ capacity v.shelves.words w =
        (k.counted b).of.room ∙ ap (λ t. cond t 0 (capacity v.shelves.words (shelf b).width)) (ne_eqb (shelf b).width 0 (λ z. omega (arith, wide, same, z))) ∙ ap (capacity v.shelves.words) same in
        omega (arith, is, all, has))
    | inr ne ↦
        (let is : unmade_in w (shelf b) ≡ 0 = ap (λ t. cond t ((shelf b).room - length (shelf b).states) 0) (ne_eqb (shelf b).width w ne) in omega (arith, is))
  ]

  room-counted : (w : ℕ) → 0 < w → (b : ℕ) → room_in w (shelf b) ≤ cond (is_buffer_of w (buffer_at v.buffers b)) (capacity v.shelves.words w) 0
  room-counted w wide b = by_state (buffer_at v.buffers b).state refl (cases_eq (shelf b).width w)
    where
      by_state : (t : BufferState) → (buffer_at v.buffers b).state ≡ t → ((shelf b).width ≡ w) ⊎ ((shelf b).width ≢ w)
          → room_in w (shelf b) ≤ cond (is_buffer_of w (buffer_at v.buffers b)) (capacity v.shelves.words w) 0
      by_state t state (inr ne) =
          (let is : room_in w (shelf b) ≡ 0 = ap (λ u. cond u (capacity v.shelves.words w) 0) (ne_eqb (shelf b).width w ne) in omega (arith, is))
      by_state Free state (inl same) =
          absurd (let none : (shelf b).width ≡ 0 = (k.counted b).width ∙ ap (λ u. cond (is_state_active u) (buffer_at v.buffers b).width 0) state in omega (arith, wide, same, none))
      by_state OnHold state (inl same) =
          absurd (let none : (shelf b).width ≡ 0 = (k.counted b).width ∙ ap (λ u. cond (is_state_active u) (buffer_at v.buffers b).width 0) state in omega (arith, wide, same, none))
      by_state Active state (inl same) =
          (let is : room_in w (shelf b) ≡ capacity v.shelves.words w = ap (λ t. cond t (capacity v.shelves.words w) 0) (eq-eqb (shelf b).width w same) in
          let of_w : (buffer_at v.buffers b).width ≡ w = sym ((k.counted b).width ∙ ap (λ u. cond (is_state_active u) (buffer_at v.buffers b).width 0) state) ∙ same in
          let all : cond (is_buffer_of w (buffer_at v.buffers b)) (capacity v.shelves.words w) 0 ≡ capacity v.shelves.words w =
          ap (λ u. cond (not (is_state_free u) && eqb (buffer_at v.buffers b).width w) (capacity v.shelves.words w) 0) state
          ∙ ap (λ u. cond (true && u) (capacity v.shelves.words w) 0) (eq-eqb (buffer_at v.buffers b).width w of_w) in
          omega (arith, is, all))

  -- a width of which a buffer is not filled
  unfilled-made : (b w : ℕ) → b < length v.shelves.shelves → is_width w ≡ true → (shelf b).width ≡ w → (filled_at v.shelves.filled w ≡ Some b → ⊥) → capacity v.shelves.words w ≤ made_in v.shelves.made w
  unfilled-made b w below is same unfilled =
      let wide : 0 < w = (let bounds = width-bounds w is in omega (arith, bounds.0)) in
      let whole : unmade_in w (shelf b) ≡ 0 = elim (cases_lt (length (shelf b).states) (shelf b).room) [
        | inl less ↦ absurd (unfilled (ap (filled_at v.shelves.filled) (sym same) ∙ k.filled b less))
        | inr none ↦ (let here : unmade_in w (shelf b) ≡ (shelf b).room - length (shelf b).states = ap (λ t. cond t ((shelf b).room - length (shelf b).states) 0) (eq-eqb (shelf b).width w same) in
            omega (arith, here, none))
      ] in
      let has : room_in w (shelf b) ≡ capacity v.shelves.words w = ap (λ t. cond t (capacity v.shelves.words w) 0) (eq-eqb (shelf b).width w same) in
      let less = sum-but (unmade_in w) (room_in w) empty_shelf v.shelves.shelves b (capacity v.shelves.words w) below (unmade-room w wide) (omega (arith, whole, has)) in
      let few = sum-counted (room_in w) (is_buffer_of w) empty_shelf new_buffer (capacity v.shelves.words w) v.shelves.shelves v.buffers (sym k.count) (room-counted w wide) in
      let all = k.enough w is in
      omega (arith, less, few, all)

  unfilled-is : (b : ℕ) → IsSealed (entries_of bits v) b → capacity v.shelves.words (buffer_at v.buffers b).width ≤ made_in v.shelves.made (buffer_at v.buffers b).width
  unfolding entries_of
  unfilled-is b s =
      unfilled-made b (buffer_at v.buffers b).width s.below ((k.sound.marks b).width (active-taken (buffer_at v.buffers b).state s.active))
      ((k.counted b).width ∙ ap (λ t. cond t (buffer_at v.buffers b).width 0) s.active) s.unfilled
    where
      active-taken : (t : BufferState) → is_state_active t ≡ true → is_state_free t ≡ false
      active-taken Free is = absurd (cc)
      active-taken Active is = refl
      active-taken OnHold is = absurd (cc)

  pub good : IsGood bits (entries_of bits v)
  unfolding entries_of
  good = record {
    entries = entries-are;
    up_to = k.sound.up_to;
    marks = k.sound.marks;
    sealed = k.sound.sealed;
    finished = k.sound.finished;
    filled = filled-is;
    spares = λ w refs is distinct all. few_spare bits w v.shelves.shelves refs (λ b. (k.counted b).of.taken) distinct (spares-at w refs all);
    few = λ w is. few-buffers (count_by (is_buffer_of w) v.buffers) (capacity v.shelves.words w) (made_in v.shelves.made w) (unmade_of_width v.shelves.shelves w)
        (some-capacity v.shelves.words w is k.some_words) (k.enough w is)
        (few-unmade v.shelves.words v.shelves.shelves w (let bounds = width-bounds w is in omega (arith, bounds.0)) (λ b. (k.counted b).of) (filled_at v.shelves.filled w)
        (λ b wide less. ap (filled_at v.shelves.filled) (sym wide) ∙ k.filled b less));
    few_made = k.sound.few_made;
    unfilled = unfilled-is;
    enough = λ w is. (let all = k.enough w is in
        let left = unmade-spare v.shelves.shelves w unsealed-is in
        omega (arith, all, left));
    whole = k.sound.whole;
  }

-- the buffer of an entry that was taken is one
pub used-inside : (bits : ℕ) (v : LedgerView) (held : List HeldEntry) (room unheld : ℕ) → AreEntries bits v held room unheld → (b x : ℕ) → x < length (shelf_at v.shelves.shelves b).states
    → b < length v.shelves.shelves
used-inside bits v held room unheld k b x there = within-shelf v.shelves.shelves b (let of = (k.counted b).of in omega (arith, there, of.taken))
