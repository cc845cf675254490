-- The ledger after an entry in use was dropped.
use Rattle.std.proofs.Common.{◌≡◌, ◌≢◌, ℕ, ◌+◌, ◌-◌, ◌<◌, true, false, cond, List, length, Option, None, Some, refl, sym, ap, ◌∙◌, arith, inl, inr}
use Rattle.std.specs.List.{slice_get}
use Rattle.std.proofs.lemmas.List.Sums.{sum_by-set}
use Rattle.std.proofs.lemmas.Option.{slice_get_within, get_or_from_slice_get}
use Rattle.std.proofs.lemmas.Bool.{cases_eq, eq-eqb, ne_eqb, true≢false}
use Rattle.entry_ref.specs.References.{offset_of, packed, buffer_limit}
use Rattle.entry_ref.proofs.Bits.{packed-buffer, packed-offset}
use Rattle.buffer_states.specs.declared.Buffer.{Buffer}
use Rattle.buffer_states.specs.Buffers.{buffer_at, is_state_active}
use Rattle.entry_ledger.specs.declared.state.State.{State}
use Rattle.entry_ledger.specs.declared.state.State.TheVariants.{Free, Returned, Made, InUse, LetGo, DroppedNow, Dropped}
use Rattle.entry_ledger.specs.States.{ShelfView, empty_shelf, is_used, is_dead, is_dropped, state_at, dropped, with_state_at}
use Rattle.entry_ledger.specs.Shelves.{shelf_at}
use Rattle.hold_lists.specs.Held.{HeldEntry}
use Rattle.entry_ledger.specs.Entries.{is_used_entry}
use Rattle.entry_ledger.specs.Calls.{Drops}
use Rattle.entry_ledger.specs.Ledgers.{LedgerView, entries_of, state_in, mark_of, unheld_in, is_since, dropped_buffer, AreEntries}
use Rattle.entry_ledger.proofs.Takes.{entries_in, buffers-same}
use Rattle.entry_ledger.proofs.Fits.{place-active, place-width, words-fit}
use Rattle.entry_ledger.proofs.Sound.{list-keep}
use Rattle.entry_ledger.proofs.Counted.{count-keep}
use Rattle.entry_ledger.proofs.Taking.{state-at}
use Rattle.entry_ledger.proofs.Changing.{changed_view, change-state, change-mark, change-count, change-kept, drops-counts}
use Rattle.entry_ledger.proofs.Dropping.{IsDrop, is-drop, drop-up-to, counted-drop}

-- the place of an entry in use
pub record IsUsedPlace (s : ShelfView) (o : ℕ) : Type 0 where
  pub first : 0 < o
  pub there : o - 1 < length s.states
  pub used : is_used (state_at s.states (o - 1)) ≡ true
  pub is : state_in s o ≡ Some (state_at s.states (o - 1))

pub used-place : (s : ShelfView) (o : ℕ) → is_used_entry (state_in s o) ≡ true → IsUsedPlace s o
used-place s o used = elim (cases_eq o 0) [
  | inl e ↦ absurd (true≢false (sym used ∙ ap (λ t. is_used_entry (cond t None (slice_get s.states (o - 1)))) (eq-eqb o 0 e)))
  | inr ne ↦ by_state ne (slice_get s.states (o - 1)) refl
]
  where
    by_state : o ≢ 0 → (state : Option State) → slice_get s.states (o - 1) ≡ state → IsUsedPlace s o
    by_state ne None is = absurd (true≢false (sym used ∙ ap is_used_entry (ap (λ t. cond t None (slice_get s.states (o - 1))) (ne_eqb o 0 ne) ∙ is)))
    by_state ne (Some state) is =
        let at : state_at s.states (o - 1) ≡ state = get_or_from_slice_get s.states (o - 1) state Free is in
        let in_is : state_in s o ≡ Some state = ap (λ t. cond t None (slice_get s.states (o - 1))) (ne_eqb o 0 ne) ∙ is in
        record {
          first = omega (arith, ne);
          there = slice_get_within s.states (o - 1) state is;
          used = ap is_used at ∙ sym (ap is_used_entry in_is) ∙ used;
          is = in_is ∙ ap Some (sym at);
        }

pub dropped-mark : (state : State) (buffer : Buffer) → mark_of (dropped_buffer state buffer) ≡ mark_of buffer
dropped-mark Free buffer = refl
dropped-mark Returned buffer = refl
dropped-mark Made buffer = refl
dropped-mark (InUse after) buffer = refl
dropped-mark LetGo buffer = refl
dropped-mark (DroppedNow after) buffer = refl
dropped-mark (Dropped after g) buffer = refl

pub dropped-flag : (state : State) (buffer : Buffer) → (dropped_buffer state buffer).filled ≡ buffer.filled
dropped-flag Free buffer = refl
dropped-flag Returned buffer = refl
dropped-flag Made buffer = refl
dropped-flag (InUse after) buffer = refl
dropped-flag LetGo buffer = refl
dropped-flag (DroppedNow after) buffer = refl
dropped-flag (Dropped after g) buffer = refl

-- an entry in use is neither dead nor dropped since the last commit
used-not : (last : ℕ) (s : State) → is_used s ≡ true → (is_dead s ≡ false) × (is_since last s ≡ false)
used-not last Free used = absurd (cc)
used-not last Returned used = absurd (cc)
used-not last Made used = (refl, refl)
used-not last (InUse after) used = (refl, refl)
used-not last LetGo used = absurd (cc)
used-not last (DroppedNow after) used = absurd (cc)
used-not last (Dropped after g) used = absurd (cc)

module _ (bits : ℕ) (v : LedgerView) (held : List HeldEntry) (room unheld : ℕ) (k : AreEntries bits v held room unheld)
    (b o : ℕ) (h : b < length v.shelves.shelves) (place : IsUsedPlace (shelf_at v.shelves.shelves b) o) where
  abbrev shelf : ShelfView
  shelf = shelf_at v.shelves.shelves b

  abbrev x : ℕ
  x = o - 1

  abbrev was : State
  was = state_at shelf.states x

  abbrev pub now : State
  now = dropped v.last was

  abbrev pub buffer : Buffer
  buffer = dropped_buffer now (buffer_at v.buffers b)

  drop_is : IsDrop v.last was now
  drop_is = is-drop v.last was place.used

  pub dead-fits : (buffer_at v.buffers b).dead + (buffer_at v.buffers b).width < 4294967296
  dead-fits = words-fit bits v held room unheld k b x place.there is_dead Free (buffer_at v.buffers b).dead (used-not v.last was place.used).0 refl (k.counted b).dead

  pub dropped-fits : (buffer_at v.buffers b).dropped + (buffer_at v.buffers b).width < 4294967296
  dropped-fits = words-fit bits v held room unheld k b x place.there (is_since v.last) (DroppedNow 0) (buffer_at v.buffers b).dropped (used-not v.last was place.used).1 refl (k.counted b).dropped

  low : b < buffer_limit bits
  low = omega (arith, h, k.count, k.few_buffers)

  marked : mark_of buffer ≡ mark_of (buffer_at v.buffers b)
  marked = dropped-mark now (buffer_at v.buffers b)

  abbrev pub after : LedgerView
  after = changed_view bits v held room unheld k b x now h place.there buffer (dropped-mark (dropped v.last (state_at (shelf_at v.shelves.shelves b).states (o - 1))) (buffer_at v.buffers b))

  was-kept : (past g : ℕ) → (entries_in bits v).state (packed bits (x + 1) b) ≡ Some (Dropped past g) → ⊥
  was-kept past g is = drop_is.before past g (get_or_from_slice_get shelf.states x (Dropped past g) Free (sym (state-at bits v.shelves.shelves b x low) ∙ is))

  pub drop-kept : AreEntries bits after held room unheld
  unfolding entries_of
  drop-kept = change-kept bits v held room unheld k b x now h place.there buffer marked (dropped-flag now (buffer_at v.buffers b)) held room unheld
      (counted-drop v.shelves.words v.last (buffer_at v.buffers b) shelf (k.counted b) x place.there (place-width bits v held room unheld k b x place.there) place.used)
      (drop-up-to (entries_in bits v) was place.used (k.sound.up_to (packed bits (x + 1) b) was (place-state)))
      (list-keep bits (entries_in bits v) (entries_in bits after) held (packed bits (x + 1) b) now k.list refl refl
      (λ a. ap (λ f. f a) (change-mark bits v held room unheld k b x now h place.there buffer marked)) (change-state bits v held room unheld k b x now h place.there buffer marked)
      (ap (λ n. is_state_active ((entries_in bits v).mark n).state) (packed-buffer bits (x + 1) b low) ∙ place-active bits v held room unheld k b x place.there) was-kept drop_is.after)
      (let count = sum_by-set unheld_in v.shelves.shelves b (with_state_at shelf x now) empty_shelf h in
      let same : unheld_in (with_state_at shelf x now) ≡ unheld_in shelf = ap (λ n. shelf.room - n) (count-keep is_dropped shelf.states x now place.there drop_is.dropped_is) in
      omega (arith, count, same, k.unheld_is))
      k.fits
    where
      place-state : (entries_in bits v).state (packed bits (x + 1) b) ≡ Some was
      place-state =
          let offset : offset_of bits (packed bits (x + 1) b) ≡ o = packed-offset bits (x + 1) b low ∙ (let first = place.first in omega (arith, first)) in
          ap (λ n. state_in (shelf_at v.shelves.shelves n) (offset_of bits (packed bits (x + 1) b))) (packed-buffer bits (x + 1) b low) ∙ ap (state_in shelf) offset ∙ place.is

  pub drop-drops : Drops (entries_in bits v) (entries_in bits after) (packed bits (x + 1) b) was
  drop-drops = record {
    state = λ i q. change-state bits v held room unheld k b x now h place.there buffer marked q i;
    counts = λ w. (let counts = drops-counts v.shelves.shelves b x now h place.there drop_is.used drop_is.even w in record {
      made = refl;
      buffers = buffers-same v.buffers b buffer (omega (arith, h, k.count)) marked w;
      filled = refl;
      spare = counts.0;
      even = counts.1;
    });
    same = λ i. record {
      count = change-count bits v held room unheld k b x now h place.there buffer marked i;
      words = v.shelves.words;
      last = v.last;
      generation = v.generation;
      oldest = v.oldest;
      state = (entries_in bits after).state;
      mark = change-mark bits v held room unheld k b x now h place.there buffer marked i;
      of_width = (entries_in bits after).of_width;
      finished = v.finished;
    };
  }
