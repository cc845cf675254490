-- The ledger after one entry was settled, by the parts that were written.
use Rattle.std.proofs.Common.{◌≡◌, ℕ, zero, suc, ◌+◌, ◌-◌, ◌<◌, ◌≤◌, Bool, true, false, not, ◌&&◌, cond, eqb, List, length, set, Option, None, Some, refl, sym, ap, subst, ◌∙◌, arith}
use Rattle.std.specs.List.{count_by, slice_get}
use Rattle.std.proofs.lemmas.List.Sums.{sum_by-le-sum_by}
use Rattle.std.proofs.lemmas.Option.{get_or_from_slice_get}
use Rattle.entry_ref.specs.References.{buffer_of, offset_of, packed, buffer_limit, offset_limit}
use Rattle.buffer_states.specs.declared.Buffer.{Buffer}
use Rattle.buffer_states.specs.Buffers.{buffer_at}
use Rattle.entry_ledger.specs.declared.state.State.{State}
use Rattle.entry_ledger.specs.declared.state.State.TheVariants.{Free, Returned, Made, InUse, LetGo, DroppedNow, Dropped}
use Rattle.entry_ledger.specs.States.{ShelfView, empty_shelf, is_touched, is_made, state_at, settled_state, with_state_at}
use Rattle.entry_ledger.proofs.StackSteps.{count-none}
use Rattle.entry_ledger.specs.declared.shelves.Changed.{Changed}
use Rattle.entry_ledger.specs.Shelves.{ShelvesView, shelf_at, with_shelf, SettlesOne}
use Rattle.hold_lists.specs.Held.{HeldEntry, HeldList}
use Rattle.entry_ledger.specs.Entries.{is_settled_entry}
use Rattle.entry_ledger.specs.Calls.{StepsEnd, IsEnded}
use Rattle.entry_ledger.specs.Ledgers.{LedgerView, state_in, fresh_in, settled_buffer, is_dropped_now, is_dead_after, held_after, touched_total, AreEntries}
use Rattle.entry_ledger.proofs.States.{at-suc}
use Rattle.entry_ledger.proofs.Unmade.{no-places}
use Rattle.entry_ledger.proofs.Takes.{entries_in}
use Rattle.entry_ledger.proofs.Fits.{place-width, place-offset, place-small}
use Rattle.entry_ledger.proofs.SettledLemmas.{settle-falls}
use Rattle.entry_ledger.proofs.Settles.{after, settle-given, settle-unheld, settle-kept, settle-steps, settle-less}

-- of states of which the unit changed none, no entry is changed
none-touched : (states : List State) → count_by is_touched states ≡ 0 → (o : ℕ) (shelf : ShelfView) → shelf.states ≡ states → is_settled_entry (state_in shelf o) ≡ true
none-touched states none zero shelf is = refl
none-touched states none (suc i) shelf is = ap is_settled_entry (at-suc shelf i ∙ ap (λ xs. slice_get xs i) is) ∙ by_state (slice_get states i) refl
  where
    by_state : (o : Option State) → slice_get states i ≡ o → is_settled_entry o ≡ true
    by_state None e = refl
    by_state (Some s) e = ap (λ t. not (is_touched t)) (sym (get_or_from_slice_get states i s Free e)) ∙ ap not (count-none Free is_touched states refl none i)

made-touched : (s : State) → cond (is_made s) 1 0 ≤ cond (is_touched s) 1 0
made-touched Free = omega arith
made-touched Returned = omega arith
made-touched Made = omega arith
made-touched (InUse after) = omega arith
made-touched LetGo = omega arith
made-touched (DroppedNow after) = omega arith
made-touched (Dropped after g) = omega arith

-- where the unit has changed nothing more, it is ended
pub settle-ended : (bits : ℕ) (v : LedgerView) → ((b : ℕ) → count_by is_touched (shelf_at v.shelves.shelves b).states ≡ 0) → IsEnded (entries_in bits v)
settle-ended bits v none = record {
  settled = λ r. none-touched (shelf_at v.shelves.shelves (buffer_of bits r)).states (none (buffer_of bits r)) (offset_of bits r) (shelf_at v.shelves.shelves (buffer_of bits r)) refl;
  fresh = λ w. no-places (fresh_in w) empty_shelf v.shelves.shelves (λ b. by_test b (eqb (shelf_at v.shelves.shelves b).width w && not (shelf_at v.shelves.shelves b).sealed));
}
  where
    by_test : (b : ℕ) (t : Bool) → cond t (count_by is_made (shelf_at v.shelves.shelves b).states) 0 ≡ 0
    by_test b true =
        let less = sum_by-le-sum_by (λ (s : State). cond (is_made s) 1 0) (λ (s : State). cond (is_touched s) 1 0) (shelf_at v.shelves.shelves b).states made-touched in
        omega (arith, less, none b)
    by_test b false = refl

module _ (bits : ℕ) (v : LedgerView) (held : List HeldEntry) (room unheld : ℕ) (k : AreEntries bits v held room unheld) (accepts : Bool) (new : ShelvesView) (step : Changed)
    (settles : SettlesOne accepts v.last v.generation v.shelves new step) where
  abbrev shelf : ShelfView
  shelf = shelf_at v.shelves.shelves step.buffer

  abbrev was : State
  was = state_at shelf.states step.place

  touched : is_touched was ≡ true
  touched = ap is_touched (sym settles.was) ∙ settles.touched

  pub step-inside : step.buffer < length v.buffers
  step-inside = omega (arith, settles.buffer, k.count)

  pub step-low : step.buffer < buffer_limit bits
  step-low = omega (arith, step-inside, k.few_buffers)

  pub step-small : step.place + 1 < 4294967296
  step-small = place-small bits v held room unheld k step.buffer step.place settles.below

  pub step-offset : step.place + 1 < offset_limit bits
  step-offset = place-offset bits v held room unheld k step.buffer step.place settles.below

  pub step-given : is_dead_after accepts step.was ≡ true → (buffer_at v.buffers step.buffer).dead + (buffer_at v.buffers step.buffer).width < 4294967296
  step-given is = settle-given bits v held room unheld k accepts step.buffer step.place settles.buffer settles.below touched (ap (is_dead_after accepts) (sym settles.was) ∙ is)

  pub step-falls : is_dropped_now step.was ≡ true
      → ((buffer_at v.buffers step.buffer).width ≤ (buffer_at v.buffers step.buffer).dead) × ((buffer_at v.buffers step.buffer).width ≤ (buffer_at v.buffers step.buffer).dropped)
  step-falls is = settle-falls v.shelves.words v.last (buffer_at v.buffers step.buffer) shelf (k.counted step.buffer) step.place settles.below
      (place-width bits v held room unheld k step.buffer step.place settles.below) (ap is_dropped_now (sym settles.was) ∙ is)

  pub step-unheld : 0 < unheld
  step-unheld = settle-unheld bits v held room unheld k accepts step.buffer step.place settles.buffer settles.below touched

  pub step-room : 0 < room
  step-room = omega (arith, step-unheld, k.fits)

  module _ (buffers : List Buffer) (buffers_is : buffers ≡ set v.buffers step.buffer (settled_buffer accepts step.was (buffer_at v.buffers step.buffer))) where
    abbrev pub stepped : LedgerView
    stepped = record v { shelves = new; buffers = buffers }

    stepped_is : stepped ≡ after bits v held room unheld k accepts step.buffer step.place settles.buffer settles.below touched
    stepped_is =
        let shelves : new ≡ with_shelf v.shelves step.buffer (with_state_at shelf step.place (settled_state accepts v.last v.generation was)) =
        settles.same ∙ ap (λ s. with_shelf v.shelves step.buffer (with_state_at shelf step.place s)) (settles.now ∙ ap (settled_state accepts v.last v.generation) settles.was) in
        let counts : buffers ≡ set v.buffers step.buffer (settled_buffer accepts was (buffer_at v.buffers step.buffer)) =
        buffers_is ∙ ap (λ s. set v.buffers step.buffer (settled_buffer accepts s (buffer_at v.buffers step.buffer))) settles.was in
        λ i. record v { shelves = shelves i; buffers = counts i }

    pub step-steps : StepsEnd accepts (entries_in bits v) (entries_in bits stepped)
    step-steps = subst (λ (u : LedgerView). StepsEnd accepts (entries_in bits v) (entries_in bits u)) (sym stepped_is)
        (settle-steps bits v held room unheld k accepts step.buffer step.place settles.buffer settles.below touched)

    pub step-less : touched_total stepped + 1 ≡ touched_total v
    step-less = subst (λ (u : LedgerView). touched_total u + 1 ≡ touched_total v) (sym stepped_is)
        (settle-less bits v held room unheld k accepts step.buffer step.place settles.buffer settles.below touched)

    pub step-kept : (list : HeldList) (left entry : ℕ) (is_now : Bool) → is_now ≡ is_dropped_now step.was → entry ≡ packed bits (step.place + 1) step.buffer
        → list ≡ held_after (accepts && is_now) entry (record { held = held; room = room }) → left ≡ cond (accepts && is_now) (unheld - 1) unheld
        → AreEntries bits stepped list.held list.room left
    step-kept list left entry is_now now_is entry_is list_is left_is =
        subst (λ (l : HeldList). AreEntries bits stepped l.held l.room left)
        (sym (list_is ∙ ap (λ r. held_after (accepts && is_now) r (record { held = held; room = room })) entry_is))
        (subst (λ n. AreEntries bits stepped (held_after (accepts && is_now) (packed bits (step.place + 1) step.buffer) (record { held = held; room = room })).held
        (held_after (accepts && is_now) (packed bits (step.place + 1) step.buffer) (record { held = held; room = room })).room n) (sym left_is)
        (subst (λ (u : LedgerView). AreEntries bits u (held_after (accepts && is_now) (packed bits (step.place + 1) step.buffer) (record { held = held; room = room })).held
        (held_after (accepts && is_now) (packed bits (step.place + 1) step.buffer) (record { held = held; room = room })).room (cond (accepts && is_now) (unheld - 1) unheld)) (sym stepped_is)
        (settle-kept bits v held room unheld k accepts step.buffer step.place settles.buffer settles.below touched (accepts && is_now)
        (ap (λ t. accepts && t) (now_is ∙ ap is_dropped_now settles.was)))))
