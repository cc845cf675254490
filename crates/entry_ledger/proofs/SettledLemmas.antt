-- What is kept where an entry that the unit changed is settled.
use Rattle.std.proofs.Common.{◌≡◌, ◌≢◌, ℕ, ◌+◌, ◌-◌, ◌*◌, ◌<◌, ◌≤◌, Bool, true, false, ◌&&◌, ◌||◌, cond, eqb, leb, List, [], ◌∷◌, ◌++◌, length, get_or, set, Option, None, Some, refl, sym, ap, ◌∙◌, arith}
use Rattle.std.specs.List.{count_by, list_any}
use Rattle.std.proofs.lemmas.List.Elements.{All-push, All-get_or, All-weaker}
use Rattle.std.proofs.lemmas.List.Quantifiers.{all_pairs_push}
use Rattle.std.proofs.lemmas.List.Folds.{list_any-append}
use Rattle.std.proofs.lemmas.Bool.{eq-eqb, ne_eqb, le-leb, ltb-true, true≢false}
use Rattle.entry_ref.specs.References.{buffer_of}
use Rattle.buffer_states.specs.declared.Buffer.{Buffer}
use Rattle.buffer_states.specs.Buffers.{is_state_active, is_on_hold}
use Rattle.entry_ledger.specs.declared.state.State.{State}
use Rattle.entry_ledger.specs.declared.state.State.TheVariants.{Free, Returned, Made, InUse, LetGo, DroppedNow, Dropped}
use Rattle.entry_ledger.specs.States.{ShelfView, is_free_state, is_made, is_touched, is_dead, is_held, is_dropped, state_at, settled_state, with_state_at}
use Rattle.hold_lists.specs.Held.{HeldEntry, untagged}
use Rattle.entry_ledger.specs.Entries.{EntriesView, is_timely}
use Rattle.entry_ledger.specs.Calls.{with_state}
use Rattle.entry_ledger.specs.Ledgers.{is_since, is_dropped_now, settled_buffer, mark_of, tag_fits, tag_below, held_fits, is_in_list, IsCounted, IsHeldList}
use Rattle.entry_ledger.proofs.Counted.{count-keep, count-more, count-less, words-more}
use Rattle.entry_ledger.proofs.Dropping.{with-counts}
use Rattle.entry_ledger.proofs.Sound.{not-tagged, state-cases}
use Rattle.list_lemmas.specs.Counting.{one_if}

pub settled-mark : (accepts : Bool) (state : State) (buffer : Buffer) → mark_of (settled_buffer accepts state buffer) ≡ mark_of buffer
settled-mark true Free buffer = refl
settled-mark true Returned buffer = refl
settled-mark true Made buffer = refl
settled-mark true (InUse after) buffer = refl
settled-mark true LetGo buffer = refl
settled-mark true (DroppedNow after) buffer = refl
settled-mark true (Dropped after g) buffer = refl
settled-mark false Free buffer = refl
settled-mark false Returned buffer = refl
settled-mark false Made buffer = refl
settled-mark false (InUse after) buffer = refl
settled-mark false LetGo buffer = refl
settled-mark false (DroppedNow after) buffer = refl
settled-mark false (Dropped after g) buffer = refl

pub settled-flag : (accepts : Bool) (state : State) (buffer : Buffer) → (settled_buffer accepts state buffer).filled ≡ buffer.filled
settled-flag true Free buffer = refl
settled-flag true Returned buffer = refl
settled-flag true Made buffer = refl
settled-flag true (InUse after) buffer = refl
settled-flag true LetGo buffer = refl
settled-flag true (DroppedNow after) buffer = refl
settled-flag true (Dropped after g) buffer = refl
settled-flag false Free buffer = refl
settled-flag false Returned buffer = refl
settled-flag false Made buffer = refl
settled-flag false (InUse after) buffer = refl
settled-flag false LetGo buffer = refl
settled-flag false (DroppedNow after) buffer = refl
settled-flag false (Dropped after g) buffer = refl

eqb-self : (n : ℕ) → eqb n n ≡ true
eqb-self n = eq-eqb n n refl

-- what the end of a unit makes of an entry that it changed
pub record IsSettling (accepts : Bool) (last generation : ℕ) (was now : State) : Type 0 where
  -- what was free is free still; undone, what was made is free, and what is not made then
  pub free : one_if (is_free_state was) ≤ one_if (is_free_state now)
  pub back : accepts ≡ false → one_if (is_free_state now) ≡ one_if (is_free_state was) + one_if (is_made was)
  pub made : one_if (is_made now) ≡ 0
  pub before : (after g : ℕ) → was ≡ Dropped after g → ⊥
  pub held : is_held last now ≡ is_held last was

pub settling : (accepts : Bool) (last generation : ℕ) (was : State) → is_touched was ≡ true → IsSettling accepts last generation was (settled_state accepts last generation was)
settling true last generation Free t = absurd (cc)
settling true last generation Returned t = record { free = omega arith; back = λ e. absurd (cc); made = refl; before = λ a g e. absurd (cc); held = refl }
settling true last generation Made t = record { free = omega arith; back = λ e. absurd (cc); made = refl; before = λ a g e. absurd (cc); held = refl }
settling true last generation (InUse after) t = absurd (cc)
settling true last generation LetGo t = record { free = omega arith; back = λ e. absurd (cc); made = refl; before = λ a g e. absurd (cc); held = refl }
settling true last generation (DroppedNow after) t = record {
  free = omega arith;
  back = λ e. absurd (cc);
  made = refl;
  before = λ a g e. absurd (cc);
  held = ap (λ t. cond t false true) (eqb-self last);
}
settling true last generation (Dropped after g) t = absurd (cc)
settling false last generation Free t = absurd (cc)
settling false last generation Returned t = record { free = omega arith; back = λ e. refl; made = refl; before = λ a g e. absurd (cc); held = refl }
settling false last generation Made t = record { free = omega arith; back = λ e. refl; made = refl; before = λ a g e. absurd (cc); held = refl }
settling false last generation (InUse after) t = absurd (cc)
settling false last generation LetGo t = record { free = omega arith; back = λ e. refl; made = refl; before = λ a g e. absurd (cc); held = refl }
settling false last generation (DroppedNow after) t = record { free = omega arith; back = λ e. refl; made = refl; before = λ a g e. absurd (cc); held = refl }
settling false last generation (Dropped after g) t = absurd (cc)

-- a settled state names no commit after the last
pub settle-up-to : (accepts : Bool) (e : EntriesView) (was : State) → e.oldest ≤ e.generation → is_touched was ≡ true → is_timely e was ≡ true
    → is_timely e (settled_state accepts e.last e.generation was) ≡ true
settle-up-to true e Free order t is = absurd (cc)
settle-up-to true e Returned order t is = refl
settle-up-to true e Made order t is = le-leb e.last e.last (omega arith)
settle-up-to true e (InUse after) order t is = absurd (cc)
settle-up-to true e LetGo order t is = refl
settle-up-to true e (DroppedNow after) order t is =
    ap (λ u. u && leb e.oldest e.generation && leb e.generation e.generation) (le-leb e.last e.last (omega arith))
    ∙ ap (λ u. true && u && leb e.generation e.generation) (le-leb e.oldest e.generation order) ∙ ap (λ u. true && true && u) (le-leb e.generation e.generation (omega arith))
settle-up-to true e (Dropped after g) order t is = absurd (cc)
settle-up-to false e Free order t is = absurd (cc)
settle-up-to false e Returned order t is = refl
settle-up-to false e Made order t is = refl
settle-up-to false e (InUse after) order t is = absurd (cc)
settle-up-to false e LetGo order t is = le-leb e.last e.last (omega arith)
settle-up-to false e (DroppedNow after) order t is = le-leb after e.last (let low = ltb-true after e.last is in omega (arith, low))
settle-up-to false e (Dropped after g) order t is = absurd (cc)

-- only what was dropped now is on the list then
pub settle-enters : (accepts : Bool) (last generation : ℕ) (was : State) → is_touched was ≡ true → (accepts && is_dropped_now was) ≡ false
    → (after g : ℕ) → settled_state accepts last generation was ≡ Dropped after g → ⊥
settle-enters true last generation Free t out a g e = absurd (cc)
settle-enters true last generation Returned t out a g e = absurd (cc)
settle-enters true last generation Made t out a g e = absurd (cc)
settle-enters true last generation (InUse after) t out a g e = absurd (cc)
settle-enters true last generation LetGo t out a g e = absurd (cc)
settle-enters true last generation (DroppedNow after) t out a g e = absurd (cc)
settle-enters true last generation (Dropped after h) t out a g e = absurd (cc)
settle-enters false last generation Free t out a g e = absurd (cc)
settle-enters false last generation Returned t out a g e = absurd (cc)
settle-enters false last generation Made t out a g e = absurd (cc)
settle-enters false last generation (InUse after) t out a g e = absurd (cc)
settle-enters false last generation LetGo t out a g e = absurd (cc)
settle-enters false last generation (DroppedNow after) t out a g e = absurd (cc)
settle-enters false last generation (Dropped after h) t out a g e = absurd (cc)

pub enters-is : (accepts : Bool) (last generation : ℕ) (was : State) → (accepts && is_dropped_now was) ≡ true → settled_state accepts last generation was ≡ Dropped last generation
enters-is true last generation Free in_is = absurd (cc)
enters-is true last generation Returned in_is = absurd (cc)
enters-is true last generation Made in_is = absurd (cc)
enters-is true last generation (InUse after) in_is = absurd (cc)
enters-is true last generation LetGo in_is = absurd (cc)
enters-is true last generation (DroppedNow after) in_is = refl
enters-is true last generation (Dropped after g) in_is = absurd (cc)
enters-is false last generation was in_is = absurd (true≢false (sym in_is))

-- whether it is dropped changes only where it enters the list
pub settle-dropped : (accepts : Bool) (last generation : ℕ) (was : State) → is_touched was ≡ true → is_dropped (settled_state accepts last generation was) ≡ (accepts && is_dropped_now was)
settle-dropped true last generation Free t = absurd (cc)
settle-dropped true last generation Returned t = refl
settle-dropped true last generation Made t = refl
settle-dropped true last generation (InUse after) t = absurd (cc)
settle-dropped true last generation LetGo t = refl
settle-dropped true last generation (DroppedNow after) t = refl
settle-dropped true last generation (Dropped after g) t = absurd (cc)
settle-dropped false last generation Free t = absurd (cc)
settle-dropped false last generation Returned t = refl
settle-dropped false last generation Made t = refl
settle-dropped false last generation (InUse after) t = absurd (cc)
settle-dropped false last generation LetGo t = refl
settle-dropped false last generation (DroppedNow after) t = refl
settle-dropped false last generation (Dropped after g) t = absurd (cc)

pub touched-undropped : (s : State) → is_touched s ≡ true → is_dropped s ≡ false
touched-undropped Free t = absurd (cc)
touched-undropped Returned t = refl
touched-undropped Made t = refl
touched-undropped (InUse after) t = absurd (cc)
touched-undropped LetGo t = refl
touched-undropped (DroppedNow after) t = refl
touched-undropped (Dropped after g) t = absurd (cc)

-- the counts of its buffer
module _ (words last : ℕ) (buffer : Buffer) (s : ShelfView) (k : IsCounted words last buffer s) (x : ℕ) (there : x < length s.states) (wide : buffer.width ≡ s.width) where
  -- what stays and what changes
  stays : (test : State → Bool) (state : State) (n : ℕ) → n ≡ s.width * count_by test s.states → test state ≡ test (state_at s.states x) → n ≡ s.width * count_by test (set s.states x state)
  stays test state n is same = is ∙ ap (λ m. s.width * m) (sym (count-keep test s.states x state there same))

  rises : (test : State → Bool) (state : State) (n : ℕ) → n ≡ s.width * count_by test s.states → test (state_at s.states x) ≡ false → test state ≡ true
      → n + buffer.width ≡ s.width * count_by test (set s.states x state)
  rises test state n is was now = omega (arith, is, wide, words-more s.width (count_by test s.states) (count_by test (set s.states x state)) (count-more test s.states x state there was now))

  falls : (test : State → Bool) (state : State) (n : ℕ) → n ≡ s.width * count_by test s.states → test (state_at s.states x) ≡ true → test state ≡ false
      → (buffer.width ≤ n) × (n - buffer.width ≡ s.width * count_by test (set s.states x state))
  falls test state n is was now =
      let less = words-more s.width (count_by test (set s.states x state)) (count_by test s.states) (sym (count-less test s.states x state there was now)) in
      (omega (arith, is, wide, less), omega (arith, is, wide, less))

  pub settle-falls : is_dropped_now (state_at s.states x) ≡ true → (buffer.width ≤ buffer.dead) × (buffer.width ≤ buffer.dropped)
  settle-falls is = by_state (state_at s.states x) refl is
    where
      by_state : (was : State) → state_at s.states x ≡ was → is_dropped_now was ≡ true → (buffer.width ≤ buffer.dead) × (buffer.width ≤ buffer.dropped)
      by_state Free e t = absurd (cc)
      by_state Returned e t = absurd (cc)
      by_state Made e t = absurd (cc)
      by_state (InUse after) e t = absurd (cc)
      by_state LetGo e t = absurd (cc)
      by_state (DroppedNow after) e t = ((falls is_dead Made buffer.dead k.dead (ap is_dead e) refl).0, (falls (is_since last) Made buffer.dropped k.dropped (ap (is_since last) e) refl).0)
      by_state (Dropped after g) e t = absurd (cc)

  pub counted-settle : (accepts : Bool) (generation : ℕ) → is_touched (state_at s.states x) ≡ true
      → IsCounted words last (settled_buffer accepts (state_at s.states x) buffer) (with_state_at s x (settled_state accepts last generation (state_at s.states x)))
  counted-settle accepts generation touched = by_state accepts (state_at s.states x) refl touched
    where
      by_state : (a : Bool) (was : State) → state_at s.states x ≡ was → is_touched was ≡ true → IsCounted words last (settled_buffer a was buffer) (with_state_at s x (settled_state a last generation was))
      by_state true Free e t = absurd (cc)
      by_state true Returned e t = with-counts words last buffer s k x there wide Free buffer.dead buffer.dropped (sym (ap (is_held last) e)) (stays is_dead Free buffer.dead k.dead (sym (ap is_dead e)))
          (stays (is_since last) Free buffer.dropped k.dropped (sym (ap (is_since last) e)))
      by_state true Made e t = with-counts words last buffer s k x there wide (InUse last) buffer.dead buffer.dropped (sym (ap (is_held last) e)) (stays is_dead (InUse last) buffer.dead k.dead (sym (ap is_dead e)))
          (stays (is_since last) (InUse last) buffer.dropped k.dropped (sym (ap (is_since last) e)))
      by_state true (InUse after) e t = absurd (cc)
      by_state true LetGo e t = with-counts words last buffer s k x there wide Free (buffer.dead + buffer.width) buffer.dropped (sym (ap (is_held last) e)) (rises is_dead Free buffer.dead k.dead (ap is_dead e) refl)
          (stays (is_since last) Free buffer.dropped k.dropped (sym (ap (is_since last) e)))
      by_state true (DroppedNow after) e t = with-counts words last buffer s k x there wide (Dropped last generation) buffer.dead buffer.dropped (ap (λ u. cond u false true) (eqb-self last) ∙ sym (ap (is_held last) e))
          (stays is_dead (Dropped last generation) buffer.dead k.dead (sym (ap is_dead e))) (stays (is_since last) (Dropped last generation) buffer.dropped k.dropped (eqb-self last ∙ sym (ap (is_since last) e)))
      by_state true (Dropped after g) e t = absurd (cc)
      by_state false Free e t = absurd (cc)
      by_state false Returned e t = with-counts words last buffer s k x there wide Free buffer.dead buffer.dropped (sym (ap (is_held last) e)) (stays is_dead Free buffer.dead k.dead (sym (ap is_dead e)))
          (stays (is_since last) Free buffer.dropped k.dropped (sym (ap (is_since last) e)))
      by_state false Made e t = with-counts words last buffer s k x there wide Free (buffer.dead + buffer.width) buffer.dropped (sym (ap (is_held last) e)) (rises is_dead Free buffer.dead k.dead (ap is_dead e) refl)
          (stays (is_since last) Free buffer.dropped k.dropped (sym (ap (is_since last) e)))
      by_state false (InUse after) e t = absurd (cc)
      by_state false LetGo e t = with-counts words last buffer s k x there wide (InUse last) buffer.dead buffer.dropped (sym (ap (is_held last) e)) (stays is_dead (InUse last) buffer.dead k.dead (sym (ap is_dead e)))
          (stays (is_since last) (InUse last) buffer.dropped k.dropped (sym (ap (is_since last) e)))
      by_state false (DroppedNow after) e t = with-counts words last buffer s k x there wide (InUse after) (buffer.dead - buffer.width) (buffer.dropped - buffer.width) (sym (ap (is_held last) e))
          (falls is_dead (InUse after) buffer.dead k.dead (ap is_dead e) refl).1 (falls (is_since last) (InUse after) buffer.dropped k.dropped (ap (is_since last) e) refl).1
      by_state false (Dropped after g) e t = absurd (cc)

-- the list with an entry more, which was dropped now
pub list-more : (bits : ℕ) (e new : EntriesView) (held : List HeldEntry) (r : ℕ) → IsHeldList bits e held
    → new.last ≡ e.last → new.generation ≡ e.generation → ((b : ℕ) → new.mark b ≡ e.mark b) → ((q : ℕ) → new.state q ≡ with_state e.state r (Dropped e.last e.generation) q)
    → is_state_active (e.mark (buffer_of bits r)).state ≡ true → ((after g : ℕ) → e.state r ≡ Some (Dropped after g) → ⊥) → IsHeldList bits new (held ++ untagged r ∷ [])
list-more bits e new held r k last generation marks states active was = record {
  each = All-push (λ h. is_in_list bits new h ≡ true) held (untagged r) (All-weaker (λ h. is_in_list bits e h ≡ true) (λ h. is_in_list bits new h ≡ true) each held k.each) here;
  apart = all_pairs_push (λ a b. a.entry ≢ b.entry) held (untagged r) k.apart (λ i d below same.
      absent (get_or held i d) (All-get_or (λ h. is_in_list bits e h ≡ true) held i d below k.each) same);
  all = λ q after g is. state-cases e.state r (Dropped e.last e.generation) q (Dropped after g) (sym (states q) ∙ is)
      (λ same new_is. list_any-append (λ (h : HeldEntry). eqb h.entry q) held (untagged r ∷ []) ∙ ap (λ t. list_any (λ (h : HeldEntry). eqb h.entry q) held || (t || false)) (eq-eqb r q (sym same))
      ∙ or-true (list_any (λ (h : HeldEntry). eqb h.entry q) held))
      (λ before. list_any-append (λ (h : HeldEntry). eqb h.entry q) held (untagged r ∷ []) ∙ ap (λ t. t || list_any (λ (h : HeldEntry). eqb h.entry q) (untagged r ∷ [])) (k.all q after g before));
}
  where
    or-true : (t : Bool) → (t || (true || false)) ≡ true
    or-true true = refl
    or-true false = refl

    -- no entry of the list is this one
    absent : (h : HeldEntry) → is_in_list bits e h ≡ true → h.entry ≢ r
    absent h is same =
        let here : is_state_active (e.mark (buffer_of bits h.entry)).state ≡ true = ap (λ q. is_state_active (e.mark (buffer_of bits q)).state) same ∙ active in
        let fits : tag_fits e.last e.generation h.tag (e.state h.entry) ≡ true =
        sym (ap (λ t. cond t (tag_fits e.last e.generation h.tag (e.state h.entry)) (cond (is_on_hold (e.mark (buffer_of bits h.entry)).state) (tag_below (e.mark (buffer_of bits h.entry)).generation h.tag) false)) here)
        ∙ is in
        true≢false (sym fits ∙ not-tagged e.last e.generation h.tag (e.state h.entry) (λ after g d. was after g (ap e.state (sym same) ∙ d)))

    same-view : (h : HeldEntry) (state : Option State) → new.state h.entry ≡ state → is_in_list bits new h ≡ held_fits e.last e.generation (e.mark (buffer_of bits h.entry)) h.tag state
    same-view h state is =
        ap (λ n. held_fits n new.generation (new.mark (buffer_of bits h.entry)) h.tag (new.state h.entry)) last
        ∙ ap (λ n. held_fits e.last n (new.mark (buffer_of bits h.entry)) h.tag (new.state h.entry)) generation
        ∙ ap (λ m. held_fits e.last e.generation m h.tag (new.state h.entry)) (marks (buffer_of bits h.entry))
        ∙ ap (λ t. held_fits e.last e.generation (e.mark (buffer_of bits h.entry)) h.tag t) is

    each : (h : HeldEntry) → is_in_list bits e h ≡ true → is_in_list bits new h ≡ true
    each h is = same-view h (e.state h.entry) (states h.entry ∙ ap (λ t. cond t (Some (Dropped e.last e.generation)) (e.state h.entry)) (ne_eqb h.entry r (absent h is))) ∙ is

    here : is_in_list bits new (untagged r) ≡ true
    here = same-view (untagged r) (Some (Dropped e.last e.generation)) (states r ∙ ap (λ t. cond t (Some (Dropped e.last e.generation)) (e.state r)) (eqb-self r))
        ∙ ap (λ t. cond t (tag_fits e.last e.generation None (Some (Dropped e.last e.generation))) (cond (is_on_hold (e.mark (buffer_of bits r)).state) (tag_below (e.mark (buffer_of bits r)).generation None) false))
        active
        ∙ ap (λ t. t && eqb e.generation e.generation) (eqb-self e.last) ∙ eqb-self e.generation
