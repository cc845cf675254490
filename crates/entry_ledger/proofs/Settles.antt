-- The ledger after one entry was settled.
use Rattle.std.proofs.Common.{◌≡◌, ℕ, ◌+◌, ◌-◌, ◌<◌, Bool, true, false, ◌&&◌, cond, List, [], ◌∷◌, ◌++◌, length, Some, refl, sym, ap, ◌∙◌, arith}
use Rattle.std.specs.List.{count_by}
use Rattle.std.proofs.lemmas.List.Sums.{sum_by-set}
use Rattle.std.proofs.lemmas.Option.{get_or_from_slice_get, slice_get-get_or}
use Rattle.entry_ref.specs.References.{buffer_of, packed, buffer_limit}
use Rattle.entry_ref.proofs.Bits.{packed-buffer}
use Rattle.buffer_states.specs.declared.Buffer.{Buffer}
use Rattle.buffer_states.specs.Buffers.{buffer_at, is_state_active}
use Rattle.entry_ledger.specs.declared.state.State.{State}
use Rattle.entry_ledger.specs.declared.state.State.TheVariants.{Free, Returned, Made, InUse, LetGo, DroppedNow, Dropped}
use Rattle.entry_ledger.specs.States.{ShelfView, empty_shelf, is_touched, is_dead, is_dropped, state_at, settled_state, with_state_at}
use Rattle.entry_ledger.proofs.Settling.{settled-touched}
use Rattle.entry_ledger.specs.Shelves.{shelf_at}
use Rattle.hold_lists.specs.Held.{HeldEntry, untagged}
use Rattle.entry_ledger.specs.Calls.{StepsEnd, with_state}
use Rattle.entry_ledger.specs.Ledgers.{LedgerView, entries_of, mark_of, unheld_in, settled_buffer, is_dropped_now, is_dead_after, held_after, touched_total, AreEntries}
use Rattle.entry_ledger.proofs.Takes.{entries_in, buffers-same}
use Rattle.entry_ledger.proofs.Sound.{list-keep}
use Rattle.entry_ledger.proofs.Counted.{count-keep, count-more, count-less}
use Rattle.entry_ledger.proofs.Taking.{state-at}
use Rattle.entry_ledger.proofs.Changing.{changed_view, change-state, change-mark, change-count, change-kept, ends-counts, undoes-counts}
use Rattle.entry_ledger.proofs.Fits.{place-active, place-width, place-unheld, words-fit}
use Rattle.entry_ledger.proofs.SettledLemmas.{settled-mark, settled-flag, settling, settle-up-to, settle-enters, enters-is, settle-dropped, touched-undropped, counted-settle, list-more}

-- what is dead after it is settled was not before
dead-after : (accepts : Bool) (was : State) → is_dead_after accepts was ≡ true → is_dead was ≡ false
dead-after true Free is = absurd (cc)
dead-after true Returned is = absurd (cc)
dead-after true Made is = absurd (cc)
dead-after true (InUse after) is = absurd (cc)
dead-after true LetGo is = refl
dead-after true (DroppedNow after) is = absurd (cc)
dead-after true (Dropped after g) is = absurd (cc)
dead-after false Free is = absurd (cc)
dead-after false Returned is = absurd (cc)
dead-after false Made is = refl
dead-after false (InUse after) is = absurd (cc)
dead-after false LetGo is = absurd (cc)
dead-after false (DroppedNow after) is = absurd (cc)
dead-after false (Dropped after g) is = absurd (cc)

module _ (bits : ℕ) (v : LedgerView) (held : List HeldEntry) (room unheld : ℕ) (k : AreEntries bits v held room unheld)
    (accepts : Bool) (b x : ℕ) (h : b < length v.shelves.shelves) (there : x < length (shelf_at v.shelves.shelves b).states)
    (touched : is_touched (state_at (shelf_at v.shelves.shelves b).states x) ≡ true) where
  abbrev shelf : ShelfView
  shelf = shelf_at v.shelves.shelves b

  abbrev was : State
  was = state_at shelf.states x

  abbrev pub now : State
  now = settled_state accepts v.last v.generation was

  abbrev pub buffer : Buffer
  buffer = settled_buffer accepts was (buffer_at v.buffers b)

  abbrev pub entry : ℕ
  entry = packed bits (x + 1) b

  low : b < buffer_limit bits
  low = omega (arith, h, k.count, k.few_buffers)

  marked : mark_of buffer ≡ mark_of (buffer_at v.buffers b)
  marked = settled-mark accepts was (buffer_at v.buffers b)

  abbrev pub after : LedgerView
  after = changed_view bits v held room unheld k b x now h there buffer (settled-mark accepts (state_at (shelf_at v.shelves.shelves b).states x) (buffer_at v.buffers b))

  pub settle-given : is_dead_after accepts was ≡ true → (buffer_at v.buffers b).dead + (buffer_at v.buffers b).width < 4294967296
  settle-given is = words-fit bits v held room unheld k b x there is_dead Free (buffer_at v.buffers b).dead (dead-after accepts was is) refl (k.counted b).dead

  undropped : is_dropped was ≡ false
  undropped = touched-undropped was touched

  pub settle-unheld : 0 < unheld
  settle-unheld = (place-unheld bits v held room unheld k b x there undropped h).1

  was-kept : (past g : ℕ) → (entries_in bits v).state entry ≡ Some (Dropped past g) → ⊥
  was-kept past g is = (settling accepts v.last v.generation was touched).before past g (get_or_from_slice_get shelf.states x (Dropped past g) Free (sym (state-at bits v.shelves.shelves b x low) ∙ is))

  pub settle-state : (entries_in bits v).state entry ≡ Some was
  settle-state = state-at bits v.shelves.shelves b x low ∙ slice_get-get_or shelf.states x Free there

  active : is_state_active ((entries_in bits v).mark (buffer_of bits entry)).state ≡ true
  active = ap (λ n. is_state_active ((entries_in bits v).mark n).state) (packed-buffer bits (x + 1) b low) ∙ place-active bits v held room unheld k b x there

  pub settle-kept : (enters : Bool) → enters ≡ (accepts && is_dropped_now was)
      → AreEntries bits after (held_after enters entry (record { held = held; room = room })).held (held_after enters entry (record { held = held; room = room })).room (cond enters (unheld - 1) unheld)
  unfolding entries_of
  settle-kept true is =
      let few = place-unheld bits v held room unheld k b x there undropped h in
      let more = count-more is_dropped shelf.states x now there undropped (settle-dropped accepts v.last v.generation was touched ∙ sym is) in
      change-kept bits v held room unheld k b x now h there buffer marked (settled-flag accepts was (buffer_at v.buffers b)) (held ++ untagged entry ∷ []) (room - 1) (unheld - 1)
      (counted-settle v.shelves.words v.last (buffer_at v.buffers b) shelf (k.counted b) x there (place-width bits v held room unheld k b x there) accepts v.generation touched)
      (settle-up-to accepts (entries_in bits v) was k.sound.order touched (k.sound.up_to entry was settle-state))
      (list-more bits (entries_in bits v) (entries_in bits after) held entry k.list refl refl
      (λ a. ap (λ f. f a) (change-mark bits v held room unheld k b x now h there buffer marked))
      (λ q. change-state bits v held room unheld k b x now h there buffer marked q ∙ ap (λ s. with_state (entries_in bits v).state entry s q) (enters-is accepts v.last v.generation was (sym is)))
      active was-kept)
      (omega (arith, sum_by-set unheld_in v.shelves.shelves b (with_state_at shelf x now) empty_shelf h, more, few.0, k.unheld_is))
      (omega (arith, k.fits))
  settle-kept false is =
      let keep = count-keep is_dropped shelf.states x now there (settle-dropped accepts v.last v.generation was touched ∙ sym is ∙ sym undropped) in
      change-kept bits v held room unheld k b x now h there buffer marked (settled-flag accepts was (buffer_at v.buffers b)) held room unheld
      (counted-settle v.shelves.words v.last (buffer_at v.buffers b) shelf (k.counted b) x there (place-width bits v held room unheld k b x there) accepts v.generation touched)
      (settle-up-to accepts (entries_in bits v) was k.sound.order touched (k.sound.up_to entry was settle-state))
      (list-keep bits (entries_in bits v) (entries_in bits after) held entry now k.list refl refl
      (λ a. ap (λ f. f a) (change-mark bits v held room unheld k b x now h there buffer marked)) (change-state bits v held room unheld k b x now h there buffer marked)
      active was-kept (settle-enters accepts v.last v.generation was touched (sym is)))
      (let same : unheld_in (with_state_at shelf x now) ≡ unheld_in shelf = ap (λ n. shelf.room - n) keep in
      omega (arith, sum_by-set unheld_in v.shelves.shelves b (with_state_at shelf x now) empty_shelf h, same, k.unheld_is))
      k.fits

  pub settle-steps : StepsEnd accepts (entries_in bits v) (entries_in bits after)
  settle-steps =
      let end_is = settling accepts v.last v.generation was touched in
      record {
        entry = entry;
        was = was;
        is = settle-state;
        touched = touched;
        state = change-state bits v held room unheld k b x now h there buffer marked;
        counts = λ w. record {
          made = refl;
          buffers = buffers-same v.buffers b buffer (omega (arith, h, k.count)) marked w;
          filled = refl;
          spare = ends-counts v.shelves.shelves b x now h there end_is.free w;
        };
        even = λ e w. undoes-counts v.shelves.shelves b x now h there (end_is.back e) end_is.made w;
        same = λ i. record {
          count = change-count bits v held room unheld k b x now h there buffer marked i;
          words = v.shelves.words;
          last = v.last;
          generation = v.generation;
          oldest = v.oldest;
          state = (entries_in bits after).state;
          mark = change-mark bits v held room unheld k b x now h there buffer marked i;
          of_width = (entries_in bits after).of_width;
          finished = v.finished;
        };
      }

  -- one entry less is changed by the unit
  pub settle-less : touched_total after + 1 ≡ touched_total v
  settle-less =
      let less = count-less is_touched shelf.states x now there touched (settled-touched accepts v.last v.generation was) in
      omega (arith, sum_by-set (λ (s : ShelfView). count_by is_touched s.states) v.shelves.shelves b (with_state_at shelf x now) empty_shelf h, less)
