-- What the states say of each other, and the end of a unit.
use Rattle.std.proofs.Common.{◌≡◌, ℕ, ◌+◌, Bool, true, false, not, ◌&&◌, cond, nat_eq, zero, suc, List, [], ◌∷◌, map, set, refl, sym, ap, ◌∙◌, arith}
use Rattle.std.specs.List.{count_by}
use Rattle.std.proofs.lemmas.List.Sums.{sum_by-cons}
use Rattle.entry_ledger.specs.declared.state.State.{State}
use Rattle.entry_ledger.specs.declared.state.State.TheVariants.{Free, Returned, Made, InUse, LetGo, DroppedNow, Dropped}
use Rattle.entry_ledger.specs.States.{is_free_state, is_touched, is_freed, is_used, is_dropped, dropped, settled_state, state_at}

pub used-free : (s : State) → is_used s ≡ true → is_free_state s ≡ false
used-free Free used = absurd (cc)
used-free Returned used = absurd (cc)
used-free Made used = refl
used-free (InUse after) used = refl
used-free LetGo used = refl
used-free (DroppedNow after) used = refl
used-free (Dropped after g) used = refl

touched-choice : (t : Bool) (after : ℕ) → is_touched (cond t LetGo (DroppedNow after)) ≡ true
touched-choice true after = refl
touched-choice false after = refl

pub dropped-touched : (last : ℕ) (s : State) → is_used s ≡ true → is_touched (dropped last s) ≡ true
dropped-touched last Free used = absurd (cc)
dropped-touched last Returned used = absurd (cc)
dropped-touched last Made used = refl
dropped-touched last (InUse after) used = touched-choice (nat_eq after last) after
dropped-touched last LetGo used = absurd (cc)
dropped-touched last (DroppedNow after) used = absurd (cc)
dropped-touched last (Dropped after g) used = absurd (cc)

free-choice : (t : Bool) (after : ℕ) → is_free_state (cond t LetGo (DroppedNow after)) ≡ false
free-choice true after = refl
free-choice false after = refl

-- of what is in use, what the unit made alone is free once it is dropped
pub made-free : (last : ℕ) (s : State) → is_used s ≡ true → is_touched s ≡ is_free_state (dropped last s)
made-free last Free used = absurd (cc)
made-free last Returned used = absurd (cc)
made-free last Made used = refl
made-free last (InUse after) used = sym (free-choice (nat_eq after last) after)
made-free last LetGo used = absurd (cc)
made-free last (DroppedNow after) used = absurd (cc)
made-free last (Dropped after g) used = absurd (cc)

pub settled-touched : (accepts : Bool) (last generation : ℕ) (s : State) → is_touched (settled_state accepts last generation s) ≡ false
settled-touched true last generation Free = refl
settled-touched true last generation Returned = refl
settled-touched true last generation Made = refl
settled-touched true last generation (InUse after) = refl
settled-touched true last generation LetGo = refl
settled-touched true last generation (DroppedNow after) = refl
settled-touched true last generation (Dropped after g) = refl
settled-touched false last generation Free = refl
settled-touched false last generation Returned = refl
settled-touched false last generation Made = refl
settled-touched false last generation (InUse after) = refl
settled-touched false last generation LetGo = refl
settled-touched false last generation (DroppedNow after) = refl
settled-touched false last generation (Dropped after g) = refl

-- what is not touched stays
pub settled-same : (accepts : Bool) (last generation : ℕ) (s : State) → is_touched s ≡ false → settled_state accepts last generation s ≡ s
settled-same true last generation Free e = refl
settled-same true last generation Returned e = absurd (cc)
settled-same true last generation Made e = absurd (cc)
settled-same true last generation (InUse after) e = refl
settled-same true last generation LetGo e = absurd (cc)
settled-same true last generation (DroppedNow after) e = absurd (cc)
settled-same true last generation (Dropped after g) e = refl
settled-same false last generation Free e = refl
settled-same false last generation Returned e = absurd (cc)
settled-same false last generation Made e = absurd (cc)
settled-same false last generation (InUse after) e = refl
settled-same false last generation LetGo e = absurd (cc)
settled-same false last generation (DroppedNow after) e = absurd (cc)
settled-same false last generation (Dropped after g) e = refl

pub settled-free : (accepts : Bool) (last generation : ℕ) (s : State) → is_free_state s ≡ true → is_free_state (settled_state accepts last generation s) ≡ true
settled-free true last generation Free e = refl
settled-free true last generation Returned e = refl
settled-free true last generation Made e = absurd (cc)
settled-free true last generation (InUse after) e = absurd (cc)
settled-free true last generation LetGo e = absurd (cc)
settled-free true last generation (DroppedNow after) e = absurd (cc)
settled-free true last generation (Dropped after g) e = absurd (cc)
settled-free false last generation Free e = refl
settled-free false last generation Returned e = refl
settled-free false last generation Made e = absurd (cc)
settled-free false last generation (InUse after) e = absurd (cc)
settled-free false last generation LetGo e = absurd (cc)
settled-free false last generation (DroppedNow after) e = absurd (cc)
settled-free false last generation (Dropped after g) e = absurd (cc)

pub freed-is : (accepts : Bool) (last generation : ℕ) (s : State) → is_freed accepts s ≡ (is_free_state (settled_state accepts last generation s) && not (is_free_state s))
freed-is true last generation Free = refl
freed-is true last generation Returned = refl
freed-is true last generation Made = refl
freed-is true last generation (InUse after) = refl
freed-is true last generation LetGo = refl
freed-is true last generation (DroppedNow after) = refl
freed-is true last generation (Dropped after g) = refl
freed-is false last generation Free = refl
freed-is false last generation Returned = refl
freed-is false last generation Made = refl
freed-is false last generation (InUse after) = refl
freed-is false last generation LetGo = refl
freed-is false last generation (DroppedNow after) = refl
freed-is false last generation (Dropped after g) = refl

pub settled-again : (accepts : Bool) (last generation : ℕ) (s : State) → settled_state accepts last generation (settled_state accepts last generation s) ≡ settled_state accepts last generation s
settled-again accepts last generation s = settled-same accepts last generation (settled_state accepts last generation s) (settled-touched accepts last generation s)

-- where one state is settled, the states settled are the same
pub map-settled : (accepts : Bool) (last generation : ℕ) (states : List State) (x : ℕ)
    → map (settled_state accepts last generation) (set states x (settled_state accepts last generation (state_at states x))) ≡ map (settled_state accepts last generation) states
map-settled accepts last generation [] x = refl
map-settled accepts last generation (s ∷ states) zero = ap (λ t. t ∷ map (settled_state accepts last generation) states) (settled-again accepts last generation s)
map-settled accepts last generation (s ∷ states) (suc x) = ap (λ l. settled_state accepts last generation s ∷ l) (map-settled accepts last generation states x)

-- where none is touched, settling changes nothing
pub settled-all : (accepts : Bool) (last generation : ℕ) (states : List State) → count_by is_touched states ≡ 0 → map (settled_state accepts last generation) states ≡ states
settled-all accepts last generation [] none = refl
settled-all accepts last generation (s ∷ states) none = by_test (is_touched s) refl (sym (sum_by-cons (λ t. cond (is_touched t) 1 0) s states) ∙ none) (settled-all accepts last generation states)
  where
    by_test : (t : Bool) → is_touched s ≡ t → cond t 1 0 + count_by is_touched states ≡ 0 → (count_by is_touched states ≡ 0 → map (settled_state accepts last generation) states ≡ states)
        → settled_state accepts last generation s ∷ map (settled_state accepts last generation) states ≡ s ∷ states
    by_test true e zero_is later = absurd (omega (arith, zero_is))
    by_test false e zero_is later = ap (λ t. t ∷ map (settled_state accepts last generation) states) (settled-same accepts last generation s e) ∙ ap (λ l. s ∷ l) (later (omega (arith, zero_is)))

pub dropped-kept : (s : State) → is_dropped s ≡ true → (is_free_state s ≡ false) × (is_touched s ≡ false)
dropped-kept Free is = absurd (cc)
dropped-kept Returned is = absurd (cc)
dropped-kept Made is = absurd (cc)
dropped-kept (InUse after) is = absurd (cc)
dropped-kept LetGo is = absurd (cc)
dropped-kept (DroppedNow after) is = absurd (cc)
dropped-kept (Dropped after g) is = (refl, refl)
