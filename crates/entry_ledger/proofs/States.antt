-- The states of entries by reference, where one shelf is another.
use Rattle.std.proofs.Common.{◌≡◌, ◌≢◌, ◌⊎◌, ℕ, zero, suc, ◌+◌, ◌-◌, ◌<◌, ◌≤◌, cond, eqb, List, [], ◌∷◌, ◌++◌, map, length, set, Option, None, Some, refl, sym, ap, subst, ◌∙◌, arith, inl, inr, get_or-set_other}
use Rattle.std.proofs.Common.{get_or-set_same}
use Rattle.std.specs.List.{slice_get}
use Rattle.std.proofs.lemmas.Bool.{cases_eq, eq-eqb, ne_eqb}
use Rattle.list_lemmas.proofs.Places.{slice_get-set_same, slice_get-set_other}
use Rattle.entry_ref.specs.References.{buffer_of, offset_of, packed, buffer_limit}
use Rattle.entry_ref.proofs.Bits.{packed-buffer, packed-offset, same-ref}
use Rattle.buffer_states.specs.declared.Buffer.{Buffer}
use Rattle.buffer_states.specs.Buffers.{new_buffer, buffer_at}
use Rattle.entry_ledger.specs.declared.state.State.{State}
use Rattle.entry_ledger.specs.declared.state.State.TheVariants.{Made}
use Rattle.entry_ledger.specs.States.{ShelfView, empty_shelf, with_made}
use Rattle.entry_ledger.specs.Shelves.{shelf_at}
use Rattle.entry_ledger.specs.Calls.{with_state}
use Rattle.entry_ledger.specs.Ledgers.{state_in, mark_of}

-- the state of each entry in these shelves
abbrev pub state_by : ℕ → List ShelfView → ℕ → Option State
state_by bits shelves r = state_in (shelf_at shelves (buffer_of bits r)) (offset_of bits r)

-- one entry has another state, and each other one the same
pub record ChangesState (old new : List State) (x : ℕ) (state : State) : Type 0 where
  pub here : slice_get new x ≡ Some state
  pub others : (y : ℕ) → y ≢ x → slice_get new y ≡ slice_get old y

push-here : (xs : List State) (a : State) → slice_get (xs ++ a ∷ []) (length xs) ≡ Some a
push-here [] a = refl
push-here (x ∷ xs) a = push-here xs a

push-others : (xs : List State) (a : State) (y : ℕ) → y ≢ length xs → slice_get (xs ++ a ∷ []) y ≡ slice_get xs y
push-others [] a zero ne = absurd (ne refl)
push-others [] a (suc y) ne = refl
push-others (x ∷ xs) a zero ne = refl
push-others (x ∷ xs) a (suc y) ne = push-others xs a y (λ e. ne (ap suc e))

pub changes-set : (xs : List State) (x : ℕ) (state : State) → x < length xs → ChangesState xs (set xs x state) x state
changes-set xs x state below = record { here = slice_get-set_same xs x state below; others = λ y ne. slice_get-set_other xs x y state ne }

pub changes-made : (s : ShelfView) (x : ℕ) → x ≤ length s.states → ChangesState s.states (with_made s x).states x Made
changes-made s x within = elim (cases_eq x (length s.states)) [
  | inl e ↦
      subst (λ states. ChangesState s.states states x Made) (sym (ap (λ t. cond t (s.states ++ Made ∷ []) (set s.states x Made)) (eq-eqb x (length s.states) e)))
      (record { here = ap (slice_get (s.states ++ Made ∷ [])) e ∙ push-here s.states Made; others = λ y ne. push-others s.states Made y (λ same. ne (same ∙ sym e)) })
  | inr ne ↦
      subst (λ states. ChangesState s.states states x Made) (sym (ap (λ t. cond t (s.states ++ Made ∷ []) (set s.states x Made)) (ne_eqb x (length s.states) ne)))
      (changes-set s.states x Made (omega (arith, within, ne)))
]

pub at-suc : (s : ShelfView) (y : ℕ) → state_in s (suc y) ≡ slice_get s.states y
at-suc s y =
    let less : suc y - 1 ≡ y = omega arith in
    ap (λ t. cond t None (slice_get s.states (suc y - 1))) (ne_eqb (suc y) 0 (λ e. absurd (omega (arith, e)))) ∙ ap (slice_get s.states) less

-- the states by reference then
pub state-set : (bits : ℕ) (shelves : List ShelfView) (b x : ℕ) (new : ShelfView) (state : State) → b < length shelves → b < buffer_limit bits
    → ChangesState (shelf_at shelves b).states new.states x state
    → (r : ℕ) → state_by bits (set shelves b new) r ≡ with_state (state_by bits shelves) (packed bits (x + 1) b) state r
state-set bits shelves b x new state h low changes r = elim (cases_eq r (packed bits (x + 1) b)) [
  | inl e ↦
      (let shelf : shelf_at (set shelves b new) (buffer_of bits r) ≡ new =
      ap (λ n. shelf_at (set shelves b new) n) (ap (buffer_of bits) e ∙ packed-buffer bits (x + 1) b low) ∙ get_or-set_same shelves b new empty_shelf h in
      let offset : offset_of bits r ≡ suc x = ap (offset_of bits) e ∙ packed-offset bits (x + 1) b low ∙ omega arith in
      ap (λ s. state_in s (offset_of bits r)) shelf ∙ ap (state_in new) offset ∙ at-suc new x ∙ changes.here
      ∙ sym (ap (λ t. cond t (Some state) (state_by bits shelves r)) (eq-eqb r (packed bits (x + 1) b) e)))
  | inr ne ↦ other ne (cases_eq (buffer_of bits r) b) ∙ sym (ap (λ t. cond t (Some state) (state_by bits shelves r)) (ne_eqb r (packed bits (x + 1) b) ne))
]
  where
    at-offset : (o : ℕ) → o ≢ suc x → state_in new o ≡ state_in (shelf_at shelves b) o
    at-offset zero ne = refl
    at-offset (suc y) ne = at-suc new y ∙ changes.others y (λ e. ne (ap suc e)) ∙ sym (at-suc (shelf_at shelves b) y)

    other : r ≢ packed bits (x + 1) b → (buffer_of bits r ≡ b) ⊎ (buffer_of bits r ≢ b) → state_by bits (set shelves b new) r ≡ state_by bits shelves r
    other ne (inl same) =
        let shelf : shelf_at (set shelves b new) (buffer_of bits r) ≡ new = ap (λ n. shelf_at (set shelves b new) n) same ∙ get_or-set_same shelves b new empty_shelf h in
        let apart : offset_of bits r ≢ suc x = λ e. ne (same-ref bits r (packed bits (x + 1) b) (e ∙ omega arith ∙ sym (packed-offset bits (x + 1) b low)) (same ∙ sym (packed-buffer bits (x + 1) b low))) in
        ap (λ s. state_in s (offset_of bits r)) shelf ∙ at-offset (offset_of bits r) apart ∙ ap (λ n. state_in (shelf_at shelves n) (offset_of bits r)) (sym same)
    other ne (inr apart) = ap (λ s. state_in s (offset_of bits r)) (get_or-set_other shelves b (buffer_of bits r) new empty_shelf apart)

-- a shelf with the same states changes none
pub state-same : (bits : ℕ) (shelves : List ShelfView) (b : ℕ) (new : ShelfView) → b < length shelves → new.states ≡ (shelf_at shelves b).states
    → (r : ℕ) → state_by bits (set shelves b new) r ≡ state_by bits shelves r
state-same bits shelves b new h same r = elim (cases_eq (buffer_of bits r) b) [
  | inl e ↦
      ap (λ n. state_in (shelf_at (set shelves b new) n) (offset_of bits r)) e ∙ ap (λ s. state_in s (offset_of bits r)) (get_or-set_same shelves b new empty_shelf h)
      ∙ ap (λ states. cond (eqb (offset_of bits r) 0) None (slice_get states (offset_of bits r - 1))) same ∙ ap (λ n. state_in (shelf_at shelves n) (offset_of bits r)) (sym e)
  | inr ne ↦ ap (λ s. state_in s (offset_of bits r)) (get_or-set_other shelves b (buffer_of bits r) new empty_shelf ne)
]

-- other counts of a buffer leave its mark
pub mark-same : (buffers : List Buffer) (b : ℕ) (new : Buffer) → b < length buffers → mark_of new ≡ mark_of (buffer_at buffers b)
    → (a : ℕ) → mark_of (buffer_at (set buffers b new) a) ≡ mark_of (buffer_at buffers a)
mark-same buffers b new h same a = elim (cases_eq a b) [
  | inl e ↦ ap (λ n. mark_of (buffer_at (set buffers b new) n)) e ∙ ap mark_of (get_or-set_same buffers b new new_buffer h) ∙ same ∙ ap (λ n. mark_of (buffer_at buffers n)) (sym e)
  | inr ne ↦ ap mark_of (get_or-set_other buffers b a new new_buffer ne)
]

-- a change of each buffer that leaves a new one as it is
pub buffer-map : (f : Buffer → Buffer) → f new_buffer ≡ new_buffer → (bs : List Buffer) (b : ℕ) → buffer_at (map f bs) b ≡ f (buffer_at bs b)
buffer-map f same [] b = sym same
buffer-map f same (x ∷ bs) zero = refl
buffer-map f same (x ∷ bs) (suc b) = buffer-map f same bs b
