-- An entry of a shelf is made, dropped, settled or released: what its counts are then.
use Rattle.std.proofs.Common.{◌≡◌, ℕ, zero, suc, eqb, ◌+◌, ◌<◌, ◌≤◌, Bool, true, false, not, ◌&&◌, cond, [], ◌∷◌, ◌++◌, length, set, refl, sym, ap, ◌∙◌, arith, inl, inr, get_or-set_same}
use Rattle.std.specs.Prelude.{nat_lt}
use Rattle.std.specs.List.{count_by}
use Rattle.std.proofs.Math.ListN.{length-set}
use Rattle.std.proofs.Math.Seq.{get_or-append_seam}
use Rattle.std.proofs.lemmas.List.{length_push}
use Rattle.std.proofs.lemmas.List.Sums.{sum_by_push}
use Rattle.std.proofs.lemmas.Bool.{cases_eq, eq-eqb, ne_eqb, true≢false, lt-ltb, ltb-true, and_parts, and_right}
use Rattle.list_lemmas.specs.Counting.{one_if}
use Rattle.list_lemmas.proofs.Counts.{count_by-set}
use Rattle.entry_ledger.specs.declared.state.State.{State}
use Rattle.entry_ledger.specs.declared.state.State.TheVariants.{Free, Made}
use Rattle.entry_ledger.specs.States.{ShelfView, can_make, has_free_and_more, has_one_spare, has_touched, has_one_touched, spare_of, is_free_state, is_touched, state_at, IsOpen, with_made, with_state_at}
use Rattle.entry_ledger.proofs.StackSteps.{count-some}

-- after a take one less is to spare
pub made-spare : (s : ShelfView) (x : ℕ) → length s.states ≤ s.room → IsOpen s x → spare_of (with_made s x) + 1 ≡ spare_of s
made-spare s x fits can = elim (cases_eq x (length s.states)) [
  | inl e ↦
      (let is : with_made s x ≡ record s { states = s.states ++ Made ∷ [] } = ap (λ t. record s { states = cond t (s.states ++ Made ∷ []) (set s.states x Made) }) (eq-eqb x (length s.states) e) in
      let count : count_by is_free_state (s.states ++ Made ∷ []) ≡ count_by is_free_state s.states + 0 = sum_by_push (λ t. cond (is_free_state t) 1 0) s.states Made in
      ap (λ v. spare_of v + 1) is ∙ omega (arith, count, (can.next e).0, e, length_push s.states Made))
  | inr ne ↦
      (let is : with_made s x ≡ record s { states = set s.states x Made } = ap (λ t. record s { states = cond t (s.states ++ Made ∷ []) (set s.states x Made) }) (ne_eqb x (length s.states) ne) in
      let below : x < length s.states = omega (arith, can.within, ne) in
      let count = count_by-set is_free_state s.states x Made Free below in
      let was : one_if (is_free_state (state_at s.states x)) ≡ 1 = ap one_if (can.free below) in
      ap (λ v. spare_of v + 1) is ∙ omega (arith, count, was, length-set {A = State} s.states x Made))
]

-- and the unit has changed an entry
pub made-touched : (s : ShelfView) (x : ℕ) → IsOpen s x → has_touched (with_made s x) ≡ true
made-touched s x can = elim (cases_eq x (length s.states)) [
  | inl e ↦
      (let is : with_made s x ≡ record s { states = s.states ++ Made ∷ [] } = ap (λ t. record s { states = cond t (s.states ++ Made ∷ []) (set s.states x Made) }) (eq-eqb x (length s.states) e) in
      let some : 0 < count_by is_touched (s.states ++ Made ∷ []) =
      count-some Free is_touched (s.states ++ Made ∷ []) (length s.states) (omega (arith, length_push s.states Made)) (ap is_touched (get_or-append_seam s.states Made [] Free)) in
      ap has_touched is ∙ lt-ltb 0 _ some)
  | inr ne ↦
      (let is : with_made s x ≡ record s { states = set s.states x Made } = ap (λ t. record s { states = cond t (s.states ++ Made ∷ []) (set s.states x Made) }) (ne_eqb x (length s.states) ne) in
      let below : x < length s.states = omega (arith, can.within, ne) in
      let some : 0 < count_by is_touched (set s.states x Made) =
      count-some Free is_touched (set s.states x Made) x (omega (arith, below, length-set {A = State} s.states x Made)) (ap is_touched (get_or-set_same s.states x Made Free below)) in
      ap has_touched is ∙ lt-ltb 0 _ some)
]

pub made-taken : (s : ShelfView) (x : ℕ) → length s.states ≤ s.room → IsOpen s x → length (with_made s x).states ≤ s.room
made-taken s x fits can = elim (cases_eq x (length s.states)) [
  | inl e ↦
      (let is : length (with_made s x).states ≡ length (s.states ++ Made ∷ []) = ap (λ t. length (cond t (s.states ++ Made ∷ []) (set s.states x Made))) (eq-eqb x (length s.states) e) in
      omega (arith, is, (can.next e).0, e, length_push s.states Made))
  | inr ne ↦
      (let is : length (with_made s x).states ≡ length (set s.states x Made) = ap (λ t. length (cond t (s.states ++ Made ∷ []) (set s.states x Made))) (ne_eqb x (length s.states) ne) in
      omega (arith, is, fits, length-set {A = State} s.states x Made))
]

-- where one entry has another state, what was free is free still
pub state-spare : (s : ShelfView) (x : ℕ) (state : State) → x < length s.states → (is_free_state (state_at s.states x) ≡ true → is_free_state state ≡ true)
    → spare_of s ≤ spare_of (with_state_at s x state)
state-spare s x state below keeps =
    let count = count_by-set is_free_state s.states x state Free below in
    let less : one_if (is_free_state (state_at s.states x)) ≤ one_if (is_free_state state) = by_test (is_free_state (state_at s.states x)) (is_free_state state) keeps in
    omega (arith, count, less, length-set {A = State} s.states x state)
  where
    by_test : (t u : Bool) → (t ≡ true → u ≡ true) → one_if t ≤ one_if u
    by_test true true k = omega arith
    by_test true false k = absurd (true≢false (sym (k refl)))
    by_test false u k = omega arith

-- so it can be made in if it could
pub state-can : (s : ShelfView) (x : ℕ) (state : State) → x < length s.states → (is_free_state (state_at s.states x) ≡ true → is_free_state state ≡ true)
    → can_make s ≡ true → can_make (with_state_at s x state) ≡ true
state-can s x state below keeps = by_seal s.sealed
  where
    more : spare_of s ≤ spare_of (with_state_at s x state)
    more = state-spare s x state below keeps

    by_seal : (t : Bool) → (not t && nat_lt 0 (spare_of s)) ≡ true → (not t && nat_lt 0 (spare_of (with_state_at s x state))) ≡ true
    by_seal true e = e
    by_seal false e = (let some = ltb-true 0 (spare_of s) e in lt-ltb 0 _ (omega (arith, some, more)))

-- numbers of which one is the other, or one more
none-gained : (old new : ℕ) → new ≡ old → (nat_lt 0 new && not (nat_lt 0 old)) ≡ false
none-gained old new e = ap (λ n. nat_lt 0 n && not (nat_lt 0 old)) e ∙ by_test (nat_lt 0 old)
  where
    by_test : (t : Bool) → (t && not t) ≡ false
    by_test true = refl
    by_test false = refl

one-gained : (old new : ℕ) → new ≡ suc old → eqb new 1 ≡ (nat_lt 0 new && not (nat_lt 0 old))
one-gained zero new e = ap (λ n. eqb n 1) e ∙ sym (ap (λ n. nat_lt 0 n && not (nat_lt 0 0)) e)
one-gained (suc n) new e = ne_eqb new 1 (omega (arith, e)) ∙ sym (and_right (nat_lt 0 new) (not (nat_lt 0 (suc n))) (ap not (lt-ltb 0 (suc n) (omega arith))))

-- it can be made in only now where the entry that has another state is free now, was not, and is the only one to spare
pub state-gains : (s : ShelfView) (x : ℕ) (state : State) → x < length s.states → (is_free_state (state_at s.states x) ≡ true → is_free_state state ≡ true)
    → ((is_free_state state && not (is_free_state (state_at s.states x))) && has_one_spare (with_state_at s x state))
    ≡ (can_make (with_state_at s x state) && not (can_make s))
state-gains s x state below keeps =
    by_test s.sealed (is_free_state (state_at s.states x)) (is_free_state state) keeps (spare_of s) (spare_of (with_state_at s x state))
    (omega (arith, count_by-set is_free_state s.states x state Free below, length-set {A = State} s.states x state))
  where
    by_test : (sealed was now : Bool) → (was ≡ true → now ≡ true) → (old new : ℕ) → new + one_if was ≡ old + one_if now
        → ((now && not was) && (not sealed && eqb new 1)) ≡ ((not sealed && nat_lt 0 new) && not (not sealed && nat_lt 0 old))
    by_test true was now k old new e = and_right (now && not was) false refl
    by_test false true true k old new e = sym (none-gained old new (omega (arith, e)))
    by_test false true false k old new e = absurd (true≢false (sym (k refl)))
    by_test false false true k old new e = one-gained old new (omega (arith, e))
    by_test false false false k old new e = sym (none-gained old new (omega (arith, e)))

-- the same, where the entry was not free
pub taken-gains : (s : ShelfView) (x : ℕ) (state : State) → x < length s.states → is_free_state (state_at s.states x) ≡ false
    → (is_free_state state && has_one_spare (with_state_at s x state)) ≡ (can_make (with_state_at s x state) && not (can_make s))
taken-gains s x state below was =
    ap (λ t. t && has_one_spare (with_state_at s x state)) (by_test (is_free_state state) (is_free_state (state_at s.states x)) was)
    ∙ state-gains s x state below (λ e. absurd (true≢false (sym e ∙ was)))
  where
    by_test : (t u : Bool) → u ≡ false → t ≡ (t && not u)
    by_test true u e = sym (ap not e)
    by_test false u e = refl

one-less : (old new : ℕ) → new + 1 ≡ old → eqb old 1 ≡ not (nat_lt 0 new)
one-less old zero e = ap (λ n. eqb n 1) (sym e)
one-less old (suc n) e = ne_eqb old 1 (omega (arith, e)) ∙ sym (ap not (lt-ltb 0 (suc n) (omega arith)))

-- where an entry that the unit changed is changed no more, none is exactly where it was the only one
pub state-untouched : (s : ShelfView) (x : ℕ) (state : State) → x < length s.states → is_touched (state_at s.states x) ≡ true → is_touched state ≡ false
    → has_one_touched s ≡ not (has_touched (with_state_at s x state))
state-untouched s x state below was is =
    let before : one_if (is_touched (state_at s.states x)) ≡ 1 = ap one_if was in
    let after : one_if (is_touched state) ≡ 0 = ap one_if is in
    one-less (count_by is_touched s.states) (count_by is_touched (set s.states x state)) (omega (arith, count_by-set is_touched s.states x state Free below, before, after))

pub made-length : (s : ShelfView) (x : ℕ) → IsOpen s x → length s.states ≤ length (with_made s x).states
made-length s x can = elim (cases_eq x (length s.states)) [
  | inl e ↦
      (let is : length (with_made s x).states ≡ length (s.states ++ Made ∷ []) = ap (λ t. length (cond t (s.states ++ Made ∷ []) (set s.states x Made))) (eq-eqb x (length s.states) e) in
      omega (arith, is, length_push s.states Made))
  | inr ne ↦
      (let is : length (with_made s x).states ≡ length (set s.states x Made) = ap (λ t. length (cond t (s.states ++ Made ∷ []) (set s.states x Made))) (ne_eqb x (length s.states) ne) in
      omega (arith, is, length-set {A = State} s.states x Made))
]

-- where an entry was not taken, one can be made
pub can-from : (s : ShelfView) → s.sealed ≡ false → length s.states < s.room → can_make s ≡ true
can-from s unsealed less =
    let some : 0 < spare_of s = omega (arith, less) in
    ap (λ t. not t && nat_lt 0 (spare_of s)) unsealed ∙ lt-ltb 0 (spare_of s) some

-- a shelf with a free entry and another one to spare
pub record HasMore (s : ShelfView) : Type 0 where
  pub unsealed : s.sealed ≡ false
  pub free : 0 < count_by is_free_state s.states
  pub can : can_make s ≡ true
  pub still : (x : ℕ) → length s.states ≤ s.room → IsOpen s x → can_make (with_made s x) ≡ true

pub has-more : (s : ShelfView) → has_free_and_more s ≡ true → HasMore s
has-more s is =
    let parts = and_parts (not s.sealed) (nat_lt 0 (count_by is_free_state s.states) && nat_lt 1 (spare_of s)) is in
    let both = and_parts (nat_lt 0 (count_by is_free_state s.states)) (nat_lt 1 (spare_of s)) parts.1 in
    let some : 1 < spare_of s = ltb-true 1 (spare_of s) both.1 in
    let unsealed = by_test s.sealed parts.0 in
    record {
      unsealed = unsealed;
      free = ltb-true 0 (count_by is_free_state s.states) both.0;
      can = ap (λ t. not t && nat_lt 0 (spare_of s)) unsealed ∙ lt-ltb 0 (spare_of s) (omega (arith, some));
      still = λ x fits can.
          ap (λ t. not t && nat_lt 0 (spare_of (with_made s x))) unsealed ∙ lt-ltb 0 (spare_of (with_made s x)) (let less = made-spare s x fits can in omega (arith, some, less));
    }
  where
    by_test : (t : Bool) → not t ≡ true → t ≡ false
    by_test true e = absurd (true≢false (sym e))
    by_test false e = refl

-- where there is a free entry, that which can be taken was taken before
pub open-free : (s : ShelfView) (x : ℕ) → IsOpen s x → 0 < count_by is_free_state s.states → x < length s.states
open-free s x can free = elim (cases_eq x (length s.states)) [
  | inl e ↦ absurd (omega (arith, (can.next e).1, free))
  | inr ne ↦ omega (arith, can.within, ne)
]
