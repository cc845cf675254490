-- How often a reference stands in lists.
use Rattle.std.proofs.Common.{◌≡◌, ◌≢◌, ℕ, zero, suc, ◌+◌, ◌<◌, ◌≤◌, List, [], ◌∷◌, ◌++◌, length, take, get_or, false, refl, sym, ap, subst, ◌∙◌, arith, inl, inr, nat_eq, ne_eqb}
use Rattle.std.proofs.lemmas.Bool.{cases_eq, eq-eqb}
use Rattle.std.proofs.lemmas.Grind.{flat_map-append}
use Rattle.std.proofs.lemmas.List.{take_more}
use Rattle.std.specs.List.{flat_map, AllByRecursion, IsDistinct}
use Rattle.list_lemmas.specs.Counting.{one_if}
use Rattle.entry_ref.specs.Records.{Among}
use Rattle.store_api.specs.Parts.{times, EachOnce}

pub times-same : (r q : ℕ) (qs : List ℕ) → r ≡ q → times r (q ∷ qs) ≡ 1 + times r qs
times-same r q qs e = ap (λ n. n + times r qs) (ap one_if (eq-eqb r q e))

pub times-other : (r q : ℕ) (qs : List ℕ) → r ≢ q → times r (q ∷ qs) ≡ times r qs
times-other r q qs ne = let none : one_if (nat_eq r q) ≡ 0 = ap one_if (ne_eqb r q ne) in omega arith

pub times-append : (r : ℕ) (xs ys : List ℕ) → times r (xs ++ ys) ≡ times r xs + times r ys
times-append r [] ys = omega arith
times-append r (x ∷ xs) ys = let rest = times-append r xs ys in omega arith

pub among-times : (r : ℕ) (qs : List ℕ) → Among r qs → 0 < times r qs
among-times r [] h = absurd h
among-times r (q ∷ qs) (inl e) = let is = times-same r q qs e in omega arith
among-times r (q ∷ qs) (inr h) = let rest = among-times r qs h in omega arith

pub times-among : (r : ℕ) (qs : List ℕ) → 0 < times r qs → Among r qs
times-among r [] h = absurd (omega arith)
times-among r (q ∷ qs) h = elim (cases_eq r q) [
  | inl e ↦ inl e
  | inr ne ↦ inr (times-among r qs (let is = times-other r q qs ne in omega arith))
]

pub absent-times : (r : ℕ) (qs : List ℕ) → ¬ Among r qs → times r qs ≡ 0
absent-times r [] no_one = refl
absent-times r (q ∷ qs) no_one = times-other r q qs (λ e. no_one (inl e)) ∙ absent-times r qs (λ h. no_one (inr h))

pub times-absent : (r : ℕ) (qs : List ℕ) → times r qs ≡ 0 → ¬ Among r qs
times-absent r qs none h = let some = among-times r qs h in absurd (omega arith)

-- what holds of each holds of those that are counted
pub all_at_times : (P : ℕ → Type 0) (qs : List ℕ) → AllByRecursion P qs → (r : ℕ) → 0 < times r qs → P r
all_at_times P [] all r h = absurd (omega arith)
all_at_times P (q ∷ qs) all r h = elim (cases_eq r q) [
  | inl e ↦ subst P (sym e) all.0
  | inr ne ↦ all_at_times P qs all.1 r (let is = times-other r q qs ne in omega arith)
]

pub all_from_times : (P : ℕ → Type 0) (qs : List ℕ) → ((r : ℕ) → 0 < times r qs → P r) → AllByRecursion P qs
all_from_times P [] each = tt
all_from_times P (q ∷ qs) each = (each q (let is = times-same q q qs refl in omega arith), all_from_times P qs (λ r h. each r (omega arith)))

apart-uncounted : (r : ℕ) (qs : List ℕ) → AllByRecursion (λ q. nat_eq r q ≡ false) qs → times r qs ≡ 0
apart-uncounted r [] all = refl
apart-uncounted r (q ∷ qs) all =
    let none : one_if (nat_eq r q) ≡ 0 = ap one_if all.0 in
    let rest = apart-uncounted r qs all.1 in
    omega arith

-- distinct references stand once
pub once_from_distinct : (qs : List ℕ) → IsDistinct nat_eq qs → EachOnce qs
unfolding IsDistinct
once_from_distinct [] distinct r = omega arith
once_from_distinct (q ∷ qs) distinct r = elim (cases_eq r q) [
  | inl e ↦ (let none : times q qs ≡ 0 = apart-uncounted q qs distinct.0 in
      let here : times r qs ≡ 0 = ap (λ s. times s qs) e ∙ none in
      let is = times-same r q qs e in
      omega arith)
  | inr ne ↦ (let rest = once_from_distinct qs distinct.1 r in let is = times-other r q qs ne in omega arith)
]

pub times-take : (r : ℕ) (qs : List ℕ) (i : ℕ) → i < length qs → times r (take (i + 1) qs) ≡ times r (take i qs) + times r (get_or qs i 0 ∷ [])
times-take r qs i below = ap (times r) (take_more qs i 0 below) ∙ times-append r (take i qs) (get_or qs i 0 ∷ [])

pub times-take-le : (r : ℕ) (qs : List ℕ) (i : ℕ) → times r (take i qs) ≤ times r qs
times-take-le r qs zero = omega arith
times-take-le r [] (suc i) = omega arith
times-take-le r (q ∷ qs) (suc i) = let rest = times-take-le r qs i in omega arith

-- the next of a list where each stands once is not among those before
pub next_once : (qs : List ℕ) (i : ℕ) → EachOnce qs → i < length qs → times (get_or qs i 0) (take i qs) ≡ 0
next_once qs i once below =
    let q = get_or qs i 0 in
    let more = times-take q qs i below in
    let few = times-take-le q qs (i + 1) in
    let all = once q in
    let here = times-same q q [] refl in
    omega arith

pub times-flat_map : (r : ℕ) (f : ℕ → List ℕ) (xs ys : List ℕ) → times r (flat_map f (xs ++ ys)) ≡ times r (flat_map f xs) + times r (flat_map f ys)
times-flat_map r f xs ys = ap (times r) (flat_map-append f xs ys) ∙ times-append r (flat_map f xs) (flat_map f ys)
