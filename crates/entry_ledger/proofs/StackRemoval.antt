-- A place leaves a stack, or is not on it.
use Rattle.std.proofs.Common.{◌≡◌, ◌≢◌, ℕ, suc, ◌+◌, ◌<◌, ◌≤◌, Bool, true, false, List, [], ◌∷◌, length, get_or, set, refl, sym, ap, ◌∙◌, arith, inl, inr, get_or-set_other}
use Rattle.std.specs.List.{count_by, remove}
use Rattle.std.proofs.Math.ListN.{length-set}
use Rattle.std.proofs.lemmas.List.Edits.{get_or-remove_below, get_or-remove_above, length-remove}
use Rattle.std.proofs.lemmas.Bool.{cases_lt}
use Rattle.list_lemmas.specs.Counting.{one_if}
use Rattle.list_lemmas.proofs.Counts.{count_by-set}
use Rattle.entry_ledger.specs.Stacks.{IsStack}

-- places that pass and differ are no more than those that pass
distinct-le : {A : Type 0} (d : A) (test : A → Bool) (xs : List A) (stack : List ℕ) → test d ≡ false
    → ((i : ℕ) → i < length stack → get_or stack i 0 < length xs) → ((i : ℕ) → i < length stack → test (get_or xs (get_or stack i 0) d) ≡ true)
    → ((i j : ℕ) → i < j → j < length stack → get_or stack i 0 ≢ get_or stack j 0) → length stack ≤ count_by test xs
distinct-le d test xs [] out below passes apart = omega arith
distinct-le {A} d test xs (y ∷ ys) out below passes apart =
    let h : y < length xs = below 0 (omega arith) in
    let other : (i : ℕ) → i < length ys → get_or ys i 0 ≢ y = λ i m e. apart 0 (suc i) (omega arith) (omega (arith, m)) (sym e) in
    let later = distinct-le d test (set xs y d) ys out
    (λ i m. (let low = below (suc i) (omega (arith, m)) in omega (arith, low, length-set {A = A} xs y d)))
    (λ i m. ap test (get_or-set_other xs y (get_or ys i 0) d d (other i m)) ∙ passes (suc i) (omega (arith, m)))
    (λ i j before m. apart (suc i) (suc j) (omega (arith, before)) (omega (arith, m))) in
    let count = count_by-set test xs y d d h in
    let was : one_if (test (get_or xs y d)) ≡ 1 = ap one_if (passes 0 (omega arith)) in
    let now : one_if (test d) ≡ 0 = ap one_if out in
    omega (arith, later, count, was, now)

-- a place that is not on the stack does not pass
pub stack-absent : {A : Type 0} (d : A) (test : A → Bool) (xs : List A) (stack : List ℕ) → test d ≡ false → IsStack d test xs stack → (x : ℕ) → x < length xs
    → ((i : ℕ) → i < length stack → get_or stack i 0 ≢ x) → test (get_or xs x d) ≡ false
stack-absent {A} d test xs stack out s x h absent = by_test (test (get_or xs x d)) refl
  where
    by_test : (t : Bool) → test (get_or xs x d) ≡ t → t ≡ false
    by_test false e = refl
    by_test true e =
        let few = distinct-le d test (set xs x d) stack out
        (λ i m. (let low = s.below i m in omega (arith, low, length-set {A = A} xs x d)))
        (λ i m. ap test (get_or-set_other xs x (get_or stack i 0) d d (absent i m)) ∙ s.passes i m) s.apart in
        let count = count_by-set test xs x d d h in
        let was : one_if (test (get_or xs x d)) ≡ 1 = ap one_if e in
        let now : one_if (test d) ≡ 0 = ap one_if out in
        absurd (omega (arith, few, count, was, now, s.count))

-- a place leaves the stack
pub stack-remove : {A : Type 0} (d : A) (test : A → Bool) (xs : List A) (stack : List ℕ) → IsStack d test xs stack → (i : ℕ) → i < length stack → (new : A)
    → test new ≡ false → IsStack d test (set xs (get_or stack i 0) new) (remove stack i)
stack-remove {A} d test xs stack s i h new out = record {
  below = λ j m. elim (cases_lt j i) [
    | inl a ↦ (let low = s.below j (omega (arith, m, long)) in omega (arith, low, get_or-remove_below stack i 0 j a h, same))
    | inr a ↦ (let low = s.below (j + 1) (omega (arith, m, long)) in omega (arith, low, get_or-remove_above stack i 0 j (omega (arith, a)) h, same))
  ];
  passes = λ j m. elim (cases_lt j i) [
    | inl a ↦
        ap (λ y. test (get_or (set xs (get_or stack i 0) new) y d)) (get_or-remove_below stack i 0 j a h)
        ∙ ap test (get_or-set_other xs (get_or stack i 0) (get_or stack j 0) new d (s.apart j i a h)) ∙ s.passes j (omega (arith, m, long))
    | inr a ↦
        ap (λ y. test (get_or (set xs (get_or stack i 0) new) y d)) (get_or-remove_above stack i 0 j (omega (arith, a)) h)
        ∙ ap test (get_or-set_other xs (get_or stack i 0) (get_or stack (j + 1) 0) new d (λ e. s.apart i (j + 1) (omega (arith, a)) (omega (arith, m, long)) (sym e))) ∙ s.passes (j + 1) (omega (arith, m, long))
  ];
  apart = λ p q before m e. elim (cases_lt p i) [
    | inl a ↦ elim (cases_lt q i) [
      | inl b ↦ s.apart p q before (omega (arith, m, long)) (sym (get_or-remove_below stack i 0 p a h) ∙ e ∙ get_or-remove_below stack i 0 q b h)
      | inr b ↦ s.apart p (q + 1) (omega (arith, before)) (omega (arith, m, long)) (sym (get_or-remove_below stack i 0 p a h) ∙ e ∙ get_or-remove_above stack i 0 q (omega (arith, b)) h)
    ]
    | inr a ↦
        s.apart (p + 1) (q + 1) (omega (arith, before)) (omega (arith, m, long))
        (sym (get_or-remove_above stack i 0 p (omega (arith, a)) h) ∙ e ∙ get_or-remove_above stack i 0 q (omega (arith, a, before)) h)
  ];
  count = (let count = count_by-set test xs (get_or stack i 0) new d (s.below i h) in
      let was : one_if (test (get_or xs (get_or stack i 0) d)) ≡ 1 = ap one_if (s.passes i h) in
      let now : one_if (test new) ≡ 0 = ap one_if out in
      omega (arith, s.count, count, was, now, long));
}
  where
    long : length (remove stack i) + 1 ≡ length stack
    long = length-remove stack i h

    same : length (set xs (get_or stack i 0) new) ≡ length xs
    same = length-set {A = A} xs (get_or stack i 0) new
