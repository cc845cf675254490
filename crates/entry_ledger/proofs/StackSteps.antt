-- What a change of one state leaves of a stack.
use Rattle.std.proofs.Common.{◌≡◌, ◌≢◌, ℕ, zero, suc, ◌+◌, ◌<◌, ◌≤◌, Bool, true, false, not, ◌&&◌, cond, List, [], ◌∷◌, ◌++◌, length, get_or, set, refl, sym, ap, subst, ◌∙◌, arith, inl, inr, get_or-set_other}
use Rattle.std.proofs.Common.{get_or-set_same}
use Rattle.std.proofs.Math.ListN.{length-set, get_or-append}
use Rattle.std.proofs.Math.Seq.{get_or-append_seam}
use Rattle.std.proofs.lemmas.List.Sums.{sum_by_push, sum_by-cons, count_by-le-length}
use Rattle.std.proofs.lemmas.Bool.{cases_lt, cases_eq, true≢false}
use Rattle.std.proofs.lemmas.List.{length_push}
use Rattle.std.specs.List.{count_by}
use Rattle.list_lemmas.specs.Counting.{one_if}
use Rattle.list_lemmas.proofs.Counts.{count_by-set}
use Rattle.entry_ledger.specs.Stacks.{IsStack}

-- a list and one more
snoc : (xs : List ℕ) (x i : ℕ) → i < length xs → get_or (xs ++ x ∷ []) i 0 ≡ get_or xs i 0
snoc xs x i h = get_or-append xs (x ∷ []) 0 i h

snoc-last : (xs : List ℕ) (x : ℕ) → get_or (xs ++ x ∷ []) (length xs) 0 ≡ x
snoc-last xs x = get_or-append_seam xs x [] 0

-- a fact of each place of a list and one more
each_more : (P : ℕ → Type 0) (n : ℕ) → ((i : ℕ) → i < n → P i) → P n → (i : ℕ) → i < n + 1 → P i
each_more P n each last i h = elim (cases_lt i n) [
  | inl k ↦ each i k
  | inr k ↦ (let same : n ≡ i = omega arith in subst P same last)
]

-- a list and one more, where no two are the same
apart_more : (xs : List ℕ) (x : ℕ) → ((i j : ℕ) → i < j → j < length xs → get_or xs i 0 ≢ get_or xs j 0) → ((i : ℕ) → i < length xs → get_or xs i 0 ≢ x)
    → (i j : ℕ) → i < j → j < length (xs ++ x ∷ []) → get_or (xs ++ x ∷ []) i 0 ≢ get_or (xs ++ x ∷ []) j 0
apart_more xs x each new i j before within same = elim (cases_lt j (length xs)) [
  | inl k ↦ each i j before k (sym (snoc xs x i (omega arith)) ∙ same ∙ snoc xs x j k)
  | inr k ↦
      (let last : j ≡ length xs = omega (arith, within, length_push xs x) in
      new i (omega arith) (sym (snoc xs x i (omega arith)) ∙ same ∙ ap (λ n. get_or (xs ++ x ∷ []) n 0) last ∙ snoc-last xs x))
]

module _ {A : Type 0} (d : A) (test : A → Bool) (states : List A) (stack : List ℕ) where
  pub stack-keep : IsStack d test states stack → (x : ℕ) (new : A) → x < length states → test new ≡ test (get_or states x d) → IsStack d test (set states x new) stack
  stack-keep s x new h same = record {
    below = λ i k. omega (arith, s.below i k, length-set {A = A} states x new);
    passes = λ i k. elim (cases_eq (get_or stack i 0) x) [
      | inl e ↦ ap (λ y. test (get_or (set states x new) y d)) e ∙ ap test (get_or-set_same states x new d h) ∙ same ∙ ap (λ y. test (get_or states y d)) (sym e) ∙ s.passes i k
      | inr ne ↦ ap test (get_or-set_other states x (get_or stack i 0) new d ne) ∙ s.passes i k
    ];
    apart = s.apart;
    count = (let c = count_by-set test states x new d h in let now_is : one_if (test new) ≡ one_if (test (get_or states x d)) = ap one_if same in omega (arith, s.count, c, now_is));
  }

  pub stack-push : IsStack d test states stack → (x : ℕ) (new : A) → x < length states → test (get_or states x d) ≡ false → test new ≡ true
      → IsStack d test (set states x new) (stack ++ x ∷ [])
  stack-push s x new h was is = record {
    below = λ i k. each_more (λ j. get_or (stack ++ x ∷ []) j 0 < length (set states x new)) (length stack)
        (λ j m. omega (arith, s.below j m, snoc stack x j m, length-set {A = A} states x new))
        (omega (arith, h, snoc-last stack x, length-set {A = A} states x new)) i (omega (arith, k, length_push stack x));
    passes = λ i k. each_more (λ j. test (get_or (set states x new) (get_or (stack ++ x ∷ []) j 0) d) ≡ true) (length stack)
        (λ j m. ap (λ y. test (get_or (set states x new) y d)) (snoc stack x j m) ∙ ap test (get_or-set_other states x (get_or stack j 0) new d (other j m)) ∙ s.passes j m)
        (ap (λ y. test (get_or (set states x new) y d)) (snoc-last stack x) ∙ ap test (get_or-set_same states x new d h) ∙ is) i (omega (arith, k, length_push stack x));
    apart = apart_more stack x s.apart other;
    count = (let c = count_by-set test states x new d h in
        let now_is : one_if (test new) ≡ 1 = ap one_if is in
        let e : one_if (test (get_or states x d)) ≡ 0 = ap one_if was in
        omega (arith, s.count, c, now_is, e, length_push stack x));
  }
    where
      other : (j : ℕ) → j < length stack → get_or stack j 0 ≢ x
      other j m e = true≢false (sym (s.passes j m) ∙ ap (λ y. test (get_or states y d)) e ∙ was)

  pub stack-none : IsStack d test states stack → (new : A) → test new ≡ false → IsStack d test (states ++ new ∷ []) stack
  stack-none s new is = record {
    below = λ i k. omega (arith, s.below i k, length_push states new);
    passes = λ i k. ap test (get_or-append states (new ∷ []) d (get_or stack i 0) (s.below i k)) ∙ s.passes i k;
    apart = s.apart;
    count = (let c = sum_by_push (λ t. cond (test t) 1 0) states new in let now_is : one_if (test new) ≡ 0 = ap one_if is in omega (arith, s.count, c, now_is));
  }

  pub stack-some : IsStack d test states stack → (new : A) → test new ≡ true → IsStack d test (states ++ new ∷ []) (stack ++ length states ∷ [])
  stack-some s new is = record {
    below = λ i k. each_more (λ j. get_or (stack ++ length states ∷ []) j 0 < length (states ++ new ∷ [])) (length stack)
        (λ j m. omega (arith, s.below j m, snoc stack (length states) j m, length_push states new))
        (omega (arith, snoc-last stack (length states), length_push states new)) i (omega (arith, k, length_push stack (length states)));
    passes = λ i k. each_more (λ j. test (get_or (states ++ new ∷ []) (get_or (stack ++ length states ∷ []) j 0) d) ≡ true) (length stack)
        (λ j m. ap (λ y. test (get_or (states ++ new ∷ []) y d)) (snoc stack (length states) j m) ∙ ap test (get_or-append states (new ∷ []) d (get_or stack j 0) (s.below j m)) ∙ s.passes j m)
        (ap (λ y. test (get_or (states ++ new ∷ []) y d)) (snoc-last stack (length states)) ∙ ap test (get_or-append_seam states new [] d) ∙ is) i (omega (arith, k, length_push stack (length states)));
    apart = apart_more stack (length states) s.apart (λ j m e. (let low = s.below j m in omega arith));
    count = (let c = sum_by_push (λ t. cond (test t) 1 0) states new in let now_is : one_if (test new) ≡ 1 = ap one_if is in omega (arith, s.count, c, now_is, length_push stack (length states)));
  }

  -- the last of the stack leaves it
  pub stack-pop : (x : ℕ) → IsStack d test states (stack ++ x ∷ []) → (new : A) → test new ≡ false → IsStack d test (set states x new) stack
  stack-pop x s new is = record {
    below = λ i k. omega (arith, s.below i (more i k), snoc stack x i k, length-set {A = A} states x new);
    passes = λ i k.
        ap test (get_or-set_other states x (get_or stack i 0) new d (other i k))
        ∙ ap (λ y. test (get_or states y d)) (sym (snoc stack x i k)) ∙ s.passes i (more i k);
    apart = λ i j before k same. s.apart i j before (more j k) (snoc stack x i (omega arith) ∙ same ∙ sym (snoc stack x j k));
    count = (let c = count_by-set test states x new d top in
        let now_is : one_if (test new) ≡ 0 = ap one_if is in
        let e : one_if (test (get_or states x d)) ≡ 1 = ap (λ y. one_if (test (get_or states y d))) (sym (snoc-last stack x)) ∙ ap one_if (s.passes (length stack) (omega (arith, length_push stack x))) in
        omega (arith, s.count, c, now_is, e, length_push stack x));
  }
    where
      more : (i : ℕ) → i < length stack → i < length (stack ++ x ∷ [])
      more i k = omega (arith, k, length_push stack x)

      top : x < length states
      top = omega (arith, s.below (length stack) (omega (arith, length_push stack x)), snoc-last stack x)

      other : (i : ℕ) → i < length stack → get_or stack i 0 ≢ x
      other i k e = s.apart i (length stack) k (omega (arith, length_push stack x)) (snoc stack x i k ∙ e ∙ sym (snoc-last stack x))

-- an entry that did not pass, and passes now or not
pub stack-free : {A : Type 0} (d : A) (test : A → Bool) (states : List A) (stack : List ℕ) → IsStack d test states stack → (x : ℕ) (new : A) → x < length states
    → test (get_or states x d) ≡ false → (enters : Bool) → enters ≡ test new → IsStack d test (set states x new) (cond enters (stack ++ x ∷ []) stack)
stack-free d test states stack s x new h was true is = stack-push d test states stack s x new h was (sym is)
stack-free d test states stack s x new h was false is = stack-keep d test states stack s x new h (sym is ∙ sym was)

-- an entry that passes now, and did before or not
pub stack-enter : {A : Type 0} (d : A) (test : A → Bool) (states : List A) (stack : List ℕ) → IsStack d test states stack → (x : ℕ) (new : A) → x < length states
    → test new ≡ true → (was : Bool) → was ≡ test (get_or states x d) → IsStack d test (set states x new) (cond (not was) (stack ++ x ∷ []) stack)
stack-enter d test states stack s x new h is true was = stack-keep d test states stack s x new h (is ∙ was)
stack-enter d test states stack s x new h is false was = stack-push d test states stack s x new h (sym was) is

-- an entry that passes now if it did before
pub stack-settle : {A : Type 0} (d : A) (test : A → Bool) (states : List A) (stack : List ℕ) → IsStack d test states stack → (x : ℕ) (new : A) → x < length states
    → (is was : Bool) → is ≡ test new → was ≡ test (get_or states x d) → (was ≡ true → is ≡ true)
    → IsStack d test (set states x new) (cond (is && not was) (stack ++ x ∷ []) stack)
stack-settle d test states stack s x new h true true is was keeps = stack-keep d test states stack s x new h (sym is ∙ was)
stack-settle d test states stack s x new h true false is was keeps = stack-push d test states stack s x new h (sym was) (sym is)
stack-settle d test states stack s x new h false true is was keeps = absurd (true≢false (sym (keeps refl)))
stack-settle d test states stack s x new h false false is was keeps = stack-keep d test states stack s x new h (sym is ∙ was)

-- while an entry does not pass, the stack is shorter than the states
pub stack-room : {A : Type 0} (d : A) (test : A → Bool) (states : List A) (stack : List ℕ) → IsStack d test states stack → (x : ℕ) (new : A) → x < length states
    → test (get_or states x d) ≡ false → test new ≡ true → length stack < length states
stack-room {A} d test states stack s x new h was is =
    let c = count_by-set test states x new d h in
    let now_is : one_if (test new) ≡ 1 = ap one_if is in
    let e : one_if (test (get_or states x d)) ≡ 0 = ap one_if was in
    omega (arith, s.count, c, now_is, e, count_by-le-length test (set states x new), length-set {A = A} states x new)

-- the last of a stack is an entry that passes
pub stack-top : {A : Type 0} (d : A) (test : A → Bool) (states : List A) (stack : List ℕ) (x : ℕ) → IsStack d test states (stack ++ x ∷ []) → (x < length states) × (test (get_or states x d) ≡ true)
stack-top d test states stack x s =
    let at = snoc-last stack x in
    let last : length stack < length (stack ++ x ∷ []) = omega (arith, length_push stack x) in
    (omega (arith, s.below (length stack) last, at), ap (λ y. test (get_or states y d)) (sym at) ∙ s.passes (length stack) last)

-- a stack is no longer than the states
pub stack-le : {A : Type 0} (d : A) (test : A → Bool) (states : List A) (stack : List ℕ) → IsStack d test states stack → length stack ≤ length states
stack-le d test states stack s = omega (arith, s.count, count_by-le-length test states)

-- where none passes
pub count-none : {A : Type 0} (d : A) (test : A → Bool) (xs : List A) → test d ≡ false → count_by test xs ≡ 0 → (i : ℕ) → test (get_or xs i d) ≡ false
count-none d test [] out none i = out
count-none {A} d test (x ∷ xs) out none i = at (λ rest. count-none d test xs out rest) i
  where
    both : one_if (test x) + count_by test xs ≡ 0
    both = sym (sum_by-cons (λ y. cond (test y) 1 0) x xs) ∙ none

    fails : (t : Bool) → test x ≡ t → one_if t + count_by test xs ≡ 0 → test x ≡ false
    fails true e z = absurd (omega (arith, z))
    fails false e z = e

    at : (count_by test xs ≡ 0 → (i : ℕ) → test (get_or xs i d) ≡ false) → (i : ℕ) → test (get_or (x ∷ xs) i d) ≡ false
    at later zero = fails (test x) refl both
    at later (suc i) = later (omega (arith, both)) i

-- one that passes counts
pub count-some : {A : Type 0} (d : A) (test : A → Bool) (xs : List A) (i : ℕ) → i < length xs → test (get_or xs i d) ≡ true → 0 < count_by test xs
count-some d test [] i below is = absurd (omega (arith, below))
count-some d test (x ∷ xs) zero below is = (let now : one_if (test x) ≡ 1 = ap one_if is in omega (arith, now, sum_by-cons (λ y. cond (test y) 1 0) x xs))
count-some d test (x ∷ xs) (suc i) below is = (let later = count-some d test xs i (omega (arith, below)) is in omega (arith, later, sum_by-cons (λ y. cond (test y) 1 0) x xs))
