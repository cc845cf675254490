-- A stack with two of its places in each other's place.
use Rattle.std.proofs.Common.{◌≡◌, ◌≢◌, ℕ, ◌<◌, Bool, List, length, get_or, sym, ap, subst, ◌∙◌, arith, inl, inr}
use Rattle.std.proofs.lemmas.Bool.{cases_lt, cases_eq}
use Rattle.entry_ledger.specs.Stacks.{IsStack}

module _ {A : Type 0} (d : A) (test : A → Bool) (states : List A) (stack later : List ℕ) (s : IsStack d test states stack) (long : length later ≡ length stack) (i j : ℕ)
    (i_in : i < length stack) (j_in : j < length stack) (at_i : get_or later i 0 ≡ get_or stack j 0) (at_j : get_or later j 0 ≡ get_or stack i 0)
    (others : (k : ℕ) → k ≢ i → k ≢ j → get_or later k 0 ≡ get_or stack k 0) where
  -- where a place stood before
  from : (k : ℕ) → k < length stack → (p : ℕ) × (p < length stack) × (get_or later k 0 ≡ get_or stack p 0)
  from k h = elim (cases_eq k i) [
    | inl e ↦ (j, j_in, ap (λ n. get_or later n 0) e ∙ at_i)
    | inr ne ↦ elim (cases_eq k j) [
      | inl e ↦ (i, i_in, ap (λ n. get_or later n 0) e ∙ at_j)
      | inr other ↦ (k, h, others k ne other)
    ]
  ]

  differ : (p q : ℕ) → p < length stack → q < length stack → p ≢ q → get_or stack p 0 ≢ get_or stack q 0
  differ p q p_in q_in ne = elim (cases_lt p q) [
    | inl less ↦ s.apart p q less q_in
    | inr more ↦ (λ e. s.apart q p (omega arith) p_in (sym e))
  ]

  apart_still : (p q : ℕ) → p < q → q < length stack → get_or later p 0 ≢ get_or later q 0
  apart_still p q before h e = elim (cases_eq p i) [
    | inl pi ↦ elim (cases_eq q j) [
      | inl qj ↦ differ j i j_in i_in (omega arith) (sym at_i ∙ ap (λ n. get_or later n 0) (sym pi) ∙ e ∙ ap (λ n. get_or later n 0) qj ∙ at_j)
      | inr qj ↦ differ j q j_in h (λ x. qj (sym x)) (sym at_i ∙ ap (λ n. get_or later n 0) (sym pi) ∙ e ∙ others q (omega arith) qj)
    ]
    | inr pi ↦ elim (cases_eq p j) [
      | inl pj ↦ elim (cases_eq q i) [
        | inl qi ↦ differ i j i_in j_in (omega arith) (sym at_j ∙ ap (λ n. get_or later n 0) (sym pj) ∙ e ∙ ap (λ n. get_or later n 0) qi ∙ at_i)
        | inr qi ↦ differ i q i_in h (λ x. qi (sym x)) (sym at_j ∙ ap (λ n. get_or later n 0) (sym pj) ∙ e ∙ others q qi (omega arith))
      ]
      | inr pj ↦ elim (cases_eq q i) [
        | inl qi ↦ differ p j (omega arith) j_in pj (sym (others p pi pj) ∙ e ∙ ap (λ n. get_or later n 0) qi ∙ at_i)
        | inr qi ↦ elim (cases_eq q j) [
          | inl qj ↦ differ p i (omega arith) i_in pi (sym (others p pi pj) ∙ e ∙ ap (λ n. get_or later n 0) qj ∙ at_j)
          | inr qj ↦ differ p q (omega arith) h (omega arith) (sym (others p pi pj) ∙ e ∙ others q qi qj)
        ]
      ]
    ]
  ]

  pub stack-swapped : IsStack d test states later
  stack-swapped = record {
    below = λ k h. let f = from k (omega arith) in subst (λ x. x < length states) (sym f.2) (s.below f.0 f.1);
    passes = λ k h. let f = from k (omega arith) in ap (λ x. test (get_or states x d)) f.2 ∙ s.passes f.0 f.1;
    apart = λ p q before h. apart_still p q before (omega arith);
    count = long ∙ s.count;
  }
