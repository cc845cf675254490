-- The documents of a block: in order, and exactly those whose bit is 1.
use Rattle.std.proofs.Common.{◌≡◌, ℕ, zero, suc, ◌+◌, ◌*◌, ◌/◌, ◌%◌, ◌<◌, ◌≤◌, List, ◌∷◌, map, filter, refl, sym, ap, ap₂, subst, ◌∙◌, arith, Bool, true, false, cond, ◌&&◌, ◌||◌, ◌⊎◌, inl, inr}
use Rattle.std.specs.Prelude.{nat_eq}
use Rattle.std.proofs.lemmas.Bool.{ne_eqb, eq-eqb, eqb-true, eqb-false, cases_lt}
use Rattle.std.specs.List.{range_with_len, AllByRecursion}
use Rattle.image_format.specs.Postings.{block_documents}
use Rattle.image_format.specs.declared.TheConstants.{BLOCK_DOCUMENTS}
use Rattle.index_model.proofs.BitLemmas.{by_cases}
use Rattle.index_model.specs.Sets.{has, in_words, IsAscending}

-- those of `n` numbers from `s` on that pass, each as one from `a` on
module _ (t : ℕ → Bool) (a : ℕ) where
  all_above : (s n b : ℕ) → b < a + s → AllByRecursion (λ y. b < y) (map (λ i. a + i) (filter t (range_with_len s n)))
  all_above s zero b below = tt
  all_above s (suc n) b below =
      let rest = all_above (s + 1) n b (omega arith) in
      elim (t s) as (λ pass. AllByRecursion (λ y. b < y) (map (λ i. a + i) (cond pass (s ∷ filter t (range_with_len (s + 1) n)) (filter t (range_with_len (s + 1) n)))))
      [ true ↦ (below, rest) | false ↦ rest ]

  pub passing_ascend : (s n : ℕ) → IsAscending (map (λ i. a + i) (filter t (range_with_len s n)))
  passing_ascend s zero = tt
  passing_ascend s (suc n) =
      let rest = passing_ascend (s + 1) n in
      elim (t s) as (λ pass. IsAscending (map (λ i. a + i) (cond pass (s ∷ filter t (range_with_len (s + 1) n)) (filter t (range_with_len (s + 1) n)))))
      [ true ↦ (all_above (s + 1) n (a + s) (omega arith), rest) | false ↦ rest ]

  pub outside : (s n doc : ℕ) → ((i : ℕ) → s ≤ i → i < s + n → doc ≡ a + i → ⊥) → has (map (λ i. a + i) (filter t (range_with_len s n))) doc ≡ false
  outside s zero doc out = refl
  outside s (suc n) doc out =
      let rest = outside (s + 1) n doc (λ i low high same. out i (omega arith) (omega arith) same) in
      elim (t s) as (λ pass. has (map (λ i. a + i) (cond pass (s ∷ filter t (range_with_len (s + 1) n)) (filter t (range_with_len (s + 1) n)))) doc ≡ false)
      [ true ↦ ap₂ (λ x y. x || y) (ne_eqb doc (a + s) (out s (omega arith) (omega arith))) rest | false ↦ rest ]

  first_passes : (s n : ℕ) → has (map (λ i. a + i) (filter t (range_with_len s (suc n)))) (a + s) ≡ t s
  first_passes s n =
      elim (t s) as (λ pass. has (map (λ i. a + i) (cond pass (s ∷ filter t (range_with_len (s + 1) n)) (filter t (range_with_len (s + 1) n)))) (a + s) ≡ pass) [
        | true ↦ ap (λ x. x || has (map (λ i. a + i) (filter t (range_with_len (s + 1) n))) (a + s)) (eq-eqb (a + s) (a + s) refl)
        | false ↦ outside (s + 1) n (a + s) (λ i low high same. absurd (omega arith))
      ]

  pub inside : (s n i : ℕ) → s ≤ i → i < s + n → has (map (λ i. a + i) (filter t (range_with_len s n))) (a + i) ≡ t i
  inside s zero i low high = absurd (omega arith)
  inside s (suc n) i low high = by (cases_lt s i) (λ more. inside (s + 1) n i (omega arith) (omega arith))
    where
      by : (s < i) ⊎ (i ≤ s) → (s < i → has (map (λ i. a + i) (filter t (range_with_len (s + 1) n))) (a + i) ≡ t i)
          → has (map (λ i. a + i) (filter t (range_with_len s (suc n)))) (a + i) ≡ t i
      by (inr less) later = subst (λ j. has (map (λ i. a + i) (filter t (range_with_len s (suc n)))) (a + j) ≡ t j) (let same : s ≡ i = omega arith in same) (first_passes s n)
      by (inl more) later =
          elim (t s) as (λ pass. has (map (λ i. a + i) (cond pass (s ∷ filter t (range_with_len (s + 1) n)) (filter t (range_with_len (s + 1) n)))) (a + i) ≡ t i) [
            | true ↦ ap (λ x. x || has (map (λ i. a + i) (filter t (range_with_len (s + 1) n))) (a + i)) (ne_eqb (a + i) (a + s) (λ same. absurd (omega arith))) ∙ later more
            | false ↦ later more
          ]

has_bits : (n k doc : ℕ) (ws : List ℕ) → n ≡ 4096 → has (map (λ i. n * k + i) (filter (in_words ws) (range_with_len 0 n))) doc ≡ (nat_eq (doc / 4096) k && in_words ws (doc % 4096))
has_bits n k doc ws size = by_cases (nat_eq (doc / 4096) k)
    (λ yes.
    let block : doc / 4096 ≡ k = eqb-true (doc / 4096) k yes in
    let place : doc ≡ n * k + doc % 4096 = subst (λ w. doc ≡ w * k + doc % 4096) (sym size) (omega arith) in
    ap (has (map (λ i. n * k + i) (filter (in_words ws) (range_with_len 0 n)))) place
    ∙ inside (in_words ws) (n * k) 0 n (doc % 4096) (omega arith) (omega arith)
    ∙ sym (ap (λ b. b && in_words ws (doc % 4096)) yes))
    (λ not.
    outside (in_words ws) (n * k) 0 n doc
    (λ i low high same. eqb-false (doc / 4096) k not (let whole : doc ≡ 4096 * k + i = subst (λ w. doc ≡ w * k + i) size same in omega arith))
    ∙ sym (ap (λ b. b && in_words ws (doc % 4096)) not))

pub block_has_bits : (k doc : ℕ) (ws : List ℕ) → has (block_documents k ws) doc ≡ (nat_eq (doc / BLOCK_DOCUMENTS) k && in_words ws (doc % BLOCK_DOCUMENTS))
unfolding block_documents
block_has_bits k doc ws = has_bits BLOCK_DOCUMENTS k doc ws refl

pub block_ascends : (k : ℕ) (ws : List ℕ) → IsAscending (block_documents k ws)
unfolding block_documents
block_ascends k ws = passing_ascend (in_words ws) (BLOCK_DOCUMENTS * k) 0 BLOCK_DOCUMENTS
