-- A word's documents, from its lowest bit up.
use Rattle.std.proofs.Common.{◌≡◌, ◌≢◌, ℕ, ◌+◌, ◌*◌, ◌%◌, ◌^◌, ◌-◌, ◌<◌, ◌≤◌, true, false, List, ◌++◌, ◌∷◌, [], get_or}
use Rattle.std.proofs.Common.{arith, refl, sym, ap, ◌∙◌, subst, nat_eq, nat_lt, bit_and, w64, ltb-true, ltb-false}
use Rattle.std.proofs.lemmas.Bool.{eqb-true, eqb-false}
use Rattle.std.proofs.lemmas.Nat.Bits.{bit_at-trailing_zeros, bit_at_clear_same, bit_at_clear_other, bit_at-zero}
use Rattle.std.specs.Int.{bit_at, trailing_zeros}
use Rattle.index_model.proofs.BitLemmas.{by_cases, bit_of}
use Rattle.index_model.proofs.DocLemmas.{skip, pushed}
use Rattle.index_model.specs.Sets.{in_words, HoldsBelow}

-- the bits from the next on are left, those before it are listed
pub record Left (words : List ℕ) (place : ℕ) (docs : List ℕ) (left next : ℕ) : Type 0 where
  pub holds : HoldsBelow docs (64 * place + next) (in_words words)
  pub within : next ≤ 64
  pub cleared : (i : ℕ) → i < next → bit_at left i ≡ 0
  pub others : (i : ℕ) → next ≤ i → i < 64 → bit_at left i ≡ bit_at (get_or words place 0) i

abbrev pub without : ℕ → ℕ → ℕ
without left k = bit_and left (18446744073709551615 - 1 * 2 ^ k % 18446744073709551616)

module _ (words : List ℕ) (place : ℕ) (docs : List ℕ) (left next : ℕ) (known : Left words place docs left next) where
  -- between two places there are no documents
  to_place : (k : ℕ) → next ≤ k → k ≤ 64 → ((i : ℕ) → i < k → bit_at left i ≡ 0) → HoldsBelow docs (64 * place + k) (in_words words)
  to_place k from within none =
      skip docs (64 * place + next) (64 * place + k) (in_words words) (omega arith) known.holds
      (λ doc low high.
      let i : ℕ = doc - 64 * place in
      let is : doc ≡ 64 * place + i = omega arith in
      let off : bit_at (get_or words place 0) i ≡ 0 =
      sym (known.others i (omega arith) (omega arith)) ∙ none i (omega arith) in
      ap (in_words words) is ∙ bit_of words place i (omega arith) ∙ ap (λ b. nat_eq b 1) off)

  pub left_none : left ≡ 0 → HoldsBelow docs (64 * place + 64) (in_words words)
  left_none is = to_place 64 known.within (omega arith) (λ i lt. ap (λ w. bit_at w i) is ∙ bit_at-zero i)

  module _ (some : left ≢ 0) (fits : left < 18446744073709551616) where
    lowest : ℕ
    lowest = trailing_zeros w64 left

    facts : (trailing_zeros w64 left < 64) × (bit_at left (trailing_zeros w64 left) ≡ 1)
        × ((i : ℕ) → i < trailing_zeros w64 left → bit_at left i ≡ 0)
    facts = bit_at-trailing_zeros w64 left (omega (arith, some)) fits

    pub after_next : next ≤ trailing_zeros w64 left
    after_next = by_cases (nat_lt (trailing_zeros w64 left) next)
        (λ is. let lost : 1 ≡ 0 = sym facts.1 ∙ known.cleared (trailing_zeros w64 left) (ltb-true _ next is) in absurd (omega (arith, lost)))
        (λ is. ltb-false _ next is)

    pub below_64 : trailing_zeros w64 left < 64
    below_64 = facts.0

    there : in_words words (64 * place + trailing_zeros w64 left) ≡ true
    there = bit_of words place (trailing_zeros w64 left) facts.0
        ∙ ap (λ b. nat_eq b 1) (sym (known.others (trailing_zeros w64 left) after_next facts.0) ∙ facts.1)

    pub not_zero : in_words words 0 ≡ false → 1 ≤ place * 64 + trailing_zeros w64 left
    not_zero zero = by_cases (nat_eq (64 * place + trailing_zeros w64 left) 0)
        (λ is. let lost : true ≡ false = sym there ∙ ap (in_words words) (eqb-true _ 0 is) ∙ zero in cc)
        (λ is. let ne : 64 * place + trailing_zeros w64 left ≢ 0 = eqb-false _ 0 is in omega (arith, ne))

    pub left_less : (x : ℕ) → x ≡ 64 * place + trailing_zeros w64 left
        → Left words place (docs ++ x ∷ []) (without left (trailing_zeros w64 left)) (trailing_zeros w64 left + 1)
    left_less x is = record {
      holds = pushed docs x (64 * place + trailing_zeros w64 left) (64 * place + (trailing_zeros w64 left + 1)) (in_words words) is (omega arith)
          (to_place (trailing_zeros w64 left) after_next (omega (arith, facts.0)) facts.2) there;
      within = omega (arith, facts.0);
      cleared = λ i lt. by_cases (nat_eq i (trailing_zeros w64 left))
          (λ same. ap (bit_at (without left (trailing_zeros w64 left))) (eqb-true i _ same)
          ∙ bit_at_clear_same w64 left (trailing_zeros w64 left) facts.0)
          (λ other. let ne : i ≢ trailing_zeros w64 left = eqb-false i _ other in
          bit_at_clear_other w64 left (trailing_zeros w64 left) facts.0 i (omega (arith, facts.0)) ne ∙ facts.2 i (omega (arith, ne)));
      others = λ i from small.
          let ne : i ≢ trailing_zeros w64 left = λ e. omega (arith, e) in
          bit_at_clear_other w64 left (trailing_zeros w64 left) facts.0 i small ne ∙ known.others i (omega (arith, after_next)) small;
    }

pub left_all : (words docs : List ℕ) (place : ℕ) → HoldsBelow docs (64 * place) (in_words words)
    → Left words place docs (get_or words place 0) 0
left_all words docs place holds = record {
  holds = subst (λ n. HoldsBelow docs n (in_words words)) (let same : 64 * place ≡ 64 * place + 0 = omega arith in same) holds;
  within = omega arith;
  cleared = λ i lt. absurd (omega (arith, lt));
  others = λ i from small. refl;
}
