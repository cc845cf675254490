-- The bits of words: one cleared, none set, and the first one that is set.
use Rattle.std.proofs.Common.{◌≡◌, ◌≢◌, ◌⊎◌, inl, inr, ℕ, zero, suc, ◌+◌, ◌-◌, ◌*◌, ◌/◌, ◌%◌, ◌^◌, ◌<◌, ◌≤◌, Bool, true, false, ◌&&◌, not, List, [], ◌∷◌, length, get_or, set, replicate, nat_eq, w64, refl, sym, ap, ◌∙◌, arith}
use Rattle.std.proofs.Math.Nat.{div-div-eq-div-mul, div-eq_of_lt, div-le_self}
use Rattle.std.proofs.lemmas.Bool.{eqb-true, eqb-false, eq-eqb, ne_eqb, cases_lt}
use Rattle.std.proofs.lemmas.Grind.{get_or-set_at}
use Rattle.std.proofs.lemmas.List.{get_or-set_other}
use Rattle.std.proofs.Common.{pow_mono}
use Rattle.std.proofs.lemmas.Nat.{pow-add}
use Rattle.std.proofs.lemmas.Nat.Bits.{bit_at_clear_same, bit_at_clear_other, bit_at-trailing_zeros, bit_at-zero}
use Rattle.std.specs.Int.{bit_at, trailing_zeros}
use Rattle.index_model.proofs.BitLemmas.{by_cases, bit_of, no_bits}
use Rattle.index_model.proofs.WordLemmas.{without}
use Rattle.index_model.specs.Sets.{in_words}
use Rattle.bit_vector.specs.Blocks.{HasBit, IsNextBit}
use Rattle.bit_vector.proofs.DocumentLemmas.{and_false}

and_true : (a : Bool) → a ≡ (a && true)
and_true true = refl
and_true false = refl

-- a bit cleared
pub clear_words : (words : List ℕ) (n other word : ℕ) → n / 64 < length words → word ≡ get_or words (n / 64) 0
    → in_words (set words (n / 64) (without word (n % 64))) other ≡ (in_words words other && not (nat_eq other n))
clear_words words n other word within is =
    let new : ℕ = without word (n % 64) in
    let small : n % 64 < 64 = omega arith in
    let bit : ℕ → ℕ → Bool = λ w k. nat_eq (bit_at w k) 1 in
    by_cases (nat_eq (other / 64) (n / 64))
    (λ same_place.
    let at : other / 64 ≡ n / 64 = eqb-true _ _ same_place in
    let here : get_or (set words (n / 64) new) (other / 64) 0 ≡ new = get_or-set_at words (n / 64) (other / 64) new 0 at within in
    by_cases (nat_eq (other % 64) (n % 64))
    (λ same_bit.
    let same : other % 64 ≡ n % 64 = eqb-true _ _ same_bit in
    let one : other ≡ n = omega arith in
    ap (λ w. bit w (other % 64)) here ∙ ap (λ k. bit new k) same
    ∙ ap (λ b. nat_eq b 1) (bit_at_clear_same w64 word (n % 64) small)
    ∙ sym (ap (λ b. in_words words other && not b) (eq-eqb other n one) ∙ and_false (in_words words other)))
    (λ other_bit.
    let apart : other % 64 ≢ n % 64 = eqb-false _ _ other_bit in
    let ne : nat_eq other n ≡ false = ne_eqb other n (λ e. apart (ap (λ x. x % 64) e)) in
    ap (λ w. bit w (other % 64)) here
    ∙ ap (λ b. nat_eq b 1) (bit_at_clear_other w64 word (n % 64) small (other % 64) (omega arith) apart)
    ∙ ap (λ w. bit w (other % 64)) (is ∙ ap (λ p. get_or words p 0) (sym at))
    ∙ and_true (in_words words other)
    ∙ ap (λ b. in_words words other && not b) (sym ne)))
    (λ other_place.
    let apart : other / 64 ≢ n / 64 = eqb-false _ _ other_place in
    let ne : nat_eq other n ≡ false = ne_eqb other n (λ e. apart (ap (λ x. x / 64) e)) in
    ap (λ w. bit w (other % 64)) (get_or-set_other words (n / 64) (other / 64) new 0 apart)
    ∙ and_true (in_words words other)
    ∙ ap (λ b. in_words words other && not b) (sym ne))

-- words of zeros
zero_at : (words : List ℕ) → ((j : ℕ) → j < length words → get_or words j 0 ≡ 0) → (j : ℕ) → get_or words j 0 ≡ 0
zero_at [] each j = refl
zero_at (w ∷ ws) each zero = each 0 (omega arith)
zero_at (w ∷ ws) each (suc j) = zero_at ws (λ i low. each (suc i) (omega (arith, low))) j

pub none_set : (words : List ℕ) → ((j : ℕ) → j < length words → get_or words j 0 ≡ 0) → (i : ℕ) → in_words words i ≡ false
none_set words each i = no_bits words i (zero_at words each (i / 64))

abbrev pub zeros : ℕ → List ℕ
zeros n = replicate n 0

pub zeros_at : (n i : ℕ) → get_or (zeros n) i 0 ≡ 0
zeros_at zero i = refl
zeros_at (suc n) zero = refl
zeros_at (suc n) (suc i) = zeros_at n i

pub zero_bits : (n i : ℕ) → in_words (zeros n) i ≡ false
zero_bits n i = no_bits (zeros n) i (zeros_at n (i / 64))

-- a word that is not zero has a bit
pub some_set : (words : List ℕ) (j : ℕ) → j < length words → get_or words j 0 ≢ 0 → get_or words j 0 < 18446744073709551616 → HasBit words
some_set words j below some fits =
    let facts = bit_at-trailing_zeros w64 (get_or words j 0) (omega (arith, some)) fits in
    record {
      bit = 64 * j + trailing_zeros w64 (get_or words j 0);
      within = let small = facts.0 in omega (arith, below, small);
      set = bit_of words j (trailing_zeros w64 (get_or words j 0)) facts.0 ∙ ap (λ b. nat_eq b 1) facts.1;
    }

-- a word without its lowest bits
pub bit_after : (w s t : ℕ) → bit_at (w / 2 ^ s) t ≡ bit_at w (s + t)
bit_after w s t = ap (λ x. x % 2) (div-div-eq-div-mul w (2 ^ s) (2 ^ t) ∙ ap (λ n. w / n) (sym (pow-add 2 s t)))

module _ (words : List ℕ) (i : ℕ) where
  abbrev word : ℕ
  word = get_or words (i / 64) 0

  -- bit j of the same word
  same_word : (j : ℕ) → i ≤ j → j / 64 ≡ i / 64 → in_words words j ≡ nat_eq (bit_at (word / 2 ^ (i % 64)) (j - i)) 1
  same_word j from at =
      let place : i % 64 + (j - i) ≡ j % 64 = omega (arith, from, at) in
      ap (λ p. nat_eq (bit_at (get_or words p 0) (j % 64)) 1) at
      ∙ ap (λ k. nat_eq (bit_at word k) 1) (sym place)
      ∙ ap (λ b. nat_eq b 1) (sym (bit_after word (i % 64) (j - i)))

  -- no bit is left in this word
  pub passes : word / 2 ^ (i % 64) ≡ 0 → (j : ℕ) → i ≤ j → j < (i / 64 + 1) * 64 → in_words words j ≡ false
  passes none j from below =
      same_word j from (omega (arith, from, below))
      ∙ ap (λ w. nat_eq (bit_at w (j - i)) 1) none ∙ ap (λ b. nat_eq b 1) (bit_at-zero (j - i))

  module _ (some : word / 2 ^ (i % 64) ≢ 0) (fits : word < 18446744073709551616) where
    abbrev left : ℕ
    left = word / 2 ^ (i % 64)

    left_fits : left < 18446744073709551616
    left_fits = let le : left ≤ word = div-le_self word (2 ^ (i % 64)) in omega (arith, le, fits)

    facts : (trailing_zeros w64 left < 64) × (bit_at left (trailing_zeros w64 left) ≡ 1) × ((k : ℕ) → k < trailing_zeros w64 left → bit_at left k ≡ 0)
    facts = bit_at-trailing_zeros w64 left (omega (arith, some)) left_fits

    -- it is in the same word
    pub within_word : i % 64 + trailing_zeros w64 left < 64
    within_word = told (cases_lt (i % 64 + trailing_zeros w64 left) 64)
      where
        told : (i % 64 + trailing_zeros w64 left < 64) ⊎ (64 ≤ i % 64 + trailing_zeros w64 left) → i % 64 + trailing_zeros w64 left < 64
        told (inl low) = low
        told (inr high) =
            let large : 2 ^ 64 ≤ 2 ^ (i % 64 + trailing_zeros w64 left) = pow_mono high in
            let none : word / 2 ^ (i % 64 + trailing_zeros w64 left) ≡ 0 = div-eq_of_lt (omega (arith, large, fits)) in
            let lost : 1 ≡ 0 = sym facts.1 ∙ bit_after word (i % 64) (trailing_zeros w64 left) ∙ ap (λ x. x % 2) none in
            absurd (omega (arith, lost))

    pub next_set : (bit from : ℕ) → bit ≡ i + trailing_zeros w64 left → from ≤ i → i < 4096 → ((j : ℕ) → from ≤ j → j < i → in_words words j ≡ false) → IsNextBit words from bit
    next_set bit from is low below before =
        let small = within_word in
        record {
          from_on = omega (arith, is, low);
          within = omega (arith, is, small, below);
          before = λ j least less. earlier j least less (cases_lt j i);
          set = λ inside.
              same_word bit (omega (arith, is)) (omega (arith, is, small))
              ∙ ap (λ k. nat_eq (bit_at left k) 1) (let e : bit - i ≡ trailing_zeros w64 left = omega (arith, is) in e)
              ∙ ap (λ b. nat_eq b 1) facts.1;
        }
      where
        earlier : (j : ℕ) → from ≤ j → j < bit → (j < i) ⊎ (i ≤ j) → in_words words j ≡ false
        earlier j least less (inl lower) = before j least lower
        earlier j least less (inr higher) =
            let small = within_word in
            let within : j - i < trailing_zeros w64 left = omega (arith, is, less, higher) in
            same_word j higher (omega (arith, is, small, less, higher))
            ∙ ap (λ b. nat_eq b 1) (facts.2 (j - i) within)

-- no bit is left at all
pub next_none : (words : List ℕ) (from i : ℕ) → from ≤ 4096 → 4096 ≤ i → ((j : ℕ) → from ≤ j → j < i → in_words words j ≡ false) → IsNextBit words from 4096
next_none words from i low end before = record {
  from_on = low;
  within = omega arith;
  before = λ j least less. before j least (omega (arith, less, end));
  set = λ inside. absurd (omega (arith, inside));
}

pub zero_more : (words : List ℕ) (i : ℕ) → ((j : ℕ) → j < i → get_or words j 0 ≡ 0) → get_or words i 0 ≡ 0 → (j : ℕ) → j < i + 1 → get_or words j 0 ≡ 0
zero_more words i each here j low = told (cases_lt j i)
  where
    told : (j < i) ⊎ (i ≤ j) → get_or words j 0 ≡ 0
    told (inl less) = each j less
    told (inr more) = ap (λ k. get_or words k 0) (let e : j ≡ i = omega (arith, low, more) in e) ∙ here

pub passes_more : (words : List ℕ) (i from : ℕ) → ((j : ℕ) → from ≤ j → j < i → in_words words j ≡ false) → get_or words (i / 64) 0 / 2 ^ (i % 64) ≡ 0
    → (j : ℕ) → from ≤ j → j < (i / 64 + 1) * 64 → in_words words j ≡ false
passes_more words i from before none j least low = told (cases_lt j i)
  where
    told : (j < i) ⊎ (i ≤ j) → in_words words j ≡ false
    told (inl less) = before j least less
    told (inr more) = passes words i none j more low
