-- The documents of a word, from its lowest bit up.
use Rattle.std.proofs.Common.{◌≡◌, ◌≢◌, ℕ, ◌+◌, ◌*◌, ◌/◌, ◌%◌, ◌<◌, ◌-◌, ◌^◌, Bool, true, false, ◌&&◌, ◌||◌, List, [], ◌∷◌, ◌++◌, nat_eq, w64, refl, sym, ap, ap₂, ◌∙◌, arith}
use Rattle.std.proofs.lemmas.Bool.{eqb-true, eqb-false, eq-eqb, ne_eqb}
use Rattle.std.proofs.lemmas.Nat.{and_le_l}
use Rattle.std.proofs.lemmas.Nat.Bits.{bit_at-trailing_zeros, bit_at-zero, bit_at_clear_same, bit_at_clear_other}
use Rattle.std.specs.Int.{bit_at, trailing_zeros}
use Rattle.index_model.proofs.BitLemmas.{by_cases}
use Rattle.index_model.proofs.WordLemmas.{without}
use Rattle.index_model.specs.Sets.{has}
use Rattle.query_eval.proofs.VectorLemmas.{has_append}
use Rattle.query_eval.specs.Blocks.{in_word}

-- no bit is left
pub no_document : (place doc : ℕ) → in_word place 0 doc ≡ false
no_document place doc =
    ap (λ b. nat_eq (doc / 64) place && nat_eq b 1) (bit_at-zero (doc % 64)) ∙ and_false (nat_eq (doc / 64) place)
  where
    and_false : (b : Bool) → (b && false) ≡ false
    and_false true = refl
    and_false false = refl

module _ (place left : ℕ) (some : left ≢ 0) (fits : left < 18446744073709551616) where
  abbrev bit : ℕ
  bit = trailing_zeros w64 left

  facts : (trailing_zeros w64 left < 64) × (bit_at left (trailing_zeros w64 left) ≡ 1)
      × ((i : ℕ) → i < trailing_zeros w64 left → bit_at left i ≡ 0)
  facts = bit_at-trailing_zeros w64 left (omega (arith, some)) fits

  pub below_64 : trailing_zeros w64 left < 64
  below_64 = facts.0

  pub there : (doc : ℕ) → doc ≡ place * 64 + trailing_zeros w64 left → in_word place left doc ≡ true
  there doc is =
      let at : doc / 64 ≡ place = omega (arith, is, facts.0) in
      let own : doc % 64 ≡ trailing_zeros w64 left = omega (arith, is, facts.0) in
      ap₂ (λ a b. a && nat_eq (bit_at left b) 1) (eq-eqb (doc / 64) place at) own ∙ ap (λ b. nat_eq b 1) facts.1

  pub less : without left (trailing_zeros w64 left) < left
  less =
      let le = and_le_l left (18446744073709551615 - 1 * 2 ^ trailing_zeros w64 left % 18446744073709551616) in
      by_cases (nat_eq (without left (trailing_zeros w64 left)) left)
      (λ same.
      let lost : 0 ≡ 1 = sym (bit_at_clear_same w64 left (trailing_zeros w64 left) facts.0) ∙ ap (λ w. bit_at w (trailing_zeros w64 left)) (eqb-true _ left same) ∙ facts.1 in
      absurd (omega (arith, lost)))
      (λ other. let ne = eqb-false (without left (trailing_zeros w64 left)) left other in omega (arith, le, ne))

  -- the lowest bit, and the others
  pub first_and_rest : (x doc : ℕ) → x ≡ place * 64 + trailing_zeros w64 left
      → in_word place left doc ≡ (nat_eq doc x || in_word place (without left (trailing_zeros w64 left)) doc)
  first_and_rest x doc is = by_cases (nat_eq (doc / 64) place)
      (λ yes.
      let at : doc / 64 ≡ place = eqb-true (doc / 64) place yes in
      by_cases (nat_eq (doc % 64) (trailing_zeros w64 left))
      (λ same.
      let own : doc % 64 ≡ trailing_zeros w64 left = eqb-true (doc % 64) (trailing_zeros w64 left) same in
      let here : doc ≡ x = omega (arith, is, at, own) in
      there doc (here ∙ is) ∙ sym (ap (λ b. b || in_word place (without left (trailing_zeros w64 left)) doc) (eq-eqb doc x here)))
      (λ other.
      let ne : doc % 64 ≢ trailing_zeros w64 left = eqb-false (doc % 64) (trailing_zeros w64 left) other in
      let apart : doc ≢ x = λ e. ne (omega (arith, e, is, facts.0)) in
      sym (ap (λ b. b || in_word place (without left (trailing_zeros w64 left)) doc) (ne_eqb doc x apart)
      ∙ ap (λ b. nat_eq (doc / 64) place && nat_eq b 1) (bit_at_clear_other w64 left (trailing_zeros w64 left) facts.0 (doc % 64) (omega arith) ne))))
      (λ no.
      let apart : doc / 64 ≢ place = eqb-false (doc / 64) place no in
      let ne : doc ≢ x = λ e. apart (omega (arith, e, is, facts.0)) in
      ap (λ b. b && nat_eq (bit_at left (doc % 64)) 1) no
      ∙ sym (ap₂ (λ a b. a || (b && nat_eq (bit_at (without left (trailing_zeros w64 left)) (doc % 64)) 1)) (ne_eqb doc x ne) no))

  pub others : (x doc : ℕ) → x ≡ place * 64 + trailing_zeros w64 left
      → in_word place (without left (trailing_zeros w64 left)) doc ≡ true → in_word place left doc ≡ true
  others x doc is there = first_and_rest x doc is ∙ ap (λ b. nat_eq doc x || b) there ∙ or_true (nat_eq doc x)
    where
      or_true : (b : Bool) → (b || true) ≡ true
      or_true true = refl
      or_true false = refl

  pub one_document : (docs next : List ℕ) (x doc : ℕ) → x ≡ place * 64 + trailing_zeros w64 left → next ≡ docs ++ x ∷ []
      → (has next doc || in_word place (without left (trailing_zeros w64 left)) doc) ≡ (has docs doc || in_word place left doc)
  one_document docs next x doc is new =
      ap (λ ds. has ds doc || in_word place (without left (trailing_zeros w64 left)) doc) new
      ∙ ap (λ b. b || in_word place (without left (trailing_zeros w64 left)) doc) (has_append docs (x ∷ []) doc)
      ∙ joined (has docs doc) (nat_eq doc x) (in_word place (without left (trailing_zeros w64 left)) doc)
      ∙ ap (λ b. has docs doc || b) (sym (first_and_rest x doc is))
    where
      joined : (a b c : Bool) → ((a || (b || false)) || c) ≡ (a || (b || c))
      joined true b c = refl
      joined false true c = refl
      joined false false c = refl
