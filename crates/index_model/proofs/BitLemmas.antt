-- The bits of a bit vector of documents.
use Rattle.std.proofs.Common.{◌≡◌, ◌≢◌, ◌⊎◌, inl, inr, ℕ, zero, suc, [], ◌∷◌, ◌+◌, ◌*◌, ◌/◌}
use Rattle.std.proofs.Common.{◌%◌, ◌^◌, ◌<◌, ◌≤◌, Bool, true, false, ◌||◌, ◌&&◌, List, length, min, ltb-true, ltb-false}
use Rattle.std.proofs.Common.{get_or, set, arith, refl, sym, ap, ◌∙◌, eq-eqb, nat_eq, nat_lt, bit_and, bit_or, w64}
use Rattle.std.proofs.lemmas.Bool.{eqb-true, eqb-false, ne_eqb, or_right}
use Rattle.std.proofs.lemmas.Grind.{get_or-set_at}
use Rattle.std.proofs.lemmas.List.{get_or-set_other, get_or_past}
use Rattle.std.proofs.lemmas.Nat.Bits.{bit_at_and, bit_at-lt, bit_at_set_same, bit_at_set_other, bit_at-zero}
use Rattle.std.specs.Int.{bit_at}
use Rattle.std.specs.List.{AllByRecursion}
use Rattle.index_model.specs.Sets.{in_words}

pub by_cases : {G : Type 0} (b : Bool) → (b ≡ true → G) → (b ≡ false → G) → G
by_cases true set unset = set refl
by_cases false set unset = unset refl

kept : (a b c : Bool) → a ≡ b → c ≡ false → a ≡ (b || c)
kept a true c is off = is
kept a false c is off = is ∙ sym off

-- a word of zeros has no document
pub no_bits : (words : List ℕ) (doc : ℕ) → get_or words (doc / 64) 0 ≡ 0 → in_words words doc ≡ false
no_bits words doc is = ap (λ w. nat_eq (bit_at w (doc % 64)) 1) is ∙ ap (λ b. nat_eq b 1) (bit_at-zero (doc % 64))

abbrev zero_or : (ℕ → ℕ → Type 0) → ℕ → Type 0
zero_or clones y = (y ≡ 0) ⊎ clones 0 y

one_zero : (clones : ℕ → ℕ → Type 0) → ((y : ℕ) → clones 0 y → y ≡ 0) → (w : ℕ) → zero_or clones w → w ≡ 0
one_zero clones same w (inl is) = is
one_zero clones same w (inr cloned) = same w cloned

all_zero : (clones : ℕ → ℕ → Type 0) → ((y : ℕ) → clones 0 y → y ≡ 0) → (words : List ℕ) (i : ℕ)
    → AllByRecursion (zero_or clones) words
    → get_or words i 0 ≡ 0
all_zero clones same [] i all = refl
all_zero clones same (w ∷ ws) zero all = one_zero clones same w all.0
all_zero clones same (w ∷ ws) (suc i) all = all_zero clones same ws i all.1

-- clones of 0 hold no document
pub zeros : (clones : ℕ → ℕ → Type 0) → ((y : ℕ) → clones 0 y → y ≡ 0) → (words : List ℕ) (doc : ℕ)
    → AllByRecursion (zero_or clones) words
    → in_words words doc ≡ false
zeros clones same words doc all = no_bits words doc (all_zero clones same words (doc / 64) all)

pub insert_words : (words : List ℕ) (n other word : ℕ) → n / 64 < length words → word ≡ get_or words (n / 64) 0
    → in_words (set words (n / 64) (bit_or word (1 * 2 ^ (n % 64) % 18446744073709551616))) other ≡ (in_words words other || nat_eq other n)
insert_words words n other word within is =
    let new : ℕ = bit_or word (1 * 2 ^ (n % 64) % 18446744073709551616) in
    let small : n % 64 < 64 = omega arith in
    let bit : ℕ → ℕ → Bool = λ w k. nat_eq (bit_at w k) 1 in
    by_cases (nat_eq (other / 64) (n / 64))
    (λ same_place.
    let at : other / 64 ≡ n / 64 = eqb-true _ _ same_place in
    let here : get_or (set words (n / 64) new) (other / 64) 0 ≡ new = get_or-set_at words (n / 64) (other / 64) new 0 at within in
    by_cases (nat_eq (other % 64) (n % 64))
    (λ same_bit.
    let same : other % 64 ≡ n % 64 = eqb-true _ _ same_bit in
    let one : other ≡ n = omega arith in
    ap (λ w. bit w (other % 64)) here ∙ ap (λ k. bit new k) same
    ∙ ap (λ b. nat_eq b 1) (bit_at_set_same w64 word (n % 64) small)
    ∙ sym (or_right (in_words words other) (nat_eq other n) (eq-eqb other n one)))
    (λ other_bit.
    let apart : other % 64 ≢ n % 64 = eqb-false _ _ other_bit in
    let ne : nat_eq other n ≡ false = ne_eqb other n (λ e. apart (ap (λ x. x % 64) e)) in
    kept _ (in_words words other) (nat_eq other n)
    (ap (λ w. bit w (other % 64)) here
    ∙ ap (λ b. nat_eq b 1) (bit_at_set_other w64 word (n % 64) small (other % 64) apart)
    ∙ ap (λ w. bit w (other % 64)) (is ∙ ap (λ p. get_or words p 0) (sym at)))
    ne))
    (λ other_place.
    let apart : other / 64 ≢ n / 64 = eqb-false _ _ other_place in
    let ne : nat_eq other n ≡ false = ne_eqb other n (λ e. apart (ap (λ x. x / 64) e)) in
    kept _ (in_words words other) (nat_eq other n)
    (ap (λ w. bit w (other % 64)) (get_or-set_other words (n / 64) (other / 64) new 0 apart)) ne)

one_each : (a b : ℕ) → a < 2 → b < 2 → nat_eq (min a b) 1 ≡ (nat_eq a 1 && nat_eq b 1)
one_each zero zero low few = refl
one_each zero (suc zero) low few = refl
one_each (suc zero) zero low few = refl
one_each (suc zero) (suc zero) low few = refl
one_each (suc (suc a)) b low few = absurd (omega (arith, low))
one_each a (suc (suc b)) low few = absurd (omega (arith, few))

-- the documents of words that are joined one by one
pub kept_words : (words other joined : List ℕ) (n doc : ℕ) → length joined ≡ length words → length joined ≤ n
    → ((i : ℕ) → i < n → get_or joined i 0 ≡ bit_and (get_or words i 0) (get_or other i 0))
    → in_words joined doc ≡ (in_words words doc && in_words other doc)
kept_words words other joined n doc same all is = by_cases (nat_lt (doc / 64) n)
    (λ within.
    let a : ℕ = get_or words (doc / 64) 0 in
    let b : ℕ = get_or other (doc / 64) 0 in
    ap (λ w. nat_eq (bit_at w (doc % 64)) 1) (is (doc / 64) (ltb-true (doc / 64) n within))
    ∙ ap (λ b. nat_eq b 1) (bit_at_and a b (doc % 64))
    ∙ one_each _ _ (bit_at-lt a (doc % 64)) (bit_at-lt b (doc % 64)))
    (λ past.
    let beyond : n ≤ doc / 64 = ltb-false (doc / 64) n past in
    let gone : in_words joined doc ≡ false = no_bits joined doc (get_or_past joined (doc / 64) 0 (omega (arith, all, beyond))) in
    let none : in_words words doc ≡ false = no_bits words doc (get_or_past words (doc / 64) 0 (omega (arith, same, all, beyond))) in
    gone ∙ sym (ap (λ b. b && in_words other doc) none))

pub bit_of : (words : List ℕ) (place bit : ℕ) → bit < 64
    → in_words words (64 * place + bit) ≡ nat_eq (bit_at (get_or words place 0) bit) 1
bit_of words place bit small =
    let at : (64 * place + bit) / 64 ≡ place = omega arith in
    let rest : (64 * place + bit) % 64 ≡ bit = omega arith in
    ap (λ p. nat_eq (bit_at (get_or words p 0) ((64 * place + bit) % 64)) 1) at
    ∙ ap (λ k. nat_eq (bit_at (get_or words place 0) k) 1) rest
