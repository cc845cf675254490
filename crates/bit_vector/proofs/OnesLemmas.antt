-- The number of documents of a block, word by word.
use Rattle.std.proofs.Common.{◌≡◌, ℕ, zero, suc, ◌+◌, ◌*◌, ◌/◌, ◌%◌, ◌^◌, ◌<◌, ◌≤◌, Bool, true, false, cond, List, ◌∷◌, length, filter, map, get_or, nat_eq, count_ones, refl, sym, ap, ap₂, subst, ◌∙◌, arith}
use lib.Count.{ones_step}
use Rattle.std.proofs.Math.Nat.{div-div-eq-div-mul}
use Rattle.std.proofs.Common.{pow-suc}
use Rattle.std.proofs.lemmas.List.{length-map}
use Rattle.std.proofs.lemmas.Nat.{ones_le_self}
use Rattle.std.specs.Int.{bit_at}
use Rattle.std.specs.List.{range_with_len}
use Rattle.image_format.specs.Postings.{block_documents}
use Rattle.index_model.proofs.BitLemmas.{bit_of}
use Rattle.index_model.specs.Sets.{in_words}

-- how many numbers pass
abbrev pub passing : (ℕ → Bool) → ℕ → ℕ → ℕ
passing test a n = length (filter test (range_with_len a n))

abbrev one : Bool → ℕ
one b = cond b 1 0

passing_first : (test : ℕ → Bool) (a n : ℕ) → passing test a (suc n) ≡ one (test a) + passing test (a + 1) n
passing_first test a n =
    elim (test a) as (λ b. length (cond b (a ∷ filter test (range_with_len (a + 1) n)) (filter test (range_with_len (a + 1) n))) ≡ one b + passing test (a + 1) n) [
      | true ↦ omega arith
      | false ↦ omega arith
    ]

pub passing_split : (test : ℕ → Bool) (a n k : ℕ) → passing test a (n + k) ≡ passing test a n + passing test (a + n) k
passing_split test a zero k = ap₂ (λ x y. passing test y x) (let e : 0 + k ≡ k = omega arith in e) (let e : a ≡ a + 0 = omega arith in e) ∙ (let e : passing test (a + 0) k ≡ 0 + passing test (a + 0) k = omega arith in e)
passing_split test a (suc n) k =
    ap (passing test a) (let e : suc n + k ≡ suc (n + k) = omega arith in e)
    ∙ passing_first test a (n + k)
    ∙ (let rest = passing_split test (a + 1) n k in
    let first = passing_first test a n in
    let place = ap (λ x. passing test x k) (let e : a + 1 + n ≡ a + suc n = omega arith in e) in
    omega (arith, rest, first, place))

passing_alike : (test other : ℕ → Bool) (a b n : ℕ) → ((i : ℕ) → i < n → test (a + i) ≡ other (b + i)) → passing test a n ≡ passing other b n
passing_alike test other a b zero same = refl
passing_alike test other a b (suc n) same =
    passing_first test a n
    ∙ ap₂ (λ x y. one x + y) (ap test (let e : a ≡ a + 0 = omega arith in e) ∙ same 0 (omega arith) ∙ ap other (let e : b + 0 ≡ b = omega arith in e))
    (passing_alike test other (a + 1) (b + 1) n (λ i low.
    ap test (let e : a + 1 + i ≡ a + suc i = omega arith in e) ∙ same (suc i) (omega (arith, low)) ∙ ap other (let e : b + suc i ≡ b + 1 + i = omega arith in e)))
    ∙ sym (passing_first other b n)

pub passing_few : (test : ℕ → Bool) (a n : ℕ) → passing test a n ≤ n
passing_few test a zero = omega arith
passing_few test a (suc n) =
    let rest = passing_few test (a + 1) n in
    let first = passing_first test a n in
    let small : one (test a) ≤ 1 = elim (test a) as (λ b. one b ≤ 1) [ true ↦ omega arith | false ↦ omega arith ] in
    omega (arith, rest, first, small)

-- the bits of a number
abbrev bit : ℕ → ℕ → Bool
bit w i = nat_eq (bit_at w i) 1

bit_one : (v : ℕ) → one (nat_eq (v % 2) 1) ≡ v % 2
bit_one v = told (v % 2) (omega arith)
  where
    told : (r : ℕ) → r < 2 → one (nat_eq r 1) ≡ r
    told zero low = refl
    told (suc zero) low = refl
    told (suc (suc r)) low = absurd (omega (arith, low))

bits_from : (w s n : ℕ) → w / 2 ^ s < 2 ^ n → passing (bit w) s n ≡ count_ones (w / 2 ^ s)
bits_from w s zero low = let few = ones_le_self (w / 2 ^ s) in omega (arith, low, few)
bits_from w s (suc n) low =
    let v : ℕ = w / 2 ^ s in
    let half : w / 2 ^ (s + 1) ≡ (w / 2 ^ s) / 2 =
    ap (λ x. w / x) (ap (λ k. 2 ^ k) (let e : s + 1 ≡ suc s = omega arith in e) ∙ pow-suc 2 s) ∙ sym (div-div-eq-div-mul w (2 ^ s) 2) in
    let power = pow-suc 2 n in
    let small : w / 2 ^ (s + 1) < 2 ^ n = subst (λ x. x < 2 ^ n) (sym half) (omega (arith, low, power)) in
    passing_first (bit w) s n
    ∙ ap₂ (λ x y. x + y) (bit_one (w / 2 ^ s)) (bits_from w (s + 1) n small ∙ ap count_ones half)
    ∙ sym (ones_step (w / 2 ^ s))

word_ones : (w : ℕ) → w < 18446744073709551616 → passing (bit w) 0 64 ≡ count_ones w
word_ones w low =
    let whole : w / 2 ^ 0 ≡ w = omega arith in
    bits_from w 0 64 (omega (arith, low, whole)) ∙ ap count_ones whole

-- a block
block_word : (ws : List ℕ) (j : ℕ) → get_or ws j 0 < 18446744073709551616 → passing (in_words ws) (64 * j) 64 ≡ count_ones (get_or ws j 0)
block_word ws j fits =
    passing_alike (in_words ws) (bit (get_or ws j 0)) (64 * j) 0 64
    (λ i low. bit_of ws j i low ∙ ap (bit (get_or ws j 0)) (let e : i ≡ 0 + i = omega arith in e))
    ∙ word_ones (get_or ws j 0) fits

pub one_word : (ws : List ℕ) (j before after : ℕ) → get_or ws j 0 < 18446744073709551616 → before ≡ passing (in_words ws) 0 (64 * j) → after ≡ before + count_ones (get_or ws j 0)
    → after ≡ passing (in_words ws) 0 (64 * (j + 1))
one_word ws j before after fits was is =
    let word = block_word ws j fits in
    let split = passing_split (in_words ws) 0 (64 * j) 64 in
    let place = ap (λ x. passing (in_words ws) x 64) (let e : 0 + 64 * j ≡ 64 * j = omega arith in e) in
    is ∙ (let e : before + count_ones (get_or ws j 0) ≡ passing (in_words ws) 0 (64 * j + 64) = omega (arith, was, word, split, place) in e)
    ∙ ap (passing (in_words ws) 0) (let e : 64 * j + 64 ≡ 64 * (j + 1) = omega arith in e)

pub ones_few : (ws : List ℕ) (n : ℕ) → passing (in_words ws) 0 n ≤ n
ones_few ws n = passing_few (in_words ws) 0 n

pub word_few : (ws : List ℕ) (j : ℕ) → get_or ws j 0 < 18446744073709551616 → count_ones (get_or ws j 0) ≤ 64
word_few ws j fits = let word = block_word ws j fits in let few = passing_few (in_words ws) (64 * j) 64 in omega (arith, word, few)

block_size : (n k : ℕ) (ws : List ℕ) → length (map (λ i. n * k + i) (filter (in_words ws) (range_with_len 0 n))) ≡ passing (in_words ws) 0 n
block_size n k ws = length-map (filter (in_words ws) (range_with_len 0 n)) (λ i. n * k + i)

pub block_count : (k : ℕ) (ws : List ℕ) → passing (in_words ws) 0 4096 ≡ length (block_documents k ws)
unfolding block_documents
block_count k ws = sym (block_size 4096 k ws)

pub passing_one : (test : ℕ → Bool) (a : ℕ) → passing test a 1 ≡ cond (test a) 1 0
passing_one test a =
    elim (test a) as (λ b. length (cond b (a ∷ filter test (range_with_len (a + 1) 0)) (filter test (range_with_len (a + 1) 0))) ≡ cond b 1 0) [
      | true ↦ refl
      | false ↦ refl
    ]
