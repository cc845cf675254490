-- Words that are joined in lanes, or one by one.
use Rattle.std.proofs.Common.{◌≡◌, ℕ, zero, suc, ◌+◌, ◌≤◌, ◌<◌, ◌/◌, ◌%◌, ◌&&◌, ◌||◌, List, [], ◌∷◌, length, take, get_or, nat_eq, bit_and, bit_or, min, max, refl, sym, ap, subst, ◌∙◌, arith}
use Rattle.std.proofs.lemmas.Nat.Bits.{bit_at_and, bit_at_or, bit_at-lt}
use Rattle.std.specs.Int.{bit_at}
use Rattle.std.specs.Simd.Lanes.{chunk, put_chunk, zip2}
use Rattle.index_model.specs.Sets.{in_words}
use Rattle.bit_vector.specs.Kernels.{joined_from}

module _ (f : ℕ → ℕ → ℕ) where
  first_lanes : (n : ℕ) (xs ys : List ℕ) → n ≤ length xs → length xs ≡ length ys
      → joined_from f n (put_chunk 0 xs (zip2 f (take n xs) (take n ys))) ys ≡ zip2 f xs ys
  first_lanes zero [] ys le same = refl
  first_lanes zero (x ∷ xs) ys le same = refl
  first_lanes (suc n) [] ys le same = absurd (omega (arith, le))
  first_lanes (suc n) (x ∷ xs) [] le same = absurd (omega (arith, same))
  first_lanes (suc n) (x ∷ xs) (y ∷ ys) le same = ap (λ l. f x y ∷ l) (first_lanes n xs ys (omega (arith, le)) (omega (arith, same)))

  -- some words more in lanes
  pub lanes_more : (at n next : ℕ) (xs ys : List ℕ) → next ≡ at + n → at + n ≤ length xs → length xs ≡ length ys
      → joined_from f next (put_chunk at xs (zip2 f (chunk at n xs) (chunk at n ys))) ys ≡ joined_from f at xs ys
  lanes_more zero n next xs ys is le same =
      let here : n ≡ next = omega (arith, is) in
      subst (λ k. joined_from f k (put_chunk 0 xs (zip2 f (take n xs) (take n ys))) ys ≡ zip2 f xs ys) here (first_lanes n xs ys (omega (arith, le)) same)
  lanes_more (suc at) n zero xs ys is le same = absurd (omega (arith, is))
  lanes_more (suc at) n (suc next) [] ys is le same = absurd (omega (arith, le))
  lanes_more (suc at) n (suc next) (x ∷ xs) [] is le same = absurd (omega (arith, same))
  lanes_more (suc at) n (suc next) (x ∷ xs) (y ∷ ys) is le same =
      ap (λ l. x ∷ l) (lanes_more at n next xs ys (omega (arith, is)) (omega (arith, le)) (omega (arith, same)))

  joined_at : f 0 0 ≡ 0 → (xs ys : List ℕ) → length xs ≡ length ys → (i : ℕ) → get_or (zip2 f xs ys) i 0 ≡ f (get_or xs i 0) (get_or ys i 0)
  joined_at zeros [] [] same i = sym zeros
  joined_at zeros [] (y ∷ ys) same i = absurd (omega (arith, same))
  joined_at zeros (x ∷ xs) [] same i = absurd (omega (arith, same))
  joined_at zeros (x ∷ xs) (y ∷ ys) same zero = refl
  joined_at zeros (x ∷ xs) (y ∷ ys) same (suc i) = joined_at zeros xs ys (omega (arith, same)) i

least_one : (a b : ℕ) → a < 2 → b < 2 → nat_eq (min a b) 1 ≡ (nat_eq a 1 && nat_eq b 1)
least_one zero zero low few = refl
least_one zero (suc zero) low few = refl
least_one (suc zero) zero low few = refl
least_one (suc zero) (suc zero) low few = refl
least_one (suc (suc a)) b low few = absurd (omega (arith, low))
least_one a (suc (suc b)) low few = absurd (omega (arith, few))

most_one : (a b : ℕ) → a < 2 → b < 2 → nat_eq (max a b) 1 ≡ (nat_eq a 1 || nat_eq b 1)
most_one zero zero low few = refl
most_one zero (suc zero) low few = refl
most_one (suc zero) zero low few = refl
most_one (suc zero) (suc zero) low few = refl
most_one (suc (suc a)) b low few = absurd (omega (arith, low))
most_one a (suc (suc b)) low few = absurd (omega (arith, few))

-- the bits of joined words
pub both_bits : (xs ys : List ℕ) → length xs ≡ length ys → (i : ℕ) → in_words (zip2 bit_and xs ys) i ≡ (in_words xs i && in_words ys i)
both_bits xs ys same i =
    ap (λ w. nat_eq (bit_at w (i % 64)) 1) (joined_at bit_and refl xs ys same (i / 64))
    ∙ ap (λ b. nat_eq b 1) (bit_at_and (get_or xs (i / 64) 0) (get_or ys (i / 64) 0) (i % 64))
    ∙ least_one _ _ (bit_at-lt (get_or xs (i / 64) 0) (i % 64)) (bit_at-lt (get_or ys (i / 64) 0) (i % 64))

pub either_bit : (xs ys : List ℕ) → length xs ≡ length ys → (i : ℕ) → in_words (zip2 bit_or xs ys) i ≡ (in_words xs i || in_words ys i)
either_bit xs ys same i =
    ap (λ w. nat_eq (bit_at w (i % 64)) 1) (joined_at bit_or refl xs ys same (i / 64))
    ∙ ap (λ b. nat_eq b 1) (bit_at_or (get_or xs (i / 64) 0) (get_or ys (i / 64) 0) (i % 64))
    ∙ most_one _ _ (bit_at-lt (get_or xs (i / 64) 0) (i % 64)) (bit_at-lt (get_or ys (i / 64) 0) (i % 64))
