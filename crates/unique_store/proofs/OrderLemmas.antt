-- The order of texts by their words.
use Rattle.std.proofs.Common.{◌≡◌, ℕ, zero, suc, true, false, true≢false, ◌+◌, ◌*◌, ◌/◌, ◌^◌, min, ◌<◌, ◌≤◌, List, [], ◌∷◌, ◌++◌, length, get_or, take, drop, replicate, refl, sym, ap, subst, ◌∙◌, ◌⊎◌, inl, inr, arith}
use Rattle.std.proofs.Common.{length-drop}
use Rattle.std.proofs.lemmas.Bool.{cases_lt}
use Rattle.std.proofs.lemmas.List.{drop-drop, get_or-take, get_or-drop}
use Rattle.std.proofs.lemmas.Nat.{row_fits}
use Rattle.std.proofs.Math.Nat.{pow-suc}
use Rattle.std.specs.Cmp.{ranks, nat_cmp_is}
use Rattle.std.specs.Cmp.Lexicographic.{slice_cmp}
use Rattle.std.specs.Int.{from_be_bytes, w64}
use Rattle.std.specs.Ordering.{MatchOrdering, is_ne, nat_cmp, ordering_then}
use Rattle.std.specs.declared.cmp.Ordering.{Ordering}
use Rattle.std.specs.declared.cmp.Ordering.TheVariants.{Less, Equal, Greater}
use Rattle.list_lemmas.proofs.Places.{get_or-append_zeros}

-- numbers in the same order
same_rank : (x y u v : ℕ) → (x < y → u < v) → (x ≡ y → u ≡ v) → (y < x → v < u) → nat_cmp u v ≡ nat_cmp x y
same_rank x y u v less same more = sym (nat_cmp_is u v (nat_cmp x y) (by (nat_cmp x y) (ranks x y)))
  where
    by : (o : Ordering) → MatchOrdering o (x < y) (x ≡ y) (y < x) → MatchOrdering o (u < v) (u ≡ v) (v < u)
    by Less h = less h
    by Equal h = same h
    by Greater h = more h

cmp_less : (x y : ℕ) → x < y → nat_cmp x y ≡ Less
cmp_less x y h = sym (nat_cmp_is x y Less h)

cmp_greater : (x y : ℕ) → y < x → nat_cmp x y ≡ Greater
cmp_greater x y h = sym (nat_cmp_is x y Greater h)

cmp_suc : (x y : ℕ) → nat_cmp (suc x) (suc y) ≡ nat_cmp x y
cmp_suc x y = same_rank x y (suc x) (suc y) (λ h. omega arith) (λ e. ap suc e) (λ h. omega arith)

then_assoc : (a b c : Ordering) → ordering_then (ordering_then a b) c ≡ ordering_then a (ordering_then b c)
then_assoc Less b c = refl
then_assoc Equal b c = refl
then_assoc Greater b c = refl

-- the first digit decides, and else the others do
digit : (a b r s p : ℕ) → r < p → s < p → nat_cmp (a * p + r) (b * p + s) ≡ ordering_then (nat_cmp a b) (nat_cmp r s)
digit a b r s p low under = by (nat_cmp a b) (ranks a b)
  where
    by : (o : Ordering) → MatchOrdering o (a < b) (a ≡ b) (b < a) → nat_cmp (a * p + r) (b * p + s) ≡ ordering_then o (nat_cmp r s)
    by Less h = cmp_less (a * p + r) (b * p + s) (let row = row_fits a p b p h (omega arith) in omega arith)
    by Equal e =
        let front : a * p ≡ b * p = ap (λ x. x * p) e in
        same_rank r s (a * p + r) (b * p + s) (λ h. omega arith) (λ h. omega arith) (λ h. omega arith)
    by Greater h = cmp_greater (a * p + r) (b * p + s) (let row = row_fits b p a p h (omega arith) in omega arith)

-- the first bytes as digits, with zeros where there are fewer
abbrev big : ℕ → List ℕ → ℕ
big zero xs = 0
big (suc k) [] = 0
big (suc k) (x ∷ xs) = x * 256 ^ k + big k xs

big_nil : (k : ℕ) → big k [] ≡ 0
big_nil zero = refl
big_nil (suc k) = refl

big_below : (k : ℕ) (xs : List ℕ) → ((i : ℕ) → get_or xs i 0 < 256) → big k xs < 256 ^ k
big_below zero xs small = omega arith
big_below (suc k) [] small = let power = pow-suc 256 k in let below = big_below k [] small in omega arith
big_below (suc k) (x ∷ xs) small =
    let below = big_below k xs (λ i. small (suc i)) in
    let row = row_fits x (256 ^ k) 256 (256 ^ k) (small 0) (omega arith) in
    let power = pow-suc 256 k in
    omega arith

big_at : (k i : ℕ) (xs : List ℕ) → big (suc k) (drop i xs) ≡ get_or xs i 0 * 256 ^ k + big k (drop (suc i) xs)
big_at k zero [] = omega (arith, big_nil k)
big_at k zero (x ∷ xs) = refl
big_at k (suc i) [] = omega (arith, big_nil k)
big_at k (suc i) (x ∷ xs) = big_at k i xs

-- the word of the first eight bytes
word_big : (xs : List ℕ) → from_be_bytes w64 (take 8 (xs ++ replicate 8 0)) ≡ big 8 xs
word_big xs =
    omega (
      arith,
      big_at 7 0 xs,
      big_at 6 1 xs,
      big_at 5 2 xs,
      big_at 4 3 xs,
      big_at 3 4 xs,
      big_at 2 5 xs,
      big_at 1 6 xs,
      big_at 0 7 xs,
      read 0 (omega arith),
      read 1 (omega arith),
      read 2 (omega arith),
      read 3 (omega arith),
      read 4 (omega arith),
      read 5 (omega arith),
      read 6 (omega arith),
      read 7 (omega arith),
    )
  where
    read : (i : ℕ) → i < 8 → get_or (take 8 (xs ++ replicate 8 0)) i 0 ≡ get_or xs i 0
    read i low = get_or-take 8 (xs ++ replicate 8 0) i 0 low ∙ get_or-append_zeros xs 8 i

-- a text that is at its end, beside another
end_less : (zs : List ℕ) (v : ℕ) (o : Ordering) → o ≡ Less → ordering_then (nat_cmp 0 v) (ordering_then (slice_cmp nat_cmp [] zs) o) ≡ Less
end_less zs v o is = by (nat_cmp 0 v) (ranks 0 v) zs
  where
    by : (r : Ordering) → MatchOrdering r (0 < v) (0 ≡ v) (v < 0) → (zs : List ℕ) → ordering_then r (ordering_then (slice_cmp nat_cmp [] zs) o) ≡ Less
    by Less h zs = refl
    by Equal h [] = is
    by Equal h (z ∷ zs) = refl
    by Greater h zs = absurd (omega arith)

end_greater : (zs : List ℕ) (v : ℕ) (o : Ordering) → o ≡ Greater → ordering_then (nat_cmp v 0) (ordering_then (slice_cmp nat_cmp zs []) o) ≡ Greater
end_greater zs v o is = by (nat_cmp v 0) (ranks v 0) zs
  where
    by : (r : Ordering) → MatchOrdering r (v < 0) (v ≡ 0) (0 < v) → (zs : List ℕ) → ordering_then r (ordering_then (slice_cmp nat_cmp zs []) o) ≡ Greater
    by Less h zs = absurd (omega arith)
    by Equal h [] = is
    by Equal h (z ∷ zs) = refl
    by Greater h zs = refl

-- texts, and where they are equal their lengths
abbrev pub order : List ℕ → List ℕ → Ordering → Ordering
order xs ys o = ordering_then (slice_cmp nat_cmp xs ys) o

abbrev pub by_length : List ℕ → List ℕ → Ordering
by_length xs ys = nat_cmp (length xs) (length ys)

-- the first bytes decide, and else those behind them do, and else the lengths
order_step : (k : ℕ) (xs ys : List ℕ) → ((i : ℕ) → get_or xs i 0 < 256) → ((i : ℕ) → get_or ys i 0 < 256)
    → ordering_then (nat_cmp (big k xs) (big k ys)) (order (drop k xs) (drop k ys) (by_length xs ys)) ≡ order xs ys (by_length xs ys)
order_step zero xs ys small bytes = refl
order_step (suc k) [] [] small bytes = refl
order_step (suc k) [] (y ∷ ys) small bytes = end_less (drop k ys) (big (suc k) (y ∷ ys)) (nat_cmp 0 (suc (length ys))) (cmp_less 0 (suc (length ys)) (omega arith))
order_step (suc k) (x ∷ xs) [] small bytes = end_greater (drop k xs) (big (suc k) (x ∷ xs)) (nat_cmp (suc (length xs)) 0) (cmp_greater (suc (length xs)) 0 (omega arith))
order_step (suc k) (x ∷ xs) (y ∷ ys) small bytes =
    let behind : Ordering = slice_cmp nat_cmp (drop k xs) (drop k ys) in
    let sizes = cmp_suc (length xs) (length ys) in
    ap (λ o. ordering_then o (ordering_then behind (nat_cmp (suc (length xs)) (suc (length ys)))))
    (digit x y (big k xs) (big k ys) (256 ^ k) (big_below k xs (λ i. small (suc i))) (big_below k ys (λ i. bytes (suc i))))
    ∙ ap (λ o. ordering_then (ordering_then (nat_cmp x y) (nat_cmp (big k xs) (big k ys))) (ordering_then behind o)) sizes
    ∙ then_assoc (nat_cmp x y) (nat_cmp (big k xs) (big k ys)) (ordering_then behind (by_length xs ys))
    ∙ ap (ordering_then (nat_cmp x y)) (order_step k xs ys (λ i. small (suc i)) (λ i. bytes (suc i)))
    ∙ sym (then_assoc (nat_cmp x y) (slice_cmp nat_cmp xs ys) (by_length xs ys))
    ∙ ap (λ o. ordering_then (ordering_then (nat_cmp x y) (slice_cmp nat_cmp xs ys)) o) (sym sizes)

-- equal texts have equal lengths
pub order_begins : (xs ys : List ℕ) → order xs ys (by_length xs ys) ≡ slice_cmp nat_cmp xs ys
order_begins [] [] = refl
order_begins [] (y ∷ ys) = refl
order_begins (x ∷ xs) [] = refl
order_begins (x ∷ xs) (y ∷ ys) =
    then_assoc (nat_cmp x y) (slice_cmp nat_cmp xs ys) (nat_cmp (suc (length xs)) (suc (length ys)))
    ∙ ap (ordering_then (nat_cmp x y)) (ap (ordering_then (slice_cmp nat_cmp xs ys)) (cmp_suc (length xs) (length ys)) ∙ order_begins xs ys)

-- where one is at its end the lengths decide
order_ends : (n : ℕ) (xs ys : List ℕ) → (length xs ≤ n) ⊎ (length ys ≤ n) → order (drop n xs) (drop n ys) (by_length xs ys) ≡ by_length xs ys
order_ends zero [] [] past = refl
order_ends zero [] (y ∷ ys) past = sym (cmp_less 0 (suc (length ys)) (omega arith))
order_ends zero (x ∷ xs) [] past = sym (cmp_greater (suc (length xs)) 0 (omega arith))
order_ends zero (x ∷ xs) (y ∷ ys) (inl past) = absurd (omega arith)
order_ends zero (x ∷ xs) (y ∷ ys) (inr past) = absurd (omega arith)
order_ends (suc n) [] [] past = refl
order_ends (suc n) [] (y ∷ ys) past =
    let less = cmp_less 0 (suc (length ys)) (omega arith) in
    end_less (drop n ys) 0 (nat_cmp 0 (suc (length ys))) less ∙ sym less
order_ends (suc n) (x ∷ xs) [] past =
    let more = cmp_greater (suc (length xs)) 0 (omega arith) in
    end_greater (drop n xs) 0 (nat_cmp (suc (length xs)) 0) more ∙ sym more
order_ends (suc n) (x ∷ xs) (y ∷ ys) past =
    ap (order (drop n xs) (drop n ys)) (cmp_suc (length xs) (length ys))
    ∙ order_ends n xs ys (fewer past)
    ∙ sym (cmp_suc (length xs) (length ys))
  where
    fewer : (suc (length xs) ≤ suc n) ⊎ (suc (length ys) ≤ suc n) → (length xs ≤ n) ⊎ (length ys ≤ n)
    fewer (inl h) = inl (omega arith)
    fewer (inr h) = inr (omega arith)

-- first words that differ decide
pub first_differs : (text bytes : List ℕ) → ((i : ℕ) → get_or text i 0 < 256) → ((i : ℕ) → get_or bytes i 0 < 256) → (word other : ℕ)
    → word ≡ from_be_bytes w64 (take 8 (text ++ replicate 8 0)) → other ≡ from_be_bytes w64 (take 8 (bytes ++ replicate 8 0))
    → (o : Ordering) → o ≡ nat_cmp word other → is_ne o ≡ true → o ≡ slice_cmp nat_cmp text bytes
first_differs text bytes small given word other word_is other_is o is ne = by o is ne
  where
    behind : Ordering
    behind = order (drop 8 text) (drop 8 bytes) (by_length text bytes)

    all : ordering_then (nat_cmp word other) behind ≡ slice_cmp nat_cmp text bytes
    all =
        ap (λ w. ordering_then (nat_cmp w other) behind) (word_is ∙ word_big text)
        ∙ ap (λ w. ordering_then (nat_cmp (big 8 text) w) behind) (other_is ∙ word_big bytes)
        ∙ order_step 8 text bytes small given
        ∙ order_begins text bytes

    by : (o : Ordering) → o ≡ nat_cmp word other → is_ne o ≡ true → o ≡ slice_cmp nat_cmp text bytes
    by Less is ne = ap (λ r. ordering_then r behind) is ∙ all
    by Equal is ne = absurd (true≢false (sym ne))
    by Greater is ne = ap (λ r. ordering_then r behind) is ∙ all

-- a loop over words: those before place n are equal
module _ (text bytes : List ℕ) (small : (i : ℕ) → get_or text i 0 < 256) (given : (i : ℕ) → get_or bytes i 0 < 256) (n : ℕ) where
  small_behind : (xs : List ℕ) → ((i : ℕ) → get_or xs i 0 < 256) → (i : ℕ) → get_or (drop n xs) i 0 < 256
  small_behind xs few i = subst (λ b. b < 256) (sym (get_or-drop n xs i 0)) (few (n + i))

  behind_lengths : n < length text → n < length bytes → by_length (drop n text) (drop n bytes) ≡ by_length text bytes
  behind_lengths low under =
      let one = length-drop n text in
      let other = length-drop n bytes in
      same_rank (length text) (length bytes) (length (drop n text)) (length (drop n bytes)) (λ h. omega arith) (λ h. omega arith) (λ h. omega arith)

  module _ (word other : ℕ) (word_is : word ≡ from_be_bytes w64 (take 8 (drop n text ++ replicate 8 0)))
      (other_is : other ≡ from_be_bytes w64 (take 8 (drop n bytes ++ replicate 8 0))) (low : n < length text) (under : n < length bytes)
      (so_far : order (drop n text) (drop n bytes) (by_length text bytes) ≡ slice_cmp nat_cmp text bytes) where
    step : ordering_then (nat_cmp word other) (order (drop (n + 8) text) (drop (n + 8) bytes) (by_length text bytes)) ≡ slice_cmp nat_cmp text bytes
    step =
        ap (λ o. ordering_then o (order (drop (n + 8) text) (drop (n + 8) bytes) (by_length text bytes)))
        (ap (λ w. nat_cmp w other) (word_is ∙ word_big (drop n text)) ∙ ap (nat_cmp (big 8 (drop n text))) (other_is ∙ word_big (drop n bytes)))
        ∙ ap (λ xs. ordering_then (nat_cmp (big 8 (drop n text)) (big 8 (drop n bytes))) (order xs (drop (n + 8) bytes) (by_length text bytes))) (sym (drop-drop 8 n text))
        ∙ ap (λ ys. ordering_then (nat_cmp (big 8 (drop n text)) (big 8 (drop n bytes))) (order (drop 8 (drop n text)) ys (by_length text bytes))) (sym (drop-drop 8 n bytes))
        ∙ ap (λ o. ordering_then (nat_cmp (big 8 (drop n text)) (big 8 (drop n bytes))) (order (drop 8 (drop n text)) (drop 8 (drop n bytes)) o)) (sym (behind_lengths low under))
        ∙ order_step 8 (drop n text) (drop n bytes) (small_behind text small) (small_behind bytes given)
        ∙ ap (order (drop n text) (drop n bytes)) (behind_lengths low under)
        ∙ so_far

    -- words that differ decide
    pub differs : (o : Ordering) → o ≡ nat_cmp word other → is_ne o ≡ true → o ≡ slice_cmp nat_cmp text bytes
    differs Less is ne = ap (λ r. ordering_then r (order (drop (n + 8) text) (drop (n + 8) bytes) (by_length text bytes))) is ∙ step
    differs Equal is ne = absurd (true≢false (sym ne))
    differs Greater is ne = ap (λ r. ordering_then r (order (drop (n + 8) text) (drop (n + 8) bytes) (by_length text bytes))) is ∙ step

    pub goes_on : (o : Ordering) → o ≡ nat_cmp word other → is_ne o ≡ false → order (drop (n + 8) text) (drop (n + 8) bytes) (by_length text bytes) ≡ slice_cmp nat_cmp text bytes
    goes_on Less is same = absurd (true≢false same)
    goes_on Equal is same = ap (λ r. ordering_then r (order (drop (n + 8) text) (drop (n + 8) bytes) (by_length text bytes))) is ∙ step
    goes_on Greater is same = absurd (true≢false same)

  pub ends : (length text ≤ n) ⊎ (length bytes ≤ n) → order (drop n text) (drop n bytes) (by_length text bytes) ≡ slice_cmp nat_cmp text bytes
      → by_length text bytes ≡ slice_cmp nat_cmp text bytes
  ends past so_far = sym (order_ends n text bytes past) ∙ so_far

-- past the words of the shorter of the two
pub past : (a b i : ℕ) → (min a b + 7) / 8 ≤ i → (a ≤ 8 * i) ⊎ (b ≤ 8 * i)
past a b i done = elim (cases_lt a b) [ inl less ↦ inl (omega arith) | inr more ↦ inr (omega arith) ]
