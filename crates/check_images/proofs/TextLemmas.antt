-- The words of a text.
use Rattle.std.proofs.Common.{◌≡◌, ℕ, suc, ◌+◌, ◌-◌, ◌<◌, ◌≤◌, min, List, [], ◌∷◌, ◌++◌, length, get_or, take, drop, replicate, sym, ap, ◌∙◌, arith, append_assoc, append-nil, length-take, length-append}
use Rattle.std.proofs.lemmas.List.{get_or-take}
use Rattle.std.proofs.lemmas.List.FromFn.{fill_by_all}
use Rattle.std.specs.Int.{from_be_bytes, w64}
use Rattle.list_lemmas.proofs.Places.{get_or-append_zeros}
use Rattle.image_format.specs.Values.{packed_bytes}

length-eight : (bytes : List ℕ) → length (take 8 (bytes ++ replicate 8 0)) ≡ 8
length-eight bytes = length-take 8 (bytes ++ replicate 8 0) ∙ enough
  where
    enough : min 8 (length (bytes ++ replicate 8 0)) ≡ 8
    enough = let long = length-append bytes (replicate 8 0) in omega arith

pub eight_is : (bytes eight : List ℕ) → length eight ≡ 8 → ((k : ℕ) → k < 8 → get_or eight k 0 ≡ get_or bytes k 0) → eight ≡ take 8 (bytes ++ replicate 8 0)
eight_is bytes eight size each =
    fill_by_all (λ k. get_or bytes k 0) eight 8 0 size each
    ∙ sym (fill_by_all (λ k. get_or bytes k 0) (take 8 (bytes ++ replicate 8 0)) 8 0 (length-eight bytes)
    (λ k low. get_or-take 8 (bytes ++ replicate 8 0) k 0 low ∙ get_or-append_zeros bytes 8 k))

-- one word more
pub pack_step : (words rest all : List ℕ) (n i word : ℕ) → i < n → word ≡ from_be_bytes w64 (take 8 (rest ++ replicate 8 0))
    → words ++ packed_bytes (n - i) rest ≡ all → (words ++ word ∷ []) ++ packed_bytes (n - (i + 1)) (drop 8 rest) ≡ all
pack_step words rest all n i word low is whole =
    let more : suc (n - (i + 1)) ≡ n - i = omega arith in
    append_assoc words (word ∷ []) (packed_bytes (n - (i + 1)) (drop 8 rest))
    ∙ ap (λ w. words ++ w ∷ packed_bytes (n - (i + 1)) (drop 8 rest)) is
    ∙ ap (λ k. words ++ packed_bytes k rest) more
    ∙ whole

pub pack_end : (words rest all : List ℕ) (n i : ℕ) → n ≤ i → words ++ packed_bytes (n - i) rest ≡ all → words ≡ all
pack_end words rest all n i past whole =
    let none : 0 ≡ n - i = omega arith in
    sym (append-nil words) ∙ ap (λ k. words ++ packed_bytes k rest) none ∙ whole
