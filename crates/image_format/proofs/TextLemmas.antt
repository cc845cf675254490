-- The words of a value read as that value.
use Rattle.std.proofs.Common.{◌≡◌, ℕ, zero, suc, ◌+◌, ◌-◌, ◌*◌, ◌/◌, ◌<◌, ◌≤◌, min, ℤ, FitsSigned, List, [], ◌∷◌, ◌++◌, length, get_or, take, drop, replicate, refl, sym, ap, subst, ◌∙◌, arith, inl, inr, ◌⊎◌}
use Rattle.std.proofs.Common.{length-take, length-drop, length-append}
use Rattle.std.proofs.lemmas.Bool.{cases_lt}
use Rattle.std.proofs.lemmas.Int.{to_z-of_z}
use Rattle.std.proofs.lemmas.List.{take-append-drop, get_or-drop, take-append-le, take-take, take_at}
use Rattle.std.proofs.lemmas.Nat.{be_bytes_8}
use Rattle.std.specs.Int.{from_be_bytes, to_be_bytes, w64}
use Rattle.std.specs.List.{flat_map}
use Rattle.list_lemmas.proofs.Places.{get_or-take_each}
use Rattle.image_format.specs.Values.{packed_bytes, value_of, value_words}
use Rattle.image_format.specs.Words.{class_of, filled}
use Rattle.attr_types.specs.declared.kind.ValueType.TheVariants as types
use Rattle.attr_types.specs.declared.value.Value.TheVariants as values

-- the first eight bytes, with zeros where there are fewer
abbrev eight : List ℕ → List ℕ
eight bytes = take 8 (bytes ++ replicate 8 0)

length-eight : (bytes : List ℕ) → length (eight bytes) ≡ 8
length-eight bytes = length-take 8 (bytes ++ replicate 8 0) ∙ enough
  where
    enough : min 8 (length (bytes ++ replicate 8 0)) ≡ 8
    enough = let long = length-append bytes (replicate 8 0) in omega arith

-- the bytes with zeros behind them, and their first, are bytes
small-zeros : (bytes : List ℕ) (n : ℕ) → ((i : ℕ) → get_or bytes i 0 < 256) → (i : ℕ) → get_or (bytes ++ replicate n 0) i 0 < 256
small-zeros [] zero small i = omega arith
small-zeros [] (suc n) small zero = omega arith
small-zeros [] (suc n) small (suc i) = small-zeros [] n small i
small-zeros (b ∷ bytes) n small zero = small 0
small-zeros (b ∷ bytes) n small (suc i) = small-zeros bytes n (λ j. small (suc j)) i

-- more of two lists than the first has
take-more : (xs ys : List ℕ) (k n : ℕ) → k ≡ length xs + n → take k (xs ++ ys) ≡ xs ++ take n ys
take-more [] ys k n e = ap (λ j. take j ys) (let same : k ≡ n = omega arith in same)
take-more (x ∷ xs) ys zero n e = absurd (omega arith)
take-more (x ∷ xs) ys (suc k) n e = ap (λ zs. x ∷ zs) (take-more xs ys k n (omega arith))

-- eight bytes, and the rest of the text behind them
joined : (bytes rest : List ℕ) → take (length bytes - 8) rest ≡ drop 8 bytes → take (length bytes) (eight bytes ++ rest) ≡ bytes
joined bytes rest after = by (cases_lt 8 (length bytes))
  where
    by : (8 < length bytes) ⊎ (length bytes ≤ 8) → take (length bytes) (eight bytes ++ rest) ≡ bytes
    by (inr few) =
        take-append-le (length bytes) (eight bytes) rest (let size = length-eight bytes in omega arith)
        ∙ take-take (length bytes) 8 (bytes ++ replicate 8 0) few
        ∙ take_at bytes (replicate 8 0) (length bytes) refl
    by (inl many) =
        ap (λ xs. take (length bytes) (xs ++ rest)) (take-append-le 8 bytes (replicate 8 0) (omega arith))
        ∙ take-more (take 8 bytes) rest (length bytes) (length bytes - 8) (let size = length-take 8 bytes in omega arith)
        ∙ ap (λ xs. take 8 bytes ++ xs) after
        ∙ take-append-drop 8 bytes

-- the bytes of packed words are the text
unpacked_bytes : (n : ℕ) (bytes zeros : List ℕ) → ((i : ℕ) → get_or bytes i 0 < 256) → length bytes ≤ 8 * n
    → take (length bytes) (flat_map (to_be_bytes w64) (packed_bytes n bytes ++ zeros)) ≡ bytes
unpacked_bytes zero [] zeros small fits = refl
unpacked_bytes zero (b ∷ bytes) zeros small fits = absurd (omega arith)
unpacked_bytes (suc n) bytes zeros small fits =
    let rest : List ℕ = flat_map (to_be_bytes w64) (packed_bytes n (drop 8 bytes) ++ zeros) in
    let later : (i : ℕ) → get_or (drop 8 bytes) i 0 < 256 = λ i. subst (λ b. b < 256) (sym (get_or-drop 8 bytes i 0)) (small (8 + i)) in
    let fewer : length (drop 8 bytes) ≤ 8 * n = let size = length-drop 8 bytes in omega arith in
    let after : take (length bytes - 8) rest ≡ drop 8 bytes = ap (λ k. take k rest) (sym (length-drop 8 bytes)) ∙ unpacked_bytes n (drop 8 bytes) zeros later fewer in
    let chunk : to_be_bytes w64 (from_be_bytes w64 (eight bytes)) ≡ eight bytes =
    be_bytes_8 (eight bytes) (from_be_bytes w64 (eight bytes)) (length-eight bytes) (get_or-take_each (λ b. b < 256) 0 (omega arith) 8 (bytes ++ replicate 8 0) (small-zeros bytes 8 small)) refl in
    ap (λ xs. take (length bytes) (xs ++ rest)) chunk ∙ joined bytes rest after

pub text_reads : (bytes : List ℕ) → ((i : ℕ) → get_or bytes i 0 < 256) → value_of types.Text (filled (value_words (values.Text bytes))) ≡ values.Text bytes
text_reads bytes small =
    let fits : length bytes ≤ 8 * ((length bytes + 7) / 8) = omega arith in
    let words : List ℕ = length bytes ∷ packed_bytes ((length bytes + 7) / 8) bytes in
    ap values.Text (unpacked_bytes ((length bytes + 7) / 8) bytes (replicate (class_of (length words) - length words) 0) small fits)

pub long_reads : (number : ℤ) → FitsSigned w64 number → value_of types.Long (filled (value_words (values.Long number))) ≡ values.Long number
long_reads number fits = ap values.Long (to_z-of_z w64 number fits)
