-- Bytes in words.
use Rattle.std.proofs.Common.{◌≡◌, ℕ, zero, suc, ◌+◌, ◌-◌, ◌*◌, ◌<◌, ◌≤◌, List, [], ◌∷◌, ◌++◌, length, get_or, take, drop, replicate, refl, sym, ap, ◌∙◌, arith, append_assoc, append-nil, length-append}
use Rattle.std.proofs.lemmas.List.{take-append-le, take_all, drop-drop, drop-replicate}
use Rattle.std.specs.Int.{from_be_bytes, to_be_bytes, bytes_high_first, w64}
use Rattle.std.specs.List.{flat_map}
use Rattle.list_lemmas.proofs.Places.{get_or-take_each}
use Rattle.image_format.specs.Values.{packed_bytes}

-- the first eight of many, and of few with zeros behind them
pub eight_of_many : (bytes eight : List ℕ) → 8 ≤ length bytes → eight ≡ take 8 bytes → eight ≡ take 8 (bytes ++ replicate 8 0)
eight_of_many bytes eight enough is = is ∙ sym (take-append-le 8 bytes (replicate 8 0) enough)

take_filled : (k : ℕ) (bytes : List ℕ) (n : ℕ) → k ≤ length bytes + n → length bytes ≤ k → take k (bytes ++ replicate n 0) ≡ bytes ++ replicate (k - length bytes) 0
take_filled zero [] n enough few = refl
take_filled zero (b ∷ bytes) n enough few = absurd (omega arith)
take_filled (suc k) [] zero enough few = absurd (omega arith)
take_filled (suc k) [] (suc n) enough few =
    ap (λ xs. 0 ∷ xs) (take_filled k [] n (omega arith) (omega arith)) ∙ ap (λ j. replicate {A = ℕ} j 0) (let e : suc (k - 0) ≡ suc k - 0 = omega arith in e)
take_filled (suc k) (b ∷ bytes) n enough few =
    ap (λ xs. b ∷ xs) (take_filled k bytes n (omega arith) (omega arith))
    ∙ ap (λ j. b ∷ (bytes ++ replicate {A = ℕ} j 0)) (let e : k - length bytes ≡ suc k - suc (length bytes) = omega arith in e)

pub eight_of_few : (bytes : List ℕ) → length bytes < 8 → bytes ++ drop (length bytes) (replicate 8 0) ≡ take 8 (bytes ++ replicate 8 0)
eight_of_few bytes few =
    ap (λ xs. bytes ++ xs) (drop-replicate (length bytes) 8 0) ∙ sym (take_filled 8 bytes 8 (omega arith) (omega arith))

-- one word more
pub pack_step : (words now rest all : List ℕ) (n i word : ℕ) → length words ≡ n → i < n → word ≡ from_be_bytes w64 (take 8 (rest ++ replicate 8 0))
    → take (i + 1) now ≡ take i words ++ word ∷ []
    → take i words ++ packed_bytes (n - i) rest ≡ all → take (i + 1) now ++ packed_bytes (n - (i + 1)) (drop 8 rest) ≡ all
pack_step words now rest all n i word size low is put whole =
    let more : suc (n - (i + 1)) ≡ n - i = omega arith in
    ap (λ xs. xs ++ packed_bytes (n - (i + 1)) (drop 8 rest)) put
    ∙ append_assoc (take i words) (word ∷ []) (packed_bytes (n - (i + 1)) (drop 8 rest))
    ∙ ap (λ w. take i words ++ w ∷ packed_bytes (n - (i + 1)) (drop 8 rest)) is
    ∙ ap (λ k. take i words ++ packed_bytes k rest) more
    ∙ whole

pub pack_end : (words rest all : List ℕ) (n : ℕ) → length words ≡ n → take n words ++ packed_bytes (n - n) rest ≡ all → words ≡ all
pack_end words rest all n size whole =
    let none : 0 ≡ n - n = omega arith in
    sym (take_all n words (omega arith))
    ∙ sym (append-nil (take n words))
    ∙ ap (λ k. take n words ++ packed_bytes k rest) none
    ∙ whole

pub packed_size : (n : ℕ) (bytes : List ℕ) → length (packed_bytes n bytes) ≡ n
packed_size zero bytes = refl
packed_size (suc n) bytes = ap suc (packed_size n (drop 8 bytes))

-- word i of packed bytes
pub packed_at : (n i : ℕ) (bytes zeros : List ℕ) → i < n → get_or (packed_bytes n bytes ++ zeros) i 0 ≡ from_be_bytes w64 (take 8 (drop (8 * i) bytes ++ replicate 8 0))
packed_at zero i bytes zeros low = absurd (omega arith)
packed_at (suc n) zero bytes zeros low = refl
packed_at (suc n) (suc i) bytes zeros low =
    packed_at n i (drop 8 bytes) zeros (omega arith)
    ∙ ap (λ xs. from_be_bytes w64 (take 8 (xs ++ replicate 8 0)))
    (drop-drop (8 * i) 8 bytes ∙ ap (λ k. drop k bytes) (let e : 8 + 8 * i ≡ 8 * suc i = omega arith in e))

-- words are bytes
small_append : (xs ys : List ℕ) → ((i : ℕ) → get_or xs i 0 < 256) → ((i : ℕ) → get_or ys i 0 < 256) → (i : ℕ) → get_or (xs ++ ys) i 0 < 256
small_append [] ys small behind i = behind i
small_append (x ∷ xs) ys small behind zero = small 0
small_append (x ∷ xs) ys small behind (suc i) = small_append xs ys (λ j. small (suc j)) behind i

small_high : (k n i : ℕ) → get_or (bytes_high_first k n) i 0 < 256
small_high zero n i = omega arith
small_high (suc zero) n zero = omega arith
small_high (suc (suc k)) n zero = omega arith
small_high (suc k) n (suc i) = small_high k n i

small_words : (words : List ℕ) (i : ℕ) → get_or (flat_map (to_be_bytes w64) words) i 0 < 256
small_words [] i = omega arith
small_words (w ∷ words) i = small_append (to_be_bytes w64 w) (flat_map (to_be_bytes w64) words) (small_high 8 w) (small_words words) i

pub small_text : (k : ℕ) (words : List ℕ) (i : ℕ) → get_or (take k (flat_map (to_be_bytes w64) words)) i 0 < 256
small_text k words = get_or-take_each (λ b. b < 256) 0 (omega arith) k (flat_map (to_be_bytes w64) words) (small_words words)

-- so many words have eight times as many bytes
pub bytes_size : (words : List ℕ) → length (flat_map (to_be_bytes w64) words) ≡ 8 * length words
bytes_size [] = refl
bytes_size (w ∷ words) =
    let here = length-append (to_be_bytes w64 w) (flat_map (to_be_bytes w64) words) in
    let rest = bytes_size words in
    omega arith
