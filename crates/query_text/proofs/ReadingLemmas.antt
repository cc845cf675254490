-- Reading byte by byte.
use Rattle.std.proofs.Common.{◌≡◌, ◌<◌, ◌≤◌, ◌+◌, ◌-◌, ◌*◌, ℕ, List, [], ◌∷◌, ◌++◌, length, get_or, drop, take, Bool, true, false, Option, Some, None, refl, sym, ap, ap₂, ◌∙◌, cond, eqb, append_assoc, eq-eqb}
use Rattle.std.proofs.lemmas.List.{drop_all, take_rest}
use Rattle.std.proofs.lemmas.Bool.{ne_eqb}
use Rattle.list_lemmas.proofs.Places.{drop-read}
use Rattle.query_text.specs.Modes.{is_digit, capped}
use Rattle.query_text.specs.Reading.{digits_front, bytes_front, with_byte}

pub digits_front-more : (size : ℕ) (bytes : List ℕ) (i byte : ℕ) → i < length bytes → byte ≡ get_or bytes i 0 → is_digit byte ≡ true
    → digits_front size (drop i bytes) ≡ digits_front (capped (capped (size * 10) + (byte - 48))) (drop (i + 1) bytes)
unfolding digits_front
digits_front-more size bytes i byte h e digit =
    ap (digits_front size) (drop-read bytes i byte 0 h e)
    ∙ ap (λ b. cond b (digits_front (capped (capped (size * 10) + (byte - 48))) (drop (i + 1) bytes)) (size, byte ∷ drop (i + 1) bytes)) digit

pub digits_front-stop : (size : ℕ) (bytes : List ℕ) (i byte : ℕ) → i < length bytes → byte ≡ get_or bytes i 0 → is_digit byte ≡ false
    → digits_front size (drop i bytes) ≡ (size, take (length bytes - i) (drop i bytes))
unfolding digits_front
digits_front-stop size bytes i byte h e other =
    ap (digits_front size) (drop-read bytes i byte 0 h e)
    ∙ ap (λ b. cond b (digits_front (capped (capped (size * 10) + (byte - 48))) (drop (i + 1) bytes)) (size, byte ∷ drop (i + 1) bytes)) other
    ∙ ap (λ rest. (size, rest)) (sym (drop-read bytes i byte 0 h e) ∙ sym (take_rest bytes i))

pub digits_front-end : (size : ℕ) (bytes : List ℕ) (i : ℕ) → length bytes ≤ i → digits_front size (drop i bytes) ≡ (size, [])
unfolding digits_front
digits_front-end size bytes i h = ap (digits_front size) (drop_all i bytes h)

-- the bytes of a text
pub bytes_front-quote : (bytes : List ℕ) (i byte : ℕ) → i < length bytes → byte ≡ get_or bytes i 0 → byte ≡ 34
    → bytes_front false (drop i bytes) ≡ Some ([], drop (i + 1) bytes)
unfolding bytes_front
bytes_front-quote bytes i byte h e quote =
    ap (bytes_front false) (drop-read bytes i byte 0 h e)
    ∙ ap (λ b. cond b (Some ([], drop (i + 1) bytes))
    (cond (eqb byte 92) (bytes_front true (drop (i + 1) bytes)) (with_byte byte (bytes_front false (drop (i + 1) bytes))))) (eq-eqb byte 34 quote)

pub bytes_front-escape : (bytes : List ℕ) (i byte : ℕ) → i < length bytes → byte ≡ get_or bytes i 0 → (byte ≡ 34 → ⊥) → byte ≡ 92
    → bytes_front false (drop i bytes) ≡ bytes_front true (drop (i + 1) bytes)
unfolding bytes_front
bytes_front-escape bytes i byte h e other escape =
    ap (bytes_front false) (drop-read bytes i byte 0 h e)
    ∙ ap₂ (λ b c. cond b (Some ([], drop (i + 1) bytes))
    (cond c (bytes_front true (drop (i + 1) bytes)) (with_byte byte (bytes_front false (drop (i + 1) bytes))))) (ne_eqb byte 34 other) (eq-eqb byte 92 escape)

pub bytes_front-byte : (bytes : List ℕ) (i byte : ℕ) → i < length bytes → byte ≡ get_or bytes i 0 → (byte ≡ 34 → ⊥) → (byte ≡ 92 → ⊥)
    → bytes_front false (drop i bytes) ≡ with_byte byte (bytes_front false (drop (i + 1) bytes))
unfolding bytes_front
bytes_front-byte bytes i byte h e other plain =
    ap (bytes_front false) (drop-read bytes i byte 0 h e)
    ∙ ap₂ (λ b c. cond b (Some ([], drop (i + 1) bytes))
    (cond c (bytes_front true (drop (i + 1) bytes)) (with_byte byte (bytes_front false (drop (i + 1) bytes))))) (ne_eqb byte 34 other) (ne_eqb byte 92 plain)

pub bytes_front-escaped : (bytes : List ℕ) (i byte : ℕ) → i < length bytes → byte ≡ get_or bytes i 0
    → bytes_front true (drop i bytes) ≡ with_byte byte (bytes_front false (drop (i + 1) bytes))
unfolding bytes_front
bytes_front-escaped bytes i byte h e = ap (bytes_front true) (drop-read bytes i byte 0 h e)

pub bytes_front-end : (escaped : Bool) (bytes : List ℕ) (i : ℕ) → length bytes ≤ i → bytes_front escaped (drop i bytes) ≡ None
unfolding bytes_front
bytes_front-end false bytes i h = ap (bytes_front false) (drop_all i bytes h)
bytes_front-end true bytes i h = ap (bytes_front true) (drop_all i bytes h)

-- bytes that were read before
abbrev pub after_front : List ℕ → Option (List ℕ × List ℕ) → Option (List ℕ × List ℕ)
after_front front None = None
after_front front (Some found) = Some (front ++ found.0, found.1)

pub after_front-byte : (front : List ℕ) (byte : ℕ) (more : Option (List ℕ × List ℕ)) → after_front front (with_byte byte more) ≡ after_front (front ++ byte ∷ []) more
after_front-byte front byte None = refl
after_front-byte front byte (Some found) = ap (λ bytes. Some (bytes, found.1)) (sym (append_assoc front (byte ∷ []) found.0))
