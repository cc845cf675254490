-- A field that is read is the field that was written, and what was written is read again.
use Rattle.std.proofs.Common.{◌≡◌, ℕ, zero, suc, ◌+◌, ◌^◌, ◌<◌, ◌≤◌, Bool, true, false, cond, ltb, List, [], ◌∷◌, ◌++◌, length, take, drop, Option, Some, None, Result, Ok, Err, eqb, ℤ, FitsSigned, IsUtf8, refl}
use Rattle.std.proofs.Common.{sym, ap, subst, ◌∙◌, append_assoc, arith, inl, inr}
use Rattle.std.specs.Int.{Width, w8, w16, w32, w64, byte_len, from_be_bytes, to_be_bytes, cast_signed, cast_unsigned}
use Rattle.std.specs.List.{starts_with}
use Rattle.std.specs.Str.{is_utf8}
use Rattle.std.proofs.Math.Facts.{sfits_to_z, Fits-of_lt, Fits-of_z}
use Rattle.std.proofs.lemmas.Bool.{cases_lt, ltb-false, le-ltb}
use Rattle.std.proofs.lemmas.Bool.Decides.{Decides-eqb}
use Rattle.std.proofs.lemmas.Int.{of_z-to_z, to_z-of_z}
use Rattle.std.proofs.lemmas.List.{take_at, drop_at, take-append-drop, length-append, length-take, get_or-drop, get_or-take, get_or_past}
use Rattle.std.proofs.lemmas.Nat.{be_bytes_2, be_bytes_4, be_bytes_8, from_be_bytes-to_be_bytes_2, from_be_bytes-to_be_bytes_4, from_be_bytes-to_be_bytes_8}
use Rattle.std.proofs.lemmas.Slice.Eq.{starts_is}
use Rattle.std.proofs.lemmas.Str.{is_utf8-from_IsUtf8, IsUtf8-from_is_utf8}
use Rattle.list_lemmas.proofs.Options.{same_Some}
use Rattle.attr_types.specs.Lawful.{last_doc}
use Rattle.attr_types.specs.Value.{type_of as value_type_of}
use Rattle.attr_types.specs.declared.kind.Kind.{Kind}
use Rattle.attr_types.specs.declared.kind.Kind.TheVariants.{Single, Array, WeightedSet}
use Rattle.attr_types.specs.declared.kind.ValueType.{ValueType}
use Rattle.attr_types.specs.declared.kind.ValueType.TheVariants as types
use Rattle.attr_types.specs.declared.value.Value.{Value}
use Rattle.attr_types.specs.declared.value.Value.TheVariants as values
use Rattle.attr_saver.specs.Bytes.{magic, kind_byte, type_byte, value_bytes}
use Rattle.attr_saver.specs.Fields.{◌>>=◌, bad, or_bad, read_bytes, read_number, read_magic, kind_of, read_kind, type_by_byte, read_type, read_count}
use Rattle.attr_saver.specs.Fields.{read_long, read_text_len, read_text}
use Rattle.attr_saver.specs.Laws.{AreBytes}
use Rattle.attr_saver.specs.Lawful.{IsStorableValue}

AreBytes-drop : (n : ℕ) (bytes : List ℕ) → AreBytes bytes → AreBytes (drop n bytes)
AreBytes-drop n bytes h i = rw get_or-drop (h (n + i))

AreBytes-take : (n : ℕ) (bytes : List ℕ) → AreBytes bytes → AreBytes (take n bytes)
AreBytes-take n bytes h i =
    elim (cases_lt i n) [
      | inl lt ↦ rw (get_or-take n bytes i 0 lt) (h i)
      | inr le ↦ rw (get_or_past (take n bytes) i 0 (omega (arith, length-take n bytes))) (omega arith)
    ]

-- the value of a step that was not bad
pub bind_ok : {A B : Type 0} (r : Result A ℕ) (f : A → Result B ℕ) (y : B) → (r >>= f) ≡ Ok y → (x : A) × (r ≡ Ok x) × (f x ≡ Ok y)
bind_ok (Ok x) f y e = (x, refl, e)
bind_ok (Err left) f y e = absurd cc

abbrev done : {A : Type 0} → A → Result A ℕ
done x = Ok x

pub ok_is : {A : Type 0} (x y : A) → done x ≡ done y → x ≡ y
ok_is x y e = cc

-- a test that did not find the field bad, by the answer that would make it bad
pub unless_ok : {A : Type 0} (b : Bool) (left : ℕ) (x y : A) → cond b (Err left) (Ok x) ≡ done y → (b ≡ false) × (x ≡ y)
unless_ok true left x y e = absurd cc
unless_ok false left x y e = (refl, ok_is x y e)

pub where_ok : {A : Type 0} (b : Bool) (left : ℕ) (x y : A) → cond b (Ok x) (Err left) ≡ done y → (b ≡ true) × (x ≡ y)
where_ok true left x y e = (refl, ok_is x y e)
where_ok false left x y e = absurd cc

-- what a reader took from the front
pub record Takes (bytes text rest : List ℕ) : Type 0 where
  pub parts : bytes ≡ text ++ rest
  pub rest_fits : AreBytes rest

pub Takes-then : (a x b y c : List ℕ) → Takes a x b → Takes b y c → Takes a (x ++ y) c
Takes-then a x b y c p q = record { parts = p.parts ∙ ap (λ (t : List ℕ). x ++ t) q.parts ∙ sym (append_assoc x y c); rest_fits = q.rest_fits }

pub Takes-nothing : (bytes : List ℕ) → AreBytes bytes → Takes bytes [] bytes
Takes-nothing bytes fits = record { parts = refl; rest_fits = fits }

-- ---- bytes and numbers

pub bytes_take : (len : ℕ) (bytes text rest : List ℕ) → AreBytes bytes → read_bytes len bytes ≡ Ok (text, rest) → Takes bytes text rest × (length text ≡ len)
bytes_take len bytes text rest fits e =
    let g = unless_ok (ltb (length bytes) len) (length bytes) (take len bytes, drop len bytes) (text, rest) e in
    let long : len ≤ length bytes = ltb-false _ _ g.0 in
    let whole : Takes bytes (take len bytes) (drop len bytes) = record { parts = sym (take-append-drop len bytes); rest_fits = AreBytes-drop len bytes fits } in
    let size : length (take len bytes) ≡ len = omega (arith, length-take len bytes) in
    subst (λ (p : List ℕ × List ℕ). Takes bytes p.0 p.1 × (length p.0 ≡ len)) g.1 (whole, size)

pub bytes_again : (text rest : List ℕ) → read_bytes (length text) (text ++ rest) ≡ Ok (text, rest)
bytes_again text rest =
    let long : ltb (length (text ++ rest)) (length text) ≡ false = le-ltb _ _ (omega (arith, length-append text rest)) in
    rw (long, take_at text rest (length text) refl, drop_at text rest (length text) refl) refl

pub record IsWide (w : Width) (limit : ℕ) : Type 0 where
  pub len : (n : ℕ) → length (to_be_bytes w n) ≡ byte_len w
  pub back : (bytes : List ℕ) → length bytes ≡ byte_len w → AreBytes bytes → to_be_bytes w (from_be_bytes w bytes) ≡ bytes
  pub again : (n : ℕ) → n < limit → from_be_bytes w (to_be_bytes w n) ≡ n
  pub below : (bytes : List ℕ) → AreBytes bytes → from_be_bytes w bytes < limit

pub wide16 : IsWide w16 (2 ^ 16)
wide16 = record {
  len = λ n. refl;
  back = λ bytes len fits. be_bytes_2 bytes _ len fits refl;
  again = λ n lt. from_be_bytes-to_be_bytes_2 n lt;
  below = λ bytes fits. omega (arith, fits 0, fits 1);
}

pub wide32 : IsWide w32 (2 ^ 32)
wide32 = record {
  len = λ n. refl;
  back = λ bytes len fits. be_bytes_4 bytes _ len fits refl;
  again = λ n lt. from_be_bytes-to_be_bytes_4 n lt;
  below = λ bytes fits. omega (arith, fits 0, fits 1, fits 2, fits 3);
}

pub wide64 : IsWide w64 (2 ^ 64)
wide64 = record {
  len = λ n. refl;
  back = λ bytes len fits. be_bytes_8 bytes _ len fits refl;
  again = λ n lt. from_be_bytes-to_be_bytes_8 n lt;
  below = λ bytes fits. omega (arith, fits 0, fits 1, fits 2, fits 3, fits 4, fits 5, fits 6, fits 7);
}

pub number_takes : (w : Width) (limit : ℕ) (wide : IsWide w limit) (bytes : List ℕ) (x : ℕ × List ℕ) → AreBytes bytes → read_number w bytes ≡ Ok x → Takes bytes (to_be_bytes w x.0) x.1 × (x.0 < limit)
number_takes w limit wide bytes x fits e =
    let g = unless_ok (ltb (length bytes) (byte_len w)) (length bytes) (from_be_bytes w (take (byte_len w) bytes), drop (byte_len w) bytes) x e in
    let long : byte_len w ≤ length bytes = ltb-false _ _ g.0 in
    let front : to_be_bytes w (from_be_bytes w (take (byte_len w) bytes)) ≡ take (byte_len w) bytes =
    wide.back (take (byte_len w) bytes) (omega (arith, length-take (byte_len w) bytes)) (AreBytes-take (byte_len w) bytes fits) in
    let whole : Takes bytes (to_be_bytes w (from_be_bytes w (take (byte_len w) bytes))) (drop (byte_len w) bytes) =
    record { parts = rw front (sym (take-append-drop (byte_len w) bytes)); rest_fits = AreBytes-drop (byte_len w) bytes fits } in
    subst (λ (p : ℕ × List ℕ). Takes bytes (to_be_bytes w p.0) p.1 × (p.0 < limit)) g.1
    (whole, wide.below (take (byte_len w) bytes) (AreBytes-take (byte_len w) bytes fits))

pub number_again : (w : Width) (limit : ℕ) (wide : IsWide w limit) (n : ℕ) (rest : List ℕ) → n < limit → read_number w (to_be_bytes w n ++ rest) ≡ Ok (n, rest)
number_again w limit wide n rest lt =
    let len = wide.len n in
    let long : ltb (length (to_be_bytes w n ++ rest)) (byte_len w) ≡ false = le-ltb _ _ (omega (arith, length-append (to_be_bytes w n) rest)) in
    rw (long, take_at (to_be_bytes w n) rest (byte_len w) len, drop_at (to_be_bytes w n) rest (byte_len w) len, wide.again n lt) refl

-- a byte is itself
pub byte_is : (byte : ℕ) (rest : List ℕ) → read_number w8 (byte ∷ rest) ≡ Ok (byte, rest)
byte_is byte rest =
    let long : ltb (length (byte ∷ rest)) 1 ≡ false = le-ltb _ _ (omega arith) in
    rw long refl

-- ---- the fields in front of the documents

pub magic_takes : (bytes rest : List ℕ) → AreBytes bytes → read_magic bytes ≡ Ok rest → Takes bytes magic rest
magic_takes bytes rest fits e =
    let g = where_ok (starts_with eqb bytes magic) (length bytes) (drop 4 bytes) rest e in
    let parts : bytes ≡ magic ++ drop 4 bytes = (starts_is Decides-eqb bytes magic (starts_with eqb bytes magic) refl).0 g.0 in
    subst (λ (r : List ℕ). Takes bytes magic r) g.1 (record { parts = parts; rest_fits = AreBytes-drop 4 bytes fits })

pub magic_again : (rest : List ℕ) → read_magic (magic ++ rest) ≡ Ok rest
magic_again rest = refl

or_bad_ok : {A : Type 0} (bytes : List ℕ) (o : Option A) (rest : List ℕ) (x : A × List ℕ) → or_bad bytes o rest ≡ Ok x → (o ≡ Some x.0) × (rest ≡ x.1)
or_bad_ok bytes (Some a) rest x e =
    let is : (a, rest) ≡ x = ok_is (a, rest) x e in
    (λ i. Some (is i).0, λ i. (is i).1)
or_bad_ok bytes None rest x e = absurd cc

byte_takes : {A : Type 0} (of : ℕ → Option A) (byte_of : A → ℕ) (back : (byte : ℕ) (a : A) → of byte ≡ Some a → byte ≡ byte_of a)
    (bytes : List ℕ) (x : A × List ℕ) → AreBytes bytes → (read_number w8 bytes >>= λ byte. or_bad bytes (of byte.0) byte.1) ≡ Ok x → Takes bytes (byte_of x.0 ∷ []) x.1
byte_takes of byte_of back [] x fits e = absurd cc
byte_takes of byte_of back (byte ∷ rest) x fits e =
    let step : or_bad (byte ∷ rest) (of byte) rest ≡ Ok x = rw (byte_is byte rest) at e in
    let g = or_bad_ok (byte ∷ rest) (of byte) rest x step in
    record {
      parts = ap (λ (b : ℕ). b ∷ rest) (back byte x.0 g.0) ∙ ap (λ (r : List ℕ). byte_of x.0 ∷ r) g.1;
      rest_fits = subst AreBytes g.1 (λ i. fits (suc i));
    }

kind_byte_of : (byte : ℕ) (kind : Kind) → kind_of byte ≡ Some kind → byte ≡ kind_byte kind
kind_byte_of zero kind e = ap kind_byte (same_Some Single kind e)
kind_byte_of (suc zero) kind e = ap kind_byte (same_Some Array kind e)
kind_byte_of (suc (suc zero)) kind e = ap kind_byte (same_Some WeightedSet kind e)
kind_byte_of (suc (suc (suc byte))) kind e = absurd cc

pub kind_takes : (bytes : List ℕ) (x : Kind × List ℕ) → AreBytes bytes → read_kind bytes ≡ Ok x → Takes bytes (kind_byte x.0 ∷ []) x.1
unfolding read_kind
kind_takes bytes x fits e = byte_takes kind_of kind_byte kind_byte_of bytes x fits e

pub kind_again : (kind : Kind) (rest : List ℕ) → read_kind (kind_byte kind ∷ rest) ≡ Ok (kind, rest)
unfolding read_kind
kind_again Single rest = rw (byte_is 0 rest) refl
kind_again Array rest = rw (byte_is 1 rest) refl
kind_again WeightedSet rest = rw (byte_is 2 rest) refl

type_byte_of : (byte : ℕ) (type : ValueType) → type_by_byte byte ≡ Some type → byte ≡ type_byte type
type_byte_of zero type e = ap type_byte (same_Some types.Long type e)
type_byte_of (suc zero) type e = ap type_byte (same_Some types.Text type e)
type_byte_of (suc (suc byte)) type e = absurd cc

pub type_takes : (bytes : List ℕ) (x : ValueType × List ℕ) → AreBytes bytes → read_type bytes ≡ Ok x → Takes bytes (type_byte x.0 ∷ []) x.1
unfolding read_type
type_takes bytes x fits e = byte_takes type_by_byte type_byte type_byte_of bytes x fits e

pub type_again : (type : ValueType) (rest : List ℕ) → read_type (type_byte type ∷ rest) ≡ Ok (type, rest)
unfolding read_type
type_again types.Long rest = rw (byte_is 0 rest) refl
type_again types.Text rest = rw (byte_is 1 rest) refl

pub count_takes : (bytes : List ℕ) (x : ℕ × List ℕ) → AreBytes bytes → read_count bytes ≡ Ok x → Takes bytes (to_be_bytes w32 x.0) x.1 × (x.0 ≤ last_doc)
unfolding read_count
count_takes bytes x fits e =
    let a = bind_ok (read_number w32 bytes) (λ count. cond (ltb last_doc count.0) (bad bytes) (Ok count)) x e in
    let g = unless_ok (ltb last_doc a.0.0) (length bytes) a.0 x a.2 in
    let t = number_takes w32 (2 ^ 32) wide32 bytes a.0 fits a.1 in
    subst (λ (y : ℕ × List ℕ). Takes bytes (to_be_bytes w32 y.0) y.1 × (y.0 ≤ last_doc)) g.1 (t.0, ltb-false _ _ g.0)

pub count_again : (n : ℕ) (rest : List ℕ) → n ≤ last_doc → read_count (to_be_bytes w32 n ++ rest) ≡ Ok (n, rest)
unfolding read_count
count_again n rest le = rw (number_again w32 (2 ^ 32) wide32 n rest (omega (arith, le)), le-ltb last_doc n le) refl

-- ---- the fields of a value

pub long_takes : (bytes : List ℕ) (x : Value × List ℕ) → AreBytes bytes → read_long bytes ≡ Ok x
    → Takes bytes (value_bytes x.0) x.1 × IsStorableValue x.0 × (value_type_of x.0 ≡ types.Long)
unfolding read_long
long_takes bytes x fits e =
    let a = bind_ok (read_number w64 bytes) (λ number. Ok (values.Long (cast_signed w64 number.0), number.1)) x e in
    let t = number_takes w64 (2 ^ 64) wide64 bytes a.0 fits a.1 in
    let made : Value × List ℕ = (values.Long (cast_signed w64 a.0.0), a.0.1) in
    let whole : Takes bytes (to_be_bytes w64 (cast_unsigned w64 (cast_signed w64 a.0.0))) a.0.1 =
    subst (λ (n : ℕ). Takes bytes (to_be_bytes w64 n) a.0.1) (sym (of_z-to_z w64 a.0.0 t.1)) t.0 in
    subst (λ (y : Value × List ℕ). Takes bytes (value_bytes y.0) y.1 × IsStorableValue y.0 × (value_type_of y.0 ≡ types.Long))
    (ok_is made x a.2) (whole, sfits_to_z {w = w64} {n = a.0.0} (Fits-of_lt {w = w64} {n = a.0.0} t.1), refl)

pub long_again : (number : ℤ) (rest : List ℕ) → FitsSigned w64 number → read_long (value_bytes (values.Long number) ++ rest) ≡ Ok (values.Long number, rest)
unfolding read_long
long_again number rest fits =
    rw (number_again w64 (2 ^ 64) wide64 (cast_unsigned w64 number) rest (Fits-of_z {w = w64} {z = number} fits).fits, to_z-of_z w64 number fits) refl

pub text_len_takes : (bytes : List ℕ) (x : ℕ × List ℕ) → AreBytes bytes → read_text_len bytes ≡ Ok x → Takes bytes (to_be_bytes w16 x.0) x.1 × (x.0 ≤ 1024)
unfolding read_text_len
text_len_takes bytes x fits e =
    let a = bind_ok (read_number w16 bytes) (λ len. cond (ltb 1024 len.0) (bad bytes) (Ok len)) x e in
    let g = unless_ok (ltb 1024 a.0.0) (length bytes) a.0 x a.2 in
    let t = number_takes w16 (2 ^ 16) wide16 bytes a.0 fits a.1 in
    subst (λ (y : ℕ × List ℕ). Takes bytes (to_be_bytes w16 y.0) y.1 × (y.0 ≤ 1024)) g.1 (t.0, ltb-false _ _ g.0)

pub text_len_again : (n : ℕ) (rest : List ℕ) → n ≤ 1024 → read_text_len (to_be_bytes w16 n ++ rest) ≡ Ok (n, rest)
unfolding read_text_len
text_len_again n rest le = rw (number_again w16 (2 ^ 16) wide16 n rest (omega (arith, le)), le-ltb 1024 n le) refl

-- a text that was read
pub record TakesText (len : ℕ) (bytes : List ℕ) (x : Value × List ℕ) : Type 0 where
  pub text : List ℕ
  pub is : values.Text text ≡ x.0
  pub takes : Takes bytes text x.1
  pub len_is : length text ≡ len
  pub utf8 : IsUtf8 text

pub text_takes : (len : ℕ) (bytes : List ℕ) (x : Value × List ℕ) → AreBytes bytes → read_text len bytes ≡ Ok x → TakesText len bytes x
unfolding read_text
text_takes len bytes x fits e =
    let a = bind_ok (read_bytes len bytes) (λ text. cond (is_utf8 text.0) (Ok (values.Text text.0, text.1)) (bad bytes)) x e in
    let g = where_ok (is_utf8 a.0.0) (length bytes) (values.Text a.0.0, a.0.1) x a.2 in
    let t = bytes_take len bytes a.0.0 a.0.1 fits a.1 in
    subst (TakesText len bytes) g.1 (record { text = a.0.0; is = refl; takes = t.0; len_is = t.1; utf8 = IsUtf8-from_is_utf8 a.0.0 g.0 })

pub text_again : (text rest : List ℕ) → IsUtf8 text → read_text (length text) (text ++ rest) ≡ Ok (values.Text text, rest)
unfolding read_text
text_again text rest utf8 = rw (bytes_again text rest, is_utf8-from_IsUtf8 text utf8) refl
