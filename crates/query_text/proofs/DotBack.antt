-- The parts of a dot product are read back.
use Rattle.std.proofs.Common.{◌≡◌, ◌<◌, ◌≤◌, ◌&&◌, ℕ, zero, suc, ℤ, pos, negsuc, List, [], ◌∷◌, ◌++◌, length, true, cond, nat_le, Option, Some, None, refl, ap, subst, ◌∙◌, append_assoc, codes, arith}
use Rattle.std.specs.Option.{unwrap_or}
use Rattle.std.specs.Str.{IsUtf8}
use Rattle.std.proofs.lemmas.Bool.{and_parts}
use Rattle.std.proofs.lemmas.Bool.Decides.{nat_tests}
use Rattle.std.proofs.lemmas.List.{length-append}
use Rattle.attr_types.specs.declared.value.Value.TheVariants as values
use Rattle.attr_types.specs.declared.part.Part.{Part}
use Rattle.query_text.specs.Grammar.{dot_product, number_text, value_text, part_text, parts_text, word_text, IsFormedName, is_in_range, fits_weight, parts_in_range}
use Rattle.query_text.specs.Reading.{◌>>=◌, after_byte, after_name, mark_front}
use Rattle.query_text.specs.Dot.{if_weight, part_front, with_part, part_listed, parts_front}
use Rattle.query_text.specs.Asks.{dot_front, parts_behind, parts_in}
use Rattle.query_text.proofs.ReadBack.{EndsValue, IsReadable, value_read, number_read, name_read, name_ends}
use Rattle.query_text.proofs.Utf8Lemmas.{cut, utf8_tail, value_readable}

weight_small : (z : ℤ) → fits_weight z ≡ true → is_in_range (values.Long z) ≡ true
weight_small (pos n) h = grind (arith, nat_tests)
weight_small (negsuc n) h = grind (arith, nat_tests)

weight_read : (z : ℤ) → fits_weight z ≡ true → if_weight z ≡ Some z
weight_read (pos n) h = ap (λ b. cond b (Some (pos n)) None) h
weight_read (negsuc n) h =
    let test : nat_le n 2147483647 ≡ true = grind (arith, nat_tests) in
    ap (λ b. cond (b && true) (Some (negsuc n)) None) test

-- a part that can be read
abbrev IsReadablePart : Part → Type 0
IsReadablePart part = IsReadable part.value × (fits_weight part.weight ≡ true)

part_read : (part : Part) (rest : List ℕ) → IsReadablePart part → EndsValue rest → part_front (part_text part ++ rest) ≡ Some (part, rest)
unfolding part_front
part_read part rest readable ends =
    let after = number_text part.weight ++ rest in
    let text : part_text part ++ rest ≡ value_text part.value ++ (58 ∷ after) = simp append_assoc in
    ap (λ t. part_front t) text
    ∙ ap (λ o. o >>= (λ value. after_byte 58 value.1 >>= (λ rest. Rattle.query_text.specs.Reading.number_front rest >>= (λ number. if_weight number.0 >>= (λ weight.
    Some (record { value = value.0; weight = weight }, number.1))))))
    (value_read part.value (58 ∷ after) readable.0 (refl, refl))
    ∙ ap (λ o. o >>= (λ number. if_weight number.0 >>= (λ weight. Some (record { value = part.value; weight = weight }, number.1))))
    (number_read part.weight rest (weight_small part.weight readable.1) ends)
    ∙ ap (λ o. o >>= (λ weight. Some (record { value = part.value; weight = weight }, rest))) (weight_read part.weight readable.1)

abbrev AreReadable : List Part → Type 0
AreReadable [] = Unit {0}
AreReadable (part ∷ parts) = IsReadablePart part × AreReadable parts

last_read : (part : Part) (n : ℕ) → IsReadablePart part → parts_front (suc n) (part_text part ++ codes ")") ≡ Some (part ∷ [])
unfolding parts_front mark_front
last_read part n readable = ap (λ o. part_listed o (parts_front n)) (part_read part (codes ")") readable (refl, refl))

more_read : (part second : Part) (parts : List Part) (n : ℕ) → IsReadablePart part
    → parts_front n (parts_text (second ∷ parts) ++ codes ")") ≡ Some (second ∷ parts)
    → parts_front (suc n) (parts_text (part ∷ second ∷ parts) ++ codes ")") ≡ Some (part ∷ second ∷ parts)
unfolding parts_front mark_front
more_read part second parts n readable others =
    let behind = parts_text (second ∷ parts) ++ codes ")" in
    let text : parts_text (part ∷ second ∷ parts) ++ codes ")" ≡ part_text part ++ (44 ∷ behind) =
    append_assoc (part_text part ++ codes ",") (parts_text (second ∷ parts)) (codes ")") ∙ append_assoc (part_text part) (codes ",") behind in
    ap (parts_front (suc n)) text
    ∙ ap (λ o. part_listed o (parts_front n)) (part_read part (44 ∷ behind) readable (refl, refl))
    ∙ ap (with_part part) others

parts_read : (parts : List Part) (n : ℕ) → 0 < length parts → length parts ≤ n → AreReadable parts → parts_front n (parts_text parts ++ codes ")") ≡ Some parts
parts_read [] n some enough readable = absurd (omega arith)
parts_read (part ∷ parts) zero some enough readable = absurd (omega arith)
parts_read (part ∷ []) (suc n) some enough readable = last_read part n readable.0
parts_read (part ∷ second ∷ parts) (suc n) some enough readable =
    more_read part second parts n readable.0 (parts_read (second ∷ parts) n (omega arith) (omega arith) readable.1)

enough_bytes : (parts : List Part) → length parts ≤ length (parts_text parts ++ codes ")")
enough_bytes [] = omega arith
enough_bytes (part ∷ []) = omega (arith, length-append (part_text part) (codes ")"))
enough_bytes (part ∷ second ∷ parts) =
    omega (
      arith,
      enough_bytes (second ∷ parts),
      length-append (part_text part ++ codes ",") (parts_text (second ∷ parts)),
      length-append (part_text part) (codes ","),
      length-append ((part_text part ++ codes ",") ++ parts_text (second ∷ parts)) (codes ")"),
      length-append (parts_text (second ∷ parts)) (codes ")"),
    )

-- the texts in it are UTF-8 where the whole is
part_readable : (part : Part) (rest : List ℕ) → IsUtf8 (part_text part ++ rest) → (is_in_range part.value && fits_weight part.weight) ≡ true → IsReadablePart part
part_readable part rest u h =
    let ranges = and_parts (is_in_range part.value) (fits_weight part.weight) h in
    let text : part_text part ++ rest ≡ value_text part.value ++ (58 ∷ (number_text part.weight ++ rest)) = simp append_assoc in
    (value_readable part.value (58 ∷ (number_text part.weight ++ rest)) (subst IsUtf8 text u) ranges.0, ranges.1)

are_readable : (parts : List Part) → IsUtf8 (parts_text parts ++ codes ")") → parts_in_range parts ≡ true → AreReadable parts
are_readable [] u h = tt
are_readable (part ∷ []) u h = (part_readable part (codes ")") u (and_parts (is_in_range part.value && fits_weight part.weight) true h).0, tt)
are_readable (part ∷ second ∷ parts) u h =
    let behind = parts_text (second ∷ parts) ++ codes ")" in
    let text : parts_text (part ∷ second ∷ parts) ++ codes ")" ≡ part_text part ++ (44 ∷ behind) =
    append_assoc (part_text part ++ codes ",") (parts_text (second ∷ parts)) (codes ")") ∙ append_assoc (part_text part) (codes ",") behind in
    let whole = subst IsUtf8 text u in
    let ranges = and_parts (is_in_range part.value && fits_weight part.weight) (parts_in_range (second ∷ parts)) h in
    (part_readable part (44 ∷ behind) whole ranges.0, are_readable (second ∷ parts) (cut (part_text part) behind 44 (omega arith) whole).1 ranges.1)

-- behind the name and `dot(`
behind_read : (parts : List Part) → 0 < length parts → AreReadable parts → parts_behind (dot_front (codes "dot(" ++ (parts_text parts ++ codes ")"))) ≡ Some parts
unfolding dot_front
behind_read parts some readable = parts_read parts (length (parts_text parts ++ codes ")")) some (enough_bytes parts) readable

behind_utf8 : (rest : List ℕ) → IsUtf8 (codes "dot(" ++ rest) → IsUtf8 rest
behind_utf8 rest u =
    utf8_tail 40 rest (omega arith) (utf8_tail 116 _ (omega arith) (utf8_tail 111 _ (omega arith) (utf8_tail 100 _ (omega arith) u)))

pub dot_read : (name : Option (List ℕ)) (parts : List Part) → IsFormedName name → 0 < length parts → IsUtf8 (word_text (dot_product name parts))
    → parts_in_range parts ≡ true → parts_in (word_text (dot_product name parts)) ≡ Some parts
dot_read None parts formed some u h =
    let behind = parts_text parts ++ codes ")" in
    let text : word_text (dot_product None parts) ≡ codes "dot(" ++ behind = append_assoc (codes "dot(") (parts_text parts) (codes ")") in
    let readable = are_readable parts (behind_utf8 behind (subst IsUtf8 text u)) h in
    ap parts_in text
    ∙ ap (λ o. parts_behind (dot_front (unwrap_or o (codes "dot(" ++ behind)))) (name_ends (codes "dot") 40 behind refl refl)
    ∙ behind_read parts some readable
dot_read (Some name) parts formed some u h =
    let behind = parts_text parts ++ codes ")" in
    let text : word_text (dot_product (Some name) parts) ≡ name ++ (58 ∷ (codes "dot(" ++ behind)) =
    append_assoc ((name ++ codes ":") ++ codes "dot(") (parts_text parts) (codes ")") ∙ append_assoc (name ++ codes ":") (codes "dot(") behind
    ∙ append_assoc name (codes ":") (codes "dot(" ++ behind) in
    let whole = subst IsUtf8 text u in
    let readable = are_readable parts (behind_utf8 behind (cut name (codes "dot(" ++ behind) 58 (omega arith) whole).1) h in
    ap parts_in text
    ∙ ap (λ o. parts_behind (dot_front (unwrap_or o (name ++ (58 ∷ (codes "dot(" ++ behind)))))) (name_read name (codes "dot(" ++ behind) formed).0
    ∙ behind_read parts some readable
