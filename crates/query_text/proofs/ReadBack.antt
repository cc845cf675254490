-- What is written is read back.
use Rattle.std.proofs.Common.{◌≡◌, ◌<◌, ◌≤◌, ◌+◌, ◌-◌, ◌*◌, ◌/◌, ◌%◌, ◌^◌, ℕ, zero, suc, ℤ, pos, negsuc, List, [], ◌∷◌, ◌++◌, map, length, take, drop, true, false, ◌||◌, ◌==◌, cond, eqb, nat_lt, Option, Some, None}
use Rattle.std.proofs.Common.{refl, sym, ap, ap₂, ◌∙◌, inl, inr, append_assoc, append-nil, add-one, codes, arith}
use Rattle.std.specs.Option.{option_map, unwrap_or}
use Rattle.std.specs.List.{flat_map, list_all, position_or_len}
use Rattle.std.proofs.Math.Seq.{take-append_seam, drop-append_seam}
use Rattle.std.proofs.lemmas.Bool.{and_parts}
use Rattle.std.specs.Int.Digits.{digits_of}
use lib.IntN.{neg_ℤ}
use Rattle.std.proofs.lemmas.Bool.Decides.{nat_tests, eqb_tells}
use Rattle.std.proofs.lemmas.List.{length-append}
use Rattle.attr_types.specs.declared.value.Value.{Value}
use Rattle.attr_types.specs.declared.value.Value.TheVariants as values
use Rattle.attr_types.specs.declared.query.Leaf.{Leaf}
use Rattle.attr_types.specs.declared.query.Leaf.TheVariants as leaves
use Rattle.attr_types.specs.declared.field.Field.{Field}
use Rattle.attr_types.specs.Query.{QueryTree}
use Rattle.attr_types.specs.Query as query
use Rattle.attr_types.specs.Names.{begins_name, continues_name, is_name}
use Rattle.query_text.specs.Grammar.{NamedTree, NamedTrees, one, and, or, no_trees, tree, numeral, number_text, escaped, quoted, value_text, option_text, leaf_text, tree_text, list_text, others_text}
use Rattle.query_text.specs.Grammar.{IsFormedName, IsFormed, IsFormedList, field_number, resolved, resolved_list, is_in_range, levels_of, list_levels}
use Rattle.query_text.specs.Modes.{is_digit, capped}
use Rattle.query_text.specs.Reading.{◌>>=◌, after_byte, digits_front, sized_number, signed_front, number_front, with_byte, bytes_front, is_short_text, text_front, value_behind, value_front}
use Rattle.query_text.specs.Reading.{end_of, end_front, range_front, starred, whole_of, whole_front, leaf_of, leaf_front, and_front, or_front, mark_front, with_tree, after_list, list_front}
use Rattle.query_text.specs.Reading.{ends_name, name_end, name_at_front, begins_so, after_name, leaf_of_field, query_by, query_with, query_front}
use Rattle.query_text.proofs.Paths.{digits_by_steps, capped_digit, size_of_negative, name_parts}

-- no value goes on with this
abbrev pub EndsValue : List ℕ → Type 0
EndsValue [] = Unit {0}
EndsValue (byte ∷ rest) = (is_digit byte ≡ false) × (eqb byte 42 ≡ false)

-- a value that can be read
abbrev pub IsReadable : Value → Type 0
IsReadable (values.Long z) = is_in_range (values.Long z) ≡ true
IsReadable (values.Text bytes) = is_short_text bytes ≡ true

-- numbers
digit_read : (size d : ℕ) (rest : List ℕ) → d < 10 → digits_front size ((48 + d) ∷ rest) ≡ digits_front (capped (capped (size * 10) + d)) rest
unfolding digits_front
digit_read size d rest small =
    let test : is_digit (48 + d) ≡ true = grind (arith, nat_tests) in
    let back : (48 + d) - 48 ≡ d = omega arith in
    ap (λ b. cond b (digits_front (capped (capped (size * 10) + ((48 + d) - 48))) rest) (size, (48 + d) ∷ rest)) test
    ∙ ap (λ d. digits_front (capped (capped (size * 10) + d)) rest) back

digits_read : (n : ℕ) → 0 < n → (rest : List ℕ) → digits_front 0 (map (λ d. 48 + d) (digits_of 10 n) ++ rest) ≡ digits_front (capped n) rest
digits_read n some =
    digits_by_steps (λ n digits. (rest : List ℕ) → digits_front 0 (digits ++ rest) ≡ digits_front (capped n) rest)
    (λ n some small rest. digit_read 0 n rest small ∙ ap (λ size. digits_front size rest) (omega arith))
    (λ n digits large before rest.
    ap (digits_front 0) (append_assoc digits ((48 + n % 10) ∷ []) rest) ∙ before ((48 + n % 10) ∷ rest)
    ∙ digit_read (capped (n / 10)) (n % 10) rest (omega arith) ∙ ap (λ size. digits_front size rest) (capped_digit n))
    n n (omega arith) some

digits_end : (size : ℕ) (rest : List ℕ) → EndsValue rest → digits_front size rest ≡ (size, rest)
unfolding digits_front
digits_end size [] ends = refl
digits_end size (byte ∷ rest) ends = ap (λ b. cond b (digits_front (capped (capped (size * 10) + (byte - 48))) rest) (size, byte ∷ rest)) ends.0

numeral_read : (n : ℕ) (rest : List ℕ) → EndsValue rest → digits_front 0 (numeral n ++ rest) ≡ (capped n, rest)
unfolding numeral
numeral_read n rest ends =
    elim (eqb_tells n 0) [
      | inl none ↦
          ap (λ b. digits_front 0 (cond b (codes "0") (map (λ digit. 48 + digit) (digits_of 10 n)) ++ rest)) none.0
          ∙ digit_read 0 0 rest (omega arith) ∙ digits_end 0 rest ends ∙ ap (λ n. (capped n, rest)) (sym none.1)
      | inr some ↦
          ap (λ b. digits_front 0 (cond b (codes "0") (map (λ digit. 48 + digit) (digits_of 10 n)) ++ rest)) some.0
          ∙ digits_read n (omega (arith, some.1)) rest ∙ digits_end (capped n) rest ends
    ]

pub numeral_first : (wanted n : ℕ) (rest : List ℕ) → is_digit wanted ≡ false → after_byte wanted (numeral n ++ rest) ≡ None
unfolding numeral
numeral_first wanted n rest other =
    elim (eqb_tells n 0) [
      | inl none ↦
          let apart : eqb 48 wanted ≡ false = grind (arith, nat_tests) in
          ap (λ b. after_byte wanted (cond b (codes "0") (map (λ digit. 48 + digit) (digits_of 10 n)) ++ rest)) none.0
          ∙ ap (λ b. cond b (Some rest) None) apart
      | inr some ↦
          ap (λ b. after_byte wanted (cond b (codes "0") (map (λ digit. 48 + digit) (digits_of 10 n)) ++ rest)) some.0
          ∙ digits_by_steps (λ n digits. (rest : List ℕ) → after_byte wanted (digits ++ rest) ≡ None)
          (λ n some small rest. let apart : eqb (48 + n) wanted ≡ false = grind (arith, nat_tests) in ap (λ b. cond b (Some rest) None) apart)
          (λ n digits large before rest. ap (after_byte wanted) (append_assoc digits ((48 + n % 10) ∷ []) rest) ∙ before ((48 + n % 10) ∷ rest))
          n n (omega arith) (omega (arith, some.1)) rest
    ]

capped_long : (n : ℕ) → nat_lt n (2 ^ 63) ≡ true → (capped n ≡ n) × (capped (n + 1) ≡ n + 1)
capped_long n h = (grind (arith, nat_tests), grind (arith, nat_tests))

pub number_read : (z : ℤ) (rest : List ℕ) → is_in_range (values.Long z) ≡ true → EndsValue rest → number_front (number_text z ++ rest) ≡ Some (z, rest)
unfolding number_front
number_read (pos n) rest small ends =
    ap (λ o. signed_front o (numeral n ++ rest)) (numeral_first 45 n rest refl)
    ∙ ap (sized_number false) (numeral_read n rest ends)
    ∙ ap (λ k. sized_number false (k, rest)) (capped_long n small).0
    ∙ ap (λ b. cond b (Some (pos n, rest)) None) small
number_read (negsuc n) rest small ends =
    ap (sized_number true) (numeral_read (n + 1) rest ends)
    ∙ ap (λ k. sized_number true (k, rest)) (capped_long n small).1
    ∙ ap₂ (λ b z. cond b (Some (z, rest)) None) (size_of_negative n ∙ small) (ap (λ k. neg_ℤ (pos k)) (add-one n))

-- texts
bytes_read : (bytes rest : List ℕ) → bytes_front false (flat_map escaped bytes ++ (34 ∷ rest)) ≡ Some (bytes, rest)
unfolding bytes_front
bytes_read [] rest = refl
bytes_read (byte ∷ bytes) rest =
    let more : bytes_front false (flat_map escaped bytes ++ (34 ∷ rest)) ≡ Some (bytes, rest) = bytes_read bytes rest in
    (elim ((byte == 34) || (byte == 92)) as (λ b. ((byte == 34) || (byte == 92)) ≡ b
    → bytes_front false ((cond b (92 ∷ byte ∷ []) (byte ∷ []) ++ flat_map escaped bytes) ++ (34 ∷ rest)) ≡ Some (byte ∷ bytes, rest)) [
      | true ↦ λ h. ap (with_byte byte) more
      | false ↦ λ h.
          let no_quote : eqb byte 34 ≡ false = grind (arith, nat_tests) in
          let no_escape : eqb byte 92 ≡ false = grind (arith, nat_tests) in
          ap₂ (λ b c. cond b (Some ([], flat_map escaped bytes ++ (34 ∷ rest))) (cond c (bytes_front true (flat_map escaped bytes ++ (34 ∷ rest)))
          (with_byte byte (bytes_front false (flat_map escaped bytes ++ (34 ∷ rest)))))) no_quote no_escape
          ∙ ap (with_byte byte) more
    ]) refl

text_read : (bytes rest : List ℕ) → is_short_text bytes ≡ true → text_front (flat_map escaped bytes ++ (34 ∷ rest)) ≡ Some (bytes, rest)
unfolding text_front
text_read bytes rest small =
    ap (λ o. o >>= (λ found. cond (is_short_text found.0) (Some found) None)) (bytes_read bytes rest) ∙ ap (λ b. cond b (Some (bytes, rest)) None) small

-- values and leaves
pub value_first : (wanted : ℕ) (v : Value) (rest : List ℕ) → is_digit wanted ≡ false → eqb 45 wanted ≡ false → eqb 34 wanted ≡ false
    → after_byte wanted (value_text v ++ rest) ≡ None
value_first wanted (values.Long (pos n)) rest digit minus quote = numeral_first wanted n rest digit
value_first wanted (values.Long (negsuc n)) rest digit minus quote = ap (λ b. cond b (Some (numeral (n + 1) ++ rest)) None) minus
value_first wanted (values.Text bytes) rest digit minus quote = ap (λ b. cond b (Some ((flat_map escaped bytes ++ 34 ∷ []) ++ rest)) None) quote

pub number_first : (z : ℤ) (rest : List ℕ) → after_byte 34 (number_text z ++ rest) ≡ None
number_first (pos n) rest = numeral_first 34 n rest refl
number_first (negsuc n) rest = refl

quoted_read : (bytes rest : List ℕ) → is_short_text bytes ≡ true → text_front ((flat_map escaped bytes ++ 34 ∷ []) ++ rest) ≡ Some (bytes, rest)
quoted_read bytes rest small = ap text_front (append_assoc (flat_map escaped bytes) (34 ∷ []) rest) ∙ text_read bytes rest small

pub value_read : (v : Value) (rest : List ℕ) → IsReadable v → EndsValue rest → value_front (value_text v ++ rest) ≡ Some (v, rest)
unfolding value_front
value_read (values.Long z) rest small ends =
    ap (λ o. value_behind o (number_text z ++ rest)) (number_first z rest)
    ∙ ap (option_map (λ found. (values.Long found.0, found.1))) (number_read z rest small ends)
value_read (values.Text bytes) rest small ends =
    ap (option_map (λ found. (values.Text found.0, found.1))) (quoted_read bytes rest small)

-- a byte that ends a value
record IsClosing (closing : ℕ) : Type 0 where
  digit : is_digit closing ≡ false
  minus : eqb 45 closing ≡ false
  quote : eqb 34 closing ≡ false
  star : eqb closing 42 ≡ false
  self : eqb closing closing ≡ true

abbrev pub IsReadableEnd : Option Value → Type 0
IsReadableEnd None = Unit {0}
IsReadableEnd (Some v) = IsReadable v

end_read : (closing : ℕ) → IsClosing closing → (end : Option Value) (rest : List ℕ) → IsReadableEnd end
    → end_front closing (option_text end ++ (closing ∷ rest)) ≡ Some (end, rest)
unfolding end_front
end_read closing is None rest readable = ap (λ b. end_of closing (cond b (Some rest) None) (closing ∷ rest)) is.self
end_read closing is (Some v) rest readable =
    let text = value_text v ++ (closing ∷ rest) in
    ap (λ o. end_of closing o text) (value_first closing v (closing ∷ rest) is.digit is.minus is.quote)
    ∙ ap (λ o. o >>= (λ found. after_byte closing found.1 >>= (λ rest. Some (Some found.0, rest)))) (value_read v (closing ∷ rest) readable (is.digit, is.star))
    ∙ ap (λ b. cond b (Some rest) None >>= (λ rest. Some (Some v, rest))) is.self

range_read : (low high : Option Value) (rest : List ℕ) → IsReadableEnd low → IsReadableEnd high
    → range_front (option_text low ++ (59 ∷ (option_text high ++ (93 ∷ rest)))) ≡ Some (leaves.Range low high, rest)
unfolding range_front
range_read low high rest readable readable' =
    ap (λ o. o >>= (λ low. end_front 93 low.1 >>= (λ high. Some (leaves.Range low.0 high.0, high.1))))
    (end_read 59 (record { digit = refl; minus = refl; quote = refl; star = refl; self = refl }) low (option_text high ++ (93 ∷ rest)) readable)
    ∙ ap (λ o. o >>= (λ high. Some (leaves.Range low high.0, high.1)))
    (end_read 93 (record { digit = refl; minus = refl; quote = refl; star = refl; self = refl }) high rest readable')

abbrev pub IsReadableLeaf : Leaf → Type 0
IsReadableLeaf (leaves.Is v) = IsReadable v
IsReadableLeaf (leaves.Prefix bytes) = IsReadable (values.Text bytes)
IsReadableLeaf (leaves.Range low high) = IsReadableEnd low × IsReadableEnd high
IsReadableLeaf (leaves.Below v) = IsReadable v
IsReadableLeaf (leaves.Above v) = IsReadable v

no_star : (rest : List ℕ) → EndsValue rest → after_byte 42 rest ≡ None
no_star [] ends = refl
no_star (byte ∷ rest) ends = ap (λ b. cond b (Some rest) None) ends.1

whole_read : (v : Value) (rest : List ℕ) → IsReadable v → EndsValue rest → whole_front (value_text v ++ rest) ≡ Some (leaves.Is v, rest)
unfolding whole_front
whole_read (values.Long z) rest small ends =
    ap (λ o. whole_of o (number_text z ++ rest)) (number_first z rest)
    ∙ ap (option_map (λ found. (leaves.Is (values.Long found.0), found.1))) (number_read z rest small ends)
whole_read (values.Text bytes) rest small ends =
    ap (option_map (λ found. starred found.0 (after_byte 42 found.1) found.1)) (quoted_read bytes rest small)
    ∙ ap (λ o. Some (starred bytes o rest)) (no_star rest ends)

range_text : (low high rest : List ℕ) → ((((codes "[" ++ low) ++ codes ";") ++ high) ++ codes "]") ++ rest ≡ 91 ∷ (low ++ (59 ∷ (high ++ (93 ∷ rest))))
range_text low high rest = simp append_assoc

prefix_read : (bytes rest : List ℕ) → is_short_text bytes ≡ true → whole_front ((quoted bytes ++ codes "*") ++ rest) ≡ Some (leaves.Prefix bytes, rest)
unfolding whole_front
prefix_read bytes rest small =
    ap (λ t. option_map (λ found. starred found.0 (after_byte 42 found.1) found.1) (text_front t)) (append_assoc (flat_map escaped bytes ++ 34 ∷ []) (codes "*") rest)
    ∙ ap (option_map (λ found. starred found.0 (after_byte 42 found.1) found.1)) (quoted_read bytes (42 ∷ rest) small)

leaf_read : (leaf : Leaf) (rest : List ℕ) → IsReadableLeaf leaf → EndsValue rest → leaf_front (leaf_text leaf ++ rest) ≡ Some (leaf, rest)
unfolding leaf_front
leaf_read (leaves.Is v) rest readable ends =
    ap (λ o. leaf_of o (after_byte 60 (value_text v ++ rest)) (after_byte 62 (value_text v ++ rest)) (value_text v ++ rest)) (value_first 91 v rest refl refl refl)
    ∙ ap₂ (λ o p. leaf_of None o p (value_text v ++ rest)) (value_first 60 v rest refl refl refl) (value_first 62 v rest refl refl refl)
    ∙ whole_read v rest readable ends
leaf_read (leaves.Prefix bytes) rest readable ends = prefix_read bytes rest readable
leaf_read (leaves.Range low high) rest readable ends =
    ap (λ t. leaf_of (after_byte 91 t) (after_byte 60 t) (after_byte 62 t) t) (range_text (option_text low) (option_text high) rest)
    ∙ range_read low high rest readable.0 readable.1
leaf_read (leaves.Below v) rest readable ends = ap (option_map (λ found. (leaves.Below found.0, found.1))) (value_read v rest readable ends)
leaf_read (leaves.Above v) rest readable ends = ap (option_map (λ found. (leaves.Above found.0, found.1))) (value_read v rest readable ends)

-- a leaf begins with no letter
numeral_plain : (n : ℕ) (rest : List ℕ) → begins_so (numeral n ++ rest) ≡ false
unfolding numeral
numeral_plain n rest =
    elim (eqb_tells n 0) [
      | inl none ↦ ap (λ b. begins_so (cond b (codes "0") (map (λ digit. 48 + digit) (digits_of 10 n)) ++ rest)) none.0
      | inr some ↦
          ap (λ b. begins_so (cond b (codes "0") (map (λ digit. 48 + digit) (digits_of 10 n)) ++ rest)) some.0
          ∙ digits_by_steps (λ n digits. (rest : List ℕ) → begins_so (digits ++ rest) ≡ false)
          (λ n some small rest. digit_plain n small)
          (λ n digits large before rest. ap begins_so (append_assoc digits ((48 + n % 10) ∷ []) rest) ∙ before ((48 + n % 10) ∷ rest))
          n n (omega arith) (omega (arith, some.1)) rest
    ]
  where
    digit_plain : (n : ℕ) → n < 10 → begins_name (48 + n) ≡ false
    digit_plain n small = grind (arith, nat_tests)

value_plain : (v : Value) (rest : List ℕ) → begins_so (value_text v ++ rest) ≡ false
value_plain (values.Long (pos n)) rest = numeral_plain n rest
value_plain (values.Long (negsuc n)) rest = refl
value_plain (values.Text bytes) rest = refl

leaf_plain : (leaf : Leaf) (rest : List ℕ) → begins_so (leaf_text leaf ++ rest) ≡ false
leaf_plain (leaves.Is v) rest = value_plain v rest
leaf_plain (leaves.Prefix bytes) rest = refl
leaf_plain (leaves.Range low high) rest = refl
leaf_plain (leaves.Below v) rest = refl
leaf_plain (leaves.Above v) rest = refl

no_letter : (letter : ℕ) (bytes : List ℕ) → begins_name letter ≡ true → begins_so bytes ≡ false → after_byte letter bytes ≡ None
no_letter letter [] is plain = refl
no_letter letter (byte ∷ rest) is plain = ap (λ b. cond b (Some rest) None) apart
  where
    apart : eqb byte letter ≡ false
    apart = elim (eqb_tells byte letter) [
      | inl same ↦ absurd (let both : true ≡ false = sym is ∙ ap begins_name (sym same.1) ∙ plain in cc)
      | inr other ↦ other.0
    ]

-- names
len_at : (cs : List ℕ) (byte : ℕ) (rest : List ℕ) → list_all continues_name cs ≡ true → continues_name byte ≡ false
    → position_or_len ends_name (cs ++ (byte ∷ rest)) ≡ length cs
len_at [] byte rest all ends = rw ends refl
len_at (c ∷ cs) byte rest all ends =
    let parts = and_parts (continues_name c) (list_all continues_name cs) all in
    let more : 1 + length cs ≡ suc (length cs) = omega arith in
    rw parts.0 (ap (λ n. 1 + n) (len_at cs byte rest parts.1 ends) ∙ more)

end_at : (cs : List ℕ) (byte : ℕ) (rest : List ℕ) → list_all continues_name cs ≡ true → continues_name byte ≡ false
    → name_end (cs ++ (byte ∷ rest)) ≡ length cs
end_at cs byte rest all ends =
    let inside : nat_lt (length cs) (length (cs ++ (byte ∷ rest))) ≡ true = grind (arith, nat_tests, length-append) in
    ap (λ n. unwrap_or (cond (nat_lt n (length (cs ++ (byte ∷ rest)))) (Some n) None) (length (cs ++ (byte ∷ rest)))) (len_at cs byte rest all ends)
    ∙ ap (λ b. unwrap_or (cond b (Some (length cs)) None) (length (cs ++ (byte ∷ rest)))) inside

pub name_ends : (cs : List ℕ) (byte : ℕ) (rest : List ℕ) → list_all continues_name cs ≡ true → continues_name byte ≡ false
    → after_name (cs ++ (byte ∷ rest)) ≡ cond (begins_so (cs ++ (byte ∷ rest))) (after_byte 58 (byte ∷ rest)) None
unfolding after_name
name_ends cs byte rest all ends =
    ap (λ n. cond (begins_so (cs ++ (byte ∷ rest))) (after_byte 58 (drop n (cs ++ (byte ∷ rest)))) None) (end_at cs byte rest all ends)
    ∙ ap (λ t. cond (begins_so (cs ++ (byte ∷ rest))) (after_byte 58 t) None) (drop-append_seam cs (byte ∷ rest))

pub name_read : (name rest : List ℕ) → is_name name ≡ true
    → (after_name (name ++ (58 ∷ rest)) ≡ Some rest) × (name_at_front (name ++ (58 ∷ rest)) ≡ name)
name_read [] rest is = absurd cc
name_read (c ∷ cs) rest is =
    let parts = name_parts c cs is in
    let all = (and_parts (begins_name c) (list_all continues_name (c ∷ cs)) is).1 in (
      name_ends (c ∷ cs) 58 rest all refl ∙ ap (λ b. cond b (Some rest) None) parts.0,
      ap (λ n. take n ((c ∷ cs) ++ (58 ∷ rest))) (end_at (c ∷ cs) 58 rest all refl) ∙ take-append_seam (c ∷ cs) (58 ∷ rest),
    )

pub no_name : (bytes : List ℕ) → begins_so bytes ≡ false → after_name bytes ≡ None
unfolding after_name
no_name bytes plain = ap (λ b. cond b (after_byte 58 (drop (name_end bytes) bytes)) None) plain

-- queries
abbrev mutual
  pub IsReadableTree : NamedTree → Type 0
  IsReadableTree (one name leaf) = IsReadableLeaf leaf
  IsReadableTree (and list) = AreReadable list
  IsReadableTree (or list) = AreReadable list

  pub AreReadable : NamedTrees → Type 0
  AreReadable no_trees = Unit {0}
  AreReadable (tree first others) = IsReadableTree first × AreReadable others

abbrev list_of : List Field → NamedTrees → List QueryTree
list_of fields no_trees = []
list_of fields (tree first others) = resolved fields first ∷ list_of fields others

trees-list_of : (fields : List Field) (list : NamedTrees) → query.trees (list_of fields list) ≡ resolved_list fields list
trees-list_of fields no_trees = refl
trees-list_of fields (tree first others) = ap (query.tree (resolved fields first)) (trees-list_of fields others)

abbrev count_of : NamedTrees → ℕ
count_of no_trees = 0
count_of (tree first others) = count_of others + 1

count-others : (list : NamedTrees) → count_of list ≤ length (others_text list)
count-others no_trees = omega arith
count-others (tree first others) =
    omega (arith, count-others others, length-append (codes "," ++ tree_text first) (others_text others), length-append (codes ",") (tree_text first))

count-list : (list : NamedTrees) (rest : List ℕ) → count_of list ≤ length (list_text list ++ (41 ∷ rest))
count-list no_trees rest = omega arith
count-list (tree first others) rest =
    omega (arith, count-others others, length-append (tree_text first ++ others_text others) (41 ∷ rest), length-append (tree_text first) (others_text others))

list_ends : (list : NamedTrees) (rest : List ℕ) → EndsValue (others_text list ++ (41 ∷ rest))
list_ends no_trees rest = (refl, refl)
list_ends (tree first others) rest = (refl, refl)

close_list : (list rest : List ℕ) → (list ++ codes ")") ++ rest ≡ list ++ (41 ∷ rest)
close_list list rest = append_assoc list (codes ")") rest

no_and : (bytes : List ℕ) → after_byte 97 bytes ≡ None → and_front bytes ≡ None
unfolding and_front
no_and bytes none = ap (λ o. o >>= (λ rest. after_byte 110 rest >>= (λ rest. after_byte 100 rest >>= after_byte 40))) none

no_or : (bytes : List ℕ) → after_byte 111 bytes ≡ None → or_front bytes ≡ None
unfolding or_front
no_or bytes none = ap (λ o. o >>= (λ rest. after_byte 114 rest >>= after_byte 40)) none

one_read : (fields : List Field) (member : List ℕ → Option (QueryTree × List ℕ)) (name : Option (List ℕ)) (leaf : Leaf) (rest : List ℕ)
    → IsFormedName name → IsReadableLeaf leaf → EndsValue rest
    → query_with fields member (tree_text (one name leaf) ++ rest) ≡ Some (resolved fields (one name leaf), rest)
unfolding query_with
one_read fields member None leaf rest named readable ends =
    let bytes = leaf_text leaf ++ rest in
    let plain = leaf_plain leaf rest in
    ap (λ o. query_by fields o (and_front bytes) (or_front bytes) member bytes) (no_name bytes plain)
    ∙ ap₂ (λ a b. query_by fields None a b member bytes) (no_and bytes (no_letter 97 bytes refl plain)) (no_or bytes (no_letter 111 bytes refl plain))
    ∙ ap (option_map (λ found. (query.one 0 found.0, found.1))) (leaf_read leaf rest readable ends)
one_read fields member (Some name) leaf rest named readable ends =
    let bytes = name ++ (58 ∷ (leaf_text leaf ++ rest)) in
    let read = name_read name (leaf_text leaf ++ rest) named in
    ap (λ t. query_by fields (after_name t) (and_front t) (or_front t) member t) (named_text name (leaf_text leaf) rest)
    ∙ ap (λ o. query_by fields o (and_front bytes) (or_front bytes) member bytes) read.0
    ∙ ap (λ n. leaf_of_field (field_number fields (Some n)) (leaf_text leaf ++ rest)) read.1
    ∙ ap (option_map (λ found. (query.one (field_number fields (Some name)) found.0, found.1))) (leaf_read leaf rest readable ends)
  where
    named_text : (name leaf rest : List ℕ) → ((name ++ codes ":") ++ leaf) ++ rest ≡ name ++ (58 ∷ (leaf ++ rest))
    named_text name leaf rest = simp append_assoc

and_read : (fields : List Field) (member : List ℕ → Option (QueryTree × List ℕ)) (list : NamedTrees) (rest : List ℕ)
    → list_front member (length (list_text list ++ (41 ∷ rest))) (list_text list ++ (41 ∷ rest)) ≡ Some (list_of fields list, rest)
    → query_with fields member (tree_text (and list) ++ rest) ≡ Some (resolved fields (and list), rest)
unfolding query_with and_front
and_read fields member list rest read =
    let bytes = tree_text (and list) ++ rest in
    ap (λ o. query_by fields o (and_front bytes) (or_front bytes) member bytes) (name_ends (codes "and") 40 ((list_text list ++ codes ")") ++ rest) refl refl)
    ∙ ap (λ t. option_map (λ found. (query.and (query.trees found.0), found.1)) (list_front member (length t) t)) (close_list (list_text list) rest)
    ∙ ap (option_map (λ found. (query.and (query.trees found.0), found.1))) read
    ∙ ap (λ l. Some (query.and l, rest)) (trees-list_of fields list)

or_read : (fields : List Field) (member : List ℕ → Option (QueryTree × List ℕ)) (list : NamedTrees) (rest : List ℕ)
    → list_front member (length (list_text list ++ (41 ∷ rest))) (list_text list ++ (41 ∷ rest)) ≡ Some (list_of fields list, rest)
    → query_with fields member (tree_text (or list) ++ rest) ≡ Some (resolved fields (or list), rest)
unfolding query_with and_front or_front
or_read fields member list rest read =
    let bytes = tree_text (or list) ++ rest in
    ap (λ o. query_by fields o (and_front bytes) (or_front bytes) member bytes) (name_ends (codes "or") 40 ((list_text list ++ codes ")") ++ rest) refl refl)
    ∙ ap (λ t. option_map (λ found. (query.or (query.trees found.0), found.1)) (list_front member (length t) t)) (close_list (list_text list) rest)
    ∙ ap (option_map (λ found. (query.or (query.trees found.0), found.1))) read
    ∙ ap (λ l. Some (query.or l, rest)) (trees-list_of fields list)

last_read : (fields : List Field) (member : List ℕ → Option (QueryTree × List ℕ)) (k : ℕ) (first : NamedTree) (rest : List ℕ)
    → member (tree_text first ++ (41 ∷ rest)) ≡ Some (resolved fields first, 41 ∷ rest)
    → list_front member (suc k) (list_text (tree first no_trees) ++ (41 ∷ rest)) ≡ Some (resolved fields first ∷ [], rest)
unfolding list_front mark_front
last_read fields member k first rest read =
    ap (λ t. after_list (member (t ++ (41 ∷ rest))) (list_front member k)) (append-nil (tree_text first))
    ∙ ap (λ o. after_list o (list_front member k)) read

more_read : (fields : List Field) (member : List ℕ → Option (QueryTree × List ℕ)) (k : ℕ) (first second : NamedTree) (others : NamedTrees) (rest : List ℕ)
    → member (tree_text first ++ (44 ∷ (list_text (tree second others) ++ (41 ∷ rest))))
    ≡ Some (resolved fields first, 44 ∷ (list_text (tree second others) ++ (41 ∷ rest)))
    → list_front member k (list_text (tree second others) ++ (41 ∷ rest)) ≡ Some (list_of fields (tree second others), rest)
    → list_front member (suc k) (list_text (tree first (tree second others)) ++ (41 ∷ rest))
    ≡ Some (resolved fields first ∷ list_of fields (tree second others), rest)
unfolding list_front mark_front
more_read fields member k first second others rest read more =
    ap (λ t. after_list (member t) (list_front member k)) (append_assoc (tree_text first) (others_text (tree second others)) (41 ∷ rest))
    ∙ ap (λ o. after_list o (list_front member k)) read
    ∙ ap (with_tree (resolved fields first)) more

at_suc : (fields : List Field) (n : ℕ) (bytes : List ℕ) → query_front fields (suc n) bytes ≡ query_with fields (query_front fields n) bytes
unfolding query_front
at_suc fields n bytes = refl

mutual
  pub query_read : (fields : List Field) (query : NamedTree) (n : ℕ) (rest : List ℕ) → IsFormed query → IsReadableTree query → levels_of query ≤ n → EndsValue rest
      → query_front fields n (tree_text query ++ rest) ≡ Some (resolved fields query, rest)
  query_read fields (one name leaf) zero rest formed readable deep ends = absurd (omega arith)
  query_read fields (one name leaf) (suc n) rest formed readable deep ends =
      at_suc fields n _ ∙ one_read fields (query_front fields n) name leaf rest formed.0 readable ends
  query_read fields (and list) zero rest formed readable deep ends = absurd (omega arith)
  query_read fields (and list) (suc n) rest formed readable deep ends =
      at_suc fields n _ ∙ and_read fields (query_front fields n) list rest (list_read fields list n _ rest formed readable (omega arith) (count-list list rest))
  query_read fields (or list) zero rest formed readable deep ends = absurd (omega arith)
  query_read fields (or list) (suc n) rest formed readable deep ends =
      at_suc fields n _ ∙ or_read fields (query_front fields n) list rest (list_read fields list n _ rest formed readable (omega arith) (count-list list rest))

  list_read : (fields : List Field) (list : NamedTrees) (n fuel : ℕ) (rest : List ℕ) → IsFormedList list → AreReadable list → list_levels list ≤ n → count_of list ≤ fuel
      → list_front (query_front fields n) fuel (list_text list ++ (41 ∷ rest)) ≡ Some (list_of fields list, rest)
  list_read fields no_trees n fuel rest formed readable deep counted = absurd formed
  list_read fields (tree first others) n zero rest formed readable deep counted = absurd (omega arith)
  list_read fields (tree first no_trees) n (suc k) rest formed readable deep counted =
      last_read fields (query_front fields n) k first rest (query_read fields first n (41 ∷ rest) formed.0 readable.0 (omega arith) (refl, refl))
  list_read fields (tree first (tree second others)) n (suc k) rest formed readable deep counted =
      more_read fields (query_front fields n) k first second others rest
      (query_read fields first n _ formed.0 readable.0 (omega arith) (refl, refl))
      (list_read fields (tree second others) n k rest formed.1 readable.1 (omega arith) (omega arith))
