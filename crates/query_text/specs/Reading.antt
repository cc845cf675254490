-- The value, leaf or query at the front of a text, and what follows it.
use Rattle.std.specs.Prelude.{◌≡◌, ℕ, ℤ, pos, zero, suc, ◌+◌, ◌-◌, ◌*◌, ◌==◌, Bool, true, false, ◌&&◌, not, nat_le, List, [], ◌∷◌, length}
use Rattle.std.specs.Prelude.{take, drop, if◌then◌else◌, Option, Some, None, option_map, unwrap_or, Result, Ok, Err}
use Rattle.std.specs.List.{position}
use Rattle.std.specs.Str.{is_utf8}
use lib.IntN.{neg_ℤ}
use Rattle.attr_types.specs.declared.value.Value.{Value}
use Rattle.attr_types.specs.declared.value.Value.TheVariants as values
use Rattle.attr_types.specs.declared.query.Leaf.{Leaf}
use Rattle.attr_types.specs.declared.query.Leaf.TheVariants as leaves
use Rattle.attr_types.specs.declared.field.Field.{Field}
use Rattle.attr_types.specs.Query.{QueryTree, one, and, or, trees}
use Rattle.attr_types.specs.Names.{begins_name, continues_name}
use Rattle.query_text.specs.declared.read.ReadError.{ReadError}
use Rattle.query_text.specs.declared.read.ReadError.TheVariants as errors
use Rattle.query_text.specs.Grammar.{field_number}
use Rattle.query_text.specs.Modes.{is_digit, capped}
use Rattle.query_text.specs.Survey.{is_long_size}

infixl 10 ◌>>=◌
abbrev pub ◌>>=◌ : {A B : Type 0} → Option A → (A → Option B) → Option B
None >>= f = None
(Some x) >>= f = f x

-- the result of a function, seen by `view`, is what was found, unless memory was exhausted
abbrev pub FindsNone : {Y : Type 0} → ReadError → Option Y → Type 0
FindsNone errors.Memory found = Unit {0}
FindsNone errors.NotRead found = found ≡ None

abbrev pub Finds : {X Y : Type 0} → (X → Y) → Result X ReadError → Option Y → Type 0
Finds view (Ok x) found = found ≡ Some (view x)
Finds view (Err error) found = FindsNone error found

-- what follows this byte
abbrev pub after_byte : ℕ → List ℕ → Option (List ℕ)
after_byte wanted [] = None
after_byte wanted (byte ∷ rest) = if byte == wanted then Some rest else None

-- the size of a number, from its size before these digits
unfoldable pub digits_front : ℕ → List ℕ → ℕ × List ℕ
digits_front size [] = (size, [])
digits_front size (byte ∷ rest) = if is_digit byte then digits_front (capped (capped (size * 10) + (byte - 48))) rest
    else (size, byte ∷ rest)

abbrev pub signed : Bool → ℕ → ℤ
signed true size = neg_ℤ (pos size)
signed false size = pos size

abbrev pub sized_number : Bool → ℕ × List ℕ → Option (ℤ × List ℕ)
sized_number negative found = if is_long_size negative found.0 then Some (signed negative found.0, found.1) else None

abbrev pub signed_front : Option (List ℕ) → List ℕ → Option (ℤ × List ℕ)
signed_front None bytes = sized_number false (digits_front 0 bytes)
signed_front (Some rest) bytes = sized_number true (digits_front 0 rest)

unfoldable pub number_front : List ℕ → Option (ℤ × List ℕ)
number_front bytes = signed_front (after_byte 45 bytes) bytes

abbrev pub with_byte : ℕ → Option (List ℕ × List ℕ) → Option (List ℕ × List ℕ)
with_byte byte None = None
with_byte byte (Some found) = Some (byte ∷ found.0, found.1)

-- the bytes of a text up to its closing quote; a byte after a `\` represents itself
unfoldable pub bytes_front : Bool → List ℕ → Option (List ℕ × List ℕ)
bytes_front escaped [] = None
bytes_front true (byte ∷ rest) = with_byte byte (bytes_front false rest)
bytes_front false (byte ∷ rest) = if byte == 34 then Some ([], rest)
    else (if byte == 92 then bytes_front true rest else with_byte byte (bytes_front false rest))

abbrev pub is_short_text : List ℕ → Bool
is_short_text bytes = nat_le (length bytes) 1024 && is_utf8 bytes

unfoldable pub text_front : List ℕ → Option (List ℕ × List ℕ)
text_front bytes = do
  found ← bytes_front false bytes
  if is_short_text found.0 then Some found else None

abbrev pub value_behind : Option (List ℕ) → List ℕ → Option (Value × List ℕ)
value_behind (Some rest) bytes = option_map (λ found. (values.Text found.0, found.1)) (text_front rest)
value_behind None bytes = option_map (λ found. (values.Long found.0, found.1)) (number_front bytes)

unfoldable pub value_front : List ℕ → Option (Value × List ℕ)
value_front bytes = value_behind (after_byte 34 bytes) bytes

-- the end of a range, up to the byte that closes it
abbrev pub end_of : ℕ → Option (List ℕ) → List ℕ → Option (Option Value × List ℕ)
end_of closing (Some rest) bytes = Some (None, rest)
end_of closing None bytes = do
  found ← value_front bytes
  rest ← after_byte closing found.1
  Some (Some found.0, rest)

unfoldable pub end_front : ℕ → List ℕ → Option (Option Value × List ℕ)
end_front closing bytes = end_of closing (after_byte closing bytes) bytes

unfoldable pub range_front : List ℕ → Option (Leaf × List ℕ)
range_front bytes = do
  low ← end_front 59 bytes
  high ← end_front 93 low.1
  Some (leaves.Range low.0 high.0, high.1)

abbrev pub starred : List ℕ → Option (List ℕ) → List ℕ → Leaf × List ℕ
starred text (Some after_star) rest = (leaves.Prefix text, after_star)
starred text None rest = (leaves.Is (values.Text text), rest)

abbrev pub whole_of : Option (List ℕ) → List ℕ → Option (Leaf × List ℕ)
whole_of (Some rest) bytes = option_map (λ found. starred found.0 (after_byte 42 found.1) found.1) (text_front rest)
whole_of None bytes = option_map (λ found. (leaves.Is (values.Long found.0), found.1)) (number_front bytes)

-- a value, or a prefix
unfoldable pub whole_front : List ℕ → Option (Leaf × List ℕ)
whole_front bytes = whole_of (after_byte 34 bytes) bytes

abbrev pub leaf_of : Option (List ℕ) → Option (List ℕ) → Option (List ℕ) → List ℕ → Option (Leaf × List ℕ)
leaf_of (Some rest) below above bytes = range_front rest
leaf_of None (Some rest) above bytes = option_map (λ found. (leaves.Below found.0, found.1)) (value_front rest)
leaf_of None None (Some rest) bytes = option_map (λ found. (leaves.Above found.0, found.1)) (value_front rest)
leaf_of None None None bytes = whole_front bytes

unfoldable pub leaf_front : List ℕ → Option (Leaf × List ℕ)
leaf_front bytes = leaf_of (after_byte 91 bytes) (after_byte 60 bytes) (after_byte 62 bytes) bytes

-- what follows the opening of a list
unfoldable pub and_front : List ℕ → Option (List ℕ)
and_front bytes = do
  rest ← after_byte 97 bytes
  rest ← after_byte 110 rest
  rest ← after_byte 100 rest
  after_byte 40 rest

unfoldable pub or_front : List ℕ → Option (List ℕ)
or_front bytes = do
  rest ← after_byte 111 bytes
  rest ← after_byte 114 rest
  after_byte 40 rest

abbrev pub with_tree : QueryTree → Option (List QueryTree × List ℕ) → Option (List QueryTree × List ℕ)
with_tree first None = None
with_tree first (Some found) = Some (first ∷ found.0, found.1)

-- whether the mark after a member is a comma, not the closing bracket; and what follows it
abbrev pub mark_after : Option (List ℕ) → Option (List ℕ) → Option (Bool × List ℕ)
mark_after (Some rest) bracket = Some (true, rest)
mark_after None (Some rest) = Some (false, rest)
mark_after None None = None

unfoldable pub mark_front : List ℕ → Option (Bool × List ℕ)
mark_front bytes = mark_after (after_byte 44 bytes) (after_byte 41 bytes)

abbrev pub after_mark : QueryTree → Option (Bool × List ℕ) → (List ℕ → Option (List QueryTree × List ℕ)) → Option (List QueryTree × List ℕ)
after_mark member None others = None
after_mark member (Some mark) others = if mark.0 then with_tree member (others mark.1) else Some (member ∷ [], mark.1)

abbrev pub after_list : Option (QueryTree × List ℕ) → (List ℕ → Option (List QueryTree × List ℕ)) → Option (List QueryTree × List ℕ)
after_list None others = None
after_list (Some found) others = after_mark found.0 (mark_front found.1) others

-- a list of at most this many members, up to its closing bracket
unfoldable pub list_front : (List ℕ → Option (QueryTree × List ℕ)) → ℕ → List ℕ → Option (List QueryTree × List ℕ)
list_front member zero bytes = None
list_front member (suc n) bytes = after_list (member bytes) (list_front member n)

abbrev pub ends_name : ℕ → Bool
ends_name byte = not (continues_name byte)

-- where the letters of a name end
abbrev pub name_end : List ℕ → ℕ
name_end bytes = unwrap_or (position ends_name bytes) (length bytes)

abbrev pub name_at_front : List ℕ → List ℕ
name_at_front bytes = take (name_end bytes) bytes

abbrev pub begins_so : List ℕ → Bool
begins_so [] = false
begins_so (byte ∷ rest) = begins_name byte

-- what follows the name at the front and its `:`
unfoldable pub after_name : List ℕ → Option (List ℕ)
after_name bytes = if begins_so bytes then after_byte 58 (drop (name_end bytes) bytes) else None

-- the leaf at the front, which refers to this attribute
abbrev pub leaf_of_field : ℕ → List ℕ → Option (QueryTree × List ℕ)
leaf_of_field field bytes = option_map (λ found. (one field found.0, found.1)) (leaf_front bytes)

abbrev pub query_by : List Field → Option (List ℕ) → Option (List ℕ) → Option (List ℕ) → (List ℕ → Option (QueryTree × List ℕ)) → List ℕ
    → Option (QueryTree × List ℕ)
query_by fields (Some rest) conjunction disjunction member bytes = leaf_of_field (field_number fields (Some (name_at_front bytes))) rest
query_by fields None (Some rest) disjunction member bytes =
    option_map (λ found. (and (trees found.0), found.1)) (list_front member (length rest) rest)
query_by fields None None (Some rest) member bytes =
    option_map (λ found. (or (trees found.0), found.1)) (list_front member (length rest) rest)
query_by fields None None None member bytes = leaf_of_field 0 bytes

-- a query, by a reader of its members
unfoldable pub query_with : List Field → (List ℕ → Option (QueryTree × List ℕ)) → List ℕ → Option (QueryTree × List ℕ)
query_with fields member bytes = query_by fields (after_name bytes) (and_front bytes) (or_front bytes) member bytes

-- a query of at most this many levels
unfoldable pub query_front : List Field → ℕ → List ℕ → Option (QueryTree × List ℕ)
query_front fields zero bytes = None
query_front fields (suc n) bytes = query_with fields (query_front fields n) bytes
