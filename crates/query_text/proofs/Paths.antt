-- Where a machine comes to over the text of a value or a name.
use Rattle.std.proofs.Common.{◌≡◌, ◌<◌, ◌≤◌, ◌+◌, ◌-◌, ◌*◌, ◌/◌, ◌%◌, ◌^◌, ℕ, zero, suc, ℤ, pos, negsuc, List, [], ◌∷◌, ◌++◌, map, length, Bool, true, false, ◌&&◌, cond, eqb, nat_lt, nat_le, Option, Some, None, refl}
use Rattle.std.proofs.Common.{sym, ap, ap₂, subst, ◌∙◌, not, inl, inr, ◌==◌, ◌||◌, append_assoc, append-nil, zero-add, arith}
use Rattle.std.specs.Option.{option_and_then}
use Rattle.std.specs.List.{flat_map, list_all}
use Rattle.std.specs.Int.Digits.{digits_of}
use Rattle.std.proofs.Math.Bool.{and_assoc}
use Rattle.std.proofs.lemmas.Bool.{and_parts}
use Rattle.std.proofs.lemmas.Int.Digits.{digits_of_step}
use Rattle.std.proofs.lemmas.Bool.{cases_lt, cases_Bool}
use Rattle.std.proofs.lemmas.Bool.Decides.{nat_tests, eqb_tells}
use Rattle.std.proofs.lemmas.List.{map-append}
use Rattle.attr_types.specs.declared.kind.ValueType.{ValueType}
use Rattle.attr_types.specs.declared.kind.ValueType.TheVariants as types
use Rattle.attr_types.specs.Fitting.{is_of_type}
use Rattle.attr_types.specs.Names.{begins_name, continues_name, is_name}
use Rattle.query_text.specs.declared.mode.Role.{Role}
use Rattle.query_text.specs.declared.mode.Role.TheVariants as roles
use Rattle.query_text.specs.declared.mode.Spell.{Spell}
use Rattle.query_text.specs.declared.mode.Spell.TheVariants as spells
use Rattle.query_text.specs.declared.mode.Mode.{Mode}
use Rattle.query_text.specs.declared.mode.Mode.TheVariants as modes
use Rattle.attr_types.specs.declared.value.Value.{Value}
use Rattle.attr_types.specs.declared.value.Value.TheVariants as values
use Rattle.query_text.specs.Grammar.{numeral, number_text, escaped, quoted, value_text, is_in_range}
use Rattle.query_text.specs.Modes.{next_mode, capped, is_digit, number_ended, leaf_begun, query_begun, name_next, spell_begun, spell_next}
use Rattle.query_text.specs.Survey.{is_right, is_in_size, is_long_size, wants_long, wants_text}
use Rattle.query_text.proofs.Walks.{walk, walk-append}

-- a mode inside a query, where brackets and the attribute stay
abbrev pub is_plain : Mode → Bool
is_plain modes.Start = false
is_plain modes.Opened = false
is_plain modes.Named = false
is_plain modes.Closed = false
is_plain _ = true

-- a mode, and whether all values so far are right and small
pub record Pace : Type 0 where
  pub mode : Mode
  pub right : Bool
  pub small : Bool

abbrev pub pace_at : Mode → Bool → Bool → Pace
pace_at mode right small = record { mode = mode; right = right; small = small }

abbrev pub pace_to : ValueType → Pace → Mode → Option Pace
pace_to value pace mode = cond (is_plain mode) (Some (pace_at mode (pace.right && is_right value mode) (pace.small && is_in_size mode))) None

abbrev pub pace_next : ValueType → Bool → Pace → ℕ → Option Pace
pace_next value nested pace byte = option_and_then (pace_to value pace) (next_mode nested pace.mode byte)

-- these bytes lead from one mode to another inside a query
abbrev pub Path : ValueType → Mode → List ℕ → Mode → Bool → Bool → Type 0
Path value from bytes to right small = (nested r s : Bool)
    → walk (pace_next value nested) (pace_at from r s) bytes ≡ Some (pace_at to (r && right) (s && small))

pub one_byte : (value : ValueType) (from to : Mode) (byte : ℕ) → ((nested : Bool) → next_mode nested from byte ≡ Some to)
    → is_plain to ≡ true → Path value from (byte ∷ []) to (is_right value to) (is_in_size to)
unfolding walk
one_byte value from to byte next plain nested r s =
    ap (λ o. option_and_then (λ more. walk (pace_next value nested) more []) (option_and_then (pace_to value (pace_at from r s)) o)) (next nested)
    ∙ ap (λ b. option_and_then (λ more. walk (pace_next value nested) more []) (cond b (Some (pace_at to (r && is_right value to) (s && is_in_size to))) None)) plain

pub joined : (value : ValueType) (from mid to : Mode) (xs ys : List ℕ) (right right' small small' : Bool)
    → Path value from xs mid right small → Path value mid ys to right' small' → Path value from (xs ++ ys) to (right && right') (small && small')
joined value from mid to xs ys right right' small small' p q nested r s =
    walk-append (pace_next value nested) (pace_at from r s) xs ys
    ∙ ap (option_and_then (λ more. walk (pace_next value nested) more ys)) (p nested r s)
    ∙ q nested (r && right) (s && small)
    ∙ (λ i. Some (pace_at to (and_assoc r right right' i) (and_assoc s small small' i)))

pub judged_so : (value : ValueType) (from to to' : Mode) (xs ys : List ℕ) (right right' small small' : Bool)
    → xs ≡ ys → to ≡ to' → right ≡ right' → small ≡ small' → Path value from xs to right small → Path value from ys to' right' small'
judged_so value from to to' xs ys right right' small small' e m p q path nested r s =
    ap (walk (pace_next value nested) (pace_at from r s)) (sym e) ∙ path nested r s
    ∙ (λ i. Some (pace_at (m i) (r && p i) (s && q i)))

-- the digits of a number
pub digits_by_steps : (P : ℕ → List ℕ → Type 0) → ((n : ℕ) → 0 < n → n < 10 → P n ((48 + n) ∷ []))
    → ((n : ℕ) (digits : List ℕ) → 10 ≤ n → P (n / 10) digits → P n (digits ++ (48 + n % 10) ∷ []))
    → (k n : ℕ) → n ≤ k → 0 < n → P n (map (λ d. 48 + d) (digits_of 10 n))
digits_by_steps P one more zero n h p = absurd (omega arith)
digits_by_steps P one more (suc k) n h p =
    let step : map (λ d. 48 + d) (digits_of 10 n) ≡ map (λ d. 48 + d) (digits_of 10 (n / 10)) ++ (48 + n % 10) ∷ [] =
    ap (map (λ d. 48 + d)) (digits_of_step 10 n (omega arith) p) ∙ map-append (λ d. 48 + d) (digits_of 10 (n / 10)) (n % 10 ∷ []) in
    elim (cases_lt n 10) [
      | inl small ↦
          let low : n / 10 ≡ 0 = omega arith in
          let rest : n % 10 ≡ n = omega arith in
          subst (P n) (sym (step ∙ ap₂ (λ q r. map (λ d. 48 + d) (digits_of 10 q) ++ (48 + r) ∷ []) low rest)) (one n p small)
      | inr large ↦ subst (P n) (sym step) (more n _ large (digits_by_steps P one more k (n / 10) (omega arith) (omega arith)))
    ]

pub and_true : (b : Bool) → (b && true) ≡ b
and_true true = refl
and_true false = refl

pub and_same : (b : Bool) → (b && b) ≡ b
and_same true = refl
and_same false = refl

size_grows : (negative : Bool) (n : ℕ) → 10 ≤ n → (is_long_size negative (n / 10) && is_long_size negative (capped n)) ≡ is_long_size negative n
size_grows true n h = grind (arith, nat_tests)
size_grows false n h = grind (arith, nat_tests)

pub capped_digit : (n : ℕ) → capped (capped (capped (n / 10) * 10) + n % 10) ≡ capped n
capped_digit n = omega arith

digit_next : (nested : Bool) (role : Role) (negative : Bool) (size digit : ℕ) → 0 < size → digit < 10
    → next_mode nested (modes.Number role negative size) (48 + digit) ≡ Some (modes.Number role negative (capped (capped (size * 10) + digit)))
unfolding next_mode
digit_next nested role negative size digit some small =
    let test : (is_digit (48 + digit) && not (eqb size 0)) ≡ true = grind (arith, nat_tests) in
    let back : (48 + digit) - 48 ≡ digit = omega arith in
    ap (λ b. cond b (Some (modes.Number role negative (capped (capped (size * 10) + ((48 + digit) - 48))))) (number_ended nested role (48 + digit))) test
    ∙ ap (λ d. Some (modes.Number role negative (capped (capped (size * 10) + d)))) back

-- a value may begin in this mode
pub record TakesNumber (from : Mode) (role : Role) : Type 0 where
  pub minus : (nested : Bool) → next_mode nested from 45 ≡ Some (modes.Minus role)
  pub digit : (nested : Bool) (d : ℕ) → d < 10 → next_mode nested from (48 + d) ≡ Some (modes.Number role false d)

abbrev pub TakesText : Mode → Role → Type 0
TakesText from role = (nested : Bool) → next_mode nested from 34 ≡ Some (modes.Text role 0)

digits_path : (value : ValueType) (from : Mode) (role : Role) (negative : Bool)
    → ((nested : Bool) (d : ℕ) → 0 < d → d < 10 → next_mode nested from (48 + d) ≡ Some (modes.Number role negative d)) → (n : ℕ) → 0 < n
    → Path value from (map (λ d. 48 + d) (digits_of 10 n)) (modes.Number role negative (capped n)) (wants_long value) (is_long_size negative n)
digits_path value from role negative first n some =
    digits_by_steps (λ n digits. Path value from digits (modes.Number role negative (capped n)) (wants_long value) (is_long_size negative n))
    (λ n some small. judged_so value from _ _ _ _ _ _ _ _ refl (ap (modes.Number role negative) (omega arith)) refl refl
    (one_byte value from (modes.Number role negative n) (48 + n) (λ nested. first nested n some small) refl))
    (λ n digits large before. judged_so value from _ _ _ _ _ _ _ _ refl refl (and_same (wants_long value)) (size_grows negative n large)
    (joined value from _ _ digits _ _ _ _ _ before
    (judged_so value _ _ _ _ _ _ _ _ _ refl (ap (modes.Number role negative) (capped_digit n)) refl (ap (is_long_size negative) (capped_digit n))
    (one_byte value (modes.Number role negative (capped (n / 10))) (modes.Number role negative (capped (capped (capped (n / 10) * 10) + n % 10))) (48 + n % 10)
    (λ nested. digit_next nested role negative (capped (n / 10)) (n % 10) (omega arith) (omega arith)) refl))))
    n n (omega arith) some

minus_digit : (nested : Bool) (role : Role) (d : ℕ) → 0 < d → d < 10 → next_mode nested (modes.Minus role) (48 + d) ≡ Some (modes.Number role true d)
unfolding next_mode
minus_digit nested role d some small =
    let test : (nat_le 49 (48 + d) && nat_le (48 + d) 57) ≡ true = grind (arith, nat_tests) in
    let back : (48 + d) - 48 ≡ d = omega arith in
    ap (λ b. cond b (Some (modes.Number role true ((48 + d) - 48))) None) test ∙ ap (λ d. Some (modes.Number role true d)) back

-- the mode after a number
abbrev pub number_mode : Role → ℤ → Mode
number_mode role (pos n) = modes.Number role false (capped n)
number_mode role (negsuc n) = modes.Number role true (capped (n + 1))

pub size_of_negative : (n : ℕ) → is_long_size true (n + 1) ≡ nat_lt n (2 ^ 63)
size_of_negative n = grind (arith, nat_tests)

pub numeral_path : (value : ValueType) (from : Mode) (role : Role) → TakesNumber from role → (n : ℕ)
    → Path value from (numeral n) (modes.Number role false (capped n)) (wants_long value) (nat_lt n (2 ^ 63))
unfolding numeral
numeral_path value from role takes n =
    elim (eqb_tells n 0) [
      | inl none ↦ judged_so value from _ _ (48 ∷ []) _ _ _ _ _
          (sym (ap (λ b. cond b (48 ∷ []) (map (λ digit. 48 + digit) (digits_of 10 n))) none.0))
          (ap (λ n. modes.Number role false (capped n)) (sym none.1)) refl (ap (λ n. nat_lt n (2 ^ 63)) (sym none.1))
          (one_byte value from (modes.Number role false 0) 48 (λ nested. takes.digit nested 0 (omega arith)) refl)
      | inr some ↦ judged_so value from _ _ (map (λ digit. 48 + digit) (digits_of 10 n)) _ _ _ _ _
          (sym (ap (λ b. cond b (48 ∷ []) (map (λ digit. 48 + digit) (digits_of 10 n))) some.0)) refl refl refl
          (digits_path value from role false (λ nested d _ small. takes.digit nested d small) n (omega (arith, some.1)))
    ]

long_type : (value : ValueType) (z : ℤ) → wants_long value ≡ is_of_type value (values.Long z)
long_type types.Long z = refl
long_type types.Text z = refl

text_type : (value : ValueType) (bytes : List ℕ) → wants_text value ≡ is_of_type value (values.Text bytes)
text_type types.Long bytes = refl
text_type types.Text bytes = refl

pub number_path : (value : ValueType) (from : Mode) (role : Role) → TakesNumber from role → (z : ℤ)
    → Path value from (number_text z) (number_mode role z) (is_of_type value (values.Long z)) (is_in_range (values.Long z))
unfolding numeral
number_path value from role takes (pos n) =
    judged_so value from _ _ (numeral n) _ _ _ _ _ refl refl (long_type value (pos n)) refl (numeral_path value from role takes n)
number_path value from role takes (negsuc n) =
    let some : eqb (n + 1) 0 ≡ false = grind (arith, nat_tests) in
    judged_so value from _ _ _ _ _ _ _ _
    (ap (λ digits. 45 ∷ digits) (sym (ap (λ b. cond b (48 ∷ []) (map (λ digit. 48 + digit) (digits_of 10 (n + 1)))) some))) refl
    (and_same (wants_long value) ∙ long_type value (negsuc n)) (size_of_negative n)
    (joined value from (modes.Minus role) _ (45 ∷ []) _ _ _ _ _
    (one_byte value from (modes.Minus role) 45 takes.minus refl)
    (digits_path value (modes.Minus role) role true (λ nested d some small. minus_digit nested role d some small) (n + 1) (omega arith)))

twice : (b c : Bool) → b ≡ c → (b && (true && b)) ≡ c
twice true c e = e
twice false c e = e

len_grows : (k : ℕ) → (nat_le k 1024 && nat_le (capped (capped k + 1)) 1024) ≡ nat_le (k + 1) 1024
len_grows k = grind (arith, nat_tests)

capped_one : (k : ℕ) → capped (capped k + 1) ≡ capped (k + 1)
capped_one k = omega arith

byte_path : (value : ValueType) (from : Mode) (role : Role) (front : List ℕ) (k byte : ℕ)
    → Path value from front (modes.Text role (capped k)) (wants_text value) (nat_le k 1024)
    → Path value from (front ++ escaped byte) (modes.Text role (capped (k + 1))) (wants_text value) (nat_le (k + 1) 1024)
unfolding next_mode
byte_path value from role front k byte before =
    elim (cases_Bool ((byte == 34) || (byte == 92))) [
      | inl special ↦
          judged_so value from _ _ _ _ _ _ _ _
          (ap (λ b. front ++ cond b (92 ∷ byte ∷ []) (byte ∷ [])) (sym special)) (ap (modes.Text role) (capped_one k))
          (twice (wants_text value) _ refl) (len_grows k)
          (joined value from _ _ front (92 ∷ byte ∷ []) _ _ _ _ before
          (joined value _ (modes.Escape role (capped k)) _ (92 ∷ []) (byte ∷ []) _ _ _ _
          (one_byte value (modes.Text role (capped k)) (modes.Escape role (capped k)) 92 (λ _. refl) refl)
          (one_byte value (modes.Escape role (capped k)) (modes.Text role (capped (capped k + 1))) byte
          (λ _. ap (λ b. cond b (Some (modes.Text role (capped (capped k + 1)))) None) special) refl)))
      | inr plain ↦
          let no_quote : eqb byte 34 ≡ false = grind (arith, nat_tests) in
          let no_escape : eqb byte 92 ≡ false = grind (arith, nat_tests) in
          judged_so value from _ _ _ _ _ _ _ _
          (ap (λ b. front ++ cond b (92 ∷ byte ∷ []) (byte ∷ [])) (sym plain)) (ap (modes.Text role) (capped_one k))
          (and_same (wants_text value)) (len_grows k)
          (joined value from _ _ front (byte ∷ []) _ _ _ _ before
          (one_byte value (modes.Text role (capped k)) (modes.Text role (capped (capped k + 1))) byte
          (λ _. ap₂ (λ b c. Some (cond b (modes.Quoted role) (cond c (modes.Escape role (capped k)) (modes.Text role (capped (capped k + 1)))))) no_quote no_escape)
          refl))
    ]

bytes_path : (value : ValueType) (from : Mode) (role : Role) (bytes front : List ℕ) (k : ℕ)
    → Path value from front (modes.Text role (capped k)) (wants_text value) (nat_le k 1024)
    → Path value from (front ++ flat_map escaped bytes) (modes.Text role (capped (k + length bytes))) (wants_text value) (nat_le (k + length bytes) 1024)
bytes_path value from role [] front k before =
    let same : k ≡ k + 0 = omega arith in
    judged_so value from _ _ _ _ _ _ _ _ (sym (append-nil front)) (ap (λ k. modes.Text role (capped k)) same) refl (ap (λ k. nat_le k 1024) same) before
bytes_path value from role (byte ∷ bytes) front k before =
    let same : (k + 1) + length bytes ≡ k + suc (length bytes) = omega arith in
    judged_so value from _ _ _ _ _ _ _ _ (append_assoc front (escaped byte) (flat_map escaped bytes))
    (ap (λ k. modes.Text role (capped k)) same) refl (ap (λ k. nat_le k 1024) same)
    (bytes_path value from role bytes (front ++ escaped byte) (k + 1) (byte_path value from role front k byte before))

pub quoted_path : (value : ValueType) (from : Mode) (role : Role) → TakesText from role → (bytes : List ℕ)
    → Path value from (quoted bytes) (modes.Quoted role) (is_of_type value (values.Text bytes)) (is_in_range (values.Text bytes))
unfolding next_mode
quoted_path value from role takes bytes =
    judged_so value from _ _ _ _ _ _ _ _ refl refl (and_true (wants_text value) ∙ text_type value bytes)
    (and_true (nat_le (0 + length bytes) 1024) ∙ ap (λ k. nat_le k 1024) (zero-add (length bytes)))
    (joined value from _ (modes.Quoted role) _ (34 ∷ []) _ _ _ _
    (bytes_path value from role bytes (34 ∷ []) 0 (one_byte value from (modes.Text role 0) 34 takes refl))
    (one_byte value (modes.Text role (capped (0 + length bytes))) (modes.Quoted role) 34 (λ _. refl) refl))

-- the mode after a value
abbrev pub value_mode : Role → Value → Mode
value_mode role (values.Long z) = number_mode role z
value_mode role (values.Text bytes) = modes.Quoted role

-- a value of this type may begin in this mode
abbrev pub Takes : Mode → Role → Value → Type 0
Takes from role (values.Long z) = TakesNumber from role
Takes from role (values.Text bytes) = TakesText from role

pub value_path : (value : ValueType) (from : Mode) (role : Role) (v : Value) → Takes from role v
    → Path value from (value_text v) (value_mode role v) (is_of_type value v) (is_in_range v)
value_path value from role (values.Long z) takes = number_path value from role takes z
value_path value from role (values.Text bytes) takes = quoted_path value from role takes bytes

-- where a value may begin
pub at_bound : (v : Value) → Takes modes.Bound roles.Bound v
unfolding next_mode
at_bound (values.Long z) = record { minus = λ _. refl; digit = λ nested d h. grind (arith, nat_tests) }
at_bound (values.Text bytes) = λ _. refl

pub at_low : (v : Value) → Takes modes.Low roles.Low v
unfolding next_mode
at_low (values.Long z) = record { minus = λ _. refl; digit = λ nested d h. grind (arith, nat_tests) }
at_low (values.Text bytes) = λ _. refl

pub at_high : (v : Value) → Takes modes.High roles.High v
unfolding next_mode
at_high (values.Long z) = record { minus = λ _. refl; digit = λ nested d h. grind (arith, nat_tests) }
at_high (values.Text bytes) = λ _. refl

-- a leaf may begin in this mode
abbrev pub TakesLeaf : Mode → Type 0
TakesLeaf from = (nested : Bool) (byte : ℕ) → begins_name byte ≡ false → next_mode nested from byte ≡ leaf_begun byte

-- a query may begin in this mode
abbrev pub Begins : Mode → Type 0
Begins from = (nested : Bool) (byte : ℕ) → next_mode nested from byte ≡ query_begun byte

pub leaf_taken : (from : Mode) → Begins from → TakesLeaf from
leaf_taken from begins nested byte plain =
    begins nested byte ∙ ap (λ b. cond b (Some (modes.Name (spell_begun byte))) (leaf_begun byte)) plain

digit_begins : (d : ℕ) → d < 10 → (begins_name (48 + d) ≡ false) × (leaf_begun (48 + d) ≡ Some (modes.Number roles.Alone false d))
digit_begins d h = (grind (arith, nat_tests), grind (arith, nat_tests))

pub at_front : (from : Mode) → TakesLeaf from → (v : Value) → Takes from roles.Alone v
at_front from begins (values.Long z) = record {
  minus = λ nested. begins nested 45 refl;
  digit = λ nested d h. begins nested (48 + d) (digit_begins d h).0 ∙ (digit_begins d h).1;
}
at_front from begins (values.Text bytes) = λ nested. begins nested 34 refl

-- ---- names

-- what the letters of a name are
abbrev pub spell_over : Spell → List ℕ → Spell
spell_over spell [] = spell
spell_over spell (c ∷ cs) = spell_over (spell_next spell c) cs

abbrev pub spell_of : List ℕ → Spell
spell_of [] = spells.Other
spell_of (c ∷ cs) = spell_over (spell_begun c) cs

pub name_parts : (c : ℕ) (cs : List ℕ) → is_name (c ∷ cs) ≡ true → (begins_name c ≡ true) × (list_all continues_name cs ≡ true)
name_parts c cs is =
    let parts = and_parts (begins_name c) (continues_name c && list_all continues_name cs) is in
    (parts.0, (and_parts (continues_name c) (list_all continues_name cs) parts.1).1)

and_none : (b : Bool) → b ≡ (b && true)
and_none true = refl
and_none false = refl

nothing_path : (value : ValueType) (from : Mode) → Path value from [] from true true
unfolding walk
nothing_path value from nested r s = λ i. Some (pace_at from (and_none r i) (and_none s i))

letters_path : (value : ValueType) (spell : Spell) (cs : List ℕ) → list_all continues_name cs ≡ true
    → Path value (modes.Name spell) cs (modes.Name (spell_over spell cs)) true true
unfolding next_mode
letters_path value spell [] all = nothing_path value (modes.Name spell)
letters_path value spell (c ∷ cs) all =
    let parts = and_parts (continues_name c) (list_all continues_name cs) all in
    joined value (modes.Name spell) (modes.Name (spell_next spell c)) (modes.Name (spell_over (spell_next spell c) cs)) (c ∷ []) cs true true true true
    (one_byte value (modes.Name spell) (modes.Name (spell_next spell c)) c (λ nested. name_goes spell c parts.0) refl)
    (letters_path value (spell_next spell c) cs parts.1)
  where
    name_goes : (spell : Spell) (c : ℕ) → continues_name c ≡ true → name_next spell c ≡ Some (modes.Name (spell_next spell c))
    name_goes spell c goes = rw goes refl

pub name_path : (value : ValueType) (from : Mode) → Begins from → (name : List ℕ) → is_name name ≡ true
    → Path value from name (modes.Name (spell_of name)) true true
unfolding next_mode
name_path value from begins [] is = absurd cc
name_path value from begins (c ∷ cs) is =
    let parts = name_parts c cs is in
    joined value from (modes.Name (spell_begun c)) (modes.Name (spell_over (spell_begun c) cs)) (c ∷ []) cs true true true true
    (one_byte value from (modes.Name (spell_begun c)) c (λ nested. begins nested c ∙ ap (λ b. cond b (Some (modes.Name (spell_begun c))) (leaf_begun c)) parts.0) refl)
    (letters_path value (spell_begun c) cs parts.1)
