-- What a survey's mode tells of the text before it: the open lists, a name, and what of a query has been read.
use Rattle.std.proofs.Common.{◌≡◌, ◌<◌, ◌+◌, ◌*◌, ◌/◌, ◌%◌, ℕ, ℤ, List, [], ◌∷◌, ◌++◌, map, Bool, true, false, Option, None, cond, eqb, sym, ap, ap₂, ◌∙◌, inl, inr, codes, arith}
use Rattle.std.specs.List.{flat_map, AllByRecursion}
use Rattle.std.specs.Int.Digits.{digits_of}
use Rattle.std.proofs.lemmas.Bool.Decides.{nat_tests, eqb_tells}
use Rattle.std.proofs.lemmas.Int.Digits.{digits_of_step}
use Rattle.std.proofs.lemmas.List.{map-append}
use Rattle.attr_types.specs.declared.kind.ValueType.{ValueType}
use Rattle.attr_types.specs.declared.kind.ValueType.TheVariants as types
use Rattle.attr_types.specs.declared.query.Leaf.{Leaf}
use Rattle.attr_types.specs.Names.{is_name}
use Rattle.query_text.specs.declared.mode.Role.{Role}
use Rattle.query_text.specs.declared.mode.Role.TheVariants as roles
use Rattle.query_text.specs.declared.mode.Spell.{Spell}
use Rattle.query_text.specs.declared.mode.Spell.TheVariants as spells
use Rattle.query_text.specs.declared.mode.Mode.{Mode}
use Rattle.query_text.specs.declared.mode.Mode.TheVariants as modes
use Rattle.query_text.specs.Grammar.{NamedTree, numeral, number_text, escaped, quoted, name_text, leaf_text, tree_text, IsFormedName, IsFormedLeaf, IsFormed}
use Rattle.query_text.specs.Modes.{capped}

-- the lists that are open, the innermost last, each with the members before the one that is read
pub data Stack : Type 0 where
  bottom : Stack
  frame : Stack → Bool → List NamedTree → Stack

abbrev pub word : Bool → List ℕ
word true = codes "and"
word false = codes "or"

abbrev pub with_comma : NamedTree → List ℕ
with_comma query = tree_text query ++ codes ","

abbrev pub stack_text : Stack → List ℕ
stack_text bottom = []
stack_text (frame below kind members) = stack_text below ++ (word kind ++ (codes "(" ++ flat_map with_comma members))

abbrev pub stack_depth : Stack → ℕ
stack_depth bottom = 0
stack_depth (frame below kind members) = stack_depth below + 1

abbrev pub StackFormed : Stack → Type 0
StackFormed bottom = Unit {0}
StackFormed (frame below kind members) = StackFormed below × AllByRecursion IsFormed members

-- the open lists, and the name that was read before the leaf, if there is one
abbrev pub Base : Type 0
Base = Stack × Option (List ℕ)

abbrev pub base_text : Base → List ℕ
base_text base = stack_text base.0 ++ name_text base.1

abbrev pub base_depth : Base → ℕ
base_depth base = stack_depth base.0

abbrev pub BaseFormed : Base → Type 0
BaseFormed base = StackFormed base.0 × IsFormedName base.1

-- the letters so far are these
abbrev pub Spells : Spell → List ℕ → Type 0
Spells spells.A part = part ≡ codes "a"
Spells spells.An part = part ≡ codes "an"
Spells spells.And part = part ≡ codes "and"
Spells spells.O part = part ≡ codes "o"
Spells spells.Or part = part ≡ codes "or"
Spells spells.D part = part ≡ codes "d"
Spells spells.Do part = part ≡ codes "do"
Spells spells.Dot part = part ≡ codes "dot"
Spells spells.Other part = Unit {0}

abbrev pub Spelled : Spell → List ℕ → Type 0
Spelled spell part = (is_name part ≡ true) × Spells spell part

-- what stands in a leaf before its value
pub data Lead : ValueType → Role → Type 0 where
  alone : {type : ValueType} → Lead type roles.Alone
  below : {type : ValueType} → Lead type roles.Bound
  above : {type : ValueType} → Lead type roles.Bound
  low : {type : ValueType} → Lead type roles.Low
  high : {type : ValueType} → Lead type roles.High
  high_number : ℤ → Lead types.Long roles.High
  high_text : List ℕ → Lead types.Text roles.High

abbrev pub lead_text : {type : ValueType} {role : Role} → Lead type role → List ℕ
lead_text alone = []
lead_text below = codes "<"
lead_text above = codes ">"
lead_text low = codes "["
lead_text high = codes "[;"
lead_text (high_number z) = codes "[" ++ (number_text z ++ codes ";")
lead_text (high_text bytes) = codes "[" ++ (quoted bytes ++ codes ";")

abbrev pub bound_text : Bool → List ℕ
bound_text true = codes ">"
bound_text false = codes "<"

-- what of a query was read behind its name where this mode was reached
abbrev pub Partial : Option (List ℕ) → Mode → List ℕ → Type 0
Partial name modes.Start part = (name ≡ None) × (part ≡ [])
Partial name modes.Opened part = (name ≡ None) × (part ≡ [])
Partial name (modes.Name spell) part = (name ≡ None) × Spelled spell part
Partial name modes.Named part = part ≡ []
Partial name modes.Bound part = (is_above : Bool) × (part ≡ bound_text is_above)
Partial name modes.Low part = part ≡ codes "["
Partial name modes.High part = part ≡ codes "[;"
Partial name modes.HighNumber part = (z : ℤ) × (part ≡ codes "[" ++ (number_text z ++ codes ";"))
Partial name modes.HighText part = (bytes : List ℕ) × (part ≡ codes "[" ++ (quoted bytes ++ codes ";"))
Partial name (modes.Minus role) part = (lead : Lead types.Long role) × (part ≡ lead_text lead ++ codes "-")
Partial name (modes.Number role false size) part = (lead : Lead types.Long role) × (n : ℕ) × (part ≡ lead_text lead ++ numeral n) × (size ≡ capped n)
Partial name (modes.Number role true size) part = (lead : Lead types.Long role) × (n : ℕ) × (part ≡ lead_text lead ++ (45 ∷ numeral n)) × (size ≡ capped n) × (0 < n)
Partial name (modes.Text role len) part = (lead : Lead types.Text role) × (bytes : List ℕ) × (part ≡ lead_text lead ++ (34 ∷ flat_map escaped bytes))
Partial name (modes.Escape role len) part = (lead : Lead types.Text role) × (bytes : List ℕ) × (part ≡ lead_text lead ++ ((34 ∷ flat_map escaped bytes) ++ 92 ∷ []))
Partial name (modes.Quoted role) part = (lead : Lead types.Text role) × (bytes : List ℕ) × (part ≡ lead_text lead ++ quoted bytes)
Partial name modes.Ended part = (leaf : Leaf) × IsFormedLeaf leaf × (part ≡ leaf_text leaf)
Partial name modes.Closed part = (name ≡ None) × (query : NamedTree) × IsFormed query × (part ≡ tree_text query)

-- this mode is reached with these lists open
pub record Front (text : List ℕ) (depth : ℕ) (mode : Mode) : Type 0 where
  pub base : Base
  pub formed : BaseFormed base
  pub deep : base_depth base ≡ depth
  pub part : List ℕ
  pub partial : Partial base.1 mode part
  pub whole : text ≡ base_text base ++ part

-- digits
pub numeral_pushed : (n d : ℕ) → 0 < n → d < 10 → numeral n ++ (48 + d) ∷ [] ≡ numeral (n * 10 + d)
unfolding numeral
numeral_pushed n d some small =
    let large : eqb (n * 10 + d) 0 ≡ false = grind (arith, nat_tests) in
    let here : eqb n 0 ≡ false = grind (arith, nat_tests) in
    let front : (n * 10 + d) / 10 ≡ n = omega arith in
    let last : (n * 10 + d) % 10 ≡ d = omega arith in
    ap (λ b. cond b (codes "0") (map (λ digit. 48 + digit) (digits_of 10 n)) ++ (48 + d) ∷ []) here
    ∙ sym (map-append (λ digit. 48 + digit) (digits_of 10 n) (d ∷ []))
    ∙ sym (ap (map (λ digit. 48 + digit)) (digits_of_step 10 (n * 10 + d) (omega arith) (omega arith) ∙ ap₂ (λ q r. digits_of 10 q ++ r ∷ []) front last))
    ∙ sym (ap (λ b. cond b (codes "0") (map (λ digit. 48 + digit) (digits_of 10 (n * 10 + d)))) large)

pub numeral_digit : (d : ℕ) → d < 10 → (48 + d) ∷ [] ≡ numeral d
unfolding numeral
numeral_digit d small =
    elim (eqb_tells d 0) [
      | inl none ↦ ap (λ d. (48 + d) ∷ []) none.1 ∙ sym (ap (λ b. cond b (codes "0") (map (λ digit. 48 + digit) (digits_of 10 d))) none.0)
      | inr some ↦
          let front : d / 10 ≡ 0 = omega arith in
          let last : d % 10 ≡ d = omega arith in
          sym (ap (map (λ digit. 48 + digit)) (digits_of_step 10 d (omega arith) (omega (arith, some.1)) ∙ ap₂ (λ q r. digits_of 10 q ++ r ∷ []) front last))
          ∙ sym (ap (λ b. cond b (codes "0") (map (λ digit. 48 + digit) (digits_of 10 d))) some.0)
    ]
