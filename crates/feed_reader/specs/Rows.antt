-- The rows of the feed: why a line is refused, and which line decides. Each row is a predicate of the line or of its
-- JSON value. A line is refused by the first row that holds, and gives an operation if and only if no row holds.
use Rattle.std.specs.Prelude.{◌≡◌, ◌≢◌, ◌⊎◌, ◌↔◌, ℕ, ◌+◌, ◌<◌, false, not, IsTrue, List, [], ◌∷◌, ◌++◌, length, filter, codes}
use Rattle.std.specs.Prelude.{Option, Some, None, is_some, IsSome, IfSome, IsSomeAnd, Ok, Err, IsOk}
use Rattle.std.specs.List.{AllByRecursion, AllZip}
use Rattle.std.specs.Str.{IsUtf8}
use Rattle.serde_json.specs.Data.{Data, boolean, string, object, no_members, member}
use Rattle.serde_json.specs.Read.{read}
use Rattle.serde_json.specs.Find.{get}
use Rattle.attr_types.specs.Change.{most_items}
use Rattle.attr_types.specs.declared.field.Field.{Field}
use Rattle.attr_types.specs.declared.kind.ValueType.{ValueType}
use Rattle.attr_types.specs.declared.op.Op.{Op}
use Rattle.feed_reader.specs.declared.operation.OpName.{OpName}
use Rattle.feed_reader.specs.declared.operation.OpName.TheVariants.{Put, Update, Remove}
use Rattle.feed_reader.specs.declared.operator.Form.{Form}
use Rattle.feed_reader.specs.declared.operator.Form.TheVariants as forms
use Rattle.feed_reader.specs.declared.refusal.Refusal.{Refusal}
use Rattle.feed_reader.specs.declared.refusal.Refusal.TheVariants.{NotJson, NoOperation, BadId, BadValue, Unsupported, TooManyItems}
use Rattle.feed_reader.specs.Feed.{feed_of}
use Rattle.feed_reader.specs.Forms.{IsIdOf, HasItemsForm, IsMatch, IsUpdate}
use Rattle.feed_reader.specs.Grammar.{op_of_line}
use Rattle.feed_reader.specs.Items.{member_count}
use Rattle.feed_reader.specs.Lines.{lines_of, is_blank}
use Rattle.feed_reader.specs.Operators.{operator_named, operator_form, value_form, weight_form}

-- ---- 1. the line is not a JSON value as `serde_json` reads it, including its nesting and UTF-8

abbrev pub IsJson : List ℕ → Data → Type 0
IsJson line d = IsUtf8 line × (read line ≡ Some d)

abbrev pub IsNotJson : List ℕ → Type 0
IsNotJson line = (d : Data) → ¬ IsJson line d

-- ---- 2. the value is not an object, or does not have exactly one of the members `put`, `update` and `remove`

abbrev pub name_of : OpName → List ℕ
name_of Put = codes "put"
name_of Update = codes "update"
name_of Remove = codes "remove"

abbrev pub operations_in : Data → List OpName
operations_in d = filter (λ operation. is_some (get (name_of operation) d)) (Put ∷ Update ∷ Remove ∷ [])

abbrev pub HasNoOperation : Data → Type 0
HasNoOperation d = length (operations_in d) ≢ 1

-- ---- 3. that member is not a text that is an id

abbrev pub IsId : Data → ℕ → Type 0
IsId (string text) doc = IsIdOf text doc
IsId d doc = ⊥

abbrev pub HasBadId : Data → Type 0
HasBadId d =
    (operation : OpName) × (id : Data) × (get (name_of operation) d ≡ Some id) × ((doc : ℕ) → ¬ IsId id doc)

-- ---- 4. in a put or an update, `create` exists and is neither `true` nor `false`, or `fields` is not an object, or
-- a named field exists and does not have its form

abbrev pub IsBoolean : Data → Type 0
IsBoolean (boolean b) = Unit {0}
IsBoolean d = ⊥

abbrev pub IsObject : Data → Type 0
IsObject (object ms) = Unit {0}
IsObject d = ⊥

-- the line's `fields` is an object, namely this one
abbrev pub HasFields : Data → Data → Type 0
HasFields d members = (get (codes "fields") d ≡ Some members) × IsObject members

-- the line's `fields` is an object, in which each named field that exists has the form
abbrev pub EachHas : (Field → Data → Type 0) → List Field → Data → Type 0
EachHas P fields d = (members : Data) × HasFields d members
    × AllByRecursion (λ field. IfSome (get field.name members) (P field)) fields

abbrev pub HasForms : List Field → OpName → Data → Type 0
HasForms fields Put d = IfSome (get (codes "create") d) IsBoolean
    × EachHas (λ field. HasItemsForm field.kind field.value) fields d
HasForms fields Update d = IfSome (get (codes "create") d) IsBoolean × EachHas IsUpdate fields d
HasForms fields Remove d = Unit {0}

abbrev pub HasBadValue : List Field → Data → Type 0
HasBadValue fields d =
    (operation : OpName) × IsSome (get (name_of operation) d) × ¬ (HasForms fields operation d)

-- ---- 5. there is a member `condition`, or in a remove `create`, or an operator, also one in `match`, that its
-- attribute does not have

-- some named field exists with such a value
abbrev pub SomeField : (Field → Data → Type 0) → List Field → Data → Type 0
SomeField P [] members = ⊥
SomeField P (field ∷ fields) members = IsSomeAnd (get field.name members) (P field) ⊎ SomeField P fields members

abbrev pub IsOther : ValueType → Option Form → Data → Type 0
IsOther type None d = Unit {0}
IsOther type (Some forms.AtPlace) d = IsMatch (λ element name value. value_form (operator_named name) type ≡ None) d
IsOther type (Some forms.OfValue) d = IsMatch (λ element name value. weight_form (operator_named name) ≡ None) d
IsOther type (Some form) d = ⊥

abbrev pub HasOtherOperator : Field → Data → Type 0
HasOtherOperator field (object (member name d no_members)) =
    IsOther field.value (operator_form (operator_named name) field.kind field.value) d
HasOtherOperator field d = ⊥

abbrev pub AsksForOther : List Field → Data → Type 0
AsksForOther fields d = IsSome (get (codes "update") d)
    × ((members : Data) × HasFields d members × SomeField HasOtherOperator fields members)

abbrev pub RemovesAndCreates : Data → Type 0
RemovesAndCreates d = IsSome (get (codes "remove") d) × IsSome (get (codes "create") d)

abbrev pub IsUnsupported : List Field → Data → Type 0
IsUnsupported fields d = IsSome (get (codes "condition") d) ⊎ (RemovesAndCreates d ⊎ AsksForOther fields d)

-- ---- 6. the list or object of a put, or that of an update's operator, has more than 1,023 members

abbrev pub GivesTooMany : OpName → Field → Data → Type 0
GivesTooMany Put field d = most_items < member_count d
GivesTooMany Update field (object (member name d no_members)) = most_items < member_count d
GivesTooMany Update field d = ⊥
GivesTooMany Remove field d = ⊥

abbrev pub HasTooMany : List Field → Data → Type 0
HasTooMany fields d = (operation : OpName) × IsSome (get (name_of operation) d)
    × ((members : Data) × HasFields d members × SomeField (GivesTooMany operation) fields members)

-- ---- the table

abbrev pub OfJson : List ℕ → (Data → Type 0) → Type 0
OfJson line P = (d : Data) × IsJson line d × P d

abbrev pub row_number : Refusal → ℕ
row_number NotJson = 1
row_number NoOperation = 2
row_number BadId = 3
row_number BadValue = 4
row_number Unsupported = 5
row_number TooManyItems = 6

abbrev pub HasRow : List Field → List ℕ → Refusal → Type 0
HasRow fields line NotJson = IsNotJson line
HasRow fields line NoOperation = OfJson line HasNoOperation
HasRow fields line BadId = OfJson line HasBadId
HasRow fields line BadValue = OfJson line (HasBadValue fields)
HasRow fields line Unsupported = OfJson line (IsUnsupported fields)
HasRow fields line TooManyItems = OfJson line (HasTooMany fields)

-- the row holds, and no row before it
abbrev pub IsFirstRow : List Field → List ℕ → Refusal → Type 0
IsFirstRow fields line row =
    HasRow fields line row × ((before : Refusal) → row_number before < row_number row → ¬ HasRow fields line before)

-- a line is refused by the first row that holds
abbrev pub RefusedByFirstRow : Type 0
RefusedByFirstRow = (fields : List Field) (line : List ℕ) (row : Refusal)
    → (op_of_line fields line ≡ Err row) ↔ IsFirstRow fields line row

-- a line gives an operation if and only if no row holds
abbrev pub TakenWithoutRow : Type 0
TakenWithoutRow = (fields : List Field) (line : List ℕ)
    → IsOk (op_of_line fields line) ↔ ((row : Refusal) → ¬ HasRow fields line row)

-- ---- the feed

-- the line is blank, or gives an operation
abbrev pub IsSoundLine : List Field → List ℕ → Type 0
IsSoundLine fields line = IsTrue (is_blank line) ⊎ IsOk (op_of_line fields line)

-- the line with this number is refused in this way, and each line before it is sound
pub record IsFirstFault (fields : List Field) (lines : List (List ℕ)) (line : ℕ) (refusal : Refusal) : Type 0 where
  pub before : List (List ℕ)
  pub text : List ℕ
  pub after : List (List ℕ)
  pub cut : lines ≡ before ++ (text ∷ after)
  pub place : line ≡ length before + 1
  pub sound : AllByRecursion (IsSoundLine fields) before
  pub faulty : (is_blank text ≡ false) × (op_of_line fields text ≡ Err refusal)

-- a feed is refused by its first faulty line
abbrev pub RefusedByFirstFault : Type 0
RefusedByFirstFault = (fields : List Field) (bytes : List ℕ) (line : ℕ) (refusal : Refusal)
    → (feed_of fields bytes ≡ Err (line, refusal)) ↔ IsFirstFault fields (lines_of bytes) line refusal

-- a feed gives the operations of its lines that are not blank if and only if each of them gives one
abbrev pub GivesEachOp : Type 0
GivesEachOp = (fields : List Field) (bytes : List ℕ) (ops : List Op)
    → (feed_of fields bytes ≡ Ok ops)
    ↔ AllZip (λ line op. op_of_line fields line ≡ Ok op) (filter (λ line. not (is_blank line)) (lines_of bytes)) ops
