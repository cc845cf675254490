-- The forms of the values of a feed: those of Vespa's document JSON format for the collection types of attributes,
-- within the limits of this engine. `Data` is a JSON value as `serde_json` reads it.
use Rattle.std.specs.Prelude.{ℕ, pos, ◌≡◌, ◌<◌, ◌≤◌, ◌^◌, ◌&&◌, ◌++◌, List, ◌∷◌, length, IsTrue, IfSome, IsSomeAnd, codes}
use Rattle.std.specs.List.{All}
use Rattle.std.specs.Prelude.{◌≢◌}
use Rattle.std.specs.Str.Parse.{digits_value, signed_digits_value}
use Rattle.serde_json.specs.Data.{unsigned, negative, Data, null, number, string, array, object}
use Rattle.serde_json.specs.Data.{Items, no_items, item, Members, no_members, member}
use Rattle.attr_types.specs.Lawful.{IsDocNumber}
use Rattle.attr_types.specs.declared.field.Field.{Field}
use Rattle.attr_types.specs.declared.kind.Kind.{Kind}
use Rattle.attr_types.specs.declared.kind.Kind.TheVariants.{Single, Array, WeightedSet}
use Rattle.attr_types.specs.declared.kind.ValueType.{ValueType}
use Rattle.attr_types.specs.declared.kind.ValueType.TheVariants.{Long, Text}
use Rattle.feed_reader.specs.declared.operator.Form.{Form}
use Rattle.feed_reader.specs.declared.operator.Form.TheVariants as forms
use Rattle.feed_reader.specs.declared.operator.ItemForm.{ItemForm}
use Rattle.feed_reader.specs.declared.operator.ItemForm.TheVariants.{New, Amount}
use Rattle.feed_reader.specs.Elements.{match_parts}
use Rattle.feed_reader.specs.Operators.{operator_named, operator_form, value_form, weight_form}
use Rattle.feed_reader.specs.Numerals.{is_positive_numeral, is_whole_numeral, is_long_number}
use Rattle.feed_reader.specs.Values.{is_weight_number}

-- ---- an id

abbrev pub HasNoColon : List ℕ → Type 0
HasNoColon text = All (λ b. b ≢ 58) text

-- two texts with a colon between them
abbrev pub with_colon : List ℕ → List ℕ → List ℕ
with_colon text more = text ++ (58 ∷ more)

-- `id:`, a namespace, `:`, a document type, `:`, a part that may be empty, `:`, and the document's number in decimal,
-- without sign or leading zero; there is no colon in the first three
pub record IsIdOf (text : List ℕ) (doc : ℕ) : Type 0 where
  pub namespace : List ℕ
  pub type : List ℕ
  pub part : List ℕ
  pub digits : List ℕ
  pub whole : text ≡ with_colon (codes "id") (with_colon namespace (with_colon type (with_colon part digits)))
  pub namespace_there : 0 < length namespace
  pub type_there : 0 < length type
  pub no_colons : HasNoColon namespace × (HasNoColon type × HasNoColon part)
  pub decimal : IsTrue (is_positive_numeral digits)
  pub document : digits_value 10 digits ≡ doc
  pub there : IsDocNumber doc

-- ---- values, names and weights

-- a number that `serde_json` reads as a whole number of 64 signed bits: one without a point and an exponent, and not
-- `-0`
abbrev pub IsLong : Data → Type 0
IsLong (number (unsigned n)) = n < 2 ^ 63
IsLong (number (negative z)) = Unit {0}
IsLong d = ⊥

abbrev pub IsValue : ValueType → Data → Type 0
IsValue Long d = IsLong d
IsValue Text (string bytes) = length bytes ≤ 1024
IsValue Text d = ⊥

-- the name of a long is its own decimal digits, with `-` before them if it is negative
abbrev pub IsName : ValueType → List ℕ → Type 0
IsName Long name = IsTrue (is_whole_numeral name && is_long_number (signed_digits_value 10 name))
IsName Text name = length name ≤ 1024

-- a whole number of 32 signed bits; an amount has the same form
abbrev pub IsWeight : Data → Type 0
IsWeight (number (unsigned n)) = IsTrue (is_weight_number (pos n))
IsWeight (number (negative z)) = IsTrue (is_weight_number z)
IsWeight d = ⊥

-- ---- items

abbrev pub AreValues : ValueType → Items → Type 0
AreValues type no_items = Unit {0}
AreValues type (item d ds) = IsValue type d × AreValues type ds

abbrev pub AreWeights : ValueType → Members → Type 0
AreWeights type no_members = Unit {0}
AreWeights type (member name d ms) = IsName type name × (IsWeight d × AreWeights type ms)

abbrev pub AreNames : ValueType → Members → Type 0
AreNames type no_members = Unit {0}
AreNames type (member name d ms) = IsName type name × AreNames type ms

-- a list of values
abbrev pub HasListForm : ValueType → Data → Type 0
HasListForm type (array ds) = AreValues type ds
HasListForm type d = ⊥

-- an object from value to weight
abbrev pub HasWeightsForm : ValueType → Data → Type 0
HasWeightsForm type (object ms) = AreWeights type ms
HasWeightsForm type d = ⊥

-- values to be removed: a list of them, or an object whose names they are, with any members
abbrev pub HasNamesForm : ValueType → Data → Type 0
HasNamesForm type (array ds) = AreValues type ds
HasNamesForm type (object ms) = AreNames type ms
HasNamesForm type d = ⊥

-- the items of each kind
abbrev pub HasKindForm : Kind → ValueType → Data → Type 0
HasKindForm Single type d = IsValue type d
HasKindForm Array type d = HasListForm type d
HasKindForm WeightedSet type d = HasWeightsForm type d

-- for every kind, `null` means no items
abbrev pub HasItemsForm : Kind → ValueType → Data → Type 0
HasItemsForm kind type null = Unit {0}
HasItemsForm kind type d = HasKindForm kind type d

-- ---- updates

-- an index of an array, counted from 0
abbrev pub IsArrayPlace : Data → Type 0
IsArrayPlace (number (unsigned n)) = n ≤ 4294967295
IsArrayPlace d = ⊥

-- a value of a weighted set: the name in a text, or a whole number as itself
abbrev pub IsElement : ValueType → Data → Type 0
IsElement type (string name) = IsName type name
IsElement type d = IsValue type d

-- the change of one value: it is set to a value, or an amount is added
abbrev pub HasValueForm : ValueType → ItemForm → Data → Type 0
HasValueForm type New d = IsValue type d
HasValueForm type (Amount way) d = IsWeight d

-- an object of two members, `element` and an operator, whose values and name have property P
abbrev pub IsMatch : (Data → List ℕ → Data → Type 0) → Data → Type 0
IsMatch P (object ms) = IsSomeAnd (match_parts ms) (λ parts. P parts.0 parts.1 parts.2)
IsMatch P d = ⊥

-- if `match` has the operator, its value has the operator's form
abbrev pub IsChangeAt : ValueType → Data → List ℕ → Data → Type 0
IsChangeAt type element name d = IsArrayPlace element × IfSome (value_form (operator_named name) type) (λ form. HasValueForm type form d)

abbrev pub IsChangeOf : ValueType → Data → List ℕ → Data → Type 0
IsChangeOf type element name d = IsElement type element × IfSome (weight_form (operator_named name)) (λ form. IsWeight d)

abbrev pub HasForm : Form → Kind → ValueType → Data → Type 0
HasForm forms.Items kind type d = HasItemsForm kind type d
HasForm forms.List kind type d = HasListForm type d
HasForm forms.Weights kind type d = HasWeightsForm type d
HasForm forms.Names kind type d = HasNamesForm type d
HasForm (forms.Amount way) kind type d = IsWeight d
HasForm forms.AtPlace kind type d = IsMatch (IsChangeAt type) d
HasForm forms.OfValue kind type d = IsMatch (IsChangeOf type) d

-- an object with one member, the operator; if the attribute has that operator, its value has the operator's form
abbrev pub IsUpdate : Field → Data → Type 0
IsUpdate field (object (member name d no_members)) =
    IfSome (operator_form (operator_named name) field.kind field.value) (λ form. HasForm form field.kind field.value d)
IsUpdate field d = ⊥
