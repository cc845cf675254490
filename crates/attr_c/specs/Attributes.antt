-- The attributes that a text names: each as `name:kind:value`, separated by commas.
use Rattle.std.specs.Prelude.{◌≡◌, ℕ, ◌&&◌, ◌==◌, not, is_some, List, [], ◌∷◌, ◌++◌, length, ℤ}
use Rattle.std.specs.Prelude.{if◌then◌else◌, nat_lt, Option, Some, None, Result, Ok, Err}
use Rattle.std.specs.List.{slice_split}
use Rattle.attr_types.specs.declared.field.Field.{Field}
use Rattle.attr_types.specs.declared.field.TheConstants.{MOST_FIELDS}
use Rattle.attr_types.specs.declared.kind.Kind.{Kind}
use Rattle.attr_types.specs.declared.kind.ValueType.{ValueType}
use Rattle.attr_types.specs.Names.{is_name, field_named, kind_named, value_named}
use Rattle.attr_c.specs.declared.attributes.AttributesError.{AttributesError}
use Rattle.attr_c.specs.declared.attributes.AttributesError.TheVariants as errors
use Rattle.attr_c.specs.declared.codes.TheConstants.{ATTRIBUTES, MEMORY}

-- the parts of a text between bytes with this value
abbrev pub parts_of : ℕ → List ℕ → List (List ℕ)
parts_of mark text = slice_split (λ byte. byte == mark) text

abbrev pub field_with : List ℕ → Option Kind → Option ValueType → Option Field
field_with name (Some kind) (Some value) = Some (record { name = name; kind = kind; value = value })
field_with name (Some kind) None = None
field_with name None value = None

-- an attribute whose name none before it has
abbrev pub named_field : List Field → List ℕ → List ℕ → List ℕ → Option Field
named_field before name kind value =
    if is_name name && not (is_some (field_named before name)) then field_with name (kind_named kind) (value_named value) else None

abbrev pub field_of_parts : List Field → List (List ℕ) → Option Field
field_of_parts before [] = None
field_of_parts before (name ∷ []) = None
field_of_parts before (name ∷ kind ∷ []) = None
field_of_parts before (name ∷ kind ∷ value ∷ []) = named_field before name kind value
field_of_parts before (name ∷ kind ∷ value ∷ part ∷ parts) = None

-- the attribute of a text `name:kind:value`
abbrev pub field_in : List Field → List ℕ → Option Field
field_in before text = field_of_parts before (parts_of 58 text)

-- there are at most eight
abbrev pub next_field : List Field → List ℕ → Option Field
next_field before text = if nat_lt (length before) MOST_FIELDS then field_in before text else None

abbrev pub after_field : ℕ → Option Field → (Field → Result (List Field) ℕ) → Result (List Field) ℕ
after_field number (Some field) next = next field
after_field number None next = Err number

-- the attributes followed by those of these texts, or the number of the first text that names none
unfoldable pub fields_from : List Field → List (List ℕ) → Result (List Field) ℕ
fields_from before [] = Ok before
fields_from before (text ∷ texts) = after_field (length before) (next_field before text) (λ field. fields_from (before ++ field ∷ []) texts)

-- the attributes of a whole text, or the number of the first wrong one, from 0
abbrev pub fields_in : List ℕ → Result (List Field) ℕ
fields_in text = fields_from [] (parts_of 44 text)

-- the result is what the text says; after memory is exhausted nothing is claimed
abbrev pub SaysFields : Result (List Field) AttributesError → Result (List Field) ℕ → Type 0
SaysFields (Ok fields) wanted = wanted ≡ Ok fields
SaysFields (Err (errors.Broken number)) wanted = wanted ≡ Err number
SaysFields (Err errors.Memory) wanted = Unit {0}

abbrev pub SaysField : ℕ → Result Field AttributesError → Option Field → Type 0
SaysField number (Ok field) wanted = wanted ≡ Some field
SaysField number (Err (errors.Broken wrong)) wanted = (wanted ≡ None) × (wrong ≡ number)
SaysField number (Err errors.Memory) wanted = Unit {0}

abbrev pub error_code : AttributesError → ℤ
error_code (errors.Broken number) = ATTRIBUTES
error_code errors.Memory = MEMORY

abbrev pub error_number : AttributesError → ℕ
error_number (errors.Broken number) = number
error_number errors.Memory = 0
