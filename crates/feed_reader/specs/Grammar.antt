-- What a line of a feed asks for, or the first check that refuses it.
use Rattle.std.specs.Prelude.{ℕ, Bool, false, ◌||◌, List, [], ◌∷◌, nat_lt, if◌then◌else◌, codes}
use Rattle.std.specs.Prelude.{Option, Some, None, is_some, option_and_then, option_map, unwrap_or, Result, Ok, Err}
use Rattle.std.specs.List.{list_any}
use Rattle.std.specs.Str.{is_utf8}
use Rattle.serde_json.specs.Data.{Data, Members, no_members, member}
use Rattle.serde_json.specs.Read.{read}
use Rattle.serde_json.specs.Find.{get, as_bool, as_str, as_object}
use Rattle.attr_types.specs.Change.{most_items}
use Rattle.attr_types.specs.declared.change.Change.{Change}
use Rattle.attr_types.specs.declared.change.Change.TheVariants as changes
use Rattle.attr_types.specs.declared.field.Field.{Field}
use Rattle.attr_types.specs.declared.items.Item.{Item}
use Rattle.attr_types.specs.declared.op.Op.{Op}
use Rattle.attr_types.specs.declared.op.Op.TheVariants as ops
use Rattle.feed_reader.specs.declared.refusal.Refusal.{Refusal}
use Rattle.feed_reader.specs.declared.refusal.Refusal.TheVariants.{NotJson, NoOperation, BadId, BadValue, Unsupported, TooManyItems}
use Rattle.feed_reader.specs.declared.operation.OpName.{OpName}
use Rattle.feed_reader.specs.declared.operation.OpName.TheVariants as operations
use Rattle.feed_reader.specs.declared.operator.Form.{Form}
use Rattle.feed_reader.specs.declared.operator.Form.TheVariants as forms
use Rattle.feed_reader.specs.declared.operation.Asked.{Asked}
use Rattle.feed_reader.specs.declared.operation.Asked.TheVariants as asks
use Rattle.feed_reader.specs.Answers.{◌>>=◌, or_else}
use Rattle.feed_reader.specs.Id.{id_read}
use Rattle.feed_reader.specs.Operators.{operator_named, operator_form}
use Rattle.feed_reader.specs.Elements.{amount_read, at_read, of_read}
use Rattle.feed_reader.specs.Items.{items_read, list_read, set_read, taken_read, member_count}

-- 1. The line is one JSON value in UTF-8, as `serde_json` reads it. That determines which numbers it accepts and how
-- deep lists and objects may nest; the last of two equal names counts
unfoldable pub json_read : List ℕ → Option Data
json_read line = if is_utf8 line then read line else None

-- 2. It is an object with exactly one of the members `put`, `update` and `remove`
abbrev pub only_one : Option Data → Option Data → Option Data → Option (OpName × Data)
only_one (Some d) None None = Some (operations.Put, d)
only_one None (Some d) None = Some (operations.Update, d)
only_one None None (Some d) = Some (operations.Remove, d)
only_one _ _ _ = None

abbrev pub op_name_of : Data → Option (OpName × Data)
op_name_of d = only_one (get (codes "put") d) (get (codes "update") d) (get (codes "remove") d)

-- 3. That member is an id
abbrev pub id_of : Data → Option ℕ
id_of d = option_and_then id_read (as_str d)

-- 4. A put and an update have an object `fields`; a named field may be missing in it
abbrev pub if_object : Data → Option Data
if_object d = if is_some (as_object d) then Some d else None

abbrev pub fields_of : Data → Option Data
fields_of d = option_and_then if_object (get (codes "fields") d)

-- the results of reading each field in turn, from its value in `fields`
unfoldable pub each_field : {X : Type 0} → (Field → Option Data → Result X Refusal) → List Field → Data → Result (List X) Refusal
each_field read_of [] d = Ok []
each_field read_of (field ∷ fields) d = do
  x ← read_of field (get field.name d)
  xs ← each_field read_of fields d
  Ok (x ∷ xs)

-- the field of a put has the form of the items; without it the document has no items there
abbrev pub put_read : Field → Option Data → Result (List Item) Refusal
put_read field None = Ok []
put_read field (Some d) = items_read field.kind field.value d

-- the only member of an object with one member
abbrev pub only_member : Members → Option (List ℕ × Data)
only_member no_members = None
only_member (member name d no_members) = Some (name, d)
only_member (member name d (member _ _ _)) = None

-- the change by an operator whose value has the operator's form
abbrev pub change_by : {A : Type 0} → (A → Change) → Result A Refusal → Result (Option Change) Refusal
change_by change said = said >>= λ value. Ok (Some (change value))

abbrev pub change_read : Field → Form → Data → Result (Option Change) Refusal
change_read field forms.Items d = change_by changes.Assign (items_read field.kind field.value d)
change_read field forms.List d = change_by changes.Add (list_read field.value d)
change_read field forms.Weights d = change_by changes.Add (set_read field.value d)
change_read field forms.Names d = change_by changes.Take (taken_read field.value d)
change_read field (forms.Amount way) d = change_by changes.Shift (amount_read way d)
change_read field forms.AtPlace d = at_read field.value d
change_read field forms.OfValue d = of_read field.value d

-- an operator that the attribute does not have makes no change, whatever its value
abbrev pub operator_read : Field → Option Form → Data → Result (Option Change) Refusal
operator_read field None d = Ok None
operator_read field (Some form) d = change_read field form d

-- the field of an update is an object with one member, the operator; without the field nothing changes
abbrev pub update_read : Field → Option Data → Result (Option Change) Refusal
update_read field None = Ok (Some changes.Keep)
update_read field (Some d) = do
  operator ← or_else BadValue (option_and_then only_member (as_object d))
  operator_read field (operator_form (operator_named operator.0) field.kind field.value) operator.1

-- all changes, if each attribute has its operator
abbrev pub all_some : List (Option Change) → Option (List Change)
all_some [] = Some []
all_some (None ∷ more) = None
all_some (Some change ∷ more) = option_map (λ changes. change ∷ changes) (all_some more)

-- `create` is `true` or `false`, and `false` if it is missing
abbrev pub created : Option Data → Option Bool
created None = Some false
created (Some d) = as_bool d

abbrev pub create_of : Data → Option Bool
create_of d = created (get (codes "create") d)

-- a put ignores `create`
unfoldable pub asked_of : List Field → OpName → Option Bool → Option Data → Result Asked Refusal
asked_of fields operations.Put create members = do
  create ← or_else BadValue create
  members ← or_else BadValue members
  document ← each_field put_read fields members
  Ok (asks.Put document)
asked_of fields operations.Update create members = do
  create ← or_else BadValue create
  members ← or_else BadValue members
  changes ← each_field update_read fields members
  Ok (asks.Update create (all_some changes))
asked_of fields operations.Remove create members = Ok asks.Remove

-- 5. There is no member `condition`, in a remove there is no member `create`, and each attribute has its operator
abbrev pub has_other_member : OpName → Data → Bool
has_other_member operations.Put d = is_some (get (codes "condition") d)
has_other_member operations.Update d = is_some (get (codes "condition") d)
has_other_member operations.Remove d = is_some (get (codes "condition") d) || is_some (get (codes "create") d)

abbrev pub op_asked : ℕ → Asked → Option Op
op_asked doc (asks.Put document) = Some (ops.Put doc document)
op_asked doc (asks.Update create changes) = option_map (ops.Update doc create) changes
op_asked doc asks.Remove = Some (ops.Remove doc)

abbrev pub supported : OpName → Data → ℕ → Asked → Option Op
supported operation d doc asked = if has_other_member operation d then None else op_asked doc asked

-- 6. What a line gives a field has at most 1,023 members: the value of a put, or the value of an update's operator
abbrev pub value_given : OpName → Option Data → Option Data
value_given operations.Put value = value
value_given operations.Update value =
    option_map (λ operator. operator.1) (option_and_then only_member (option_and_then as_object value))
value_given operations.Remove value = None

abbrev pub members_given : OpName → Option Data → ℕ
members_given operation value = unwrap_or (option_map member_count (value_given operation value)) 0

abbrev pub is_over : OpName → Data → Field → Bool
is_over operation members field = nat_lt most_items (members_given operation (get field.name members))

abbrev pub gives_too_many : List Field → OpName → Option Data → Bool
gives_too_many fields operation None = false
gives_too_many fields operation (Some members) = list_any (is_over operation members) fields

-- the checks in order
unfoldable pub op_of_value : List Field → Data → Result Op Refusal
op_of_value fields d = do
  operation ← or_else NoOperation (op_name_of d)
  doc ← or_else BadId (id_of operation.1)
  asked ← asked_of fields operation.0 (create_of d) (fields_of d)
  op ← or_else Unsupported (supported operation.0 d doc asked)
  if gives_too_many fields operation.0 (fields_of d) then Err TooManyItems else Ok op

unfoldable pub op_of_line : List Field → List ℕ → Result Op Refusal
op_of_line fields line = or_else NotJson (json_read line) >>= op_of_value fields
