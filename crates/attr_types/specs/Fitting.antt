-- The computation of the test whether an operation fits. `fits` is proved to decide `OpFits`, which is the definition
-- to read.
use Rattle.std.specs.Prelude.{pos, Bool, true, false, ◌&&◌, nat_le, List, [], ◌∷◌, length}
use Rattle.std.specs.List.{list_all}
use Rattle.std.specs.Ordering.{int_eq, is_lt}
use Rattle.attr_types.specs.Change.{most_items}
use Rattle.attr_types.specs.Value.{value_cmp, values_of}
use Rattle.attr_types.specs.declared.change.Act.{Act}
use Rattle.attr_types.specs.declared.change.Act.TheVariants as acts
use Rattle.attr_types.specs.declared.change.Change.{Change}
use Rattle.attr_types.specs.declared.change.Change.TheVariants.{Keep, Assign, Add, Take, Shift, At, Of}
use Rattle.attr_types.specs.declared.field.Field.{Field}
use Rattle.attr_types.specs.declared.items.Item.{Item}
use Rattle.attr_types.specs.declared.kind.Kind.{Kind}
use Rattle.attr_types.specs.declared.kind.Kind.TheVariants.{Single, Array, WeightedSet}
use Rattle.attr_types.specs.declared.kind.ValueType.{ValueType}
use Rattle.attr_types.specs.declared.kind.ValueType.TheVariants as types
use Rattle.attr_types.specs.declared.op.Op.{Op}
use Rattle.attr_types.specs.declared.op.Op.TheVariants.{Put, Update, Remove}
use Rattle.attr_types.specs.declared.value.Value.{Value}
use Rattle.attr_types.specs.declared.value.Value.TheVariants as values

abbrev pub is_of_type : ValueType → Value → Bool
is_of_type types.Long (values.Long a) = true
is_of_type types.Text (values.Text a) = true
is_of_type types.Long (values.Text a) = false
is_of_type types.Text (values.Long a) = false

abbrev pub have_type : ValueType → List Item → Bool
have_type type items = list_all (λ item. is_of_type type item.value) items

abbrev pub have_weight_one : List Item → Bool
have_weight_one items = list_all (λ item. int_eq item.weight (pos 1)) items

abbrev pub ascends : List Value → Bool
ascends [] = true
ascends (first ∷ []) = true
ascends (first ∷ second ∷ rest) = is_lt (value_cmp first second) && ascends (second ∷ rest)

abbrev pub are_lawful : Kind → List Item → Bool
are_lawful Single items = nat_le (length items) 1 && have_weight_one items
are_lawful Array items = nat_le (length items) most_items && have_weight_one items
are_lawful WeightedSet items = nat_le (length items) most_items && ascends (values_of items)

abbrev pub items_fit : Kind → ValueType → List Item → Bool
items_fit kind type items = are_lawful kind items && have_type type items

abbrev pub act_fits : ValueType → Act → Bool
act_fits type (acts.Set value) = is_of_type type value
act_fits types.Long (acts.Shift amount) = true
act_fits types.Text (acts.Shift amount) = false

abbrev pub change_fits : Kind → ValueType → Change → Bool
change_fits kind type Keep = true
change_fits kind type (Assign items) = items_fit kind type items
change_fits Single type (Add items) = false
change_fits Array type (Add items) = items_fit Array type items
change_fits WeightedSet type (Add items) = items_fit WeightedSet type items
change_fits Single type (Take names) = false
change_fits Array type (Take names) = false
change_fits WeightedSet type (Take names) = list_all (is_of_type type) names
change_fits Single types.Long (Shift amount) = true
change_fits Single types.Text (Shift amount) = false
change_fits Array type (Shift amount) = false
change_fits WeightedSet type (Shift amount) = false
change_fits Single type (At index act) = false
change_fits Array type (At index act) = act_fits type act
change_fits WeightedSet type (At index act) = false
change_fits Single type (Of value act) = false
change_fits Array type (Of value act) = false
change_fits WeightedSet type (Of value act) = is_of_type type value

abbrev pub document_fits : List Field → List (List Item) → Bool
document_fits [] [] = true
document_fits [] (items ∷ document) = false
document_fits (field ∷ fields) [] = false
document_fits (field ∷ fields) (items ∷ document) =
    items_fit field.kind field.value items && document_fits fields document

abbrev pub changes_fit : List Field → List Change → Bool
changes_fit [] [] = true
changes_fit [] (change ∷ changes) = false
changes_fit (field ∷ fields) [] = false
changes_fit (field ∷ fields) (change ∷ changes) =
    change_fits field.kind field.value change && changes_fit fields changes

-- whether an operation fits; its document number is valid by its type
abbrev pub op_fits : List Field → Op → Bool
op_fits fields (Put doc items) = document_fits fields items
op_fits fields (Update doc create changes) = changes_fit fields changes
op_fits fields (Remove doc) = true
