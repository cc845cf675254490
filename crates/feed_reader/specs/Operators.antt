-- The table of the operators: the attributes that have one, and the form of its value.
use Rattle.std.specs.Prelude.{ℕ, List, if◌then◌else◌, codes, Option, Some, None}
use Rattle.std.specs.Str.{bytes_eq}
use Rattle.attr_types.specs.declared.kind.Kind.{Kind}
use Rattle.attr_types.specs.declared.kind.Kind.TheVariants.{Single, Array, WeightedSet}
use Rattle.attr_types.specs.declared.kind.ValueType.{ValueType}
use Rattle.attr_types.specs.declared.kind.ValueType.TheVariants.{Long, Text}
use Rattle.feed_reader.specs.declared.operator.Operator.{Operator}
use Rattle.feed_reader.specs.declared.operator.Operator.TheVariants.{Assign, Add, Remove, Increment, Decrement, Match, Other}
use Rattle.feed_reader.specs.declared.operator.Way.TheVariants.{Up, Down}
use Rattle.feed_reader.specs.declared.operator.Form.{Form}
use Rattle.feed_reader.specs.declared.operator.Form.TheVariants as forms
use Rattle.feed_reader.specs.declared.operator.ItemForm.{ItemForm}
use Rattle.feed_reader.specs.declared.operator.ItemForm.TheVariants as item_forms

abbrev pub operator_named : List ℕ → Operator
operator_named name = if bytes_eq name (codes "assign") then Assign
    else (if bytes_eq name (codes "add") then Add
    else (if bytes_eq name (codes "remove") then Remove
    else (if bytes_eq name (codes "increment") then Increment
    else (if bytes_eq name (codes "decrement") then Decrement
    else (if bytes_eq name (codes "match") then Match else Other)))))

abbrev pub operator_form : Operator → Kind → ValueType → Option Form
operator_form Assign kind type = Some forms.Items
operator_form Add Single type = None
operator_form Add Array type = Some forms.List
operator_form Add WeightedSet type = Some forms.Weights
operator_form Remove Single type = None
operator_form Remove Array type = None
operator_form Remove WeightedSet type = Some forms.Names
operator_form Increment Single Long = Some (forms.Amount Up)
operator_form Increment Single Text = None
operator_form Increment Array type = None
operator_form Increment WeightedSet type = None
operator_form Decrement Single Long = Some (forms.Amount Down)
operator_form Decrement Single Text = None
operator_form Decrement Array type = None
operator_form Decrement WeightedSet type = None
operator_form Match Single type = None
operator_form Match Array type = Some forms.AtPlace
operator_form Match WeightedSet type = Some forms.OfValue
operator_form Other kind type = None

-- in `match`, the operators on one value of an array ..
abbrev pub value_form : Operator → ValueType → Option ItemForm
value_form Assign type = Some item_forms.New
value_form Increment Long = Some (item_forms.Amount Up)
value_form Increment Text = None
value_form Decrement Long = Some (item_forms.Amount Down)
value_form Decrement Text = None
value_form Add type = None
value_form Remove type = None
value_form Match type = None
value_form Other type = None

-- .. and on one weight
abbrev pub weight_form : Operator → Option ItemForm
weight_form Assign = Some item_forms.New
weight_form Increment = Some (item_forms.Amount Up)
weight_form Decrement = Some (item_forms.Amount Down)
weight_form Add = None
weight_form Remove = None
weight_form Match = None
weight_form Other = None
