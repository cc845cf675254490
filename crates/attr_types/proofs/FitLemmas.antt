-- The test decides whether an operation fits.
use Rattle.std.proofs.Common.{◌≡◌, ◌≤◌, ℕ, pos, Bool, true, false, ◌&&◌, leb, leb-true, le-leb, List, [], ◌∷◌}
use Rattle.std.proofs.Common.{map, length, Ordering, Less, Equal, Greater, is_lt, refl, ap, ◌∙◌}
use Rattle.std.proofs.lemmas.Bool.Decides.{Decides-int_eq}
use Rattle.std.specs.Bool.{Decides}
use Rattle.std.specs.List.{AllByRecursion, list_all}
use Rattle.std.specs.List.Sorted.{IsStrictlySortedBy}
use Rattle.attr_types.proofs.EntryLemmas.{below_all}
use Rattle.attr_types.proofs.DocumentLemmas.{DocumentFits, ChangesFit}
use Rattle.attr_types.specs.Change.{most_items}
use Rattle.attr_types.specs.Fitting.{is_of_type, have_type, have_weight_one, ascends, are_lawful, items_fit}
use Rattle.attr_types.specs.Fitting.{act_fits, change_fits, document_fits, changes_fit, op_fits}
use Rattle.attr_types.specs.Lawful.{IsDocNumber, HaveWeightOne, IsLawfulItems, ItemsFit, ActFits, ChangeFits, OpFits}
use Rattle.attr_types.specs.ProofsForOrder.{value_cmp_total}
use Rattle.attr_types.specs.Table.{op_doc}
use Rattle.attr_types.specs.Value.{value_cmp, values_of, type_of, AreOfType}
use Rattle.attr_types.specs.declared.change.Act.{Act}
use Rattle.attr_types.specs.declared.change.Act.TheVariants as acts
use Rattle.attr_types.specs.declared.change.Change.{Change}
use Rattle.attr_types.specs.declared.change.Change.TheVariants.{Keep, Assign, Add, Take, Shift, At, Of}
use Rattle.attr_types.specs.declared.field.Field.{Field}
use Rattle.attr_types.specs.declared.items.Item.{Item}
use Rattle.attr_types.specs.declared.kind.Kind.{Kind}
use Rattle.attr_types.specs.declared.kind.Kind.TheVariants.{Single, Array, WeightedSet}
use Rattle.attr_types.specs.declared.kind.ValueType.{ValueType}
use Rattle.attr_types.specs.declared.kind.ValueType.TheVariants as types
use Rattle.attr_types.specs.declared.op.Op.{Op}
use Rattle.attr_types.specs.declared.op.Op.TheVariants.{Put, Update, Remove}
use Rattle.attr_types.specs.declared.value.Value.{Value}
use Rattle.attr_types.specs.declared.value.Value.TheVariants as values

both : (a b : Bool) {P Q : Type 0} → Decides a P → Decides b Q → Decides (a && b) (P × Q)
both true b left right = (λ is. (left.0 refl, right.0 is), λ facts. right.1 facts.1)
both false b left right = (λ is. cc, λ facts. left.1 facts.0)

all_decides : {X K : Type 0} (f : X → K) (test : X → Bool) (P : K → Type 0)
    → ((x : X) → Decides (test x) (P (f x)))
    → (xs : List X) → Decides (list_all test xs) (AllByRecursion P (map f xs))
all_decides f test P each [] = (λ _. tt, λ _. refl)
all_decides f test P each (x ∷ xs) = both (test x) (list_all test xs) (each x) (all_decides f test P each xs)

weights_decide : (items : List Item) → Decides (have_weight_one items) (HaveWeightOne items)
weights_decide [] = (λ _. tt, λ _. refl)
weights_decide (item ∷ items) =
    both _ (have_weight_one items) (Decides-int_eq item.weight (pos 1)) (weights_decide items)

type_decides : (type : ValueType) (value : Value) → Decides (is_of_type type value) (type_of value ≡ type)
type_decides types.Long (values.Long a) = (λ _. refl, λ _. refl)
type_decides types.Text (values.Text a) = (λ _. refl, λ _. refl)
type_decides types.Long (values.Text a) = (λ is. cc, λ is. cc)
type_decides types.Text (values.Long a) = (λ is. cc, λ is. cc)

names_decide : (type : ValueType) (names : List Value)
    → Decides (list_all (is_of_type type) names) (AreOfType type names)
names_decide type [] = (λ _. tt, λ _. refl)
names_decide type (name ∷ names) = both (is_of_type type name) _ (type_decides type name) (names_decide type names)

types_decide : (type : ValueType) (items : List Item)
    → Decides (have_type type items) (AreOfType type (values_of items))
types_decide type items =
    all_decides (λ item. item.value) (λ item. is_of_type type item.value) (λ value. type_of value ≡ type) (λ item. type_decides type item.value) items

both_true : (a b : Bool) → a && b ≡ true → (a ≡ true) × (b ≡ true)
both_true true b is = (refl, is)
both_true false b is = cc

below_decides : (r : Ordering) → Decides (is_lt r) (r ≡ Less)
below_decides Less = (λ _. refl, λ _. refl)
below_decides Equal = (λ is. cc, λ is. cc)
below_decides Greater = (λ is. cc, λ is. cc)

pub ascends_then : (list : List Value) → ascends list ≡ true → IsStrictlySortedBy value_cmp list
unfolding IsStrictlySortedBy
ascends_then [] is = tt
ascends_then (first ∷ []) is = (tt, tt)
ascends_then (first ∷ second ∷ rest) is =
    let parts = both_true (is_lt (value_cmp first second)) (ascends (second ∷ rest)) is in
    let below : value_cmp first second ≡ Less = (below_decides (value_cmp first second)).0 parts.0 in
    let up = ascends_then (second ∷ rest) parts.1 in
    ((below, below_all value_cmp_total first second below rest up.0), up)

pub then_ascends : (list : List Value) → IsStrictlySortedBy value_cmp list → ascends list ≡ true
unfolding IsStrictlySortedBy
then_ascends [] up = refl
then_ascends (first ∷ []) up = refl
then_ascends (first ∷ second ∷ rest) up =
    ap (λ r. is_lt r && ascends (second ∷ rest)) up.0.0 ∙ then_ascends (second ∷ rest) up.1

short_decides : (n most : ℕ) → Decides (leb n most) (n ≤ most)
short_decides n most = (leb-true n most, le-leb n most)

lawful_decides : (kind : Kind) (items : List Item) → Decides (are_lawful kind items) (IsLawfulItems kind items)
lawful_decides Single items = both _ _ (short_decides (length items) 1) (weights_decide items)
lawful_decides Array items = both _ _ (short_decides (length items) most_items) (weights_decide items)
lawful_decides WeightedSet items =
    both _ _ (short_decides (length items) most_items) (ascends_then (values_of items), then_ascends (values_of items))

items_decide : (kind : Kind) (type : ValueType) (items : List Item)
    → Decides (items_fit kind type items) (ItemsFit kind type items)
items_decide kind type items = both _ _ (lawful_decides kind items) (types_decide type items)

always : {P : Type 0} → P → Decides true P
always holds = (λ _. holds, λ _. refl)

never : Decides false ⊥
never = (λ is. cc, λ none. absurd none)

act_decides : (type : ValueType) (act : Act) → Decides (act_fits type act) (ActFits type act)
act_decides type (acts.Set value) = type_decides type value
act_decides types.Long (acts.Shift amount) = always tt
act_decides types.Text (acts.Shift amount) = never

change_decides : (kind : Kind) (type : ValueType) (change : Change)
    → Decides (change_fits kind type change) (ChangeFits kind type change)
change_decides kind type Keep = always tt
change_decides kind type (Assign items) = items_decide kind type items
change_decides Single type (Add items) = never
change_decides Array type (Add items) = items_decide Array type items
change_decides WeightedSet type (Add items) = items_decide WeightedSet type items
change_decides Single type (Take names) = never
change_decides Array type (Take names) = never
change_decides WeightedSet type (Take names) = names_decide type names
change_decides Single types.Long (Shift amount) = always tt
change_decides Single types.Text (Shift amount) = never
change_decides Array type (Shift amount) = never
change_decides WeightedSet type (Shift amount) = never
change_decides Single type (At index act) = never
change_decides Array type (At index act) = act_decides type act
change_decides WeightedSet type (At index act) = never
change_decides Single type (Of value act) = never
change_decides Array type (Of value act) = never
change_decides WeightedSet type (Of value act) = type_decides type value

document_decides : (fields : List Field) (document : List (List Item))
    → Decides (document_fits fields document) (DocumentFits fields document)
document_decides [] [] = always tt
document_decides [] (items ∷ document) = never
document_decides (field ∷ fields) [] = never
document_decides (field ∷ fields) (items ∷ document) =
    both (items_fit field.kind field.value items) (document_fits fields document)
    (items_decide field.kind field.value items) (document_decides fields document)

changes_decide : (fields : List Field) (changes : List Change)
    → Decides (changes_fit fields changes) (ChangesFit fields changes)
changes_decide [] [] = always tt
changes_decide [] (change ∷ changes) = never
changes_decide (field ∷ fields) [] = never
changes_decide (field ∷ fields) (change ∷ changes) =
    both (change_fits field.kind field.value change) (changes_fit fields changes)
    (change_decides field.kind field.value change) (changes_decide fields changes)

beside : (b : Bool) {P Q : Type 0} → P → Decides b Q → Decides b (P × Q)
beside b known told = (λ is. (known, told.0 is), λ facts. told.1 facts.1)

pub op_decides : (fields : List Field) (op : Op) → IsDocNumber (op_doc op)
    → Decides (op_fits fields op) (OpFits fields op)
op_decides fields (Put doc items) is_doc = beside (document_fits fields items) is_doc (document_decides fields items)
op_decides fields (Update doc create changes) is_doc =
    beside (changes_fit fields changes) is_doc (changes_decide fields changes)
op_decides fields (Remove doc) is_doc = (λ _. is_doc, λ _. refl)
