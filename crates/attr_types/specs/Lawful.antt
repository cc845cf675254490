-- Lawful items, documents and tables, and the operations that fit the attributes.
use Rattle.std.specs.Prelude.{ℕ, pos, ◌≡◌, ◌≤◌, List, length}
use Rattle.std.specs.List.{AllByRecursion, AllZip}
use Rattle.std.specs.List.Sorted.{IsStrictlySortedBy}
use Rattle.std.specs.Map.{keys_of}
use Rattle.std.specs.Ordering.{nat_cmp}
use Rattle.attr_types.specs.Change.{most_items}
use Rattle.attr_types.specs.Table.{Table}
use Rattle.attr_types.specs.Value.{value_cmp, values_of, type_of, AreOfType, Document}
use Rattle.attr_types.specs.declared.change.Act.{Act}
use Rattle.attr_types.specs.declared.change.Act.TheVariants as acts
use Rattle.attr_types.specs.declared.change.Change.{Change}
use Rattle.attr_types.specs.declared.change.Change.TheVariants.{Keep, Assign, Add, Take, Shift, At, Of}
use Rattle.attr_types.specs.declared.field.Field.{Field}
use Rattle.attr_types.specs.declared.items.Item.{Item}
use Rattle.attr_types.specs.declared.kind.Kind.{Kind}
use Rattle.attr_types.specs.declared.kind.Kind.TheVariants.{Single, Array, WeightedSet}
use Rattle.attr_types.specs.declared.kind.ValueType.{ValueType}
use Rattle.attr_types.specs.declared.kind.ValueType.TheVariants as types
use Rattle.attr_types.specs.declared.op.Op.{Op}
use Rattle.attr_types.specs.declared.op.Op.TheVariants.{Put, Update, Remove}

-- a limit of this engine: documents are numbered from 1 to 1,048,575
abbrev pub last_doc : ℕ
last_doc = 1048575

abbrev pub IsDocNumber : ℕ → Type 0
IsDocNumber doc = (1 ≤ doc) × (doc ≤ last_doc)

abbrev pub HaveWeightOne : List Item → Type 0
HaveWeightOne items = AllByRecursion (λ item. item.weight ≡ pos 1) items

-- each value is below the later ones, so no two are equal
abbrev pub AscendByValue : List Item → Type 0
AscendByValue items = IsStrictlySortedBy value_cmp (values_of items)

-- the items that a document may have in an attribute
abbrev pub IsLawfulItems : Kind → List Item → Type 0
IsLawfulItems Single items = (length items ≤ 1) × HaveWeightOne items
IsLawfulItems Array items = (length items ≤ most_items) × HaveWeightOne items
IsLawfulItems WeightedSet items = (length items ≤ most_items) × AscendByValue items

-- a document has one list of items for each attribute
abbrev pub IsLawfulDocument : List Field → Document → Type 0
IsLawfulDocument fields document = AllZip (λ field items. IsLawfulItems field.kind items) fields document

-- documents ascend, and each is lawful
pub record IsLawfulTable (fields : List Field) (table : Table) : Type 0 where
  pub ascends : IsStrictlySortedBy nat_cmp (keys_of table)
  pub numbers : AllByRecursion IsDocNumber (keys_of table)
  pub documents : AllByRecursion (λ e. IsLawfulDocument fields e.1) table

-- the values of a document have the types of their attributes
abbrev pub DocumentHasType : List Field → Document → Type 0
DocumentHasType fields document = AllZip (λ field items. AreOfType field.value (values_of items)) fields document

abbrev pub DocumentsHaveType : List Field → Table → Type 0
DocumentsHaveType fields table = AllByRecursion (λ e. DocumentHasType fields e.1) table

-- items that may occur in an operation
abbrev pub ItemsFit : Kind → ValueType → List Item → Type 0
ItemsFit kind type items = IsLawfulItems kind items × AreOfType type (values_of items)

-- a value of the attribute's type may be set, and a whole number may be shifted
abbrev pub ActFits : ValueType → Act → Type 0
ActFits type (acts.Set value) = type_of value ≡ type
ActFits types.Long (acts.Shift amount) = Unit {0}
ActFits types.Text (acts.Shift amount) = ⊥

-- the changes that exist for an attribute of this kind and value type
abbrev pub ChangeFits : Kind → ValueType → Change → Type 0
ChangeFits kind type Keep = Unit {0}
ChangeFits kind type (Assign items) = ItemsFit kind type items
ChangeFits Single type (Add items) = ⊥
ChangeFits Array type (Add items) = ItemsFit Array type items
ChangeFits WeightedSet type (Add items) = ItemsFit WeightedSet type items
ChangeFits Single type (Take names) = ⊥
ChangeFits Array type (Take names) = ⊥
ChangeFits WeightedSet type (Take names) = AreOfType type names
ChangeFits Single types.Long (Shift amount) = Unit {0}
ChangeFits Single types.Text (Shift amount) = ⊥
ChangeFits Array type (Shift amount) = ⊥
ChangeFits WeightedSet type (Shift amount) = ⊥
ChangeFits Single type (At index act) = ⊥
ChangeFits Array type (At index act) = ActFits type act
ChangeFits WeightedSet type (At index act) = ⊥
ChangeFits Single type (Of value act) = ⊥
ChangeFits Array type (Of value act) = ⊥
ChangeFits WeightedSet type (Of value act) = type_of value ≡ type

-- an operation fits the attributes: it has one list of items, or one change, for each
abbrev pub OpFits : List Field → Op → Type 0
OpFits fields (Put doc items) = IsDocNumber doc × AllZip (λ field own. ItemsFit field.kind field.value own) fields items
OpFits fields (Update doc create changes) =
    IsDocNumber doc × AllZip (λ field change. ChangeFits field.kind field.value change) fields changes
OpFits fields (Remove doc) = IsDocNumber doc
