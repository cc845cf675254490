-- How the changes of an index end, as laws.
use Rattle.std.specs.Prelude.{◌≡◌, false, ◌↔◌, ◌<◌, ◌≤◌, ℕ, ℤ, List, [], length, slice_get, Option, None, Some, IsSome, Contains}
use Rattle.std.specs.Prelude.{unwrap_or, option_map}
use Rattle.std.specs.BTreeMap.{is_at}
use Rattle.std.specs.List.{AllByRecursion}
use Rattle.std.specs.List.Sorted.{IsStrictlySortedBy}
use Rattle.std.specs.Map.{keys_of, lookup, remove_entry}
use Rattle.std.specs.Ordering.{nat_cmp, is_eq}
use Rattle.attr_types.specs.Lawful.{IsDocNumber, IsLawfulDocument, IsLawfulTable}
use Rattle.attr_types.specs.Change.{changed}
use Rattle.attr_types.specs.Query.{items_in}
use Rattle.attr_types.specs.Table.{Table, document_at, op_doc, step, updated}
use Rattle.attr_types.specs.Value.{Document, value_cmp}
use Rattle.attr_types.specs.declared.change.Change.{Change}
use Rattle.attr_types.specs.declared.field.Field.{Field}
use Rattle.attr_types.specs.declared.items.Item.{Item}
use Rattle.attr_types.specs.declared.kind.Kind.{Kind}
use Rattle.attr_types.specs.declared.op.Op.{Op}
use Rattle.attr_types.specs.declared.value.Value.{Value}
use Rattle.index_model.specs.Columns.{Column, IsLawfulColumn, column_of, column_values, items_of, with_change}
use Rattle.index_model.specs.Index.{Index, IsFormed, IsIndexOf, HasValues, HasLists, list_of, weight_in}
use Rattle.index_model.specs.Index.{with_posting, without_posting}
use Rattle.index_model.specs.Changes.{HasItems, first_given, IsBetween, IsPartway, first_weights}

-- ---- the columns of a table

-- an attribute's column of a lawful table is lawful
abbrev pub ColumnIsLawful : Type 0
ColumnIsLawful = (fields : List Field) (table : Table) (i : ℕ) (field : Field) → IsLawfulTable fields table
    → slice_get fields i ≡ Some field → IsLawfulColumn field.kind (column_of i table)

-- an operation changes only the items of its document: to those in the next table, if it has any
abbrev pub OperationChangesColumn : Type 0
OperationChangesColumn = (fields : List Field) (table next : Table) (op : Op) (i : ℕ) → IsLawfulTable fields table
    → step fields table op ≡ Some next
    → column_of i next ≡ with_change (column_of i table) (op_doc op) (option_map (λ d. items_in d i) (document_at next (op_doc op)))

-- an update applies the change of each attribute to the document's items in it
abbrev pub UpdateChangesItems : Type 0
UpdateChangesItems = (fields : List Field) (changes : List Change) (document next : Document) (i : ℕ) (field : Field) (change : Change)
    → IsLawfulDocument fields document → updated fields changes document ≡ Some next
    → slice_get fields i ≡ Some field → slice_get changes i ≡ Some change
    → changed field.kind field.value change (items_in document i) ≡ Some (items_in next i)

-- ---- an index of a column

-- it ascends, and has exactly the values of the column, each with its documents; and every index with these
-- properties is the index of the column
abbrev pub IndexHasAll : Type 0
IndexHasAll = (kind : Kind) (column : Column) (index : Index) → IsLawfulColumn kind column
    → IsIndexOf column index ↔ (IsStrictlySortedBy value_cmp (keys_of index) × HasValues column index × HasLists column index)

-- a column has only one index
abbrev pub OneIndex : Type 0
OneIndex = (column : Column) (index other : Index) → IsIndexOf column index → IsIndexOf column other → index ≡ other

-- a document is in the lists of the values of its items
abbrev pub IndexHasItems : Type 0
IndexHasItems = (kind : Kind) (column : Column) (doc : ℕ) (index : Index) → IsLawfulColumn kind column → IsIndexOf column index
    → HasItems index doc (items_of column doc)

-- ---- the walks, step by step
abbrev pub WalkBegins : Type 0
WalkBegins = (start : Index) (doc : ℕ) → IsFormed start → IsPartway start doc [] [] start

abbrev pub WalkEnds : Type 0
WalkEnds = (kind : Kind) (column : Column) (start : Index) (doc : ℕ) (new : Option (List Item)) (index : Index) → IsLawfulColumn kind column
    → IsIndexOf column start
    → IsPartway start doc (unwrap_or new []) (items_of column doc) index → IsIndexOf (with_change column doc new) index

-- ---- what a step finds
-- a value whose list becomes empty by a removal is not a value of the new column
abbrev pub RemovedItemsAreGone : Type 0
RemovedItemsAreGone = (kind : Kind) (column : Column) (start : Index) (doc : ℕ) (new : Option (List Item)) (removed : List Item)
    (index : Index)
    (value : Value)
    → IsLawfulColumn kind column → IsIndexOf column start → IsPartway start doc (unwrap_or new []) removed index
    → weight_in value (unwrap_or new []) ≡ None → weight_in value removed ≡ None
    → remove_entry (is_at (nat_cmp doc)) (list_of value index) ≡ []
    → Contains (column_values (with_change column doc new)) value → ⊥

-- in the first walk every value of the index remains
abbrev pub OldValuesStay : Type 0
OldValuesStay = (start : Index) (doc : ℕ) (added : List Item) (index : Index) (value : Value) → IsFormed start
    → IsPartway start doc added [] index → IsSome (lookup (is_at (value_cmp value)) start) → IsSome (lookup (is_at (value_cmp value)) index)

-- in the second walk every value of the new column is in the index
abbrev pub NewValuesStay : Type 0
NewValuesStay = (kind : Kind) (column : Column) (start : Index) (doc : ℕ) (new : Option (List Item)) (removed : List Item) (index : Index)
    (value : Value)
    → IsLawfulColumn kind column → IsIndexOf column start → IsPartway start doc (unwrap_or new []) removed index
    → Contains (column_values (with_change column doc new)) value → IsSome (lookup (is_at (value_cmp value)) index)

-- adding a posting to a value of the index does not change the values
abbrev pub AdditionKeepsKeys : Type 0
AdditionKeepsKeys = (value : Value) (doc : ℕ) (weight : ℤ) (index : Index) → IsFormed index
    → IsSome (lookup (is_at (value_cmp value)) index) → keys_of (with_posting value doc weight index) ≡ keys_of index

-- removing a posting does not change the values if a document remains
abbrev pub RemovalKeepsKeys : Type 0
RemovalKeepsKeys = (value : Value) (doc : ℕ) (index : Index) → IsFormed index
    → IsSome (lookup (is_at (value_cmp value)) index) → 0 < length (remove_entry (is_at (nat_cmp doc)) (list_of value index))
    → keys_of (without_posting value doc index) ≡ keys_of index

-- ---- between the walks, as the start of the second; the weights may have any form
abbrev pub MiddleHasBoth : Type 0
MiddleHasBoth = (start : Index) (doc : ℕ) (old new : Value → Option ℤ) (middle : Index)
    → ((value : Value) → lookup (is_at (nat_cmp doc)) (list_of value start) ≡ old value)
    → IsBetween start doc new (λ value. None) middle
    → (value : Value) → lookup (is_at (nat_cmp doc)) (list_of value middle) ≡ first_given (new value) (old value)

abbrev pub WalkBeginsAgain : Type 0
WalkBeginsAgain = (start : Index) (doc : ℕ) (old new : Value → Option ℤ) → IsFormed start
    → ((value : Value) → lookup (is_at (nat_cmp doc)) (list_of value start) ≡ first_given (new value) (old value))
    → IsBetween start doc new (λ value. None) start

abbrev pub WalksJoin : Type 0
WalksJoin = (start : Index) (doc : ℕ) (old new : Value → Option ℤ) (middle index : Index) → IsFormed start
    → IsBetween start doc new (λ value. None) middle → IsBetween middle doc new old index → IsBetween start doc new old index

-- only the weights of values matter
abbrev pub WeightsCount : Type 0
WeightsCount = (start : Index) (doc : ℕ) (a b r s : Value → Option ℤ) (index : Index) → IsBetween start doc a r index
    → ((value : Value) → b value ≡ a value) → ((value : Value) → s value ≡ r value) → IsBetween start doc b s index

-- ---- bounds in every state
abbrev pub ListsAreFew : Type 0
ListsAreFew = (kind : Kind) (column : Column) (start : Index) (doc : ℕ) (added removed : List Item) (index : Index) (value : Value)
    → IsLawfulColumn kind column → IsDocNumber doc → IsIndexOf column start → IsPartway start doc added removed index
    → length (list_of value index) ≤ 1048575

abbrev pub ListsHaveDocuments : Type 0
ListsHaveDocuments = (kind : Kind) (column : Column) (start : Index) (doc : ℕ) (added removed : List Item) (index : Index) (value : Value)
    → IsLawfulColumn kind column → IsDocNumber doc → IsIndexOf column start → IsPartway start doc added removed index
    → AllByRecursion IsDocNumber (keys_of (list_of value index))

abbrev pub ValuesAreFew : Type 0
ValuesAreFew = (kind : Kind) (column : Column) (start : Index) (doc : ℕ) (added removed : List Item) (index : Index)
    → IsLawfulColumn kind column → IsIndexOf column start → IsPartway start doc added removed index → length added ≤ 1023
    → length index ≤ 1072693248

-- ---- the first index
abbrev pub EmptyIndex : Type 0
EmptyIndex = IsIndexOf [] []

-- ---- an operation
-- ---- the same steps for weights in another form, such as a map
abbrev pub IsOtherwise : Value → (Value → Option ℤ) → (Value → Option ℤ) → Type 0
IsOtherwise value a b = (q : Value) → is_eq (value_cmp q value) ≡ false → b q ≡ a q

abbrev pub PutGoesOn : Type 0
PutGoesOn = (start : Index) (doc : ℕ) (index : Index) (value : Value) (weight : ℤ) (a b : Value → Option ℤ) → IsOtherwise value a b
    → IsBetween start doc a (λ q. None) index → a value ≡ None → b value ≡ Some weight
    → IsBetween start doc b (λ q. None) (with_posting value doc weight index)

abbrev pub SameGoesOn : Type 0
SameGoesOn = (start : Index) (doc : ℕ) (index : Index) (value : Value) (weight : ℤ) (a b : Value → Option ℤ) → IsOtherwise value a b
    → IsBetween start doc a (λ q. None) index → a value ≡ None → b value ≡ Some weight
    → lookup (is_at (nat_cmp doc)) (list_of value start) ≡ Some weight → IsBetween start doc b (λ q. None) index

abbrev pub TakeGoesOn : Type 0
TakeGoesOn = (start : Index) (doc : ℕ) (index : Index) (value : Value) (weight : ℤ) (a b : Value → Option ℤ) → IsOtherwise value a b
    → (new : Value → Option ℤ) → IsBetween start doc new a index → new value ≡ None → a value ≡ None → b value ≡ Some weight
    → IsBetween start doc new b (without_posting value doc index)

abbrev pub StayGoesOn : Type 0
StayGoesOn = (start : Index) (doc : ℕ) (index : Index) (value : Value) (weight : ℤ) (a b : Value → Option ℤ) → IsOtherwise value a b
    → (new : Value → Option ℤ) (other : ℤ) → IsBetween start doc new a index → new value ≡ Some other → IsBetween start doc new b index

-- the map made of items has their weights
abbrev pub MapHasWeights : Type 0
MapHasWeights = (value : Value) (items : List Item) → lookup (is_at (value_cmp value)) (first_weights [] items) ≡ weight_in value items
