-- What may be saved: the first attribute of a table, and the lawful saves.
use Rattle.std.specs.Prelude.{ℕ, ◌^◌, ◌<◌, ◌≤◌, FitsSigned, List, length, map}
use Rattle.std.specs.Int.{w32, w64}
use Rattle.std.specs.List.{AllByRecursion}
use Rattle.std.specs.List.Sorted.{IsStrictlySortedBy}
use Rattle.std.specs.Ordering.{nat_cmp}
use Rattle.std.specs.Str.{IsUtf8}
use Rattle.attr_types.specs.Lawful.{IsDocNumber, ItemsFit}
use Rattle.attr_types.specs.Query.{items_in}
use Rattle.attr_types.specs.Table.{Table}
use Rattle.attr_types.specs.declared.items.Item.{Item}
use Rattle.attr_types.specs.declared.kind.Kind.{Kind}
use Rattle.attr_types.specs.declared.kind.ValueType.{ValueType}
use Rattle.attr_types.specs.declared.value.Value.{Value}
use Rattle.attr_types.specs.declared.value.Value.TheVariants as values
use Rattle.attr_saver.specs.declared.saved.Saved.{Saved}
use Rattle.attr_saver.specs.declared.saved.SavedDocument.{SavedDocument}

-- the documents of a table, each with its items in the first attribute
abbrev pub first_column : Table → List SavedDocument
first_column table = map (λ e. record { doc = e.0; items = items_in e.1 0 }) table

-- the save of a table's first attribute
abbrev pub save_of : Kind → ValueType → ℕ → Table → Saved
save_of kind type operations table =
    record { kind = kind; value = type; operations = operations; table = first_column table }

abbrev pub docs_of : List SavedDocument → List ℕ
docs_of column = map (λ d. d.doc) column

-- documents ascend, each with items that their kind and value type allow
pub record AreLawfulDocuments (kind : Kind) (type : ValueType) (column : List SavedDocument) : Type 0 where
  pub ascends : IsStrictlySortedBy nat_cmp (docs_of column)
  pub numbers : AllByRecursion IsDocNumber (docs_of column)
  pub items : AllByRecursion (λ d. ItemsFit kind type d.items) column

pub record IsStorableText (text : List ℕ) : Type 0 where
  pub utf8 : IsUtf8 text
  pub short : length text ≤ 1024

-- numbers have the widths of their fields, texts are short and in UTF-8
abbrev pub IsStorableValue : Value → Type 0
IsStorableValue (values.Long number) = FitsSigned w64 number
IsStorableValue (values.Text text) = IsStorableText text

pub record IsStorable (item : Item) : Type 0 where
  pub value : IsStorableValue item.value
  pub weight : FitsSigned w32 item.weight

-- a save that is lawful
pub record IsLawfulSaved (saved : Saved) : Type 0 where
  pub operations : saved.operations < 2 ^ 32
  pub column : AreLawfulDocuments saved.kind saved.value saved.table
  pub storable : AllByRecursion (λ d. AllByRecursion IsStorable d.items) saved.table
