-- An attribute of an image, by the roots of its trees.
use Rattle.std.specs.Prelude.{◌≡◌, ℕ, ℤ, Option, None, Some}
use Rattle.std.specs.Option.{option_and_then}
use Rattle.entry_ref.specs.Records.{Records}
use Rattle.image_format.specs.Documents.{column_at}
use Rattle.index_model.specs.Columns.{Column, items_of}
use Rattle.attr_types.specs.Table.{Table}
use Rattle.attr_field.specs.Documents.{IsDocuments}
use Rattle.attr_types.specs.declared.value.Value.{Value}
use Rattle.result_model.specs.Totals.{long_of, with_number}
use Rattle.result_model.specs.Values.{first_value, items_of as items_in_table}
use Rattle.result_model.specs.declared.totals.Totals.{Totals}
use Rattle.query_results.specs.declared.attribute.Attribute.{Attribute}

-- the documents of an attribute with their items
abbrev pub column_in : (bits : ℕ) → Records → Attribute bits → Column
column_in bits m attribute = column_at attribute.kind attribute.value_type m attribute.documents

abbrev pub HasDocuments : (bits : ℕ) → Records → Attribute bits → Type 0
HasDocuments bits m attribute = IsDocuments attribute.kind attribute.value_type m attribute.documents

-- the documents have the items of the attribute with this number in a table
pub record IsAttributeOf (bits : ℕ) (m : Records) (field : ℕ) (table : Table) (attribute : Attribute bits) : Type 0 where
  pub documents : HasDocuments bits m attribute
  pub items : (doc : ℕ) → items_of (column_in bits m attribute) doc ≡ items_in_table field table doc

-- the value and the number of a document in an attribute's records
abbrev pub value_in : (bits : ℕ) → Records → Attribute bits → ℕ → Option Value
value_in bits m attribute doc = first_value (items_of (column_in bits m attribute) doc)

abbrev pub number_in : (bits : ℕ) → Records → Attribute bits → ℕ → Option ℤ
number_in bits m attribute doc = option_and_then long_of (value_in bits m attribute doc)

-- totals with a number, if there is one
abbrev pub after : Totals → Option ℤ → Totals
after totals None = totals
after totals (Some number) = with_number totals number
