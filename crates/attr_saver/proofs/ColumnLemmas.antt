-- The first attribute of a lawful table may be saved.
use Rattle.std.proofs.Common.{◌≡◌, ℕ, List, [], ◌∷◌, refl, ap}
use Rattle.std.specs.List.{AllByRecursion}
use Rattle.std.specs.Map.{keys_of}
use Rattle.attr_types.specs.Lawful.{ItemsFit, IsLawfulDocument, IsLawfulTable, DocumentHasType, DocumentsHaveType}
use Rattle.attr_types.specs.Query.{items_in}
use Rattle.attr_types.specs.Table.{Table}
use Rattle.attr_types.specs.Value.{Document}
use Rattle.attr_types.specs.declared.field.Field.{Field}
use Rattle.attr_saver.specs.Lawful.{first_column, docs_of, AreLawfulDocuments}

docs_are : (table : Table) → keys_of table ≡ docs_of (first_column table)
docs_are [] = refl
docs_are (e ∷ table) = ap (λ (docs : List ℕ). e.0 ∷ docs) (docs_are table)

first_fits : (field : Field) (fields : List Field) (document : Document) → IsLawfulDocument (field ∷ fields) document → DocumentHasType (field ∷ fields) document
    → ItemsFit field.kind field.value (items_in document 0)
first_fits field fields [] lawful typed = absurd lawful
first_fits field fields (items ∷ document) lawful typed = (lawful.0, typed.0)

items_fit : (field : Field) (fields : List Field) (table : Table) → AllByRecursion (λ e. IsLawfulDocument (field ∷ fields) e.1) table → DocumentsHaveType (field ∷ fields) table
    → AllByRecursion (λ d. ItemsFit field.kind field.value d.items) (first_column table)
items_fit field fields [] lawful typed = tt
items_fit field fields (e ∷ table) lawful typed = (first_fits field fields e.1 lawful.0 typed.0, items_fit field fields table lawful.1 typed.1)

pub first_column_is_lawful : (field : Field) (fields : List Field) (table : Table) → IsLawfulTable (field ∷ fields) table → DocumentsHaveType (field ∷ fields) table
    → AreLawfulDocuments field.kind field.value (first_column table)
first_column_is_lawful field fields table lawful typed = record {
  ascends = rw (← docs_are table) lawful.ascends;
  numbers = rw (← docs_are table) lawful.numbers;
  items = items_fit field fields table lawful.documents typed;
}
