-- A save by the first column of a table.
use Rattle.std.proofs.Common.{◌≡◌, ℕ, List, [], ◌∷◌, map, refl, sym, ap, subst, ◌∙◌, Some}
use Rattle.std.specs.Prelude.{slice_get}
use Rattle.index_model.specs.Columns.{Column, column_of}
use Rattle.attr_saver.specs.Laws.{FirstColumnIsLawful}
use Rattle.attr_saver.specs.Lawful.{first_column, AreLawfulDocuments}
use Rattle.attr_saver.specs.declared.saved.SavedDocument.{SavedDocument}
use Rattle.attr_types.specs.Lawful.{IsLawfulTable, DocumentsHaveType}
use Rattle.attr_types.specs.Query.{items_in}
use Rattle.attr_types.specs.Table.{Table}
use Rattle.attr_types.specs.declared.field.Field.{Field}
use Rattle.attr_types.specs.declared.items.Item.{Item}

abbrev as_saved : ℕ × List Item → SavedDocument
as_saved e = record { doc = e.0; items = e.1 }

saved_column : (table : Table) → first_column table ≡ map as_saved (column_of 0 table)
saved_column [] = refl
saved_column (e ∷ table) = ap (λ (list : List SavedDocument). as_saved (e.0, items_in e.1 0) ∷ list) (saved_column table)

pub saved_alike : (documents table : Table) → column_of 0 documents ≡ column_of 0 table → first_column documents ≡ first_column table
saved_alike documents table same = saved_column documents ∙ ap (λ (c : Column). map as_saved c) same ∙ sym (saved_column table)

first_lawful : (fields : List Field) (field : Field) (table : Table) → slice_get fields 0 ≡ Some field → FirstColumnIsLawful → IsLawfulTable fields table → DocumentsHaveType fields table
    → AreLawfulDocuments field.kind field.value (first_column table)
first_lawful [] field table at law lawful type = cc
first_lawful (first ∷ fields) field table at law lawful type =
    let same : first ≡ field = cc in
    subst (λ (f : Field). AreLawfulDocuments f.kind f.value (first_column table)) same (law first fields table lawful type)

-- documents with the same first column may be saved
pub may_save : (fields : List Field) (field : Field) (table documents : Table) → slice_get fields 0 ≡ Some field → FirstColumnIsLawful → IsLawfulTable fields table → DocumentsHaveType fields table
    → column_of 0 documents ≡ column_of 0 table → AreLawfulDocuments field.kind field.value (first_column documents)
may_save fields field table documents at law lawful type same =
    subst (λ (column : List SavedDocument). AreLawfulDocuments field.kind field.value column) (sym (saved_alike documents table same)) (first_lawful fields field table at law lawful type)
