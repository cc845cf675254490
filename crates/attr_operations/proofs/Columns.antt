-- The table that trees read as, column by column, and one document of it changed.
use Rattle.std.proofs.Common.{◌≡◌, ℕ, suc, ◌<◌, ◌≤◌, List, [], ◌∷◌, length, nat_cmp, Option, Some, None, option_map, refl, sym, ap, ◌∙◌, arith}
use Rattle.std.specs.Prelude.{slice_get}
use Rattle.std.specs.BTreeMap.{is_at}
use Rattle.std.specs.List.{AllByRecursion, AllZip}
use Rattle.std.specs.Option.{IfSome}
use Rattle.entry_ref.specs.Records.{Records, Among, SameAt}
use Rattle.tree_read.specs.Trees.{tree_pairs}
use Rattle.index_model.proofs.ColumnLemmas.{operation_changes, column-remove}
use Rattle.index_model.specs.Columns.{Column, IsLawfulColumn, column_of, with_change}
use Rattle.image_format.proofs.TableLemmas.{IsTyped, table_has_columns, columns_make_lawful, columns_make_typed, columns_make_table, columns_have_same}
use Rattle.image_format.proofs.ImageLemmas.{pairs_typed}
use Rattle.image_format.specs.Attributes.{IsLawfulAttribute}
use Rattle.image_format.specs.Tables.{AttributeTrees, HaveSameDocuments, columns_at}
use Rattle.attr_field.specs.Documents.{documents_refer}
use Rattle.attr_field.specs.Laws.{FieldIsSame}
use Rattle.attr_field.specs.declared.roots.FieldRoots.{FieldRoots}
use Rattle.value_index.specs.Indexes.{IsKey}
use Rattle.attr_types.proofs.DocumentLemmas.{document_fits}
use Rattle.attr_types.proofs.TableLemmas.{Sound, sound-with, sound-without, put_is_there}
use Rattle.attr_types.specs.Lawful.{IsLawfulTable, IsDocNumber}
use Rattle.attr_types.specs.Query.{items_in}
use Rattle.attr_types.specs.Table.{Table, with_document}
use Rattle.attr_types.specs.Value.{Document}
use Rattle.attr_types.specs.declared.field.Field.{Field}
use Rattle.attr_types.specs.declared.op.Op.TheVariants.{Put}
use Rattle.attr_operations.specs.Fields.{AreFields, FitsFields, IsFieldAt, column_in, part_of, table_with, trees_of}
use Rattle.attr_operations.specs.Views.{table_at}
use Rattle.attr_operations.proofs.TreeLists.{get_map, map_at}

-- what is known of one attribute's part
pub record FieldLaws : Type 0 where
  pub stays : (a : AttributeTrees) (m n : Records) → SameAt ((part_of a).reach m) m n → SameAt (documents_refer a.kind m a.documents) m n → IsFieldAt m a
      → FieldIsSame a.kind a.type m n a.documents a.dictionary
  pub lawful : (a : AttributeTrees) (m : Records) → IsFieldAt m a → IsLawfulAttribute a.kind a.type m a.documents a.dictionary
  pub keys : (a : AttributeTrees) (m : Records) (r : ℕ) → IsFieldAt m a → IsKey m a.dictionary r → Among r ((part_of a).reach m)

pub column_with : (fields : List Field) (table : Table) (doc i : ℕ) (document : Option Document) → IsLawfulTable fields table
    → column_of i (table_with table doc document) ≡ with_change (column_of i table) doc (option_map (λ d. items_in d i) document)
column_with fields table doc i None lawful = column-remove i (is_at (nat_cmp doc)) table
column_with fields table doc i (Some document) lawful =
    operation_changes fields table (with_document table doc document) (Put doc document) i lawful refl
    ∙ ap (λ found. with_change (column_of i table) doc (option_map (λ d. items_in d i) found)) (put_is_there table doc document)

pub sound_changed : (fields : List Field) (table : Table) (doc : ℕ) (document : Option Document) → Sound fields table → IsDocNumber doc
    → IfSome document (FitsFields fields) → Sound fields (table_with table doc document)
sound_changed fields table doc None sound number fits = sound-without fields table doc sound
sound_changed fields table doc (Some document) sound number fits =
    sound-with fields table doc document sound number (document_fits fields document fits.lawful fits.typed)

-- ---- the columns have values of their types
module _ {bits : ℕ} (m : Records) where
  columns_typed : (fields : List Field) (roots : List (FieldRoots bits)) → length roots ≡ length fields → AllZip IsTyped fields (columns_at m (trees_of fields roots))
  columns_typed [] roots same = tt
  columns_typed (field ∷ fields) [] same = absurd (omega arith)
  columns_typed (field ∷ fields) (first ∷ roots) same = (pairs_typed field m (tree_pairs m first.documents), columns_typed fields roots (omega arith))

  columns_lawful : (laws : FieldLaws) (fields : List Field) (roots : List (FieldRoots bits)) → length roots ≡ length fields → AllByRecursion (IsFieldAt m) (trees_of fields roots)
      → AllZip (λ field column. IsLawfulColumn field.kind column) fields (columns_at m (trees_of fields roots))
  columns_lawful laws [] roots same each = tt
  columns_lawful laws (field ∷ fields) [] same each = absurd (omega arith)
  columns_lawful laws (field ∷ fields) (first ∷ roots) same each = ((laws.lawful _ m each.0).column, columns_lawful laws fields roots (omega arith) each.1)

  pub trees_sound : (laws : FieldLaws) (fields : List Field) (roots : List (FieldRoots bits)) → length roots ≡ length fields → AreFields m fields (trees_of fields roots)
      → Sound fields (table_at m (trees_of fields roots))
  trees_sound laws fields roots same are = (
    columns_make_lawful fields (columns_at m (trees_of fields roots)) (columns_lawful laws fields roots same are.each) are.documents,
    columns_make_typed fields (columns_at m (trees_of fields roots)) (columns_typed fields roots same),
  )

-- ---- each tree's column is that of the table
pub column_at_tree : (m : Records) (trees : List AttributeTrees) (i : ℕ) (a : AttributeTrees) → HaveSameDocuments (columns_at m trees)
    → slice_get trees i ≡ Some a → column_in m a ≡ column_of i (table_at m trees)
column_at_tree m trees i a same at =
    sym (table_has_columns (columns_at m trees) i (column_in m a) same (get_map (column_in m) trees i a at))

columns_length : (m : Records) (trees : List AttributeTrees) → length (columns_at m trees) ≡ length trees
columns_length m [] = refl
columns_length m (a ∷ trees) = ap suc (columns_length m trees)

-- ---- some documents of all trees changed so far
pub record ArePartly (m : Records) (trees : List AttributeTrees) (before after : Table) (i : ℕ) : Type 0 where
  pub each : AllByRecursion (IsFieldAt m) trees
  pub done : (j : ℕ) (a : AttributeTrees) → j < i → slice_get trees j ≡ Some a → column_in m a ≡ column_of j after
  pub rest : (j : ℕ) (a : AttributeTrees) → i ≤ j → slice_get trees j ≡ Some a → column_in m a ≡ column_of j before

pub partly_begins : (m : Records) (fields : List Field) (trees : List AttributeTrees) (after : Table) → AreFields m fields trees
    → ArePartly m trees (table_at m trees) after 0
partly_begins m fields trees after are = record {
  each = are.each;
  done = λ j a below at. absurd (omega arith);
  rest = λ j a above at. column_at_tree m trees j a are.documents at;
}

-- all done: the trees read as the table after
module _ (m : Records) (fields : List Field) (trees : List AttributeTrees) (before after : Table) (partly : ArePartly m trees before after (length trees))
    (some : 0 < length fields) (sized : length trees ≡ length fields) where
  each_column : (i : ℕ) (column : Column) → slice_get (columns_at m trees) i ≡ Some column → column ≡ column_of i after
  each_column i column at =
      let found = map_at (column_in m) trees i column at in
      found.2 ∙ partly.done i found.0 (Rattle.std.proofs.lemmas.Option.slice_get_within trees i found.0 found.1) found.1

  pub done_fields : AreFields m fields trees
  done_fields = record { some = some; sized = sized; each = partly.each; documents = columns_have_same after (columns_at m trees) each_column }

  pub done_table : IsLawfulTable fields after → table_at m trees ≡ after
  done_table lawful = columns_make_table fields after (columns_at m trees) lawful some (columns_length m trees ∙ sized) each_column
