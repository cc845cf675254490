-- Columns of the same documents, side by side.
use Rattle.std.proofs.Common.{◌≡◌, ℕ, zero, suc, ◌<◌, List, [], ◌∷◌, length, map, Some, refl, sym, ap, ap₂, subst, ◌∙◌, arith}
use Rattle.std.specs.Prelude.{slice_get}
use Rattle.std.specs.List.{AllByRecursion, AllZip, zip}
use Rattle.std.specs.List.Sorted.{IsStrictlySortedBy}
use Rattle.std.specs.Map.{keys_of}
use Rattle.std.specs.Ordering.{nat_cmp}
use Rattle.list_lemmas.proofs.Options.{same_Some}
use Rattle.index_model.proofs.ColumnLemmas.{keys-column}
use Rattle.image_format.specs.Tables.{table_of_columns, HaveSameDocuments}
use Rattle.index_model.specs.Columns.{Column, IsLawfulColumn, table_of_column, column_of}
use Rattle.attr_types.specs.Lawful.{IsLawfulTable, IsDocNumber, IsLawfulDocument, IsLawfulItems, DocumentsHaveType}
use Rattle.attr_types.specs.Query.{items_in}
use Rattle.attr_types.specs.Table.{Table}
use Rattle.attr_types.specs.Value.{Document, AreOfType, values_of}
use Rattle.attr_types.specs.declared.field.Field.{Field}
use Rattle.attr_types.specs.declared.items.Item.{Item}

-- a column beside a table
abbrev pub beside : Column → Table → Table
beside column table = map (λ p. (p.0.0, p.0.1 ∷ p.1.1)) (zip column table)

abbrev first_is : ℕ → List ℕ → ℕ
first_is d [] = d
first_is d (k ∷ ks) = k

abbrev rest_is : List ℕ → List ℕ
rest_is [] = []
rest_is (k ∷ ks) = ks

-- ---- which documents it has
column_keys : (column : Column) → keys_of (table_of_column column) ≡ keys_of column
column_keys [] = refl
column_keys (e ∷ column) = ap (λ ks. e.0 ∷ ks) (column_keys column)

beside_keys : (column : Column) (table : Table) → keys_of table ≡ keys_of column → keys_of (beside column table) ≡ keys_of column
beside_keys [] table same = refl
beside_keys (e ∷ column) [] same = absurd (let size : 0 ≡ suc (length (keys_of column)) = ap length same in omega arith)
beside_keys (e ∷ column) (row ∷ table) same = ap (λ ks. e.0 ∷ ks) (beside_keys column table (ap rest_is same))

pub same_rest : (column next : Column) (rest : List Column) → HaveSameDocuments (column ∷ next ∷ rest) → HaveSameDocuments (next ∷ rest)
same_rest column next rest same = each rest same.1
  where
    each : (others : List Column) → AllByRecursion (λ other. keys_of other ≡ keys_of column) others → AllByRecursion (λ other. keys_of other ≡ keys_of next) others
    each [] all = tt
    each (other ∷ others) all = (all.0 ∙ sym same.0, each others all.1)

pub table_keys : (column : Column) (rest : List Column) → HaveSameDocuments (column ∷ rest) → keys_of (table_of_columns (column ∷ rest)) ≡ keys_of column
table_keys column [] same = column_keys column
table_keys column (next ∷ rest) same = beside_keys column (table_of_columns (next ∷ rest)) (table_keys next rest (same_rest column next rest same) ∙ same.0)

-- ---- each column of the table
of_column : (column : Column) → column_of 0 (table_of_column column) ≡ column
of_column [] = refl
of_column (e ∷ column) = ap (λ es. e ∷ es) (of_column column)

of_first : (column : Column) (table : Table) → keys_of table ≡ keys_of column → column_of 0 (beside column table) ≡ column
of_first [] table same = refl
of_first (e ∷ column) [] same = absurd (let size : 0 ≡ suc (length (keys_of column)) = ap length same in omega arith)
of_first (e ∷ column) (row ∷ table) same = ap (λ es. e ∷ es) (of_first column table (ap rest_is same))

of_next : (column : Column) (table : Table) (i : ℕ) → keys_of table ≡ keys_of column → column_of (suc i) (beside column table) ≡ column_of i table
of_next [] [] i same = refl
of_next [] (row ∷ table) i same = absurd (let size : suc (length (keys_of table)) ≡ 0 = ap length same in omega arith)
of_next (e ∷ column) [] i same = absurd (let size : 0 ≡ suc (length (keys_of column)) = ap length same in omega arith)
of_next (e ∷ column) (row ∷ table) i same = ap₂ (λ (k : ℕ) es. (k, items_in row.1 i) ∷ es) (sym (ap (first_is 0) same)) (of_next column table i (ap rest_is same))

pub table_has_columns : (columns : List Column) (i : ℕ) (column : Column) → HaveSameDocuments columns → slice_get columns i ≡ Some column
    → column_of i (table_of_columns columns) ≡ column
table_has_columns [] i column same at = cc
table_has_columns (first ∷ []) zero column same at = of_column first ∙ same_Some first column at
table_has_columns (first ∷ []) (suc i) column same at = cc
table_has_columns (first ∷ next ∷ rest) zero column same at =
    of_first first (table_of_columns (next ∷ rest)) (table_keys next rest (same_rest first next rest same) ∙ same.0) ∙ same_Some first column at
table_has_columns (first ∷ next ∷ rest) (suc i) column same at =
    of_next first (table_of_columns (next ∷ rest)) i (table_keys next rest (same_rest first next rest same) ∙ same.0)
    ∙ table_has_columns (next ∷ rest) i column (same_rest first next rest same) at

-- ---- lawful columns make a lawful table
column_documents : (field : Field) (column : Column) → AllByRecursion (λ (e : ℕ × List Item). IsLawfulItems field.kind e.1) column
    → AllByRecursion (λ (e : ℕ × List (List Item)). IsLawfulDocument (field ∷ []) e.1) (table_of_column column)
column_documents field [] all = tt
column_documents field (e ∷ column) all = ((all.0, tt), column_documents field column all.1)

beside_documents : (field : Field) (fields : List Field) (column : Column) (table : Table) → AllByRecursion (λ (e : ℕ × List Item). IsLawfulItems field.kind e.1) column
    → AllByRecursion (λ (e : ℕ × List (List Item)). IsLawfulDocument fields e.1) table
    → AllByRecursion (λ (e : ℕ × List (List Item)). IsLawfulDocument (field ∷ fields) e.1) (beside column table)
beside_documents field fields [] table items documents = tt
beside_documents field fields (e ∷ column) [] items documents = tt
beside_documents field fields (e ∷ column) (row ∷ table) items documents = ((items.0, documents.0), beside_documents field fields column table items.1 documents.1)

pub columns_make_lawful : (fields : List Field) (columns : List Column) → AllZip (λ field column. IsLawfulColumn field.kind column) fields columns
    → HaveSameDocuments columns → IsLawfulTable fields (table_of_columns columns)
unfolding IsStrictlySortedBy
columns_make_lawful [] [] lawful same = record { ascends = tt; numbers = tt; documents = tt }
columns_make_lawful [] (column ∷ columns) lawful same = absurd lawful
columns_make_lawful (field ∷ fields) [] lawful same = absurd lawful
columns_make_lawful (field ∷ []) (column ∷ []) lawful same = record {
  ascends = subst (IsStrictlySortedBy nat_cmp) (sym (column_keys column)) lawful.0.ascends;
  numbers = subst (AllByRecursion IsDocNumber) (sym (column_keys column)) lawful.0.numbers;
  documents = column_documents field column lawful.0.items;
}
columns_make_lawful (field ∷ []) (column ∷ next ∷ rest) lawful same = absurd lawful.1
columns_make_lawful (field ∷ other ∷ fields) (column ∷ []) lawful same = absurd lawful.1
columns_make_lawful (field ∷ other ∷ fields) (column ∷ next ∷ rest) lawful same =
    let table = table_of_columns (next ∷ rest) in
    let keys = table_keys column (next ∷ rest) same in
    let later = columns_make_lawful (other ∷ fields) (next ∷ rest) lawful.1 (same_rest column next rest same) in
    record {
      ascends = subst (IsStrictlySortedBy nat_cmp) (sym keys) lawful.0.ascends;
      numbers = subst (AllByRecursion IsDocNumber) (sym keys) lawful.0.numbers;
      documents = beside_documents field (other ∷ fields) column table lawful.0.items later.documents;
    }

-- ---- and columns with values of their types a table of these types
abbrev pub IsTyped : Field → Column → Type 0
IsTyped field column = AllByRecursion (λ (e : ℕ × List Item). AreOfType field.value (values_of e.1)) column

column_typed : (field : Field) (column : Column) → IsTyped field column → DocumentsHaveType (field ∷ []) (table_of_column column)
column_typed field [] all = tt
column_typed field (e ∷ column) all = ((all.0, tt), column_typed field column all.1)

beside_typed : (field : Field) (fields : List Field) (column : Column) (table : Table) → IsTyped field column → DocumentsHaveType fields table
    → DocumentsHaveType (field ∷ fields) (beside column table)
beside_typed field fields [] table items documents = tt
beside_typed field fields (e ∷ column) [] items documents = tt
beside_typed field fields (e ∷ column) (row ∷ table) items documents = ((items.0, documents.0), beside_typed field fields column table items.1 documents.1)

pub columns_make_typed : (fields : List Field) (columns : List Column) → AllZip IsTyped fields columns → DocumentsHaveType fields (table_of_columns columns)
columns_make_typed [] [] typed = tt
columns_make_typed [] (column ∷ columns) typed = absurd typed
columns_make_typed (field ∷ fields) [] typed = absurd typed
columns_make_typed (field ∷ []) (column ∷ []) typed = column_typed field column typed.0
columns_make_typed (field ∷ []) (column ∷ next ∷ rest) typed = absurd typed.1
columns_make_typed (field ∷ other ∷ fields) (column ∷ []) typed = absurd typed.1
columns_make_typed (field ∷ other ∷ fields) (column ∷ next ∷ rest) typed =
    beside_typed field (other ∷ fields) column (table_of_columns (next ∷ rest)) typed.0 (columns_make_typed (other ∷ fields) (next ∷ rest) typed.1)

-- ---- a table is that of its columns
abbrev shorter : Document → Document
shorter [] = []
shorter (items ∷ document) = document

abbrev shortened : Table → Table
shortened table = map (λ (e : ℕ × Document). (e.0, shorter e.1)) table

later_items : (document : Document) (i : ℕ) → items_in (shorter document) i ≡ items_in document (suc i)
later_items [] i = refl
later_items (items ∷ document) i = refl

later_column : (i : ℕ) (table : Table) → column_of (suc i) table ≡ column_of i (shortened table)
later_column i [] = refl
later_column i (row ∷ table) = ap₂ (λ items es. (row.0, items) ∷ es) (sym (later_items row.1 i)) (later_column i table)

of_one : (table : Table) → AllByRecursion (λ (e : ℕ × Document). length e.1 ≡ 1) table → table_of_column (column_of 0 table) ≡ table
of_one [] all = refl
of_one (row ∷ table) all = ap₂ (λ (document : Document) rest. (row.0, document) ∷ rest) (whole row.1 all.0) (of_one table all.1)
  where
    whole : (document : Document) → length document ≡ 1 → items_in document 0 ∷ [] ≡ document
    whole [] size = absurd (omega arith)
    whole (items ∷ []) size = refl
    whole (items ∷ next ∷ rest) size = absurd (omega arith)

of_more : (table : Table) (n : ℕ) → AllByRecursion (λ (e : ℕ × Document). length e.1 ≡ suc n) table → beside (column_of 0 table) (shortened table) ≡ table
of_more [] n all = refl
of_more (row ∷ table) n all = ap₂ (λ (document : Document) rest. (row.0, document) ∷ rest) (whole row.1 all.0) (of_more table n all.1)
  where
    whole : (document : Document) → length document ≡ suc n → items_in document 0 ∷ shorter document ≡ document
    whole [] size = absurd (omega arith)
    whole (items ∷ document) size = refl

all_shorter : (table : Table) (n : ℕ) → AllByRecursion (λ (e : ℕ × Document). length e.1 ≡ suc n) table → AllByRecursion (λ (e : ℕ × Document). length e.1 ≡ n) (shortened table)
all_shorter [] n all = tt
all_shorter (row ∷ table) n all = (less row.1 all.0, all_shorter table n all.1)
  where
    less : (document : Document) → length document ≡ suc n → length (shorter document) ≡ n
    less [] size = absurd (omega arith)
    less (items ∷ document) size = omega arith

columns_make : (n : ℕ) (columns : List Column) (table : Table) → length columns ≡ suc n → AllByRecursion (λ (e : ℕ × Document). length e.1 ≡ suc n) table
    → ((i : ℕ) (column : Column) → slice_get columns i ≡ Some column → column ≡ column_of i table) → table_of_columns columns ≡ table
columns_make n [] table size rows each = absurd (omega arith)
columns_make zero (column ∷ []) table size rows each = ap table_of_column (each 0 column refl) ∙ of_one table rows
columns_make zero (column ∷ next ∷ rest) table size rows each = absurd (omega arith)
columns_make (suc n) (column ∷ []) table size rows each = absurd (omega arith)
columns_make (suc n) (column ∷ next ∷ rest) table size rows each =
    ap (λ c. beside c (table_of_columns (next ∷ rest))) (each 0 column refl)
    ∙ ap (beside (column_of 0 table)) (columns_make n (next ∷ rest) (shortened table) (omega arith) (all_shorter table (suc n) rows)
    (λ i other at. each (suc i) other at ∙ later_column i table))
    ∙ of_more table (suc n) rows

pub document_size : (fields : List Field) (document : Document) → IsLawfulDocument fields document → length document ≡ length fields
document_size [] [] lawful = refl
document_size [] (items ∷ document) lawful = absurd lawful
document_size (field ∷ fields) [] lawful = absurd lawful
document_size (field ∷ fields) (items ∷ document) lawful = ap suc (document_size fields document lawful.1)

document_sizes : (fields : List Field) (n : ℕ) (table : Table) → length fields ≡ suc n → AllByRecursion (λ (e : ℕ × Document). IsLawfulDocument fields e.1) table
    → AllByRecursion (λ (e : ℕ × Document). length e.1 ≡ suc n) table
document_sizes fields n [] size all = tt
document_sizes fields n (row ∷ table) size all = (document_size fields row.1 all.0 ∙ size, document_sizes fields n table size all.1)

pub columns_make_table : (fields : List Field) (table : Table) (columns : List Column) → IsLawfulTable fields table → 0 < length fields → length columns ≡ length fields
    → ((i : ℕ) (column : Column) → slice_get columns i ≡ Some column → column ≡ column_of i table) → table_of_columns columns ≡ table
columns_make_table [] table columns lawful some size each = absurd (omega arith)
columns_make_table (field ∷ fields) table columns lawful some size each =
    columns_make (length fields) columns table size (document_sizes (field ∷ fields) (length fields) table refl lawful.documents) each

all_keys : (keys first : List ℕ) (list : List Column) → first ≡ keys → ((i : ℕ) (other : Column) → slice_get list i ≡ Some other → keys_of other ≡ keys)
    → AllByRecursion (λ other. keys_of other ≡ first) list
all_keys keys first [] same each = tt
all_keys keys first (other ∷ list) same each = (each 0 other refl ∙ sym same, all_keys keys first list same (λ i next at. each (suc i) next at))

pub columns_have_same : (table : Table) (columns : List Column)
    → ((i : ℕ) (column : Column) → slice_get columns i ≡ Some column → column ≡ column_of i table) → HaveSameDocuments columns
columns_have_same table [] each = tt
columns_have_same table (first ∷ rest) each =
    all_keys (keys_of table) (keys_of first) rest (ap keys_of (each 0 first refl) ∙ keys-column 0 table)
    (λ i other at. ap keys_of (each (suc i) other at) ∙ keys-column (suc i) table)
