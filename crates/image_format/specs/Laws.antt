-- The meaning of the definitions, as laws.
use Rattle.std.specs.Prelude.{◌≡◌, ℕ, ◌+◌, ◌*◌, ◌/◌, ◌%◌, ◌<◌, ◌≤◌, ◌^◌, ◌&&◌, nat_eq, ℤ, FitsSigned}
use Rattle.std.specs.Prelude.{List, [], ◌∷◌, length, slice_index, slice_get, Some}
use Rattle.std.specs.Int.{w64}
use Rattle.std.specs.List.{IsDistinct}
use Rattle.std.specs.List.Sorted.{IsStrictlySortedBy}
use Rattle.std.specs.Map.{keys_of}
use Rattle.entry_ref.specs.Records.{Records, AllThere}
use Rattle.tree_read.specs.Trees.{tree_nodes, IsTree}
use Rattle.image_format.specs.Attributes.{trees_reach, AreFormed, IsLawfulAttribute}
use Rattle.image_format.specs.Documents.{column_at}
use Rattle.image_format.specs.Images.{root_words, operations_at, documents_at, dictionary_at, attributes_of, root_record, IsRootRecord}
use Rattle.image_format.specs.Images.{table_of, attr_reaches, IsLawfulImage}
use Rattle.image_format.specs.Postings.{ListForm, short, tree, vector, list_form, block_documents, postings_at, IsPostingList, index_of}
use Rattle.image_format.specs.Shapes.{shape_of, types_of_shape, types_of}
use Rattle.image_format.specs.Tables.{AttributeTrees, types_at, table_of_columns, HaveSameDocuments, columns_at, attributes_reach}
use Rattle.image_format.specs.Tables.{AreLawfulAttributes}
use Rattle.image_format.specs.Values.{value_words, value_of, stored_value}
use Rattle.image_format.specs.Words.{filled}
use Rattle.image_format.specs.declared.TheConstants.{FIRST_VECTOR, BLOCK_DOCUMENTS}
use Rattle.index_model.specs.Columns.{Column, IsLawfulColumn, column_of}
use Rattle.index_model.specs.Index.{IsIndexOf}
use Rattle.attr_types.specs.Lawful.{IsLawfulTable, DocumentsHaveType}
use Rattle.attr_types.specs.Table.{Table}
use Rattle.attr_types.specs.Value.{value_cmp}
use Rattle.attr_types.specs.declared.field.TheConstants.{MOST_FIELDS}
use Rattle.attr_types.specs.declared.field.Field.{Field}
use Rattle.attr_types.specs.declared.kind.Kind.{Kind}
use Rattle.attr_types.specs.declared.kind.ValueType.{ValueType}
use Rattle.attr_types.specs.declared.kind.ValueType.TheVariants as types
use Rattle.attr_types.specs.declared.value.Value.TheVariants as values
use Rattle.index_model.specs.Sets.{has, in_words, IsAscending}

-- ---- shapes
-- a shape determines the kinds and value types from which it was made
abbrev pub ShapeTells : Type 0
ShapeTells = (ts : List (Kind × ValueType)) → length ts ≤ MOST_FIELDS → types_of_shape (shape_of ts) ≡ ts

-- ---- posting lists
-- the value in a dictionary determines the form
abbrev pub WordTellsForm : Type 0
WordTellsForm = (ref : ℕ) → ref < 2 ^ 32
    → (list_form (ref * 2) ≡ short ref) × (list_form (ref * 2 + 1) ≡ tree ref) × (list_form (FIRST_VECTOR + ref) ≡ vector ref)

-- no list is empty
abbrev pub ListsAreFilled : Type 0
ListsAreFilled = (m : Records) (form : ListForm) → IsPostingList m form → 0 < length (postings_at m form)

-- document 4096 * k + i is in block `k` if and only if bit i is 1
abbrev pub BlockHasBits : Type 0
BlockHasBits = (k doc : ℕ) (ws : List ℕ)
    → has (block_documents k ws) doc ≡ (nat_eq (doc / BLOCK_DOCUMENTS) k && in_words ws (doc % BLOCK_DOCUMENTS))

abbrev pub BlockAscends : Type 0
BlockAscends = (k : ℕ) (ws : List ℕ) → IsAscending (block_documents k ws)

-- no node occurs twice in a dictionary
abbrev pub DictionaryNodesAreDistinct : Type 0
DictionaryNodesAreDistinct = (type : ValueType) (m : Records) (root : ℕ) → IsTree value_cmp (stored_value type) m root
    → IsDistinct nat_eq (tree_nodes m root)

-- ---- attributes
-- if the records of an attribute are well formed, each record that it reaches exists
abbrev pub FormsAreThere : Type 0
FormsAreThere = (kind : Kind) (type : ValueType) (m : Records) (documents dictionary : ℕ)
    → AreFormed kind type m documents dictionary → AllThere (trees_reach kind m documents dictionary) m

-- the dictionary of a lawful attribute is the index of its column; its values ascend
abbrev pub DictionaryIsIndex : Type 0
DictionaryIsIndex = (kind : Kind) (type : ValueType) (m : Records) (documents dictionary : ℕ)
    → IsLawfulAttribute kind type m documents dictionary
    → IsIndexOf (column_at kind type m documents) (index_of type m dictionary)

abbrev pub ValuesAscend : Type 0
ValuesAscend = (kind : Kind) (type : ValueType) (m : Records) (documents dictionary : ℕ)
    → IsLawfulAttribute kind type m documents dictionary → IsStrictlySortedBy value_cmp (keys_of (index_of type m dictionary))

-- an attribute whose records are well formed, with a lawful column and its index, is lawful
abbrev pub AttributeIsLawful : Type 0
AttributeIsLawful = (kind : Kind) (type : ValueType) (m : Records) (documents dictionary : ℕ)
    → AreFormed kind type m documents dictionary → IsLawfulColumn kind (column_at kind type m documents)
    → IsIndexOf (column_at kind type m documents) (index_of type m dictionary)
    → IsLawfulAttribute kind type m documents dictionary

-- ---- tables
-- each column of a table of columns is one of these columns
abbrev pub TableHasColumns : Type 0
TableHasColumns = (columns : List Column) (i : ℕ) (column : Column) → HaveSameDocuments columns
    → slice_get columns i ≡ Some column → column_of i (table_of_columns columns) ≡ column

-- a lawful table is the table of its columns
abbrev pub ColumnsMakeTable : Type 0
ColumnsMakeTable = (fields : List Field) (table : Table) (columns : List Column) → IsLawfulTable fields table → 0 < length fields
    → length columns ≡ length fields
    → ((i : ℕ) (column : Column) → slice_get columns i ≡ Some column → column ≡ column_of i table)
    → table_of_columns columns ≡ table

-- the columns of a table have the same documents
abbrev pub ColumnsHaveSameDocuments : Type 0
ColumnsHaveSameDocuments = (table : Table) (columns : List Column)
    → ((i : ℕ) (column : Column) → slice_get columns i ≡ Some column → column ≡ column_of i table) → HaveSameDocuments columns

-- ---- images
abbrev pub ImageIsThere : Type 0
ImageIsThere = (shape : ℕ) (m : Records) (root : ℕ) → IsLawfulImage shape m root → AllThere (attr_reaches shape m root) m

-- the attributes of a lawful image are lawful, also those of the empty image
abbrev pub AttributesAreLawful : Type 0
AttributesAreLawful = (shape : ℕ) (m : Records) (root : ℕ) → IsLawfulImage shape m root → AreLawfulAttributes m (attributes_of shape m root)

-- a root record that names lawful attributes makes a lawful image
abbrev pub ImageIsLawful : Type 0
ImageIsLawful = (shape : ℕ) (m : Records) (root : ℕ) → IsRootRecord (length (types_of_shape shape)) (root_words m root)
    → AreLawfulAttributes m (attributes_of shape m root) → IsLawfulImage shape m root

-- what a root that is made of attributes represents
pub record IsImageOf (operations : ℕ) (attributes : List AttributeTrees) (shape : ℕ) (m : Records) (root : ℕ) : Type 0 where
  pub lawful : IsLawfulImage shape m root
  pub named : attributes_of shape m root ≡ attributes
  pub applied : operations_at m root ≡ operations
  pub table : table_of shape m root ≡ table_of_columns (columns_at m attributes)
  pub reach : attr_reaches shape m root ≡ root ∷ attributes_reach m attributes

abbrev pub RootMakesImage : Type 0
RootMakesImage = (operations : ℕ) (attributes : List AttributeTrees) (m : Records) (root : ℕ) → 0 < root → operations < 2 ^ 32
    → length attributes ≤ MOST_FIELDS → m root ≡ root_record operations attributes → AreLawfulAttributes m attributes
    → IsImageOf operations attributes (shape_of (types_at attributes)) m root

-- what a lawful image implies for the attribute of a field
pub record HasField (field : Field) (table : Table) (m : Records) (documents dictionary i : ℕ) : Type 0 where
  pub attribute : IsLawfulAttribute field.kind field.value m documents dictionary
  pub column : column_of i table ≡ column_at field.kind field.value m documents
  pub index : IsIndexOf (column_of i table) (index_of field.value m dictionary)

abbrev pub FieldsAreThere : Type 0
FieldsAreThere = (fields : List Field) (m : Records) (root i : ℕ) (field : Field) → length fields ≤ MOST_FIELDS
    → IsLawfulImage (shape_of (types_of fields)) m root → slice_get fields i ≡ Some field
    → HasField field (table_of (shape_of (types_of fields)) m root) m (documents_at m root i) (dictionary_at m root i) i

-- the root record has a word for each root
abbrev pub RootHasWords : Type 0
RootHasWords = (fields : List Field) (m : Records) (root : ℕ) → length fields ≤ MOST_FIELDS → 0 < root
    → IsLawfulImage (shape_of (types_of fields)) m root → 1 + 2 * length fields ≤ length (m root)

-- each root is 0 or refers to a record
abbrev pub RootsAreThere : Type 0
RootsAreThere = (kind : Kind) (type : ValueType) (m : Records) (documents dictionary : ℕ)
    → IsLawfulAttribute kind type m documents dictionary
    → (0 < documents → 0 < length (m documents)) × (0 < dictionary → 0 < length (m dictionary))

-- the empty image has the empty table
abbrev pub EmptyTable : Type 0
EmptyTable = (shape : ℕ) (m : Records) → table_of shape m 0 ≡ []

-- the table of a lawful image is lawful, and its values have the types of the attributes
abbrev pub TableIsLawful : Type 0
TableIsLawful = (fields : List Field) (m : Records) (root : ℕ) → length fields ≤ MOST_FIELDS
    → IsLawfulImage (shape_of (types_of fields)) m root → IsLawfulTable fields (table_of (shape_of (types_of fields)) m root)

abbrev pub TableHasType : Type 0
TableHasType = (fields : List Field) (m : Records) (root : ℕ) → length fields ≤ MOST_FIELDS
    → DocumentsHaveType fields (table_of (shape_of (types_of fields)) m root)

abbrev pub OperationsFit : Type 0
OperationsFit = (shape : ℕ) (m : Records) (root : ℕ) → IsLawfulImage shape m root → operations_at m root < 2 ^ 32

-- ---- values
-- the words of a value read as that value
abbrev pub LongReads : Type 0
LongReads = (number : ℤ) → FitsSigned w64 number
    → value_of types.Long (filled (value_words (values.Long number))) ≡ values.Long number

abbrev pub TextReads : Type 0
TextReads = (bytes : List ℕ) → ((i : ℕ) → slice_index bytes i < 2 ^ 8)
    → value_of types.Text (filled (value_words (values.Text bytes))) ≡ values.Text bytes
