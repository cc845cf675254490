-- What a lawful image says of its attributes, its table and its indexes.
use Rattle.std.proofs.lemmas.Option.{slice_get-map}
use Rattle.std.proofs.Common.{option_map, ◌≡◌, ℕ, zero, suc, ◌+◌, ◌*◌, ◌<◌, ◌≤◌, ◌^◌, ℤ, List, [], ◌∷◌, length, map, Some, refl, sym, ap, subst, ◌∙◌, arith}
use Rattle.std.specs.Prelude.{slice_get, slice_index}
use Rattle.std.specs.List.{AllByRecursion, AllZip}
use Rattle.std.specs.List.Sorted.{IsStrictlySortedBy}
use Rattle.std.specs.Map.{keys_of}
use Rattle.list_lemmas.proofs.Options.{same_Some}
use Rattle.list_lemmas.proofs.Each.{AllByRecursion-slice_get}
use Rattle.entry_ref.specs.Records.{Records}
use Rattle.tree_read.specs.Trees.{tree_pairs, root_level, root_least, IsNode, IsRootNode}
use Rattle.index_model.proofs.OfLemmas.{has_values, has_lists, is_index_of}
use Rattle.index_model.specs.Columns.{Column, IsLawfulColumn}
use Rattle.index_model.specs.Index.{IsIndexOf}
use Rattle.image_format.specs.Attributes.{AreFormed, IsLawfulAttribute}
use Rattle.image_format.specs.Documents.{column_at, items_at, weighted}
use Rattle.image_format.specs.Images.{root_words, operations_at, documents_at, dictionary_at, attributes_from, attributes_of, IsRootRecord, table_of, IsLawfulImage}
use Rattle.image_format.specs.Laws.{HasField}
use Rattle.image_format.specs.Postings.{index_of, list_form, postings_at}
use Rattle.image_format.specs.Shapes.{shape_of, types_of_shape, types_of}
use Rattle.image_format.specs.Tables.{AttributeTrees, table_of_columns, HaveSameDocuments, columns_at, AreLawfulAttributes}
use Rattle.image_format.specs.Values.{value_of, stored_value}
use Rattle.image_format.proofs.ShapeLemmas.{shape_tells}
use Rattle.image_format.proofs.TableLemmas.{IsTyped, table_has_columns, columns_make_lawful, columns_make_typed}
use Rattle.attr_types.specs.Lawful.{IsLawfulTable, DocumentsHaveType}
use Rattle.attr_types.specs.Value.{value_cmp, type_of}
use Rattle.attr_types.specs.declared.field.TheConstants.{MOST_FIELDS}
use Rattle.attr_types.specs.declared.field.Field.{Field}
use Rattle.attr_types.specs.declared.items.Item.{Item}
use Rattle.attr_types.specs.declared.kind.Kind.{Kind}
use Rattle.attr_types.specs.declared.kind.ValueType.{ValueType}
use Rattle.attr_types.specs.declared.kind.ValueType.TheVariants as types

-- ---- one attribute
pub index_keys : (type : ValueType) (m : Records) (pairs : List (ℕ × ℕ))
    → keys_of (map (λ (p : ℕ × ℕ). (stored_value type m p.0, postings_at m (list_form p.1))) pairs) ≡ map (λ (p : ℕ × ℕ). stored_value type m p.0) pairs
index_keys type m [] = refl
index_keys type m (p ∷ pairs) = ap (λ vs. stored_value type m p.0 ∷ vs) (index_keys type m pairs)

module _ (kind : Kind) (type : ValueType) (m : Records) (documents dictionary : ℕ) where
  values_sorted : AreFormed kind type m documents dictionary → IsStrictlySortedBy value_cmp (keys_of (index_of type m dictionary))
  values_sorted forms = subst (IsStrictlySortedBy value_cmp) (sym (index_keys type m (tree_pairs m dictionary))) forms.dictionary_tree.ascends

  pub values_ascend : IsLawfulAttribute kind type m documents dictionary → IsStrictlySortedBy value_cmp (keys_of (index_of type m dictionary))
  values_ascend lawful = values_sorted lawful.forms

  pub dictionary_is_index : IsLawfulAttribute kind type m documents dictionary → IsIndexOf (column_at kind type m documents) (index_of type m dictionary)
  dictionary_is_index lawful =
      is_index_of (column_at kind type m documents) (index_of type m dictionary) lawful.column.ascends (values_sorted lawful.forms) lawful.values lawful.lists

  pub attribute_is_lawful : AreFormed kind type m documents dictionary → IsLawfulColumn kind (column_at kind type m documents)
      → IsIndexOf (column_at kind type m documents) (index_of type m dictionary) → IsLawfulAttribute kind type m documents dictionary
  attribute_is_lawful forms column index = record {
    forms = forms;
    column = column;
    values = has_values (column_at kind type m documents) (index_of type m dictionary) index;
    lists = has_lists (column_at kind type m documents) (index_of type m dictionary) index;
  }

-- ---- the attributes of the empty image
no_trees : (kind : Kind) (type : ValueType) (m : Records) → IsLawfulAttribute kind type m 0 0
unfolding IsStrictlySortedBy
no_trees kind type m = record {
  forms = record {
    documents_tree = record { node = λ some. absurd (omega arith); ascends = tt };
    items = tt;
    dictionary_tree = record { node = λ some. absurd (omega arith); ascends = tt };
    entries = tt;
  };
  column = record { ascends = tt; numbers = tt; items = tt };
  values = λ value. (λ h. h, λ h. h);
  lists = tt;
}

all_empty : (m : Records) (i : ℕ) (ts : List (Kind × ValueType))
    → AllByRecursion (λ a. IsLawfulAttribute a.kind a.type m a.documents a.dictionary) (attributes_from i ts [])
all_empty m i [] = tt
all_empty m i (t ∷ ts) = (no_trees t.0 t.1 m, all_empty m (suc i) ts)

no_columns : (m : Records) (i : ℕ) (ts : List (Kind × ValueType)) → AllByRecursion (λ (column : Column). column ≡ []) (columns_at m (attributes_from i ts []))
no_columns m i [] = tt
no_columns m i (t ∷ ts) = (refl, no_columns m (suc i) ts)

same_empty : (columns : List Column) → AllByRecursion (λ (column : Column). column ≡ []) columns → HaveSameDocuments columns
same_empty [] all = tt
same_empty (column ∷ columns) all = each columns all.1
  where
    each : (others : List Column) → AllByRecursion (λ (other : Column). other ≡ []) others → AllByRecursion (λ (other : Column). keys_of other ≡ keys_of column) others
    each [] empty = tt
    each (other ∷ others) empty = (ap keys_of empty.0 ∙ sym (ap keys_of all.0), each others empty.1)

empty_table : (columns : List Column) → AllByRecursion (λ (column : Column). column ≡ []) columns → table_of_columns columns ≡ []
empty_table [] all = refl
empty_table (column ∷ []) all = ap (λ c. table_of_columns (c ∷ [])) all.0
empty_table (column ∷ next ∷ rest) all = ap (λ c. table_of_columns (c ∷ next ∷ rest)) all.0

pub table_empty : (shape : ℕ) (m : Records) → table_of shape m 0 ≡ []
table_empty shape m = empty_table (columns_at m (attributes_from 0 (types_of_shape shape) [])) (no_columns m 0 (types_of_shape shape))

-- ---- an image and its attributes
pub attributes_lawful : (shape : ℕ) (m : Records) (root : ℕ) → IsLawfulImage shape m root → AreLawfulAttributes m (attributes_of shape m root)
attributes_lawful shape m zero lawful = record {
  each = all_empty m 0 (types_of_shape shape);
  documents = same_empty (columns_at m (attributes_from 0 (types_of_shape shape) [])) (no_columns m 0 (types_of_shape shape));
}
attributes_lawful shape m (suc root) lawful = lawful.attributes

pub image_lawful : (shape : ℕ) (m : Records) (root : ℕ) → IsRootRecord (length (types_of_shape shape)) (root_words m root)
    → AreLawfulAttributes m (attributes_of shape m root) → IsLawfulImage shape m root
image_lawful shape m zero form attributes = tt
image_lawful shape m (suc root) form attributes = record { root_record = form; attributes = attributes }

pub operations_few : (shape : ℕ) (m : Records) (root : ℕ) → IsLawfulImage shape m root → operations_at m root < 2 ^ 32
operations_few shape m zero lawful = omega arith
operations_few shape m (suc root) lawful = lawful.root_record.few

abbrev named : ℕ → Kind × ValueType → List ℕ → AttributeTrees
named i t ws = record { kind = t.0; type = t.1; documents = slice_index ws (1 + 2 * i); dictionary = slice_index ws (2 + 2 * i) }

attribute_from : (j : ℕ) (ts : List (Kind × ValueType)) (ws : List ℕ) (i k : ℕ) (t : Kind × ValueType) → k ≡ j + i → slice_get ts i ≡ Some t
    → slice_get (attributes_from j ts ws) i ≡ Some (named k t ws)
attribute_from j [] ws i k t is at = cc
attribute_from j (first ∷ ts) ws zero k t is at =
    ap (λ one. Some (named j one ws)) (same_Some first t at) ∙ ap (λ n. Some (named n t ws)) (let same : j ≡ k = omega arith in same)
attribute_from j (first ∷ ts) ws (suc i) k t is at = attribute_from (suc j) ts ws i k t (omega arith) at

-- ---- its table
columns_lawful : (m : Records) (i : ℕ) (fields : List Field) (ws : List ℕ)
    → AllByRecursion (λ a. IsLawfulAttribute a.kind a.type m a.documents a.dictionary) (attributes_from i (types_of fields) ws)
    → AllZip (λ (field : Field) column. IsLawfulColumn field.kind column) fields (columns_at m (attributes_from i (types_of fields) ws))
columns_lawful m i [] ws each = tt
columns_lawful m i (field ∷ fields) ws each = (each.0.column, columns_lawful m (suc i) fields ws each.1)

attributes_are : (fields : List Field) (m : Records) (root : ℕ) → length fields ≤ MOST_FIELDS
    → attributes_of (shape_of (types_of fields)) m root ≡ attributes_from 0 (types_of fields) (root_words m root)
attributes_are fields m root few =
    ap (λ (ts : List (Kind × ValueType)). attributes_from 0 ts (root_words m root))
    (shape_tells (types_of fields) (subst (λ n. n ≤ MOST_FIELDS) (sym (types_length fields)) few))
  where
    types_length : (list : List Field) → length (types_of list) ≡ length list
    types_length [] = refl
    types_length (field ∷ list) = ap suc (types_length list)

pub table_lawful : (fields : List Field) (m : Records) (root : ℕ) → length fields ≤ MOST_FIELDS → IsLawfulImage (shape_of (types_of fields)) m root
    → IsLawfulTable fields (table_of (shape_of (types_of fields)) m root)
table_lawful fields m root few lawful =
    let are = attributes_are fields m root few in
    let good = subst (AreLawfulAttributes m) are (attributes_lawful (shape_of (types_of fields)) m root lawful) in
    subst (λ attributes. IsLawfulTable fields (table_of_columns (columns_at m attributes))) (sym are)
    (columns_make_lawful fields (columns_at m (attributes_from 0 (types_of fields) (root_words m root))) (columns_lawful m 0 fields (root_words m root) good.each) good.documents)

pub value_typed : (type : ValueType) (ws : List ℕ) → type_of (value_of type ws) ≡ type
value_typed types.Long ws = refl
value_typed types.Text ws = refl

pub items_typed : (type : ValueType) (m : Records) (es : List (ℕ × ℤ))
    → AllByRecursion (λ value. type_of value ≡ type) (map (λ (item : Item). item.value) (map (λ (e : ℕ × ℤ). let item : Item = record { value = stored_value type m e.0; weight = e.1 } in item) es))
items_typed type m [] = tt
items_typed type m (e ∷ es) = (value_typed type (m e.0), items_typed type m es)

pub pairs_typed : (field : Field) (m : Records) (ps : List (ℕ × ℕ)) → IsTyped field (map (λ (p : ℕ × ℕ). (p.0, items_at field.kind field.value m p.1)) ps)
pairs_typed field m [] = tt
pairs_typed field m (p ∷ ps) = (items_typed field.value m (weighted field.kind p.1 (m p.1)), pairs_typed field m ps)

columns_typed : (m : Records) (i : ℕ) (fields : List Field) (ws : List ℕ) → AllZip IsTyped fields (columns_at m (attributes_from i (types_of fields) ws))
columns_typed m i [] ws = tt
columns_typed m i (field ∷ fields) ws = (pairs_typed field m (tree_pairs m (slice_index ws (1 + 2 * i))), columns_typed m (suc i) fields ws)

pub table_has_type : (fields : List Field) (m : Records) (root : ℕ) → length fields ≤ MOST_FIELDS → DocumentsHaveType fields (table_of (shape_of (types_of fields)) m root)
table_has_type fields m root few =
    subst (λ attributes. DocumentsHaveType fields (table_of_columns (columns_at m attributes))) (sym (attributes_are fields m root few))
    (columns_make_typed fields (columns_at m (attributes_from 0 (types_of fields) (root_words m root))) (columns_typed m 0 fields (root_words m root)))

field_at : (fields : List Field) (i : ℕ) (field : Field) → slice_get fields i ≡ Some field → slice_get (types_of fields) i ≡ Some (field.kind, field.value)
field_at fields i field at = slice_get-map (λ (f : Field). (f.kind, f.value)) fields i ∙ ap (option_map (λ (f : Field). (f.kind, f.value))) at

module _ (fields : List Field) (m : Records) (root : ℕ) (few : length fields ≤ MOST_FIELDS) (lawful : IsLawfulImage (shape_of (types_of fields)) m root) where
  pub field_is_there : (i : ℕ) (field : Field) → slice_get fields i ≡ Some field
      → HasField field (table_of (shape_of (types_of fields)) m root) m (documents_at m root i) (dictionary_at m root i) i
  field_is_there i field at =
      let attributes = attributes_of (shape_of (types_of fields)) m root in
      let good = attributes_lawful (shape_of (types_of fields)) m root lawful in
      let t : Kind × ValueType = (field.kind, field.value) in
      let a : AttributeTrees = named i t (root_words m root) in
      let there : slice_get attributes i ≡ Some a =
      ap (λ (list : List AttributeTrees). slice_get list i) (attributes_are fields m root few) ∙ attribute_from 0 (types_of fields) (root_words m root) i i t (omega arith) (field_at fields i field at) in
      let attribute = AllByRecursion-slice_get (λ (a : AttributeTrees). IsLawfulAttribute a.kind a.type m a.documents a.dictionary) attributes i a good.each there in
      let column = table_has_columns (columns_at m attributes) i (column_at field.kind field.value m (documents_at m root i)) good.documents
      (slice_get-map (λ (a : AttributeTrees). column_at a.kind a.type m a.documents) attributes i ∙ ap (option_map (λ (a : AttributeTrees). column_at a.kind a.type m a.documents)) there) in
      record {
        attribute = attribute;
        column = column;
        index = subst (λ c. IsIndexOf c (index_of field.value m (dictionary_at m root i))) (sym column) (dictionary_is_index field.kind field.value m (documents_at m root i) (dictionary_at m root i) attribute);
      }

-- the root of a tree is there
pub node_there : (m : Records) (least level ref : ℕ) → IsNode m least level ref → 0 < length (m ref)
unfolding IsNode
node_there m least zero ref node = let size = node.0.size in omega arith
node_there m least (suc level) ref node = let size = node.0.size in omega arith

root_there : (m : Records) (root : ℕ) → (0 < root → IsRootNode m root) → 0 < root → 0 < length (m root)
root_there m root node some = node_there m (root_least (root_level m root)) (root_level m root) root (node some)

pub roots_there : (kind : Kind) (type : ValueType) (m : Records) (documents dictionary : ℕ) → IsLawfulAttribute kind type m documents dictionary
    → (0 < documents → 0 < length (m documents)) × (0 < dictionary → 0 < length (m dictionary))
roots_there kind type m documents dictionary lawful =
    (root_there m documents lawful.forms.documents_tree.node, root_there m dictionary lawful.forms.dictionary_tree.node)
