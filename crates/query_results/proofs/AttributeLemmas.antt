-- An attribute of a lawful image, as its records and as its table.
use Rattle.std.proofs.Common.{◌≡◌, ◌≤◌, ◌<◌, ◌+◌, ◌*◌, ◌^◌, ℕ, zero, suc, true, false, List, [], ◌∷◌, length, map, Some, None, refl, sym, ap, subst, ◌∙◌, cond, get_or, arith}
use Rattle.std.proofs.lemmas.Option.{slice_get_read, slice_get_within}
use Rattle.std.specs.BTreeMap.{is_at}
use Rattle.std.specs.List.{AllByRecursion, AllZip}
use Rattle.std.specs.Map.{keys_of, lookup}
use Rattle.std.specs.Option.{unwrap_or}
use Rattle.std.specs.Ordering.{is_eq, nat_cmp}
use Rattle.std.specs.Prelude.{slice_get}
use Rattle.entry_ref.specs.Records.{Records}
use Rattle.tree_read.specs.Trees.{tree_pairs}
use Rattle.attr_types.specs.Change.{most_items}
use Rattle.attr_types.specs.Lawful.{IsDocNumber, IsLawfulDocument, IsLawfulItems}
use Rattle.attr_types.specs.Query.{items_in}
use Rattle.attr_types.specs.Table.{Table}
use Rattle.attr_types.specs.Value.{Document}
use Rattle.attr_types.specs.declared.field.Field.{Field}
use Rattle.attr_types.specs.declared.field.TheConstants.{MOST_FIELDS}
use Rattle.attr_types.specs.declared.kind.Kind.{Kind}
use Rattle.attr_types.specs.declared.kind.Kind.TheVariants.{Single, Array, WeightedSet}
use Rattle.attr_types.specs.declared.kind.ValueType.{ValueType}
use Rattle.index_model.specs.Columns.{Column, column_of, items_of}
use Rattle.image_format.specs.Attributes.{IsLawfulAttribute}
use Rattle.image_format.specs.Documents.{column_at, items_at, AreItemRecords}
use Rattle.image_format.specs.Images.{documents_at, table_of, IsLawfulImage}
use Rattle.image_format.specs.Shapes.{shape_of, types_of}
use Rattle.image_format.proofs.FilledLemmas.{some_list, some_value}
use Rattle.image_format.proofs.ImageLemmas.{roots_there, table_lawful}
use Rattle.image_format.proofs.RootLemmas.{root_has_words}
use Rattle.doc_vector.specs.Documents.{IsDocumentPair}
use Rattle.attr_field.specs.Documents.{AreItemsAt, IsDocuments}
use Rattle.query_eval.proofs.ImageLemmas.{field_at}
use Rattle.result_model.specs.Values.{items_of as items_in_table}

-- ---- the records of an attribute

module _ (kind : Kind) (type : ValueType) (m : Records) (references : (r : ℕ) → 0 < length (m r) → r < 2 ^ 32) where
  small_by : (k : Kind) (r : ℕ) → AreItemRecords k type m r → r < 2 ^ 32
  small_by k zero is = omega arith
  small_by Single (suc r) is = references (suc r) (some_value type (m (suc r)) is.1.0)
  small_by Array (suc r) is = references (suc r) (some_list most_items (m (suc r)) is.0)
  small_by WeightedSet (suc r) is = references (suc r) (some_list most_items (m (suc r)) is.0)

  abbrev columned : List (ℕ × ℕ) → Column
  columned ps = map (λ p. (p.0, items_at kind type m p.1)) ps

  are_pairs : (ps : List (ℕ × ℕ)) → AllByRecursion IsDocNumber (keys_of (columned ps)) → AllByRecursion (λ p. AreItemRecords kind type m p.1) ps
      → AllByRecursion IsDocumentPair ps
  are_pairs [] numbers records = tt
  are_pairs (p ∷ ps) numbers records = (record { document = numbers.0; reference = small_by kind p.1 records.0 }, are_pairs ps numbers.1 records.1)

  are_items : (ps : List (ℕ × ℕ)) → AllByRecursion (λ p. AreItemRecords kind type m p.1) ps → AllByRecursion (λ e. IsLawfulItems kind e.1) (columned ps)
      → AllByRecursion (λ p. AreItemsAt kind type m p.1) ps
  are_items [] records lawful = tt
  are_items (p ∷ ps) records lawful = (record { records = records.0; lawful = lawful.0 }, are_items ps records.1 lawful.1)

  are_documents : (documents dictionary : ℕ) → IsLawfulAttribute kind type m documents dictionary → IsDocuments kind type m documents
  are_documents documents dictionary own =
      let ps = tree_pairs m documents in
      record {
        map_is = record { tree_is = own.forms.documents_tree; pairs = are_pairs ps own.column.numbers own.forms.items };
        items = are_items ps own.forms.items own.column.items;
      }

-- ---- the items of a document

-- of a table's column
pub column_found : (i : ℕ) (table : Table) (doc : ℕ) → items_of (column_of i table) doc ≡ items_in_table i table doc
column_found i [] doc = refl
column_found i (e ∷ table) doc =
    elim (is_eq (nat_cmp doc e.0)) as (λ b.
    unwrap_or (cond b (Some (items_in e.1 i)) (lookup (is_at (nat_cmp doc)) (column_of i table))) []
    ≡ items_in (unwrap_or (cond b (Some e.1) (lookup (is_at (nat_cmp doc)) table)) []) i)
    [ true ↦ refl | false ↦ column_found i table doc ]

pub none_at : (fields : List Field) (document : Document) → AllZip (λ field items. IsLawfulItems field.kind items) fields document
    → (i : ℕ) → length fields ≤ i → slice_get document i ≡ None
none_at [] [] all i le = refl
none_at [] (items ∷ document) all i le = absurd all
none_at (field ∷ fields) [] all i le = refl
none_at (field ∷ fields) (items ∷ document) all zero le = absurd (omega (arith, le))
none_at (field ∷ fields) (items ∷ document) all (suc i) le = none_at fields document all.1 i (omega (arith, le))

-- of an attribute that is not there
none_found : (fields : List Field) (i : ℕ) → length fields ≤ i → (table : Table) → AllByRecursion (λ e. IsLawfulDocument fields e.1) table
    → (doc : ℕ) → [] ≡ items_in_table i table doc
none_found fields i le [] all doc = refl
none_found fields i le (e ∷ table) all doc =
    elim (is_eq (nat_cmp doc e.0)) as (λ b. [] ≡ items_in (unwrap_or (cond b (Some e.1) (lookup (is_at (nat_cmp doc)) table)) []) i)
    [ true ↦ sym (ap (λ o. unwrap_or o []) (none_at fields e.1 all.0 i le)) | false ↦ none_found fields i le table all.1 doc ]

-- ---- an attribute of an image

pub field_there : (xs fields : List Field) (i : ℕ) (own : Field) → xs ≡ fields → i < length xs → own ≡ get_or xs i own → slice_get fields i ≡ Some own
field_there xs fields i own same within is =
    subst (λ fs. slice_get fs i ≡ Some own) same (slice_get_read xs (length xs) i own refl within is)

-- what its records are, and what they read as
pub record ReadsAs (kind : Kind) (type : ValueType) (m : Records) (documents field : ℕ) (table : Table) : Type 0 where
  pub documents_are : IsDocuments kind type m documents
  pub items : (doc : ℕ) → items_of (column_at kind type m documents) doc ≡ items_in_table field table doc

module _ (fields : List Field) (m : Records) (root : ℕ) (few : length fields ≤ MOST_FIELDS) (lawful : IsLawfulImage (shape_of (types_of fields)) m root) where
  abbrev table : Table
  table = table_of (shape_of (types_of fields)) m root

  pub reads_nothing : (i : ℕ) → length fields ≤ i → (doc : ℕ) → [] ≡ items_in_table i table doc
  reads_nothing i past = none_found fields i past table (table_lawful fields m root few lawful).documents

  module _ (references : (r : ℕ) → 0 < length (m r) → r < 2 ^ 32) (i : ℕ) (field : Field) (at : slice_get fields i ≡ Some field) where
    pub reads_field : ReadsAs field.kind field.value m (documents_at m root i) i table
    reads_field =
        let own = field_at fields m root few lawful i field at in
        record {
          documents_are = are_documents field.kind field.value m references (documents_at m root i) _ own.attribute;
          items = λ doc. ap (λ (column : Column). items_of column doc) (sym own.column) ∙ column_found i table doc;
        }

    pub has_root : (0 < root → 1 + 2 * i < length (m root)) × (documents_at m root i < 2 ^ 32)
    has_root = (
      λ some. let words = root_has_words fields m root few some lawful in
          let within = slice_get_within fields i field at in
          omega (arith, words, within),
      told (documents_at m root i) (roots_there field.kind field.value m (documents_at m root i) _ (field_at fields m root few lawful i field at).attribute).0,
    )
      where
        told : (r : ℕ) → (0 < r → 0 < length (m r)) → r < 2 ^ 32
        told zero there = omega arith
        told (suc r) there = references (suc r) (there (omega arith))
