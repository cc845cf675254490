-- The first attribute of a lawful image, as its records and as its table.
use Rattle.std.proofs.Common.{◌≡◌, ℕ, zero, suc, ◌+◌, ◌-◌, ◌*◌, ◌%◌, ◌^◌, ◌<◌, ltb, Bool, true, false, List, [], ◌∷◌, ◌++◌, length, map, pos, ℤ, FitsSigned, Some, refl, sym, ap, subst, ◌∙◌, arith}
use Rattle.std.specs.Prelude.{slice_get, slice_index}
use Rattle.std.specs.Int.{w32, w64, cast_signed, cast_unsigned}
use Rattle.std.specs.List.{flat_map, AllByRecursion}
use Rattle.std.specs.Map.{keys_of}
use Rattle.std.proofs.lemmas.Bool.{ltb-true}
use Rattle.std.proofs.Math.Facts.{sfits_to_z, Fits-of_lt}
use Rattle.list_lemmas.proofs.Options.{same_Some}
use Rattle.entry_ref.specs.Records.{Records}
use Rattle.tree_read.specs.Trees.{tree_pairs}
use Rattle.array_store.proofs.ClassLemmas.{class_two}
use Rattle.image_format.proofs.FilledLemmas.{some_list, some_value}
use Rattle.image_format.proofs.ImageLemmas.{attributes_lawful, operations_few, items_typed, roots_there}
use Rattle.image_format.proofs.TableLemmas.{table_has_columns}
use Rattle.image_format.specs.Attributes.{IsLawfulAttribute}
use Rattle.image_format.specs.Documents.{weighted, items_at, column_at, AreItemRecords}
use Rattle.image_format.specs.Images.{root_words, operations_at, attributes_from, table_of, IsLawfulImage}
use Rattle.image_format.specs.Shapes.{types_of_shape}
use Rattle.image_format.specs.Tables.{table_of_columns, columns_at, AreLawfulAttributes}
use Rattle.image_format.specs.Values.{value_of, value_words, IsValueRecord}
use Rattle.image_format.specs.Words.{filled, stored_items, unpacked, weight_in_bits, IsStoredList}
use Rattle.index_model.specs.Columns.{Column, column_of}
use Rattle.attr_types.specs.Change.{most_items}
use Rattle.attr_types.specs.Lawful.{IsDocNumber, IsLawfulItems, ItemsFit}
use Rattle.attr_types.specs.Query.{items_in}
use Rattle.attr_types.specs.Table.{Table}
use Rattle.attr_types.specs.declared.items.Item.{Item}
use Rattle.attr_types.specs.declared.kind.Kind.{Kind}
use Rattle.attr_types.specs.declared.kind.Kind.TheVariants.{Single, Array, WeightedSet}
use Rattle.attr_types.specs.declared.kind.ValueType.{ValueType}
use Rattle.attr_types.specs.declared.kind.ValueType.TheVariants as types
use Rattle.attr_types.specs.declared.value.Value.{Value}
use Rattle.attr_types.specs.declared.value.Value.TheVariants as values
use Rattle.attr_saver.proofs.Columns.{docs_few, none_above}
use Rattle.attr_saver.specs.Images.{image_save, IsFirst}
use Rattle.attr_saver.proofs.SavingLemmas.{saved_len}
use Rattle.attr_saver.specs.Bytes.{document_bytes, head_bytes, saved_bytes}
use Rattle.attr_saver.specs.Lawful.{first_column, save_of, docs_of, AreLawfulDocuments, IsLawfulSaved, IsStorable, IsStorableValue}
use Rattle.attr_saver.specs.Stored.{document_of, documents_of, AreStored, IsStoredPair}
use Rattle.attr_saver.specs.declared.saved.SavedDocument.{SavedDocument}

-- ---- the pairs of a document tree

abbrev read_pairs : Kind → ValueType → Records → List (ℕ × ℕ) → Column
read_pairs kind type m ps = map (λ p. (p.0, items_at kind type m p.1)) ps

column_docs : (kind : Kind) (type : ValueType) (m : Records) (ps : List (ℕ × ℕ)) → keys_of (read_pairs kind type m ps) ≡ docs_of (documents_of kind type m ps)
column_docs kind type m [] = refl
column_docs kind type m (p ∷ ps) = ap (λ (ks : List ℕ). p.0 ∷ ks) (column_docs kind type m ps)

docs_length : (kind : Kind) (type : ValueType) (m : Records) (ps : List (ℕ × ℕ)) → length (keys_of (read_pairs kind type m ps)) ≡ length ps
docs_length kind type m [] = refl
docs_length kind type m (p ∷ ps) = ap suc (docs_length kind type m ps)

-- the first column of a table, as documents
first_of : (table : Table) → first_column table ≡ map (λ (e : ℕ × List Item). record { doc = e.0; items = e.1 }) (column_of 0 table)
first_of [] = refl
first_of (e ∷ table) = ap (λ (ds : List SavedDocument). record { doc = e.0; items = items_in e.1 0 } ∷ ds) (first_of table)

documents_are : (kind : Kind) (type : ValueType) (m : Records) (ps : List (ℕ × ℕ)) → map (λ (e : ℕ × List Item). record { doc = e.0; items = e.1 }) (read_pairs kind type m ps) ≡ documents_of kind type m ps
documents_are kind type m [] = refl
documents_are kind type m (p ∷ ps) = ap (λ (ds : List SavedDocument). document_of kind type m p ∷ ds) (documents_are kind type m ps)

module _ (kind : Kind) (type : ValueType) (m : Records) where
  module _ (references : (r : ℕ) → 0 < length (m r) → r < 2 ^ 32) where
    small_by : (k : Kind) (r : ℕ) → AreItemRecords k type m r → r < 2 ^ 32
    small_by k zero is = omega arith
    small_by Single (suc r) is = references (suc r) (some_value type (m (suc r)) is.1.0)
    small_by Array (suc r) is = references (suc r) (some_list most_items (m (suc r)) is.0)
    small_by WeightedSet (suc r) is = references (suc r) (some_list most_items (m (suc r)) is.0)

    are_pairs : (ps : List (ℕ × ℕ)) → AllByRecursion IsDocNumber (keys_of (read_pairs kind type m ps)) → AllByRecursion (λ p. AreItemRecords kind type m p.1) ps
        → AllByRecursion (IsStoredPair kind type m) ps
    are_pairs [] numbers records = tt
    are_pairs (p ∷ ps) numbers records = (record { number = numbers.0.1; reference = small_by kind p.1 records.0; items = records.0 }, are_pairs ps numbers.1 records.1)

    are_stored : (documents dictionary : ℕ) → IsLawfulAttribute kind type m documents dictionary → AreStored kind type m documents
    are_stored documents dictionary own =
        let ps = tree_pairs m documents in
        let keys = keys_of (read_pairs kind type m ps) in
        record {
          node = own.forms.documents_tree.node;
          few = omega (arith, docs_few 0 keys (omega arith) (none_above keys own.column.numbers) own.column.ascends own.column.numbers, docs_length kind type m ps);
          each = are_pairs ps own.column.numbers own.forms.items;
        }

  -- ---- what may be saved

  long_storable : (ws : List ℕ) → IsValueRecord types.Long ws → FitsSigned w64 (cast_signed w64 (slice_index ws 1))
  long_storable ws is =
      let word = slice_index ws 1 in
      let same : word ≡ cast_unsigned w64 (cast_signed w64 word) = ap (λ xs. slice_index xs 1) is.words in
      sfits_to_z {w = w64} {n = word} (Fits-of_lt {w = w64} {n = word} (small word (ltb word (2 ^ 63)) refl same))
    where
      small : (n : ℕ) (b : Bool) → ltb n (2 ^ 63) ≡ b → n ≡ cast_unsigned w64 (cast_signed w64 n) → n < 2 ^ 64
      small n true below same = let lt = ltb-true _ _ below in omega (arith, lt)
      small n false past same =
          let bits : n ≡ 2 ^ 64 - suc (2 ^ 64 - suc n) = rw past at same in
          omega (arith, bits)

  value_storable : (t : ValueType) (ws : List ℕ) → IsValueRecord t ws → IsStorableValue (value_of t ws)
  value_storable types.Long ws is = long_storable ws is
  value_storable types.Text ws is = record { utf8 = is.lawful.0; short = is.lawful.1 }

  weight_fits : (word : ℕ) → FitsSigned w32 (weight_in_bits (word % 2 ^ 32))
  weight_fits word = sfits_to_z {w = w32} {n = word % 2 ^ 32} (Fits-of_lt {w = w32} {n = word % 2 ^ 32} (omega arith))

  one_fits : FitsSigned w32 (pos 1)
  one_fits = sfits_to_z {w = w32} {n = 1} (Fits-of_lt {w = w32} {n = 1} (omega arith))

  items_storable : (es : List (ℕ × ℤ)) → AllByRecursion (λ e. IsValueRecord type (m e.0)) es → AllByRecursion (λ (e : ℕ × ℤ). FitsSigned w32 e.1) es
      → AllByRecursion IsStorable (map (λ e. record { value = value_of type (m e.0); weight = e.1 }) es)
  items_storable [] records weights = tt
  items_storable (e ∷ es) records weights = (record { value = value_storable type (m e.0) records.0; weight = weights.0 }, items_storable es records.1 weights.1)

  weights_fit : (k : Kind) (ref : ℕ) (ws : List ℕ) → AllByRecursion (λ (e : ℕ × ℤ). FitsSigned w32 e.1) (weighted k ref ws)
  weights_fit k zero ws = tt
  weights_fit Single (suc ref) ws = (one_fits, tt)
  weights_fit Array (suc ref) ws = each (stored_items ws)
    where
      each : (xs : List ℕ) → AllByRecursion (λ (e : ℕ × ℤ). FitsSigned w32 e.1) (map (λ value. (value, pos 1)) xs)
      each [] = tt
      each (x ∷ xs) = (one_fits, each xs)
  weights_fit WeightedSet (suc ref) ws = each (stored_items ws)
    where
      each : (xs : List ℕ) → AllByRecursion (λ (e : ℕ × ℤ). FitsSigned w32 e.1) (map unpacked xs)
      each [] = tt
      each (x ∷ xs) = (weight_fits x, each xs)

  all_storable : (ps : List (ℕ × ℕ)) → AllByRecursion (λ p. AreItemRecords kind type m p.1) ps
      → AllByRecursion (λ d. AllByRecursion IsStorable d.items) (documents_of kind type m ps)
  all_storable [] records = tt
  all_storable (p ∷ ps) records = (items_storable (weighted kind p.1 (m p.1)) records.0.1 (weights_fit kind p.1 (m p.1)), all_storable ps records.1)

  all_fit : (ps : List (ℕ × ℕ)) → AllByRecursion (λ e. IsLawfulItems kind e.1) (read_pairs kind type m ps) → AllByRecursion (λ d. ItemsFit kind type d.items) (documents_of kind type m ps)
  all_fit [] lawful = tt
  all_fit (p ∷ ps) lawful = ((lawful.0, items_typed type m (weighted kind p.1 (m p.1))), all_fit ps lawful.1)

  are_lawful : (documents dictionary : ℕ) → IsLawfulAttribute kind type m documents dictionary → AreLawfulDocuments kind type (documents_of kind type m (tree_pairs m documents))
  are_lawful documents dictionary own =
      let ps = tree_pairs m documents in
      record {
        ascends = rw (← column_docs kind type m ps) own.column.ascends;
        numbers = rw (← column_docs kind type m ps) own.column.numbers;
        items = all_fit ps own.column.items;
      }

-- ---- the first attribute

-- the attribute that comes first, and its table's column
record HasFirst (kind : Kind) (type : ValueType) (m : Records) (ws : List ℕ) (table : Table) : Type 0 where
  attribute : IsLawfulAttribute kind type m (slice_index ws 1) (slice_index ws 2)
  column : column_of 0 table ≡ column_at kind type m (slice_index ws 1)

first_is : (kind : Kind) (type : ValueType) (m : Records) (ws : List ℕ) (ts : List (Kind × ValueType)) → slice_get ts 0 ≡ Some (kind, type)
    → AreLawfulAttributes m (attributes_from 0 ts ws) → HasFirst kind type m ws (table_of_columns (columns_at m (attributes_from 0 ts ws)))
first_is kind type m ws [] at lawful = cc
first_is kind type m ws (t ∷ ts) at lawful =
    subst (λ (u : Kind × ValueType). HasFirst u.0 u.1 m ws (table_of_columns (columns_at m (attributes_from 0 (t ∷ ts) ws)))) (same_Some t (kind, type) at)
    (record {
      attribute = lawful.each.0;
      column = table_has_columns (columns_at m (attributes_from 0 (t ∷ ts) ws)) 0 (column_at t.0 t.1 m (slice_index ws 1)) lawful.documents refl;
    })

-- what a save reads of a lawful image
pub record ReadsFirst (kind : Kind) (type : ValueType) (shape : ℕ) (m : Records) (root : ℕ) : Type 0 where
  pub words : 0 < root → 1 < length (m root)
  pub few : operations_at m root < 2 ^ 32
  pub tree_fits : slice_index (root_words m root) 1 < 2 ^ 32
  pub stored : AreStored kind type m (slice_index (root_words m root) 1)
  pub documents : documents_of kind type m (tree_pairs m (slice_index (root_words m root) 1)) ≡ first_column (table_of shape m root)

module _ (kind : Kind) (type : ValueType) (shape : ℕ) (m : Records) (root : ℕ) (first : IsFirst kind type shape) (lawful : IsLawfulImage shape m root) where
  has_first : HasFirst kind type m (root_words m root) (table_of shape m root)
  has_first = first_is kind type m (root_words m root) (types_of_shape shape) first (attributes_lawful shape m root lawful)

  documents_same : documents_of kind type m (tree_pairs m (slice_index (root_words m root) 1)) ≡ first_column (table_of shape m root)
  documents_same =
      sym (documents_are kind type m (tree_pairs m (slice_index (root_words m root) 1)))
      ∙ ap (map (λ (e : ℕ × List Item). record { doc = e.0; items = e.1 })) (sym has_first.column)
      ∙ sym (first_of (table_of shape m root))

  words_there : (r : ℕ) → IsLawfulImage shape m r → 0 < r → 1 < length (m r)
  words_there zero is some = absurd (omega arith)
  words_there (suc r) is some = let size = is.root_record.size in let two = class_two (1 + 2 * length (types_of_shape shape)) in omega arith

  fits : ((r : ℕ) → 0 < length (m r) → r < 2 ^ 32) → (r : ℕ) → (0 < r → 0 < length (m r)) → r < 2 ^ 32
  fits references zero there = omega arith
  fits references (suc r) there = references (suc r) (there (omega arith))

  pub reads_first : ((r : ℕ) → 0 < length (m r) → r < 2 ^ 32) → ReadsFirst kind type shape m root
  reads_first references = record {
    words = words_there root lawful;
    few = operations_few shape m root lawful;
    tree_fits = fits references (slice_index (root_words m root) 1) (roots_there kind type m _ _ has_first.attribute).0;
    stored = are_stored kind type m references _ _ has_first.attribute;
    documents = documents_same;
  }

  pub image_may_be_saved : IsLawfulSaved (image_save kind type shape m root)
  image_may_be_saved = record {
    operations = operations_few shape m root lawful;
    column = subst (AreLawfulDocuments kind type) documents_same (are_lawful kind type m _ _ has_first.attribute);
    storable = subst (AllByRecursion (λ (d : SavedDocument). AllByRecursion IsStorable d.items)) documents_same (all_storable kind type m _ has_first.attribute.forms.items);
  }

-- the bytes of a save, by the documents of the tree
pub save_text : (kind : Kind) (type : ValueType) (operations : ℕ) (table : Table) (m : Records) (ps : List (ℕ × ℕ)) → documents_of kind type m ps ≡ first_column table
    → head_bytes kind type operations (length ps) ++ flat_map (document_bytes kind) (documents_of kind type m ps) ≡ saved_bytes (save_of kind type operations table)
save_text kind type operations table m ps same =
    ap (λ n. head_bytes kind type operations n ++ flat_map (document_bytes kind) (documents_of kind type m ps)) (count ps)
    ∙ ap (λ (ds : List SavedDocument). head_bytes kind type operations (length ds) ++ flat_map (document_bytes kind) ds) same
  where
    count : (qs : List (ℕ × ℕ)) → length qs ≡ length (documents_of kind type m qs)
    count [] = refl
    count (q ∷ qs) = ap suc (count qs)

pub save_size : (kind : Kind) (type : ValueType) (operations : ℕ) (table : Table) (m : Records) (ps : List (ℕ × ℕ)) → documents_of kind type m ps ≡ first_column table
    → 14 + length (flat_map (document_bytes kind) (documents_of kind type m ps)) ≡ length (saved_bytes (save_of kind type operations table))
save_size kind type operations table m ps same =
    ap (λ (ds : List SavedDocument). 14 + length (flat_map (document_bytes kind) ds)) same ∙ saved_len kind type operations table
