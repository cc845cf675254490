-- Proofs, which are in specs/ since the laws of the layout cite them. They are not part of the specification.
-- A lawful image reaches existing records. It stays lawful, and reaches the same records, while these records stay
-- the same.
use Rattle.std.proofs.Common.{◌≡◌, ℕ, zero, suc, ◌+◌, ◌*◌, ◌<◌, ◌^◌, List, [], ◌∷◌, ◌++◌, length, length-append, map, refl, sym, ap, subst}
use Rattle.std.proofs.Common.{◌∙◌, arith}
use Rattle.std.specs.Prelude.{ℤ, pos, Bool, true, false, cond, nat_le, Some}
use Rattle.std.specs.List.{find, flat_map, AllByRecursion}
use Rattle.std.specs.Option.{unwrap_or}
use Rattle.std.specs.Ordering.{nat_cmp}
use Rattle.std.proofs.lemmas.List.Concat.{flat_map_single}
use Rattle.entry_ref.specs.Records.{Records, SameAt, AllThere}
use Rattle.tree_read.specs.ProofsForTrees.{SameAt-left, SameAt-right, flat_map-same, map-same, all-same, tree_pairs-same}
use Rattle.tree_read.specs.ProofsForTrees.{tree_nodes-same, IsTree-same, there-both, tree_there}
use Rattle.tree_read.specs.Trees.{tree_pairs, tree_nodes, by_number}
use Rattle.image_format.specs.Attributes.{trees_reach, AreFormed, IsLawfulAttribute}
use Rattle.index_model.specs.Columns.{Column, IsLawfulColumn}
use Rattle.index_model.specs.Index.{HasValues, HasLists}
use Rattle.image_format.specs.Documents.{weighted, IsItemsRecord, items_reach, items_at, AreItemRecords, column_at, documents_reach}
use Rattle.image_format.specs.Images.{attributes_from, attributes_of, IsRootRecord, attr_reaches, IsLawfulImage}
use Rattle.image_format.specs.Postings.{ListForm, short, tree, vector, list_form, block_documents, vector_documents, postings_at, IsBlock}
use Rattle.image_format.specs.Postings.{IsPostingList, postings_reach, index_of, IsDictionaryEntry, dictionary_reach}
use Rattle.image_format.specs.Shapes.{types_of_shape}
use Rattle.image_format.specs.Tables.{AttributeTrees, HaveSameDocuments, columns_at, attributes_reach, AreLawfulAttributes}
use Rattle.image_format.specs.Values.{value_of, stored_value, value_words, IsValueRecord}
use Rattle.image_format.specs.Words.{classes, class_of, filled, stored_items, unpacked, weight_in_bits, IsStoredList}
use Rattle.image_format.specs.declared.TheConstants.{MOST_SHORT}
use Rattle.attr_types.specs.Change.{most_items}
use Rattle.attr_types.specs.Value.{value_cmp}
use Rattle.attr_types.specs.declared.items.Item.{Item}
use Rattle.attr_types.specs.declared.kind.Kind.{Kind}
use Rattle.attr_types.specs.declared.kind.Kind.TheVariants.{Single, Array, WeightedSet}
use Rattle.attr_types.specs.declared.kind.ValueType.{ValueType}
use Rattle.attr_types.specs.declared.value.Value.{Value}
use Rattle.attr_types.specs.declared.value.Value.TheVariants as values

-- the references of a document's values are among those that it reaches
weighted_reach : (kind : Kind) (m n : Records) (ref : ℕ) → SameAt (items_reach kind ref (m ref)) m n
    → SameAt (map (λ e. e.0) (weighted kind ref (m ref))) m n
weighted_reach kind m n zero h = tt
weighted_reach Single m n (suc ref) h = h
weighted_reach Array m n (suc ref) h = h.1
weighted_reach WeightedSet m n (suc ref) h = h.1

weighted-same : (kind : Kind) (m n : Records) (ref : ℕ) → SameAt (items_reach kind ref (m ref)) m n
    → weighted kind ref (n ref) ≡ weighted kind ref (m ref)
weighted-same kind m n zero h = refl
weighted-same Single m n (suc ref) h = refl
weighted-same Array m n (suc ref) h = ap (weighted Array (suc ref)) h.0
weighted-same WeightedSet m n (suc ref) h = ap (weighted WeightedSet (suc ref)) h.0

items_reach-same : (kind : Kind) (m n : Records) (ref : ℕ) → SameAt (items_reach kind ref (m ref)) m n
    → items_reach kind ref (n ref) ≡ items_reach kind ref (m ref)
items_reach-same kind m n zero h = refl
items_reach-same Single m n (suc ref) h = refl
items_reach-same Array m n (suc ref) h = ap (items_reach Array (suc ref)) h.0
items_reach-same WeightedSet m n (suc ref) h = ap (items_reach WeightedSet (suc ref)) h.0

IsItemsRecord-same : (kind : Kind) (m n : Records) (ref : ℕ) → SameAt (items_reach kind ref (m ref)) m n
    → IsItemsRecord kind ref (m ref) → IsItemsRecord kind ref (n ref)
IsItemsRecord-same kind m n zero h form = tt
IsItemsRecord-same Single m n (suc ref) h form = tt
IsItemsRecord-same Array m n (suc ref) h form = subst (IsStoredList most_items) (sym h.0) form
IsItemsRecord-same WeightedSet m n (suc ref) h form = subst (IsStoredList most_items) (sym h.0) form

module _ (kind : Kind) (type : ValueType) (m n : Records) where
  -- each value of a document reaches its own record
  values_reach : (ref : ℕ) → SameAt (items_reach kind ref (m ref)) m n → SameAt (flat_map (λ e. e.0 ∷ []) (weighted kind ref (m ref))) m n
  values_reach ref h = subst (λ rs. SameAt rs m n) (sym (flat_map_single (λ e. e.0) (weighted kind ref (m ref))))
      (weighted_reach kind m n ref h)

  items_at-same : (ref : ℕ) → SameAt (items_reach kind ref (m ref)) m n → items_at kind type n ref ≡ items_at kind type m ref
  items_at-same ref h =
      let f : ℕ × ℤ → Item = λ e. record { value = stored_value type m e.0; weight = e.1 } in
      let g : ℕ × ℤ → Item = λ e. record { value = stored_value type n e.0; weight = e.1 } in
      let each : (e : ℕ × ℤ) → SameAt (e.0 ∷ []) m n
      → g e ≡ f e = λ e s. ap (λ ws. record { value = value_of type ws; weight = e.1 }) s.0 in
      ap (map g) (weighted-same kind m n ref h) ∙ map-same m n (λ (e : ℕ × ℤ). e.0 ∷ []) f g each (weighted kind ref (m ref))
      (values_reach ref h)

  AreItemRecords-same : (ref : ℕ) → SameAt (items_reach kind ref (m ref)) m n → AreItemRecords kind type m ref
      → AreItemRecords kind type n ref
  AreItemRecords-same ref h items =
      let P : ℕ × ℤ → Type 0 = λ e. IsValueRecord type (m e.0) in
      let Q : ℕ × ℤ → Type 0 = λ e. IsValueRecord type (n e.0) in
      let values = all-same m n (λ (e : ℕ × ℤ). e.0 ∷ []) P Q (λ e s v. subst (IsValueRecord type) (sym s.0) v) (weighted kind ref (m ref))
      (values_reach ref h) items.1 in
      (IsItemsRecord-same kind m n ref h items.0, subst (AllByRecursion Q) (sym (weighted-same kind m n ref h)) values)

-- the blocks of a bit vector
module _ (m n : Records) (root : ℕ) (same : SameAt (tree_nodes m root ++ map (λ p. p.1) (tree_pairs m root)) m n) where
  block_pairs-same : tree_pairs n root ≡ tree_pairs m root
  block_pairs-same = tree_pairs-same m n root (SameAt-left m n (tree_nodes m root) (map (λ p. p.1) (tree_pairs m root)) same)

  -- each block reaches its own record
  blocks_reach : SameAt (flat_map (λ p. p.1 ∷ []) (tree_pairs m root)) m n
  blocks_reach = subst (λ rs. SameAt rs m n) (sym (flat_map_single (λ p. p.1) (tree_pairs m root)))
      (SameAt-right m n (tree_nodes m root) (map (λ p. p.1) (tree_pairs m root)) same)

  vector_documents-same : vector_documents n root ≡ vector_documents m root
  vector_documents-same =
      let f : ℕ × ℕ → List ℕ = λ p. block_documents p.0 (m p.1) in
      let g : ℕ × ℕ → List ℕ = λ p. block_documents p.0 (n p.1) in
      ap (flat_map g) block_pairs-same
      ∙ flat_map-same m n (λ (p : ℕ × ℕ). p.1 ∷ []) f g (λ p s. ap (block_documents p.0) s.0) (tree_pairs m root) blocks_reach

  are_blocks-same : AllByRecursion (λ p. IsBlock p.0 (m p.1)) (tree_pairs m root)
      → AllByRecursion (λ p. IsBlock p.0 (n p.1)) (tree_pairs n root)
  are_blocks-same all =
      let P : ℕ × ℕ → Type 0 = λ p. IsBlock p.0 (m p.1) in
      let Q : ℕ × ℕ → Type 0 = λ p. IsBlock p.0 (n p.1) in
      subst (AllByRecursion Q) (sym block_pairs-same)
      (all-same m n (λ (p : ℕ × ℕ). p.1 ∷ []) P Q (λ p s block. subst (IsBlock p.0) (sym s.0) block) (tree_pairs m root) blocks_reach all)

pub postings_at-same : (m n : Records) (form : ListForm) → SameAt (postings_reach m form) m n → postings_at n form ≡ postings_at m form
postings_at-same m n (short ref) h = ap (λ ws. map unpacked (stored_items ws)) h.0
postings_at-same m n (tree root) h = ap (λ ps. map (λ p. (p.0, weight_in_bits p.1)) ps) (tree_pairs-same m n root h)
postings_at-same m n (vector root) h = ap (λ docs. map (λ doc. (doc, pos 1)) docs) (vector_documents-same m n root h)

pub postings_reach-same : (m n : Records) (form : ListForm) → SameAt (postings_reach m form) m n
    → postings_reach n form ≡ postings_reach m form
postings_reach-same m n (short ref) h = refl
postings_reach-same m n (tree root) h = tree_nodes-same m n root h
postings_reach-same m n (vector root) h =
    ap (λ ps. tree_nodes n root ++ map (λ p. p.1) ps) (block_pairs-same m n root h)
    ∙ ap (λ rs. rs ++ map (λ p. p.1) (tree_pairs m root))
    (tree_nodes-same m n root (SameAt-left m n (tree_nodes m root) (map (λ p. p.1) (tree_pairs m root)) h))

pub IsPostingList-same : (m n : Records) (form : ListForm) → SameAt (postings_reach m form) m n → IsPostingList m form
    → IsPostingList n form
IsPostingList-same m n (short ref) h list = subst (IsStoredList MOST_SHORT) (sym h.0) list
IsPostingList-same m n (tree root) h list =
    let same = tree_pairs-same m n root h in (
      IsTree-same nat_cmp by_number m n root h refl list.0,
      subst (λ ps. MOST_SHORT < length ps) (sym same) list.1,
      subst (AllByRecursion (λ (p : ℕ × ℕ). p.1 < 2 ^ 32)) (sym same) list.2,
    )
IsPostingList-same m n (vector root) h list =
    let nodes = SameAt-left m n (tree_nodes m root) (map (λ p. p.1) (tree_pairs m root)) h in (
      IsTree-same nat_cmp by_number m n root nodes refl list.0,
      subst (λ (ds : List ℕ). MOST_SHORT < length ds) (sym (vector_documents-same m n root h)) list.1,
      are_blocks-same m n root h list.2,
    )

-- what a document tree represents does not change
module _ (kind : Kind) (type : ValueType) (m n : Records) (root : ℕ) (nodes : SameAt (tree_nodes m root) m n)
    (rest : SameAt (documents_reach kind m root) m n) where
  column_at-same : column_at kind type n root ≡ column_at kind type m root
  column_at-same =
      let f : ℕ × ℕ → ℕ × List Item = λ p. (p.0, items_at kind type m p.1) in
      let g : ℕ × ℕ → ℕ × List Item = λ p. (p.0, items_at kind type n p.1) in
      ap (map g) (tree_pairs-same m n root nodes)
      ∙ map-same m n (λ (p : ℕ × ℕ). items_reach kind p.1 (m p.1)) f g
      (λ p s. ap (λ items. (p.0, items)) (items_at-same kind type m n p.1 s)) (tree_pairs m root) rest

  documents_reach-same : documents_reach kind n root ≡ documents_reach kind m root
  documents_reach-same =
      let f : ℕ × ℕ → List ℕ = λ p. items_reach kind p.1 (m p.1) in
      let g : ℕ × ℕ → List ℕ = λ p. items_reach kind p.1 (n p.1) in
      ap (flat_map g) (tree_pairs-same m n root nodes)
      ∙ flat_map-same m n f f g (λ p s. items_reach-same kind m n p.1 s) (tree_pairs m root) rest

  all_items-same : AllByRecursion (λ p. AreItemRecords kind type m p.1) (tree_pairs m root)
      → AllByRecursion (λ p. AreItemRecords kind type n p.1) (tree_pairs n root)
  all_items-same all =
      let P : ℕ × ℕ → Type 0 = λ p. AreItemRecords kind type m p.1 in
      let Q : ℕ × ℕ → Type 0 = λ p. AreItemRecords kind type n p.1 in
      subst (AllByRecursion Q) (sym (tree_pairs-same m n root nodes))
      (all-same m n (λ (p : ℕ × ℕ). items_reach kind p.1 (m p.1)) P Q (λ p s. AreItemRecords-same kind type m n p.1 s)
      (tree_pairs m root) rest all)

-- what a dictionary represents does not change
module _ (type : ValueType) (m n : Records) (root : ℕ) (nodes : SameAt (tree_nodes m root) m n)
    (rest : SameAt (dictionary_reach m root) m n) where
  index_of-same : index_of type n root ≡ index_of type m root
  index_of-same =
      let f : ℕ × ℕ → Value × List (ℕ × ℤ) = λ p. (stored_value type m p.0, postings_at m (list_form p.1)) in
      let g : ℕ × ℕ → Value × List (ℕ × ℤ) = λ p. (stored_value type n p.0, postings_at n (list_form p.1)) in
      ap (map g) (tree_pairs-same m n root nodes)
      ∙ map-same m n (λ (p : ℕ × ℕ). p.0 ∷ postings_reach m (list_form p.1)) f g
      (λ p s. ap (λ ws. (value_of type ws, postings_at n (list_form p.1))) s.0 ∙ ap (λ list. (stored_value type m p.0, list))
      (postings_at-same m n (list_form p.1) s.1)) (tree_pairs m root) rest

  keys_read-same : map (λ p. stored_value type n p.0) (tree_pairs m root) ≡ map (λ p. stored_value type m p.0) (tree_pairs m root)
  keys_read-same =
      let f : ℕ × ℕ → Value = λ p. stored_value type m p.0 in
      let g : ℕ × ℕ → Value = λ p. stored_value type n p.0 in
      map-same m n (λ (p : ℕ × ℕ). p.0 ∷ postings_reach m (list_form p.1)) f g (λ p s. ap (value_of type) s.0) (tree_pairs m root) rest

  dictionary_reach-same : dictionary_reach n root ≡ dictionary_reach m root
  dictionary_reach-same =
      let f : ℕ × ℕ → List ℕ = λ p. p.0 ∷ postings_reach m (list_form p.1) in
      let g : ℕ × ℕ → List ℕ = λ p. p.0 ∷ postings_reach n (list_form p.1) in
      ap (flat_map g) (tree_pairs-same m n root nodes)
      ∙ flat_map-same m n f f g (λ p s. ap (λ rs. p.0 ∷ rs) (postings_reach-same m n (list_form p.1) s.1)) (tree_pairs m root) rest

  entries-same : AllByRecursion (IsDictionaryEntry type m) (tree_pairs m root)
      → AllByRecursion (IsDictionaryEntry type n) (tree_pairs n root)
  entries-same all =
      subst (AllByRecursion (IsDictionaryEntry type n)) (sym (tree_pairs-same m n root nodes))
      (all-same m n (λ (p : ℕ × ℕ). p.0 ∷ postings_reach m (list_form p.1)) (IsDictionaryEntry type m) (IsDictionaryEntry type n)
      (λ p s entry. (subst (IsValueRecord type) (sym s.0) entry.0, IsPostingList-same m n (list_form p.1) s.1 entry.1))
      (tree_pairs m root) rest all)

-- an attribute by its two trees
module _ (kind : Kind) (type : ValueType) (m n : Records) (documents dictionary : ℕ)
    (same : SameAt (trees_reach kind m documents dictionary) m n) where
  left : SameAt (tree_nodes m documents ++ documents_reach kind m documents) m n
  left = SameAt-left m n (tree_nodes m documents ++ documents_reach kind m documents)
      (tree_nodes m dictionary ++ dictionary_reach m dictionary) same

  right : SameAt (tree_nodes m dictionary ++ dictionary_reach m dictionary) m n
  right = SameAt-right m n (tree_nodes m documents ++ documents_reach kind m documents)
      (tree_nodes m dictionary ++ dictionary_reach m dictionary) same

  documents_nodes : SameAt (tree_nodes m documents) m n
  documents_nodes = SameAt-left m n (tree_nodes m documents) (documents_reach kind m documents) left

  documents_rest : SameAt (documents_reach kind m documents) m n
  documents_rest = SameAt-right m n (tree_nodes m documents) (documents_reach kind m documents) left

  dictionary_nodes : SameAt (tree_nodes m dictionary) m n
  dictionary_nodes = SameAt-left m n (tree_nodes m dictionary) (dictionary_reach m dictionary) right

  dictionary_rest : SameAt (dictionary_reach m dictionary) m n
  dictionary_rest = SameAt-right m n (tree_nodes m dictionary) (dictionary_reach m dictionary) right

  pub trees_column-same : column_at kind type n documents ≡ column_at kind type m documents
  trees_column-same = column_at-same kind type m n documents documents_nodes documents_rest

  pub trees_index-same : index_of type n dictionary ≡ index_of type m dictionary
  trees_index-same = index_of-same type m n dictionary dictionary_nodes dictionary_rest

  pub trees_reach-same : trees_reach kind n documents dictionary ≡ trees_reach kind m documents dictionary
  trees_reach-same =
      ap (λ xs. (xs ++ documents_reach kind n documents) ++ (tree_nodes n dictionary ++ dictionary_reach n dictionary))
      (tree_nodes-same m n documents documents_nodes)
      ∙ ap (λ xs. (tree_nodes m documents ++ xs) ++ (tree_nodes n dictionary ++ dictionary_reach n dictionary))
      (documents_reach-same kind type m n documents documents_nodes documents_rest)
      ∙ ap (λ xs. (tree_nodes m documents ++ documents_reach kind m documents) ++ (xs ++ dictionary_reach n dictionary))
      (tree_nodes-same m n dictionary dictionary_nodes)
      ∙ ap (λ xs. (tree_nodes m documents ++ documents_reach kind m documents) ++ (tree_nodes m dictionary ++ xs))
      (dictionary_reach-same type m n dictionary dictionary_nodes dictionary_rest)

  pub IsLawfulAttribute-same : IsLawfulAttribute kind type m documents dictionary → IsLawfulAttribute kind type n documents dictionary
  IsLawfulAttribute-same lawful =
      let column = trees_column-same in
      let index = trees_index-same in
      record {
        forms = record {
          documents_tree = IsTree-same nat_cmp by_number m n documents documents_nodes refl lawful.forms.documents_tree;
          items = all_items-same kind type m n documents documents_nodes documents_rest lawful.forms.items;
          dictionary_tree = IsTree-same value_cmp (stored_value type) m n dictionary dictionary_nodes
              (keys_read-same type m n dictionary dictionary_nodes dictionary_rest) lawful.forms.dictionary_tree;
          entries = entries-same type m n dictionary dictionary_nodes dictionary_rest lawful.forms.entries;
        };
        column = subst (IsLawfulColumn kind) (sym column) lawful.column;
        values = subst (λ t. HasValues t (index_of type n dictionary)) (sym column)
            (subst (HasValues (column_at kind type m documents)) (sym index) lawful.values);
        lists = subst (λ t. HasLists t (index_of type n dictionary)) (sym column)
            (subst (HasLists (column_at kind type m documents)) (sym index) lawful.lists);
      }

-- attributes side by side
module _ (m n : Records) (attributes : List AttributeTrees) (same : SameAt (attributes_reach m attributes) m n) where
  attributes_reach-same : attributes_reach n attributes ≡ attributes_reach m attributes
  attributes_reach-same =
      let f : AttributeTrees → List ℕ = λ a. trees_reach a.kind m a.documents a.dictionary in
      let g : AttributeTrees → List ℕ = λ a. trees_reach a.kind n a.documents a.dictionary in
      flat_map-same m n f f g (λ a s. trees_reach-same a.kind a.type m n a.documents a.dictionary s) attributes same

  pub columns_at-same : columns_at n attributes ≡ columns_at m attributes
  columns_at-same =
      let f : AttributeTrees → Column = λ a. column_at a.kind a.type m a.documents in
      let g : AttributeTrees → Column = λ a. column_at a.kind a.type n a.documents in
      map-same m n (λ (a : AttributeTrees). trees_reach a.kind m a.documents a.dictionary) f g
      (λ a s. trees_column-same a.kind a.type m n a.documents a.dictionary s) attributes same

  AreLawfulAttributes-same : AreLawfulAttributes m attributes → AreLawfulAttributes n attributes
  AreLawfulAttributes-same lawful =
      let P : AttributeTrees → Type 0 = λ a. IsLawfulAttribute a.kind a.type m a.documents a.dictionary in
      let Q : AttributeTrees → Type 0 = λ a. IsLawfulAttribute a.kind a.type n a.documents a.dictionary in
      record {
        each = all-same m n (λ (a : AttributeTrees). trees_reach a.kind m a.documents a.dictionary) P Q
            (λ a s one. IsLawfulAttribute-same a.kind a.type m n a.documents a.dictionary s one) attributes same lawful.each;
        documents = subst HaveSameDocuments (sym columns_at-same) lawful.documents;
      }

-- well-formed records exist
some-words : (ws front : List ℕ) → ws ≡ filled front → 0 < length front → 0 < length ws
some-words ws front is some = let size = ap length is in let more = length-append front in omega (arith, length-append {A = ℕ}, size)

some-value : (value : Value) → 0 < length (value_words value)
some-value (values.Long number) = omega arith
some-value (values.Text bytes) = omega arith

value_there : (type : ValueType) (ws : List ℕ) → IsValueRecord type ws → 0 < length ws
value_there type ws good = some-words ws (value_words (value_of type ws)) good.words (some-value (value_of type ws))

list_there : (most : ℕ) (ws : List ℕ) → IsStoredList most ws → 0 < length ws
list_there most ws good = some-words ws (length (stored_items ws) ∷ stored_items ws) good.words (omega arith)

blocks_there : (m : Records) (pairs : List (ℕ × ℕ)) → AllByRecursion (λ p. IsBlock p.0 (m p.1)) pairs → AllThere (map (λ p. p.1) pairs) m
blocks_there m [] all = tt
blocks_there m (p ∷ pairs) all = (let size = all.0.size in omega arith, blocks_there m pairs all.1)

there-each : {X : Type 0} (m : Records) (P : X → Type 0) (reach : X → List ℕ) → ((x : X) → P x → AllThere (reach x) m) → (xs : List X)
    → AllByRecursion P xs → AllThere (flat_map reach xs) m
there-each m P reach each [] all = tt
there-each m P reach each (x ∷ xs) all = there-both m (reach x) (flat_map reach xs) (each x all.0) (there-each m P reach each xs all.1)

module _ (type : ValueType) (m : Records) where
  values_there : (list : List (ℕ × ℤ)) → AllByRecursion (λ (e : ℕ × ℤ). IsValueRecord type (m e.0)) list → AllThere (map (λ e. e.0) list) m
  values_there [] all = tt
  values_there (e ∷ list) all = (value_there type (m e.0) all.0, values_there list all.1)

  items_there : (kind : Kind) (ref : ℕ) → AreItemRecords kind type m ref → AllThere (items_reach kind ref (m ref)) m
  items_there kind zero items = tt
  items_there Single (suc ref) items = (value_there type (m (suc ref)) items.1.0, tt)
  items_there Array (suc ref) items = (
    list_there most_items (m (suc ref)) items.0,
    values_there (weighted Array (suc ref) (m (suc ref))) items.1,
  )
  items_there WeightedSet (suc ref) items =
      (list_there most_items (m (suc ref)) items.0, values_there (weighted WeightedSet (suc ref) (m (suc ref))) items.1)

  pub postings_there : (form : ListForm) → IsPostingList m form → AllThere (postings_reach m form) m
  postings_there (short ref) list = (list_there MOST_SHORT (m ref) list, tt)
  postings_there (tree root) list = tree_there m root list.0.node
  postings_there (vector root) list = there-both m (tree_nodes m root) (map (λ p. p.1) (tree_pairs m root)) (tree_there m root list.0.node)
      (blocks_there m (tree_pairs m root) list.2)

  pub trees_there : (kind : Kind) (documents dictionary : ℕ) → AreFormed kind type m documents dictionary
      → AllThere (trees_reach kind m documents dictionary) m
  trees_there kind documents dictionary forms =
      there-both m (tree_nodes m documents ++ documents_reach kind m documents) (tree_nodes m dictionary ++ dictionary_reach m dictionary)
      (there-both m (tree_nodes m documents) (documents_reach kind m documents)
      (tree_there m documents forms.documents_tree.node)
      (there-each m (λ (p : ℕ × ℕ). AreItemRecords kind type m p.1) (λ (p : ℕ × ℕ). items_reach kind p.1 (m p.1))
      (λ p items. items_there kind p.1 items) (tree_pairs m documents) forms.items))
      (there-both m (tree_nodes m dictionary) (dictionary_reach m dictionary)
      (tree_there m dictionary forms.dictionary_tree.node)
      (there-each m (IsDictionaryEntry type m) (λ (p : ℕ × ℕ). p.0 ∷ postings_reach m (list_form p.1))
      (λ p entry. (value_there type (m p.0) entry.0, postings_there (list_form p.1) entry.1)) (tree_pairs m dictionary) forms.entries))

pub attributes_there : (m : Records) (attributes : List AttributeTrees)
    → AllByRecursion (λ a. IsLawfulAttribute a.kind a.type m a.documents a.dictionary) attributes
    → AllThere (attributes_reach m attributes) m
attributes_there m attributes each = there-each m (λ (a : AttributeTrees). IsLawfulAttribute a.kind a.type m a.documents a.dictionary)
    (λ a. trees_reach a.kind m a.documents a.dictionary)
    (λ a lawful. trees_there a.type m a.kind a.documents a.dictionary lawful.forms) attributes each

either_wide : (found : Bool) (w rest : ℕ) → 0 < w → 0 < rest → 0 < cond found w rest
either_wide true w rest first later = first
either_wide false w rest first later = later

found_or : (p : ℕ → Bool) (w : ℕ) (widths : List ℕ) (found : Bool)
    → unwrap_or (cond found (Some w) (find p widths)) 1024 ≡ cond found w (unwrap_or (find p widths) 1024)
found_or p w widths true = refl
found_or p w widths false = refl

first_wide : (p : ℕ → Bool) (widths : List ℕ) → AllByRecursion (λ w. 0 < w) widths → 0 < unwrap_or (find p widths) 1024
first_wide p [] wide = omega arith
first_wide p (w ∷ widths) wide =
    subst (λ n. 0 < n) (sym (found_or p w widths (p w)))
    (either_wide (p w) w (unwrap_or (find p widths) 1024) wide.0 (first_wide p widths wide.1))

class_wide : (n : ℕ) → 0 < class_of n
class_wide n = first_wide (nat_le n) classes (
  omega arith,
  (
    omega arith,
    (
      omega arith,
      (omega arith, (omega arith, (omega arith, (omega arith, (omega arith, (omega arith, (omega arith, tt))))))),
    ),
  ),
)

pub attr_empty_reaches : (shape : ℕ) (m : Records) → attr_reaches shape m 0 ≡ []
attr_empty_reaches shape m = refl

pub attr_empty_lawful : (shape : ℕ) (m : Records) → IsLawfulImage shape m 0
attr_empty_lawful shape m = tt

pub attr_present : (shape : ℕ) (m : Records) (root : ℕ) → IsLawfulImage shape m root → AllThere (attr_reaches shape m root) m
attr_present shape m zero lawful = tt
attr_present shape m (suc root) lawful = (
  subst (λ n. 0 < n) (sym lawful.root_record.size) (class_wide (1 + 2 * length (types_of_shape shape))),
  attributes_there m (attributes_of shape m (suc root)) lawful.attributes.each,
)

attr_reaches-same : (shape : ℕ) (m n : Records) (root : ℕ) → SameAt (attr_reaches shape m root) m n
    → attr_reaches shape n root ≡ attr_reaches shape m root
attr_reaches-same shape m n zero h = refl
attr_reaches-same shape m n (suc root) h =
    ap (λ ws. suc root ∷ attributes_reach n (attributes_from 0 (types_of_shape shape) ws)) h.0
    ∙ ap (λ rs. suc root ∷ rs) (attributes_reach-same m n (attributes_of shape m (suc root)) h.1)

pub attr_stays : (shape : ℕ) (m n : Records) (root : ℕ) → SameAt (attr_reaches shape m root) m n
    → IsLawfulImage shape m root → IsLawfulImage shape n root × (attr_reaches shape n root ≡ attr_reaches shape m root)
attr_stays shape m n zero h lawful = (tt, refl)
attr_stays shape m n (suc root) h lawful =
    let reach = attr_reaches-same shape m n (suc root) h in
    let attributes = AreLawfulAttributes-same m n (attributes_of shape m (suc root)) h.1 lawful.attributes in (
      record {
        root_record = subst (IsRootRecord (length (types_of_shape shape))) (sym h.0) lawful.root_record;
        attributes = subst (λ ws. AreLawfulAttributes n (attributes_from 0 (types_of_shape shape) ws)) (sym h.0) attributes;
      },
      reach,
    )
