-- A document read attribute by attribute.
use Rattle.std.proofs.Common.{◌≡◌, ℕ, zero, suc, ◌+◌, ◌<◌, List, [], ◌∷◌, ◌++◌, length, take, nat_cmp, Option, Some, None, option_map, refl, sym, ap, ◌∙◌, arith}
use Rattle.std.specs.Prelude.{slice_get, IsSome}
use Rattle.std.specs.BTreeMap.{is_at}
use Rattle.std.specs.Map.{lookup}
use Rattle.std.proofs.lemmas.List.{length-map, take_all}
use Rattle.list_lemmas.proofs.Options.{same_Some}
use Rattle.list_lemmas.proofs.Each.{AllByRecursion-slice_get}
use Rattle.image_format.proofs.TableLemmas.{document_size}
use Rattle.entry_ref.specs.Records.{Records}
use Rattle.tree_read.specs.Trees.{tree_pairs}
use Rattle.image_format.specs.Documents.{items_at}
use Rattle.index_model.specs.Columns.{column_of}
use Rattle.attr_types.proofs.TableLemmas.{Sound}
use Rattle.attr_types.specs.Query.{items_in}
use Rattle.attr_types.specs.Table.{Table, document_at}
use Rattle.attr_types.specs.Value.{Document}
use Rattle.attr_types.specs.declared.field.Field.{Field}
use Rattle.attr_types.specs.declared.items.Item.{Item}
use Rattle.attr_types.proofs.EntryLemmas.{all-lookup}
use Rattle.attr_types.specs.Lawful.{IsLawfulDocument}
use Rattle.attr_field.specs.declared.roots.FieldRoots.{FieldRoots}
use Rattle.attr_operations.specs.Fields.{AreFields, IsFieldAt, column_in, trees_of, trees_of_field}
use Rattle.attr_operations.specs.Views.{table_at}
use Rattle.attr_operations.proofs.TreeLists.{tree_get}
use Rattle.attr_operations.proofs.Columns.{column_at_tree}
use Rattle.attr_operations.proofs.FieldSteps.{lookup_column}

-- what was read of a document that may be there
pub record ReadsSoFar (i : ℕ) (found : Option Document) (items : List (List Item)) : Type 0 where
  pub some : 0 < i → IsSome found
  pub items_are : (d : Document) → found ≡ Some d → items ≡ take i d

pub reads_begin : (found : Option Document) → ReadsSoFar 0 found []
reads_begin found = record { some = λ none. absurd (omega arith); items_are = λ d is. refl }

take_more : (d : Document) (i : ℕ) → i < length d → take i d ++ items_in d i ∷ [] ≡ take (suc i) d
take_more [] i below = absurd (omega arith)
take_more (items ∷ d) zero below = refl
take_more (items ∷ d) (suc i) below = ap (λ rest. items ∷ rest) (take_more d i (omega arith))

module _ (fields : List Field) (table : Table) (doc : ℕ) (sound : Sound fields table) where
  sized : (d : Document) → document_at table doc ≡ Some d → length d ≡ length fields
  sized d is = document_size fields d (all-lookup (IsLawfulDocument fields) (is_at (nat_cmp doc)) table sound.0.documents d is)

  pub reads_more : (i : ℕ) (items : List (List Item)) (x : List Item) → i < length fields → ReadsSoFar i (document_at table doc) items
      → Some x ≡ option_map (λ d. items_in d i) (document_at table doc) → ReadsSoFar (i + 1) (document_at table doc) (items ++ x ∷ [])
  reads_more i items x below so_far is = record {
    some = λ any. there (document_at table doc) is;
    items_are = λ d found. (
        let size = sized d found in
        let same : x ≡ items_in d i = same_Some x (items_in d i) (is ∙ ap (option_map (λ e. items_in e i)) found) in
        let next : suc i ≡ i + 1 = omega arith in
        ap (λ before. before ++ x ∷ []) (so_far.items_are d found) ∙ ap (λ y. take i d ++ y ∷ []) same
        ∙ take_more d i (omega arith) ∙ ap (λ j. take j d) next
        );
  }
    where
      there : (o : Option Document) → Some x ≡ option_map (λ d. items_in d i) o → IsSome o
      there None e = cc
      there (Some d) e = refl

  pub reads_end : (items : List (List Item)) → 0 < length fields → ReadsSoFar (length fields) (document_at table doc) items → Some items ≡ document_at table doc
  reads_end items some so_far = told (document_at table doc) refl (so_far.some some)
    where
      told : (o : Option Document) → document_at table doc ≡ o → IsSome o → Some items ≡ document_at table doc
      told None is there = cc
      told (Some d) is there = ap Some (so_far.items_are d is ∙ ap (λ n. take n d) (sym (sized d is)) ∙ take_all (length d) d (omega arith)) ∙ sym is

-- a column has as many documents as the table
pub column_length : (i : ℕ) (table : Table) → length (column_of i table) ≡ length table
column_length i [] = refl
column_length i (e ∷ table) = ap suc (column_length i table)

-- no items in one attribute: the document is not there
pub reads_none : (found : Option Document) (i : ℕ) → None ≡ option_map (λ d. items_in d i) found → None ≡ found
reads_none None i is = refl
reads_none (Some d) i is = cc

module _ {bits : ℕ} (m : Records) (fields : List Field) (roots : List (FieldRoots bits)) (are : AreFields m fields (trees_of fields roots)) (i : ℕ) (field : Field) (root : FieldRoots bits)
    (at_field : slice_get fields i ≡ Some field) (at_root : slice_get roots i ≡ Some root) where
  pub reads_field : IsFieldAt m (trees_of_field field root)
  reads_field = AllByRecursion-slice_get (IsFieldAt m) (trees_of fields roots) i (trees_of_field field root) are.each (tree_get fields roots i field root at_field at_root)

  -- the number of documents
  pub reads_count : length (tree_pairs m root.documents) ≡ length (table_at m (trees_of fields roots))
  reads_count =
      let column : column_in m (trees_of_field field root) ≡ column_of i (table_at m (trees_of fields roots)) =
      column_at_tree m (trees_of fields roots) i (trees_of_field field root) are.documents (tree_get fields roots i field root at_field at_root) in
      let pairs : length (column_in m (trees_of_field field root)) ≡ length (tree_pairs m root.documents) =
      length-map (tree_pairs m root.documents) (λ (p : ℕ × ℕ). (p.0, items_at field.kind field.value m p.1)) in
      sym pairs ∙ ap length column ∙ column_length i (table_at m (trees_of fields roots))

  pub reads_items : (doc : ℕ) → lookup (is_at (nat_cmp doc)) (column_in m (trees_of_field field root))
      ≡ option_map (λ d. items_in d i) (document_at (table_at m (trees_of fields roots)) doc)
  reads_items doc =
      ap (lookup (is_at (nat_cmp doc))) (column_at_tree m (trees_of fields roots) i (trees_of_field field root) are.documents (tree_get fields roots i field root at_field at_root))
      ∙ lookup_column (is_at (nat_cmp doc)) i (table_at m (trees_of fields roots))
