-- The dictionary and the documents of an attribute of a lawful image.
use Rattle.std.proofs.Common.{◌≡◌, ◌≤◌, ℕ, List, [], ◌∷◌, length, map, Some, refl, sym, ap, subst, ◌∙◌, arith}
use Rattle.std.specs.List.{AllByRecursion}
use Rattle.std.specs.List.Sorted.{IsStrictlySortedBy}
use Rattle.std.specs.Map.{keys_of}
use Rattle.std.specs.Option.{unwrap_or}
use Rattle.std.specs.Prelude.{slice_get}
use Rattle.entry_ref.specs.Records.{Records}
use Rattle.tree_read.specs.Trees.{tree_pairs}
use Rattle.attr_types.specs.Lawful.{IsLawfulDocument, IsLawfulItems}
use Rattle.attr_types.specs.Query.{items_in}
use Rattle.attr_types.specs.Table.{Table}
use Rattle.attr_types.specs.Value.{Document}
use Rattle.attr_types.specs.declared.field.Field.{Field}
use Rattle.attr_types.specs.declared.field.TheConstants.{MOST_FIELDS}
use Rattle.attr_types.specs.declared.items.Item.{Item}
use Rattle.attr_types.specs.declared.kind.Kind.{Kind}
use Rattle.attr_types.specs.declared.kind.Kind.TheVariants.{Single}
use Rattle.attr_types.specs.declared.kind.ValueType.{ValueType}
use Rattle.attr_types.specs.declared.kind.ValueType.TheVariants.{Long}
use Rattle.attr_types.specs.declared.value.Value.{Value}
use Rattle.index_model.proofs.ColumnLemmas.{keys-column}
use Rattle.index_model.specs.Columns.{Column, column_of, documents_with}
use Rattle.index_model.specs.Index.{IsFormed}
use Rattle.image_format.specs.Documents.{items_at}
use Rattle.image_format.specs.Images.{attributes_from, dictionary_at, documents_at, root_words, table_of, IsLawfulImage}
use Rattle.image_format.specs.Shapes.{shape_of, types_of}
use Rattle.image_format.specs.Tables.{columns_at, table_of_columns}
use Rattle.image_format.proofs.ImageLemmas.{table_lawful}
use Rattle.image_format.proofs.ShapeLemmas.{shape_tells}
use Rattle.query_eval.proofs.ImageLemmas.{field_at, is_indexed}
use Rattle.query_eval.specs.Parts.{IsIndexed}
use Rattle.query_results.specs.Dictionaries.{IsDictionaryOf}
use Rattle.query_results.proofs.AttributeLemmas.{none_at}

-- ---- an attribute that is not there

items_none : (fields : List Field) (i : ℕ) → length fields ≤ i → (document : Document) → IsLawfulDocument fields document → [] ≡ items_in document i
items_none fields i past document lawful = sym (ap (λ o. unwrap_or o []) (none_at fields document lawful i past))

no_postings : (fields : List Field) (i : ℕ) → length fields ≤ i → (table : Table) → AllByRecursion (λ e. IsLawfulDocument fields e.1) table
    → (value : Value) → [] ≡ documents_with value (column_of i table)
no_postings fields i past [] all value = refl
no_postings fields i past (e ∷ table) all value =
    subst (λ (items : List Item). [] ≡ documents_with value ((e.0, items) ∷ column_of i table)) (items_none fields i past e.1 all.0)
    (no_postings fields i past table all.1 value)

no_items : (fields : List Field) (i : ℕ) → length fields ≤ i → (table : Table) → AllByRecursion (λ e. IsLawfulDocument fields e.1) table
    → AllByRecursion (λ e. IsLawfulItems Single e.1) (column_of i table)
no_items fields i past [] all = tt
no_items fields i past (e ∷ table) all =
    (subst (λ (items : List Item). IsLawfulItems Single items) (items_none fields i past e.1 all.0) (omega arith, tt), no_items fields i past table all.1)

nothing_formed : IsFormed []
unfolding IsStrictlySortedBy
nothing_formed = record { ascends = tt; filled = tt; lists_ascend = tt }

nothing_indexed : (type : ValueType) (m : Records) → IsIndexed type m 0
unfolding IsStrictlySortedBy
nothing_indexed type m = record { tree_is = record { node = λ some. absurd (omega arith); ascends = tt }; pairs = tt }

-- ---- the keys of a column

columned_keys : (kind : Kind) (type : ValueType) (m : Records) (ps : List (ℕ × ℕ)) → keys_of (map (λ p. (p.0, items_at kind type m p.1)) ps) ≡ keys_of ps
columned_keys kind type m [] = refl
columned_keys kind type m (p ∷ ps) = ap (λ (ks : List ℕ). p.0 ∷ ks) (columned_keys kind type m ps)

module _ (fields : List Field) (m : Records) (root : ℕ) (few : length fields ≤ MOST_FIELDS) (lawful : IsLawfulImage (shape_of (types_of fields)) m root) where
  abbrev table : Table
  table = table_of (shape_of (types_of fields)) m root

  pub has_dictionary : (bits i : ℕ) (field : Field) → slice_get fields i ≡ Some field
      → IsDictionaryOf bits m i table (record { kind = field.kind; value_type = field.value; root = dictionary_at m root i })
  has_dictionary bits i field at =
      let own = field_at fields m root few lawful i field at in
      record {
        indexed = is_indexed fields m root few lawful i field at;
        index = own.index;
        items = subst (λ (column : Column). AllByRecursion (λ e. IsLawfulItems field.kind e.1) column) (sym own.column) own.attribute.column.items;
        ascends = (table_lawful fields m root few lawful).ascends;
      }

  pub no_dictionary : (bits i : ℕ) → length fields ≤ i → IsDictionaryOf bits m i table (record { kind = Single; value_type = Long; root = 0 })
  no_dictionary bits i past =
      let all = table_lawful fields m root few lawful in
      record {
        indexed = nothing_indexed Long m;
        index = record { formed = nothing_formed; lists = no_postings fields i past table all.documents };
        items = no_items fields i past table all.documents;
        ascends = all.ascends;
      }

  -- each attribute has all documents
  pub all_keys : (i : ℕ) (field : Field) → slice_get fields i ≡ Some field → keys_of (tree_pairs m (documents_at m root i)) ≡ keys_of table
  all_keys i field at =
      let own = field_at fields m root few lawful i field at in
      sym (columned_keys field.kind field.value m (tree_pairs m (documents_at m root i))) ∙ ap keys_of (sym own.column) ∙ keys-column i table

  -- without attributes there are no documents
  pub no_keys : length fields ≤ 0 → [] ≡ keys_of table
  no_keys none = told fields few none
    where
      told : (fs : List Field) → length fs ≤ MOST_FIELDS → length fs ≤ 0 → [] ≡ keys_of (table_of (shape_of (types_of fs)) m root)
      told [] few none = sym (ap (λ ts. keys_of (table_of_columns (columns_at m (attributes_from 0 ts (root_words m root))))) (shape_tells [] (omega arith)))
      told (f ∷ fs) few none = absurd (omega (arith, none))
