-- When no list of attributes is a bit vector: bit vectors are not wanted, or there are too few documents.
use Rattle.std.proofs.Common.{◌≡◌, ℕ, suc, ◌<◌, Bool, true, false, List, [], ◌∷◌, length, Some, inl, inr, refl, ap, subst, arith}
use Rattle.std.specs.List.{AllByRecursion}
use Rattle.entry_ref.specs.Records.{Records}
use Rattle.tree_read.specs.Pairs.{lookup_pair}
use Rattle.tree_read.specs.Trees.{tree_pairs}
use Rattle.attr_field.proofs.SizeLemmas.{documents_few}
use Rattle.attr_field.specs.Fields.{IsField}
use Rattle.attr_field.specs.Forms.{wants}
use Rattle.image_format.proofs.ImageLemmas.{value_typed}
use Rattle.image_format.specs.Documents.{column_at}
use Rattle.image_format.specs.Postings.{index_of}
use Rattle.image_format.specs.Tables.{AttributeTrees}
use Rattle.image_format.specs.Values.{stored_value}
use Rattle.image_format.specs.declared.TheConstants.{LEAST_DENSE}
use Rattle.index_model.specs.Columns.{column_of, documents_with, Column}
use Rattle.index_model.specs.Index.{list_of}
use Rattle.attr_types.specs.Table.{Table}
use Rattle.attr_types.specs.Value.{value_cmp}
use Rattle.attr_types.specs.declared.field.Field.{Field}
use Rattle.attr_types.specs.declared.kind.Kind.{Kind}
use Rattle.attr_types.specs.declared.kind.Kind.TheVariants.{Single, Array, WeightedSet}
use Rattle.attr_types.specs.declared.kind.ValueType.{ValueType}
use Rattle.attr_types.specs.declared.value.Value.{Value}
use Rattle.attr_operations.specs.Fields.{column_in, AreFields, HaveForms, IsFieldAt}
use Rattle.attr_operations.specs.Views.{table_at}
use Rattle.attr_operations.proofs.Columns.{column_at_tree}
use Rattle.attr_operations.proofs.TreeLists.{all_from}
use Rattle.posting_store.specs.Lists.{list_at, is_vector, IsPlain}
use Rattle.posting_store.proofs.FormLemmas.{at_form, plain_of}
use Rattle.value_index.specs.Forms.{IsPlainIndex}
use Rattle.value_index.specs.Indexes.{IsIndex, IsValuePair}
use Rattle.value_index.proofs.IndexLemmas.{docs_at}
use Rattle.value_index.proofs.KeyLemmas.{list_found}
use Rattle.compaction_moves.proofs.IndexPairs.{InPairs, at_pair, each_pair, other_pair, split_pair}
use Rattle.compaction_steps.specs.Units.{ArePlain}

-- ---- without the flag
unwanted : (dense : Bool) (kind : Kind) → dense ≡ false → wants dense kind ≡ false
unwanted dense Single off = off
unwanted dense Array off = off
unwanted dense WeightedSet off = refl

forms_plain : (dense : Bool) (m : Records) (trees : List AttributeTrees) → HaveForms dense m trees → dense ≡ false → ArePlain m trees
forms_plain dense m [] are off = tt
forms_plain dense m (a ∷ trees) are off = (are.0.plain (unwanted dense a.kind off), forms_plain dense m trees are.1 off)

-- ---- with few documents: a bit vector has more
module _ (m : Records) (kind : Kind) (type : ValueType) (documents dictionary : ℕ) (field : IsField kind type m documents dictionary) where
  abbrev here : Column
  here = column_at kind type m documents

  module _ (q : ℕ × ℕ) (within : InPairs q (tree_pairs m dictionary)) where
    abbrev value : Value
    value = stored_value type m q.0

    found : lookup_pair (λ k. value_cmp (stored_value type m k) value) (tree_pairs m dictionary) ≡ Some q
    found = elim (split_pair (λ k. value_cmp (stored_value type m k) value) q (tree_pairs m dictionary) within) [
      | inl there ↦ there
      | inr rest ↦ absurd (other_pair (stored_value type m) value (tree_pairs m dictionary) field.index_is.dictionary_is.tree_is.ascends q rest refl)
    ]

    list_is : list_of value (index_of type m dictionary) ≡ docs_at m q.1
    list_is =
        subst (λ (t : ValueType). IsIndex t m dictionary → lookup_pair (λ k. value_cmp (stored_value t m k) value) (tree_pairs m dictionary) ≡ Some q
        → list_of value (index_of t m dictionary) ≡ docs_at m q.1)
        (value_typed type (m q.0)) (λ is there. list_found value m dictionary is q there) field.index_is found

    pair_plain : length here < LEAST_DENSE → IsPlain q.1
    pair_plain few = told (is_vector q.1) refl
      where
        told : (dense : Bool) → is_vector q.1 ≡ dense → IsPlain q.1
        told false off = plain_of q.1 off
        told true on =
            let pair = at_pair (IsValuePair m) (tree_pairs m dictionary) field.index_is.pairs q within in
            let long = pair.long on in
            let read : length (list_at m q.1) ≡ length (docs_at m q.1) = ap length (at_form m q.1 pair.some) in
            let same : length (list_of value (index_of type m dictionary)) ≡ length (docs_at m q.1) = ap length list_is in
            let lists : length (list_of value (index_of type m dictionary)) ≡ length (documents_with value here) = ap length (field.index_of_documents.lists value) in
            let most = documents_few value here in
            absurd (omega (arith, few, long, read, same, lists, most))

  plain_few : length here < LEAST_DENSE → IsPlainIndex m dictionary
  plain_few few = each_pair (λ p. IsPlain p.1) (tree_pairs m dictionary) (λ q within. pair_plain q within few)

all_plain : (m : Records) (trees : List AttributeTrees) → AllByRecursion (IsFieldAt m) trees → AllByRecursion (λ a. length (column_in m a) < LEAST_DENSE) trees → ArePlain m trees
all_plain m [] are few = tt
all_plain m (a ∷ trees) are few = (plain_few m a.kind a.type a.documents a.dictionary are.0 few.0, all_plain m trees are.1 few.1)

column_length : (i : ℕ) (table : Table) → length (column_of i table) ≡ length table
column_length i [] = refl
column_length i (e ∷ table) = ap suc (column_length i table)

-- ---- both
pub plain_by : (dense : Bool) (m : Records) (fields : List Field) (trees : List AttributeTrees) → AreFields m fields trees → HaveForms dense m trees
    → (dense ≡ true → length (table_at m trees) < LEAST_DENSE) → ArePlain m trees
plain_by false m fields trees are forms few = forms_plain false m trees forms refl
plain_by true m fields trees are forms few =
    all_plain m trees are.each (all_from (λ a. length (column_in m a) < LEAST_DENSE) trees (λ i a at.
    let below = few refl in
    let same : length (column_in m a) ≡ length (column_of i (table_at m trees)) = ap length (column_at_tree m trees i a are.documents at) in
    let size = column_length i (table_at m trees) in
    omega (arith, below, same, size)))
