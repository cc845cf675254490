-- What an index is: where it stays, and that an image may have it.
use Rattle.std.proofs.Common.{◌≡◌, ℕ, ℤ, ◌<◌, ◌≤◌, List, [], ◌∷◌, map, length, refl, sym, subst}
use Rattle.std.specs.List.{flat_map, AllByRecursion}
use Rattle.std.specs.List.Sorted.{IsStrictlySortedBy}
use Rattle.std.specs.Map.{keys_of}
use Rattle.std.specs.Ordering.{nat_cmp}
use Rattle.entry_ref.specs.Records.{Records, SameAt, Among}
use Rattle.tree_read.specs.ProofsForTrees.{SameAt-left, SameAt-right, all-same}
use Rattle.tree_read.specs.Trees.{tree_pairs, tree_nodes}
use Rattle.image_format.specs.Postings.{list_form, postings_at, postings_reach, dictionary_reach, index_of, IsDictionaryEntry}
use Rattle.image_format.specs.ProofsForImages.{trees_index-same}
use Rattle.image_format.specs.Values.{stored_value, IsValueRecord}
use Rattle.image_format.specs.declared.TheConstants.{LEAST_DENSE}
use Rattle.index_model.specs.Index.{IsFormed}
use Rattle.attr_types.specs.Value.{value_cmp}
use Rattle.attr_types.specs.declared.kind.Kind.TheVariants.{Single}
use Rattle.attr_types.specs.declared.kind.ValueType.{ValueType}
use Rattle.enum_dictionary.proofs.DictionaryLemmas.{dictionary_nothing, dictionary_stays}
use Rattle.posting_store.specs.ProofsForLists.{IsList-same, list_at-same}
use Rattle.posting_store.proofs.FormLemmas.{at_form, reach_form}
use Rattle.posting_store.proofs.ListLemmas.{list_filled}
use Rattle.value_index.specs.Indexes.{index_reach, IsIndex, IsKey, IsValuePair}
use Rattle.value_index.specs.Laws.{IsLawfulIndex}
use Rattle.value_index.proofs.PairLemmas.{keys}
use Rattle.value_index.proofs.ShownLemmas.{shown, shown_keys}

-- what a pair reaches
abbrev pub pair_reach : Records → ℕ × ℕ → List ℕ
pair_reach m p = p.0 ∷ postings_reach m (list_form p.1)

-- the list of a pair's word
abbrev pub docs_at : Records → ℕ → List (ℕ × ℤ)
docs_at m word = postings_at m (list_form word)

pub index_nothing : (type : ValueType) (m : Records) → IsIndex type m 0 × (index_of type m 0 ≡ []) × (index_reach m 0 ≡ [])
index_nothing type m = (record { dictionary_is = dictionary_nothing type m; pairs = tt }, refl, refl)

pub pair_same : (m n : Records) (p : ℕ × ℕ) → SameAt (pair_reach m p) m n → IsValuePair m p → IsValuePair n p
pair_same m n p same is = record {
  key = is.key;
  some = is.some;
  list_is = IsList-same m n p.1 (subst (λ rs. SameAt rs m n) (sym (reach_form m p.1 is.some)) same.1) is.list_is;
  long = λ vector. subst {A = List (ℕ × ℤ)} (λ docs. LEAST_DENSE ≤ length docs) (sym (list_at-same m n p.1 (subst (λ rs. SameAt rs m n) (sym (reach_form m p.1 is.some)) same.1))) (is.long vector);
}

-- each key's record stays where all that the pairs reach does
pub keys_same : (m n : Records) (ps : List (ℕ × ℕ)) → SameAt (flat_map (pair_reach m) ps) m n → SameAt (keys ps) m n
keys_same m n [] same = tt
keys_same m n (p ∷ ps) same = (same.0, keys_same m n ps (SameAt-right m n (postings_reach m (list_form p.1)) (flat_map (pair_reach m) ps) same.1))

pub index_stays : (type : ValueType) (m n : Records) (root : ℕ) → SameAt (index_reach m root) m n → IsIndex type m root
    → IsIndex type n root × (index_of type n root ≡ index_of type m root) × ((ref : ℕ) → IsKey m root ref → IsKey n root ref)
index_stays type m n root same is =
    let nodes = SameAt-left m n (tree_nodes m root) (dictionary_reach m root) same in
    let rest = SameAt-right m n (tree_nodes m root) (dictionary_reach m root) same in
    let dictionary = dictionary_stays type m n root nodes (keys_same m n (tree_pairs m root) rest) is.dictionary_is in
    let pairs = all-same m n (pair_reach m) (IsValuePair m) (IsValuePair n) (pair_same m n) (tree_pairs m root) rest is.pairs in (
      record { dictionary_is = dictionary.0; pairs = subst (AllByRecursion (IsValuePair n)) (sym dictionary.1) pairs },
      trees_index-same Single type m n 0 root same,
      λ ref key. subst (λ ps. Among ref (keys ps)) (sym dictionary.1) key,
    )

module _ (type : ValueType) (m : Records) where
  entries : (ps : List (ℕ × ℕ)) → AllByRecursion (λ p. IsValueRecord type (m p.0)) ps → AllByRecursion (IsValuePair m) ps → AllByRecursion (IsDictionaryEntry type m) ps
  entries [] values lists = tt
  entries (p ∷ ps) values lists = ((values.0, lists.0.list_is.form lists.0.some), entries ps values.1 lists.1)

  pub pair_filled : (p : ℕ × ℕ) → IsValuePair m p → 0 < length (docs_at m p.1)
  pair_filled p is = subst {A = List (ℕ × ℤ)} (λ docs. 0 < length docs) (at_form m p.1 is.some) (list_filled m p.1 is.list_is is.some)

  filled : (ps : List (ℕ × ℕ)) → AllByRecursion (IsValuePair m) ps → AllByRecursion (λ e. 0 < length e.1) (map (shown (stored_value type m) (docs_at m)) ps)
  filled [] lists = tt
  filled (p ∷ ps) lists = (pair_filled p lists.0, filled ps lists.1)

  ascend : (ps : List (ℕ × ℕ)) → AllByRecursion (IsValuePair m) ps
      → AllByRecursion (λ e. IsStrictlySortedBy nat_cmp (keys_of e.1)) (map (shown (stored_value type m) (docs_at m)) ps)
  ascend [] lists = tt
  ascend (p ∷ ps) lists = (
    subst {A = List (ℕ × ℤ)} (λ docs. IsStrictlySortedBy nat_cmp (keys_of docs)) (at_form m p.1 lists.0.some) lists.0.list_is.ascends,
    ascend ps lists.1,
  )

  pub index_formed : (root : ℕ) → IsIndex type m root → IsFormed (index_of type m root)
  index_formed root is = record {
    ascends = subst (IsStrictlySortedBy value_cmp) (sym (shown_keys (stored_value type m) (docs_at m) (tree_pairs m root))) is.dictionary_is.tree_is.ascends;
    filled = filled (tree_pairs m root) is.pairs;
    lists_ascend = ascend (tree_pairs m root) is.pairs;
  }

  pub index_lawful : (root : ℕ) → IsIndex type m root → IsLawfulIndex type m root
  index_lawful root is = record {
    dictionary_tree = is.dictionary_is.tree_is;
    entries = entries (tree_pairs m root) is.dictionary_is.keys is.pairs;
    formed = index_formed root is;
  }
