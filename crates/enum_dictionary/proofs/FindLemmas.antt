-- What is found in a dictionary after a change, by the records that are there then.
use Rattle.std.proofs.Common.{◌≡◌, ◌≢◌, ℕ, List, [], ◌∷◌, None, Some, refl, sym, ap, subst, ◌∙◌}
use Rattle.std.specs.declared.cmp.Ordering.{Ordering}
use Rattle.std.specs.declared.cmp.Ordering.TheVariants.{Equal}
use Rattle.std.specs.List.{AllByRecursion}
use Rattle.entry_ref.specs.Records.{Records}
use Rattle.tree_read.specs.Keys.{KeepsOthers}
use Rattle.tree_read.specs.Pairs.{choose, lookup_pair, put, take_out}
use Rattle.tree_read.proofs.PairLemmas.{All-put, All-take_out}
use Rattle.tree_read.specs.Trees.{tree_pairs}
use Rattle.image_format.specs.Values.{value_of, stored_value, IsValueRecord}
use Rattle.attr_types.specs.ProofsForOrder.{value_cmp_total, value_cmp_exact}
use Rattle.attr_types.specs.Value.{type_of, value_cmp}
use Rattle.attr_types.specs.declared.kind.ValueType.{ValueType}
use Rattle.attr_types.specs.declared.value.Value.{Value}
use Rattle.enum_dictionary.specs.Dictionaries.{beside_value, IsDictionary}
use Rattle.enum_dictionary.specs.Laws.{FindsSet, FindsRest}
use Rattle.enum_dictionary.proofs.DictionaryLemmas.{no_node, value_same}
use Rattle.enum_dictionary.proofs.MapLemmas.{put_found, put_others, take_out_gone, take_out_others}

-- a value of a type beside a key
abbrev by : ValueType → Value → Records → ℕ → Ordering
by type value m key = value_cmp (stored_value type m key) value

module _ (type : ValueType) (m n : Records) (keeps : KeepsOthers m n) where
  -- the record of a key is no node, so it reads as it did
  reads_same : (key : ℕ) → IsValueRecord type (m key) → stored_value type n key ≡ stored_value type m key
  reads_same key is = ap (value_of type) (keeps key (no_node type m key is))

  found_same : (value : Value) (ps : List (ℕ × ℕ)) → AllByRecursion (λ p. IsValueRecord type (m p.0)) ps
      → lookup_pair (by type value n) ps ≡ lookup_pair (by type value m) ps
  found_same value [] all = refl
  found_same value (p ∷ ps) all =
      ap (λ (v : Value). choose (value_cmp v value) (lookup_pair (by type value n) ps) (Some p) None) (reads_same p.0 all.0)
      ∙ ap (λ found. choose (by type value m p.0) found (Some p) None) (found_same value ps all.1)

  module _ (root next : ℕ) (is : IsDictionary type m root) where
    others_then : (value other : Value) (ps : List (ℕ × ℕ)) → tree_pairs n next ≡ ps → AllByRecursion (λ p. IsValueRecord type (m p.0)) ps
        → lookup_pair (by type other m) ps ≡ lookup_pair (by type other m) (tree_pairs m root)
        → lookup_pair (by type other n) (tree_pairs n next) ≡ lookup_pair (by type other m) (tree_pairs m root)
    others_then value other ps are all same = ap (lookup_pair (by type other n)) are ∙ found_same other ps all ∙ same

    module _ (value : Value) where
      apart : (other : Value) → other ≢ value → value_cmp value other ≢ Equal
      apart other ne equal = ne (sym (value_cmp_exact value other equal))

      module _ (pair : ℕ × ℕ) (record_is : IsValueRecord type (m pair.0)) (reads : stored_value type m pair.0 ≡ value)
          (are : tree_pairs n next ≡ put (by type value m) pair (tree_pairs m root)) where
        equal : by type value m pair.0 ≡ Equal
        equal = ap (λ v. value_cmp v value) reads ∙ value_same value

        all_put : AllByRecursion (λ p. IsValueRecord type (m p.0)) (put (by type value m) pair (tree_pairs m root))
        all_put = All-put (λ p. IsValueRecord type (m p.0)) (by type value m) pair (tree_pairs m root) record_is is.keys

        pub set_found : lookup_pair (by type value n) (tree_pairs n next) ≡ Some pair
        set_found =
            ap (lookup_pair (by type value n)) are ∙ found_same value (put (by type value m) pair (tree_pairs m root)) all_put
            ∙ put_found (by type value m) pair (tree_pairs m root) equal

        pub set_others : (other : Value) → other ≢ value
            → lookup_pair (by type other n) (tree_pairs n next) ≡ lookup_pair (by type other m) (tree_pairs m root)
        set_others other ne =
            others_then value other (put (by type value m) pair (tree_pairs m root)) are all_put
            (put_others value_cmp value_cmp_total (stored_value type m) value other (apart other ne) pair (tree_pairs m root) equal)

      module _ (are : tree_pairs n next ≡ take_out (by type value m) (tree_pairs m root)) where
        all_out : AllByRecursion (λ p. IsValueRecord type (m p.0)) (take_out (by type value m) (tree_pairs m root))
        all_out = All-take_out (λ p. IsValueRecord type (m p.0)) (by type value m) (tree_pairs m root) is.keys

        pub removed_gone : lookup_pair (by type value n) (tree_pairs n next) ≡ None
        removed_gone =
            ap (lookup_pair (by type value n)) are ∙ found_same value (take_out (by type value m) (tree_pairs m root)) all_out
            ∙ take_out_gone value_cmp value_cmp_total (stored_value type m) value (tree_pairs m root) is.tree_is.ascends

        pub removed_others : (other : Value) → other ≢ value
            → lookup_pair (by type other n) (tree_pairs n next) ≡ lookup_pair (by type other m) (tree_pairs m root)
        removed_others other ne =
            others_then value other (take_out (by type value m) (tree_pairs m root)) are all_out
            (take_out_others value_cmp value_cmp_total (stored_value type m) value other (apart other ne) (tree_pairs m root) is.tree_is.ascends)

module _ (m n : Records) (root next : ℕ) (value : Value) (is : IsDictionary (type_of value) m root) (keeps : KeepsOthers m n) where
  -- another value of the type is sought by its own
  of_other : (other : Value) → type_of other ≡ type_of value
      → lookup_pair (by (type_of value) other n) (tree_pairs n next) ≡ lookup_pair (by (type_of value) other m) (tree_pairs m root)
      → lookup_pair (beside_value other n) (tree_pairs n next) ≡ lookup_pair (beside_value other m) (tree_pairs m root)
  of_other other typed same =
      subst (λ (t : ValueType). lookup_pair (by t other n) (tree_pairs n next) ≡ lookup_pair (by t other m) (tree_pairs m root)) (sym typed) same

  pub finds_set : (pair : ℕ × ℕ) → IsValueRecord (type_of value) (m pair.0) → stored_value (type_of value) m pair.0 ≡ value
      → tree_pairs n next ≡ put (beside_value value m) pair (tree_pairs m root) → FindsSet m n root next value pair
  finds_set pair record_is reads are = record {
    found = set_found (type_of value) m n keeps root next is value pair record_is reads are;
    others = λ other typed ne. of_other other typed (set_others (type_of value) m n keeps root next is value pair record_is reads are other ne);
  }

  pub finds_rest : tree_pairs n next ≡ take_out (beside_value value m) (tree_pairs m root) → FindsRest m n root next value
  finds_rest are = record {
    gone = removed_gone (type_of value) m n keeps root next is value are;
    others = λ other typed ne. of_other other typed (removed_others (type_of value) m n keeps root next is value are other ne);
  }
