-- A dictionary, as a tree whose keys are records of values of one type.
use Rattle.std.proofs.Common.{◌≡◌, ℕ, List, [], ◌∷◌, map, None, Some, IsSome, Result, Ok, Err, refl, sym, ap, subst, ◌∙◌, arith}
use Rattle.std.specs.Prelude.{IfOk}
use Rattle.std.specs.declared.cmp.Ordering.{Ordering}
use Rattle.std.specs.declared.cmp.Ordering.TheVariants.{Less, Equal, Greater}
use Rattle.std.specs.List.{flat_map, AllByRecursion}
use Rattle.std.specs.List.Sorted.{IsStrictlySortedBy}
use Rattle.std.specs.Ordering.{ordering_reverse}
use Rattle.list_lemmas.proofs.Options.{same_Some}
use Rattle.entry_ref.specs.Records.{Records, SameAt}
use Rattle.tree_read.specs.Keys.{NoneReadsNodes, IsKeyedTree, IsKeyWord, IsNoNode}
use Rattle.tree_read.specs.Pairs.{choose, lookup, lookup_pair, put, take_out}
use Rattle.tree_read.proofs.OrderKeyLemmas.{keyed-stays}
use Rattle.store_api.specs.Ledgers.{Ledger}
use Rattle.store_api.specs.Parts.{Owns, Turns}
use Rattle.store_api.specs.declared.store.StoreError.{StoreError}
use Rattle.tree_read.specs.ProofsForTrees.{tree_pairs-same}
use Rattle.tree_read.specs.Trees.{tree_nodes, tree_pairs}
use Rattle.frozen_btree.specs.Changes.{tree}
use Rattle.image_format.specs.Values.{stored_value, IsValueRecord}
use Rattle.attr_types.specs.ProofsForOrder.{value_cmp_total}
use Rattle.attr_types.specs.Value.{type_of, value_cmp}
use Rattle.attr_types.specs.declared.kind.ValueType.{ValueType}
use Rattle.attr_types.specs.declared.value.Value.{Value}
use Rattle.unique_store.proofs.RecordLemmas.{value_there, value_no_node}
use Rattle.enum_dictionary.specs.Dictionaries.{beside_value, IsDictionary, MakesDictionary}
use Rattle.enum_dictionary.specs.ProofsForKeys.{value_stays, value_steady}

-- a tree by value, as the calls of trees ask for it
abbrev pub IsValueTree : ValueType → Records → ℕ → Type 0
IsValueTree type m root = IsKeyedTree value_cmp (stored_value type) (λ n key. IsValueRecord type (n key)) (λ n key. key ∷ []) m root

pub no_node : (type : ValueType) (m : Records) (key : ℕ) → IsValueRecord type (m key) → IsNoNode m key
no_node type m key is = record { there = omega (arith, value_there type (m key) is); width = value_no_node type (m key) is }

none_nodes : (type : ValueType) (m : Records) (ps : List (ℕ × ℕ)) → AllByRecursion (λ p. IsValueRecord type (m p.0)) ps
    → NoneReadsNodes (λ n key. key ∷ []) m ps
none_nodes type m [] all = tt
none_nodes type m (p ∷ ps) all = ((no_node type m p.0 all.0, tt), none_nodes type m ps all.1)

pub dictionary_keyed : (type : ValueType) (m : Records) (root : ℕ) → IsDictionary type m root → IsValueTree type m root
dictionary_keyed type m root is = record { tree = is.tree_is; readable = is.keys; apart = none_nodes type m (tree_pairs m root) is.keys }

-- a value beside itself
pub value_same : (v : Value) → value_cmp v v ≡ Equal
value_same v = itself (value_cmp v v) (value_cmp_total.antisymm v v)
  where
    itself : (o : Ordering) → o ≡ ordering_reverse o → o ≡ Equal
    itself Less h = absurd (grind (arith, h))
    itself Equal h = refl
    itself Greater h = absurd (grind (arith, h))

-- a record that reads as the value is a key for it
pub value_word : (type : ValueType) (m : Records) (value key : Value) (ref word : ℕ) → type_of value ≡ type → key ≡ value → word ≡ ref
    → IsValueRecord (type_of value) (m ref) → stored_value (type_of value) m ref ≡ value
    → IsKeyWord value_cmp (stored_value type) (λ n k. IsValueRecord type (n k)) (λ n k. k ∷ []) key m word
value_word type m value key ref word is same at record_is reads =
    let there : IsValueRecord type (m word) = subst (λ (k : ℕ). IsValueRecord type (m k)) (sym at) (subst (λ (t : ValueType). IsValueRecord t (m ref)) is record_is) in
    let read : stored_value type m word ≡ value = subst (λ (k : ℕ). stored_value type m k ≡ value) (sym at) (subst (λ (t : ValueType). stored_value t m ref ≡ value) is reads) in
    record {
      readable = there;
      apart = (no_node type m word there, tt);
      equal = ap (λ v. value_cmp v key) (read ∙ sym same) ∙ value_same key;
    }

-- the type of the value sought, and the key object's value
pub seen_same : (type : ValueType) (m : Records) (value key : Value) → type_of value ≡ type → key ≡ value
    → (λ (k : ℕ). value_cmp (stored_value type m k) key) ≡ beside_value value m
seen_same type m value key is same =
    ap {B = ℕ → Ordering} (λ (v : Value) (k : ℕ). value_cmp (stored_value type m k) v) same
    ∙ ap {B = ℕ → Ordering} (λ (t : ValueType) (k : ℕ). value_cmp (stored_value t m k) value) (sym is)

-- a value that is there
pub value_there_by : (type : ValueType) (m : Records) (value key : Value) (ps : List (ℕ × ℕ)) → type_of value ≡ type → key ≡ value
    → IsSome (lookup (beside_value value m) ps) → IsSome (lookup (λ k. value_cmp (stored_value type m k) key) ps)
value_there_by type m value key ps is same there =
    subst (λ (c : ℕ → Ordering). IsSome (lookup c ps)) (sym (seen_same type m value key is same)) there

pub of_type : (type : ValueType) (m : Records) (root : ℕ) (value : Value) → type_of value ≡ type → IsDictionary (type_of value) m root → IsDictionary type m root
of_type type m root value is dictionary = subst (λ (t : ValueType). IsDictionary t m root) is dictionary

-- what a change of the tree says, as one
makes_from : {H : Type 0} (type : ValueType) (old new : Ledger H) (m n : Records) (root : ℕ) (pairs : List (ℕ × ℕ)) (answer : Result ℕ StoreError)
    → IfOk answer (IsValueTree type n) → IfOk answer (λ r. Owns new n (tree r ∷ []))
    → IfOk answer (λ r. tree_pairs n r ≡ pairs) → IfOk answer (λ r. Turns old new m n (tree root ∷ []) (tree r ∷ []))
    → IfOk answer (MakesDictionary type old new m n root pairs)
makes_from type old new m n root pairs (Ok next) keyed owns are turns = record {
  dictionary_is = record { tree_is = keyed.tree; keys = keyed.readable };
  pairs_are = are;
  owns = owns;
  turns = turns;
}
makes_from type old new m n root pairs (Err e) keyed owns are turns = tt

module _ {H : Type 0} (type : ValueType) (value key : Value) (is : type_of value ≡ type) (same : key ≡ value)
    (old new : Ledger H) (m n : Records) (root : ℕ) (answer : Result ℕ StoreError)
    (keyed : IfOk answer (IsValueTree type n)) (owns : IfOk answer (λ r. Owns new n (tree r ∷ [])))
    (turns : IfOk answer (λ r. Turns old new m n (tree root ∷ []) (tree r ∷ []))) where
  made : (change : (ℕ → Ordering) → List (ℕ × ℕ)) → IfOk answer (λ r. tree_pairs n r ≡ change (λ k. value_cmp (stored_value type m k) key))
      → IfOk answer (MakesDictionary (type_of value) old new m n root (change (beside_value value m)))
  made change are =
      subst (λ (t : ValueType). IfOk answer (MakesDictionary t old new m n root (change (beside_value value m)))) (sym is)
      (subst (λ (c : ℕ → Ordering). IfOk answer (MakesDictionary type old new m n root (change c))) (seen_same type m value key is same)
      (makes_from type old new m n root (change (λ k. value_cmp (stored_value type m k) key)) answer keyed owns are turns))

  pub made_put : (word ref posting : ℕ) → word ≡ ref
      → IfOk answer (λ r. tree_pairs n r ≡ put (λ k. value_cmp (stored_value type m k) key) (word, posting) (tree_pairs m root))
      → IfOk answer (MakesDictionary (type_of value) old new m n root (put (beside_value value m) (ref, posting) (tree_pairs m root)))
  made_put word ref posting at are =
      subst (λ (k : ℕ). IfOk answer (MakesDictionary (type_of value) old new m n root (put (beside_value value m) (k, posting) (tree_pairs m root)))) at
      (made (λ c. put c (word, posting) (tree_pairs m root)) are)

  pub made_out : IfOk answer (λ r. tree_pairs n r ≡ take_out (λ k. value_cmp (stored_value type m k) key) (tree_pairs m root))
      → IfOk answer (MakesDictionary (type_of value) old new m n root (take_out (beside_value value m) (tree_pairs m root)))
  made_out are = made (λ c. take_out c (tree_pairs m root)) are

-- the empty dictionary
pub dictionary_nothing : (type : ValueType) (m : Records) → IsDictionary type m 0
unfolding IsStrictlySortedBy
dictionary_nothing type m = record { tree_is = record { node = λ some. absurd (omega arith); ascends = tt }; keys = tt }

-- a dictionary stays where the records of its nodes and of its keys stay
pub dictionary_stays : (type : ValueType) (m n : Records) (root : ℕ) → SameAt (tree_nodes m root) m n → SameAt (map (λ p. p.0) (tree_pairs m root)) m n
    → IsDictionary type m root → IsDictionary type n root × (tree_pairs n root ≡ tree_pairs m root)
dictionary_stays type m n root nodes keys is =
    let all = keyed-stays value_cmp (λ o key. IsValueRecord type (o key)) (stored_value type) (λ o key. key ∷ []) (value_stays type) (value_steady type) m n root
    nodes (each_key (tree_pairs m root) keys) (dictionary_keyed type m root is) in
    (record { tree_is = all.tree; keys = all.readable }, tree_pairs-same m n root nodes)
  where
    each_key : (ps : List (ℕ × ℕ)) → SameAt (map (λ p. p.0) ps) m n → SameAt (flat_map (λ p. p.0 ∷ []) ps) m n
    each_key [] same = tt
    each_key (p ∷ ps) same = (same.0, each_key ps same.1)

-- the key that is found is a record of a value
pub found_key : (type : ValueType) (m : Records) (c : ℕ → Ordering) (ps : List (ℕ × ℕ)) → AllByRecursion (λ p. IsValueRecord type (m p.0)) ps
    → (p : ℕ × ℕ) → lookup_pair c ps ≡ Some p → IsValueRecord type (m p.0)
found_key type m c [] all found is = absurd (grind (arith, is))
found_key type m c (p ∷ ps) all found is =
    elim (c p.0) as (λ o. choose o (lookup_pair c ps) (Some p) None ≡ Some found → IsValueRecord type (m found.0)) [
      | Less ↦ λ h. found_key type m c ps all.1 found h
      | Equal ↦ λ h. subst (λ (q : ℕ × ℕ). IsValueRecord type (m q.0)) (same_Some p found h) all.0
      | Greater ↦ λ h. absurd (grind (arith, h))
    ] is
