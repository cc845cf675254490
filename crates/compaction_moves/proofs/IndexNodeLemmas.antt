-- The nodes on the way to a value moved.
use Rattle.std.proofs.Common.{◌≡◌, ℕ, List, [], ◌∷◌, map, Result, Ok, Err, refl, sym, ap, subst, ◌∙◌, arith}
use Rattle.std.specs.Prelude.{IfOk}
use Rattle.std.specs.declared.cmp.Ordering.{Ordering}
use Rattle.std.specs.List.{flat_map, AllByRecursion}
use Rattle.entry_ref.specs.Records.{Records, SameAt}
use Rattle.store_api.specs.Ledgers.{Ledger}
use Rattle.store_api.specs.Parts.{After, Owns, Turns, times}
use Rattle.store_api.specs.declared.store.StoreError.{StoreError}
use Rattle.store_api.proofs.PartLemmas.{after, owns-some}
use Rattle.tree_read.specs.ProofsForTrees.{all-same}
use Rattle.tree_read.specs.Trees.{tree_pairs}
use Rattle.frozen_btree.specs.Changes.{tree}
use Rattle.frozen_btree.specs.Paths.{path_nodes, NoneIn}
use Rattle.frozen_btree.proofs.TouchTreeLemmas.{none-apart}
use Rattle.image_format.specs.Postings.{dictionary_reach, list_form}
use Rattle.image_format.specs.Values.{stored_value}
use Rattle.attr_types.specs.Value.{type_of, value_cmp}
use Rattle.attr_types.specs.declared.kind.ValueType.{ValueType}
use Rattle.attr_types.specs.declared.value.Value.{Value}
use Rattle.enum_dictionary.specs.Dictionaries.{beside_value, IsDictionary}
use Rattle.enum_dictionary.proofs.DictionaryLemmas.{seen_same, IsValueTree}
use Rattle.posting_store.specs.Lists.{IsPlain}
use Rattle.posting_store.specs.Moves.{form_docs}
use Rattle.value_index.specs.Indexes.{index_part, IsIndex, IsValuePair}
use Rattle.value_index.proofs.ChangeLemmas.{shown_stay}
use Rattle.value_index.proofs.IndexLemmas.{docs_at, pair_reach, pair_same}
use Rattle.value_index.proofs.OpenLemmas.{index_count, pairs_part, same_self}
use Rattle.value_index.proofs.ShownLemmas.{shown, shown_same}
use Rattle.compaction_moves.specs.IndexMoves.{MovesNodes}
use Rattle.compaction_moves.proofs.BlockLemmas.{lists_same}

-- nothing is done in a dictionary without nodes
pub nodes_unmoved : {H : Type 0} (bits buffer : ℕ) (value : Value) (a : Ledger H) (m : Records) (root : ℕ) → IsIndex (type_of value) m root → Owns a m (index_part root ∷ []) → root ≡ 0
    → MovesNodes bits buffer value a a m m root root
nodes_unmoved bits buffer value a m root is owns none = record {
  index_is = is;
  reads_as = refl;
  docs = refl;
  plain = λ plain. plain;
  apart = none-apart bits buffer m (beside_value value m) root none;
  pairs = refl;
  stay = same_self m (dictionary_reach m root);
  owns = owns;
  turns = record { kept = λ r h. refl; balance = λ r. refl };
}

module _ {H : Type 0} (bits buffer : ℕ) (type : ValueType) (value key : Value) (is : type_of value ≡ type) (same : key ≡ value) (a b : Ledger H) (m n : Records) (root : ℕ)
    (start : IsIndex (type_of value) m root) (owns : Owns a m (index_part root ∷ [])) where
  abbrev ps : List (ℕ × ℕ)
  ps = tree_pairs m root

  split_owned : Owns a m (tree root ∷ pairs_part ps ∷ [])
  split_owned = owns-some a m (index_part root ∷ []) (tree root ∷ pairs_part ps ∷ []) owns (λ r. let whole = index_count m root r in omega arith)

  pub nodes_owned : Owns a m (tree root ∷ [])
  nodes_owned = owns-some a m (tree root ∷ pairs_part ps ∷ []) (tree root ∷ []) split_owned (λ r. omega arith)

  nodes_moved : (next : ℕ) → IsValueTree type n next → tree_pairs n next ≡ ps → NoneIn bits buffer (path_nodes n (λ k. value_cmp (stored_value type m k) key) next)
      → Turns a b m n (tree root ∷ []) (tree next ∷ []) → MovesNodes bits buffer value a b m n root next
  nodes_moved next keyed pairs apart turns =
      let step : After a b m n (tree root ∷ pairs_part ps ∷ []) (tree next ∷ pairs_part ps ∷ []) (pairs_part ps ∷ []) =
      after a b m n (tree root ∷ []) (tree next ∷ []) (pairs_part ps ∷ []) (tree root ∷ pairs_part ps ∷ []) (tree next ∷ pairs_part ps ∷ []) split_owned turns
      (λ k r. omega arith) (λ k r. omega arith) in
      let stay : SameAt (flat_map (pair_reach m) ps) m n = step.stay.0 in
      let dictionary : IsDictionary type n next = record { tree_is = keyed.tree; keys = keyed.readable } in
      record {
        index_is = record {
          dictionary_is = subst (λ (t : ValueType). IsDictionary t n next) (sym is) dictionary;
          pairs = subst (AllByRecursion (IsValuePair n)) (sym pairs) (all-same m n (pair_reach m) (IsValuePair m) (IsValuePair n) (pair_same m n) ps stay start.pairs);
        };
        reads_as = ap (map (shown (stored_value (type_of value) n) (docs_at n))) pairs
            ∙ shown_same (stored_value (type_of value) m) (stored_value (type_of value) n) (docs_at m) (docs_at n) ps (shown_stay (type_of value) m n ps stay);
        docs = ap (map (λ p. form_docs n (list_form p.1))) pairs ∙ lists_same m n ps stay;
        plain = λ plain. subst (AllByRecursion (λ p. IsPlain p.1)) (sym pairs) plain;
        apart = subst (λ (c : ℕ → Ordering). NoneIn bits buffer (path_nodes n c next)) (seen_same type m value key is same) apart;
        pairs = pairs;
        stay = stay;
        owns = owns-some b n (tree next ∷ pairs_part ps ∷ []) (index_part next ∷ []) step.owns (λ r.
            let whole = index_count n next r in
            let e : times r (flat_map (pair_reach n) (tree_pairs n next)) ≡ times r (flat_map (pair_reach n) ps) = ap (λ xs. times r (flat_map (pair_reach n) xs)) pairs in
            omega arith);
        turns = turns;
      }

  pub nodes_moved_by : (answer : Result ℕ StoreError) → IfOk answer (IsValueTree type n) → IfOk answer (λ r. tree_pairs n r ≡ ps)
      → IfOk answer (λ r. NoneIn bits buffer (path_nodes n (λ k. value_cmp (stored_value type m k) key) r))
      → IfOk answer (λ r. Turns a b m n (tree root ∷ []) (tree r ∷ [])) → IfOk answer (MovesNodes bits buffer value a b m n root)
  nodes_moved_by (Err e) keyed pairs apart turns = tt
  nodes_moved_by (Ok next) keyed pairs apart turns = nodes_moved next keyed pairs apart turns
