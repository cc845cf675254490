-- The index after the pair of a value that is there was set, where it reads as before.
use Rattle.std.proofs.Common.{◌≡◌, ℕ, ◌<◌, ◌≤◌, true, length, List, [], ◌∷◌, map, Some, Option, option_map, refl, sym, ap, subst, ◌∙◌, arith}
use Rattle.std.specs.declared.cmp.Ordering.TheVariants.{Equal}
use Rattle.std.specs.List.{flat_map, AllByRecursion}
use Rattle.entry_ref.proofs.Pairs.{same-from}
use Rattle.entry_ref.proofs.Among.{SameAt-then, SameAt-among}
use Rattle.entry_ref.specs.Records.{Records, SameAt}
use Rattle.tree_read.specs.Pairs.{lookup, lookup_pair, put, take_out}
use Rattle.store_api.specs.Ledgers.{Ledger}
use Rattle.store_api.specs.Parts.{Part, After, AllStay, Owns, Turns, count_in, entry, times}
use Rattle.store_api.proofs.PartLemmas.{after, owns-some, turns-as}
use Rattle.tree_read.specs.ProofsForTrees.{all-same}
use Rattle.tree_read.specs.Trees.{tree_pairs, tree_nodes}
use Rattle.frozen_btree.specs.Changes.{tree}
use Rattle.image_format.specs.Postings.{index_of, list_form}
use Rattle.image_format.specs.Values.{stored_value, value_of, IsValueRecord}
use Rattle.attr_types.specs.Value.{type_of, value_cmp}
use Rattle.attr_types.specs.declared.kind.ValueType.{ValueType}
use Rattle.attr_types.specs.declared.value.Value.{Value}
use Rattle.enum_dictionary.specs.Dictionaries.{beside_value, IsDictionary, MakesDictionary}
use Rattle.enum_dictionary.proofs.DictionaryLemmas.{dictionary_stays, value_same}
use Rattle.posting_store.specs.Changes.{list_part}
use Rattle.image_format.specs.declared.TheConstants.{LEAST_DENSE}
use Rattle.posting_store.specs.Lists.{list_at, list_reach, is_vector, IsList, IsPlain}
use Rattle.posting_store.specs.ProofsForLists.{IsList-same, list_at-same}
use Rattle.posting_store.specs.Moves.{form_docs}
use Rattle.posting_store.proofs.FormLemmas.{at_form, reach_form}
use Rattle.value_index.specs.Indexes.{index_part, key_at, IsIndex, IsKey, IsValuePair}
use Rattle.value_index.proofs.ChangeLemmas.{shown_stay}
use Rattle.value_index.proofs.IndexLemmas.{docs_at, keys_same, pair_reach, pair_same}
use Rattle.value_index.proofs.OpenLemmas.{others, pair_count, index_count, pairs_part, pairs_reach-same}
use Rattle.value_index.proofs.PairLemmas.{keys, all_by_keys, all_put, all_taken, put_as, put_times}
use Rattle.value_index.proofs.ShownLemmas.{Docs, shown}
use Rattle.value_index.specs.Forms.{IsPlainIndex}
use Rattle.compaction_moves.specs.IndexMoves.{lists_docs}
use Rattle.compaction_moves.proofs.IndexPairs.{at_pair, found_pair}
use Rattle.compaction_moves.proofs.BlockLemmas.{docs_same, docs_stay}
use Rattle.compaction_moves.proofs.PairLemmas.{set_found, set_others, set_reads, set_value}

-- the parts of an index, taken apart at one value, and others beside
abbrev pub parts_with : ℕ → ℕ → ℕ → List (ℕ × ℕ) → List Part → List Part
parts_with root key word ps beside_it = tree root ∷ entry key ∷ list_part word ∷ pairs_part ps ∷ beside_it

-- a value's key and list are ready to be set in the dictionary, which is as it was at the start, as are all other pairs
pub record IsReady {H : Type 0} (value : Value) (now : Ledger H) (m n : Records) (root key word : ℕ) (docs : Docs) (extra : List Part) : Type 0 where
  pub owns : Owns now n (parts_with root key word (others value m root) extra)
  pub nodes : SameAt (tree_nodes m root) m n
  pub keys_stay : (ref : ℕ) → IsKey m root ref → n ref ≡ m ref
  pub rest : SameAt (flat_map (pair_reach m) (others value m root)) m n
  pub key_some : 0 < key
  pub record_is : IsValueRecord (type_of value) (n key)
  pub reads : stored_value (type_of value) n key ≡ value
  pub filled : 0 < word
  pub list_is : IsList n word
  pub long : is_vector word ≡ true → LEAST_DENSE ≤ length (list_at n word)
  pub docs_are : list_at n word ≡ docs

module _ {H : Type 0} (value : Value) (b : Ledger H) (m n : Records) (root was_key was key word : ℕ) (extra : List Part) (start : IsIndex (type_of value) m root)
    (found : lookup_pair (beside_value value m) (tree_pairs m root) ≡ Some (was_key, was)) (was_reads : stored_value (type_of value) m was_key ≡ value)
    (is : IsReady value b m n root key word (docs_at m was) extra) where
  abbrev type : ValueType
  type = type_of value

  abbrev rest : List (ℕ × ℕ)
  rest = others value m root

  stays : IsDictionary type n root × (tree_pairs n root ≡ tree_pairs m root)
  stays = dictionary_stays type m n root is.nodes (same-from (keys (tree_pairs m root)) m n is.keys_stay) start.dictionary_is

  pub ready_dictionary : IsDictionary type n root
  ready_dictionary = stays.0

  pub ready_owns : Owns b n (tree root ∷ [])
  ready_owns = owns-some b n (parts_with root key word rest extra) (tree root ∷ []) is.owns (λ r. omega arith)

  agree : AllByRecursion (λ q. beside_value value n q.0 ≡ beside_value value m q.0) (tree_pairs m root)
  agree = all_by_keys (λ k. beside_value value n k ≡ beside_value value m k) (tree_pairs m root) (λ k among. ap (λ ws. value_cmp (value_of type ws) value) (is.keys_stay k among))

  module _ (c : Ledger H) (o : Records) (next : ℕ) (makes : MakesDictionary type b c n o root (put (beside_value value n) (key, word) (tree_pairs n root)) next) where
    beside_tree : List Part
    beside_tree = entry key ∷ list_part word ∷ pairs_part rest ∷ extra

    tree_step : After b c n o (parts_with root key word rest extra) (parts_with next key word rest extra) (entry key ∷ list_part word ∷ pairs_part rest ∷ extra)
    tree_step = after b c n o (tree root ∷ []) (tree next ∷ []) (entry key ∷ list_part word ∷ pairs_part rest ∷ extra)
        (parts_with root key word rest extra) (parts_with next key word rest extra) is.owns makes.turns (λ k r. omega arith) (λ k r. omega arith)

    pub key_stays : o key ≡ n key
    key_stays = tree_step.stay.0.0

    pub list_stays : SameAt (list_reach n word) n o
    list_stays = tree_step.stay.1.0

    pub rest_stays : SameAt (flat_map (pair_reach m) rest) m o
    rest_stays = SameAt-then m n o (flat_map (pair_reach m) rest) is.rest (subst (λ rs. SameAt rs n o) (pairs_reach-same m n rest is.rest) tree_step.stay.1.1.0)

    pub extra_stays : AllStay extra n o
    extra_stays = tree_step.stay.1.1.1

    pub set_pairs : tree_pairs o next ≡ put (beside_value value m) (key, word) (tree_pairs m root)
    set_pairs =
        makes.pairs_are ∙ ap (put (beside_value value n) (key, word)) stays.1 ∙ put_as (beside_value value m) (beside_value value n) (key, word) (tree_pairs m root) agree

    new_long : is_vector word ≡ true → LEAST_DENSE ≤ length (list_at o word)
    new_long vector = subst {A = Docs} (λ ds. LEAST_DENSE ≤ length ds) (sym (list_at-same n o word list_stays)) (is.long vector)

    new_pair : IsValuePair o (key, word)
    new_pair = record { key = is.key_some; some = is.filled; list_is = IsList-same n o word list_stays is.list_is; long = new_long }

    pub set_is : IsIndex type o next
    set_is = record {
      dictionary_is = makes.dictionary_is;
      pairs = subst (AllByRecursion (IsValuePair o)) (sym set_pairs)
          (all_put (beside_value value m) (IsValuePair o) (key, word) (tree_pairs m root) new_pair
          (all-same m o (pair_reach m) (IsValuePair m) (IsValuePair o) (pair_same m o) rest rest_stays (all_taken (beside_value value m) (IsValuePair m) (tree_pairs m root) start.pairs)));
    }

    new_reads : stored_value type o key ≡ value
    new_reads = ap (value_of type) key_stays ∙ is.reads

    new_shown : shown (stored_value type o) (docs_at o) (key, word) ≡ shown (stored_value type m) (docs_at m) (was_key, was)
    new_shown =
        ap (λ (v : Value). (v, docs_at o word)) (new_reads ∙ sym was_reads)
        ∙ ap (λ (docs : Docs). (stored_value type m was_key, docs)) (sym (at_form o word is.filled) ∙ list_at-same n o word list_stays ∙ is.docs_are)

    pub set_index : index_of type o next ≡ index_of type m root
    set_index =
        ap (map (shown (stored_value type o) (docs_at o))) set_pairs
        ∙ set_reads (shown (stored_value type o) (docs_at o)) (shown (stored_value type m) (docs_at m)) (beside_value value m) (key, word) (was_key, was) new_shown (tree_pairs m root) found
        (shown_stay type m o rest rest_stays)

    -- the lists have the same keys, if this one has
    pub set_docs : form_docs n (list_form word) ≡ form_docs m (list_form was) → lists_docs o next ≡ lists_docs m root
    set_docs same =
        ap (map (λ p. form_docs o (list_form p.1))) set_pairs
        ∙ set_reads (λ p. form_docs o (list_form p.1)) (λ p. form_docs m (list_form p.1)) (beside_value value m) (key, word) (was_key, was)
        (docs_same n o (list_form word) (subst (λ rs. SameAt rs n o) (reach_form n word is.filled) list_stays) ∙ same) (tree_pairs m root) found
        (docs_stay m o rest rest_stays)

    -- no list is a bit vector, if none was
    pub set_plain : (IsPlain was → IsPlain word) → IsPlainIndex m root → IsPlainIndex o next
    set_plain same plain = subst (AllByRecursion (λ p. IsPlain p.1)) (sym set_pairs)
        (all_put (beside_value value m) (λ p. IsPlain p.1) (key, word) (tree_pairs m root)
        (same (at_pair (λ p. IsPlain p.1) (tree_pairs m root) plain (was_key, was) (found_pair (beside_value value m) (was_key, was) (tree_pairs m root) found)))
        (all_taken (beside_value value m) (λ p. IsPlain p.1) (tree_pairs m root) plain))

    equal : beside_value value o key ≡ Equal
    equal = ap (λ (v : Value). value_cmp v value) new_reads ∙ value_same value

    others_agree : AllByRecursion (λ q. beside_value value o q.0 ≡ beside_value value m q.0) rest
    others_agree = all_by_keys (λ k. beside_value value o k ≡ beside_value value m k) rest
        (λ k among. ap (λ ws. value_cmp (value_of type ws) value) (SameAt-among m o (keys rest) (keys_same m o rest rest_stays) k among))

    pub set_rest : take_out (beside_value value o) (tree_pairs o next) ≡ take_out (beside_value value m) (tree_pairs m root)
    set_rest = ap (take_out (beside_value value o)) set_pairs ∙ set_others (beside_value value m) (beside_value value o) (key, word) equal (tree_pairs m root) others_agree

    pub set_list : lookup (beside_value value o) (tree_pairs o next) ≡ Some word
    set_list = ap (lookup (beside_value value o)) set_pairs ∙ set_value (beside_value value m) (beside_value value o) (key, word) equal (tree_pairs m root) others_agree

    pub set_key : key_at value o next ≡ Some key
    set_key =
        ap (λ (ps : List (ℕ × ℕ)). option_map (λ (p : ℕ × ℕ). p.0) (lookup_pair (beside_value value o) ps)) set_pairs
        ∙ ap (λ (f : Option (ℕ × ℕ)). option_map (λ (p : ℕ × ℕ). p.0) f) (set_found (beside_value value m) (beside_value value o) (key, word) equal (tree_pairs m root) others_agree)

    set_count : (r : ℕ) → count_in r o (index_part next ∷ extra) ≡ count_in r o (parts_with next key word rest extra)
    set_count r =
        let whole = index_count o next r in
        let same : times r (flat_map (pair_reach o) (tree_pairs o next)) ≡ times r (flat_map (pair_reach o) (put (beside_value value m) (key, word) (tree_pairs m root))) =
        ap (λ ps. times r (flat_map (pair_reach o) ps)) set_pairs in
        let split = put_times (beside_value value m) (pair_reach o) r (key, word) (tree_pairs m root) in
        let one = pair_count o key word r is.filled in
        omega arith

    pub set_owns : Owns c o (index_part next ∷ extra)
    set_owns = owns-some c o (parts_with next key word rest extra) (index_part next ∷ extra) tree_step.owns (λ r. let e = set_count r in omega arith)

    pub set_turns : Turns b c n o (parts_with root key word rest extra) (index_part next ∷ extra)
    set_turns = turns-as b c n o (parts_with root key word rest extra) (parts_with next key word rest extra) (parts_with root key word rest extra) (index_part next ∷ extra)
        tree_step.turns (λ r. refl) set_count
