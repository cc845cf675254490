-- The index after a change of one value's list: the value's pair set in its dictionary, or taken out.
use Rattle.std.proofs.Common.{◌≡◌, ℕ, ℤ, ◌<◌, ◌≤◌, true, List, [], ◌∷◌, ◌++◌, map, length, Some, Option, option_map, IsSome, inl, inr, ◌⊎◌, refl, sym, ap, subst, ◌∙◌, arith}
use Rattle.std.specs.BTreeMap.{insert_entry, is_at}
use Rattle.std.specs.List.{flat_map, AllByRecursion}
use Rattle.std.specs.Map.{remove_entry}
use Rattle.entry_ref.proofs.Pairs.{same-from}
use Rattle.entry_ref.proofs.Among.{SameAt-then, SameAt-among}
use Rattle.entry_ref.specs.Records.{Records, SameAt, Among}
use Rattle.tree_read.specs.Pairs.{lookup, lookup_pair, put, take_out}
use Rattle.tree_read.proofs.PairLemmas.{lookup-of_pair}
use Rattle.store_api.specs.Ledgers.{Ledger}
use Rattle.store_api.specs.Parts.{Part, After, Owns, Turns, count_in, entry, times}
use Rattle.store_api.specs.Statuses.{in_use}
use Rattle.store_api.specs.Units.{MayDo}
use Rattle.store_api.proofs.PartLemmas.{after, owns-some, turns-as, turns-then}
use Rattle.tree_read.specs.ProofsForTrees.{SameAt-right, all-same, tree_nodes-same}
use Rattle.tree_read.specs.Trees.{tree_nodes, tree_pairs}
use Rattle.frozen_btree.specs.Changes.{tree}
use Rattle.image_format.specs.Postings.{list_form, postings_reach, index_of}
use Rattle.image_format.specs.ProofsForImages.{postings_at-same}
use Rattle.image_format.specs.Values.{stored_value, value_of}
use Rattle.image_format.specs.declared.TheConstants.{LEAST_DENSE}
use Rattle.index_model.specs.Index.{list_of}
use Rattle.index_model.proofs.ListLemmas.{list_of-with_list_here}
use Rattle.attr_types.specs.Value.{type_of, value_cmp}
use Rattle.attr_types.specs.declared.kind.ValueType.{ValueType}
use Rattle.attr_types.specs.declared.value.Value.{Value}
use Rattle.enum_dictionary.specs.Dictionaries.{beside_value, IsDictionary, MakesDictionary}
use Rattle.enum_dictionary.proofs.DictionaryLemmas.{dictionary_stays}
use Rattle.posting_store.specs.Changes.{list_part}
use Rattle.posting_store.specs.Lists.{list_at, list_reach, IsPlain}
use Rattle.posting_store.specs.ProofsForLists.{IsList-same, list_at-same, list_reach-same}
use Rattle.posting_store.proofs.FlowLemmas.{flows_on}
use Rattle.posting_store.proofs.FormLemmas.{at_form}
use Rattle.value_index.specs.Changes.{KeepsKeys, MakesIndex}
use Rattle.value_index.specs.Flows.{list_word}
use Rattle.value_index.specs.Forms.{IsPlainIndex}
use Rattle.value_index.specs.Indexes.{index_part, IsIndex, IsKey, IsValuePair}
use Rattle.store_api.specs.Flows.{ComesFrom}
use Rattle.store_api.proofs.Flows.{began-then, flow_part}
use Rattle.value_index.proofs.IndexFlows.{flows_out, flows_set}
use Rattle.value_index.proofs.IndexLemmas.{docs_at, index_formed, keys_same, pair_reach, pair_same}
use Rattle.value_index.proofs.OpenLemmas.{IsOpen, index_count, others, pair_count, pairs_part, pairs_reach-same, parts}
use Rattle.value_index.proofs.OpenFlows.{FlowsOpen}
use Rattle.value_index.proofs.PairLemmas.{keys, all_by_keys, all_put, all_taken, among_put, key_put, lookup_pair_as, put_as, put_times, take_out_as}
use Rattle.value_index.proofs.ShownLemmas.{Docs, shown, shown_out, shown_put}

-- what all other pairs read as stays
pub shown_stay : (type : ValueType) (m n : Records) (ps : List (ℕ × ℕ)) → SameAt (flat_map (pair_reach m) ps) m n
    → AllByRecursion (λ q. shown (stored_value type n) (docs_at n) q ≡ shown (stored_value type m) (docs_at m) q) ps
shown_stay type m n [] same = tt
shown_stay type m n (p ∷ ps) same = (
  ap (λ ws. (value_of type ws, docs_at n p.1)) same.0 ∙ ap (λ (docs : Docs). (stored_value type m p.0, docs)) (postings_at-same m n (list_form p.1) (first (postings_reach m (list_form p.1)) same.1)),
  shown_stay type m n ps (SameAt-right m n (postings_reach m (list_form p.1)) (flat_map (pair_reach m) ps) same.1),
)
  where
    first : (rs : List ℕ) → SameAt (rs ++ flat_map (pair_reach m) ps) m n → SameAt rs m n
    first [] same = tt
    first (r ∷ rs) same = (same.0, first rs same.1)

-- the dictionary of an index that is open
module _ {H : Type 0} (value : Value) (a b : Ledger H) (m n : Records) (root key word : ℕ) (start : IsIndex (type_of value) m root)
    (is : IsOpen value a b m n root key word) where
  abbrev type : ValueType
  type = type_of value

  abbrev rest : List (ℕ × ℕ)
  rest = others value m root

  stays : IsDictionary type n root × (tree_pairs n root ≡ tree_pairs m root)
  stays = dictionary_stays type m n root is.nodes (same-from (keys (tree_pairs m root)) m n is.keys_stay) start.dictionary_is

  pub open_dictionary : IsDictionary type n root
  open_dictionary = stays.0

  pub open_owns : Owns b n (tree root ∷ [])
  open_owns = owns-some b n (parts root key word rest) (tree root ∷ []) is.owns (λ r. omega arith)

  agree : AllByRecursion (λ q. beside_value value n q.0 ≡ beside_value value m q.0) (tree_pairs m root)
  agree = all_by_keys (λ k. beside_value value n k ≡ beside_value value m k) (tree_pairs m root) (λ k among. ap (λ ws. value_cmp (value_of type ws) value) (is.keys_stay k among))

  open_put : put (beside_value value n) (key, word) (tree_pairs n root) ≡ put (beside_value value m) (key, word) (tree_pairs m root)
  open_put = ap (put (beside_value value n) (key, word)) stays.1 ∙ put_as (beside_value value m) (beside_value value n) (key, word) (tree_pairs m root) agree

  open_out : take_out (beside_value value n) (tree_pairs n root) ≡ rest
  open_out = ap (take_out (beside_value value n)) stays.1 ∙ take_out_as (beside_value value m) (beside_value value n) (tree_pairs m root) agree

  -- a value that was there is there
  pub open_there : (was : ℕ) → lookup_pair (beside_value value m) (tree_pairs m root) ≡ Some (key, was) → IsSome (lookup (beside_value value n) (tree_pairs n root))
  open_there was found =
      subst {A = Option ℕ} IsSome (sym (lookup-of_pair (beside_value value n) (tree_pairs n root)
      ∙ ap (λ (o : Option (ℕ × ℕ)). option_map (λ (p : ℕ × ℕ). p.1) o)
      (ap (lookup_pair (beside_value value n)) stays.1 ∙ lookup_pair_as (beside_value value m) (beside_value value n) (tree_pairs m root) agree ∙ found))) refl

  -- ---- after a change of the dictionary
  module _ (c : Ledger H) (o : Records) (next : ℕ) (pairs : List (ℕ × ℕ)) (makes : MakesDictionary type b c n o root pairs next) where
    abbrev beside_tree : List Part
    beside_tree = entry key ∷ list_part word ∷ pairs_part rest ∷ []

    tree_step : After b c n o (parts root key word rest) (parts next key word rest) beside_tree
    tree_step = after b c n o (tree root ∷ []) (tree next ∷ []) beside_tree (parts root key word rest) (parts next key word rest)
        is.owns makes.turns (λ k r. omega arith) (λ k r. omega arith)

    key_stays : o key ≡ n key
    key_stays = tree_step.stay.0.0

    rest_stays : SameAt (flat_map (pair_reach m) rest) m o
    rest_stays = SameAt-then m n o (flat_map (pair_reach m) rest) is.rest (subst (λ rs. SameAt rs n o) (pairs_reach-same m n rest is.rest) tree_step.stay.1.1.0)

    both : Turns a c m o (index_part root ∷ []) (parts next key word rest)
    both = turns-then a b c m n o (index_part root ∷ []) (parts root key word rest) (parts next key word rest) is.turns tree_step.turns

    -- the nodes were the dictionary's
    nodes_from : MayDo a b → MayDo b c → ComesFrom a (tree_nodes o next) (tree_nodes m root)
    nodes_from first then r began among =
        subst (λ rs. Among r rs) (tree_nodes-same m n root is.nodes)
        (flow_part b c n o (tree root) (tree next) then makes.turns r (began-then a b first r began) among)

    -- the value was set
    module _ (some : 0 < word) (are : pairs ≡ put (beside_value value n) (key, word) (tree_pairs n root)) where
      pairs_are : tree_pairs o next ≡ put (beside_value value m) (key, word) (tree_pairs m root)
      pairs_are = makes.pairs_are ∙ are ∙ open_put

      new_pair : IsValuePair o (key, word)
      new_pair = record {
        key = is.key_some;
        some = some;
        list_is = IsList-same n o word tree_step.stay.1.0 is.list_is;
        long = λ vector. subst {A = List (ℕ × ℤ)} (λ ds. LEAST_DENSE ≤ length ds)
            (sym (list_at-same n o word tree_step.stay.1.0)) (is.long vector);
      }

      index_set : IsIndex type o next
      index_set = record {
        dictionary_is = makes.dictionary_is;
        pairs = subst (AllByRecursion (IsValuePair o)) (sym pairs_are)
            (all_put (beside_value value m) (IsValuePair o) (key, word) (tree_pairs m root) new_pair
            (all-same m o (pair_reach m) (IsValuePair m) (IsValuePair o) (pair_same m o) rest rest_stays (all_taken (beside_value value m) (IsValuePair m) (tree_pairs m root) start.pairs)));
      }

      new_shown : shown (stored_value type o) (docs_at o) (key, word) ≡ (value, list_at n word)
      new_shown =
          ap (λ (v : Value). (v, docs_at o word)) (ap (value_of type) key_stays ∙ is.reads)
          ∙ ap (λ (docs : Docs). (value, docs)) (sym (at_form o word some) ∙ list_at-same n o word tree_step.stay.1.0)

      reads_set : index_of type o next ≡ insert_entry value_cmp (index_of type m root) value (list_at n word)
      reads_set =
          ap (map (shown (stored_value type o) (docs_at o))) pairs_are
          ∙ shown_put value (stored_value type m) (docs_at m) (stored_value type o) (docs_at o) (key, word) (list_at n word) new_shown (tree_pairs m root)
          (shown_stay type m o rest rest_stays)

      keys_set : KeepsKeys type m o root next
      keys_set = record { kept = λ ref among filled. kept ref among (is.was ref among) }
        where
          kept : (ref : ℕ) → IsKey m root ref → (ref ≡ key) ⊎ Among ref (keys rest) → IsKey o next ref × (o ref ≡ m ref)
          kept ref among (inl here) = (
            subst (λ ps. Among ref (keys ps)) (sym pairs_are) (subst (λ k. Among k (keys (put (beside_value value m) (key, word) (tree_pairs m root)))) (sym here)
                (key_put (beside_value value m) (key, word) (tree_pairs m root))),
            subst (λ k. o k ≡ n k) (sym here) key_stays ∙ is.keys_stay ref among,
          )
          kept ref among (inr later) = (
            subst (λ ps. Among ref (keys ps)) (sym pairs_are) (among_put (beside_value value m) (key, word) ref (tree_pairs m root) later),
            SameAt-among m o (keys rest) (keys_same m o rest rest_stays) ref later,
          )

      set_count : (r : ℕ) → count_in r o (index_part next ∷ []) ≡ count_in r o (parts next key word rest)
      set_count r =
          let whole = index_count o next r in
          let same : times r (flat_map (pair_reach o) (tree_pairs o next)) ≡ times r (flat_map (pair_reach o) (put (beside_value value m) (key, word) (tree_pairs m root))) =
          ap (λ ps. times r (flat_map (pair_reach o) ps)) pairs_are in
          let split = put_times (beside_value value m) (pair_reach o) r (key, word) (tree_pairs m root) in
          let one = pair_count o key word r some in
          omega arith

      -- no list is a bit vector, if none was and this one is none
      pub plain_set : IsPlain word → IsPlainIndex m root → IsPlainIndex o next
      plain_set plain all =
          subst (AllByRecursion (λ p. IsPlain p.1)) (sym pairs_are)
          (all_put (beside_value value m) (λ p. IsPlain p.1) (key, word) (tree_pairs m root) plain (all_taken (beside_value value m) (λ p. IsPlain p.1) (tree_pairs m root) all))

      -- the list is as it was before the dictionary changed
      list_from : FlowsOpen value a b m n root key word → ComesFrom a (list_reach o word) (list_reach m (list_word value m root))
      list_from taken r began among = taken.from_list r began (subst (λ rs. Among r rs) (list_reach-same n o word tree_step.stay.1.0) among)

      pub value_set : FlowsOpen value a b m n root key word → MayDo b c
          → MakesIndex type a c m o root (insert_entry value_cmp (index_of type m root) value (list_at n word)) next
      value_set taken may = record {
        index_is = index_set;
        reads_as = reads_set;
        keys = keys_set;
        flows = flows_set value a m o root next (nodes_from taken.may may) rest_stays key word pairs_are (ap (value_of type) key_stays ∙ is.reads) taken.from_key (list_from taken)
            (flows_on (λ r. in_use (a.back r) ≡ true) m n o (list_word value m root) word tree_step.stay.1.0 taken.list_flows);
        owns = owns-some c o (parts next key word rest) (index_part next ∷ []) tree_step.owns (λ r. let e = set_count r in omega arith);
        turns = turns-as a c m o (index_part root ∷ []) (parts next key word rest) (index_part root ∷ []) (index_part next ∷ []) both (λ r. refl) set_count;
      }

    -- the value was taken out, and its key dropped
    module _ (empty : word ≡ 0) (are : pairs ≡ take_out (beside_value value n) (tree_pairs n root)) where
      left_are : tree_pairs o next ≡ rest
      left_are = makes.pairs_are ∙ are ∙ open_out

      no_list : (r : ℕ) → times r (list_reach o word) ≡ 0
      no_list r = ap (λ w. times r (list_reach o w)) empty

      pub drop_owns : Owns c o (entry key ∷ [])
      drop_owns = owns-some c o (parts next key word rest) (entry key ∷ []) tree_step.owns (λ r. omega arith)

      module _ (d : Ledger H) (p : Records) (dropped : Turns c d o p (entry key ∷ []) []) where
        drop_step : After c d o p (entry key ∷ tree next ∷ pairs_part rest ∷ []) (tree next ∷ pairs_part rest ∷ []) (tree next ∷ pairs_part rest ∷ [])
        drop_step = after c d o p (entry key ∷ []) [] (tree next ∷ pairs_part rest ∷ []) (entry key ∷ tree next ∷ pairs_part rest ∷ []) (tree next ∷ pairs_part rest ∷ [])
            (owns-some c o (parts next key word rest) (entry key ∷ tree next ∷ pairs_part rest ∷ []) tree_step.owns (λ r. omega arith)) dropped
            (λ k r. omega arith) (λ k r. omega arith)

        rest_left : SameAt (flat_map (pair_reach m) rest) m p
        rest_left = SameAt-then m o p (flat_map (pair_reach m) rest) rest_stays (subst (λ rs. SameAt rs o p) (pairs_reach-same m o rest rest_stays) drop_step.stay.1.0)

        left : IsDictionary type p next × (tree_pairs p next ≡ tree_pairs o next)
        left = dictionary_stays type o p next drop_step.stay.0
            (subst (λ ps. SameAt (keys ps) o p) (sym left_are) (keys_same o p rest drop_step.stay.1.0)) makes.dictionary_is

        pairs_left : tree_pairs p next ≡ rest
        pairs_left = left.1 ∙ left_are

        index_left : IsIndex type p next
        index_left = record {
          dictionary_is = left.0;
          pairs = subst (AllByRecursion (IsValuePair p)) (sym pairs_left)
              (all-same m p (pair_reach m) (IsValuePair m) (IsValuePair p) (pair_same m p) rest rest_left (all_taken (beside_value value m) (IsValuePair m) (tree_pairs m root) start.pairs));
        }

        reads_left : index_of type p next ≡ remove_entry (is_at (value_cmp value)) (index_of type m root)
        reads_left =
            ap (map (shown (stored_value type p) (docs_at p))) pairs_left
            ∙ shown_out value (stored_value type m) (docs_at m) (stored_value type p) (docs_at p) (tree_pairs m root) start.dictionary_is.tree_is.ascends
            (shown_stay type m p rest rest_left)

        keys_left : KeepsKeys type m p root next
        keys_left = record { kept = λ ref among filled. kept ref among filled (is.was ref among) }
          where
            gone : list_of value (index_of type p next) ≡ []
            gone = ap (list_of value) reads_left ∙ list_of-with_list_here value [] (index_of type m root) (index_formed type m root start)

            kept : (ref : ℕ) → IsKey m root ref → 0 < length (list_of (stored_value type m ref) (index_of type p next)) → (ref ≡ key) ⊎ Among ref (keys rest) → IsKey p next ref × (p ref ≡ m ref)
            kept ref among filled (inl here) =
                let read : stored_value type m ref ≡ value = sym (ap (value_of type) (is.keys_stay ref among)) ∙ ap (stored_value type n) here ∙ is.reads in
                let none : length (list_of (stored_value type m ref) (index_of type p next)) ≡ 0 =
                ap (λ v. length (list_of v (index_of type p next))) read ∙ ap (λ (docs : Docs). length docs) gone in
                absurd (omega arith)
            kept ref among filled (inr later) = (
              subst (λ ps. Among ref (keys ps)) (sym pairs_left) later,
              SameAt-among m p (keys rest) (keys_same m p rest rest_left) ref later,
            )

        left_count : (r : ℕ) → count_in r p (index_part next ∷ []) ≡ count_in r p (tree next ∷ pairs_part rest ∷ [])
        left_count r =
            let whole = index_count p next r in
            let same : times r (flat_map (pair_reach p) (tree_pairs p next)) ≡ times r (flat_map (pair_reach p) rest) = ap (λ ps. times r (flat_map (pair_reach p) ps)) pairs_left in
            omega arith

        -- the nodes are as they were before the key was dropped
        nodes_left : MayDo a b → MayDo b c → ComesFrom a (tree_nodes p next) (tree_nodes m root)
        nodes_left first then r began among = nodes_from first then r began (subst (λ rs. Among r rs) (tree_nodes-same o p next drop_step.stay.0) among)

        pub plain_out : IsPlainIndex m root → IsPlainIndex p next
        plain_out all = subst (AllByRecursion (λ q. IsPlain q.1)) (sym pairs_left) (all_taken (beside_value value m) (λ q. IsPlain q.1) (tree_pairs m root) all)

        pub value_out : MayDo a b → MayDo b c → MakesIndex type a d m p root (remove_entry (is_at (value_cmp value)) (index_of type m root)) next
        value_out first then = record {
          index_is = index_left;
          reads_as = reads_left;
          keys = keys_left;
          flows = flows_out value a m p root next (nodes_left first then) rest_left pairs_left start.dictionary_is.tree_is.ascends;
          owns = owns-some d p (tree next ∷ pairs_part rest ∷ []) (index_part next ∷ []) drop_step.owns (λ r. let e = left_count r in omega arith);
          turns = turns-as a d m p (index_part root ∷ []) (tree next ∷ pairs_part rest ∷ []) (index_part root ∷ []) (index_part next ∷ [])
              (turns-then a c d m o p (index_part root ∷ []) (entry key ∷ tree next ∷ pairs_part rest ∷ []) (tree next ∷ pairs_part rest ∷ [])
              (turns-as a c m o (index_part root ∷ []) (parts next key word rest) (index_part root ∷ []) (entry key ∷ tree next ∷ pairs_part rest ∷ []) both (λ r. refl)
              (λ r. let e = no_list r in omega arith)) drop_step.turns) (λ r. refl) left_count;
        }
