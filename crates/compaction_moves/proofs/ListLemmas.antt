-- The list of a value moved.
use Rattle.std.proofs.Common.{◌≡◌, ℕ, ℤ, ◌+◌, ◌<◌, ◌≤◌, true, List, [], ◌∷◌, length, None, Some, Option, option_map, Result, Ok, Err, inl, inr, ◌⊎◌, refl, sym, ap, subst, ◌∙◌, arith}
use Rattle.std.specs.Option.{unwrap_or}
use Rattle.std.specs.Prelude.{IfOk}
use Rattle.std.specs.declared.cmp.Ordering.{Ordering}
use Rattle.std.specs.declared.cmp.Ordering.TheVariants.{Less, Equal, Greater}
use Rattle.std.specs.List.{flat_map}
use Rattle.list_lemmas.proofs.Options.{same_Some}
use Rattle.entry_ref.proofs.Among.{SameAt-among}
use Rattle.entry_ref.proofs.Pairs.{same-from}
use Rattle.entry_ref.specs.Records.{Records, SameAt, Among}
use Rattle.tree_read.specs.Pairs.{choose, lookup, lookup_pair, put}
use Rattle.tree_read.proofs.PairLemmas.{lookup-of_pair}
use Rattle.store_api.specs.Ledgers.{Ledger}
use Rattle.store_api.specs.Parts.{Owns}
use Rattle.store_api.specs.Units.{MakesWithin}
use Rattle.store_api.specs.declared.store.StoreError.{StoreError}
use Rattle.store_api.specs.Statuses.{in_use}
use Rattle.store_api.proofs.PartLemmas.{turns-then}
use Rattle.store_api.proofs.Times.{among-times, times-among}
use Rattle.store_api.proofs.Uses.{uses-few, uses-in}
use Rattle.tree_read.specs.Trees.{tree_pairs}
use Rattle.frozen_btree.specs.Changes.{levels}
use Rattle.value_index.specs.Changes.{nodes_most}
use Rattle.image_format.specs.Postings.{list_form, postings_reach, IsPostingList}
use Rattle.image_format.specs.Values.{stored_value, value_of}
use Rattle.attr_types.specs.Value.{type_of, value_cmp}
use Rattle.attr_types.specs.declared.value.Value.{Value}
use Rattle.enum_dictionary.specs.Dictionaries.{beside_value, IsDictionary, MakesDictionary}
use Rattle.enum_dictionary.proofs.DictionaryLemmas.{dictionary_stays}
use Rattle.posting_store.specs.Changes.{MakesList}
use Rattle.posting_store.specs.Keeps.{list_block}
use Rattle.posting_store.specs.Lists.{list_at, list_levels, list_reach, is_vector}
use Rattle.posting_store.specs.ProofsForLists.{list_reach-same}
use Rattle.posting_store.specs.Moves.{word_most, FormIsApart, MovesWord}
use Rattle.posting_store.proofs.FormLemmas.{at_form, no_vector, plain_of, reach_form}
use Rattle.posting_store.proofs.ListLemmas.{list_filled}
use Rattle.value_index.specs.Flows.{list_word}
use Rattle.value_index.specs.Indexes.{index_part, IsIndex, IsKey, IsValuePair}
use Rattle.value_index.proofs.IndexLemmas.{docs_at, keys_same, pair_reach}
use Rattle.value_index.proofs.KeyLemmas.{pair_found, reads_found}
use Rattle.value_index.proofs.OpenLemmas.{IsOpen, others, parts, same_self}
use Rattle.value_index.proofs.PairLemmas.{keys, all_by_keys, among_put, key_put, lookup_pair_as}
use Rattle.value_index.proofs.StepLemmas.{open_next, word_some}
use Rattle.compaction_moves.specs.IndexMoves.{move_most, MovesList}
use Rattle.compaction_moves.proofs.BlockLemmas.{form_block_same, form_same}
use Rattle.compaction_moves.proofs.IndexKeyLemmas.{key_of}
use Rattle.compaction_moves.proofs.IndexSetLemmas.{IsReady, key_stays, list_stays, ready_dictionary, ready_owns, rest_stays, set_docs, set_index}
use Rattle.compaction_moves.proofs.IndexSetLemmas.{set_is, set_key, set_list, set_owns, set_pairs, set_plain, set_rest, set_turns}

-- a pair put in its own place
put_found : (c : ℕ → Ordering) (p : ℕ × ℕ) (ps : List (ℕ × ℕ)) → lookup_pair c ps ≡ Some p → put c p ps ≡ ps
put_found c p [] is = absurd (grind (arith, is))
put_found c p (q ∷ ps) is =
    (elim (c q.0) as (λ o. choose o (lookup_pair c ps) (Some q) None ≡ Some p → choose o (q ∷ put c p ps) (p ∷ ps) (p ∷ q ∷ ps) ≡ q ∷ ps) [
      | Less ↦ λ h. ap (λ qs. q ∷ qs) (put_found c p ps h)
      | Equal ↦ λ h. ap (λ (x : ℕ × ℕ). x ∷ ps) (sym (same_Some q p h))
      | Greater ↦ λ h. absurd (grind (arith, h))
    ]) is

-- a list and its word
pub moves_as : {H : Type 0} (bits buffer doc : ℕ) (a b : Ledger H) (m n : Records) (was list next word : ℕ) → was ≡ list → word ≡ next → MovesWord bits buffer doc a b m n was next
    → MovesWord bits buffer doc a b m n list word
moves_as bits buffer doc a b m n was list next word same is moves =
    subst (λ x. MovesWord bits buffer doc a b m n list x) (sym is) (subst (λ x. MovesWord bits buffer doc a b m n x next) same moves)

pub counts_as : {H : Type 0} (a b : Ledger H) (m : Records) (was list count : ℕ) → was ≡ list → length (list_at m list) ≡ count
    → MakesWithin a b (word_most (is_vector was) (list_levels m was) (length (list_at m was))) → MakesWithin a b (word_most (is_vector list) (list_levels m list) count)
counts_as a b m was list count same size made =
    subst (λ k. MakesWithin a b (word_most (is_vector list) (list_levels m list) k)) size
    (subst (λ x. MakesWithin a b (word_most (is_vector x) (list_levels m x) (length (list_at m x)))) same made)

-- what a move makes, by what is found
pub most_found : (value : Value) (m : Records) (root key word count w : ℕ) → lookup_pair (beside_value value m) (tree_pairs m root) ≡ Some (key, word)
    → word_most (is_vector word) (list_levels m word) count w + nodes_most (levels m root) w ≤ move_most value m root count w
most_found value m root key word count w found =
    let word_is : unwrap_or (lookup (beside_value value m) (tree_pairs m root)) 0 ≡ word =
    ap (λ (o : Option ℕ). unwrap_or o 0) (lookup-of_pair (beside_value value m) (tree_pairs m root) ∙ ap (λ (o : Option (ℕ × ℕ)). option_map (λ (p : ℕ × ℕ). p.1) o) found) in
    let same = by word_is in
    omega arith
  where
    by : unwrap_or (lookup (beside_value value m) (tree_pairs m root)) 0 ≡ word → move_most value m root count w ≡ word_most (is_vector word) (list_levels m word) count w + nodes_most (levels m root) w
    by is = ap (λ x. word_most (is_vector x) (list_levels m x) count w + nodes_most (levels m root) w) is

-- nothing is done where the value is not there
pub list_unmoved : {H : Type 0} (bits buffer doc : ℕ) (value : Value) (a : Ledger H) (m : Records) (root : ℕ) → IsIndex (type_of value) m root
    → Owns a m (index_part root ∷ []) → lookup_pair (beside_value value m) (tree_pairs m root) ≡ None → MovesList bits buffer doc value a a m m root root
list_unmoved bits buffer doc value a m root is owns none = record {
  index_is = is;
  reads_as = refl;
  docs = refl;
  plain = λ plain. plain;
  apart = λ word there. absurd (no_some word (sym (lookup-of_pair (beside_value value m) (tree_pairs m root)
      ∙ ap (λ (f : Option (ℕ × ℕ)). option_map (λ (p : ℕ × ℕ). p.1) f) none) ∙ there));
  key = refl;
  others = refl;
  rest = same_self m (flat_map (pair_reach m) (others value m root));
  keys = λ ref among. (among, refl);
  came = λ r used among. among;
  form = refl;
  blocks = record { each = λ k r there used. there };
  owns = owns;
  turns = record { kept = λ r h. refl; balance = λ r. refl };
}
  where
    no_some : (word : ℕ) → None ≡ Some word → ⊥
    no_some word e = grind (arith, e)

module _ {H : Type 0} (bits buffer doc : ℕ) (value : Value) (a b : Ledger H) (m n : Records) (root key word next : ℕ) (start : IsIndex (type_of value) m root)
    (owns : Owns a m (index_part root ∷ [])) (found : lookup_pair (beside_value value m) (tree_pairs m root) ≡ Some (key, word))
    (moves : MovesWord bits buffer doc a b m n word next) where
  makes : MakesList a b m n word (list_at m word) (is_vector word) next
  makes = moves.makes

  abbrev rest : List (ℕ × ℕ)
  rest = others value m root

  pair : IsValuePair m (key, word)
  pair = pair_found value m root start (key, word) found

  opened : IsOpen value a b m n root key next
  opened = open_next value m root start key word found a b n next (list_at m word) (is_vector word) owns makes (λ vector. pair.long (sym makes.form ∙ vector))

  pub next_some : 0 < next
  next_some = word_some n next (subst {A = List (ℕ × ℤ)} (λ docs. 0 < length docs) (sym makes.docs_are) (list_filled m word pair.list_is pair.some))

  was_reads : stored_value (type_of value) m key ≡ value
  was_reads = reads_found value m (key, word) (tree_pairs m root) found

  pub list_ready : IsReady value b m n root key next (docs_at m word) []
  list_ready = record {
    owns = opened.owns;
    nodes = opened.nodes;
    keys_stay = opened.keys_stay;
    rest = opened.rest;
    key_some = opened.key_some;
    record_is = opened.record_is;
    reads = opened.reads;
    filled = next_some;
    list_is = opened.list_is;
    long = opened.long;
    docs_are = makes.docs_are ∙ at_form m word pair.some;
  }

  pub list_dictionary : IsDictionary (type_of value) n root
  list_dictionary = ready_dictionary value b m n root key word key next [] start found was_reads list_ready

  -- the same word: the dictionary is as it was
  pub dictionary_same : next ≡ word → MakesDictionary (type_of value) b b n n root (put (beside_value value n) (key, next) (tree_pairs n root)) root
  dictionary_same same =
      let stays = dictionary_stays (type_of value) m n root opened.nodes (same-from (keys (tree_pairs m root)) m n opened.keys_stay) start.dictionary_is in
      let agree = all_by_keys (λ k. beside_value value n k ≡ beside_value value m k) (tree_pairs m root) (λ k among. ap (λ ws. value_cmp (value_of (type_of value) ws) value) (opened.keys_stay k among)) in
      let there : lookup_pair (beside_value value n) (tree_pairs n root) ≡ Some (key, next) =
      ap (lookup_pair (beside_value value n)) stays.1 ∙ lookup_pair_as (beside_value value m) (beside_value value n) (tree_pairs m root) agree ∙ found ∙ ap (λ (w : ℕ). Some (key, w)) (sym same) in
      record {
        dictionary_is = stays.0;
        pairs_are = sym (put_found (beside_value value n) (key, next) (tree_pairs n root) there);
        owns = ready_owns value b m n root key word key next [] start found was_reads list_ready;
        turns = record { kept = λ r h. refl; balance = λ r. refl };
      }

  module _ (c : Ledger H) (o : Records) where
    pub list_set : (top : ℕ) → MakesDictionary (type_of value) b c n o root (put (beside_value value n) (key, next) (tree_pairs n root)) top
        → MovesList bits buffer doc value a c m o root top
    list_set top set =
        let here : SameAt (postings_reach n (list_form next)) n o =
        subst (λ rs. SameAt rs n o) (reach_form n next next_some) (list_stays value b m n root key word key next [] start found was_reads list_ready c o top set) in
        let form : IsPostingList n (list_form next) = opened.list_is.form next_some in
        let rest_same = rest_stays value b m n root key word key next [] start found was_reads list_ready c o top set in
        record {
          index_is = set_is value b m n root key word key next [] start found was_reads list_ready c o top set;
          reads_as = set_index value b m n root key word key next [] start found was_reads list_ready c o top set;
          docs = set_docs value b m n root key word key next [] start found was_reads list_ready c o top set moves.docs;
          plain = set_plain value b m n root key word key next [] start found was_reads list_ready c o top set (λ plain. plain_of next (makes.form ∙ no_vector word plain));
          apart = λ w there. subst (λ x. FormIsApart bits buffer doc o (list_form x))
              (same_Some next w (sym (set_list value b m n root key word key next [] start found was_reads list_ready c o top set) ∙ there))
              (form_same bits buffer doc n o (list_form next) here form moves.apart);
          key = set_key value b m n root key word key next [] start found was_reads list_ready c o top set ∙ sym (key_of value m root (Some (key, word)) found);
          others = set_rest value b m n root key word key next [] start found was_reads list_ready c o top set;
          rest = rest_same;
          keys = λ ref among. kept ref among rest_same (opened.was ref among);
          came = came_from;
          form = ap is_vector top_word ∙ makes.form ∙ ap is_vector (sym root_word);
          blocks = record { each = block_from };
          owns = set_owns value b m n root key word key next [] start found was_reads list_ready c o top set;
          turns = turns-then a b c m n o (index_part root ∷ []) (parts root key next rest) (index_part top ∷ []) opened.turns
              (set_turns value b m n root key word key next [] start found was_reads list_ready c o top set);
        }
      where
        top_word : list_word value o top ≡ next
        top_word = ap (λ (f : Option ℕ). unwrap_or f 0) (set_list value b m n root key word key next [] start found was_reads list_ready c o top set)

        root_word : list_word value m root ≡ word
        root_word = ap (λ (f : Option ℕ). unwrap_or f 0) (lookup-of_pair (beside_value value m) (tree_pairs m root) ∙ ap (λ (f : Option (ℕ × ℕ)). option_map (λ (p : ℕ × ℕ). p.1) f) found)

        top_reach : list_reach o (list_word value o top) ≡ list_reach n next
        top_reach = ap (list_reach o) top_word ∙ list_reach-same n o next (list_stays value b m n root key word key next [] start found was_reads list_ready c o top set)

        came_from : (r : ℕ) → in_use (a.status r) ≡ true → Among r (list_reach o (list_word value o top)) → Among r (list_reach m (list_word value m root))
        came_from r used among =
            let some = among-times r (list_reach n next) (subst (Among r) top_reach among) in
            let t = makes.turns.balance r in
            let was = uses-in a r used in
            let few = uses-few b r in
            subst (λ w. Among r (list_reach m w)) (sym root_word) (times-among r (list_reach m word) (omega arith))

        next_stays : SameAt (postings_reach n (list_form next)) n o
        next_stays = subst (λ rs. SameAt rs n o) (reach_form n next next_some) (list_stays value b m n root key word key next [] start found was_reads list_ready c o top set)

        block_from : (k r : ℕ) → list_block o (list_word value o top) k ≡ Some r → in_use (a.status r) ≡ true → list_block m (list_word value m root) k ≡ Some r
        block_from k r there used =
            ap (λ w. list_block m w k) root_word
            ∙ moves.blocks.each k r (sym (ap (λ w. list_block o w k) top_word ∙ form_block_same n o (list_form next) k next_stays) ∙ there) used

        key_same : o key ≡ n key
        key_same = key_stays value b m n root key word key next [] start found was_reads list_ready c o top set

        pairs_are : tree_pairs o top ≡ put (beside_value value m) (key, next) (tree_pairs m root)
        pairs_are = set_pairs value b m n root key word key next [] start found was_reads list_ready c o top set

        kept : (ref : ℕ) → IsKey m root ref → SameAt (flat_map (pair_reach m) rest) m o → (ref ≡ key) ⊎ Among ref (keys rest) → IsKey o top ref × (o ref ≡ m ref)
        kept ref among same (inl is) = (
          subst (λ ps. Among ref (keys ps)) (sym pairs_are) (subst (λ k. Among k (keys (put (beside_value value m) (key, next) (tree_pairs m root)))) (sym is)
              (key_put (beside_value value m) (key, next) (tree_pairs m root))),
          subst (λ k. o k ≡ n k) (sym is) key_same ∙ opened.keys_stay ref among,
        )
        kept ref among same (inr later) = (
          subst (λ ps. Among ref (keys ps)) (sym pairs_are) (among_put (beside_value value m) (key, next) ref (tree_pairs m root) later),
          SameAt-among m o (keys rest) (keys_same m o rest same) ref later,
        )

    pub list_set_by : (answer : Result ℕ StoreError) → IfOk answer (MakesDictionary (type_of value) b c n o root (put (beside_value value n) (key, next) (tree_pairs n root)))
        → IfOk answer (MovesList bits buffer doc value a c m o root)
    list_set_by (Err e) set = tt
    list_set_by (Ok top) set = list_set top set
