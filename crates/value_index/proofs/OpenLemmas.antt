-- An index while one value's list changes: its tree, the value's key, the list, and all other keys and lists.
use Rattle.std.proofs.Common.{◌≡◌, ℕ, ℤ, ◌+◌, ◌<◌, ◌≤◌, Bool, true, length, true≢false, List, [], ◌∷◌, None, Some, inl, inr, ◌⊎◌, refl, sym, ap, subst, ◌∙◌, arith}
use Rattle.std.specs.List.{flat_map}
use Rattle.entry_ref.proofs.Among.{SameAt-then, SameAt-among}
use Rattle.entry_ref.specs.Records.{Records, SameAt, Among}
use Rattle.tree_read.specs.Pairs.{lookup_pair, take_out}
use Rattle.store_api.specs.Ledgers.{Ledger}
use Rattle.store_api.specs.Parts.{Part, After, Owns, Turns, count_in, entry, times}
use Rattle.store_api.proofs.PartLemmas.{after, owns-some, turns-as, turns-same, turns-then}
use Rattle.store_api.proofs.Times.{times-append}
use Rattle.tree_read.specs.ProofsForTrees.{SameAt-left, SameAt-right, flat_map-same, tree_nodes-same, tree_pairs-same}
use Rattle.tree_read.specs.Trees.{tree_pairs, tree_nodes}
use Rattle.frozen_btree.specs.Changes.{tree}
use Rattle.array_store.specs.Adding.{AddsRecord}
use Rattle.image_format.specs.Postings.{list_form, postings_reach, dictionary_reach}
use Rattle.image_format.specs.ProofsForImages.{postings_reach-same}
use Rattle.image_format.specs.Values.{stored_value, value_of, IsValueRecord}
use Rattle.image_format.specs.declared.TheConstants.{LEAST_DENSE}
use Rattle.attr_types.specs.Value.{type_of}
use Rattle.attr_types.specs.declared.value.Value.{Value}
use Rattle.enum_dictionary.specs.Dictionaries.{beside_value}
use Rattle.posting_store.specs.Changes.{list_part, MakesList}
use Rattle.posting_store.specs.Lists.{list_at, list_reach, is_vector, IsList}
use Rattle.posting_store.proofs.FormLemmas.{reach_form}
use Rattle.posting_store.proofs.ListLemmas.{nothing_is}
use Rattle.value_index.specs.Indexes.{index_part, IsIndex, IsKey}
use Rattle.value_index.proofs.IndexLemmas.{keys_same, pair_reach}
use Rattle.value_index.proofs.KeyLemmas.{pair_found, reads_found, record_found}
use Rattle.value_index.proofs.PairLemmas.{keys, among_found, found_times, none_out}

pub same_self : (m : Records) (qs : List ℕ) → SameAt qs m m
same_self m [] = tt
same_self m (q ∷ qs) = (refl, same_self m qs)

-- ---- pairs as a part
pub pairs_reach-same : (m n : Records) (ps : List (ℕ × ℕ)) → SameAt (flat_map (pair_reach m) ps) m n → flat_map (pair_reach n) ps ≡ flat_map (pair_reach m) ps
pairs_reach-same m n ps same =
    flat_map-same m n (pair_reach m) (pair_reach m) (pair_reach n) (λ p s. ap (λ rs. p.0 ∷ rs) (postings_reach-same m n (list_form p.1) s.1)) ps same

abbrev pub pairs_part : List (ℕ × ℕ) → Part
pairs_part ps = record { reach = λ m. flat_map (pair_reach m) ps; stays = λ m n same. pairs_reach-same m n ps same }

-- the pairs of all other values
abbrev pub others : Value → Records → ℕ → List (ℕ × ℕ)
others value m root = take_out (beside_value value m) (tree_pairs m root)

-- an index taken apart at one value
abbrev pub parts : ℕ → ℕ → ℕ → List (ℕ × ℕ) → List Part
parts root key word ps = tree root ∷ entry key ∷ list_part word ∷ pairs_part ps ∷ []

abbrev pub beside_list : ℕ → ℕ → List (ℕ × ℕ) → List Part
beside_list root key ps = tree root ∷ entry key ∷ pairs_part ps ∷ []

pub index_count : (m : Records) (root r : ℕ) → count_in r m (index_part root ∷ []) ≡ times r (tree_nodes m root) + times r (flat_map (pair_reach m) (tree_pairs m root))
index_count m root r = let e = times-append r (tree_nodes m root) (dictionary_reach m root) in omega arith

pub pair_count : (m : Records) (key word r : ℕ) → 0 < word → times r (pair_reach m (key, word)) ≡ times r (key ∷ []) + times r (list_reach m word)
pair_count m key word r some =
    let e : times r (list_reach m word) ≡ times r (postings_reach m (list_form word)) = ap (times r) (reach_form m word some) in omega arith

-- one value's list is changed, or is to change: the rest of the index is as it was at the start
pub record IsOpen {H : Type 0} (value : Value) (old now : Ledger H) (m n : Records) (root key word : ℕ) : Type 0 where
  pub owns : Owns now n (parts root key word (others value m root))
  pub turns : Turns old now m n (index_part root ∷ []) (parts root key word (others value m root))
  pub nodes : SameAt (tree_nodes m root) m n
  pub rest : SameAt (flat_map (pair_reach m) (others value m root)) m n
  pub keys_stay : (ref : ℕ) → IsKey m root ref → n ref ≡ m ref
  pub was : (ref : ℕ) → IsKey m root ref → (ref ≡ key) ⊎ Among ref (keys (others value m root))
  pub key_some : 0 < key
  pub record_is : IsValueRecord (type_of value) (n key)
  pub reads : stored_value (type_of value) n key ≡ value
  pub list_is : IsList n word
  pub long : is_vector word ≡ true → LEAST_DENSE ≤ length (list_at n word)

module _ {H : Type 0} (value : Value) (a : Ledger H) (m : Records) (root : ℕ) (is : IsIndex (type_of value) m root) (owns : Owns a m (index_part root ∷ [])) where
  -- a value that is there
  pub open_found : (key word : ℕ) → lookup_pair (beside_value value m) (tree_pairs m root) ≡ Some (key, word) → IsOpen value a a m m root key word
  open_found key word found =
      let pair = pair_found value m root is (key, word) found in
      let counted : (r : ℕ) → count_in r m (index_part root ∷ []) ≡ count_in r m (parts root key word (others value m root)) = λ r.
      let whole = index_count m root r in
      let split = found_times (beside_value value m) (pair_reach m) r (key, word) (tree_pairs m root) found in
      let one = pair_count m key word r pair.some in
      omega arith in
      record {
        owns = owns-some a m (index_part root ∷ []) (parts root key word (others value m root)) owns (λ r. let e = counted r in omega arith);
        turns = turns-as a a m m (index_part root ∷ []) (index_part root ∷ []) (index_part root ∷ []) (parts root key word (others value m root))
            (turns-same a m (index_part root ∷ [])) (λ r. refl) (λ r. sym (counted r));
        nodes = same_self m (tree_nodes m root);
        rest = same_self m (flat_map (pair_reach m) (others value m root));
        keys_stay = λ ref among. refl;
        was = λ ref among. among_found (beside_value value m) (key, word) ref (tree_pairs m root) found among;
        key_some = pair.key;
        record_is = record_found value m root is (key, word) found;
        reads = reads_found value m (key, word) (tree_pairs m root) found;
        list_is = pair.list_is;
        long = pair.long;
      }

  -- a value that is new, its record made
  module _ (bits : ℕ) (b : Ledger H) (n : Records) (words : List ℕ) (key : ℕ) (none : lookup_pair (beside_value value m) (tree_pairs m root) ≡ None)
      (adds : AddsRecord bits a b m n words key) (record_is : IsValueRecord (type_of value) (n key)) (reads : stored_value (type_of value) n key ≡ value) where
    made : Turns a b m n [] (entry key ∷ [])
    made = adds.turns

    all_pairs : others value m root ≡ tree_pairs m root
    all_pairs = none_out (beside_value value m) (tree_pairs m root) none

    step : After a b m n (index_part root ∷ []) (entry key ∷ index_part root ∷ []) (index_part root ∷ [])
    step = after a b m n [] (entry key ∷ []) (index_part root ∷ []) (index_part root ∷ []) (entry key ∷ index_part root ∷ []) owns made (λ k r. omega arith) (λ k r. omega arith)

    counted : (r : ℕ) → count_in r n (entry key ∷ index_part root ∷ []) ≡ count_in r n (parts root key 0 (others value m root))
    counted r =
        let whole = index_count n root r in
        let nodes = tree_nodes-same m n root (SameAt-left m n (tree_nodes m root) (dictionary_reach m root) step.stay.0) in
        let same : times r (flat_map (pair_reach n) (tree_pairs n root)) ≡ times r (flat_map (pair_reach n) (others value m root)) =
        ap (λ ps. times r (flat_map (pair_reach n) ps)) (tree_pairs-same m n root (SameAt-left m n (tree_nodes m root) (dictionary_reach m root) step.stay.0) ∙ sym all_pairs) in
        omega arith

    pub open_made : IsOpen value a b m n root key 0
    open_made =
        let nodes = SameAt-left m n (tree_nodes m root) (dictionary_reach m root) step.stay.0 in
        let rest = SameAt-right m n (tree_nodes m root) (dictionary_reach m root) step.stay.0 in
        record {
          owns = owns-some b n (entry key ∷ index_part root ∷ []) (parts root key 0 (others value m root)) step.owns (λ r. let e = counted r in omega arith);
          turns = turns-as a b m n (index_part root ∷ []) (entry key ∷ index_part root ∷ []) (index_part root ∷ []) (parts root key 0 (others value m root))
              step.turns (λ r. refl) (λ r. sym (counted r));
          nodes = nodes;
          rest = subst (λ ps. SameAt (flat_map (pair_reach m) ps) m n) (sym all_pairs) rest;
          keys_stay = λ ref among. SameAt-among m n (keys (tree_pairs m root)) (keys_same m n (tree_pairs m root) rest) ref among;
          was = λ ref among. inr (subst (λ ps. Among ref (keys ps)) (sym all_pairs) among);
          key_some = adds.some;
          record_is = record_is;
          reads = reads;
          list_is = nothing_is n;
          long = λ vector. absurd (true≢false (sym vector));
        }

-- the list was changed
module _ {H : Type 0} (value : Value) (a b c : Ledger H) (m n o : Records) (root key word next : ℕ) (docs : List (ℕ × ℤ))
    (dense : Bool) (is : IsOpen value a b m n root key word) (makes : MakesList b c n o word docs dense next)
    (long : is_vector next ≡ true → LEAST_DENSE ≤ length docs) where
  abbrev rest : List (ℕ × ℕ)
  rest = others value m root

  list_step : After b c n o (parts root key word rest) (parts root key next rest) (beside_list root key rest)
  list_step = after b c n o (list_part word ∷ []) (list_part next ∷ []) (beside_list root key rest) (parts root key word rest) (parts root key next rest)
      is.owns makes.turns (λ k r. omega arith) (λ k r. omega arith)

  key_stays : o key ≡ n key
  key_stays = list_step.stay.1.0.0

  rest_stays : SameAt (flat_map (pair_reach m) rest) n o
  rest_stays = subst (λ rs. SameAt rs n o) (pairs_reach-same m n rest is.rest) list_step.stay.1.1.0

  pub open_list : IsOpen value a c m o root key next
  open_list = record {
    owns = list_step.owns;
    turns = turns-then a b c m n o (index_part root ∷ []) (parts root key word rest) (parts root key next rest) is.turns list_step.turns;
    nodes = SameAt-then m n o (tree_nodes m root) is.nodes (subst (λ rs. SameAt rs n o) (tree_nodes-same m n root is.nodes) list_step.stay.0);
    rest = SameAt-then m n o (flat_map (pair_reach m) rest) is.rest rest_stays;
    keys_stay = λ ref among. stays ref (is.was ref among) ∙ is.keys_stay ref among;
    was = is.was;
    key_some = is.key_some;
    record_is = subst (IsValueRecord (type_of value)) (sym key_stays) is.record_is;
    reads = ap (value_of (type_of value)) key_stays ∙ is.reads;
    list_is = makes.list_is;
    long = λ vector. subst {A = List (ℕ × ℤ)} (λ ds. LEAST_DENSE ≤ length ds) (sym makes.docs_are) (long vector);
  }
    where
      stays : (ref : ℕ) → (ref ≡ key) ⊎ Among ref (keys rest) → o ref ≡ n ref
      stays ref (inl here) = subst (λ k. o k ≡ n k) (sym here) key_stays
      stays ref (inr later) = SameAt-among n o (keys rest) (same_keys rest rest_stays) ref later
        where
          same_keys : (ps : List (ℕ × ℕ)) → SameAt (flat_map (pair_reach m) ps) n o → SameAt (keys ps) n o
          same_keys [] same = tt
          same_keys (p ∷ ps) same = (same.0, same_keys ps (SameAt-right n o (postings_reach m (list_form p.1)) (flat_map (pair_reach m) ps) same.1))
