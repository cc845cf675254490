-- The key of a value moved.
use Rattle.std.proofs.Common.{◌≡◌, ℕ, ℤ, ◌≤◌, length, List, [], ◌∷◌, None, Some, Option, option_map, Result, Ok, Err, true, true≢false, inl, inr, ◌⊎◌, refl, sym, ap, subst, ◌∙◌, arith}
use Rattle.std.specs.Prelude.{IfOk}
use Rattle.list_lemmas.proofs.Options.{same_Some}
use Rattle.entry_ref.proofs.Among.{SameAt-then, SameAt-among}
use Rattle.entry_ref.specs.References.{buffer_of}
use Rattle.entry_ref.specs.Records.{Records, SameAt, Among}
use Rattle.tree_read.specs.Pairs.{lookup_pair, put}
use Rattle.tree_read.proofs.PairLemmas.{lookup-of_pair}
use Rattle.store_api.specs.Ledgers.{Ledger}
use Rattle.store_api.specs.Parts.{After, Owns, Turns, entry}
use Rattle.store_api.specs.Units.{MayDo}
use Rattle.store_api.specs.declared.store.StoreError.{StoreError}
use Rattle.store_api.proofs.PartLemmas.{after, turns-then}
use Rattle.tree_read.specs.Trees.{tree_pairs}
use Rattle.array_store.specs.Adding.{AddsRecord}
use Rattle.image_format.specs.Postings.{dictionary_reach, list_form, postings_reach}
use Rattle.image_format.specs.Values.{stored_value, value_words, IsValueRecord}
use Rattle.image_format.specs.declared.TheConstants.{LEAST_DENSE}
use Rattle.attr_types.specs.Value.{type_of}
use Rattle.attr_types.specs.declared.value.Value.{Value}
use Rattle.enum_dictionary.specs.Dictionaries.{beside_value, MakesDictionary}
use Rattle.posting_store.specs.Lists.{list_reach}
use Rattle.posting_store.specs.ProofsForLists.{list_at-same, list_reach-same, IsList-same}
use Rattle.posting_store.proofs.FormLemmas.{at_form, reach_form}
use Rattle.value_index.specs.Indexes.{index_part, key_at, IsIndex, IsKey, IsValuePair}
use Rattle.value_index.proofs.IndexLemmas.{docs_at, keys_same, pair_reach}
use Rattle.value_index.proofs.KeyLemmas.{pair_found}
use Rattle.value_index.proofs.OpenLemmas.{IsOpen, open_found, others, parts, same_self}
use Rattle.value_index.proofs.PairLemmas.{keys, among_put, found_among}
use Rattle.compaction_moves.specs.IndexMoves.{MovesKey}
use Rattle.compaction_moves.proofs.BlockLemmas.{docs_same}
use Rattle.compaction_moves.proofs.PairLemmas.{same_found}
use Rattle.compaction_moves.proofs.IndexSetLemmas.{IsReady, parts_with, extra_stays, list_stays, rest_stays, set_docs, set_index, set_is, set_key, set_list, set_owns, set_pairs, set_plain, set_rest, set_turns}

-- nothing is done where the key lies elsewhere, or is not there
pub key_unmoved : {H : Type 0} (bits buffer : ℕ) (value : Value) (a : Ledger H) (m : Records) (root : ℕ) → IsIndex (type_of value) m root
    → Owns a m (index_part root ∷ []) → ((key : ℕ) → key_at value m root ≡ Some key → buffer_of bits key ≡ buffer → ⊥)
    → MovesKey bits buffer value a a m m root root
key_unmoved bits buffer value a m root is owns apart = record {
  left = [];
  left_in = tt;
  left_none = λ far. refl;
  keys = λ ref among. inl among;
  index_is = is;
  reads_as = refl;
  docs = refl;
  plain = λ plain. plain;
  apart = apart;
  others = refl;
  list = refl;
  stay = same_self m (dictionary_reach m root);
  owns = record { each = λ r. let o = owns.each r in omega arith };
  turns = record { kept = λ r h. refl; balance = λ r. refl };
}

pub key_of : (value : Value) (m : Records) (root : ℕ) (found : Option (ℕ × ℕ)) → lookup_pair (beside_value value m) (tree_pairs m root) ≡ found
    → key_at value m root ≡ option_map (λ (p : ℕ × ℕ). p.0) found
key_of value m root found is = ap (λ (f : Option (ℕ × ℕ)). option_map (λ (p : ℕ × ℕ). p.0) f) is

-- the key that is found lies elsewhere
pub found_apart : (bits buffer : ℕ) (value : Value) (m : Records) (root key word : ℕ) → lookup_pair (beside_value value m) (tree_pairs m root) ≡ Some (key, word)
    → (buffer_of bits key ≡ buffer → ⊥) → (k : ℕ) → key_at value m root ≡ Some k → buffer_of bits k ≡ buffer → ⊥
found_apart bits buffer value m root key word found apart k is lies =
    apart (ap (buffer_of bits) (same_Some key k (sym (key_of value m root (Some (key, word)) found) ∙ is)) ∙ lies)

pub none_apart : (bits buffer : ℕ) (value : Value) (m : Records) (root : ℕ) → lookup_pair (beside_value value m) (tree_pairs m root) ≡ None
    → (k : ℕ) → key_at value m root ≡ Some k → buffer_of bits k ≡ buffer → ⊥
none_apart bits buffer value m root none k is lies = no_some k (sym (key_of value m root None none) ∙ is)
  where
    no_some : (k : ℕ) → None ≡ Some k → ⊥
    no_some k e = grind (arith, e)

-- the record was made anew
module _ {H : Type 0} (bits buffer : ℕ) (value : Value) (a b : Ledger H) (m n : Records) (root key word copy : ℕ) (start : IsIndex (type_of value) m root)
    (owns : Owns a m (index_part root ∷ [])) (found : lookup_pair (beside_value value m) (tree_pairs m root) ≡ Some (key, word))
    (adds : AddsRecord bits a b m n (value_words value) copy) (record_is : IsValueRecord (type_of value) (n copy))
    (reads : stored_value (type_of value) n copy ≡ value) where
  abbrev rest : List (ℕ × ℕ)
  rest = others value m root

  opened : IsOpen value a a m m root key word
  opened = open_found value a m root start owns key word found

  pair : IsValuePair m (key, word)
  pair = pair_found value m root start (key, word) found

  added : Turns a b m n [] (entry copy ∷ [])
  added = adds.turns

  made : After a b m n (parts root key word rest) (parts_with root copy word rest (entry key ∷ [])) (parts root key word rest)
  made = after a b m n [] (entry copy ∷ []) (parts root key word rest) (parts root key word rest) (parts_with root copy word rest (entry key ∷ []))
      opened.owns added (λ k r. omega arith) (λ k r. omega arith)

  stays : (ref : ℕ) → (ref ≡ key) ⊎ Among ref (keys rest) → n ref ≡ m ref
  stays ref (inl here) = subst (λ k. n k ≡ m k) (sym here) made.stay.1.0.0
  stays ref (inr later) = SameAt-among m n (keys rest) (keys_same m n rest made.stay.1.1.1.0) ref later

  pub key_ready : IsReady value b m n root copy word (docs_at m word) (entry key ∷ [])
  key_ready = record {
    owns = made.owns;
    nodes = made.stay.0;
    keys_stay = λ ref among. stays ref (opened.was ref among);
    rest = made.stay.1.1.1.0;
    key_some = adds.some;
    record_is = record_is;
    reads = reads;
    filled = pair.some;
    list_is = IsList-same m n word made.stay.1.1.0 pair.list_is;
    long = λ vector. subst {A = List (ℕ × ℤ)} (λ ds. LEAST_DENSE ≤ length ds) (sym (list_at-same m n word made.stay.1.1.0)) (pair.long vector);
    docs_are = list_at-same m n word made.stay.1.1.0 ∙ at_form m word pair.some;
  }

  -- and set
  module _ (may : MayDo a b) (sealed : a.sealed buffer ≡ true) (lies : buffer_of bits key ≡ buffer) (c : Ledger H) (o : Records) where
    moved : (next : ℕ) → MakesDictionary (type_of value) b c n o root (put (beside_value value n) (copy, word) (tree_pairs n root)) next
        → MovesKey bits buffer value a c m o root next
    moved next makes =
        let old_list : SameAt (list_reach m word) m o = SameAt-then m n o (list_reach m word) made.stay.1.1.0
        (subst (λ rs. SameAt rs n o) (list_reach-same m n word made.stay.1.1.0) (list_stays value b m n root key word copy word (entry key ∷ []) start found opened.reads key_ready c o next makes)) in
        let old_key : o key ≡ m key = (extra_stays value b m n root key word copy word (entry key ∷ []) start found opened.reads key_ready c o next makes).0.0 ∙ made.stay.1.0.0 in
        let here : SameAt (postings_reach m (list_form word)) m o = subst (λ rs. SameAt rs m o) (reach_form m word pair.some) old_list in
        record {
          left = key ∷ [];
          left_in = (record { is_key = found_among (beside_value value m) (key, word) (tree_pairs m root) found; lies = lies }, tt);
          left_none = λ far. absurd (far key (key_of value m root (Some (key, word)) found) lies);
          keys = λ ref among. kept ref (opened.was ref among);
          index_is = set_is value b m n root key word copy word (entry key ∷ []) start found opened.reads key_ready c o next makes;
          reads_as = set_index value b m n root key word copy word (entry key ∷ []) start found opened.reads key_ready c o next makes;
          docs = set_docs value b m n root key word copy word (entry key ∷ []) start found opened.reads key_ready c o next makes
              (docs_same m n (list_form word) (subst (λ rs. SameAt rs m n) (reach_form m word pair.some) made.stay.1.1.0));
          plain = set_plain value b m n root key word copy word (entry key ∷ []) start found opened.reads key_ready c o next makes (λ plain. plain);
          apart = λ k is there. elsewhere k (same_Some copy k (sym (set_key value b m n root key word copy word (entry key ∷ []) start found opened.reads key_ready c o next makes) ∙ is)) there;
          others = set_rest value b m n root key word copy word (entry key ∷ []) start found opened.reads key_ready c o next makes;
          list = set_list value b m n root key word copy word (entry key ∷ []) start found opened.reads key_ready c o next makes
              ∙ sym (lookup-of_pair (beside_value value m) (tree_pairs m root) ∙ ap (λ (f : Option (ℕ × ℕ)). option_map (λ (p : ℕ × ℕ). p.1) f) found);
          stay = same_found m o (beside_value value m) (pair_reach m) (key, word) (tree_pairs m root) found (old_key, here)
              (rest_stays value b m n root key word copy word (entry key ∷ []) start found opened.reads key_ready c o next makes);
          owns = set_owns value b m n root key word copy word (entry key ∷ []) start found opened.reads key_ready c o next makes;
          turns = turns-then a b c m n o (index_part root ∷ []) (parts_with root copy word rest (entry key ∷ [])) (index_part next ∷ entry key ∷ [])
              (turns-then a a b m m n (index_part root ∷ []) (parts root key word rest) (parts_with root copy word rest (entry key ∷ [])) opened.turns made.turns)
              (set_turns value b m n root key word copy word (entry key ∷ []) start found opened.reads key_ready c o next makes);
        }
      where
        kept : (ref : ℕ) → (ref ≡ key) ⊎ Among ref (keys rest) → IsKey o next ref ⊎ Among ref (key ∷ [])
        kept ref (inl is) = inr (inl is)
        kept ref (inr later) = inl (subst (λ ps. Among ref (keys ps))
            (sym (set_pairs value b m n root key word copy word (entry key ∷ []) start found opened.reads key_ready c o next makes))
            (among_put (beside_value value m) (copy, word) ref (tree_pairs m root) later))

        elsewhere : (k : ℕ) → copy ≡ k → buffer_of bits k ≡ buffer → ⊥
        elsewhere k same there =
            let here : buffer_of bits copy ≡ buffer = ap (buffer_of bits) same ∙ there in
            true≢false (sym (ap (λ (s : ℕ → _). s buffer) may.sealed ∙ sealed) ∙ sym (ap b.sealed here) ∙ adds.unsealed)

    pub key_moved : (answer : Result ℕ StoreError) → IfOk answer (MakesDictionary (type_of value) b c n o root (put (beside_value value n) (copy, word) (tree_pairs n root)))
        → IfOk answer (MovesKey bits buffer value a c m o root)
    key_moved (Err e) makes = tt
    key_moved (Ok next) makes = moved next makes
