-- What the key and the list of an index that is open at one value have taken over: a key that was there, or a record that was made.
use Rattle.std.proofs.Common.{◌≡◌, ℕ, ℤ, Bool, true, List, [], ◌∷◌, Option, Some, option_map, inl, inr, sym, ap, subst, ◌∙◌}
use Rattle.std.specs.Option.{unwrap_or}
use Rattle.entry_ref.specs.Records.{Records, Among}
use Rattle.tree_read.specs.Pairs.{lookup_pair}
use Rattle.tree_read.proofs.PairLemmas.{lookup-of_pair}
use Rattle.store_api.specs.Ledgers.{Ledger}
use Rattle.store_api.specs.Parts.{Turns, entry}
use Rattle.store_api.specs.Statuses.{in_use}
use Rattle.store_api.specs.Units.{MayDo}
use Rattle.store_api.proofs.May.{may_do-then}
use Rattle.tree_read.specs.Trees.{tree_pairs}
use Rattle.array_store.specs.Adding.{AddsRecord}
use Rattle.attr_types.specs.declared.value.Value.{Value}
use Rattle.enum_dictionary.specs.Dictionaries.{beside_value}
use Rattle.posting_store.specs.Changes.{list_part, MakesList}
use Rattle.posting_store.specs.Keeps.{FlowsList}
use Rattle.posting_store.specs.Lists.{list_reach}
use Rattle.posting_store.proofs.FlowLemmas.{flows_fresh}
use Rattle.value_index.specs.Flows.{list_word}
use Rattle.store_api.specs.Flows.{ComesFrom}
use Rattle.store_api.proofs.Flows.{began-then, flow_made, flow_part}
use Rattle.value_index.proofs.PairLemmas.{keys, found_among}

pub record FlowsOpen {H : Type 0} (value : Value) (a b : Ledger H) (m n : Records) (root key word : ℕ) : Type 0 where
  pub may : MayDo a b
  pub from_key : ComesFrom a (key ∷ []) (keys (tree_pairs m root))
  pub from_list : ComesFrom a (list_reach n word) (list_reach m (list_word value m root))
  pub list_flows : FlowsList (λ r. in_use (a.back r) ≡ true) m n (list_word value m root) word

-- the list of a value that is there was changed
module _ {H : Type 0} (value : Value) (a b : Ledger H) (m n : Records) (root key was next : ℕ) (docs : List (ℕ × ℤ))
    (dense : Bool) (found : lookup_pair (beside_value value m) (tree_pairs m root) ≡ Some (key, was)) (may : MayDo a b) (makes : MakesList a b m n was docs dense next) where
  word_is : list_word value m root ≡ was
  word_is =
      ap (λ (x : Option ℕ). unwrap_or x 0)
      (lookup-of_pair (beside_value value m) (tree_pairs m root) ∙ ap (λ (f : Option (ℕ × ℕ)). option_map (λ (p : ℕ × ℕ). p.1) f) found)

  key_there : (r : ℕ) → Among r (key ∷ []) → Among r (keys (tree_pairs m root))
  key_there r (inl here) = subst (λ k. Among k (keys (tree_pairs m root))) (sym here) (found_among (beside_value value m) (key, was) (tree_pairs m root) found)
  key_there r (inr none) = absurd none

  pub flows_found : FlowsOpen value a b m n root key next
  flows_found = record {
    may = may;
    from_key = λ r began among. key_there r among;
    from_list = λ r began among. subst (λ (w : ℕ). Among r (list_reach m w)) (sym word_is) (flow_part a b m n (list_part was) (list_part next) may makes.turns r began among);
    list_flows = subst (λ (w : ℕ). FlowsList (λ r. in_use (a.back r) ≡ true) m n w next) (sym word_is) makes.flows;
  }

-- a new value's record and list were made
module _ {H : Type 0} (value : Value) (bits : ℕ) (a b c : Ledger H) (m n o : Records) (root key next : ℕ) (words : List ℕ) (docs : List (ℕ × ℤ))
    (dense : Bool) (first : MayDo a b) (adds : AddsRecord bits a b m n words key) (then : MayDo b c) (makes : MakesList b c n o 0 docs dense next) where
  made : Turns a b m n [] (entry key ∷ [])
  made = adds.turns

  pub flows_new : FlowsOpen value a c m o root key next
  flows_new = record {
    may = may_do-then a b c first then;
    from_key = λ r began among. absurd (flow_made a b m n (entry key) first made r began among);
    from_list = λ r began among. absurd (flow_part b c n o (list_part 0) (list_part next) then makes.turns r (began-then a b first r began) among);
    list_flows = flows_fresh (λ r. in_use (a.back r) ≡ true) m o (list_word value m root) next
        (λ r began among. absurd (flow_part b c n o (list_part 0) (list_part next) then makes.turns r (began-then a b first r began) among));
  }
