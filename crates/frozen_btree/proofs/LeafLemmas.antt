-- A tree of one leaf.
use Rattle.std.proofs.Common.{◌≡◌, ◌↔◌, ℕ, ◌<◌, List, [], ◌∷◌, length, true, ap, ◌∙◌, arith}
use Rattle.std.specs.List.{zip}
use Rattle.entry_ref.specs.Records.{Records}
use Rattle.store_api.specs.Statuses.{has_record}
use Rattle.store_api.specs.Ledgers.{Ledger}
use Rattle.store_api.specs.Parts.{times, Owns, Turns}
use Rattle.store_api.proofs.Uses.{in-uses, used_has}
use Rattle.tree_read.specs.Trees.{tree_pairs}
use Rattle.tree_read.specs.Slots.{slot_nodes}
use Rattle.tree_read.proofs.SlotLemmas.{slot_pairs-leaf, slot_nodes-leaf}
use Rattle.frozen_btree.specs.Changes.{tree, MakesRoot}

module _ {H : Type 0} (old new : Ledger H) (m n : Records) (keys values : List ℕ) (root : ℕ) (made : MakesRoot old new m n 0 keys values root)
    (recorded : (r : ℕ) → (has_record (old.status r) ≡ true) ↔ (0 < length (m r))) where
  none_below : (r : ℕ) → times r (slot_nodes m 0 values) ≡ 0
  none_below r = ap (times r) (slot_nodes-leaf m values)

  pub leaf-pairs : tree_pairs n root ≡ zip keys values
  leaf-pairs = made.pairs_are ∙ slot_pairs-leaf m keys values

  pub leaf-turns : Turns old new m n [] (tree root ∷ [])
  leaf-turns = record {
    kept = λ r h. made.makes.keeps r ((recorded r).0 (used_has (old.status r) (in-uses old r h)));
    balance = λ r. let even = made.balance r in let none = none_below r in omega arith;
  }

  pub leaf-owns : Owns new n (tree root ∷ [])
  leaf-owns = record { each = λ r. let even = made.balance r in let none = none_below r in omega arith }
