-- Nodes made of slots stand for what is below the slots.
use Rattle.std.proofs.Common.{◌≡◌, ℕ, suc, ◌≤◌, List, [], ◌∷◌, ◌++◌, length, ap, ◌∙◌, arith, length-append}
use Rattle.entry_ref.specs.Records.{Records}
use Rattle.tree_read.specs.Trees.{pairs_below, last_key}
use Rattle.store_api.specs.Ledgers.{Ledger}
use Rattle.store_api.proofs.Times.{times-append}
use Rattle.store_api.specs.Parts.{times}
use Rattle.frozen_nodes.proofs.MakesLemmas.{makes-then}
use Rattle.tree_read.proofs.SlotLemmas.{slot_pairs-append, slot_nodes-append, slot_pairs-one, slot_nodes-one, hand-append, hand-one, hand-kept, slot_pairs-kept, slot_nodes-kept}
use Rattle.frozen_nodes.specs.Makes.{MakesNode}
use Rattle.tree_read.specs.Slots.{slot_pairs, slot_nodes}
use Rattle.frozen_btree.specs.Settles.{MakesSlots}
use Rattle.frozen_nodes.proofs.MadeLemmas.{made-balance}
use Rattle.tree_read.proofs.ChildLemmas.{IsNode-lower}

module _ {H : Type 0} (old new : Ledger H) (m n : Records) (level : ℕ) (keys values : List ℕ) (ref : ℕ) (makes : MakesNode old new m n level keys values ref) where
  pub stands-one : (key : ℕ) → key ≡ last_key (pairs_below n level ref) → 8 ≤ length keys
      → MakesSlots old new m n level (slot_pairs m level keys values) (slot_nodes m level values) (key ∷ []) (ref ∷ [])
  stands-one key last many = record {
    hand = hand-one n level key ref last (IsNode-lower n (length keys) 8 level ref many makes.node);
    pairs_are = slot_pairs-one n level key ref ∙ makes.pairs;
    balance = λ r. let is = made-balance old new m n level keys values ref makes r in let at = ap (times r) (slot_nodes-one n level ref) in omega arith;
    makes = makes.makes;
  }

-- one after the other
pub stands-two : {H : Type 0} (a b d : Ledger H) (m n o : Records) (level : ℕ) (p1 p2 : List (ℕ × ℕ)) (n1 n2 k1 v1 k2 v2 : List ℕ)
    → MakesSlots a b m n level p1 n1 k1 v1 → MakesSlots b d n o level p2 n2 k2 v2 → MakesSlots a d m o level (p1 ++ p2) (n1 ++ n2) (k1 ++ k2) (v1 ++ v2)
stands-two a b d m n o level p1 p2 n1 n2 k1 v1 k2 v2 x y =
    let keeps = y.makes.keeps in
    record {
      hand = hand-append o (suc level) k1 v1 k2 v2 (hand-kept n o keeps (suc level) k1 v1 x.hand) y.hand;
      pairs_are =
          slot_pairs-append o (suc level) k1 v1 k2 v2 x.hand.even
          ∙ ap (λ ps. ps ++ slot_pairs o (suc level) k2 v2) (slot_pairs-kept n o keeps (suc level) k1 v1 x.hand ∙ x.pairs_are)
          ∙ ap (λ ps. p1 ++ ps) y.pairs_are;
      balance = λ r.
          let first = x.balance r in
          let second = y.balance r in
          let kept = ap (times r) (slot_nodes-kept n o keeps (suc level) k1 v1 x.hand) in
          let both = ap (times r) (slot_nodes-append o (suc level) v1 v2) in
          omega (arith, times-append r (slot_nodes o (suc level) v1) (slot_nodes o (suc level) v2), times-append r n1 n2);
      makes = makes-then a b d m n o (length v1) (length v2) (length (v1 ++ v2)) (omega (arith, length-append v1 v2)) x.makes y.makes;
    }
