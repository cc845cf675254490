-- One node made of slots, or two, as parts.
use Rattle.std.proofs.Common.{◌≡◌, ℕ, ◌+◌, ◌<◌, ◌≤◌, List, [], ◌∷◌, ◌++◌, length, take, drop, length-take, length-drop, sym, ap, subst, ◌∙◌, arith, ◌^◌}
use Rattle.std.proofs.lemmas.List.{append-nil, take-append-drop}
use Rattle.std.specs.List.{flat_map}
use Rattle.entry_ref.specs.Records.{Records}
use Rattle.store_api.specs.Ledgers.{Ledger}
use Rattle.tree_read.specs.Trees.{pairs_below, nodes_below, last_key, Keeps}
use Rattle.store_api.proofs.Times.{times-append}
use Rattle.store_api.specs.Parts.{times, uses}
use Rattle.frozen_nodes.specs.Makes.{MakesPart}
use Rattle.tree_read.specs.Slots.{slot_pairs, slot_nodes, IsInHand}
use Rattle.frozen_nodes.specs.declared.make.MadeNode.{MadeNode}
use Rattle.frozen_nodes.proofs.MakesLemmas.{makes-then, makes-more}
use Rattle.tree_read.proofs.SlotLemmas.{slot_pairs-append, slot_nodes-append, hand-right, pairs-kept, nodes_below-kept, node-kept, slot_pairs-kept, slot_nodes-kept, hand-kept, hand-take, hand-drop, few-take, few-drop}
use Rattle.tree_read.proofs.SlotLemmas.{even-take, cut}
use Rattle.frozen_nodes.specs.Parts.{MakesParts}
use Rattle.frozen_nodes.specs.declared.parts.Parts.TheVariants.{One, Two}
use Rattle.frozen_nodes.proofs.MadeLemmas.{made-balance}
use Rattle.tree_read.proofs.ChildLemmas.{IsNode-lower}

pub one_part : {H : Type 0} (old new : Ledger H) (m n : Records) (level : ℕ) (ks vs : List ℕ) (part : MadeNode) → MakesPart old new m n level ks vs part → MakesParts old new m n level ks vs (One part)
one_part old new m n level ks vs part made = record {
  parts_are = record {
    nodes = (made.node.node, tt);
    some = (made.node.some, tt);
    keys = ap (λ k. k ∷ []) made.key;
    pairs_are = append-nil (pairs_below n level part.node) ∙ made.node.pairs;
  };
  makes = makes-more old new m n 1 2 (omega arith) made.node.makes;
  balance = λ q. made-balance old new m n level ks vs part.node made.node q ∙ ap (λ refs. uses old q + times q refs) (sym (append-nil (nodes_below n level part.node)));
}

module _ {H : Type 0} (a b c : Ledger H) (m n o : Records) (level : ℕ) (k1 v1 k2 v2 : List ℕ) (first second : MadeNode) (even : length k1 ≡ length v1) (hand : IsInHand m level (k1 ++ k2) (v1 ++ v2))
    (x : MakesPart a b m n level k1 v1 first) (y : MakesPart b c n o level k2 v2 second) where
  behind : IsInHand m level k2 v2
  behind = hand-right m level k1 v1 k2 v2 even hand

  first_pairs : pairs_below o level first.node ≡ slot_pairs m level k1 v1
  first_pairs = pairs-kept n o y.node.makes.keeps (length k1) level first.node x.node.node ∙ x.node.pairs

  second_pairs : pairs_below o level second.node ≡ slot_pairs m level k2 v2
  second_pairs = y.node.pairs ∙ slot_pairs-kept m n x.node.makes.keeps level k2 v2 behind

  both-balance : (q : ℕ) → times q (slot_nodes m level (v1 ++ v2)) + uses c q ≡ uses a q + times q (flat_map (nodes_below o level) (first.node ∷ second.node ∷ []))
  both-balance q =
      let one = made-balance a b m n level k1 v1 first.node x.node q in
      let two = made-balance b c n o level k2 v2 second.node y.node q in
      let slots : times q (slot_nodes m level (v1 ++ v2)) ≡ times q (slot_nodes m level v1) + times q (slot_nodes m level v2) =
      ap (times q) (slot_nodes-append m level v1 v2) ∙ times-append q (slot_nodes m level v1) (slot_nodes m level v2) in
      let same : times q (slot_nodes n level v2) ≡ times q (slot_nodes m level v2) = ap (times q) (slot_nodes-kept m n x.node.makes.keeps level k2 v2 behind) in
      let moved : times q (nodes_below o level first.node) ≡ times q (nodes_below n level first.node) = ap (times q) (nodes_below-kept n o y.node.makes.keeps (length k1) level first.node x.node.node) in
      let last : times q (nodes_below o level second.node ++ []) ≡ times q (nodes_below o level second.node) = ap (times q) (append-nil (nodes_below o level second.node)) in
      let all = times-append q (nodes_below o level first.node) (nodes_below o level second.node ++ []) in
      omega arith

  pub two_parts : 8 ≤ length k1 → 8 ≤ length k2 → MakesParts a c m o level (k1 ++ k2) (v1 ++ v2) (Two first second)
  two_parts many more = record {
    parts_are = record {
      nodes = (
        node-kept n o y.node.makes.keeps 8 level first.node (IsNode-lower n (length k1) 8 level first.node many x.node.node),
        (IsNode-lower o (length k2) 8 level second.node more y.node.node, tt),
      );
      some = (x.node.some, (y.node.some, tt));
      keys =
          ap (λ k. k ∷ second.key ∷ []) (x.key ∙ ap last_key (sym (pairs-kept n o y.node.makes.keeps (length k1) level first.node x.node.node)))
          ∙ ap (λ k. last_key (pairs_below o level first.node) ∷ k ∷ []) y.key;
      pairs_are =
          ap (λ ps. ps ++ (pairs_below o level second.node ++ [])) first_pairs
          ∙ ap (λ ps. slot_pairs m level k1 v1 ++ ps) (append-nil (pairs_below o level second.node) ∙ second_pairs)
          ∙ sym (slot_pairs-append m level k1 v1 k2 v2 even);
    };
    makes = makes-then a b c m n o 1 1 2 (omega arith) x.node.makes y.node.makes;
    balance = both-balance;
  }

-- the slots of two nodes from those of one
pub record IsSplit (level : ℕ) (ks vs : List ℕ) (l1 : ℕ) (k1 v1 : List ℕ) (l2 : ℕ) (k2 v2 : List ℕ) : Type 0 where
  pub first_level : l1 ≡ level
  pub first_keys : k1 ≡ take 9 ks
  pub first_values : v1 ≡ take 9 vs
  pub second_level : l2 ≡ level
  pub second_keys : k2 ≡ drop 9 ks
  pub second_values : v2 ≡ drop 9 vs

module _ (m : Records) (level : ℕ) (ks vs : List ℕ) (l1 : ℕ) (k1 v1 : List ℕ) (l2 : ℕ) (k2 v2 : List ℕ) (split : IsSplit level ks vs l1 k1 v1 l2 k2 v2) (hand : IsInHand m level ks vs) where
  pub first-hand : IsInHand m l1 k1 v1
  first-hand =
      subst (λ l. IsInHand m l k1 v1) (sym split.first_level) (subst (λ xs. IsInHand m level xs v1) (sym split.first_keys)
      (subst (λ xs. IsInHand m level (take 9 ks) xs) (sym split.first_values) (hand-take m level ks vs hand 9)))

  pub first-few : length (slot_pairs m level ks vs) < 2 ^ 32 → length (slot_pairs m l1 k1 v1) < 2 ^ 32
  first-few small =
      subst (λ l. length (slot_pairs m l k1 v1) < 2 ^ 32) (sym split.first_level) (subst (λ xs. length (slot_pairs m level xs v1) < 2 ^ 32) (sym split.first_keys)
      (subst (λ xs. length (slot_pairs m level (take 9 ks) xs) < 2 ^ 32) (sym split.first_values) (let few = few-take m level ks vs hand 9 in omega arith)))

  second-old : IsInHand m l2 k2 v2
  second-old =
      subst (λ l. IsInHand m l k2 v2) (sym split.second_level) (subst (λ xs. IsInHand m level xs v2) (sym split.second_keys)
      (subst (λ xs. IsInHand m level (drop 9 ks) xs) (sym split.second_values) (hand-drop m level ks vs hand 9)))

  pub second-hand : (n : Records) → Keeps m n → IsInHand n l2 k2 v2
  second-hand n keeps = hand-kept m n keeps l2 k2 v2 second-old

  pub second-few : (n : Records) → Keeps m n → length (slot_pairs m level ks vs) < 2 ^ 32 → length (slot_pairs n l2 k2 v2) < 2 ^ 32
  second-few n keeps small =
      subst (λ ps. length ps < 2 ^ 32) (sym (slot_pairs-kept m n keeps l2 k2 v2 second-old))
      (subst (λ l. length (slot_pairs m l k2 v2) < 2 ^ 32) (sym split.second_level) (subst (λ xs. length (slot_pairs m level xs v2) < 2 ^ 32) (sym split.second_keys)
      (subst (λ xs. length (slot_pairs m level (drop 9 ks) xs) < 2 ^ 32) (sym split.second_values) (let few = few-drop m level ks vs hand 9 in omega arith))))

  pub two_made : {H : Type 0} (a b c : Ledger H) (n o : Records) (first second : MadeNode) → length ks ≡ 17 → MakesPart a b m n l1 k1 v1 first → MakesPart b c n o l2 k2 v2 second
      → MakesParts a c m o level ks vs (Two first second)
  two_made a b c n o first second size x y =
      let x1 : MakesPart a b m n level k1 v1 first = subst (λ l. MakesPart a b m n l k1 v1 first) split.first_level x in
      let x2 : MakesPart a b m n level (take 9 ks) v1 first = subst (λ k. MakesPart a b m n level k v1 first) split.first_keys x1 in
      let x3 : MakesPart a b m n level (take 9 ks) (take 9 vs) first = subst (λ v. MakesPart a b m n level (take 9 ks) v first) split.first_values x2 in
      let y1 : MakesPart b c n o level k2 v2 second = subst (λ l. MakesPart b c n o l k2 v2 second) split.second_level y in
      let y2 : MakesPart b c n o level (drop 9 ks) v2 second = subst (λ k. MakesPart b c n o level k v2 second) split.second_keys y1 in
      let y3 : MakesPart b c n o level (drop 9 ks) (drop 9 vs) second = subst (λ v. MakesPart b c n o level (drop 9 ks) v second) split.second_values y2 in
      let front = length-take 9 ks in
      let back = length-drop 9 ks in
      subst (λ k. MakesParts a c m o level k vs (Two first second)) (take-append-drop 9 ks)
      (subst (λ v. MakesParts a c m o level (take 9 ks ++ drop 9 ks) v (Two first second)) (take-append-drop 9 vs)
      (two_parts a b c m n o level (take 9 ks) (take 9 vs) (drop 9 ks) (drop 9 vs) first second (even-take m level ks vs hand 9) (cut m level ks vs hand 9) x3 y3 (omega arith) (omega arith)))
