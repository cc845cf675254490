-- The root over one part or two.
use Rattle.std.proofs.Common.{◌≡◌, ℕ, suc, ◌+◌, ◌<◌, ◌≤◌, List, [], ◌∷◌, ◌++◌, length, sym, ap, subst, ◌∙◌, arith, ◌^◌}
use Rattle.std.proofs.lemmas.List.{append-nil}
use Rattle.std.specs.List.{flat_map}
use Rattle.entry_ref.specs.Records.{Records}
use Rattle.store_api.specs.Ledgers.{Ledger}
use Rattle.tree_read.specs.Trees.{pairs_below, nodes_below, IsNode, root_least}
use Rattle.frozen_nodes.proofs.MadeLemmas.{made-balance}
use Rattle.store_api.specs.Parts.{times}
use Rattle.frozen_nodes.specs.Makes.{MakesNode}
use Rattle.tree_read.specs.Slots.{slot_pairs, slot_nodes, IsInHand}
use Rattle.frozen_nodes.specs.declared.make.MadeNode.{MadeNode}
use Rattle.frozen_nodes.proofs.MakesLemmas.{makes-none}
use Rattle.tree_read.proofs.SlotLemmas.{hand-children, slot_pairs-inner, slot_nodes-inner}
use Rattle.frozen_nodes.specs.Parts.{AreParts}
use Rattle.frozen_btree.specs.Inserts.{IsRootOver}
use Rattle.frozen_nodes.specs.declared.parts.Parts.TheVariants.{One, Two}

-- one part is the root
pub one_root : {H : Type 0} (old : Ledger H) (m : Records) (level : ℕ) (part : MadeNode) (pairs : List (ℕ × ℕ)) → level ≤ 7 → AreParts m (root_least level) level (One part) pairs
    → IsRootOver old old m m level (One part) part.node
one_root old m level part pairs low parts = record {
  height = level;
  low = low;
  some = parts.some.0;
  node = parts.nodes.0;
  pairs = sym (append-nil (pairs_below m level part.node));
  makes = makes-none old m 1;
  balance = λ q. let same : times q (nodes_below m level part.node ++ []) ≡ times q (nodes_below m level part.node) = ap (times q) (append-nil (nodes_below m level part.node)) in omega arith;
}

-- a root over two
module _ (m : Records) (least level : ℕ) (first second : MadeNode) (pairs : List (ℕ × ℕ)) (parts : AreParts m least level (Two first second) pairs)
    (ks vs : List ℕ) (keys : ks ≡ first.key ∷ second.key ∷ []) (values : vs ≡ first.node ∷ second.node ∷ []) where
  upper-hand : IsInHand m (suc level) ks vs
  upper-hand =
      subst (λ k. IsInHand m (suc level) k vs) (sym keys) (subst (λ v. IsInHand m (suc level) (first.key ∷ second.key ∷ []) v) (sym values)
      (hand-children m level (first.key ∷ second.key ∷ []) (first.node ∷ second.node ∷ []) parts.keys parts.nodes))

  pub two-hand : IsInHand m (level + 1) ks vs
  two-hand = subst (λ l. IsInHand m l ks vs) (let e : suc level ≡ level + 1 = omega arith in e) upper-hand

  upper-pairs : slot_pairs m (suc level) ks vs ≡ flat_map (pairs_below m level) (first.node ∷ second.node ∷ [])
  upper-pairs = slot_pairs-inner m level ks vs ∙ ap (flat_map (pairs_below m level)) values

  pub two-few : length (flat_map (pairs_below m level) (first.node ∷ second.node ∷ [])) < 2 ^ 32 → length (slot_pairs m (level + 1) ks vs) < 2 ^ 32
  two-few small =
      subst (λ l. length (slot_pairs m l ks vs) < 2 ^ 32) (let e : suc level ≡ level + 1 = omega arith in e)
      (subst (λ ps. length ps < 2 ^ 32) (sym upper-pairs) small)

  pub two_root : {H : Type 0} (old new : Ledger H) (n : Records) (root : ℕ) → level < 7 → MakesNode old new m n (level + 1) ks vs root → IsRootOver old new m n level (Two first second) root
  two_root old new n root low made =
      let up : MakesNode old new m n (suc level) ks vs root = subst (λ l. MakesNode old new m n l ks vs root) (let e : level + 1 ≡ suc level = omega arith in e) made in
      record {
        height = suc level;
        low = omega arith;
        some = up.some;
        node = subst (λ k. IsNode n k (suc level) root) (ap length keys) up.node;
        pairs = up.pairs ∙ upper-pairs;
        makes = up.makes;
        balance = λ q.
            let slots : times q (slot_nodes m (suc level) vs) ≡ times q (flat_map (nodes_below m level) (first.node ∷ second.node ∷ [])) =
            ap (times q) (slot_nodes-inner m level vs ∙ ap (flat_map (nodes_below m level)) values) in
            let all = made-balance old new m n (suc level) ks vs root up q in
            omega arith;
      }
