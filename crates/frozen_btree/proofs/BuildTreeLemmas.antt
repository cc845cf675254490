-- A tree's nodes dropped, child by child.
use Rattle.std.proofs.Common.{◌≡◌, ℕ, zero, suc, ◌+◌, ◌<◌, ◌≤◌, List, [], ◌∷◌, ◌++◌, length, get_or, take, drop, true, refl, sym, ap, subst, ◌∙◌, arith}
use Rattle.std.proofs.lemmas.Grind.{flat_map-append}
use Rattle.std.proofs.lemmas.List.{append-nil, take_more, take_all}
use Rattle.std.specs.List.{flat_map}
use Rattle.list_lemmas.proofs.Each.{AllByRecursion-at}
use Rattle.entry_ref.specs.Records.{Records, SameAt}
use Rattle.store_api.specs.Statuses.{in_use}
use Rattle.store_api.specs.Ledgers.{Ledger}
use Rattle.store_api.specs.Parts.{times, entries, Owns}
use Rattle.store_api.proofs.Counts.{at_most-then}
use Rattle.store_api.proofs.May.{may_do-then}
use Rattle.store_api.proofs.PartLemmas.{same_at, turns-as}
use Rattle.store_api.proofs.Times.{times-same, times-append, all_from_times, all_at_times}
use Rattle.store_api.proofs.Uses.{in-uses, uses-few}
use Rattle.tree_read.specs.ProofsForTrees.{nodes-same, IsNode-same}
use Rattle.tree_read.specs.Nodes.{node_values}
use Rattle.tree_read.specs.Trees.{nodes_below, tree_nodes, IsNode, IsRootNode, root_level, root_least}
use Rattle.tree_read.proofs.RootLemmas.{root_least-some, tree_nodes-at}
use Rattle.tree_read.specs.Keys.{KeepsOthers}
use Rattle.tree_read.proofs.PairLemmas.{children-cut}
use Rattle.tree_read.proofs.ChildLemmas.{IsNode-lower}
use Rattle.tree_read.proofs.ReadLemmas.{hand-read, inner-nodes}
use Rattle.tree_read.proofs.SlotLemmas.{child_nodes, nodes-slots, slot_nodes-leaf}
use Rattle.tree_read.specs.Nodes.{node_keys}
use Rattle.frozen_btree.specs.Changes.{DropsEntries, tree}
use Rattle.frozen_btree.proofs.ChangeLemmas.{tree-wide}

drops-append : {H : Type 0} (a b c : Ledger H) (m n o : Records) (xs ys : List ℕ) → DropsEntries a b m n xs → DropsEntries b c n o ys → DropsEntries a c m o (xs ++ ys)
drops-append a b c m n o xs ys first second = record {
  turns = record {
    kept = λ r h. let both = times-append r xs ys in let even = first.turns.balance r in second.turns.kept r (omega arith) ∙ first.turns.kept r (omega arith);
    balance = λ r. let both = times-append r xs ys in let even = first.turns.balance r in let more = second.turns.balance r in omega arith;
  };
  records = λ r none. let both = times-append r xs ys in second.records r (omega arith) ∙ first.records r (omega arith);
  none_made = λ c width. at_most-then c 0 0 _ _ _ (first.none_made c width) (second.none_made c width);
  may = may_do-then a b c first.may second.may;
}

drops-as : {H : Type 0} (a b : Ledger H) (m n : Records) (xs ys : List ℕ) → DropsEntries a b m n xs → ((r : ℕ) → times r ys ≡ times r xs) → DropsEntries a b m n ys
drops-as a b m n xs ys it same = record {
  turns = turns-as a b m n (entries xs ∷ []) [] (entries ys ∷ []) [] it.turns (λ r. let e = same r in omega arith) (λ r. refl);
  records = λ r none. let e = same r in it.records r (omega arith);
  none_made = it.none_made;
  may = it.may;
}

pub leaf-nodes : (m : Records) (node : ℕ) → nodes_below m 0 node ≡ node ∷ []
leaf-nodes m node = nodes-slots m 0 node ∙ ap (λ qs. node ∷ qs) (slot_nodes-leaf m (node_values (m node)))

-- a leaf is in use
pub leaf-used : {H : Type 0} (old : Ledger H) (m : Records) (node : ℕ) → Owns old m (entries (nodes_below m 0 node) ∷ []) → in_use (old.status node) ≡ true
leaf-used old m node owns = in-uses old node (let all = owns.each node in let same = ap (times node) (leaf-nodes m node) in let one = times-same node node [] refl in omega arith)

module _ {H : Type 0} (old : Ledger H) (m : Records) (l node : ℕ) (is : IsNode m 1 (suc l) node) (owns : Owns old m (entries (nodes_below m (suc l) node) ∷ [])) where
  all-times : (r : ℕ) → times r (nodes_below m (suc l) node) ≡ times r (node ∷ []) + times r (flat_map (nodes_below m l) (node_values (m node)))
  all-times r = ap (times r) (inner-nodes m l node) ∙ times-append r (node ∷ []) (flat_map (nodes_below m l) (node_values (m node)))

  module _ (ledger : Ledger H) (n : Records) (i : ℕ) (low : i < length (node_values (m node)))
      (before : DropsEntries old ledger m n (flat_map (nodes_below m l) (take i (node_values (m node))))) where
    cut-times : (r : ℕ) → times r (flat_map (nodes_below m l) (node_values (m node)))
        ≡ times r (flat_map (nodes_below m l) (take i (node_values (m node)))) +
        (times r (nodes_below m l (get_or (node_values (m node)) i 0)) + times r (flat_map (nodes_below m l) (drop (suc i) (node_values (m node)))))
    cut-times r =
        let vs = node_values (m node) in
        let g : ℕ → List ℕ = nodes_below m l in
        let one = times-append r (flat_map g (take i vs)) (g (get_or vs i 0) ++ flat_map g (drop (suc i) vs)) in
        let two = times-append r (g (get_or vs i 0)) (flat_map g (drop (suc i) vs)) in
        let all : times r (flat_map g vs) ≡ times r (flat_map g (take i vs) ++ (g (get_or vs i 0) ++ flat_map g (drop (suc i) vs))) = ap (times r) (children-cut g vs i low) in
        omega arith

    -- the child is as it was
    child-same : SameAt (nodes_below m l (get_or (node_values (m node)) i 0)) m n
    child-same =
        same_at m n (nodes_below m l (get_or (node_values (m node)) i 0)) (all_from_times (λ r. n r ≡ m r) (nodes_below m l (get_or (node_values (m node)) i 0)) (λ r some.
        let own = owns.each r in let few = uses-few old r in let all = all-times r in let cut = cut-times r in before.records r (omega arith)))

    child-was : IsNode m 8 l (get_or (node_values (m node)) i 0)
    child-was = AllByRecursion-at (IsNode m 8 l) (node_values (m node)) i 0 low (child_nodes m l (node_keys (m node)) (node_values (m node)) (hand-read m 1 (suc l) node is))

    pub child-is : IsNode n 1 l (get_or (node_values (m node)) i 0)
    child-is = IsNode-same m n 1 l (get_or (node_values (m node)) i 0) child-same (IsNode-lower m 8 1 l (get_or (node_values (m node)) i 0) (omega arith) child-was)

    child-nodes : nodes_below n l (get_or (node_values (m node)) i 0) ≡ nodes_below m l (get_or (node_values (m node)) i 0)
    child-nodes = nodes-same m n l (get_or (node_values (m node)) i 0) child-same

    pub child-owns : Owns ledger n (entries (nodes_below n l (get_or (node_values (m node)) i 0)) ∷ [])
    child-owns = record {
      each = λ r.
          let own = owns.each r in let all = all-times r in let cut = cut-times r in let even = before.turns.balance r in
          let same = ap (times r) child-nodes in
          omega arith;
    }

    pub child-dropped : (new : Ledger H) (o : Records) → DropsEntries ledger new n o (nodes_below n l (get_or (node_values (m node)) i 0))
        → DropsEntries old new m o (flat_map (nodes_below m l) (take (i + 1) (node_values (m node))))
    child-dropped new o drops =
        let vs = node_values (m node) in
        let g : ℕ → List ℕ = nodes_below m l in
        let both = drops-append old ledger new m n o (flat_map g (take i vs)) (g (get_or vs i 0)) before (subst (DropsEntries ledger new n o) child-nodes drops) in
        subst (DropsEntries old new m o)
        (ap (λ qs. flat_map g (take i vs) ++ qs) (sym (append-nil (g (get_or vs i 0))))
        ∙ sym (flat_map-append g (take i vs) (get_or vs i 0 ∷ [])) ∙ ap (flat_map g) (sym (take_more vs i 0 low))) both

  -- the node itself, behind all children
  module _ (ledger : Ledger H) (n : Records) (i : ℕ) (past : length (node_values (m node)) ≤ i)
      (before : DropsEntries old ledger m n (flat_map (nodes_below m l) (take i (node_values (m node))))) where
    children-gone : DropsEntries old ledger m n (flat_map (nodes_below m l) (node_values (m node)))
    children-gone = subst (λ vs. DropsEntries old ledger m n (flat_map (nodes_below m l) vs)) (take_all i (node_values (m node)) past) before

    pub node-used : in_use (ledger.status node) ≡ true
    node-used =
        in-uses ledger node
        (let own = owns.each node in let all = all-times node in let one = times-same node node [] refl in let even = children-gone.turns.balance node in omega arith)

    pub node-dropped : (new : Ledger H) (o : Records) → DropsEntries ledger new n o (node ∷ []) → DropsEntries old new m o (nodes_below m (suc l) node)
    node-dropped new o drops =
        let kids = flat_map (nodes_below m l) (node_values (m node)) in
        drops-as old new m o (kids ++ node ∷ []) (nodes_below m (suc l) node) (drops-append old ledger new m n o kids (node ∷ []) children-gone drops)
        (λ r. let all = all-times r in let both = times-append r kids (node ∷ []) in omega arith)

-- what is no node stays
pub drop-others : {H : Type 0} (old new : Ledger H) (m n : Records) (root : ℕ) → (0 < root → IsRootNode m root) → DropsEntries old new m n (tree_nodes m root) → KeepsOthers m n
drop-others old new m n root tree drops r other =
    drops.records r (none (times r (tree_nodes m root)) (λ some. other.width (all_at_times (λ q. length (m q) ≡ 34) (tree_nodes m root) (tree-wide m root tree) r some)))
  where
    none : (k : ℕ) → (0 < k → ⊥) → k ≡ 0
    none zero never = refl
    none (suc k) never = absurd (never (omega arith))

-- a tree's nodes are those below its root
module _ (m : Records) (root level : ℕ) (some : 0 < root) (is : level ≡ root_level m root) where
  pub top-nodes : nodes_below m level root ≡ tree_nodes m root
  top-nodes = ap (λ l. nodes_below m l root) is ∙ sym (tree_nodes-at m root some)

  pub top-node : IsRootNode m root → IsNode m 1 level root
  top-node node = subst (λ l. IsNode m 1 l root) (sym is) (IsNode-lower m (root_least (root_level m root)) 1 (root_level m root) root (root_least-some (root_level m root)) node)

  pub top-owns : {H : Type 0} (old : Ledger H) → Owns old m (tree root ∷ []) → Owns old m (entries (nodes_below m level root) ∷ [])
  top-owns old owns = record { each = λ r. let h = owns.each r in let e = ap (times r) top-nodes in omega arith }
