-- How many pairs a tree can have, by the count of records of 34 words.
use Rattle.std.proofs.Common.{◌≡◌, ℕ, zero, suc, ◌*◌, ◌^◌, ◌≤◌, List, [], ◌∷◌, length, arith, length-append, nat_eq, suc-mul}
use Rattle.std.proofs.lemmas.List.Elements.{All-from_recursion}
use Rattle.std.specs.Cmp.{IsTotalOrder}
use Rattle.std.specs.List.{zip, flat_map, All, AllByRecursion, IsDistinct}
use Rattle.std.specs.declared.cmp.Ordering.{Ordering}
use Rattle.list_lemmas.proofs.Each.{AllByRecursion-append}
use Rattle.entry_ref.specs.Records.{Records}
use Rattle.tree_read.proofs.DistinctLemmas.{tree_nodes_distinct}
use Rattle.tree_read.proofs.TreeLemmas.{length-node_keys, pairs_many}
use Rattle.tree_read.specs.Nodes.{node_keys, node_values}
use Rattle.tree_read.specs.Trees.{pairs_below, nodes_below, IsNode, root_level, root_least, tree_pairs, tree_nodes, IsTree}

length-zip-le : (ks vs : List ℕ) → length (zip ks vs) ≤ length ks
length-zip-le [] vs = omega arith
length-zip-le (k ∷ ks) [] = omega arith
length-zip-le (k ∷ ks) (v ∷ vs) = let rest = length-zip-le ks vs in omega arith

module _ (m : Records) where
  children_fit : (level : ℕ) → ((c : ℕ) → IsNode m 8 level c → length (pairs_below m level c) ≤ 16 * length (nodes_below m level c))
      → (cs : List ℕ) → AllByRecursion (IsNode m 8 level) cs → length (flat_map (pairs_below m level) cs) ≤ 16 * length (flat_map (nodes_below m level) cs)
  children_fit level each [] all = omega arith
  children_fit level each (c ∷ cs) all =
      let here = each c all.0 in
      let rest = children_fit level each cs all.1 in
      simp length-append (omega arith)

  -- each node has at most 16 pairs
  pub pairs_fit : (least level ref : ℕ) → IsNode m least level ref → length (pairs_below m level ref) ≤ 16 * length (nodes_below m level ref)
  unfolding IsNode pairs_below nodes_below
  pairs_fit least zero ref node =
      let keys = length-node_keys 0 least (m ref) node.0 in
      let few = length-zip-le (node_keys (m ref)) (node_values (m ref)) in
      let room = node.0.room in
      omega arith
  pairs_fit least (suc level) ref node =
      let below = children_fit level (pairs_fit 8 level) (node_values (m ref)) node.3 in
      omega arith

  children_wide : (level : ℕ) → ((c : ℕ) → IsNode m 8 level c → AllByRecursion (λ q. length (m q) ≡ 34) (nodes_below m level c))
      → (cs : List ℕ) → AllByRecursion (IsNode m 8 level) cs → AllByRecursion (λ q. length (m q) ≡ 34) (flat_map (nodes_below m level) cs)
  children_wide level each [] all = tt
  children_wide level each (c ∷ cs) all =
      AllByRecursion-append (λ q. length (m q) ≡ 34) (nodes_below m level c) (flat_map (nodes_below m level) cs) (each c all.0) (children_wide level each cs all.1)

  -- each node is a record of 34 words
  pub nodes_wide : (least level ref : ℕ) → IsNode m least level ref → AllByRecursion (λ q. length (m q) ≡ 34) (nodes_below m level ref)
  unfolding IsNode nodes_below
  nodes_wide least zero ref node = (node.0.size, tt)
  nodes_wide least (suc level) ref node = (node.0.size, children_wide level (nodes_wide 8 level) (node_values (m ref)) node.3)

  -- nodes of one level have many pairs
  pub children_many : (level : ℕ) (cs : List ℕ) → AllByRecursion (IsNode m 8 level) cs → length cs * (8 * 8 ^ level) ≤ length (flat_map (pairs_below m level) cs)
  children_many level [] all = omega arith
  children_many level (c ∷ cs) all =
      let here = pairs_many m 8 level c all.0 in
      let rest = children_many level cs all.1 in
      simp length-append (omega (arith, suc-mul (length cs) (8 * 8 ^ level)))

  -- at most 15 nodes of level 6 in a list of so many pairs
  pub few_at_top : (cs : List ℕ) → AllByRecursion (IsNode m 8 6) cs → length (flat_map (pairs_below m 6) cs) ≤ 31580641 → length cs ≤ 15
  few_at_top cs all few =
      let many : length cs * 2097152 ≤ length (flat_map (pairs_below m 6) cs) = children_many 6 cs all in
      omega arith

  -- a tree's pairs are few, where the records of 34 words are
  pub tree_small : {V : Type 0} (order : V → V → Ordering) → IsTotalOrder order → (read : Records → ℕ → V) (root : ℕ) → IsTree order read m root
      → ((refs : List ℕ) → IsDistinct nat_eq refs → All (λ r. length (m r) ≡ 34) refs → length refs ≤ 1973790)
      → length (tree_pairs m root) ≤ 31580640
  tree_small order total read zero tree few = omega arith
  tree_small order total read (suc ref) tree few =
      let node = tree.node (omega arith) in
      let level = root_level m (suc ref) in
      let least = root_least level in
      let wide = All-from_recursion (λ r. length (m r) ≡ 34) (nodes_below m level (suc ref)) (nodes_wide least level (suc ref) node) in
      let nodes = few (tree_nodes m (suc ref)) (tree_nodes_distinct order total read m (suc ref) tree) wide in
      let fit = pairs_fit least level (suc ref) node in
      omega arith
