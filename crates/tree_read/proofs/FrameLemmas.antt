-- A place stays where the records of the tree's nodes stay.
use Rattle.std.proofs.Common.{◌≡◌, ℕ, zero, suc, ◌+◌, ◌<◌, min, List, [], ◌∷◌, ◌++◌, length, get_or, drop, refl, sym, ap, subst, ◌∙◌, arith, ltb, ltb-true, ltb-false, Bool, true, false}
use Rattle.std.specs.List.{flat_map}
use Rattle.entry_ref.specs.Records.{Records, SameAt}
use Rattle.tree_read.specs.Nodes.{level_of, used_of, node_values}
use Rattle.tree_read.specs.ProofsForTrees.{SameAt-left, SameAt-right, flat_map-same, pairs-same, node-same, IsRootNode-same}
use Rattle.tree_read.specs.Trees.{pairs_below, nodes_below, root_level, tree_nodes, IsNode}
use Rattle.tree_read.specs.Steps.{PathStep}
use Rattle.tree_read.specs.SearchPlaces.{CursorPlace, LeadsTo, pairs_behind, HasPair, pairs_from, IsInLeaf, IsAt}
use Rattle.tree_read.proofs.RootLemmas.{tree_nodes-at}
use Rattle.tree_read.proofs.ChildLemmas.{get_or-node_values, values-size}
use Rattle.tree_read.proofs.PlaceLemmas.{path-node, root_node, pairs_from-some, pairs_from-none}

SameAt-child : (m n : Records) (f : ℕ → List ℕ) (cs : List ℕ) (i : ℕ) → i < length cs → SameAt (flat_map f cs) m n → SameAt (f (get_or cs i 0)) m n
SameAt-child m n f [] i h same = absurd (omega arith)
SameAt-child m n f (c ∷ cs) zero h same = SameAt-left m n (f c) (flat_map f cs) same
SameAt-child m n f (c ∷ cs) (suc i) h same = SameAt-child m n f cs i (omega arith) (SameAt-right m n (f c) (flat_map f cs) same)

SameAt-drop : (m n : Records) (f : ℕ → List ℕ) (cs : List ℕ) (i : ℕ) → SameAt (flat_map f cs) m n → SameAt (flat_map f (drop i cs)) m n
SameAt-drop m n f [] zero same = tt
SameAt-drop m n f [] (suc i) same = tt
SameAt-drop m n f (c ∷ cs) zero same = same
SameAt-drop m n f (c ∷ cs) (suc i) same = SameAt-drop m n f cs i (SameAt-right m n (f c) (flat_map f cs) same)

children_same : (m n : Records) (level ref : ℕ) → SameAt (nodes_below m (suc level) ref) m n → SameAt (flat_map (nodes_below m level) (node_values (m ref))) m n
unfolding nodes_below
children_same m n level ref same = same.1

module _ (m n : Records) (top root : ℕ) (node : IsNode m 1 top root) (same : SameAt (nodes_below m top root) m n) where
  path_same : (path : List PathStep) (level ref : ℕ) → LeadsTo m top root path level ref → SameAt (nodes_below m level ref) m n
  path_same [] level ref leads = subst (λ l. SameAt (nodes_below m l ref) m n) (sym leads.0) (subst (λ q. SameAt (nodes_below m top q) m n) (sym leads.1) same)
  path_same (step ∷ path) level ref leads =
      let up = path_same path (suc level) step.node leads.2 in
      let size = values-size m 1 (suc level) level step.node refl (path-node m top root node path (suc level) step.node leads.2) in
      let low = leads.0 in
      let below = SameAt-child m n (nodes_below m level) (node_values (m step.node)) step.slot (omega arith) (children_same m n level step.node up) in
      subst (λ q. SameAt (nodes_below m level q) m n) (get_or-node_values (m step.node) step.slot leads.0 ∙ sym leads.1) below

  step_same : (step : PathStep) (path : List PathStep) (level : ℕ) → LeadsTo m top root path (suc level) step.node → n step.node ≡ m step.node
  step_same step path level leads = node-same m n (suc level) step.node (path_same path (suc level) step.node leads)

  leads_same : (path : List PathStep) (level ref : ℕ) → LeadsTo m top root path level ref → LeadsTo n top root path level ref
  leads_same [] level ref leads = leads
  leads_same (step ∷ path) level ref leads =
      let e = step_same step path level leads.2 in
      (subst (λ ws. step.slot < used_of ws) (sym e) leads.0, leads.1 ∙ ap (λ ws. get_or ws (18 + step.slot) 0) (sym e), leads_same path (suc level) step.node leads.2)

  behind_same : (path : List PathStep) (level ref : ℕ) → LeadsTo m top root path level ref → pairs_behind n level path ≡ pairs_behind m level path
  behind_same [] level ref leads = refl
  behind_same (step ∷ path) level ref leads =
      let vs = drop (suc step.slot) (node_values (m step.node)) in
      let up = path_same path (suc level) step.node leads.2 in
      let all = SameAt-drop m n (nodes_below m level) (node_values (m step.node)) (suc step.slot) (children_same m n level step.node up) in
      ap (λ ws. flat_map (pairs_below n level) (drop (suc step.slot) (node_values ws)) ++ pairs_behind n (suc level) path) (step_same step path level leads.2)
      ∙ ap (λ ps. ps ++ pairs_behind n (suc level) path) (flat_map-same m n (nodes_below m level) (pairs_below m level) (pairs_below n level) (pairs-same m n level) vs all)
      ∙ ap (λ ps. flat_map (pairs_below m level) vs ++ ps) (behind_same path (suc level) step.node leads.2)

module _ (m n : Records) (at : CursorPlace) (same : SameAt (tree_nodes m at.root) m n) where
  nodes_same : 0 < at.root → SameAt (nodes_below m (root_level m at.root) at.root) m n
  nodes_same some = subst (λ qs. SameAt qs m n) (tree_nodes-at m at.root some) same

  leaf_same : IsInLeaf m at → SameAt (nodes_below m 0 at.leaf) m n
  leaf_same it =
      let leads = it.leads in
      path_same m n (root_level m at.root) at.root (root_node m at.root leads.tree) (nodes_same leads.some) at.path 0 at.leaf
      (subst (λ l. LeadsTo m (root_level m at.root) at.root at.path l at.leaf) it.leaf leads.leads)

  in_leaf_same : IsInLeaf m at → IsInLeaf n at
  in_leaf_same it =
      let leads = it.leads in
      let e : n at.leaf ≡ m at.leaf = node-same m n 0 at.leaf (leaf_same it) in
      let r : n at.root ≡ m at.root = node-same m n (root_level m at.root) at.root (nodes_same leads.some) in
      record {
        leads = record {
          some = leads.some;
          tree = IsRootNode-same m n at.root same leads.some leads.tree;
          leads =
              subst (λ ws. LeadsTo n (min 7 (level_of ws)) at.root at.path (level_of (n at.leaf)) at.leaf) (sym r)
              (subst (λ ws. LeadsTo n (root_level m at.root) at.root at.path (level_of ws) at.leaf) (sym e)
              (leads_same m n (root_level m at.root) at.root (root_node m at.root leads.tree) (nodes_same leads.some) at.path (level_of (m at.leaf)) at.leaf leads.leads));
        };
        leaf = ap level_of e ∙ it.leaf;
        used = it.used ∙ ap used_of (sym e);
        words = it.words ∙ sym e;
      }

  pub at-same : IsAt m at → IsAt n at
  at-same is pair = in_leaf_same (is pair)

  pub pairs_from-same : IsAt m at → pairs_from n at ≡ pairs_from m at
  pairs_from-same is = decide (ltb at.slot at.used) refl
    where
      decide : (b : Bool) → ltb at.slot at.used ≡ b → pairs_from n at ≡ pairs_from m at
      decide true e =
          let pair : HasPair at = ltb-true at.slot at.used e in
          let it = is pair in
          let leads = it.leads in
          let flat = subst (λ l. LeadsTo m (root_level m at.root) at.root at.path l at.leaf) it.leaf leads.leads in
          pairs_from-some n at pair
          ∙ ap (λ ps. drop at.slot ps ++ pairs_behind n 0 at.path) (pairs-same m n 0 at.leaf (leaf_same it))
          ∙ ap (λ ps. drop at.slot (pairs_below m 0 at.leaf) ++ ps) (behind_same m n (root_level m at.root) at.root (root_node m at.root leads.tree) (nodes_same leads.some) at.path 0 at.leaf flat)
          ∙ sym (pairs_from-some m at pair)
      decide false e = pairs_from-none n at (ltb-false at.slot at.used e) ∙ sym (pairs_from-none m at (ltb-false at.slot at.used e))
