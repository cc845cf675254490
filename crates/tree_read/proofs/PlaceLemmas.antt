-- Places: how they move, and that they stay.
use Rattle.std.proofs.Common.{append_assoc, ◌≡◌, ◌≢◌, ℕ, zero, suc, ◌+◌, ◌-◌, ◌<◌, ◌≤◌, List, [], ◌∷◌, ◌++◌, length, get_or, drop, refl, sym, ap, subst, ◌∙◌, arith, if◌then◌else◌, nat_lt, lt-ltb, le-ltb, leb, leb-true}
use Rattle.std.proofs.Common.{leb-false, IsTrue, Bool, true, false}
use Rattle.std.specs.List.{flat_map, AllByRecursion}
use Rattle.entry_ref.specs.Records.{Records, word_at}
use Rattle.tree_read.specs.Nodes.{level_of, used_of, count_of, node_values}
use Rattle.tree_read.specs.Trees.{pairs_below, root_level, root_least, tree_pairs, IsNode, IsRootNode}
use Rattle.tree_read.proofs.TreeLemmas.{IsNode-form}
use Rattle.tree_read.specs.Steps.{PathStep}
use Rattle.tree_read.specs.SearchPlaces.{CursorPlace, LeadsTo, Leads, pairs_behind, HasPair, pairs_from, IsAt, first_key, first_value}
use Rattle.tree_read.proofs.ChildLemmas.{IsNode-lower, child-node, children, children-from, children-past, leaf-from, leaf-past}

-- what holds of each pair holds of the first
pub first_pair : (P : ℕ × ℕ → Type 0) (ps : List (ℕ × ℕ)) → ps ≢ [] → AllByRecursion P ps → P (first_key ps, first_value ps)
first_pair P [] some all = absurd (some refl)
first_pair P (p ∷ ps) some all = all.0

root_some : (level : ℕ) → 0 < root_least level
root_some zero = omega arith
root_some (suc level) = omega arith

-- a path's length and the level that it leads to make the root's level
pub path-length : (m : Records) (top root : ℕ) (path : List PathStep) (level ref : ℕ) → LeadsTo m top root path level ref → length path + level ≡ top
path-length m top root [] level ref leads = let e = leads.0 in omega arith
path-length m top root (step ∷ path) level ref leads = let e = path-length m top root path (suc level) step.node leads.2 in omega arith

-- what a path leads to is a node with a used slot
pub path-node : (m : Records) (top root : ℕ) → IsNode m 1 top root → (path : List PathStep) (level ref : ℕ) → LeadsTo m top root path level ref → IsNode m 1 level ref
path-node m top root node [] level ref leads = subst (λ l. IsNode m 1 l ref) (sym leads.0) (subst (IsNode m 1 top) (sym leads.1) node)
path-node m top root node (step ∷ path) level ref leads =
    let up = path-node m top root node path (suc level) step.node leads.2 in
    subst (IsNode m 1 level) (sym leads.1)
    (IsNode-lower m 8 1 level (word_at m step.node (18 + step.slot)) (omega arith) (child-node m 1 (suc level) level step.node refl up step.slot leads.0))

pub root_node : (m : Records) (root : ℕ) → IsRootNode m root → IsNode m 1 (root_level m root) root
root_node m root node = IsNode-lower m (root_least (root_level m root)) 1 (root_level m root) root (let s = root_some (root_level m root) in omega arith) node

pub leads-node : (m : Records) (root : ℕ) (path : List PathStep) (ref : ℕ) → Leads m root path ref → IsNode m 1 (level_of (m ref)) ref
leads-node m root path ref leads = path-node m (root_level m root) root (root_node m root leads.tree) path (level_of (m ref)) ref leads.leads

pub leads-length : (m : Records) (root : ℕ) (path : List PathStep) (ref : ℕ) → Leads m root path ref → length path + level_of (m ref) ≤ 7
leads-length m root path ref leads =
    let e = path-length m (root_level m root) root path (level_of (m ref)) ref leads.leads in omega arith

-- the root itself
pub leads-root : (m : Records) (root : ℕ) → 0 < root → IsRootNode m root → Leads m root [] root
leads-root m root some tree = record {
  some = some;
  tree = tree;
  leads = ((IsNode-form m (root_least (root_level m root)) (root_level m root) root tree).at_level, refl);
}

-- a tree's pairs
pub root_pairs : (m : Records) (root : ℕ) → 0 < root → IsRootNode m root → tree_pairs m root ≡ pairs_below m (level_of (m root)) root
root_pairs m zero some tree = absurd (omega arith)
root_pairs m (suc ref) some tree = ap (λ l. pairs_below m l (suc ref)) (sym (IsNode-form m (root_least (root_level m (suc ref))) (root_level m (suc ref)) (suc ref) tree).at_level)

module _ (m : Records) (root : ℕ) (path : List PathStep) (node slot child : ℕ) (leads : Leads m root path node) (above : 0 < level_of (m node)) (low : slot < used_of (m node))
    (is : child ≡ word_at m node (18 + slot)) where
  up : level_of (m node) ≡ suc (level_of (m node) - 1)
  up = omega arith

  here : IsNode m 1 (level_of (m node)) node
  here = leads-node m root path node leads

  child_is : IsNode m 8 (level_of (m node) - 1) child
  child_is = subst (IsNode m 8 (level_of (m node) - 1)) (sym is) (child-node m 1 (level_of (m node)) (level_of (m node) - 1) node up here slot low)

  pub child-level : level_of (m child) ≡ level_of (m node) - 1
  child-level = (IsNode-form m 8 (level_of (m node) - 1) child child_is).at_level

  -- one step down
  pub leads-child : Leads m root (record { node = node; slot = slot } ∷ path) child
  leads-child = record {
    some = leads.some;
    tree = leads.tree;
    leads = (low, is, subst (λ l. LeadsTo m (root_level m root) root path l node) (up ∙ ap suc (sym child-level)) leads.leads);
  }

  -- the pairs behind the child, with those of its level
  pub behind-child : (ps : List (ℕ × ℕ)) → ps ++ pairs_behind m (level_of (m child)) (record { node = node; slot = slot } ∷ path)
      ≡ (ps ++ flat_map (pairs_below m (level_of (m node) - 1)) (drop (suc slot) (node_values (m node)))) ++ pairs_behind m (level_of (m node)) path
  behind-child ps =
      let l = level_of (m node) - 1 in
      let vs = drop (suc slot) (node_values (m node)) in
      ap (λ k. ps ++ (flat_map (pairs_below m k) vs ++ pairs_behind m (suc k) path)) child-level
      ∙ ap (λ k. ps ++ (flat_map (pairs_below m l) vs ++ pairs_behind m k path)) (sym up)
      ∙ sym (append_assoc ps (flat_map (pairs_below m l) vs) (pairs_behind m (level_of (m node)) path))

  -- the pairs from the child on
  pub from-child : pairs_below m (level_of (m child)) child ++ pairs_behind m (level_of (m child)) (record { node = node; slot = slot } ∷ path)
      ≡ flat_map (pairs_below m (level_of (m node) - 1)) (drop slot (node_values (m node))) ++ pairs_behind m (level_of (m node)) path
  from-child =
      let l = level_of (m node) - 1 in
      behind-child (pairs_below m (level_of (m child)) child)
      ∙ ap (λ k. (pairs_below m k child ++ flat_map (pairs_below m l) (drop (suc slot) (node_values (m node)))) ++ pairs_behind m (level_of (m node)) path) child-level
      ∙ ap (λ q. (pairs_below m l q ++ flat_map (pairs_below m l) (drop (suc slot) (node_values (m node)))) ++ pairs_behind m (level_of (m node)) path) is
      ∙ ap (λ ps. ps ++ pairs_behind m (level_of (m node)) path) (sym (children-from m 1 (level_of (m node)) l node up here slot low))

-- at the first child
pub from-first : (m : Records) (root : ℕ) (path : List PathStep) (node child : ℕ) → Leads m root path node → 0 < level_of (m node) → child ≡ word_at m node 18
    → pairs_below m (level_of (m child)) child ++ pairs_behind m (level_of (m child)) (record { node = node; slot = 0 } ∷ path)
    ≡ pairs_below m (level_of (m node)) node ++ pairs_behind m (level_of (m node)) path
from-first m root path node child leads above is =
    let here = leads-node m root path node leads in
    from-child m root path node 0 child leads above (let f = (IsNode-form m 1 (level_of (m node)) node here).filled in omega arith) is
    ∙ ap (λ ps. ps ++ pairs_behind m (level_of (m node)) path) (sym (children m 1 (level_of (m node)) (level_of (m node) - 1) node (omega arith) here))

pub first-low : (m : Records) (root : ℕ) (path : List PathStep) (node : ℕ) → Leads m root path node → 0 < used_of (m node)
first-low m root path node leads = let f = (IsNode-form m 1 (level_of (m node)) node (leads-node m root path node leads)).filled in omega arith

-- what a step down needs of the node and of its child
pub step-size : (m : Records) (root : ℕ) (path : List PathStep) (node : ℕ) → Leads m root path node → length (m node) ≡ 34
step-size m root path node leads = (IsNode-form m 1 (level_of (m node)) node (leads-node m root path node leads)).size

pub step-room : (m : Records) (root : ℕ) (path : List PathStep) (node : ℕ) → Leads m root path node → used_of (m node) ≤ 16
step-room m root path node leads = (IsNode-form m 1 (level_of (m node)) node (leads-node m root path node leads)).room

pub step-child : (m : Records) (root : ℕ) (path : List PathStep) (node slot : ℕ) → Leads m root path node → 0 < level_of (m node) → slot < used_of (m node) → 0 < length (m (word_at m node (18 + slot)))
step-child m root path node slot leads above low =
    let size = step-size m root (record { node = node; slot = slot } ∷ path) (word_at m node (18 + slot)) (leads-child m root path node slot (word_at m node (18 + slot)) leads above low refl) in
    omega arith

-- a place before a pair
from_some : {A : Type 0} (slot used : ℕ) (xs : List A) → slot < used → (if nat_lt slot used then xs else []) ≡ xs
from_some slot used xs h = ap (λ b. if b then xs else []) (lt-ltb slot used h)

from_none : {A : Type 0} (slot used : ℕ) (xs : List A) → used ≤ slot → (if nat_lt slot used then xs else []) ≡ []
from_none slot used xs h = ap (λ b. if b then xs else []) (le-ltb slot used h)

pub pairs_from-some : (m : Records) (at : CursorPlace) → HasPair at → pairs_from m at ≡ drop at.slot (pairs_below m 0 at.leaf) ++ pairs_behind m 0 at.path
pairs_from-some m at h = from_some at.slot at.used (drop at.slot (pairs_below m 0 at.leaf) ++ pairs_behind m 0 at.path) h

pub pairs_from-none : (m : Records) (at : CursorPlace) → at.used ≤ at.slot → pairs_from m at ≡ []
pairs_from-none m at h = from_none at.slot at.used (drop at.slot (pairs_below m 0 at.leaf) ++ pairs_behind m 0 at.path) h

-- at a slot of a leaf
pub at-slot : (m : Records) (root : ℕ) (path : List PathStep) (leaf slot used : ℕ) (words : List ℕ) → level_of (m leaf) ≡ 0 → slot < used
    → pairs_from m (record { root = root; path = path; leaf = leaf; slot = slot; used = used; words = words })
    ≡ drop slot (pairs_below m (level_of (m leaf)) leaf) ++ pairs_behind m (level_of (m leaf)) path
at-slot m root path leaf slot used words low h =
    pairs_from-some m (record { root = root; path = path; leaf = leaf; slot = slot; used = used; words = words }) h
    ∙ ap (λ l. drop slot (pairs_below m l leaf) ++ pairs_behind m l path) (sym low)

pub at-first : (m : Records) (root : ℕ) (path : List PathStep) (leaf used : ℕ) (words : List ℕ) → Leads m root path leaf → level_of (m leaf) ≡ 0 → used ≡ used_of (m leaf)
    → pairs_from m (record { root = root; path = path; leaf = leaf; slot = 0; used = used; words = words }) ≡ pairs_below m (level_of (m leaf)) leaf ++ pairs_behind m (level_of (m leaf)) path
at-first m root path leaf used words leads low is = at-slot m root path leaf 0 used words low (let some = first-low m root path leaf leads in omega arith)

-- the way up from a leaf: the pairs behind a path that leads to some node
pub record Climbs (m : Records) (root : ℕ) (path : List PathStep) (rest : List (ℕ × ℕ)) : Type 0 where
  pub level : ℕ
  pub ref : ℕ
  pub some : 0 < root
  pub tree : IsRootNode m root
  pub leads : LeadsTo m (root_level m root) root path level ref
  pub pairs : pairs_behind m level path ≡ rest

pub climbs-from : (m : Records) (root : ℕ) (path : List PathStep) (leaf : ℕ) → Leads m root path leaf → level_of (m leaf) ≡ 0 → Climbs m root path (pairs_behind m 0 path)
climbs-from m root path leaf leads flat = record {
  level = level_of (m leaf);
  ref = leaf;
  some = leads.some;
  tree = leads.tree;
  leads = leads.leads;
  pairs = ap (λ l. pairs_behind m l path) flat;
}

module _ (m : Records) (root : ℕ) (step : PathStep) (path : List PathStep) (rest : List (ℕ × ℕ)) (it : Climbs m root (step ∷ path) rest) where
  step_node : IsNode m 1 (suc it.level) step.node
  step_node = path-node m (root_level m root) root (root_node m root it.tree) path (suc it.level) step.node it.leads.2

  step_level : level_of (m step.node) ≡ suc it.level
  step_level = (IsNode-form m 1 (suc it.level) step.node step_node).at_level

  pub climbs-above : 0 < level_of (m step.node)
  climbs-above = let e = step_level in omega arith

  pub climbs-low : step.slot < used_of (m step.node)
  climbs-low = it.leads.0

  pub climbs-leads : Leads m root path step.node
  climbs-leads = record {
    some = it.some;
    tree = it.tree;
    leads = subst (λ l. LeadsTo m (root_level m root) root path l step.node) (sym step_level) it.leads.2;
  }

  -- on to the next child
  pub climbs-child : (next child : ℕ) → next ≡ suc step.slot → next < used_of (m step.node) → child ≡ word_at m step.node (18 + next)
      → pairs_below m (level_of (m child)) child ++ pairs_behind m (level_of (m child)) (record { node = step.node; slot = next } ∷ path) ≡ rest
  climbs-child next child e low is =
      let up = step_level in
      let back : level_of (m step.node) - 1 ≡ it.level = omega arith in
      from-child m root path step.node next child climbs-leads climbs-above low is
      ∙ ap (λ l. flat_map (pairs_below m l) (drop next (node_values (m step.node))) ++ pairs_behind m (level_of (m step.node)) path) back
      ∙ ap (λ l. flat_map (pairs_below m it.level) (drop next (node_values (m step.node))) ++ pairs_behind m l path) step_level
      ∙ ap (λ i. flat_map (pairs_below m it.level) (drop i (node_values (m step.node))) ++ pairs_behind m (suc it.level) path) e
      ∙ it.pairs

  -- past the last child
  pub climbs-on : used_of (m step.node) ≤ suc step.slot → Climbs m root path rest
  climbs-on past = record {
    level = suc it.level;
    ref = step.node;
    some = it.some;
    tree = it.tree;
    leads = it.leads.2;
    pairs = ap (λ ps. ps ++ pairs_behind m (suc it.level) path) (sym (children-past m 1 (suc it.level) it.level step.node refl step_node (suc step.slot) past)) ∙ it.pairs;
  }

pub climbs-end : (m : Records) (root : ℕ) (rest : List (ℕ × ℕ)) → Climbs m root [] rest → rest ≡ []
climbs-end m root rest it = sym it.pairs

-- one pair on in a leaf, and from its last slot on
pub next-slot : (m : Records) (at : CursorPlace) (next : ℕ) → IsAt m at → HasPair at → next ≡ suc at.slot → next < at.used
    → pairs_from m (record { root = at.root; path = at.path; leaf = at.leaf; slot = next; used = at.used; words = at.words }) ≡ drop 1 (pairs_from m at)
next-slot m at next is pair e low =
    let leaf = is pair in
    let node = leads-node m at.root at.path at.leaf leaf.leads in
    let used = leaf.used in
    pairs_from-some m (record { root = at.root; path = at.path; leaf = at.leaf; slot = next; used = at.used; words = at.words }) low
    ∙ ap (λ i. drop i (pairs_below m 0 at.leaf) ++ pairs_behind m 0 at.path) e
    ∙ ap (λ ps. drop 1 (ps ++ pairs_behind m 0 at.path)) (sym (leaf-from m 1 (level_of (m at.leaf)) at.leaf leaf.leaf node at.slot (omega arith)))
    ∙ ap (drop 1) (sym (pairs_from-some m at pair))

pub next-behind : (m : Records) (at : CursorPlace) → IsAt m at → HasPair at → at.used ≤ suc at.slot → pairs_behind m 0 at.path ≡ drop 1 (pairs_from m at)
next-behind m at is pair past =
    let leaf = is pair in
    let node = leads-node m at.root at.path at.leaf leaf.leads in
    let used = leaf.used in
    ap (λ ps. ps ++ pairs_behind m 0 at.path) (sym (leaf-past m 1 (level_of (m at.leaf)) at.leaf leaf.leaf node (suc at.slot) (omega arith)))
    ∙ ap (λ ps. drop 1 (ps ++ pairs_behind m 0 at.path)) (sym (leaf-from m 1 (level_of (m at.leaf)) at.leaf leaf.leaf node at.slot (omega arith)))
    ∙ ap (drop 1) (sym (pairs_from-some m at pair))

-- the pair that follows
pub pair-first : (m : Records) (at : CursorPlace) → IsAt m at → HasPair at
    → pairs_from m at ≡ (word_at m at.leaf (2 + at.slot), word_at m at.leaf (18 + at.slot)) ∷ (drop (suc at.slot) (pairs_below m 0 at.leaf) ++ pairs_behind m 0 at.path)
pair-first m at is pair =
    let leaf = is pair in
    let node = leads-node m at.root at.path at.leaf leaf.leads in
    let used = leaf.used in
    pairs_from-some m at pair
    ∙ ap (λ ps. ps ++ pairs_behind m 0 at.path) (leaf-from m 1 (level_of (m at.leaf)) at.leaf leaf.leaf node at.slot (omega arith))

pub pair-low : (m : Records) (at : CursorPlace) → IsAt m at → HasPair at → at.slot < 16
pair-low m at is pair =
    let leaf = is pair in
    let used = leaf.used in
    let most = step-room m at.root at.path at.leaf leaf.leads in
    omega arith

-- by the words in hand
pub pair-key : (m : Records) (at : CursorPlace) → IsAt m at → HasPair at → get_or at.words (2 + at.slot) 0 ≡ first_key (pairs_from m at)
pair-key m at is pair = ap (λ ws. get_or ws (2 + at.slot) 0) (is pair).words ∙ sym (ap first_key (pair-first m at is pair))

pub pair-value : (m : Records) (at : CursorPlace) → IsAt m at → HasPair at → get_or at.words (18 + at.slot) 0 ≡ first_value (pairs_from m at)
pair-value m at is pair = ap (λ ws. get_or ws (18 + at.slot) 0) (is pair).words ∙ sym (ap first_value (pair-first m at is pair))

pub root-few : (m : Records) (root : ℕ) → 0 < root → IsRootNode m root → count_of (m root) < 4294967296
root-few m root some tree = (IsNode-form m (root_least (root_level m root)) (root_level m root) root tree).few

some_is_none : {A : Type 0} (x : A) (xs ys : List A) → ys ≡ x ∷ xs → ys ≡ [] → ⊥
some_is_none x xs ys e n = let size : length (x ∷ xs) ≡ 0 = ap length (sym e ∙ n) in grind (arith, size)

-- no pair follows just where no pairs do
pub end-pairs : (m : Records) (at : CursorPlace) → IsAt m at → (IsTrue (leb at.used at.slot) → pairs_from m at ≡ []) × (pairs_from m at ≡ [] → IsTrue (leb at.used at.slot))
end-pairs m at is = (λ past. pairs_from-none m at (leb-true at.used at.slot past), λ none. decide none (leb at.used at.slot) refl)
  where
    decide : pairs_from m at ≡ [] → (b : Bool) → leb at.used at.slot ≡ b → IsTrue (leb at.used at.slot)
    decide none true e = e
    decide none false e =
        let pair : HasPair at = leb-false at.used at.slot e in
        absurd (some_is_none (word_at m at.leaf (2 + at.slot), word_at m at.leaf (18 + at.slot)) (drop (suc at.slot) (pairs_below m 0 at.leaf) ++ pairs_behind m 0 at.path) (pairs_from m at)
        (pair-first m at is pair) none)
