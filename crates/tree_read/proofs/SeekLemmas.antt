-- The way down to the place of a key.
use Rattle.std.proofs.Common.{◌≡◌, ◌≢◌, ℕ, zero, suc, ◌+◌, ◌-◌, ◌<◌, ◌≤◌, List, [], ◌∷◌, ◌++◌, length, get_or, take, drop, map, refl, sym, ap, subst, ◌∙◌, arith, None, Some}
use Rattle.std.proofs.lemmas.List.{append-nil, take_all}
use Rattle.std.specs.Cmp.{IsTotalOrder}
use Rattle.std.specs.declared.cmp.Ordering.{Ordering}
use Rattle.std.specs.declared.cmp.Ordering.TheVariants.{Less, Equal, Greater}
use Rattle.std.specs.List.{zip, flat_map, AllByRecursion}
use Rattle.std.specs.List.Sorted.{IsStrictlySortedBy}
use Rattle.entry_ref.specs.Records.{Records, word_at}
use Rattle.tree_read.specs.Nodes.{level_of, used_of, node_keys, node_values}
use Rattle.tree_read.specs.Trees.{pairs_below, last_key, tree_pairs, IsNode, IsRootNode}
use Rattle.tree_read.proofs.TreeLemmas.{IsNode-form, length-node_keys, leaf_pairs}
use Rattle.tree_read.specs.Keys.{AllBelow}
use Rattle.tree_read.specs.Pairs.{choose, lookup_pair, seek}
use Rattle.tree_read.proofs.PairLemmas.{seek-below, lookup_pair-below, lookup_pair-skip, lookup_pair-stop}
use Rattle.tree_read.specs.Steps.{PathStep}
use Rattle.tree_read.specs.SearchPlaces.{Leads, pairs_behind, pairs_from}
use Rattle.tree_read.specs.NodePlaces.{IsSlot, IsFound, IsLacking}
use Rattle.tree_read.proofs.ReadLemmas.{node-even}
use Rattle.tree_read.proofs.ChildLemmas.{keys-length, All-last, get_or-node_keys, get_or-node_values, children, children-at, values-size, child-node, child-last, child-all, child-ascends, front-below}
use Rattle.tree_read.proofs.ChildLemmas.{child-seek, leaf-seek, pairs-some}
use Rattle.tree_read.proofs.PlaceLemmas.{leads-node, leads-root, leads-child, child-level, behind-child, root_pairs, at-slot}

-- the first slot whose key is not below the one sought, by the words of a node
pub record IsFirstSlot (c : ℕ → Ordering) (ws : List ℕ) (slot : ℕ) : Type 0 where
  pub within : slot ≤ used_of ws
  pub before : (j : ℕ) → j < slot → c (get_or ws (2 + j) 0) ≡ Less
  pub at : slot < used_of ws → c (get_or ws (2 + slot) 0) ≢ Less

pub first-words : (c : ℕ → Ordering) (m : Records) (least level ref slot : ℕ) → IsNode m least level ref → IsSlot c (node_keys (m ref)) slot → IsFirstSlot c (m ref) slot
first-words c m least level ref slot node is =
    let size = keys-length m least level ref node in
    let within = is.within in
    record {
      within = omega arith;
      before = λ j h. ap c (sym (get_or-node_keys (m ref) j (omega arith))) ∙ is.before j h;
      at = λ low e. is.at (omega arith) (ap c (get_or-node_keys (m ref) slot low) ∙ e);
    }

zip-below : (c : ℕ → Ordering) (ks vs : List ℕ) → ((j : ℕ) → j < length ks → c (get_or ks j 0) ≡ Less) → AllBelow c (zip ks vs)
zip-below c [] vs before = tt
zip-below c (k ∷ ks) [] before = tt
zip-below c (k ∷ ks) (v ∷ vs) before = (before 0 (omega arith), zip-below c ks vs (λ j h. before (suc j) (omega arith)))

module _ {V : Type 0} (order : V → V → Ordering) (total : IsTotalOrder order) (reads : ℕ → V) (s : V) (m : Records) where
  -- where the keys of all slots are below, all pairs are
  pub all-below : (least level ref : ℕ) → IsNode m least level ref → IsStrictlySortedBy order (map (λ p. reads p.0) (pairs_below m level ref))
      → ((j : ℕ) → j < used_of (m ref) → order (reads (word_at m ref (2 + j))) s ≡ Less) → AllBelow (λ k. order (reads k) s) (pairs_below m level ref)
  all-below least zero ref node up before =
      let size = length-node_keys 0 least (m ref) (IsNode-form m least 0 ref node) in
      subst (AllBelow (λ k. order (reads k) s)) (sym (leaf_pairs m ref))
      (zip-below (λ k. order (reads k) s) (node_keys (m ref)) (node_values (m ref))
      (λ j h. ap (λ k. order (reads k) s) (get_or-node_keys (m ref) j (omega arith)) ∙ before j (omega arith)))
  all-below least (suc level) ref node up before =
      let size = values-size m least (suc level) level ref refl node in
      subst (AllBelow (λ k. order (reads k) s)) (sym (children m least (suc level) level ref refl node))
      (subst (λ vs. AllBelow (λ k. order (reads k) s) (flat_map (pairs_below m level) vs)) (take_all (used_of (m ref)) (node_values (m ref)) (omega arith))
      (front-below m least (suc level) level ref refl node order reads up total s (used_of (m ref)) (omega arith) before))

  -- the key is sought below a node that a path leads to
  pub record Sought (can : ℕ → Type 0) (whole : List (ℕ × ℕ)) (root : ℕ) (path : List PathStep) (node slot : ℕ) : Type 0 where
    pub leads : Leads m root path node
    pub up : IsStrictlySortedBy order (map (λ p. reads p.0) (pairs_below m (level_of (m node)) node))
    pub readable : AllByRecursion (λ p. can p.0) (pairs_below m (level_of (m node)) node)
    pub first : IsFirstSlot (λ k. order (reads k) s) (m node) slot
    pub low : slot < used_of (m node)
    pub found : seek (λ k. order (reads k) s) (pairs_below m (level_of (m node)) node) ++ pairs_behind m (level_of (m node)) path ≡ seek (λ k. order (reads k) s) whole

  module _ (can : ℕ → Type 0) (root : ℕ) (some : 0 < root) (tree : IsRootNode m root) (up : IsStrictlySortedBy order (map (λ p. reads p.0) (tree_pairs m root)))
      (readable : AllByRecursion (λ p. can p.0) (tree_pairs m root)) where
    pub root-up : IsStrictlySortedBy order (map (λ p. reads p.0) (pairs_below m (level_of (m root)) root))
    root-up = subst (λ ps. IsStrictlySortedBy order (map (λ (p : ℕ × ℕ). reads p.0) ps)) (root_pairs m root some tree) up

    pub root-readable : AllByRecursion (λ p. can p.0) (pairs_below m (level_of (m root)) root)
    root-readable = subst (AllByRecursion (λ (p : ℕ × ℕ). can p.0)) (root_pairs m root some tree) readable

    pub sought-root : (slot : ℕ) → IsFirstSlot (λ k. order (reads k) s) (m root) slot → slot < used_of (m root) → Sought can (tree_pairs m root) root [] root slot
    sought-root slot first low = record {
      leads = leads-root m root some tree;
      up = root-up;
      readable = root-readable;
      first = first;
      low = low;
      found = append-nil (seek (λ k. order (reads k) s) (pairs_below m (level_of (m root)) root)) ∙ ap (seek (λ k. order (reads k) s)) (sym (root_pairs m root some tree));
    }

    -- all keys are below
    pub sought-past : (slot : ℕ) → IsFirstSlot (λ k. order (reads k) s) (m root) slot → used_of (m root) ≤ slot → seek (λ k. order (reads k) s) (tree_pairs m root) ≡ []
    sought-past slot first past =
        ap (seek (λ k. order (reads k) s)) (root_pairs m root some tree)
        ∙ seek-below (λ k. order (reads k) s) (pairs_below m (level_of (m root)) root)
        (all-below 1 (level_of (m root)) root (leads-node m root [] root (leads-root m root some tree)) root-up (λ j h. first.before j (omega arith)))

  module _ (can : ℕ → Type 0) (whole : List (ℕ × ℕ)) (root : ℕ) (path : List PathStep) (node slot : ℕ) (it : Sought can whole root path node slot) where
    module _ (above : 0 < level_of (m node)) (child : ℕ) (is : child ≡ word_at m node (18 + slot)) where
      l : ℕ
      l = level_of (m node) - 1

      here : IsNode m 1 (level_of (m node)) node
      here = leads-node m root path node it.leads

      higher : level_of (m node) ≡ suc (level_of (m node) - 1)
      higher = omega arith

      below : level_of (m child) ≡ level_of (m node) - 1
      below = child-level m root path node slot child it.leads above it.low is

      child-up : IsStrictlySortedBy order (map (λ p. reads p.0) (pairs_below m (level_of (m child)) child))
      child-up =
          subst (λ k. IsStrictlySortedBy order (map (λ (p : ℕ × ℕ). reads p.0) (pairs_below m k child))) (sym below)
          (subst (λ q. IsStrictlySortedBy order (map (λ (p : ℕ × ℕ). reads p.0) (pairs_below m (level_of (m node) - 1) q))) (sym is)
          (child-ascends m 1 (level_of (m node)) (level_of (m node) - 1) node higher here order reads it.up slot it.low))

      pub sought-readable : AllByRecursion (λ p. can p.0) (pairs_below m (level_of (m child)) child)
      sought-readable =
          subst (λ k. AllByRecursion (λ (p : ℕ × ℕ). can p.0) (pairs_below m k child)) (sym below)
          (subst (λ q. AllByRecursion (λ (p : ℕ × ℕ). can p.0) (pairs_below m (level_of (m node) - 1) q)) (sym is)
          (child-all m 1 (level_of (m node)) (level_of (m node) - 1) node higher here (λ (p : ℕ × ℕ). can p.0) it.readable slot it.low))

      sought-leads : Leads m root (record { node = node; slot = slot } ∷ path) child
      sought-leads = leads-child m root path node slot child it.leads above it.low is

      pub sought-node : IsNode m 1 (level_of (m child)) child
      sought-node = leads-node m root (record { node = node; slot = slot } ∷ path) child sought-leads

      -- the child's last key is not below, so a slot of it is found
      sought-low : (next : ℕ) → IsFirstSlot (λ k. order (reads k) s) (m child) next → used_of (m child) ≤ next → ⊥
      sought-low next first past =
          let all = all-below 1 (level_of (m child)) child sought-node child-up (λ j h. first.before j (omega arith)) in
          let last = All-last (λ k. order (reads k) s ≡ Less) (pairs_below m (level_of (m child)) child) (pairs-some m 1 (level_of (m child)) child (omega arith) sought-node) all in
          it.first.at it.low
          (ap (λ k. order (reads k) s) (child-last m 1 (level_of (m node)) (level_of (m node) - 1) node higher here slot it.low)
          ∙ ap (λ q. order (reads (last_key (pairs_below m (level_of (m node) - 1) q))) s) (sym is)
          ∙ ap (λ k. order (reads (last_key (pairs_below m k child))) s) (sym below) ∙ last)

      pub sought-child : (next : ℕ) → IsFirstSlot (λ k. order (reads k) s) (m child) next → Sought can whole root (record { node = node; slot = slot } ∷ path) child next
      sought-child next first = record {
        leads = sought-leads;
        up = child-up;
        readable = sought-readable;
        first = first;
        low = low_or (sought-low next first);
        found =
            behind-child m root path node slot child it.leads above it.low is (seek (λ k. order (reads k) s) (pairs_below m (level_of (m child)) child))
            ∙ ap (λ ps. ps ++ pairs_behind m (level_of (m node)) path)
            (ap (λ k. seek (λ n. order (reads n) s) (pairs_below m k child) ++ flat_map (pairs_below m (level_of (m node) - 1)) (drop (suc slot) (node_values (m node)))) below
            ∙ ap (λ q. seek (λ n. order (reads n) s) (pairs_below m (level_of (m node) - 1) q) ++ flat_map (pairs_below m (level_of (m node) - 1)) (drop (suc slot) (node_values (m node)))) is
            ∙ sym (child-seek m 1 (level_of (m node)) (level_of (m node) - 1) node higher here order reads it.up total s slot it.low it.first.before (it.first.at it.low)))
            ∙ it.found;
      }
        where
          low_or : (used_of (m child) ≤ next → ⊥) → next < used_of (m child)
          low_or never = grind (arith, never)

    -- at a leaf
    pub sought-leaf : level_of (m node) ≡ 0 → (used : ℕ) (words : List ℕ) → used ≡ used_of (m node)
        → pairs_from m (record { root = root; path = path; leaf = node; slot = slot; used = used; words = words }) ≡ seek (λ k. order (reads k) s) whole
    sought-leaf flat used words is =
        let low = it.low in
        let node_is = leads-node m root path node it.leads in
        at-slot m root path node slot used words flat (omega arith)
        ∙ ap (λ ps. ps ++ pairs_behind m (level_of (m node)) path)
        (ap (λ l. drop slot (pairs_below m l node)) flat
        ∙ sym (leaf-seek m 1 (level_of (m node)) node flat node_is (λ k. order (reads k) s) slot it.first.within it.first.before it.first.at)
        ∙ ap (λ l. seek (λ k. order (reads k) s) (pairs_below m l node)) (sym flat))
        ∙ it.found

-- the pair at a key
module _ (c : ℕ → Ordering) where
  zip-found : (ks vs : List ℕ) (i : ℕ) → length vs ≡ length ks → i < length ks → ((j : ℕ) → j < i → c (get_or ks j 0) ≡ Less) → c (get_or ks i 0) ≡ Equal
      → lookup_pair c (zip ks vs) ≡ Some (get_or ks i 0, get_or vs i 0)
  zip-found [] vs i e h before at = absurd (omega arith)
  zip-found (k ∷ ks) [] i e h before at = absurd (omega arith)
  zip-found (k ∷ ks) (v ∷ vs) zero e h before at = ap (λ o. choose o (lookup_pair c (zip ks vs)) (Some (k, v)) None) at
  zip-found (k ∷ ks) (v ∷ vs) (suc i) e h before at =
      ap (λ o. choose o (lookup_pair c (zip ks vs)) (Some (k, v)) None) (before 0 (omega arith))
      ∙ zip-found ks vs i (omega arith) (omega arith) (λ j g. before (suc j) (omega arith)) at

  zip-lacking : (ks vs : List ℕ) (i : ℕ) → length vs ≡ length ks → i < length ks → ((j : ℕ) → j < i → c (get_or ks j 0) ≡ Less) → c (get_or ks i 0) ≡ Greater
      → lookup_pair c (zip ks vs) ≡ None
  zip-lacking [] vs i e h before at = absurd (omega arith)
  zip-lacking (k ∷ ks) [] i e h before at = absurd (omega arith)
  zip-lacking (k ∷ ks) (v ∷ vs) zero e h before at = ap (λ o. choose o (lookup_pair c (zip ks vs)) (Some (k, v)) None) at
  zip-lacking (k ∷ ks) (v ∷ vs) (suc i) e h before at =
      ap (λ o. choose o (lookup_pair c (zip ks vs)) (Some (k, v)) None) (before 0 (omega arith))
      ∙ zip-lacking ks vs i (omega arith) (omega arith) (λ j g. before (suc j) (omega arith)) at

  module _ (m : Records) (node slot : ℕ) (is : IsNode m 1 0 node) (at : IsSlot c (node_keys (m node)) slot) (low : slot < used_of (m node)) where
    even : length (node_values (m node)) ≡ length (node_keys (m node))
    even = sym (node-even m 1 0 node is)

    inside : slot < length (node_keys (m node))
    inside = let size = keys-length m 1 0 node is in omega arith

    pub leaf-found : IsFound c (node_keys (m node)) slot
        → Some (get_or (m node) (2 + slot) 0, get_or (m node) (18 + slot) 0) ≡ lookup_pair c (pairs_below m 0 node)
    leaf-found found =
        sym (ap (lookup_pair c) (leaf_pairs m node) ∙ zip-found (node_keys (m node)) (node_values (m node)) slot even inside at.before found.equal
        ∙ ap (λ k. Some (k, get_or (node_values (m node)) slot 0)) (get_or-node_keys (m node) slot low)
        ∙ ap (λ v. Some (get_or (m node) (2 + slot) 0, v)) (get_or-node_values (m node) slot low))

    pub leaf-lacking : IsLacking c (node_keys (m node)) slot → None ≡ lookup_pair c (pairs_below m 0 node)
    leaf-lacking lacking =
        sym (ap (lookup_pair c) (leaf_pairs m node) ∙ zip-lacking (node_keys (m node)) (node_values (m node)) slot even inside at.before (lacking.above inside))

module _ {V : Type 0} (order : V → V → Ordering) (total : IsTotalOrder order) (reads : ℕ → V) (s : V) (m : Records) (level node slot : ℕ)
    (is : IsNode m 1 level node) (up : IsStrictlySortedBy order (map (λ p. reads p.0) (pairs_below m level node)))
    (at : IsSlot (λ k. order (reads k) s) (node_keys (m node)) slot) where
  first : IsFirstSlot (λ k. order (reads k) s) (m node) slot
  first = first-words (λ k. order (reads k) s) m 1 level node slot is at

  pub past-none : used_of (m node) ≤ slot → None ≡ lookup_pair (λ k. order (reads k) s) (pairs_below m level node)
  past-none past = sym (lookup_pair-below (λ k. order (reads k) s) (pairs_below m level node) (all-below order total reads s m 1 level node is up (λ j h. first.before j (omega arith))))

  -- above the leaves it is the one below the child
  pub child-pair : (l : ℕ) → level ≡ suc l → slot < used_of (m node)
      → lookup_pair (λ k. order (reads k) s) (pairs_below m level node) ≡ lookup_pair (λ k. order (reads k) s) (pairs_below m l (word_at m node (18 + slot)))
  child-pair l above low =
      let c : ℕ → Ordering = λ k. order (reads k) s in
      let child = pairs_below m l (word_at m node (18 + slot)) in
      let behind = flat_map (pairs_below m l) (drop (suc slot) (node_values (m node))) in
      ap (lookup_pair c) (children-at m 1 level l node above is slot low)
      ∙ lookup_pair-skip c (flat_map (pairs_below m l) (take slot (node_values (m node)))) (child ++ behind)
      (front-below m 1 level l node above is order reads up total s slot (omega arith) first.before)
      ∙ lookup_pair-stop c child behind (pairs-some m 8 l (word_at m node (18 + slot)) (omega arith) (child-node m 1 level l node above is slot low))
      (λ e. first.at low (ap c (child-last m 1 level l node above is slot low) ∙ e))
