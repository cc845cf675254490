-- A node stands on the way to each key below it.
use Rattle.std.proofs.Common.{◌≡◌, ◌≢◌, ℕ, zero, suc, ◌<◌, List, [], ◌∷◌, ◌++◌, map, length, Less, Equal, Greater, is_lt, true≢false, inl, inr, ◌⊎◌, refl, sym, ap, subst, ◌∙◌, arith}
use Rattle.std.proofs.lemmas.Cmp.{tied_itself}
use Rattle.std.specs.Cmp.{IsTotalOrder}
use Rattle.std.specs.declared.cmp.Ordering.{Ordering}
use Rattle.std.specs.List.{flat_map, AllByRecursion}
use Rattle.std.specs.List.Sorted.{IsStrictlySortedBy}
use Rattle.entry_ref.proofs.Among.{Among-all, Among-append}
use Rattle.entry_ref.specs.References.{buffer_of}
use Rattle.entry_ref.specs.Records.{Records, Among}
use Rattle.tree_read.specs.Pairs.{choose}
use Rattle.tree_read.proofs.TreeLemmas.{IsNode-form}
use Rattle.tree_read.specs.Nodes.{level_of, node_keys, node_values}
use Rattle.tree_read.specs.Trees.{last_key, nodes_below, pairs_below, root_least, root_level, HasLastKeys, IsNode}
use Rattle.tree_read.proofs.ChildLemmas.{pairs-some}
use Rattle.frozen_btree.specs.Paths.{child_of, path_below, path_nodes}
use Rattle.frozen_btree.specs.Ways.{keys_below, NodesHaveKeys, NodesStandOnWays, WaysHaveAllNodes}

abbrev pub keys : List (ℕ × ℕ) → List ℕ
keys ps = map (λ p. p.0) ps

-- ---- what is among keys and among nodes
pub keys_left : (k : ℕ) (xs ys : List (ℕ × ℕ)) → Among k (keys xs) → Among k (keys (xs ++ ys))
keys_left k [] ys among = absurd among
keys_left k (x ∷ xs) ys (inl e) = inl e
keys_left k (x ∷ xs) ys (inr later) = inr (keys_left k xs ys later)

pub keys_right : (k : ℕ) (xs ys : List (ℕ × ℕ)) → Among k (keys ys) → Among k (keys (xs ++ ys))
keys_right k [] ys among = among
keys_right k (x ∷ xs) ys among = inr (keys_right k xs ys among)

pub keys_flat : (f : ℕ → List (ℕ × ℕ)) (vs : List ℕ) (v k : ℕ) → Among v vs → Among k (keys (f v)) → Among k (keys (flat_map f vs))
keys_flat f [] v k there among = absurd there
keys_flat f (w ∷ vs) v k (inl e) among = keys_left k (f w) (flat_map f vs) (subst (λ x. Among k (keys (f x))) e among)
keys_flat f (w ∷ vs) v k (inr later) among = keys_right k (f w) (flat_map f vs) (keys_flat f vs v k later among)

-- what is below some child is below one of them
pub find_child : (f : ℕ → List ℕ) (vs : List ℕ) (r : ℕ) → Among r (flat_map f vs) → (v : ℕ) × Among v vs × Among r (f v)
find_child f [] r among = absurd among
find_child f (w ∷ vs) r among = told (λ behind. find_child f vs r behind) (Among-append r (f w) (flat_map f vs) among)
  where
    later : (v : ℕ) × Among v vs × Among r (f v) → (v : ℕ) × Among v (w ∷ vs) × Among r (f v)
    later found = (found.0, inr found.1, found.2)

    told : (Among r (flat_map f vs) → (v : ℕ) × Among v vs × Among r (f v)) → Among r (f w) ⊎ Among r (flat_map f vs) → (v : ℕ) × Among v (w ∷ vs) × Among r (f v)
    told more (inl here) = (w, inl refl, here)
    told more (inr behind) = later (more behind)

first_among : (ps : List (ℕ × ℕ)) → 0 < length ps → (k : ℕ) × Among k (keys ps)
first_among [] some = absurd (omega arith)
first_among (p ∷ ps) some = (p.0, inl refl)

last_among : (ps : List (ℕ × ℕ)) → 0 < length ps → Among (last_key ps) (keys ps)
last_among [] some = absurd (omega arith)
last_among (p ∷ []) some = inl refl
last_among (p ∷ q ∷ ps) some = inr (last_among (q ∷ ps) (omega arith))

pick : (o : Ordering) (a v : ℕ) → (o ≡ Less → ⊥) → choose o a v v ≡ v
pick Less a v no_less = absurd (no_less refl)
pick Equal a v no_less = refl
pick Greater a v no_less = refl

-- ---- keys that ascend
module _ {V : Type 0} (order : V → V → Ordering) (total : IsTotalOrder order) (reads : ℕ → V) where
  abbrev pub Up : List (ℕ × ℕ) → Type 0
  Up ps = IsStrictlySortedBy order (map (λ p. reads p.0) ps)

  not_below_itself : (k : ℕ) → order (reads k) (reads k) ≡ Less → ⊥
  not_below_itself k less = true≢false (ap is_lt (sym less ∙ tied_itself total (reads k)))

  above_at : (v : V) (ps : List (ℕ × ℕ)) → AllByRecursion (λ w. order v w ≡ Less) (map (λ p. reads p.0) ps) → (k : ℕ) → Among k (keys ps) → order v (reads k) ≡ Less
  above_at v [] all k among = absurd among
  above_at v (p ∷ ps) all k (inl e) = subst (λ x. order v (reads x) ≡ Less) (sym e) all.0
  above_at v (p ∷ ps) all k (inr later) = above_at v ps all.1 k later

  all_left : (P : V → Type 0) (xs ys : List (ℕ × ℕ)) → AllByRecursion P (map (λ p. reads p.0) (xs ++ ys)) → AllByRecursion P (map (λ p. reads p.0) xs)
  all_left P [] ys all = tt
  all_left P (x ∷ xs) ys all = (all.0, all_left P xs ys all.1)

  pub up_left : (xs ys : List (ℕ × ℕ)) → Up (xs ++ ys) → Up xs
  unfolding IsStrictlySortedBy
  up_left [] ys up = tt
  up_left (x ∷ xs) ys up = (all_left (λ w. order (reads x.0) w ≡ Less) xs ys up.0, up_left xs ys up.1)

  pub up_right : (xs ys : List (ℕ × ℕ)) → Up (xs ++ ys) → Up ys
  unfolding IsStrictlySortedBy
  up_right [] ys up = up
  up_right (x ∷ xs) ys up = up_right xs ys up.1

  pub up_child : (f : ℕ → List (ℕ × ℕ)) (vs : List ℕ) → Up (flat_map f vs) → (v : ℕ) → Among v vs → Up (f v)
  up_child f [] up v among = absurd among
  up_child f (w ∷ vs) up v (inl e) = subst (λ x. Up (f x)) (sym e) (up_left (f w) (flat_map f vs) up)
  up_child f (w ∷ vs) up v (inr later) = up_child f vs (up_right (f w) (flat_map f vs) up) v later

  before : (xs ys : List (ℕ × ℕ)) → Up (xs ++ ys) → (x y : ℕ) → Among x (keys xs) → Among y (keys ys) → order (reads x) (reads y) ≡ Less
  unfolding IsStrictlySortedBy
  before [] ys up x y front behind = absurd front
  before (p ∷ xs) ys up x y (inl e) behind =
      subst (λ k. order (reads k) (reads y) ≡ Less) (sym e) (above_at (reads p.0) (xs ++ ys) up.0 y (keys_right y xs ys behind))
  before (p ∷ xs) ys up x y (inr later) behind = before xs ys up.1 x y later behind

  -- no key is above the last one
  last_not_below : (ps : List (ℕ × ℕ)) → Up ps → (k : ℕ) → Among k (keys ps) → order (reads (last_key ps)) (reads k) ≡ Less → ⊥
  unfolding IsStrictlySortedBy
  last_not_below [] up k among less = among
  last_not_below (p ∷ []) up k (inl e) less = not_below_itself p.0 (subst (λ x. order (reads p.0) (reads x) ≡ Less) e less)
  last_not_below (p ∷ []) up k (inr later) less = later
  last_not_below (p ∷ q ∷ ps) up k (inl e) less =
      let above = above_at (reads p.0) (q ∷ ps) up.0 (last_key (q ∷ ps)) (last_among (q ∷ ps) (omega arith)) in
      let back = subst (λ x. order (reads (last_key (q ∷ ps))) (reads x) ≡ Less) e less in
      not_below_itself p.0 (total.trans (reads p.0) (reads (last_key (q ∷ ps))) (reads p.0) above back)
  last_not_below (p ∷ q ∷ ps) up k (inr later) less = last_not_below (q ∷ ps) up.1 k later less

  -- the child on the way to a key is the one below which it is
  child_way : (f : ℕ → List (ℕ × ℕ)) (k : ℕ) (vs : List ℕ) → Up (flat_map f vs) → AllByRecursion (λ v. 0 < length (f v)) vs → (v : ℕ) → Among v vs → Among k (keys (f v))
      → child_of (λ x. order (reads x) (reads k)) (map (λ x. last_key (f x)) vs) vs ≡ v
  child_way f k [] up some v there among = absurd there
  child_way f k (w ∷ []) up some v (inl e) among = sym e
  child_way f k (w ∷ []) up some v (inr later) among = absurd later
  child_way f k (w ∷ x ∷ vs) up some v (inl e) among =
      pick (order (reads (last_key (f w))) (reads k)) (child_of (λ y. order (reads y) (reads k)) (map (λ y. last_key (f y)) (x ∷ vs)) (x ∷ vs)) w
      (last_not_below (f w) (up_left (f w) (flat_map f (x ∷ vs)) up) k (subst (λ y. Among k (keys (f y))) e among)) ∙ sym e
  child_way f k (w ∷ x ∷ vs) up some v (inr later) among =
      let less = before (f w) (flat_map f (x ∷ vs)) up (last_key (f w)) k (last_among (f w) some.0) (keys_flat f (x ∷ vs) v k later among) in
      ap (λ o. choose o (child_of (λ y. order (reads y) (reads k)) (map (λ y. last_key (f y)) (x ∷ vs)) (x ∷ vs)) w w) less
      ∙ child_way f k (x ∷ vs) (up_right (f w) (flat_map f (x ∷ vs)) up) some.1 v later among

-- ---- nodes
-- a node below another has pairs, and they are pairs of that one
module _ (m : Records) where
  level_is : (least level ref r : ℕ) → r ≡ ref → IsNode m least level ref → level_of (m r) ≡ level
  level_is least level ref r e node = ap (λ x. level_of (m x)) e ∙ (IsNode-form m least level ref node).at_level

  own_keys : (least level ref r k : ℕ) → r ≡ ref → IsNode m least level ref → Among k (keys_below m r) → Among k (keys (pairs_below m level ref))
  own_keys least level ref r k e node among =
      subst (λ x. Among k (keys (pairs_below m level x))) e (subst (λ l. Among k (keys (pairs_below m l r))) (level_is least level ref r e node) among)

  pub nodes_of : (least level ref : ℕ) → IsNode m least (suc level) ref → AllByRecursion (IsNode m 8 level) (node_values (m ref))
  unfolding IsNode
  nodes_of least level ref node = node.3

  last_keys_of : (least level ref : ℕ) → IsNode m least (suc level) ref → HasLastKeys m level (m ref)
  unfolding IsNode
  last_keys_of least level ref node = node.2

  flat_keys : (l r k : ℕ) → Among k (keys (flat_map (pairs_below m l) (node_values (m r)))) → Among k (keys (pairs_below m (suc l) r))
  unfolding pairs_below
  flat_keys l r k among = among

  keys_of_node : (least level ref : ℕ) → IsNode m least level ref → (r k : ℕ) → Among r (nodes_below m level ref) → Among k (keys_below m r)
      → Among k (keys (pairs_below m level ref))
  unfolding nodes_below
  keys_of_node least zero ref node r k (inl e) among = own_keys least 0 ref r k e node among
  keys_of_node least zero ref node r k (inr later) among = absurd later
  keys_of_node least (suc level) ref node r k (inl e) among = own_keys least (suc level) ref r k e node among
  keys_of_node least (suc level) ref node r k (inr later) among =
      let found = find_child (nodes_below m level) (node_values (m ref)) r later in
      let child = Among-all (IsNode m 8 level) (node_values (m ref)) (nodes_of least level ref node) found.0 found.1 in
      flat_keys level ref k (keys_flat (pairs_below m level) (node_values (m ref)) found.0 k found.1 (keys_of_node 8 level found.0 child r k found.2 among))

  pairs_of_node : (least level ref : ℕ) → 0 < least → IsNode m least level ref → (r : ℕ) → Among r (nodes_below m level ref) → 0 < length (pairs_below m (level_of (m r)) r)
  unfolding nodes_below
  pairs_of_node least zero ref some node r (inl e) =
      subst (λ l. 0 < length (pairs_below m l r)) (sym (level_is least 0 ref r e node)) (subst (λ x. 0 < length (pairs_below m 0 x)) (sym e) (pairs-some m least 0 ref some node))
  pairs_of_node least zero ref some node r (inr later) = absurd later
  pairs_of_node least (suc level) ref some node r (inl e) =
      subst (λ l. 0 < length (pairs_below m l r)) (sym (level_is least (suc level) ref r e node))
      (subst (λ x. 0 < length (pairs_below m (suc level) x)) (sym e) (pairs-some m least (suc level) ref some node))
  pairs_of_node least (suc level) ref some node r (inr later) =
      let found = find_child (nodes_below m level) (node_values (m ref)) r later in
      let child = Among-all (IsNode m 8 level) (node_values (m ref)) (nodes_of least level ref node) found.0 found.1 in
      pairs_of_node 8 level found.0 (omega arith) child r found.2

  module _ {V : Type 0} (order : V → V → Ordering) (total : IsTotalOrder order) (reads : ℕ → V) (k : ℕ) where
    abbrev pub c : ℕ → Ordering
    c x = order (reads x) (reads k)

    some_pairs : (level : ℕ) (vs : List ℕ) → AllByRecursion (IsNode m 8 level) vs → AllByRecursion (λ v. 0 < length (pairs_below m level v)) vs
    some_pairs level [] all = tt
    some_pairs level (v ∷ vs) all = (pairs-some m 8 level v (omega arith) all.0, some_pairs level vs all.1)

    pub way_goes : (least level ref v : ℕ) → IsNode m least (suc level) ref → Up order total reads (flat_map (pairs_below m level) (node_values (m ref))) → Among v (node_values (m ref))
        → Among k (keys (pairs_below m level v)) → child_of c (node_keys (m ref)) (node_values (m ref)) ≡ v
    way_goes least level ref v node up there among =
        ap (λ ks. child_of c ks (node_values (m ref))) (last_keys_of least level ref node)
        ∙ child_way order total reads (pairs_below m level) k (node_values (m ref)) up (some_pairs level (node_values (m ref)) (nodes_of least level ref node)) v there among

    pub flat_up : (l r : ℕ) → Up order total reads (pairs_below m (suc l) r) → Up order total reads (flat_map (pairs_below m l) (node_values (m r)))
    unfolding pairs_below
    flat_up l r up = up

    on_way : (least level ref : ℕ) → IsNode m least level ref → Up order total reads (pairs_below m level ref) → (r : ℕ) → Among r (nodes_below m level ref) → Among k (keys_below m r)
        → Among r (path_below m c level ref)
    unfolding nodes_below path_below
    on_way least zero ref node up r among key = among
    on_way least (suc level) ref node up r (inl e) key = inl e
    on_way least (suc level) ref node up r (inr later) key =
        let found = find_child (nodes_below m level) (node_values (m ref)) r later in
        let child = Among-all (IsNode m 8 level) (node_values (m ref)) (nodes_of least level ref node) found.0 found.1 in
        let flat = flat_up level ref up in
        let at = way_goes least level ref found.0 node flat found.1 (keys_of_node 8 level found.0 child r k found.2 key) in
        inr (subst (λ v. Among r (path_below m c level v)) (sym at)
        (on_way 8 level found.0 child (up_child order total reads (pairs_below m level) (node_values (m ref)) flat found.0 found.1) r found.2 key))

-- ---- trees
least_some : (level : ℕ) → 0 < root_least level
least_some zero = omega arith
least_some (suc level) = omega arith

module _ {V : Type 0} (order : V → V → Ordering) (total : IsTotalOrder order) (read : Records → ℕ → V) where
  pub stand_on_ways : NodesStandOnWays order read
  stand_on_ways m zero node key is among there = absurd among
  stand_on_ways m (suc ref) node key is among there =
      let level = root_level m (suc ref) in
      on_way m order total (read m) key (root_least level) level (suc ref) (is.node (omega arith)) is.ascends node among there

  pub have_keys : NodesHaveKeys order read
  have_keys m zero node is among = absurd among
  have_keys m (suc ref) node is among =
      let level = root_level m (suc ref) in
      let root = is.node (omega arith) in
      let first = first_among (pairs_below m (level_of (m node)) node) (pairs_of_node m (root_least level) level (suc ref) (least_some level) root node among) in
      (first.0, first.1, keys_of_node m (root_least level) level (suc ref) root node first.0 among first.1)

  pub have_all_nodes : (bits : ℕ) → WaysHaveAllNodes bits order read
  have_all_nodes bits m root buffer is clear node among =
      let found = have_keys m root node is among in
      Among-all (λ r. buffer_of bits r ≢ buffer) (path_nodes m (λ k. order (read m k) (read m found.0)) root) (clear found.0 found.2) node (stand_on_ways m root node found.0 is among found.1)
