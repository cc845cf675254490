-- What a node's words say of its children and of the pairs below it.
use Rattle.std.proofs.Common.{◌≡◌, ◌≢◌, ℕ, zero, suc, ◌+◌, ◌<◌, ◌≤◌, List, [], ◌∷◌, ◌++◌, length, get_or, take, drop, map, refl, sym, ap, subst, ◌∙◌, arith}
use Rattle.std.proofs.lemmas.List.{get_or-take, get_or-drop, drop_all, get_or-map}
use Rattle.std.specs.Cmp.{IsTotalOrder}
use Rattle.std.specs.declared.cmp.Ordering.{Ordering}
use Rattle.std.specs.declared.cmp.Ordering.TheVariants.{Less, Equal, Greater}
use Rattle.std.specs.List.{zip, flat_map, AllByRecursion}
use Rattle.std.specs.List.Sorted.{IsStrictlySortedBy}
use Rattle.list_lemmas.proofs.Pairs.{length-zip_even}
use Rattle.list_lemmas.proofs.Each.{AllByRecursion-at}
use Rattle.entry_ref.specs.Records.{Records, HasWord, word_at}
use Rattle.tree_read.specs.Nodes.{used_of, node_keys, node_values, IsNodeForm}
use Rattle.tree_read.specs.Trees.{pairs_below, last_key, IsNode, HasLastKeys}
use Rattle.tree_read.proofs.TreeLemmas.{IsNode-form, length-node_keys, length-node_values, leaf_pairs}
use Rattle.tree_read.specs.Keys.{AllBelow}
use Rattle.tree_read.specs.Pairs.{choose, seek}
use Rattle.tree_read.proofs.PairLemmas.{All-child, children-cut, seek-skip, seek-stop}
use Rattle.tree_read.proofs.OrderLemmas.{ascends-child, children-below}
use Rattle.std.proofs.Math.Seq.{drop-cons}

pub lower : (level least low : ℕ) (ws : List ℕ) → low ≤ least → IsNodeForm level least ws → IsNodeForm level low ws
lower level least low ws less f = record { size = f.size; at_level = f.at_level; filled = let h = f.filled in omega arith; room = f.room; no_key = f.no_key; no_value = f.no_value; few = f.few }

-- a node with so many slots used has fewer
pub IsNode-lower : (m : Records) (least low level ref : ℕ) → low ≤ least → IsNode m least level ref → IsNode m low level ref
unfolding IsNode
IsNode-lower m least low zero ref less node = (lower 0 least low (m ref) less node.0, node.1)
IsNode-lower m least low (suc level) ref less node = (lower (suc level) least low (m ref) less node.0, node.1, node.2, node.3)

pub get_or-node_keys : (ws : List ℕ) (j : ℕ) → j < used_of ws → get_or (node_keys ws) j 0 ≡ get_or ws (2 + j) 0
get_or-node_keys ws j h = rw get_or-take (rw get_or-drop refl)

pub get_or-node_values : (ws : List ℕ) (j : ℕ) → j < used_of ws → get_or (node_values ws) j 0 ≡ get_or ws (18 + j) 0
get_or-node_values ws j h = rw get_or-take (rw get_or-drop refl)

length-some : {A : Type 0} (xs ys : List A) → 0 < length xs → 0 < length (xs ++ ys)
length-some [] ys h = absurd (omega arith)
length-some (x ∷ xs) ys h = omega arith

zip-some : (ks vs : List ℕ) → 0 < length ks → 0 < length vs → 0 < length (zip ks vs)
zip-some [] vs h g = absurd (omega arith)
zip-some (k ∷ ks) [] h g = absurd (omega arith)
zip-some (k ∷ ks) (v ∷ vs) h g = omega arith

some-child : (f : ℕ → List (ℕ × ℕ)) (P : ℕ → Type 0) → ((x : ℕ) → P x → 0 < length (f x)) → (cs : List ℕ) → 0 < length cs → AllByRecursion P cs → 0 < length (flat_map f cs)
some-child f P some [] h all = absurd (omega arith)
some-child f P some (x ∷ xs) h all = length-some (f x) (flat_map f xs) (some x all.0)

-- a node with a used slot has a pair below
pub pairs-some : (m : Records) (least level ref : ℕ) → 0 < least → IsNode m least level ref → 0 < length (pairs_below m level ref)
unfolding pairs_below IsNode
pairs-some m least zero ref some node =
    let filled = node.0.filled in
    zip-some (node_keys (m ref)) (node_values (m ref)) (let e = length-node_keys 0 least (m ref) node.0 in omega arith) (let e = length-node_values 0 least (m ref) node.0 in omega arith)
pairs-some m least (suc level) ref some node =
    let filled = node.0.filled in
    some-child (pairs_below m level) (IsNode m 8 level) (λ c is. pairs-some m 8 level c (omega arith) is) (node_values (m ref))
    (let e = length-node_values (suc level) least (m ref) node.0 in omega arith) node.3

-- a node has 34 words
pub has_word : (m : Records) (least level ref i : ℕ) → IsNode m least level ref → i < 34 → HasWord m ref i
has_word m least level ref i node h = let size = (IsNode-form m least level ref node).size in omega arith

pub room : (m : Records) (least level ref : ℕ) → IsNode m least level ref → used_of (m ref) ≤ 16
room m least level ref node = (IsNode-form m least level ref node).room

pub keys-length : (m : Records) (least level ref : ℕ) → IsNode m least level ref → length (node_keys (m ref)) ≡ used_of (m ref)
keys-length m least level ref node = length-node_keys level least (m ref) (IsNode-form m least level ref node)

module _ (m : Records) (least level l ref : ℕ) (above : level ≡ suc l) (node : IsNode m least level ref) where
  upper : IsNode m least (suc l) ref
  upper = subst (λ k. IsNode m least k ref) above node

  form : IsNodeForm (suc l) least (m ref)
  form = IsNode-form m least (suc l) ref upper

  pub children : pairs_below m level ref ≡ flat_map (pairs_below m l) (node_values (m ref))
  unfolding pairs_below
  children = ap (λ k. pairs_below m k ref) above

  last_keys : HasLastKeys m l (m ref)
  unfolding IsNode
  last_keys = upper.2

  nodes : AllByRecursion (IsNode m 8 l) (node_values (m ref))
  unfolding IsNode
  nodes = upper.3

  pub values-size : length (node_values (m ref)) ≡ used_of (m ref)
  unfolding form
  values-size = length-node_values (suc l) least (m ref) form

  pub child-node : (i : ℕ) → i < used_of (m ref) → IsNode m 8 l (word_at m ref (18 + i))
  child-node i h = subst (IsNode m 8 l) (get_or-node_values (m ref) i h) (AllByRecursion-at (IsNode m 8 l) (node_values (m ref)) i 0 (let e = values-size in omega arith) nodes)

  -- the key of a slot is the last key of its child
  pub child-last : (i : ℕ) → i < used_of (m ref) → word_at m ref (2 + i) ≡ last_key (pairs_below m l (word_at m ref (18 + i)))
  child-last i h =
      sym (get_or-node_keys (m ref) i h) ∙ ap (λ ks. get_or ks i 0) last_keys
      ∙ get_or-map (λ x. last_key (pairs_below m l x)) (node_values (m ref)) i 0 0 (let e = values-size in omega arith)
      ∙ ap (λ q. last_key (pairs_below m l q)) (get_or-node_values (m ref) i h)

  -- the pairs of a node around those of one child
  pub children-at : (i : ℕ) → i < used_of (m ref) → pairs_below m level ref
      ≡ flat_map (pairs_below m l) (take i (node_values (m ref))) ++ (pairs_below m l (word_at m ref (18 + i)) ++ flat_map (pairs_below m l) (drop (suc i) (node_values (m ref))))
  children-at i h =
      children ∙ children-cut (pairs_below m l) (node_values (m ref)) i (let e = values-size in omega arith)
      ∙ ap (λ q. flat_map (pairs_below m l) (take i (node_values (m ref))) ++ (pairs_below m l q ++ flat_map (pairs_below m l) (drop (suc i) (node_values (m ref))))) (get_or-node_values (m ref) i h)

  -- the children from one on
  pub children-from : (i : ℕ) → i < used_of (m ref) → flat_map (pairs_below m l) (drop i (node_values (m ref)))
      ≡ pairs_below m l (word_at m ref (18 + i)) ++ flat_map (pairs_below m l) (drop (suc i) (node_values (m ref)))
  children-from i h =
      ap (flat_map (pairs_below m l)) (drop-cons (node_values (m ref)) i 0 (let e = values-size in omega arith))
      ∙ ap (λ q. pairs_below m l q ++ flat_map (pairs_below m l) (drop (suc i) (node_values (m ref)))) (get_or-node_values (m ref) i h)

  pub children-past : (i : ℕ) → used_of (m ref) ≤ i → flat_map (pairs_below m l) (drop i (node_values (m ref))) ≡ []
  children-past i h = ap (flat_map (pairs_below m l)) (drop_all i (node_values (m ref)) (let e = values-size in omega arith))

  -- what holds of all pairs below holds of a child's
  pub child-all : (P : ℕ × ℕ → Type 0) → AllByRecursion P (pairs_below m level ref) → (i : ℕ) → i < used_of (m ref) → AllByRecursion P (pairs_below m l (word_at m ref (18 + i)))
  child-all P all i h =
      subst (λ q. AllByRecursion P (pairs_below m l q)) (get_or-node_values (m ref) i h)
      (All-child P (pairs_below m l) (node_values (m ref)) i (let e = values-size in omega arith) (subst (AllByRecursion P) children all))

  module _ {V : Type 0} (order : V → V → Ordering) (reads : ℕ → V) (up : IsStrictlySortedBy order (map (λ p. reads p.0) (pairs_below m level ref))) where
    flat_up : IsStrictlySortedBy order (map (λ p. reads p.0) (flat_map (pairs_below m l) (node_values (m ref))))
    flat_up = subst (λ ps. IsStrictlySortedBy order (map (λ (p : ℕ × ℕ). reads p.0) ps)) children up

    pub child-ascends : (i : ℕ) → i < used_of (m ref) → IsStrictlySortedBy order (map (λ p. reads p.0) (pairs_below m l (word_at m ref (18 + i))))
    child-ascends i h =
        subst (λ q. IsStrictlySortedBy order (map (λ (p : ℕ × ℕ). reads p.0) (pairs_below m l q))) (get_or-node_values (m ref) i h)
        (ascends-child order reads (pairs_below m l) (node_values (m ref)) i (let e = values-size in omega arith) flat_up)

    -- the pairs in front of a slot are below where the keys in front of it are
    pub front-below : IsTotalOrder order → (s : V) (i : ℕ) → i ≤ used_of (m ref) → ((j : ℕ) → j < i → order (reads (word_at m ref (2 + j))) s ≡ Less)
        → AllBelow (λ k. order (reads k) s) (flat_map (pairs_below m l) (take i (node_values (m ref))))
    front-below total s i h before =
        children-below order reads total s (pairs_below m l) (node_values (m ref)) i (let e = values-size in omega arith) flat_up
        (λ j g. subst (λ k. order (reads k) s ≡ Less)
        (child-last j (omega arith) ∙ ap (λ q. last_key (pairs_below m l q)) (sym (get_or-node_values (m ref) j (omega arith)))) (before j g))

    -- a key is sought in the first child whose key is not below
    pub child-seek : IsTotalOrder order → (s : V) (i : ℕ) → i < used_of (m ref) → ((j : ℕ) → j < i → order (reads (word_at m ref (2 + j))) s ≡ Less)
        → order (reads (word_at m ref (2 + i))) s ≢ Less
        → seek (λ k. order (reads k) s) (pairs_below m level ref)
        ≡ seek (λ k. order (reads k) s) (pairs_below m l (word_at m ref (18 + i))) ++ flat_map (pairs_below m l) (drop (suc i) (node_values (m ref)))
    child-seek total s i h before at =
        let c : ℕ → Ordering = λ k. order (reads k) s in
        let child = pairs_below m l (word_at m ref (18 + i)) in
        let behind = flat_map (pairs_below m l) (drop (suc i) (node_values (m ref))) in
        ap (seek c) (children-at i h)
        ∙ seek-skip c (flat_map (pairs_below m l) (take i (node_values (m ref)))) (child ++ behind) (front-below total s i (omega arith) before)
        ∙ seek-stop c child behind (pairs-some m 8 l (word_at m ref (18 + i)) (omega arith) (child-node i h)) (λ e. at (ap c (child-last i h) ∙ e))

-- what holds of all keys holds of the last, and of a slot's key
pub All-last : (P : ℕ → Type 0) (ps : List (ℕ × ℕ)) → 0 < length ps → AllByRecursion (λ p. P p.0) ps → P (last_key ps)
All-last P [] h all = absurd (omega arith)
All-last P (p ∷ []) h all = all.0
All-last P (p ∷ q ∷ ps) h all = All-last P (q ∷ ps) (omega arith) all.1

zip-at : (P : ℕ → Type 0) (ks vs : List ℕ) (i : ℕ) → length vs ≡ length ks → i < length ks → AllByRecursion (λ p. P p.0) (zip ks vs) → P (get_or ks i 0)
zip-at P [] vs i e h all = absurd (omega arith)
zip-at P (k ∷ ks) [] i e h all = absurd (omega arith)
zip-at P (k ∷ ks) (v ∷ vs) zero e h all = all.0
zip-at P (k ∷ ks) (v ∷ vs) (suc i) e h all = zip-at P ks vs i (omega arith) (omega arith) all.1

pub slot-key : (P : ℕ → Type 0) (m : Records) (least level ref i : ℕ) → IsNode m least level ref → AllByRecursion (λ p. P p.0) (pairs_below m level ref) → i < used_of (m ref) → P (word_at m ref (2 + i))
unfolding pairs_below IsNode
slot-key P m least zero ref i node all h =
    let ks = length-node_keys 0 least (m ref) node.0 in
    let vs = length-node_values 0 least (m ref) node.0 in
    subst P (get_or-node_keys (m ref) i h) (zip-at P (node_keys (m ref)) (node_values (m ref)) i (omega arith) (omega arith) all)
slot-key P m least (suc level) ref i node all h =
    let here : IsNode m least (suc level) ref = node in
    let is = child-node m least (suc level) level ref refl here i h in
    let below = child-all m least (suc level) level ref refl here (λ (p : ℕ × ℕ). P p.0) all i h in
    subst P (sym (child-last m least (suc level) level ref refl here i h)) (All-last P (pairs_below m level (word_at m ref (18 + i))) (pairs-some m 8 level (word_at m ref (18 + i)) (omega arith) is) below)

-- a leaf, from a slot on
zip-drop : (ks vs : List ℕ) (i : ℕ) → length vs ≡ length ks → i < length ks → drop i (zip ks vs) ≡ (get_or ks i 0, get_or vs i 0) ∷ drop (suc i) (zip ks vs)
zip-drop [] vs i e h = absurd (omega arith)
zip-drop (k ∷ ks) [] i e h = absurd (omega arith)
zip-drop (k ∷ ks) (v ∷ vs) zero e h = refl
zip-drop (k ∷ ks) (v ∷ vs) (suc i) e h = zip-drop ks vs i (omega arith) (omega arith)

zip-seek : (c : ℕ → Ordering) (ks vs : List ℕ) (i : ℕ) → length vs ≡ length ks → i ≤ length ks → ((j : ℕ) → j < i → c (get_or ks j 0) ≡ Less) → (i < length ks → c (get_or ks i 0) ≢ Less)
    → seek c (zip ks vs) ≡ drop i (zip ks vs)
zip-seek c [] vs zero e h before at = refl
zip-seek c [] vs (suc i) e h before at = absurd (omega arith)
zip-seek c (k ∷ ks) [] i e h before at = absurd (omega arith)
zip-seek c (k ∷ ks) (v ∷ vs) zero e h before at =
    elim (c k) as (λ o. o ≢ Less → choose o (seek c (zip ks vs)) ((k, v) ∷ zip ks vs) ((k, v) ∷ zip ks vs) ≡ (k, v) ∷ zip ks vs) [
      | Less ↦ λ n. absurd (n refl)
      | Equal ↦ λ n. refl
      | Greater ↦ λ n. refl
    ] (at (omega arith))
zip-seek c (k ∷ ks) (v ∷ vs) (suc i) e h before at =
    ap (λ o. choose o (seek c (zip ks vs)) ((k, v) ∷ zip ks vs) ((k, v) ∷ zip ks vs)) (before 0 (omega arith))
    ∙ zip-seek c ks vs i (omega arith) (omega arith) (λ j g. before (suc j) (omega arith)) (λ g. at (omega arith))

module _ (m : Records) (least level ref : ℕ) (low : level ≡ 0) (node : IsNode m least level ref) where
  form0 : IsNodeForm 0 least (m ref)
  form0 = IsNode-form m least 0 ref (subst (λ k. IsNode m least k ref) low node)

  keys-size : length (node_keys (m ref)) ≡ used_of (m ref)
  unfolding form0
  keys-size = length-node_keys 0 least (m ref) form0

  same-size : length (node_values (m ref)) ≡ length (node_keys (m ref))
  same-size = length-node_values 0 least (m ref) form0 ∙ sym keys-size

  pub leaf-size : length (pairs_below m 0 ref) ≡ used_of (m ref)
  leaf-size = ap length (leaf_pairs m ref) ∙ length-zip_even (node_keys (m ref)) (node_values (m ref)) (sym same-size) ∙ keys-size

  pub leaf-from : (i : ℕ) → i < used_of (m ref) → drop i (pairs_below m 0 ref) ≡ (word_at m ref (2 + i), word_at m ref (18 + i)) ∷ drop (suc i) (pairs_below m 0 ref)
  leaf-from i h =
      ap (drop i) (leaf_pairs m ref)
      ∙ zip-drop (node_keys (m ref)) (node_values (m ref)) i same-size (let e = keys-size in omega arith)
      ∙ ap (λ k. (k, get_or (node_values (m ref)) i 0) ∷ drop (suc i) (zip (node_keys (m ref)) (node_values (m ref)))) (get_or-node_keys (m ref) i h)
      ∙ ap (λ v. (word_at m ref (2 + i), v) ∷ drop (suc i) (zip (node_keys (m ref)) (node_values (m ref)))) (get_or-node_values (m ref) i h)
      ∙ ap (λ ps. (word_at m ref (2 + i), word_at m ref (18 + i)) ∷ drop (suc i) ps) (sym (leaf_pairs m ref))

  pub leaf-past : (i : ℕ) → used_of (m ref) ≤ i → drop i (pairs_below m 0 ref) ≡ []
  leaf-past i h = drop_all i (pairs_below m 0 ref) (let e = leaf-size in omega arith)

  pub leaf-seek : (c : ℕ → Ordering) (i : ℕ) → i ≤ used_of (m ref) → ((j : ℕ) → j < i → c (word_at m ref (2 + j)) ≡ Less) → (i < used_of (m ref) → c (word_at m ref (2 + i)) ≢ Less)
      → seek c (pairs_below m 0 ref) ≡ drop i (pairs_below m 0 ref)
  leaf-seek c i h before at =
      let size = keys-size in
      ap (seek c) (leaf_pairs m ref)
      ∙ zip-seek c (node_keys (m ref)) (node_values (m ref)) i same-size (omega arith)
      (λ j g. ap c (get_or-node_keys (m ref) j (omega arith)) ∙ before j g)
      (λ g e. at (omega arith) (ap c (sym (get_or-node_keys (m ref) i (omega arith))) ∙ e))
      ∙ ap (drop i) (sym (leaf_pairs m ref))
