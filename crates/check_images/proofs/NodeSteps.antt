-- A node above the leaves, by its level: each step of the walk over its children.
use Rattle.std.proofs.Common.{◌≡◌, ℕ, zero, suc, ◌+◌, ◌-◌, ◌<◌, List, ◌++◌, length, get_or, sym, ap, subst, ◌∙◌, arith}
use Rattle.std.specs.List.{zip}
use Rattle.entry_ref.specs.Records.{Records}
use Rattle.tree_read.proofs.TreeLemmas.{IsNode-count, leaf_pairs}
use Rattle.tree_read.specs.Nodes.{used_of, count_of, node_keys, node_values, IsNodeForm}
use Rattle.tree_read.specs.Trees.{pairs_below, last_key, HasLastKeys, IsNode}
use Rattle.check_images.proofs.WalkLemmas.{walked-more, child-stands, child-last, walked-pairs, walked-node, last-child, count-behind, leaf-node}
use Rattle.check_images.proofs.Walks.{Walked}
use Rattle.check_images.specs.Keys.{PairsAscend}
use Rattle.check_images.specs.declared.keys.Keys.{Keys}

-- the keys of a node are the last keys of its children, if it has any
abbrev pub HasKeys : Records → ℕ → ℕ → Type 0
HasKeys m zero ref = Unit {0}
HasKeys m (suc level) ref = HasLastKeys m level (m ref)

node-keys : (m : Records) (least level ref : ℕ) → IsNode m least level ref → HasKeys m level ref
unfolding IsNode
node-keys m least zero ref node = tt
node-keys m least (suc level) ref node = node.2

module _ (m : Records) (before after : List (ℕ × ℕ)) (least level ref : ℕ) where
  -- the count is the number of pairs
  pub count-is : (count : ℕ) → count ≡ count_of (m ref) → after ≡ before ++ pairs_below m level ref → IsNode m least level ref → count ≡ length after - length before
  count-is count of is node = of ∙ IsNode-count m least level ref node ∙ sym (count-behind before after (pairs_below m level ref) is)

  -- a leaf
  pub leaf-is : level ≡ 0 → after ≡ before ++ zip (node_keys (m ref)) (node_values (m ref)) → after ≡ before ++ pairs_below m level ref
  leaf-is low is = is ∙ ap (λ ps. before ++ ps) (sym (leaf_pairs m ref)) ∙ ap (λ l. before ++ pairs_below m l ref) (sym low)

  pub leaf-stands : level ≡ 0 → IsNodeForm level least (m ref) → (count : ℕ) → count ≡ count_of (m ref)
      → after ≡ before ++ zip (node_keys (m ref)) (node_values (m ref)) → count ≡ length after - length before → IsNode m least level ref
  leaf-stands low form count of is counted =
      let pairs = is ∙ ap (λ ps. before ++ ps) (sym (leaf_pairs m ref)) in
      subst (λ l. IsNode m least l ref) (sym low)
      (leaf-node m least ref (subst (λ l. IsNodeForm l least (m ref)) low form) (sym of ∙ counted ∙ count-behind before after (pairs_below m 0 ref) pairs))

module _ (keys : Keys) (m : Records) (before : List (ℕ × ℕ)) (level ref : ℕ) where
  pub leaf-ascends : level ≡ 0 → PairsAscend keys m (before ++ pairs_below m level ref) → PairsAscend keys m (before ++ zip (node_keys (m ref)) (node_values (m ref)))
  leaf-ascends low up =
      subst (PairsAscend keys m) (ap (λ l. before ++ pairs_below m l ref) low ∙ ap (λ ps. before ++ ps) (leaf_pairs m ref)) up

module _ (keys : Keys) (m : Records) (least level ref : ℕ) (form : IsNodeForm level least (m ref)) (above : 0 < level)
    (before after : List (ℕ × ℕ)) (i : ℕ) (walked : Walked keys m (level - 1) (m ref) before after i) where
  upper : level ≡ suc (level - 1)
  upper = omega arith

  upper_form : IsNodeForm (suc (level - 1)) least (m ref)
  upper_form = subst (λ l. IsNodeForm l least (m ref)) upper form

  pub step : i < used_of (m ref) → (child key : ℕ) → child ≡ get_or (m ref) (18 + i) 0 → key ≡ get_or (m ref) (2 + i) 0
      → (more : List (ℕ × ℕ)) → IsNode m 8 (level - 1) child → more ≡ after ++ pairs_below m (level - 1) child → PairsAscend keys m more → key ≡ last_key more
      → Walked keys m (level - 1) (m ref) before more (i + 1)
  step low child key child_is key_is more node is up last =
      walked-more keys m (level - 1) least ref upper_form before after i walked low more
      (subst (IsNode m 8 (level - 1)) child_is node)
      (is ∙ ap (λ c. after ++ pairs_below m (level - 1) c) child_is)
      up
      (sym key_is ∙ last ∙ last-child m (level - 1) child after more node is ∙ ap (λ c. last_key (pairs_below m (level - 1) c)) child_is)

  -- where the node stands and its pairs ascend, so does its next child
  pub next-child : i < used_of (m ref) → (child : ℕ) → child ≡ get_or (m ref) (18 + i) 0
      → IsNode m least level ref × PairsAscend keys m (before ++ pairs_below m level ref)
      → IsNode m 8 (level - 1) child × PairsAscend keys m (after ++ pairs_below m (level - 1) child)
  next-child low child child_is whole =
      subst (λ c. IsNode m 8 (level - 1) c × PairsAscend keys m (after ++ pairs_below m (level - 1) c)) (sym child_is)
      (child-stands keys m (level - 1) least ref upper_form before after i walked low
      (subst (λ l. IsNode m least l ref) upper whole.0)
      (subst (λ l. PairsAscend keys m (before ++ pairs_below m l ref)) upper whole.1))

  -- and its next key is the last of that child
  pub next-key : i < used_of (m ref) → (child key : ℕ) → child ≡ get_or (m ref) (18 + i) 0 → key ≡ get_or (m ref) (2 + i) 0
      → (more : List (ℕ × ℕ)) → IsNode m 8 (level - 1) child → more ≡ after ++ pairs_below m (level - 1) child → IsNode m least level ref → key ≡ last_key more
  next-key low child key child_is key_is more node is whole =
      key_is
      ∙ child-last keys m (level - 1) least ref upper_form before after i walked low (subst (λ l. HasKeys m l ref) upper (node-keys m least level ref whole))
      ∙ ap (λ c. last_key (pairs_below m (level - 1) c)) (sym child_is)
      ∙ sym (last-child m (level - 1) child after more node is)

  pub whole-pairs : i ≡ used_of (m ref) → after ≡ before ++ pairs_below m level ref
  whole-pairs all = walked-pairs keys m (level - 1) least ref upper_form before after i walked all ∙ ap (λ l. before ++ pairs_below m l ref) (sym upper)

  pub whole-node : i ≡ used_of (m ref) → (count : ℕ) → count ≡ count_of (m ref) → count ≡ length after - length before → IsNode m least level ref
  whole-node all count of counted =
      subst (λ l. IsNode m least l ref) (sym upper)
      (walked-node keys m (level - 1) least ref upper_form before after i walked all
      (sym of ∙ counted ∙ count-behind before after (pairs_below m (suc (level - 1)) ref) (walked-pairs keys m (level - 1) least ref upper_form before after i walked all)))

pub difference : (a b x y : ℕ) → a ≡ x → b ≡ y → a - b ≡ x - y
difference a b x y p q = ap (λ n. n - b) p ∙ ap (λ n. x - n) q
