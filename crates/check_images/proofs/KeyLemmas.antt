-- Keys in order, by what they read as.
use Rattle.std.proofs.Common.{◌≡◌, ◌≢◌, ℕ, ◌<◌, List, [], ◌∷◌, ◌++◌, length, map, refl, sym, ap, ◌∙◌, arith, Bool, true, false, true≢false, Ordering, Less, Equal, Greater, is_lt}
use Rattle.std.proofs.lemmas.Cmp.{nat_cmp_total, on_total}
use Rattle.std.specs.Cmp.{IsTotalOrder}
use Rattle.std.specs.List.{AllByRecursion}
use Rattle.std.specs.List.Sorted.{IsStrictlySortedBy}
use Rattle.entry_ref.specs.Records.{Records}
use Rattle.tree_read.specs.Trees.{last_key, tree_pairs, IsRootNode}
use Rattle.image_format.specs.Values.{stored_value}
use Rattle.attr_types.specs.Value.{value_cmp}
use Rattle.attr_types.specs.ProofsForOrder.{value_cmp_total}
use Rattle.attr_types.specs.declared.value.Value.{Value}
use Rattle.check_images.specs.Keys.{stored_cmp, IsTreeOf, PairsAscend}
use Rattle.check_images.specs.declared.keys.Keys.{Keys}
use Rattle.check_images.specs.declared.keys.Keys.TheVariants.{Numbers, Values}

pub key_cmp_total : (keys : Keys) (m : Records) → IsTotalOrder (stored_cmp keys m)
key_cmp_total Numbers m = nat_cmp_total
key_cmp_total (Values type) m = on_total (stored_value type m) value_cmp_total

module _ (keys : Keys) (m : Records) where
  all_left : (k : ℕ) (ps qs : List (ℕ × ℕ)) → AllByRecursion (λ y. stored_cmp keys m k y ≡ Less) (map (λ (q : ℕ × ℕ). q.0) (ps ++ qs)) → AllByRecursion (λ y. stored_cmp keys m k y ≡ Less) (map (λ (q : ℕ × ℕ). q.0) ps)
  all_left k [] qs all = tt
  all_left k (p ∷ ps) qs all = (all.0, all_left k ps qs all.1)

  all_more : (k : ℕ) (ps : List (ℕ × ℕ)) (p : ℕ × ℕ) → AllByRecursion (λ y. stored_cmp keys m k y ≡ Less) (map (λ (q : ℕ × ℕ). q.0) ps) → stored_cmp keys m k p.0 ≡ Less
      → AllByRecursion (λ y. stored_cmp keys m k y ≡ Less) (map (λ (q : ℕ × ℕ). q.0) (ps ++ p ∷ []))
  all_more k [] p all less = (less, tt)
  all_more k (q ∷ qs) p all less = (all.0, all_more k qs p all.1 less)

  all_last : (k : ℕ) (p : ℕ × ℕ) (ps : List (ℕ × ℕ)) → AllByRecursion (λ y. stored_cmp keys m k y ≡ Less) (map (λ (q : ℕ × ℕ). q.0) (p ∷ ps)) → stored_cmp keys m k (last_key (p ∷ ps)) ≡ Less
  all_last k p [] all = all.0
  all_last k p (q ∷ ps) all = all_last k q ps all.1

  pub ascends-none : PairsAscend keys m []
  unfolding IsStrictlySortedBy
  ascends-none = tt

  pub ascends-left : (ps qs : List (ℕ × ℕ)) → PairsAscend keys m (ps ++ qs) → PairsAscend keys m ps
  unfolding IsStrictlySortedBy
  ascends-left [] qs up = tt
  ascends-left (p ∷ ps) qs up = (all_left p.0 ps qs up.0, ascends-left ps qs up.1)

  -- one more pair
  pub ascends-first : (ps : List (ℕ × ℕ)) (p : ℕ × ℕ) → length ps ≡ 0 → PairsAscend keys m (ps ++ p ∷ [])
  unfolding IsStrictlySortedBy
  ascends-first [] p none = (tt, tt)
  ascends-first (q ∷ qs) p none = absurd (omega arith)

  pub ascends-more : (ps : List (ℕ × ℕ)) (p : ℕ × ℕ) → PairsAscend keys m ps → stored_cmp keys m (last_key ps) p.0 ≡ Less → PairsAscend keys m (ps ++ p ∷ [])
  unfolding IsStrictlySortedBy
  ascends-more [] p up less = (tt, tt)
  ascends-more (q ∷ []) p up less = ((less, tt), (tt, tt))
  ascends-more (q ∷ r ∷ ps) p up less =
      let above = (key_cmp_total keys m).trans q.0 (last_key (r ∷ ps)) p.0 (all_last q.0 r ps up.0) less in
      (all_more q.0 (r ∷ ps) p up.0 above, ascends-more (r ∷ ps) p up.1 less)

  -- a key behind others is above the last
  pub ascends-last : (ps : List (ℕ × ℕ)) (p : ℕ × ℕ) → 0 < length ps → PairsAscend keys m (ps ++ p ∷ []) → stored_cmp keys m (last_key ps) p.0 ≡ Less
  unfolding IsStrictlySortedBy
  ascends-last [] p some up = absurd (omega arith)
  ascends-last (q ∷ []) p some up = up.0.0
  ascends-last (q ∷ r ∷ ps) p some up = ascends-last (r ∷ ps) p (omega arith) up.1

-- keys ascend just where what they read as does
module _ (read : ℕ → Value) where
  to_all : (k : ℕ) (ps : List (ℕ × ℕ)) → AllByRecursion (λ y. value_cmp (read k) (read y) ≡ Less) (map (λ (p : ℕ × ℕ). p.0) ps) → AllByRecursion (λ v. value_cmp (read k) v ≡ Less) (map (λ (p : ℕ × ℕ). read p.0) ps)
  to_all k [] all = tt
  to_all k (p ∷ ps) all = (all.0, to_all k ps all.1)

  from_all : (k : ℕ) (ps : List (ℕ × ℕ)) → AllByRecursion (λ v. value_cmp (read k) v ≡ Less) (map (λ (p : ℕ × ℕ). read p.0) ps) → AllByRecursion (λ y. value_cmp (read k) (read y) ≡ Less) (map (λ (p : ℕ × ℕ). p.0) ps)
  from_all k [] all = tt
  from_all k (p ∷ ps) all = (all.0, from_all k ps all.1)

  to_read : (ps : List (ℕ × ℕ)) → IsStrictlySortedBy (λ a b. value_cmp (read a) (read b)) (map (λ (p : ℕ × ℕ). p.0) ps) → IsStrictlySortedBy value_cmp (map (λ (p : ℕ × ℕ). read p.0) ps)
  unfolding IsStrictlySortedBy
  to_read [] up = tt
  to_read (p ∷ ps) up = (to_all p.0 ps up.0, to_read ps up.1)

  from_read : (ps : List (ℕ × ℕ)) → IsStrictlySortedBy value_cmp (map (λ (p : ℕ × ℕ). read p.0) ps) → IsStrictlySortedBy (λ a b. value_cmp (read a) (read b)) (map (λ (p : ℕ × ℕ). p.0) ps)
  unfolding IsStrictlySortedBy
  from_read [] up = tt
  from_read (p ∷ ps) up = (from_all p.0 ps up.0, from_read ps up.1)

-- a tree is a root node, if there is one, and keys that ascend
pub make_tree : (keys : Keys) (m : Records) (root : ℕ) → (0 < root → IsRootNode m root) → PairsAscend keys m (tree_pairs m root) → IsTreeOf keys m root
make_tree Numbers m root node up = record { node = node; ascends = up }
make_tree (Values type) m root node up = record { node = node; ascends = to_read (stored_value type m) (tree_pairs m root) up }

pub tree-node : (keys : Keys) (m : Records) (root : ℕ) → IsTreeOf keys m root → 0 < root → IsRootNode m root
tree-node Numbers m root tree = tree.node
tree-node (Values type) m root tree = tree.node

pub tree-ascends : (keys : Keys) (m : Records) (root : ℕ) → IsTreeOf keys m root → PairsAscend keys m (tree_pairs m root)
tree-ascends Numbers m root tree = tree.ascends
tree-ascends (Values type) m root tree = from_read (stored_value type m) (tree_pairs m root) tree.ascends

pub is_less : (r : Ordering) (answer : Bool) → answer ≡ is_lt r → answer ≡ true → r ≡ Less
is_less Less answer is so = refl
is_less Equal answer is so = absurd (true≢false (sym so ∙ is))
is_less Greater answer is so = absurd (true≢false (sym so ∙ is))

pub not_less : (r : Ordering) (answer : Bool) → answer ≡ is_lt r → answer ≡ false → r ≢ Less
not_less r answer is other less = true≢false (sym (ap is_lt less) ∙ sym is ∙ other)
