-- All keys of a tree, a leaf's at a time.
use Rattle.std.proofs.Common.{subst, ◌≡◌, ℕ, zero, suc, ◌+◌, ◌<◌, ◌≤◌, List, [], ◌∷◌, ◌++◌, length, get_or, take, refl, sym, ap, ◌∙◌, arith, append_assoc}
use Rattle.std.proofs.lemmas.List.{append-nil, take_all}
use Rattle.std.proofs.lemmas.Map.Made.{keys_of-zip}
use Rattle.std.specs.List.{flat_map, AllByRecursion}
use Rattle.std.specs.Map.{keys_of}
use Rattle.tree_read.proofs.TreeLemmas.{leaf_pairs}
use Rattle.entry_ref.specs.Records.{Records, word_at}
use Rattle.tree_read.specs.Nodes.{used_of, node_keys, node_values}
use Rattle.tree_read.specs.Trees.{pairs_below, IsNode}
use Rattle.tree_read.proofs.ChildLemmas.{IsNode-lower, child-node, child-all, children, get_or-node_values, values-size}
use Rattle.tree_read.proofs.ReadLemmas.{node-even, node-size}

pub leaf-keys : (m : Records) (leaf : ℕ) → IsNode m 1 0 leaf → keys_of (pairs_below m 0 leaf) ≡ node_keys (m leaf)
leaf-keys m leaf node =
    ap (λ (ps : List (ℕ × ℕ)). keys_of ps) (leaf_pairs m leaf) ∙ keys_of-zip (node_keys (m leaf)) (node_values (m leaf)) (sym (node-even m 1 0 leaf node))

keys-append : (xs ys : List (ℕ × ℕ)) → keys_of (xs ++ ys) ≡ keys_of xs ++ keys_of ys
keys-append [] ys = refl
keys-append (x ∷ xs) ys = ap (λ (ks : List ℕ). x.0 ∷ ks) (keys-append xs ys)

one_more : (f : ℕ → List (ℕ × ℕ)) (xs : List ℕ) (i : ℕ) → i < length xs
    → keys_of (flat_map f (take (suc i) xs)) ≡ keys_of (flat_map f (take i xs)) ++ keys_of (f (get_or xs i 0))
one_more f [] i below = absurd (omega arith)
one_more f (x ∷ xs) zero below = ap (λ (ps : List (ℕ × ℕ)). keys_of ps) (append-nil (f x))
one_more f (x ∷ xs) (suc i) below =
    keys-append (f x) (flat_map f (take (suc i) xs))
    ∙ ap (λ (ks : List ℕ). keys_of (f x) ++ ks) (one_more f xs i (omega arith))
    ∙ sym (append_assoc (keys_of (f x)) (keys_of (flat_map f (take i xs))) (keys_of (f (get_or xs i 0))))
    ∙ ap (λ (ks : List ℕ). ks ++ keys_of (f (get_or xs i 0))) (sym (keys-append (f x) (flat_map f (take i xs))))

-- a node above the leaves, and a slot of it
module _ (m : Records) (level l ref : ℕ) (above : level ≡ suc l) (node : IsNode m 1 level ref) where
  pub slot-child : (i : ℕ) → i < used_of (m ref) → IsNode m 1 l (word_at m ref (18 + i))
  slot-child i low = IsNode-lower m 8 1 l (word_at m ref (18 + i)) (omega arith) (child-node m 1 level l ref above node i low)

  pub slot-all : (P : ℕ → Type 0) → AllByRecursion (λ p. P p.0) (pairs_below m level ref) → (i : ℕ) → i < used_of (m ref)
      → AllByRecursion (λ p. P p.0) (pairs_below m l (word_at m ref (18 + i)))
  slot-all P all i low = child-all m 1 level l ref above node (λ (p : ℕ × ℕ). P p.0) all i low

  pub slot-some : (i : ℕ) → i < used_of (m ref) → 0 < length (m (word_at m ref (18 + i)))
  slot-some i low = let size = node-size m 1 l (word_at m ref (18 + i)) (slot-child i low) in omega arith

  -- the keys below one child more
  pub keys-more : (i next : ℕ) → next ≡ suc i → i < used_of (m ref)
      → keys_of (flat_map (pairs_below m l) (take next (node_values (m ref))))
      ≡ keys_of (flat_map (pairs_below m l) (take i (node_values (m ref)))) ++ keys_of (pairs_below m l (word_at m ref (18 + i)))
  keys-more i next is low =
      ap (λ (n : ℕ). keys_of (flat_map (pairs_below m l) (take n (node_values (m ref))))) is
      ∙ one_more (pairs_below m l) (node_values (m ref)) i (let size = values-size m 1 level l ref above node in omega arith)
      ∙ ap (λ (q : ℕ). keys_of (flat_map (pairs_below m l) (take i (node_values (m ref)))) ++ keys_of (pairs_below m l q)) (get_or-node_values (m ref) i low)

  -- past the last child all keys were there
  pub keys-past : (i : ℕ) → used_of (m ref) ≤ i → keys_of (flat_map (pairs_below m l) (take i (node_values (m ref)))) ≡ keys_of (pairs_below m level ref)
  keys-past i high =
      ap (λ (qs : List ℕ). keys_of (flat_map (pairs_below m l) qs)) (take_all i (node_values (m ref)) (let size = values-size m 1 level l ref above node in omega arith))
      ∙ ap (λ (ps : List (ℕ × ℕ)). keys_of ps) (sym (children m 1 level l ref above node))

-- what a child owes, where the records are the same
pub child-asks : {F : Type 0} (records : F → Records) (m : Records) (now : F) → records now ≡ m → (P : ℕ → Type 0) (l k : ℕ) → l ≡ k
    → (ref i child : ℕ) → child ≡ word_at m ref (18 + i) → i < used_of (m ref) → IsNode m 1 (suc l) ref → AllByRecursion (λ p. P p.0) (pairs_below m (suc l) ref)
    → IsNode (records now) 1 k child × AllByRecursion (λ p. P p.0) (pairs_below (records now) k child)
child-asks records m now same P l k is ref i child at low node all =
    subst (λ (n : Records). IsNode n 1 k child × AllByRecursion (λ (p : ℕ × ℕ). P p.0) (pairs_below n k child)) (sym same)
    (subst (λ (j : ℕ). IsNode m 1 j child × AllByRecursion (λ (p : ℕ × ℕ). P p.0) (pairs_below m j child)) is
    (subst (λ (q : ℕ). IsNode m 1 l q × AllByRecursion (λ (p : ℕ × ℕ). P p.0) (pairs_below m l q)) (sym at)
    (slot-child m (suc l) l ref refl node i low, slot-all m (suc l) l ref refl node P all i low)))
