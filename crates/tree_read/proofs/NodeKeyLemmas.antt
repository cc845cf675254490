-- What holds of the keys of all pairs below slots holds of the slots' keys.
use Rattle.std.proofs.Common.{◌≡◌, ℕ, zero, suc, ◌<◌, List, [], ◌∷◌, length, map, get_or, sym, ap, subst, ◌∙◌, arith}
use Rattle.std.specs.List.{zip, flat_map, AllByRecursion}
use Rattle.std.proofs.lemmas.List.{get_or-map}
use Rattle.list_lemmas.proofs.Each.{AllByRecursion-left, AllByRecursion-right}
use Rattle.entry_ref.specs.Records.{Records}
use Rattle.tree_read.specs.Trees.{pairs_below, last_key, IsNode}
use Rattle.tree_read.specs.Slots.{slot_pairs, HaveChildren, IsInHand}
use Rattle.tree_read.proofs.ChildLemmas.{All-last, pairs-some}

module _ (P : ℕ → Type 0) where
  zip_all : (ks vs : List ℕ) → length ks ≡ length vs → AllByRecursion (λ p. P p.0) (zip ks vs) → AllByRecursion P ks
  zip_all [] vs e all = tt
  zip_all (k ∷ ks) [] e all = absurd (omega arith)
  zip_all (k ∷ ks) (v ∷ vs) e all = (all.0, zip_all ks vs (omega arith) all.1)

  children_all : (f : ℕ → List (ℕ × ℕ)) (Q : ℕ → Type 0) → ((v : ℕ) → Q v → 0 < length (f v)) → (vs : List ℕ) → AllByRecursion Q vs
      → AllByRecursion (λ p. P p.0) (flat_map f vs) → AllByRecursion P (map (λ v. last_key (f v)) vs)
  children_all f Q some [] nodes all = tt
  children_all f Q some (v ∷ vs) nodes all = (
    All-last P (f v) (some v nodes.0) (AllByRecursion-left (λ (p : ℕ × ℕ). P p.0) (f v) (flat_map f vs) all),
    children_all f Q some vs nodes.1 (AllByRecursion-right (λ (p : ℕ × ℕ). P p.0) (f v) (flat_map f vs) all),
  )

  pub keys_all : (m : Records) (level : ℕ) (ks vs : List ℕ) → IsInHand m level ks vs → AllByRecursion (λ p. P p.0) (slot_pairs m level ks vs) → AllByRecursion P ks
  unfolding slot_pairs HaveChildren
  keys_all m zero ks vs hand all = zip_all ks vs hand.even all
  keys_all m (suc level) ks vs hand all =
      subst (AllByRecursion P) (sym hand.children.0) (children_all (pairs_below m level) (IsNode m 8 level) (λ v is. pairs-some m 8 level v (omega arith) is) vs hand.children.1 all)

-- the key of a slot above the leaves is the last of its child
pub key_last : (m : Records) (level : ℕ) (ks vs : List ℕ) (i : ℕ) → IsInHand m (suc level) ks vs → i < length vs → get_or ks i 0 ≡ last_key (pairs_below m level (get_or vs i 0))
unfolding HaveChildren
key_last m level ks vs i hand low = ap (λ xs. get_or xs i 0) hand.children.0 ∙ get_or-map (λ v. last_key (pairs_below m level v)) vs i 0 0 low
