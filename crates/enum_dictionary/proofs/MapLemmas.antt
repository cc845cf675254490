-- Which pair is found at a key, after a change at it and at another. A key k reads as `reads k`.
use Rattle.std.proofs.Common.{◌≡◌, ◌≢◌, ℕ, List, [], ◌∷◌, map, Option, None, Some, refl, sym, ap, ◌∙◌}
use Rattle.std.specs.Cmp.{IsTotalOrder}
use Rattle.std.specs.declared.cmp.Ordering.{Ordering}
use Rattle.std.specs.declared.cmp.Ordering.TheVariants.{Less, Equal, Greater}
use Rattle.std.specs.List.{AllByRecursion}
use Rattle.std.specs.List.Sorted.{IsStrictlySortedBy}
use Rattle.std.specs.Ordering.{ordering_reverse}
use Rattle.tree_read.proofs.OrderLemmas.{choose_apart, choose_same}
use Rattle.tree_read.specs.Pairs.{choose, lookup_pair, put, take_out}

module _ {V : Type 0} (order : V → V → Ordering) (total : IsTotalOrder order) where
  above_less : (a b : V) → order a b ≡ Less → order b a ≡ Greater
  above_less a b h = total.antisymm b a ∙ ap ordering_reverse h

  below_greater : (a b : V) → order a b ≡ Greater → order b a ≡ Less
  below_greater a b h = total.antisymm b a ∙ ap ordering_reverse h

  greater_then : (a b c : V) → order a b ≡ Greater → order b c ≡ Greater → order a c ≡ Greater
  greater_then a b c h g = above_less c a (total.trans c b a (below_greater b c g) (below_greater a b h))

  module _ (reads : ℕ → V) where
    -- where the first key is above the one sought, or there is none, nothing is found
    none_above : (t : V) (ps : List (ℕ × ℕ)) (a : V) → ((v : V) → order a v ≡ Less → order v t ≡ Greater)
        → AllByRecursion (λ v. order a v ≡ Less) (map (λ p. reads p.0) ps) → lookup_pair (λ k. order (reads k) t) ps ≡ None
    none_above t [] a above all = refl
    none_above t (p ∷ ps) a above all =
        ap (λ o. choose o (lookup_pair (λ k. order (reads k) t) ps) (Some p) None) (above (reads p.0) all.0)

    module _ (s t : V) (apart : order s t ≢ Equal) where
      pub put_others : (pair : ℕ × ℕ) (ps : List (ℕ × ℕ)) → order (reads pair.0) s ≡ Equal
          → lookup_pair (λ k. order (reads k) t) (put (λ k. order (reads k) s) pair ps) ≡ lookup_pair (λ k. order (reads k) t) ps
      put_others pair [] e =
          ap (λ o. choose o None (Some pair) None) (total.congr (reads pair.0) s t e)
          ∙ choose_same (order s t) apart None (Some pair)
      put_others pair (p ∷ ps) e =
          let at : ℕ → Ordering = λ k. order (reads k) s in
          let other : ℕ → Ordering = λ k. order (reads k) t in
          (elim (at p.0) as (λ o. at p.0 ≡ o → lookup_pair other (choose o (p ∷ put at pair ps) (pair ∷ ps) (pair ∷ p ∷ ps)) ≡ lookup_pair other (p ∷ ps)) [
            | Less ↦ λ h. ap (λ found. choose (other p.0) found (Some p) None) (put_others pair ps e)
            | Equal ↦ λ h.
                ap (λ o. choose o (lookup_pair other ps) (Some pair) None) (total.congr (reads pair.0) s t e)
                ∙ choose_apart (order s t) apart (lookup_pair other ps) (Some pair) (Some p) None
                ∙ sym (ap (λ o. choose o (lookup_pair other ps) (Some p) None) (total.congr (reads p.0) s t h))
            | Greater ↦ λ h.
                ap (λ o. choose o (lookup_pair other (p ∷ ps)) (Some pair) None) (total.congr (reads pair.0) s t e)
                ∙ in_front (order s t) refl p ps h (Some pair)
          ]) refl
        where
          in_front : (o : Ordering) → order s t ≡ o → (p : ℕ × ℕ) (ps : List (ℕ × ℕ)) → order (reads p.0) s ≡ Greater → (found : Option (ℕ × ℕ))
              → choose o (lookup_pair (λ k. order (reads k) t) (p ∷ ps)) found None ≡ lookup_pair (λ k. order (reads k) t) (p ∷ ps)
          in_front Less is p ps h found = refl
          in_front Equal is p ps h found = absurd (apart is)
          in_front Greater is p ps h found =
              sym (ap (λ o. choose o (lookup_pair (λ k. order (reads k) t) ps) (Some p) None) (greater_then (reads p.0) s t h is))

      pub take_out_others : (ps : List (ℕ × ℕ)) → IsStrictlySortedBy order (map (λ p. reads p.0) ps)
          → lookup_pair (λ k. order (reads k) t) (take_out (λ k. order (reads k) s) ps) ≡ lookup_pair (λ k. order (reads k) t) ps
      unfolding IsStrictlySortedBy
      take_out_others [] up = refl
      take_out_others (p ∷ ps) up =
          let at : ℕ → Ordering = λ k. order (reads k) s in
          let other : ℕ → Ordering = λ k. order (reads k) t in
          (elim (at p.0) as (λ o. at p.0 ≡ o → lookup_pair other (choose o (p ∷ take_out at ps) ps (p ∷ ps)) ≡ lookup_pair other (p ∷ ps)) [
            | Less ↦ λ h. ap (λ found. choose (other p.0) found (Some p) None) (take_out_others ps up.1)
            | Equal ↦ λ h.
                behind (order s t) refl p ps h up.0
                ∙ sym (ap (λ o. choose o (lookup_pair other ps) (Some p) None) (total.congr (reads p.0) s t h))
            | Greater ↦ λ h. refl
          ]) refl
        where
          behind : (o : Ordering) → order s t ≡ o → (p : ℕ × ℕ) (ps : List (ℕ × ℕ)) → order (reads p.0) s ≡ Equal
              → AllByRecursion (λ v. order (reads p.0) v ≡ Less) (map (λ p. reads p.0) ps)
              → lookup_pair (λ k. order (reads k) t) ps ≡ choose o (lookup_pair (λ k. order (reads k) t) ps) (Some p) None
          behind Less is p ps h all = refl
          behind Equal is p ps h all = absurd (apart is)
          behind Greater is p ps h all =
              none_above t ps (reads p.0) (λ v less. greater_then v s t (above_less s v (sym (total.congr (reads p.0) s v h) ∙ less)) is) all

    pub take_out_gone : (s : V) (ps : List (ℕ × ℕ)) → IsStrictlySortedBy order (map (λ p. reads p.0) ps)
        → lookup_pair (λ k. order (reads k) s) (take_out (λ k. order (reads k) s) ps) ≡ None
    unfolding IsStrictlySortedBy
    take_out_gone s [] up = refl
    take_out_gone s (p ∷ ps) up =
        let at : ℕ → Ordering = λ k. order (reads k) s in
        (elim (at p.0) as (λ o. at p.0 ≡ o → lookup_pair at (choose o (p ∷ take_out at ps) ps (p ∷ ps)) ≡ None) [
          | Less ↦ λ h. ap (λ o. choose o (lookup_pair at (take_out at ps)) (Some p) None) h ∙ take_out_gone s ps up.1
          | Equal ↦ λ h. none_above s ps (reads p.0) (λ v less. above_less s v (sym (total.congr (reads p.0) s v h) ∙ less)) up.0
          | Greater ↦ λ h. ap (λ o. choose o (lookup_pair at ps) (Some p) None) h
        ]) refl

-- the pair that was put is found at its key
pub put_found : (c : ℕ → Ordering) (pair : ℕ × ℕ) (ps : List (ℕ × ℕ)) → c pair.0 ≡ Equal → lookup_pair c (put c pair ps) ≡ Some pair
put_found c pair [] e = ap (λ o. choose o None (Some pair) None) e
put_found c pair (p ∷ ps) e =
    (elim (c p.0) as (λ o. c p.0 ≡ o → lookup_pair c (choose o (p ∷ put c pair ps) (pair ∷ ps) (pair ∷ p ∷ ps)) ≡ Some pair) [
      | Less ↦ λ h. ap (λ o. choose o (lookup_pair c (put c pair ps)) (Some p) None) h ∙ put_found c pair ps e
      | Equal ↦ λ h. ap (λ o. choose o (lookup_pair c ps) (Some pair) None) e
      | Greater ↦ λ h. ap (λ o. choose o (lookup_pair c (p ∷ ps)) (Some pair) None) e
    ]) refl
