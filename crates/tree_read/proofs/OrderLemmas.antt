-- Lists whose keys ascend: parts of them, and that they ascend after a change. A key k reads as `reads k`.
use Rattle.std.proofs.Common.{◌≡◌, ◌≢◌, ℕ, zero, suc, ◌<◌, ◌≤◌, List, [], ◌∷◌, ◌++◌, length, get_or, take, map, refl, sym, ap, ◌∙◌, arith}
use Rattle.std.specs.Cmp.{IsTotalOrder}
use Rattle.std.specs.declared.cmp.Ordering.{Ordering}
use Rattle.std.specs.declared.cmp.Ordering.TheVariants.{Less, Equal, Greater}
use Rattle.std.specs.Ordering.{ordering_reverse}
use Rattle.std.specs.List.{flat_map, AllByRecursion}
use Rattle.std.specs.List.Sorted.{IsStrictlySortedBy}
use Rattle.list_lemmas.proofs.Each.{AllByRecursion-append}
use Rattle.tree_read.specs.Trees.{last_key}
use Rattle.tree_read.specs.Keys.{AllBelow}
use Rattle.tree_read.specs.Pairs.{choose, put, take_out}

-- at another key nothing is chosen by what stands at the one
pub choose_apart : {A : Type 0} (o : Ordering) → o ≢ Equal → (less a b greater : A) → choose o less a greater ≡ choose o less b greater
choose_apart Less apart less a b greater = refl
choose_apart Equal apart less a b greater = absurd (apart refl)
choose_apart Greater apart less a b greater = refl

pub choose_same : {A : Type 0} (o : Ordering) → o ≢ Equal → (a b : A) → choose o a b a ≡ a
choose_same Less apart a b = refl
choose_same Equal apart a b = absurd (apart refl)
choose_same Greater apart a b = refl

-- what reads equal to the one sought is beside every other as that is
pub equal_right : {V : Type 0} (order : V → V → Ordering) → IsTotalOrder order → (a b s : V) → order b s ≡ Equal → order a b ≡ order a s
equal_right order total a b s e = total.antisymm a b ∙ ap ordering_reverse (total.congr b s a e) ∙ sym (total.antisymm a s)

map_all-left : {V : Type 0} (P : V → Type 0) (reads : ℕ → V) (xs ys : List (ℕ × ℕ)) → AllByRecursion P (map (λ p. reads p.0) (xs ++ ys)) → AllByRecursion P (map (λ p. reads p.0) xs)
map_all-left P reads [] ys h = tt
map_all-left P reads (x ∷ xs) ys h = (h.0, map_all-left P reads xs ys h.1)

map_all-put : {V : Type 0} (P : V → Type 0) (reads : ℕ → V) (c : ℕ → Ordering) (pair : ℕ × ℕ) (ps : List (ℕ × ℕ))
    → P (reads pair.0) → AllByRecursion P (map (λ p. reads p.0) ps) → AllByRecursion P (map (λ p. reads p.0) (put c pair ps))
map_all-put P reads c pair [] new all = (new, tt)
map_all-put P reads c pair (p ∷ ps) new all =
    elim (c p.0) as (λ o. AllByRecursion P (map (λ (q : ℕ × ℕ). reads q.0) (choose o (p ∷ put c pair ps) (pair ∷ ps) (pair ∷ p ∷ ps)))) [
      | Less ↦ (all.0, map_all-put P reads c pair ps new all.1)
      | Equal ↦ (new, all.1)
      | Greater ↦ (new, all)
    ]

map_all-take_out : {V : Type 0} (P : V → Type 0) (reads : ℕ → V) (c : ℕ → Ordering) (ps : List (ℕ × ℕ))
    → AllByRecursion P (map (λ p. reads p.0) ps) → AllByRecursion P (map (λ p. reads p.0) (take_out c ps))
map_all-take_out P reads c [] all = tt
map_all-take_out P reads c (p ∷ ps) all =
    elim (c p.0) as (λ o. AllByRecursion P (map (λ (q : ℕ × ℕ). reads q.0) (choose o (p ∷ take_out c ps) ps (p ∷ ps)))) [
      | Less ↦ (all.0, map_all-take_out P reads c ps all.1)
      | Equal ↦ all.1
      | Greater ↦ all
    ]

map_all-then : {V : Type 0} (P Q : V → Type 0) (reads : ℕ → V) → ((v : V) → P v → Q v) → (ps : List (ℕ × ℕ))
    → AllByRecursion P (map (λ p. reads p.0) ps) → AllByRecursion Q (map (λ p. reads p.0) ps)
map_all-then P Q reads each [] all = tt
map_all-then P Q reads each (p ∷ ps) all = (each (reads p.0) all.0, map_all-then P Q reads each ps all.1)

module _ {V : Type 0} (order : V → V → Ordering) (reads : ℕ → V) where
  pub ascends-left : (xs ys : List (ℕ × ℕ)) → IsStrictlySortedBy order (map (λ p. reads p.0) (xs ++ ys)) → IsStrictlySortedBy order (map (λ p. reads p.0) xs)
  unfolding IsStrictlySortedBy
  ascends-left [] ys h = tt
  ascends-left (x ∷ xs) ys h = (map_all-left (λ v. order (reads x.0) v ≡ Less) reads xs ys h.0, ascends-left xs ys h.1)

  pub ascends-right : (xs ys : List (ℕ × ℕ)) → IsStrictlySortedBy order (map (λ p. reads p.0) (xs ++ ys)) → IsStrictlySortedBy order (map (λ p. reads p.0) ys)
  unfolding IsStrictlySortedBy
  ascends-right [] ys h = h
  ascends-right (x ∷ xs) ys h = ascends-right xs ys h.1

  -- the pairs of one child ascend
  pub ascends-child : (f : ℕ → List (ℕ × ℕ)) (cs : List ℕ) (i : ℕ) → i < length cs → IsStrictlySortedBy order (map (λ p. reads p.0) (flat_map f cs))
      → IsStrictlySortedBy order (map (λ p. reads p.0) (f (get_or cs i 0)))
  ascends-child f [] i h up = absurd (omega arith)
  ascends-child f (c ∷ cs) zero h up = ascends-left (f c) (flat_map f cs) up
  ascends-child f (c ∷ cs) (suc i) h up = ascends-child f cs i (omega arith) (ascends-right (f c) (flat_map f cs) up)

  -- a list whose last key is below the one sought is all below it
  pub below_last : IsTotalOrder order → (s : V) (xs : List (ℕ × ℕ)) → IsStrictlySortedBy order (map (λ p. reads p.0) xs)
      → order (reads (last_key xs)) s ≡ Less → AllBelow (λ k. order (reads k) s) xs
  unfolding IsStrictlySortedBy
  below_last total s [] up h = tt
  below_last total s (x ∷ []) up h = (h, tt)
  below_last total s (x ∷ y ∷ xs) up h =
      let rest = below_last total s (y ∷ xs) up.1 h in
      (total.trans (reads x.0) (reads y.0) s up.0.0 rest.0, rest)

  -- so are the pairs of all children in front of one, where their last keys are
  pub children-below : IsTotalOrder order → (s : V) (f : ℕ → List (ℕ × ℕ)) (cs : List ℕ) (i : ℕ) → i ≤ length cs → IsStrictlySortedBy order (map (λ p. reads p.0) (flat_map f cs))
      → ((j : ℕ) → j < i → order (reads (last_key (f (get_or cs j 0)))) s ≡ Less) → AllBelow (λ k. order (reads k) s) (flat_map f (take i cs))
  children-below total s f cs zero h up before = tt
  children-below total s f [] (suc i) h up before = tt
  children-below total s f (c ∷ cs) (suc i) h up before =
      AllByRecursion-append (λ (p : ℕ × ℕ). order (reads p.0) s ≡ Less) (f c) (flat_map f (take i cs))
      (below_last total s (f c) (ascends-left (f c) (flat_map f cs) up) (before 0 (omega arith)))
      (children-below total s f cs i (omega arith) (ascends-right (f c) (flat_map f cs) up) (λ j g. before (suc j) (omega arith)))

  module _ (total : IsTotalOrder order) (s : V) where
    -- a put pair whose key reads equal to the one sought
    pub put-ascends : (pair : ℕ × ℕ) (ps : List (ℕ × ℕ)) → order (reads pair.0) s ≡ Equal → IsStrictlySortedBy order (map (λ p. reads p.0) ps)
        → IsStrictlySortedBy order (map (λ p. reads p.0) (put (λ k. order (reads k) s) pair ps))
    unfolding IsStrictlySortedBy
    put-ascends pair [] e up = (tt, tt)
    put-ascends pair (p ∷ ps) e up =
        let seen : ℕ → Ordering = λ k. order (reads k) s in
        (elim (order (reads p.0) s) as (λ o. order (reads p.0) s ≡ o → IsStrictlySortedBy order (map (λ (q : ℕ × ℕ). reads q.0) (choose o (p ∷ put seen pair ps) (pair ∷ ps) (pair ∷ p ∷ ps)))) [
          | Less ↦ λ h. (
            map_all-put (λ v. order (reads p.0) v ≡ Less) reads seen pair ps (equal_right order total (reads p.0) (reads pair.0) s e ∙ h) up.0,
            put-ascends pair ps e up.1,
          )
          | Equal ↦ λ h. (
            map_all-then (λ v. order (reads p.0) v ≡ Less) (λ v. order (reads pair.0) v ≡ Less) reads
                (λ v a. total.congr (reads pair.0) s v e ∙ sym (total.congr (reads p.0) s v h) ∙ a) ps up.0,
            up.1,
          )
          | Greater ↦ λ h.
              let first : order (reads pair.0) (reads p.0) ≡ Less = total.congr (reads pair.0) s (reads p.0) e ∙ total.antisymm s (reads p.0) ∙ ap ordering_reverse h in (
                (
                  first,
                  map_all-then (λ v. order (reads p.0) v ≡ Less) (λ v. order (reads pair.0) v ≡ Less) reads
                      (λ v a. total.trans (reads pair.0) (reads p.0) v first a) ps up.0,
                ),
                up,
              )
        ]) refl

  pub take_out-ascends : (c : ℕ → Ordering) (ps : List (ℕ × ℕ)) → IsStrictlySortedBy order (map (λ p. reads p.0) ps)
      → IsStrictlySortedBy order (map (λ p. reads p.0) (take_out c ps))
  unfolding IsStrictlySortedBy
  take_out-ascends c [] up = up
  take_out-ascends c (p ∷ ps) up =
      elim (c p.0) as (λ o. IsStrictlySortedBy order (map (λ (q : ℕ × ℕ). reads q.0) (choose o (p ∷ take_out c ps) ps (p ∷ ps)))) [
        | Less ↦ (map_all-take_out (λ v. order (reads p.0) v ≡ Less) reads c ps up.0, take_out-ascends c ps up.1)
        | Equal ↦ up.1
        | Greater ↦ up
      ]
