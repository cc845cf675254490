-- The words of values, where one value's pair was put among the pairs or taken out: every other value has the word that it had.
use Rattle.std.proofs.Common.{◌≡◌, ℕ, List, [], ◌∷◌, map, None, Some, Option, inl, inr, ◌⊎◌, refl, sym, ap, ◌∙◌}
use Rattle.std.specs.declared.cmp.Ordering.{Ordering}
use Rattle.std.specs.declared.cmp.Ordering.TheVariants.{Less, Equal, Greater}
use Rattle.std.specs.List.{AllByRecursion}
use Rattle.std.specs.List.Sorted.{IsStrictlySortedBy}
use Rattle.std.specs.Option.{unwrap_or}
use Rattle.std.specs.Ordering.{ordering_reverse}
use Rattle.entry_ref.specs.Records.{Among}
use Rattle.tree_read.specs.Pairs.{choose, lookup, put, take_out}
use Rattle.attr_types.specs.ProofsForOrder.{value_cmp_total, value_cmp_exact}
use Rattle.attr_types.specs.Value.{value_cmp}
use Rattle.attr_types.specs.declared.value.Value.{Value}
use Rattle.value_index.proofs.PairLemmas.{keys}

-- ---- keys
module _ (c : ℕ → Ordering) (k : ℕ) where
  behind : (q : ℕ) (qs rs : List ℕ) → (Among k qs → Among k rs) → Among k (q ∷ qs) → Among k (q ∷ rs)
  behind q qs rs more (inl e) = inl e
  behind q qs rs more (inr later) = inr (more later)

  -- what is left after one was taken out was there
  pub taken_among : (ps : List (ℕ × ℕ)) → Among k (keys (take_out c ps)) → Among k (keys ps)
  taken_among [] among = among
  taken_among (q ∷ ps) among =
      (elim (c q.0) as (λ o. Among k (keys (choose o (q ∷ take_out c ps) ps (q ∷ ps))) → Among k (keys (q ∷ ps))) [
        | Less ↦ λ h. behind q.0 (keys (take_out c ps)) (keys ps) (taken_among ps) h
        | Equal ↦ λ h. inr h
        | Greater ↦ λ h. h
      ]) among

  later : (p q : ℕ) (qs rs : List ℕ) → (Among k qs → (k ≡ p) ⊎ Among k rs) → Among k (q ∷ qs) → (k ≡ p) ⊎ Among k (q ∷ rs)
  later p q qs rs more (inl e) = inr (inl e)
  later p q qs rs more (inr h) = past (more h)
    where
      past : (k ≡ p) ⊎ Among k rs → (k ≡ p) ⊎ Among k (q ∷ rs)
      past (inl e) = inl e
      past (inr h) = inr (inr h)

  -- after one was put in, there is that one and what was there
  pub put_among : (p : ℕ × ℕ) (ps : List (ℕ × ℕ)) → Among k (keys (put c p ps)) → (k ≡ p.0) ⊎ Among k (keys ps)
  put_among p [] (inl e) = inl e
  put_among p [] (inr h) = absurd h
  put_among p (q ∷ ps) among =
      (elim (c q.0) as (λ o. Among k (keys (choose o (q ∷ put c p ps) (p ∷ ps) (p ∷ q ∷ ps))) → (k ≡ p.0) ⊎ Among k (keys (q ∷ ps))) [
        | Less ↦ λ h. later p.0 q.0 (keys (put c p ps)) (keys ps) (put_among p ps) h
        | Equal ↦ λ h. over h
        | Greater ↦ λ h. before h
      ]) among
    where
      over : Among k (p.0 ∷ keys ps) → (k ≡ p.0) ⊎ Among k (keys (q ∷ ps))
      over (inl e) = inl e
      over (inr h) = inr (inr h)

      before : Among k (p.0 ∷ keys (q ∷ ps)) → (k ≡ p.0) ⊎ Among k (keys (q ∷ ps))
      before (inl e) = inl e
      before (inr h) = inr h

-- ---- the word that is found
abbrev pub found_word : (ℕ → Ordering) → List (ℕ × ℕ) → ℕ
found_word c ps = unwrap_or (lookup c ps) 0

-- the value's own, which was put in or is out
module _ (c d : ℕ → Ordering) where
  pub put_word : (p : ℕ × ℕ) → d p.0 ≡ Equal → (ps : List (ℕ × ℕ)) → AllByRecursion (λ q. d q.0 ≡ c q.0) (take_out c ps) → lookup d (put c p ps) ≡ Some p.1
  put_word p equal [] all = ap (λ o. choose o None (Some p.1) None) equal
  put_word p equal (q ∷ ps) all =
      (elim (c q.0) as (λ o. c q.0 ≡ o → AllByRecursion (λ x. d x.0 ≡ c x.0) (choose o (q ∷ take_out c ps) ps (q ∷ ps))
      → lookup d (choose o (q ∷ put c p ps) (p ∷ ps) (p ∷ q ∷ ps)) ≡ Some p.1) [
        | Less ↦ λ is h. ap (λ o. choose o (lookup d (put c p ps)) (Some q.1) None) (h.0 ∙ is) ∙ put_word p equal ps h.1
        | Equal ↦ λ is h. ap (λ o. choose o (lookup d ps) (Some p.1) None) equal
        | Greater ↦ λ is h. ap (λ o. choose o (lookup d (q ∷ ps)) (Some p.1) None) equal
      ]) refl all

above : (a b : Value) → value_cmp b a ≡ Less → value_cmp a b ≡ Greater
above a b less = value_cmp_total.antisymm a b ∙ ap ordering_reverse less

below : (a b : Value) → value_cmp b a ≡ Greater → value_cmp a b ≡ Less
below a b greater = value_cmp_total.antisymm a b ∙ ap ordering_reverse greater

-- above what is above
above_both : (a b c : Value) → value_cmp a b ≡ Greater → value_cmp b c ≡ Greater → value_cmp a c ≡ Greater
above_both a b c one two = above a c (value_cmp_total.trans c b a (below c b two) (below b a one))

-- what is behind a key above the one sought is not it
module _ (v : ℕ → Value) (value : Value) (d : ℕ → Ordering) where
  pub none_behind : (q : ℕ) (ps : List (ℕ × ℕ)) → value_cmp (v q) value ≡ Greater ⊎ value_cmp (v q) value ≡ Equal
      → AllByRecursion (λ x. value_cmp (v q) x ≡ Less) (map (λ p. v p.0) ps)
      → AllByRecursion (λ p. d p.0 ≡ value_cmp (v p.0) value) ps → lookup d ps ≡ None
  none_behind q [] high up all = refl
  none_behind q (p ∷ ps) high up all = ap (λ o. choose o (lookup d ps) (Some p.1) None) (all.0 ∙ higher high)
    where
      higher : value_cmp (v q) value ≡ Greater ⊎ value_cmp (v q) value ≡ Equal → value_cmp (v p.0) value ≡ Greater
      higher (inl greater) = above_both (v p.0) (v q) value (above (v p.0) (v q) up.0) greater
      higher (inr equal) = ap (value_cmp (v p.0)) (sym (value_cmp_exact (v q) value equal)) ∙ above (v p.0) (v q) up.0

  pub out_word : (ps : List (ℕ × ℕ)) → IsStrictlySortedBy value_cmp (map (λ p. v p.0) ps)
      → AllByRecursion (λ p. d p.0 ≡ value_cmp (v p.0) value) (take_out (λ k. value_cmp (v k) value) ps)
      → lookup d (take_out (λ k. value_cmp (v k) value) ps) ≡ None
  unfolding IsStrictlySortedBy
  out_word [] up all = refl
  out_word (q ∷ ps) up all =
      (elim (value_cmp (v q.0) value) as (λ o. value_cmp (v q.0) value ≡ o
      → AllByRecursion (λ p. d p.0 ≡ value_cmp (v p.0) value) (choose o (q ∷ take_out (λ k. value_cmp (v k) value) ps) ps (q ∷ ps))
      → lookup d (choose o (q ∷ take_out (λ k. value_cmp (v k) value) ps) ps (q ∷ ps)) ≡ None) [
        | Less ↦ λ is h. ap (λ o. choose o (lookup d (take_out (λ k. value_cmp (v k) value) ps)) (Some q.1) None) (h.0 ∙ is) ∙ out_word ps up.1 h.1
        | Equal ↦ λ is h. none_behind q.0 ps (inr is) up.0 h
        | Greater ↦ λ is h. ap (λ o. choose o (lookup d ps) (Some q.1) None) (h.0 ∙ is)
      ]) refl all

-- those of other values: what words tell is told by f before and by g after
module _ (f g : ℕ → List ℕ) (none : g 0 ≡ f 0) where
  abbrev SameWord : (ℕ → Ordering) → (ℕ → Ordering) → ℕ × ℕ → Type 0
  SameWord c d q = (d q.0 ≡ c q.0) × (g q.1 ≡ f q.1)

  chosen : (o : Ordering) (x y : Option ℕ) (w : ℕ) → g (unwrap_or x 0) ≡ f (unwrap_or y 0) → g w ≡ f w
      → g (unwrap_or (choose o x (Some w) None) 0) ≡ f (unwrap_or (choose o y (Some w) None) 0)
  chosen Less x y w rest here = rest
  chosen Equal x y w rest here = here
  chosen Greater x y w rest here = none

  pub words_as : (c d : ℕ → Ordering) (ps : List (ℕ × ℕ)) → AllByRecursion (SameWord c d) ps → g (found_word d ps) ≡ f (found_word c ps)
  words_as c d [] all = none
  words_as c d (q ∷ ps) all =
      ap (λ o. g (unwrap_or (choose o (lookup d ps) (Some q.1) None) 0)) all.0.0
      ∙ chosen (c q.0) (lookup d ps) (lookup c ps) q.1 (words_as c d ps all.1) all.0.1

  module _ (v : ℕ → Value) (value other : Value) (apart : value_cmp value other ≡ Equal → ⊥) (d : ℕ → Ordering) where
    abbrev c : ℕ → Ordering
    c k = value_cmp (v k) value

    abbrev e : ℕ → Ordering
    e k = value_cmp (v k) other

    passed : (o : Ordering) → (o ≡ Equal → ⊥) → (x : Option ℕ) (w : ℕ) (y : List ℕ) → (o ≡ Less → g (unwrap_or x 0) ≡ y) → (o ≡ Greater → f 0 ≡ y)
        → g (unwrap_or (choose o x (Some w) None) 0) ≡ y
    passed Less not x w y less greater = less refl
    passed Equal not x w y less greater = absurd (not refl)
    passed Greater not x w y less greater = none ∙ greater refl

    -- a key that is the value's
    same_key : (q : ℕ) → c q ≡ Equal → e q ≡ value_cmp value other
    same_key q is = ap (λ (x : Value). value_cmp x other) (value_cmp_exact (v q) value is)

    pub put_other : (p : ℕ × ℕ) → d p.0 ≡ value_cmp value other → (ps : List (ℕ × ℕ)) → AllByRecursion (SameWord e d) (take_out c ps)
        → g (found_word d (put c p ps)) ≡ f (found_word e ps)
    put_other p at [] all =
        ap (λ o. g (unwrap_or (choose o None (Some p.1) None) 0)) at ∙ passed (value_cmp value other) apart None p.1 (f 0) (λ less. none) (λ greater. refl)
    put_other p at (q ∷ ps) all =
        (elim (c q.0) as (λ o. c q.0 ≡ o → AllByRecursion (SameWord e d) (choose o (q ∷ take_out c ps) ps (q ∷ ps))
        → g (found_word d (choose o (q ∷ put c p ps) (p ∷ ps) (p ∷ q ∷ ps))) ≡ f (found_word e (q ∷ ps))) [
          | Less ↦ λ is h.
              ap (λ o. g (unwrap_or (choose o (lookup d (put c p ps)) (Some q.1) None) 0)) h.0.0
              ∙ chosen (e q.0) (lookup d (put c p ps)) (lookup e ps) q.1 (put_other p at ps h.1) h.0.1
          | Equal ↦ λ is h.
              ap (λ o. g (unwrap_or (choose o (lookup d ps) (Some p.1) None) 0)) at
              ∙ passed (value_cmp value other) apart (lookup d ps) p.1 (f (found_word e (q ∷ ps)))
              (λ less. words_as e d ps h ∙ ap (λ o. f (unwrap_or (choose o (lookup e ps) (Some q.1) None) 0)) (sym (same_key q.0 is ∙ less)))
              (λ greater. ap (λ o. f (unwrap_or (choose o (lookup e ps) (Some q.1) None) 0)) (sym (same_key q.0 is ∙ greater)))
          | Greater ↦ λ is h.
              ap (λ o. g (unwrap_or (choose o (lookup d (q ∷ ps)) (Some p.1) None) 0)) at
              ∙ passed (value_cmp value other) apart (lookup d (q ∷ ps)) p.1 (f (found_word e (q ∷ ps)))
              (λ less. words_as e d (q ∷ ps) h)
              (λ greater. ap (λ o. f (unwrap_or (choose o (lookup e ps) (Some q.1) None) 0)) (sym (above_both (v q.0) value other is greater)))
        ]) refl all

    pub out_other : (ps : List (ℕ × ℕ)) → IsStrictlySortedBy value_cmp (map (λ p. v p.0) ps) → AllByRecursion (SameWord e d) (take_out c ps)
        → g (found_word d (take_out c ps)) ≡ f (found_word e ps)
    unfolding IsStrictlySortedBy
    out_other [] up all = none
    out_other (q ∷ ps) up all =
        (elim (c q.0) as (λ o. c q.0 ≡ o → AllByRecursion (SameWord e d) (choose o (q ∷ take_out c ps) ps (q ∷ ps))
        → g (found_word d (choose o (q ∷ take_out c ps) ps (q ∷ ps))) ≡ f (found_word e (q ∷ ps))) [
          | Less ↦ λ is h.
              ap (λ o. g (unwrap_or (choose o (lookup d (take_out c ps)) (Some q.1) None) 0)) h.0.0
              ∙ chosen (e q.0) (lookup d (take_out c ps)) (lookup e ps) q.1 (out_other ps up.1 h.1) h.0.1
          | Equal ↦ λ is h. words_as e d ps h ∙ sym (skipped q ps up.0 is)
          | Greater ↦ λ is h. words_as e d (q ∷ ps) h
        ]) refl all
      where
        all_same : (ps : List (ℕ × ℕ)) → AllByRecursion (λ p. e p.0 ≡ value_cmp (v p.0) other) ps
        all_same [] = tt
        all_same (p ∷ ps) = (refl, all_same ps)

        -- another value is not that of the key that was taken out
        skipped : (q : ℕ × ℕ) (ps : List (ℕ × ℕ)) → AllByRecursion (λ x. value_cmp (v q.0) x ≡ Less) (map (λ p. v p.0) ps) → c q.0 ≡ Equal
            → f (found_word e (q ∷ ps)) ≡ f (found_word e ps)
        skipped q ps up is = by (value_cmp value other) refl
          where
            by : (o : Ordering) → value_cmp value other ≡ o → f (found_word e (q ∷ ps)) ≡ f (found_word e ps)
            by Less less = ap (λ o. f (unwrap_or (choose o (lookup e ps) (Some q.1) None) 0)) (same_key q.0 is ∙ less)
            by Equal equal = absurd (apart equal)
            by Greater greater =
                ap (λ o. f (unwrap_or (choose o (lookup e ps) (Some q.1) None) 0)) (same_key q.0 is ∙ greater)
                ∙ ap (λ (x : Option ℕ). f (unwrap_or x 0)) (sym (none_behind v other e q.0 ps (inl (same_key q.0 is ∙ greater)) up (all_same ps)))
