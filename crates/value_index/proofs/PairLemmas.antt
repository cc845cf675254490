-- A pair put among pairs, or taken out, beside the others.
use Rattle.std.proofs.Common.{◌≡◌, ℕ, ◌+◌, List, [], ◌∷◌, map, None, Some, inl, inr, ◌⊎◌, refl, sym, ap, subst, ◌∙◌, arith}
use Rattle.std.specs.declared.cmp.Ordering.{Ordering}
use Rattle.std.specs.declared.cmp.Ordering.TheVariants.{Less, Equal, Greater}
use Rattle.std.specs.List.{flat_map, AllByRecursion}
use Rattle.list_lemmas.proofs.Options.{same_Some}
use Rattle.entry_ref.specs.Records.{Among}
use Rattle.tree_read.specs.Pairs.{choose, lookup_pair, put, take_out}
use Rattle.store_api.specs.Parts.{times}
use Rattle.store_api.proofs.Times.{times-append}

abbrev pub keys : List (ℕ × ℕ) → List ℕ
keys ps = map (λ p. p.0) ps

module _ (c : ℕ → Ordering) where
  module _ (P : ℕ × ℕ → Type 0) where
    pub all_taken : (ps : List (ℕ × ℕ)) → AllByRecursion P ps → AllByRecursion P (take_out c ps)
    all_taken [] all = tt
    all_taken (q ∷ ps) all =
        elim (c q.0) as (λ o. AllByRecursion P (choose o (q ∷ take_out c ps) ps (q ∷ ps))) [
          | Less ↦ (all.0, all_taken ps all.1)
          | Equal ↦ all.1
          | Greater ↦ all
        ]

    pub all_put : (p : ℕ × ℕ) (ps : List (ℕ × ℕ)) → P p → AllByRecursion P (take_out c ps) → AllByRecursion P (put c p ps)
    all_put p [] here all = (here, tt)
    all_put p (q ∷ ps) here all =
        (elim (c q.0) as (λ o. AllByRecursion P (choose o (q ∷ take_out c ps) ps (q ∷ ps)) → AllByRecursion P (choose o (q ∷ put c p ps) (p ∷ ps) (p ∷ q ∷ ps))) [
          | Less ↦ λ h. (h.0, all_put p ps here h.1)
          | Equal ↦ λ h. (here, h)
          | Greater ↦ λ h. (here, h)
        ]) all

    pub all_found : (p : ℕ × ℕ) (ps : List (ℕ × ℕ)) → AllByRecursion P ps → lookup_pair c ps ≡ Some p → P p
    all_found p [] all is = absurd (grind (arith, is))
    all_found p (q ∷ ps) all is =
        (elim (c q.0) as (λ o. choose o (lookup_pair c ps) (Some q) None ≡ Some p → P p) [
          | Less ↦ λ h. all_found p ps all.1 h
          | Equal ↦ λ h. subst P (same_Some q p h) all.0
          | Greater ↦ λ h. absurd (grind (arith, h))
        ]) is

  -- what the pairs reach, counted
  module _ (f : ℕ × ℕ → List ℕ) (r : ℕ) where
    more : (q : ℕ × ℕ) (ps : List (ℕ × ℕ)) → times r (flat_map f (q ∷ ps)) ≡ times r (f q) + times r (flat_map f ps)
    more q ps = times-append r (f q) (flat_map f ps)

    pub put_times : (p : ℕ × ℕ) (ps : List (ℕ × ℕ)) → times r (flat_map f (put c p ps)) ≡ times r (f p) + times r (flat_map f (take_out c ps))
    put_times p [] = more p []
    put_times p (q ∷ ps) =
        elim (c q.0) as (λ o. times r (flat_map f (choose o (q ∷ put c p ps) (p ∷ ps) (p ∷ q ∷ ps))) ≡ times r (f p) + times r (flat_map f (choose o (q ∷ take_out c ps) ps (q ∷ ps)))) [
          | Less ↦ (let a = more q (put c p ps) in let b = more q (take_out c ps) in let rest = put_times p ps in omega arith)
          | Equal ↦ more p ps
          | Greater ↦ more p (q ∷ ps)
        ]

    pub found_times : (p : ℕ × ℕ) (ps : List (ℕ × ℕ)) → lookup_pair c ps ≡ Some p → times r (flat_map f ps) ≡ times r (f p) + times r (flat_map f (take_out c ps))
    found_times p [] is = absurd (grind (arith, is))
    found_times p (q ∷ ps) is =
        (elim (c q.0) as (λ o. choose o (lookup_pair c ps) (Some q) None ≡ Some p
        → times r (flat_map f (q ∷ ps)) ≡ times r (f p) + times r (flat_map f (choose o (q ∷ take_out c ps) ps (q ∷ ps)))) [
          | Less ↦ λ h. let a = more q ps in let b = more q (take_out c ps) in let rest = found_times p ps h in omega arith
          | Equal ↦ λ h. more q ps ∙ ap (λ x. times r (f x) + times r (flat_map f ps)) (same_Some q p h)
          | Greater ↦ λ h. absurd (grind (arith, h))
        ]) is

  pub none_out : (ps : List (ℕ × ℕ)) → lookup_pair c ps ≡ None → take_out c ps ≡ ps
  none_out [] is = refl
  none_out (q ∷ ps) is =
      (elim (c q.0) as (λ o. choose o (lookup_pair c ps) (Some q) None ≡ None → choose o (q ∷ take_out c ps) ps (q ∷ ps) ≡ q ∷ ps) [
        | Less ↦ λ h. ap (λ qs. q ∷ qs) (none_out ps h)
        | Equal ↦ λ h. absurd (grind (arith, h))
        | Greater ↦ λ h. refl
      ]) is

  -- keys
  pub key_put : (p : ℕ × ℕ) (ps : List (ℕ × ℕ)) → Among p.0 (keys (put c p ps))
  key_put p [] = inl refl
  key_put p (q ∷ ps) =
      elim (c q.0) as (λ o. Among p.0 (keys (choose o (q ∷ put c p ps) (p ∷ ps) (p ∷ q ∷ ps)))) [
        | Less ↦ inr (key_put p ps)
        | Equal ↦ inl refl
        | Greater ↦ inl refl
      ]

  pub among_put : (p : ℕ × ℕ) (k : ℕ) (ps : List (ℕ × ℕ)) → Among k (keys (take_out c ps)) → Among k (keys (put c p ps))
  among_put p k [] among = absurd among
  among_put p k (q ∷ ps) among =
      (elim (c q.0) as (λ o. Among k (keys (choose o (q ∷ take_out c ps) ps (q ∷ ps))) → Among k (keys (choose o (q ∷ put c p ps) (p ∷ ps) (p ∷ q ∷ ps)))) [
        | Less ↦ λ h. behind (λ later. among_put p k ps later) h
        | Equal ↦ λ h. inr h
        | Greater ↦ λ h. inr h
      ]) among
    where
      behind : (Among k (keys (take_out c ps)) → Among k (keys (put c p ps))) → Among k (keys (q ∷ take_out c ps)) → Among k (keys (q ∷ put c p ps))
      behind more (inl e) = inl e
      behind more (inr later) = inr (more later)

  later_by : (p : ℕ × ℕ) (k q : ℕ) (qs : List ℕ) → (k ≡ p.0) ⊎ Among k qs → (k ≡ p.0) ⊎ Among k (q ∷ qs)
  later_by p k q qs (inl e) = inl e
  later_by p k q qs (inr later) = inr (inr later)

  pub among_found : (p : ℕ × ℕ) (k : ℕ) (ps : List (ℕ × ℕ)) → lookup_pair c ps ≡ Some p → Among k (keys ps) → (k ≡ p.0) ⊎ Among k (keys (take_out c ps))
  among_found p k [] is among = absurd among
  among_found p k (q ∷ ps) is among =
      (elim (c q.0) as (λ o. choose o (lookup_pair c ps) (Some q) None ≡ Some p → (k ≡ p.0) ⊎ Among k (keys (choose o (q ∷ take_out c ps) ps (q ∷ ps)))) [
        | Less ↦ λ h. behind (λ later. among_found p k ps h later) among
        | Equal ↦ λ h. here h among
        | Greater ↦ λ h. absurd (grind (arith, h))
      ]) is
    where
      behind : (Among k (keys ps) → (k ≡ p.0) ⊎ Among k (keys (take_out c ps))) → Among k (keys (q ∷ ps)) → (k ≡ p.0) ⊎ Among k (keys (q ∷ take_out c ps))
      behind more (inl e) = inr (inl e)
      behind more (inr later) = later_by p k q.0 (keys (take_out c ps)) (more later)

      here : Some q ≡ Some p → Among k (keys (q ∷ ps)) → (k ≡ p.0) ⊎ Among k (keys ps)
      here h (inl e) = inl (e ∙ ap (λ (x : ℕ × ℕ). x.0) (same_Some q p h))
      here h (inr later) = inr later

  pub found_among : (p : ℕ × ℕ) (ps : List (ℕ × ℕ)) → lookup_pair c ps ≡ Some p → Among p.0 (keys ps)
  found_among p [] is = absurd (grind (arith, is))
  found_among p (q ∷ ps) is =
      (elim (c q.0) as (λ o. choose o (lookup_pair c ps) (Some q) None ≡ Some p → Among p.0 (keys (q ∷ ps))) [
        | Less ↦ λ h. inr (found_among p ps h)
        | Equal ↦ λ h. inl (ap (λ (x : ℕ × ℕ). x.0) (sym (same_Some q p h)))
        | Greater ↦ λ h. absurd (grind (arith, h))
      ]) is

-- what holds of all keys holds of each pair
pub all_by_keys : (P : ℕ → Type 0) (ps : List (ℕ × ℕ)) → ((k : ℕ) → Among k (keys ps) → P k) → AllByRecursion (λ p. P p.0) ps
all_by_keys P [] each = tt
all_by_keys P (p ∷ ps) each = (each p.0 (inl refl), all_by_keys P ps (λ k among. each k (inr among)))

-- two comparisons that agree at each key
module _ (c d : ℕ → Ordering) where
  pub put_as : (p : ℕ × ℕ) (ps : List (ℕ × ℕ)) → AllByRecursion (λ q. d q.0 ≡ c q.0) ps → put d p ps ≡ put c p ps
  put_as p [] all = refl
  put_as p (q ∷ ps) all =
      ap (λ o. choose o (q ∷ put d p ps) (p ∷ ps) (p ∷ q ∷ ps)) all.0
      ∙ ap (λ qs. choose (c q.0) (q ∷ qs) (p ∷ ps) (p ∷ q ∷ ps)) (put_as p ps all.1)

  pub take_out_as : (ps : List (ℕ × ℕ)) → AllByRecursion (λ q. d q.0 ≡ c q.0) ps → take_out d ps ≡ take_out c ps
  take_out_as [] all = refl
  take_out_as (q ∷ ps) all =
      ap (λ o. choose o (q ∷ take_out d ps) ps (q ∷ ps)) all.0
      ∙ ap (λ qs. choose (c q.0) (q ∷ qs) ps (q ∷ ps)) (take_out_as ps all.1)

  pub lookup_pair_as : (ps : List (ℕ × ℕ)) → AllByRecursion (λ q. d q.0 ≡ c q.0) ps → lookup_pair d ps ≡ lookup_pair c ps
  lookup_pair_as [] all = refl
  lookup_pair_as (q ∷ ps) all =
      ap (λ o. choose o (lookup_pair d ps) (Some q) None) all.0
      ∙ ap (λ found. choose (c q.0) found (Some q) None) (lookup_pair_as ps all.1)
