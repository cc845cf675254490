-- Pairs of an index: one is found for a value, or it is among the others.
use Rattle.std.proofs.Common.{◌≡◌, ◌⊎◌, ℕ, List, [], ◌∷◌, map, None, Some, Less, Equal, Greater, is_lt, true≢false, inl, inr, refl, sym, ap, subst, ◌∙◌, arith}
use Rattle.std.proofs.lemmas.Cmp.{tied_itself}
use Rattle.std.specs.declared.cmp.Ordering.{Ordering}
use Rattle.std.specs.List.{flat_map, AllByRecursion}
use Rattle.std.specs.List.Sorted.{IsStrictlySortedBy}
use Rattle.list_lemmas.proofs.Options.{same_Some}
use Rattle.entry_ref.specs.Records.{Records, SameAt, Among}
use Rattle.tree_read.specs.Pairs.{choose, lookup_pair, take_out}
use Rattle.tree_read.specs.ProofsForTrees.{SameAt-left, SameAt-right}
use Rattle.attr_types.specs.ProofsForOrder.{value_cmp_total}
use Rattle.attr_types.specs.Value.{value_cmp}
use Rattle.attr_types.specs.declared.value.Value.{Value}

abbrev pub InPairs : ℕ × ℕ → List (ℕ × ℕ) → Type 0
InPairs q [] = ⊥
InPairs q (p ∷ ps) = (q ≡ p) ⊎ InPairs q ps

pub at_pair : (P : ℕ × ℕ → Type 0) (ps : List (ℕ × ℕ)) → AllByRecursion P ps → (q : ℕ × ℕ) → InPairs q ps → P q
at_pair P [] all q within = absurd within
at_pair P (p ∷ ps) all q (inl e) = subst P (sym e) all.0
at_pair P (p ∷ ps) all q (inr later) = at_pair P ps all.1 q later

pub each_pair : (P : ℕ × ℕ → Type 0) (ps : List (ℕ × ℕ)) → ((q : ℕ × ℕ) → InPairs q ps → P q) → AllByRecursion P ps
each_pair P [] each = tt
each_pair P (p ∷ ps) each = (each p (inl refl), each_pair P ps (λ q later. each q (inr later)))

pub pair_key : (q : ℕ × ℕ) (ps : List (ℕ × ℕ)) → InPairs q ps → Among q.0 (map (λ p. p.0) ps)
pair_key q [] within = absurd within
pair_key q (p ∷ ps) (inl e) = inl (ap (λ (x : ℕ × ℕ). x.0) e)
pair_key q (p ∷ ps) (inr later) = inr (pair_key q ps later)

-- what all pairs reach stays, so what one of them reaches does
pub pair_stays : (m n : Records) (f : ℕ × ℕ → List ℕ) (q : ℕ × ℕ) (ps : List (ℕ × ℕ)) → InPairs q ps → SameAt (flat_map f ps) m n → SameAt (f q) m n
pair_stays m n f q [] within same = absurd within
pair_stays m n f q (p ∷ ps) (inl e) same = subst (λ (x : ℕ × ℕ). SameAt (f x) m n) (sym e) (SameAt-left m n (f p) (flat_map f ps) same)
pair_stays m n f q (p ∷ ps) (inr later) same = pair_stays m n f q ps later (SameAt-right m n (f p) (flat_map f ps) same)

module _ (c : ℕ → Ordering) where
  pub taken_pair : (q : ℕ × ℕ) (ps : List (ℕ × ℕ)) → InPairs q (take_out c ps) → InPairs q ps
  taken_pair q [] within = absurd within
  taken_pair q (p ∷ ps) within =
      (elim (c p.0) as (λ o. InPairs q (choose o (p ∷ take_out c ps) ps (p ∷ ps)) → InPairs q (p ∷ ps)) [
        | Less ↦ λ h. elim h [
          | inl e ↦ inl e
          | inr later ↦ inr (taken_pair q ps later)
        ]
        | Equal ↦ λ h. inr h
        | Greater ↦ λ h. h
      ]) within

  pub found_pair : (q : ℕ × ℕ) (ps : List (ℕ × ℕ)) → lookup_pair c ps ≡ Some q → InPairs q ps
  found_pair q [] found = absurd (grind (arith, found))
  found_pair q (p ∷ ps) found =
      (elim (c p.0) as (λ o. choose o (lookup_pair c ps) (Some p) None ≡ Some q → InPairs q (p ∷ ps)) [
        | Less ↦ λ h. inr (found_pair q ps h)
        | Equal ↦ λ h. inl (same_Some q p (sym h))
        | Greater ↦ λ h. absurd (grind (arith, h))
      ]) found

  -- a pair is the one that is found, or it is among the others
  pub split_pair : (q : ℕ × ℕ) (ps : List (ℕ × ℕ)) → InPairs q ps → (lookup_pair c ps ≡ Some q) ⊎ InPairs q (take_out c ps)
  split_pair q [] within = absurd within
  split_pair q (p ∷ ps) (inl e) =
      (elim (c p.0) as (λ o. (choose o (lookup_pair c ps) (Some p) None ≡ Some q) ⊎ InPairs q (choose o (p ∷ take_out c ps) ps (p ∷ ps))) [
        | Less ↦ inr (inl e)
        | Equal ↦ inl (ap (λ (x : ℕ × ℕ). Some x) (sym e))
        | Greater ↦ inr (inl e)
      ])
  split_pair q (p ∷ ps) (inr later) =
      (elim (c p.0) as (λ o. (choose o (lookup_pair c ps) (Some p) None ≡ Some q) ⊎ InPairs q (choose o (p ∷ take_out c ps) ps (p ∷ ps))) [
        | Less ↦ elim (split_pair q ps later) [
          | inl found ↦ inl found
          | inr rest ↦ inr (inr rest)
        ]
        | Equal ↦ inr later
        | Greater ↦ inr (inr later)
      ])

-- the others have other values
module _ (v : ℕ → Value) (value : Value) where
  equal_not_less : value_cmp value value ≡ Less → ⊥
  equal_not_less less = true≢false (ap is_lt (sym less ∙ tied_itself value_cmp_total value))

  above_each : (p : ℕ) (ps : List (ℕ × ℕ)) → AllByRecursion (λ w. value_cmp (v p) w ≡ Less) (map (λ p. v p.0) ps) → (q : ℕ × ℕ) → InPairs q ps → value_cmp (v p) (v q.0) ≡ Less
  above_each p [] all q within = absurd within
  above_each p (x ∷ ps) all q (inl e) = subst (λ (y : ℕ × ℕ). value_cmp (v p) (v y.0) ≡ Less) (sym e) all.0
  above_each p (x ∷ ps) all q (inr later) = above_each p ps all.1 q later

  pub other_pair : (ps : List (ℕ × ℕ)) → IsStrictlySortedBy value_cmp (map (λ p. v p.0) ps) → (q : ℕ × ℕ) → InPairs q (take_out (λ k. value_cmp (v k) value) ps) → v q.0 ≡ value → ⊥
  unfolding IsStrictlySortedBy
  other_pair [] up q within same = within
  other_pair (p ∷ ps) up q within same =
      (elim (value_cmp (v p.0) value) as (λ o. value_cmp (v p.0) value ≡ o → InPairs q (choose o (p ∷ take_out (λ k. value_cmp (v k) value) ps) ps (p ∷ ps)) → ⊥) [
        | Less ↦ λ is h. elim h [
          | inl e ↦ equal_not_less (subst (λ w. value_cmp w value ≡ Less) (ap (λ (y : ℕ × ℕ). v y.0) (sym e) ∙ same) is)
          | inr later ↦ other_pair ps up.1 q later same
        ]
        | Equal ↦ λ is h. not_both (subst (λ w. value_cmp (v p.0) w ≡ Less) same (above_each p.0 ps up.0 q h)) is
        | Greater ↦ λ is h. elim h [
          | inl e ↦ not_greater (subst (λ w. value_cmp w value ≡ Greater) (ap (λ (y : ℕ × ℕ). v y.0) (sym e) ∙ same) is)
          | inr later ↦ not_above (subst (λ w. value_cmp (v p.0) w ≡ Less) same (above_each p.0 ps up.0 q later)) is
        ]
      ]) refl within
    where
      not_both : value_cmp (v p.0) value ≡ Less → value_cmp (v p.0) value ≡ Equal → ⊥
      not_both less equal = true≢false (ap is_lt (sym less ∙ equal))

      not_above : value_cmp (v p.0) value ≡ Less → value_cmp (v p.0) value ≡ Greater → ⊥
      not_above less greater = true≢false (ap is_lt (sym less ∙ greater))

      not_greater : value_cmp value value ≡ Greater → ⊥
      not_greater greater = grind (arith, sym greater ∙ tied_itself value_cmp_total value)
