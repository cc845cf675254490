-- What is done at one key of a list whose keys ascend, said without regard to where the list is cut.
use Rattle.std.proofs.Common.{◌≡◌, ◌≢◌, ℕ, List, [], ◌∷◌, ◌++◌, cond, not, Bool, true, false, filter, find, option_map, map, refl, sym, ap, ◌∙◌, arith, None, Some}
use Rattle.std.specs.Cmp.{IsTotalOrder}
use Rattle.std.specs.declared.cmp.Ordering.{Ordering}
use Rattle.std.specs.declared.cmp.Ordering.TheVariants.{Less, Equal, Greater}
use Rattle.std.specs.Ordering.{ordering_reverse, is_lt, is_eq, is_gt}
use Rattle.std.specs.List.{AllByRecursion}
use Rattle.std.specs.List.Sorted.{IsStrictlySortedBy}
use Rattle.tree_read.specs.Pairs.{choose, lookup, put, take_out, seek}

module _ (c : ℕ → Ordering) where
  kept_above : (test : Ordering → Bool) → test Greater ≡ true → (ps : List (ℕ × ℕ)) → AllByRecursion (λ p. c p.0 ≡ Greater) ps → filter (λ p. test (c p.0)) ps ≡ ps
  kept_above test passes [] all = refl
  kept_above test passes (p ∷ ps) all =
      ap (λ b. cond b (p ∷ filter (λ (q : ℕ × ℕ). test (c q.0)) ps) (filter (λ (q : ℕ × ℕ). test (c q.0)) ps)) (ap test all.0 ∙ passes)
      ∙ ap (λ qs. p ∷ qs) (kept_above test passes ps all.1)

  none_above : (test : Ordering → Bool) → test Greater ≡ false → (ps : List (ℕ × ℕ)) → AllByRecursion (λ p. c p.0 ≡ Greater) ps → filter (λ p. test (c p.0)) ps ≡ []
  none_above test fails [] all = refl
  none_above test fails (p ∷ ps) all =
      ap (λ b. cond b (p ∷ filter (λ (q : ℕ × ℕ). test (c q.0)) ps) (filter (λ (q : ℕ × ℕ). test (c q.0)) ps)) (ap test all.0 ∙ fails)
      ∙ none_above test fails ps all.1

  not_found : (ps : List (ℕ × ℕ)) → AllByRecursion (λ p. c p.0 ≡ Greater) ps → find (λ p. is_eq (c p.0)) ps ≡ None
  not_found [] all = refl
  not_found (p ∷ ps) all = ap (λ o. cond (is_eq o) (Some p) (find (λ (q : ℕ × ℕ). is_eq (c q.0)) ps)) all.0 ∙ not_found ps all.1

module _ {V : Type 0} (order : V → V → Ordering) (total : IsTotalOrder order) (reads : ℕ → V) (s : V) where
  -- a value above one that is not below
  above : (v w : V) → order v w ≡ Less → order v s ≢ Less → order w s ≡ Greater
  above v w up high = total.antisymm w s ∙ ap ordering_reverse (cases (order v s) refl)
    where
      cases : (o : Ordering) → order v s ≡ o → order s w ≡ Less
      cases Less e = absurd (high e)
      cases Equal e = sym (total.congr v s w e) ∙ up
      cases Greater e = total.trans s v w (total.antisymm s v ∙ ap ordering_reverse e) up

  all_above : (v : V) → order v s ≢ Less → (ps : List (ℕ × ℕ)) → AllByRecursion (λ w. order v w ≡ Less) (map (λ p. reads p.0) ps)
      → AllByRecursion (λ p. order (reads p.0) s ≡ Greater) ps
  all_above v high [] all = tt
  all_above v high (p ∷ ps) all = (above v (reads p.0) all.0 high, all_above v high ps all.1)

  high : (v : V) (o : Ordering) → order v s ≡ o → o ≢ Less → order v s ≢ Less
  high v o e n f = n (sym e ∙ f)

  equal_high : Equal ≢ Less
  equal_high e = grind (arith, e)

  greater_high : Greater ≢ Less
  greater_high e = grind (arith, e)

  -- the value of the pair whose key is equal
  pub lookup-plain : (ps : List (ℕ × ℕ)) → IsStrictlySortedBy order (map (λ p. reads p.0) ps)
      → lookup (λ k. order (reads k) s) ps ≡ option_map (λ p. p.1) (find (λ p. is_eq (order (reads p.0) s)) ps)
  unfolding IsStrictlySortedBy
  lookup-plain [] up = refl
  lookup-plain (p ∷ ps) up =
      let c : ℕ → Ordering = λ k. order (reads k) s in
      (elim (order (reads p.0) s) as (λ o. order (reads p.0) s ≡ o
      → choose o (lookup c ps) (Some p.1) None ≡ option_map (λ (q : ℕ × ℕ). q.1) (cond (is_eq o) (Some p) (find (λ (q : ℕ × ℕ). is_eq (c q.0)) ps))) [
        | Less ↦ λ e. lookup-plain ps up.1
        | Equal ↦ λ e. refl
        | Greater ↦ λ e. ap (option_map (λ (q : ℕ × ℕ). q.1)) (sym (not_found c ps (all_above (reads p.0) (high (reads p.0) Greater e greater_high) ps up.0)))
      ]) refl

  -- the pairs whose keys are not below
  pub seek-plain : (ps : List (ℕ × ℕ)) → IsStrictlySortedBy order (map (λ p. reads p.0) ps)
      → seek (λ k. order (reads k) s) ps ≡ filter (λ p. not (is_lt (order (reads p.0) s))) ps
  unfolding IsStrictlySortedBy
  seek-plain [] up = refl
  seek-plain (p ∷ ps) up =
      let c : ℕ → Ordering = λ k. order (reads k) s in
      let test : Ordering → Bool = λ o. not (is_lt o) in
      let rest = filter (λ (q : ℕ × ℕ). test (c q.0)) ps in
      (elim (order (reads p.0) s) as (λ o. order (reads p.0) s ≡ o → choose o (seek c ps) (p ∷ ps) (p ∷ ps) ≡ cond (not (is_lt o)) (p ∷ rest) rest) [
        | Less ↦ λ e. seek-plain ps up.1
        | Equal ↦ λ e. ap (λ qs. p ∷ qs) (sym (kept_above c test refl ps (all_above (reads p.0) (high (reads p.0) Equal e equal_high) ps up.0)))
        | Greater ↦ λ e. ap (λ qs. p ∷ qs) (sym (kept_above c test refl ps (all_above (reads p.0) (high (reads p.0) Greater e greater_high) ps up.0)))
      ]) refl

  -- all pairs but the one whose key is equal
  pub take_out-plain : (ps : List (ℕ × ℕ)) → IsStrictlySortedBy order (map (λ p. reads p.0) ps)
      → take_out (λ k. order (reads k) s) ps ≡ filter (λ p. not (is_eq (order (reads p.0) s))) ps
  unfolding IsStrictlySortedBy
  take_out-plain [] up = refl
  take_out-plain (p ∷ ps) up =
      let c : ℕ → Ordering = λ k. order (reads k) s in
      let test : Ordering → Bool = λ o. not (is_eq o) in
      let rest = filter (λ (q : ℕ × ℕ). test (c q.0)) ps in
      (elim (order (reads p.0) s) as (λ o. order (reads p.0) s ≡ o → choose o (p ∷ take_out c ps) ps (p ∷ ps) ≡ cond (not (is_eq o)) (p ∷ rest) rest) [
        | Less ↦ λ e. ap (λ qs. p ∷ qs) (take_out-plain ps up.1)
        | Equal ↦ λ e. sym (kept_above c test refl ps (all_above (reads p.0) (high (reads p.0) Equal e equal_high) ps up.0))
        | Greater ↦ λ e. ap (λ qs. p ∷ qs) (sym (kept_above c test refl ps (all_above (reads p.0) (high (reads p.0) Greater e greater_high) ps up.0)))
      ]) refl

  -- the pairs whose keys are below, the pair, and those whose keys are above
  pub put-plain : (pair : ℕ × ℕ) (ps : List (ℕ × ℕ)) → IsStrictlySortedBy order (map (λ p. reads p.0) ps)
      → put (λ k. order (reads k) s) pair ps ≡ filter (λ p. is_lt (order (reads p.0) s)) ps ++ (pair ∷ filter (λ p. is_gt (order (reads p.0) s)) ps)
  unfolding IsStrictlySortedBy
  put-plain pair [] up = refl
  put-plain pair (p ∷ ps) up =
      let c : ℕ → Ordering = λ k. order (reads k) s in
      let low = filter (λ (q : ℕ × ℕ). is_lt (c q.0)) ps in
      let tall = filter (λ (q : ℕ × ℕ). is_gt (c q.0)) ps in
      (elim (order (reads p.0) s) as (λ o. order (reads p.0) s ≡ o
      → choose o (p ∷ put c pair ps) (pair ∷ ps) (pair ∷ p ∷ ps) ≡ cond (is_lt o) (p ∷ low) low ++ (pair ∷ cond (is_gt o) (p ∷ tall) tall)) [
        | Less ↦ λ e. ap (λ qs. p ∷ qs) (put-plain pair ps up.1)
        | Equal ↦ λ e.
            let all = all_above (reads p.0) (high (reads p.0) Equal e equal_high) ps up.0 in
            ap (λ qs. pair ∷ qs) (sym (kept_above c is_gt refl ps all)) ∙ ap (λ qs. qs ++ (pair ∷ tall)) (sym (none_above c is_lt refl ps all))
        | Greater ↦ λ e.
            let all = all_above (reads p.0) (high (reads p.0) Greater e greater_high) ps up.0 in
            ap (λ qs. pair ∷ p ∷ qs) (sym (kept_above c is_gt refl ps all)) ∙ ap (λ qs. qs ++ (pair ∷ p ∷ tall)) (sym (none_above c is_lt refl ps all))
      ]) refl
