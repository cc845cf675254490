-- Pairs of which one was set in place of the one that was there.
use Rattle.std.proofs.Common.{◌≡◌, ℕ, zero, suc, ◌<◌, List, [], ◌∷◌, map, None, Some, refl, sym, ap, ◌∙◌, arith}
use Rattle.std.specs.declared.cmp.Ordering.{Ordering}
use Rattle.std.specs.declared.cmp.Ordering.TheVariants.{Less, Equal, Greater}
use Rattle.std.specs.List.{flat_map, AllByRecursion}
use Rattle.list_lemmas.proofs.Options.{same_Some}
use Rattle.entry_ref.proofs.Among.{SameAt-among}
use Rattle.entry_ref.proofs.Pairs.{same-from}
use Rattle.entry_ref.specs.Records.{Records, SameAt}
use Rattle.tree_read.specs.Pairs.{choose, lookup, lookup_pair, put, take_out}
use Rattle.store_api.specs.Parts.{times}
use Rattle.store_api.proofs.Times.{among-times, times-among}
use Rattle.value_index.proofs.PairLemmas.{found_times}

-- ---- a pair that was set, by a comparison that tells it equal and agrees with the other at all other keys
module _ (c d : ℕ → Ordering) (p : ℕ × ℕ) (equal : d p.0 ≡ Equal) where
  pub set_found : (ps : List (ℕ × ℕ)) → AllByRecursion (λ q. d q.0 ≡ c q.0) (take_out c ps) → lookup_pair d (put c p ps) ≡ Some p
  set_found [] all = ap (λ o. choose o None (Some p) None) equal
  set_found (q ∷ ps) all =
      (elim (c q.0) as (λ o. c q.0 ≡ o → AllByRecursion (λ x. d x.0 ≡ c x.0) (choose o (q ∷ take_out c ps) ps (q ∷ ps))
      → lookup_pair d (choose o (q ∷ put c p ps) (p ∷ ps) (p ∷ q ∷ ps)) ≡ Some p) [
        | Less ↦ λ is h. ap (λ o. choose o (lookup_pair d (put c p ps)) (Some q) None) (h.0 ∙ is) ∙ set_found ps h.1
        | Equal ↦ λ is h. ap (λ o. choose o (lookup_pair d ps) (Some p) None) equal
        | Greater ↦ λ is h. ap (λ o. choose o (lookup_pair d (q ∷ ps)) (Some p) None) equal
      ]) refl all

  pub set_value : (ps : List (ℕ × ℕ)) → AllByRecursion (λ q. d q.0 ≡ c q.0) (take_out c ps) → lookup d (put c p ps) ≡ Some p.1
  set_value [] all = ap (λ o. choose o None (Some p.1) None) equal
  set_value (q ∷ ps) all =
      (elim (c q.0) as (λ o. c q.0 ≡ o → AllByRecursion (λ x. d x.0 ≡ c x.0) (choose o (q ∷ take_out c ps) ps (q ∷ ps))
      → lookup d (choose o (q ∷ put c p ps) (p ∷ ps) (p ∷ q ∷ ps)) ≡ Some p.1) [
        | Less ↦ λ is h. ap (λ o. choose o (lookup d (put c p ps)) (Some q.1) None) (h.0 ∙ is) ∙ set_value ps h.1
        | Equal ↦ λ is h. ap (λ o. choose o (lookup d ps) (Some p.1) None) equal
        | Greater ↦ λ is h. ap (λ o. choose o (lookup d (q ∷ ps)) (Some p.1) None) equal
      ]) refl all

  pub set_others : (ps : List (ℕ × ℕ)) → AllByRecursion (λ q. d q.0 ≡ c q.0) (take_out c ps) → take_out d (put c p ps) ≡ take_out c ps
  set_others [] all = ap (λ o. choose o (p ∷ []) [] (p ∷ [])) equal
  set_others (q ∷ ps) all =
      (elim (c q.0) as (λ o. c q.0 ≡ o → AllByRecursion (λ x. d x.0 ≡ c x.0) (choose o (q ∷ take_out c ps) ps (q ∷ ps))
      → take_out d (choose o (q ∷ put c p ps) (p ∷ ps) (p ∷ q ∷ ps)) ≡ choose o (q ∷ take_out c ps) ps (q ∷ ps)) [
        | Less ↦ λ is h. ap (λ o. choose o (q ∷ take_out d (put c p ps)) (put c p ps) (q ∷ put c p ps)) (h.0 ∙ is) ∙ ap (λ qs. q ∷ qs) (set_others ps h.1)
        | Equal ↦ λ is h. ap (λ o. choose o (p ∷ take_out d ps) ps (p ∷ ps)) equal
        | Greater ↦ λ is h. ap (λ o. choose o (p ∷ take_out d (q ∷ ps)) (q ∷ ps) (p ∷ q ∷ ps)) equal
      ]) refl all

-- ---- what pairs read as, where the one that was set reads as the one that was there
module _ {A : Type 0} (f g : ℕ × ℕ → A) (c : ℕ → Ordering) (p q : ℕ × ℕ) (same : f p ≡ g q) where
  pub set_reads : (ps : List (ℕ × ℕ)) → lookup_pair c ps ≡ Some q → AllByRecursion (λ x. f x ≡ g x) (take_out c ps) → map f (put c p ps) ≡ map g ps
  set_reads [] is all = absurd (grind (arith, is))
  set_reads (x ∷ ps) is all =
      (elim (c x.0) as (λ o. choose o (lookup_pair c ps) (Some x) None ≡ Some q → AllByRecursion (λ y. f y ≡ g y) (choose o (x ∷ take_out c ps) ps (x ∷ ps))
      → map f (choose o (x ∷ put c p ps) (p ∷ ps) (p ∷ x ∷ ps)) ≡ g x ∷ map g ps) [
        | Less ↦ λ h all. ap (λ y. y ∷ map f (put c p ps)) all.0 ∙ ap (λ ys. g x ∷ ys) (set_reads ps h all.1)
        | Equal ↦ λ h all. ap (λ y. y ∷ map f ps) (same ∙ ap g (sym (same_Some x q h))) ∙ ap (λ ys. g x ∷ ys) (others_read ps all)
        | Greater ↦ λ h all. absurd (grind (arith, h))
      ]) is all
    where
      others_read : (ys : List (ℕ × ℕ)) → AllByRecursion (λ y. f y ≡ g y) ys → map f ys ≡ map g ys
      others_read [] all = refl
      others_read (y ∷ ys) all = ap (λ z. z ∷ map f ys) all.0 ∙ ap (λ zs. g y ∷ zs) (others_read ys all.1)

-- ---- what all pairs reach stays where that of the one that is found and of all others does
pub same_found : (m n : Records) (c : ℕ → Ordering) (f : ℕ × ℕ → List ℕ) (p : ℕ × ℕ) (ps : List (ℕ × ℕ)) → lookup_pair c ps ≡ Some p
    → SameAt (f p) m n → SameAt (flat_map f (take_out c ps)) m n → SameAt (flat_map f ps) m n
same_found m n c f p ps found here rest = same-from (flat_map f ps) m n (λ r among. each r (times r (f p)) refl (among-times r (flat_map f ps) among))
  where
    each : (r k : ℕ) → times r (f p) ≡ k → 0 < times r (flat_map f ps) → n r ≡ m r
    each r zero none some =
        let split = found_times c f r p ps found in
        SameAt-among m n (flat_map f (take_out c ps)) rest r (times-among r (flat_map f (take_out c ps)) (omega arith))
    each r (suc k) is some = SameAt-among m n (f p) here r (times-among r (f p) (omega arith))
