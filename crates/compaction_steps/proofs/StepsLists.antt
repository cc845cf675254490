-- Lists: what is in them, and what is found in pairs that ascend.
use Rattle.std.proofs.Common.{◌≡◌, ◌⊎◌, ℕ, List, [], ◌∷◌, ◌++◌, map, None, Some, Less, Equal, Greater, inl, inr, refl, sym, ap, subst, ◌∙◌}
use Rattle.std.proofs.lemmas.Cmp.{tied_itself}
use Rattle.std.specs.Cmp.{IsTotalOrder}
use Rattle.std.specs.List.{flat_map, AllByRecursion}
use Rattle.std.specs.List.Sorted.{IsStrictlySortedBy}
use Rattle.std.specs.Option.{unwrap_or}
use Rattle.std.specs.declared.cmp.Ordering.{Ordering}
use Rattle.entry_ref.proofs.Pairs.{same-from}
use Rattle.entry_ref.proofs.Among.{SameAt-among}
use Rattle.value_index.proofs.KeyLemmas.{among_left, among_right}
use Rattle.entry_ref.specs.Records.{Records, Among, SameAt}
use Rattle.tree_read.specs.Pairs.{choose, lookup}

-- ---- references
pub all_refs : (P : ℕ → Type 0) (refs : List ℕ) → ((r : ℕ) → Among r refs → P r) → AllByRecursion P refs
all_refs P [] each = tt
all_refs P (q ∷ refs) each = (each q (inl refl), all_refs P refs (λ r later. each r (inr later)))

pub same_flat : (m n : Records) (f : ℕ → List ℕ) (vs : List ℕ) → ((v : ℕ) → Among v vs → SameAt (f v) m n) → SameAt (flat_map f vs) m n
same_flat m n f vs each = same-from (flat_map f vs) m n (told vs each)
  where
    either : (r : ℕ) (xs ys : List ℕ) → Among r (xs ++ ys) → Among r xs ⊎ Among r ys
    either r [] ys among = inr among
    either r (x ∷ xs) ys (inl e) = inl (inl e)
    either r (x ∷ xs) ys (inr later) = elim (either r xs ys later) [
      | inl here ↦ inl (inr here)
      | inr there ↦ inr there
    ]

    told : (ws : List ℕ) → ((v : ℕ) → Among v ws → SameAt (f v) m n) → (r : ℕ) → Among r (flat_map f ws) → n r ≡ m r
    told [] all r among = absurd among
    told (w ∷ ws) all r among = elim (either r (f w) (flat_map f ws) among) [
      | inl here ↦ SameAt-among m n (f w) (all w (inl refl)) r here
      | inr there ↦ told ws (λ v later. all v (inr later)) r there
    ]

-- ---- pairs in lists
abbrev pub IsIn : ℕ × ℕ → List (ℕ × ℕ) → Type 0
IsIn p [] = ⊥
IsIn p (q ∷ qs) = (p ≡ q) ⊎ IsIn p qs

pub all_in : (P : ℕ × ℕ → Type 0) (ps : List (ℕ × ℕ)) → AllByRecursion P ps → (p : ℕ × ℕ) → IsIn p ps → P p
all_in P [] all p there = absurd there
all_in P (q ∷ ps) all p (inl e) = subst P (sym e) all.0
all_in P (q ∷ ps) all p (inr later) = all_in P ps all.1 p later

pub all_pairs : (P : ℕ × ℕ → Type 0) (ps : List (ℕ × ℕ)) → ((p : ℕ × ℕ) → IsIn p ps → P p) → AllByRecursion P ps
all_pairs P [] each = tt
all_pairs P (q ∷ ps) each = (each q (inl refl), all_pairs P ps (λ p later. each p (inr later)))

-- what holds of the key of each pair holds of each key
pub all_keys : (P : ℕ → Type 0) (ps : List (ℕ × ℕ)) → AllByRecursion (λ p. P p.0) ps → (key : ℕ) → Among key (map (λ p. p.0) ps) → P key
all_keys P [] all key among = absurd among
all_keys P (q ∷ ps) all key (inl e) = subst P (sym e) all.0
all_keys P (q ∷ ps) all key (inr later) = all_keys P ps all.1 key later

pub key_in : (p : ℕ × ℕ) (ps : List (ℕ × ℕ)) → IsIn p ps → Among p.0 (map (λ q. q.0) ps)
key_in p [] there = absurd there
key_in p (q ∷ ps) (inl e) = inl (ap (λ (x : ℕ × ℕ). x.0) e)
key_in p (q ∷ ps) (inr later) = inr (key_in p ps later)

pub flat_in : (f : ℕ × ℕ → List ℕ) (ps : List (ℕ × ℕ)) (p : ℕ × ℕ) (r : ℕ) → IsIn p ps → Among r (f p) → Among r (flat_map f ps)
flat_in f [] p r there among = absurd there
flat_in f (q ∷ ps) p r (inl e) among = among_left r (f q) (flat_map f ps) (subst (λ x. Among r (f x)) e among)
flat_in f (q ∷ ps) p r (inr later) among = among_right r (f q) (flat_map f ps) (flat_in f ps p r later among)

-- ---- what is found
-- a reference that what is found leads to is led to by a pair whose key is the one sought
pub record Found (c : ℕ → Ordering) (f : ℕ → List ℕ) (r : ℕ) (ps : List (ℕ × ℕ)) : Type 0 where
  pub pair : ℕ × ℕ
  pub there : IsIn pair ps
  pub equal : c pair.0 ≡ Equal
  pub among : Among r (f pair.1)

pub lookup_in : (c : ℕ → Ordering) (f : ℕ → List ℕ) (r : ℕ) (ps : List (ℕ × ℕ)) → (Among r (f 0) → ⊥) → Among r (f (unwrap_or (lookup c ps) 0)) → Found c f r ps
lookup_in c f r [] none among = absurd (none among)
lookup_in c f r (p ∷ ps) none among = told (λ later. lookup_in c f r ps none later) (c p.0) refl among
  where
    told : (Among r (f (unwrap_or (lookup c ps) 0)) → Found c f r ps) → (o : Ordering) → c p.0 ≡ o
        → Among r (f (unwrap_or (choose o (lookup c ps) (Some p.1) None) 0)) → Found c f r (p ∷ ps)
    told rest Less e among = let found = rest among in record { pair = found.pair; there = inr found.there; equal = found.equal; among = found.among }
    told rest Equal e among = record { pair = p; there = inl refl; equal = e; among = among }
    told rest Greater e among = absurd (none among)

sorted_parts : {V : Type 0} (order : V → V → Ordering) (v : V) (vs : List V) → IsStrictlySortedBy order (v ∷ vs) → AllByRecursion (λ w. order v w ≡ Less) vs × IsStrictlySortedBy order vs
unfolding IsStrictlySortedBy
sorted_parts order v vs up = up

-- a pair among some that ascend is the one that is found at its key
module _ {V : Type 0} (order : V → V → Ordering) (total : IsTotalOrder order) (v : ℕ → V) (c : ℕ → Ordering) (p : ℕ × ℕ) (seen : (k : ℕ) → c k ≡ order (v k) (v p.0)) where
  below_it : (w : V) (ps : List (ℕ × ℕ)) → AllByRecursion (λ x. order w x ≡ Less) (map (λ q. v q.0) ps) → IsIn p ps → order w (v p.0) ≡ Less
  below_it w [] all there = absurd there
  below_it w (q ∷ ps) all (inl e) = subst (λ (x : ℕ × ℕ). order w (v x.0) ≡ Less) (sym e) all.0
  below_it w (q ∷ ps) all (inr later) = below_it w ps all.1 later

  pub pair_found : (ps : List (ℕ × ℕ)) → IsStrictlySortedBy order (map (λ q. v q.0) ps) → IsIn p ps → unwrap_or (lookup c ps) 0 ≡ p.1
  pair_found [] up there = absurd there
  pair_found (q ∷ ps) up (inl e) =
      ap (λ (o : Ordering). unwrap_or (choose o (lookup c ps) (Some q.1) None) 0) (seen q.0 ∙ ap (λ (x : ℕ × ℕ). order (v q.0) (v x.0)) e ∙ tied_itself total (v q.0))
      ∙ ap (λ (x : ℕ × ℕ). x.1) (sym e)
  pair_found (q ∷ ps) up (inr later) =
      let parts = sorted_parts order (v q.0) (map (λ x. v x.0) ps) up in
      ap (λ (o : Ordering). unwrap_or (choose o (lookup c ps) (Some q.1) None) 0) (seen q.0 ∙ below_it (v q.0) ps parts.0 later) ∙ pair_found ps parts.1 later
