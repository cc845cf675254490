-- Lists of pairs that ascend by their keys, under one comparison. `c k` compares a stored key k with the sought one.
use Rattle.std.specs.Prelude.{ℕ, List, [], ◌∷◌, Option, None, Some}
use Rattle.std.specs.declared.cmp.Ordering.{Ordering}
use Rattle.std.specs.declared.cmp.Ordering.TheVariants.{Less, Equal, Greater}

abbrev pub choose : {A : Type 0} → Ordering → A → A → A → A
choose Less less equal greater = less
choose Equal less equal greater = equal
choose Greater less equal greater = greater

-- the value for the sought key
abbrev pub lookup : (ℕ → Ordering) → List (ℕ × ℕ) → Option ℕ
lookup c [] = None
lookup c (p ∷ ps) = choose (c p.0) (lookup c ps) (Some p.1) None

-- the pair of the sought key
abbrev pub lookup_pair : (ℕ → Ordering) → List (ℕ × ℕ) → Option (ℕ × ℕ)
lookup_pair c [] = None
lookup_pair c (p ∷ ps) = choose (c p.0) (lookup_pair c ps) (Some p) None

-- the list after a pair is inserted, or replaces the pair with an equal key
abbrev pub put : (ℕ → Ordering) → ℕ × ℕ → List (ℕ × ℕ) → List (ℕ × ℕ)
put c pair [] = pair ∷ []
put c pair (p ∷ ps) = choose (c p.0) (p ∷ put c pair ps) (pair ∷ ps) (pair ∷ p ∷ ps)

-- the list without the pair of the sought key
abbrev pub take_out : (ℕ → Ordering) → List (ℕ × ℕ) → List (ℕ × ℕ)
take_out c [] = []
take_out c (p ∷ ps) = choose (c p.0) (p ∷ take_out c ps) ps (p ∷ ps)

-- the pairs from the first whose key is not below the sought one
abbrev pub seek : (ℕ → Ordering) → List (ℕ × ℕ) → List (ℕ × ℕ)
seek c [] = []
seek c (p ∷ ps) = choose (c p.0) (seek c ps) (p ∷ ps) (p ∷ ps)
