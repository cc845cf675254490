-- A reference among others, and records that stay at a list of references.
use Rattle.std.proofs.Common.{◌≡◌, ◌⊎◌, ℕ, List, [], ◌∷◌, ◌++◌, sym, ◌∙◌, subst, inl, inr}
use Rattle.std.specs.List.{AllByRecursion}
use Rattle.entry_ref.specs.Records.{Records, Among, SameAt}

pub Among-append : (r : ℕ) (xs ys : List ℕ) → Among r (xs ++ ys) → Among r xs ⊎ Among r ys
Among-append r [] ys among = inr among
Among-append r (x ∷ xs) ys (inl e) = inl (inl e)
Among-append r (x ∷ xs) ys (inr later) = front (Among-append r xs ys later)
  where
    front : Among r xs ⊎ Among r ys → Among r (x ∷ xs) ⊎ Among r ys
    front (inl here) = inl (inr here)
    front (inr behind) = inr behind

-- what holds of all holds of each among them
pub Among-all : (P : ℕ → Type 0) (refs : List ℕ) → AllByRecursion P refs → (r : ℕ) → Among r refs → P r
Among-all P [] all r among = absurd among
Among-all P (q ∷ refs) all r (inl e) = subst P (sym e) all.0
Among-all P (q ∷ refs) all r (inr later) = Among-all P refs all.1 r later

pub SameAt-among : (m n : Records) (refs : List ℕ) → SameAt refs m n → (r : ℕ) → Among r refs → n r ≡ m r
SameAt-among m n [] same r among = absurd among
SameAt-among m n (q ∷ refs) same r (inl e) = subst (λ x. n x ≡ m x) (sym e) same.0
SameAt-among m n (q ∷ refs) same r (inr later) = SameAt-among m n refs same.1 r later

-- records that stay twice
pub SameAt-then : (m n o : Records) (refs : List ℕ) → SameAt refs m n → SameAt refs n o → SameAt refs m o
SameAt-then m n o [] first second = tt
SameAt-then m n o (r ∷ refs) first second = (second.0 ∙ first.0, SameAt-then m n o refs first.1 second.1)
