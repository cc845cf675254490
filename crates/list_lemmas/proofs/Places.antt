-- An element by its place: in zeros, after a write, behind those before it and before the rest.
use Rattle.std.proofs.Common.{◌≡◌, ◌≢◌, ℕ, zero, suc, ◌+◌, ◌<◌, Bool, false, cond, List, [], ◌∷◌, ◌++◌, length, get_or, set, take, drop, replicate, Some, refl, sym, ap, ◌∙◌, arith}
use Rattle.std.proofs.lemmas.List.{drop_more}
use Rattle.std.specs.Prelude.{slice_get, slice_index}
use Rattle.std.specs.List.{find}

-- zeros read as 0 at each place, and past their end
pub slice_index-zeros : (n i : ℕ) → slice_index (replicate n 0) i ≡ 0
slice_index-zeros zero i = refl
slice_index-zeros (suc n) zero = refl
slice_index-zeros (suc n) (suc i) = slice_index-zeros n i

pub slice_get-set_same : {A : Type 0} (xs : List A) (i : ℕ) (a : A) → i < length xs → slice_get (set xs i a) i ≡ Some a
slice_get-set_same [] i a below = absurd (omega arith)
slice_get-set_same (x ∷ xs) zero a below = refl
slice_get-set_same (x ∷ xs) (suc i) a below = slice_get-set_same xs i a (omega arith)

pub slice_get-set_other : {A : Type 0} (xs : List A) (i j : ℕ) (a : A) → j ≢ i → slice_get (set xs i a) j ≡ slice_get xs j
slice_get-set_other [] i j a other = refl
slice_get-set_other (x ∷ xs) zero zero a other = absurd (other refl)
slice_get-set_other (x ∷ xs) zero (suc j) a other = refl
slice_get-set_other (x ∷ xs) (suc i) zero a other = refl
slice_get-set_other (x ∷ xs) (suc i) (suc j) a other = slice_get-set_other xs i j a (λ e. other (ap suc e))

-- the element x at a place, and those after it
pub drop-read : {A : Type 0} (xs : List A) (i : ℕ) (x d : A) → i < length xs → x ≡ get_or xs i d → drop i xs ≡ x ∷ drop (i + 1) xs
drop-read xs i x d below is = drop_more xs i d below ∙ ap (λ y. y ∷ drop (i + 1) xs) (sym is)

-- those before a place, with the element x there
pub take-read : {A : Type 0} (xs : List A) (i : ℕ) (x : A) → slice_get xs i ≡ Some x → take i xs ++ x ∷ [] ≡ take (suc i) xs
take-read [] i x at = cc
take-read (y ∷ xs) zero x at = let same : x ≡ y = cc in ap (λ z. z ∷ []) same
take-read (y ∷ xs) (suc i) x at = ap (λ rest. y ∷ rest) (take-read xs i x at)

-- what is read as P at each place of a list, and past its end, is P in its front too
pub get_or-take_each : {A : Type 0} (P : A → Type 0) (d : A) → P d → (k : ℕ) (xs : List A) → ((i : ℕ) → P (get_or xs i d)) → (i : ℕ) → P (get_or (take k xs) i d)
get_or-take_each P d none zero xs each i = none
get_or-take_each P d none (suc k) [] each i = none
get_or-take_each P d none (suc k) (x ∷ xs) each zero = each 0
get_or-take_each P d none (suc k) (x ∷ xs) each (suc i) = get_or-take_each P d none k xs (λ j. each (suc j)) i

-- zeros behind a list change no read
pub get_or-append_zeros : (xs : List ℕ) (n i : ℕ) → get_or (xs ++ replicate n 0) i 0 ≡ get_or xs i 0
get_or-append_zeros [] zero i = refl
get_or-append_zeros [] (suc n) zero = refl
get_or-append_zeros [] (suc n) (suc i) = get_or-append_zeros [] n i
get_or-append_zeros (x ∷ xs) n zero = refl
get_or-append_zeros (x ∷ xs) n (suc i) = get_or-append_zeros xs n i

-- a search passes by an element that fails
pub find-drop_next : {A : Type 0} (test : A → Bool) (xs : List A) (i : ℕ) (d : A) → i < length xs → test (get_or xs i d) ≡ false
    → find test (drop (i + 1) xs) ≡ find test (drop i xs)
find-drop_next test xs i d below fails =
    sym (ap (find test) (drop_more xs i d below) ∙ ap (λ b. cond b (Some (get_or xs i d)) (find test (drop (i + 1) xs))) fails)
