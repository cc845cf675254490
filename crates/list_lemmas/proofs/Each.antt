-- What holds of each element of a list: over `++`, for a weaker fact, of two facts, at one place, over `flat_map`.
use Rattle.std.proofs.Common.{◌≡◌, ℕ, zero, suc, ◌<◌, List, [], ◌∷◌, ◌++◌, length, get_or, map, Some, option_map, ap, subst, ◌∙◌, arith}
use Rattle.std.proofs.lemmas.Option.{slice_get-map}
use Rattle.std.specs.Prelude.{slice_get}
use Rattle.std.specs.List.{flat_map, AllByRecursion}

pub AllByRecursion-append : {A : Type 0} (P : A → Type 0) (xs ys : List A) → AllByRecursion P xs → AllByRecursion P ys → AllByRecursion P (xs ++ ys)
AllByRecursion-append P [] ys front back = back
AllByRecursion-append P (x ∷ xs) ys front back = (front.0, AllByRecursion-append P xs ys front.1 back)

pub AllByRecursion-left : {A : Type 0} (P : A → Type 0) (xs ys : List A) → AllByRecursion P (xs ++ ys) → AllByRecursion P xs
AllByRecursion-left P [] ys all = tt
AllByRecursion-left P (x ∷ xs) ys all = (all.0, AllByRecursion-left P xs ys all.1)

pub AllByRecursion-right : {A : Type 0} (P : A → Type 0) (xs ys : List A) → AllByRecursion P (xs ++ ys) → AllByRecursion P ys
AllByRecursion-right P [] ys all = all
AllByRecursion-right P (x ∷ xs) ys all = AllByRecursion-right P xs ys all.1

pub AllByRecursion-weaker : {A : Type 0} (P Q : A → Type 0) → ((x : A) → P x → Q x) → (xs : List A) → AllByRecursion P xs → AllByRecursion Q xs
AllByRecursion-weaker P Q each [] all = tt
AllByRecursion-weaker P Q each (x ∷ xs) all = (each x all.0, AllByRecursion-weaker P Q each xs all.1)

pub AllByRecursion-each : {A : Type 0} (P : A → Type 0) → ((x : A) → P x) → (xs : List A) → AllByRecursion P xs
AllByRecursion-each P each [] = tt
AllByRecursion-each P each (x ∷ xs) = (each x, AllByRecursion-each P each xs)

pub AllByRecursion-and : {A : Type 0} (P Q : A → Type 0) (xs : List A) → AllByRecursion P xs → AllByRecursion Q xs → AllByRecursion (λ x. P x × Q x) xs
AllByRecursion-and P Q [] one other = tt
AllByRecursion-and P Q (x ∷ xs) one other = ((one.0, other.0), AllByRecursion-and P Q xs one.1 other.1)

pub AllByRecursion-at : {A : Type 0} (P : A → Type 0) (xs : List A) (i : ℕ) (d : A) → i < length xs → AllByRecursion P xs → P (get_or xs i d)
AllByRecursion-at P [] i d below all = absurd (omega arith)
AllByRecursion-at P (x ∷ xs) zero d below all = all.0
AllByRecursion-at P (x ∷ xs) (suc i) d below all = AllByRecursion-at P xs i d (omega arith) all.1

pub AllByRecursion-slice_get : {A : Type 0} (P : A → Type 0) (xs : List A) (i : ℕ) (x : A) → AllByRecursion P xs → slice_get xs i ≡ Some x → P x
AllByRecursion-slice_get P [] i x all at = cc
AllByRecursion-slice_get P (y ∷ xs) zero x all at = let same : y ≡ x = cc in subst P same all.0
AllByRecursion-slice_get P (y ∷ xs) (suc i) x all at = AllByRecursion-slice_get P xs i x all.1 at

pub AllByRecursion-map_slice_get : {A B : Type 0} (P : B → Type 0) (f : A → B) (xs : List A) (i : ℕ) (x : A) → AllByRecursion P (map f xs) → slice_get xs i ≡ Some x → P (f x)
AllByRecursion-map_slice_get P f xs i x all at = AllByRecursion-slice_get P (map f xs) i (f x) all (slice_get-map f xs i ∙ ap (option_map f) at)

-- each list that f gives has P throughout
pub AllByRecursion-flat_map : {A B : Type 0} (P : B → Type 0) (Q : A → Type 0) (f : A → List B) → ((x : A) → Q x → AllByRecursion P (f x))
    → (xs : List A) → AllByRecursion Q xs → AllByRecursion P (flat_map f xs)
AllByRecursion-flat_map P Q f each [] all = tt
AllByRecursion-flat_map P Q f each (x ∷ xs) all =
    AllByRecursion-append P (f x) (flat_map f xs) (each x all.0) (AllByRecursion-flat_map P Q f each xs all.1)
