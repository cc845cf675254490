-- Lists with one element replaced, and the trees of fields and roots.
use Rattle.std.proofs.Common.{◌≡◌, ℕ, zero, suc, List, [], ◌∷◌, length, map, set, Some, refl, sym, ap, ◌∙◌, arith}
use Rattle.std.specs.Prelude.{slice_get}
use Rattle.std.specs.List.{AllByRecursion}
use Rattle.list_lemmas.proofs.Options.{same_Some}
use Rattle.attr_field.specs.declared.roots.FieldRoots.{FieldRoots}
use Rattle.attr_types.specs.declared.field.Field.{Field}
use Rattle.attr_operations.specs.Fields.{trees_of, trees_of_field}

-- the list without the element at a place
abbrev pub rest_at : {X : Type 0} → List X → ℕ → List X
rest_at [] i = []
rest_at (x ∷ xs) zero = xs
rest_at (x ∷ xs) (suc i) = x ∷ rest_at xs i

pub get_set-same : {X : Type 0} (xs : List X) (i : ℕ) (x y : X) → slice_get xs i ≡ Some x → slice_get (set xs i y) i ≡ Some y
get_set-same [] i x y at = cc
get_set-same (first ∷ xs) zero x y at = refl
get_set-same (first ∷ xs) (suc i) x y at = get_set-same xs i x y at

pub set_length : {X : Type 0} (xs : List X) (i : ℕ) (y : X) → length (set xs i y) ≡ length xs
set_length [] i y = refl
set_length (first ∷ xs) zero y = refl
set_length (first ∷ xs) (suc i) y = ap suc (set_length xs i y)

pub get_map : {X Y : Type 0} (f : X → Y) (xs : List X) (i : ℕ) (x : X) → slice_get xs i ≡ Some x → slice_get (map f xs) i ≡ Some (f x)
get_map f [] i x at = cc
get_map f (first ∷ xs) zero x at = ap (λ y. Some (f y)) (same_Some first x at)
get_map f (first ∷ xs) (suc i) x at = get_map f xs i x at

pub map_at : {X Y : Type 0} (f : X → Y) (xs : List X) (i : ℕ) (y : Y) → slice_get (map f xs) i ≡ Some y → (x : X) × (slice_get xs i ≡ Some x) × (y ≡ f x)
map_at f [] i y at = cc
map_at f (first ∷ xs) zero y at = (first, refl, sym (same_Some (f first) y at))
map_at f (first ∷ xs) (suc i) y at = map_at f xs i y at

pub all_from : {X : Type 0} (P : X → Type 0) (xs : List X) → ((i : ℕ) (x : X) → slice_get xs i ≡ Some x → P x) → AllByRecursion P xs
all_from P [] each = tt
all_from P (first ∷ xs) each = (each 0 first refl, all_from P xs (λ i x at. each (suc i) x at))

-- ---- trees
module _ {bits : ℕ} where
  pub tree_get : (fields : List Field) (roots : List (FieldRoots bits)) (i : ℕ) (field : Field) (first : FieldRoots bits) → slice_get fields i ≡ Some field
      → slice_get roots i ≡ Some first → slice_get (trees_of fields roots) i ≡ Some (trees_of_field field first)
  tree_get [] roots i field first at root = cc
  tree_get (f ∷ fields) [] i field first at root = cc
  tree_get (f ∷ fields) (r ∷ roots) zero field first at root =
      ap (λ g. Some (trees_of_field g r)) (same_Some f field at) ∙ ap (λ s. Some (trees_of_field field s)) (same_Some r first root)
  tree_get (f ∷ fields) (r ∷ roots) (suc i) field first at root = tree_get fields roots i field first at root

  pub tree_set : (fields : List Field) (roots : List (FieldRoots bits)) (i : ℕ) (field : Field) (new : FieldRoots bits) → slice_get fields i ≡ Some field
      → trees_of fields (set roots i new) ≡ set (trees_of fields roots) i (trees_of_field field new)
  tree_set [] roots i field new at = cc
  tree_set (f ∷ fields) [] i field new at = refl
  tree_set (f ∷ fields) (r ∷ roots) zero field new at = ap (λ g. trees_of_field g new ∷ trees_of fields roots) (same_Some f field at)
  tree_set (f ∷ fields) (r ∷ roots) (suc i) field new at = ap (λ ts. trees_of_field f r ∷ ts) (tree_set fields roots i field new at)

  pub trees_length : (fields : List Field) (roots : List (FieldRoots bits)) → length roots ≡ length fields → length (trees_of fields roots) ≡ length fields
  trees_length [] roots same = refl
  trees_length (f ∷ fields) [] same = absurd (omega arith)
  trees_length (f ∷ fields) (r ∷ roots) same = ap suc (trees_length fields roots (omega arith))
