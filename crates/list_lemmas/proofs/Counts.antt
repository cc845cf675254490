-- How a count changes with one element, and a length with one entry.
use Rattle.std.proofs.Common.{◌≡◌, ◌<◌, ◌≤◌, ◌+◌, ℕ, suc, Bool, true, false, List, [], ◌∷◌, length, get_or, set, cond, count_by, arith}
use Rattle.std.proofs.lemmas.List.Sums.{sum_by-set}
use Rattle.std.specs.Map.{remove_entry}
use Rattle.list_lemmas.specs.Counting.{one_if}

pub count_by-set : {A : Type 0} (p : A → Bool) (xs : List A) (i : ℕ) (x d : A) → i < length xs
    → count_by p (set xs i x) + one_if (p (get_or xs i d)) ≡ count_by p xs + one_if (p x)
count_by-set p xs i x d below = sum_by-set (λ y. cond (p y) 1 0) xs i x d below

pub length-remove_entry : {K X : Type 0} (test : K → Bool) (es : List (K × X)) → length (remove_entry test es) ≤ length es
length-remove_entry test [] = omega arith
length-remove_entry test (e ∷ es) = told (test e.0) (length-remove_entry test es)
  where
    told : (t : Bool) → length (remove_entry test es) ≤ length es → length (cond t es (e ∷ remove_entry test es)) ≤ suc (length es)
    told true rest = omega arith
    told false rest = omega arith
