-- Words of a record that is there, or of none.
use Rattle.std.proofs.Common.{◌<◌, ◌≡◌, ℕ, ◌+◌, ◌≤◌, Bool, true, false, cond, List, [], length, take, drop, refl, sym, subst, arith}

pub read-words : (t : Bool) (ws : List ℕ) (first n : ℕ) → first + n ≤ length (cond t ws []) → (first + n ≤ length ws) × (take n (drop first ws) ≡ take n (drop first (cond t ws [])))
read-words true ws first n h = (h, refl)
read-words false ws first n h =
    let none : n ≡ 0 = omega arith in
    (omega arith, subst (λ k. take k (drop first ws) ≡ take k (drop first [])) (sym none) refl)

pub there-words : (t : Bool) (ws : List ℕ) (i : ℕ) → i < length (cond t ws []) → ws ≡ cond t ws []
there-words true ws i lt = refl
there-words false ws i lt = absurd (omega (arith, lt))
