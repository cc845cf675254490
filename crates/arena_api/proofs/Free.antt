-- How many buffers are free.
use Rattle.std.proofs.Common.{◌≡◌, ℕ, zero, suc, ◌+◌, ◌<◌, ◌≤◌, Bool, true, false, cond, sym, ap, subst, arith, add-one, inl, inr}
use Rattle.std.proofs.lemmas.Bool.{cases_eq}
use Rattle.arena_api.specs.Works.{Buffer, is_free, free_count}

pub free_count-more : (buffer : ℕ → Buffer) (n : ℕ) → free_count buffer (n + 1) ≡ free_count buffer n + cond (is_free (buffer n)) 1 0
free_count-more buffer n = ap (free_count buffer) (add-one n)

-- no more than all are free
pub free_count-le : (buffer : ℕ → Buffer) (n : ℕ) → free_count buffer n ≤ n
free_count-le buffer zero = omega arith
free_count-le buffer (suc n) = by_test (is_free (buffer n)) (free_count-le buffer n)
  where
    by_test : (t : Bool) → free_count buffer n ≤ n → free_count buffer n + cond t 1 0 ≤ suc n
    by_test true h = omega arith
    by_test false h = omega arith

-- a free buffer counts
pub free_count-some : (buffer : ℕ → Buffer) (n b : ℕ) → b < n → is_free (buffer b) ≡ true → 0 < free_count buffer n
free_count-some buffer zero b below free = absurd (omega arith)
free_count-some buffer (suc n) b below free = elim (cases_eq b n) [
  | inl e ↦ subst (λ k. 0 < free_count buffer n + cond (is_free (buffer k)) 1 0) e (subst (λ t. 0 < free_count buffer n + cond t 1 0) (sym free) (omega arith))
  | inr e ↦ (let more = free_count-some buffer n b (omega arith) free in omega arith)
]
