-- Pairs, and the last of them.
use Rattle.std.proofs.Common.{◌≡◌, ℕ, suc, ◌-◌, List, [], ◌∷◌, length, None, Some, refl, sym, ap, ◌∙◌, arith}
use Rattle.std.specs.List.{slice_get}
use Rattle.tree_read.specs.Trees.{last_key}

-- the last key of pairs is that of the last pair
pub last_is : (ps : List (ℕ × ℕ)) (p : ℕ × ℕ) → Some p ≡ slice_get ps (length ps - 1) → last_key ps ≡ p.0
last_is [] p e = absurd (cc)
last_is (q ∷ []) p e = ap (λ (r : ℕ × ℕ). r.0) (let same : q ≡ p = cc in same)
last_is (q ∷ r ∷ ps) p e = last_is (r ∷ ps) p (let at : length (q ∷ r ∷ ps) - 1 ≡ suc (length (r ∷ ps) - 1) = omega arith in e ∙ ap (slice_get (q ∷ r ∷ ps)) at)

pub last_none : (ps : List (ℕ × ℕ)) → None ≡ slice_get ps (length ps - 1) → last_key ps ≡ 0
last_none [] e = refl
last_none (q ∷ []) e = absurd (let no : Some q ≡ None = sym e in cc)
last_none (q ∷ r ∷ ps) e = last_none (r ∷ ps) (let at : length (q ∷ r ∷ ps) - 1 ≡ suc (length (r ∷ ps) - 1) = omega arith in e ∙ ap (slice_get (q ∷ r ∷ ps)) at)
