-- A machine that scans a text byte by byte.
use Rattle.std.specs.Prelude.{ℕ, ◌+◌, Bool, List, [], ◌∷◌, if◌then◌else◌, Option, Some, None, Result, Ok, Err}

abbrev pub on_next : {S X : Type 0} → Option S → (S → Result X ℕ) → ℕ → Result X ℕ
on_next None go place = Err place
on_next (Some state) go place = go state

-- from a place on, the state after the whole text, or the place at which no text continues
unfoldable pub run_from : {S : Type 0} → (S → ℕ → ℕ → Option S) → (S → Bool) → S → ℕ → List ℕ → Result S ℕ
run_from after ends state place [] = if ends state then Ok state else Err place
run_from after ends state place (byte ∷ rest) =
    on_next (after state place byte) (λ next. run_from after ends next (place + 1) rest) place
