-- A place of a list, as the table reads it and as the core does.
use Rattle.std.proofs.Common.{◌≡◌, ℕ, zero, suc, List, [], ◌∷◌, Some, sym, ap}
use Rattle.std.specs.Prelude.{slice_get}
use mathlib.Core.Option.{some, some-ne-none, some-injective}
use lib.ListN.{get_elem?}

-- a place of a list, as the table reads it and as the core does
pub get_some : {A : Type 0} (l : List A) (i : ℕ) (a : A) → get_elem? l i ≡ some a → slice_get l i ≡ Some a
get_some [] i a e = absurd (some-ne-none a (sym e))
get_some (x ∷ xs) zero a e = ap Some (some-injective x a e)
get_some (x ∷ xs) (suc i) a e = get_some xs i a e
