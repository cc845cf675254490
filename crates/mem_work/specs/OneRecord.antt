-- The layout whose root is one record.
use Rattle.std.specs.Prelude.{ℕ, zero, suc, ◌<◌, List, [], ◌∷◌, length}
use Rattle.entry_ref.specs.Records.{Records}

-- the root reaches itself
abbrev pub one_reaches : ℕ → Records → ℕ → List ℕ
one_reaches shape m zero = []
one_reaches shape m (suc r) = suc r ∷ []

-- and it exists
abbrev pub IsOneRecord : ℕ → Records → ℕ → Type 0
IsOneRecord shape m zero = Unit {0}
IsOneRecord shape m (suc r) = 0 < length (m (suc r))
