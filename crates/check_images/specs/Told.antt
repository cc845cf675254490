-- The meaning of reading a record.
use Rattle.std.specs.Prelude.{Option, Some, None}

-- the fact holds if and only if there is a result
abbrev pub Tells : {T : Type 0} → Type 0 → (T → Type 0) → Option T → Type 0
Tells P Q (Some told) = P × Q told
Tells P Q None = ¬ P
