-- What is written of the number that a document may have.
use Rattle.std.specs.Prelude.{ℕ, ℤ, Option, Some, None}

-- 1 where there is a number
abbrev pub presence : Option ℤ → ℕ
presence None = 0
presence (Some number) = 1
