-- Counting: a test as a number.
use Rattle.std.specs.Prelude.{ℕ, Bool, cond}

-- 1 if the test holds, otherwise 0
abbrev pub one_if : Bool → ℕ
one_if test = cond test 1 0
