-- A fake source, and the effect of a read on it.
use Rattle.std.specs.Prelude.{ℕ, ◌+◌, min, List, length, drop, Contains}
use Rattle.attr_io.specs.Faults.{counted_up}

-- the bytes left, the most that a call gives, the numbers of the calls that fail, the number of calls made, and the
-- count of faults
pub record FakeSourceState : Type 0 where
  pub left : List ℕ
  pub step : ℕ
  pub fails : List ℕ
  pub calls : ℕ
  pub faults : ℕ

-- the next call is in the list; calls are numbered from 1, and their count stops only where the next number is
-- greater than any in a list of 64-bit numbers
abbrev pub IsListed : List ℕ → ℕ → Type 0
IsListed fails calls = Contains fails (calls + 1)

-- the number of bytes that a call gives into a piece of this length if it does not fail
abbrev pub given_count : FakeSourceState → ℕ → ℕ
given_count s len = min (min len s.step) (length s.left)

-- n bytes were given
abbrev pub after_read : FakeSourceState → ℕ → FakeSourceState
after_read s n = record s { left = drop n s.left; calls = counted_up s.calls }

-- a call failed
abbrev pub after_fault : FakeSourceState → FakeSourceState
after_fault s = record s { calls = counted_up s.calls; faults = counted_up s.faults }
