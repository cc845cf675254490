-- A fake sink, and the effect of a write on it.
use Rattle.std.specs.Prelude.{ℕ, ◌-◌, ◌≤◌, ◌⊎◌, min, List, ◌++◌, length, take}
use Rattle.attr_io.specs.FakeSource.{IsListed}
use Rattle.attr_io.specs.Faults.{counted_up}

-- the bytes taken, how many it takes in all, the most that a call takes, the numbers of the calls that fail, the
-- number of calls made, and the count of faults
pub record FakeSinkState : Type 0 where
  pub taken : List ℕ
  pub room : ℕ
  pub step : ℕ
  pub fails : List ℕ
  pub calls : ℕ
  pub faults : ℕ

-- the next call fails: it is listed, or no space is left
abbrev pub FailsNext : FakeSinkState → Type 0
FailsNext s = IsListed s.fails s.calls ⊎ (s.room ≤ length s.taken)

-- the number of bytes of a piece that a call takes if it does not fail
abbrev pub taken_count : FakeSinkState → List ℕ → ℕ
taken_count s piece = min (min (length piece) s.step) (s.room - length s.taken)

-- n bytes of a piece were taken
abbrev pub after_write : FakeSinkState → List ℕ → ℕ → FakeSinkState
after_write s piece n = record s { taken = s.taken ++ take n piece; calls = counted_up s.calls }

-- a call failed
abbrev pub after_fault : FakeSinkState → FakeSinkState
after_fault s = record s { calls = counted_up s.calls; faults = counted_up s.faults }
