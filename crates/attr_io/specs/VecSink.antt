-- A sink in memory, and the effect of a write on it.
use Rattle.std.specs.Prelude.{ℕ, ◌-◌, ◌≤◌, min, List, ◌++◌, length, take}
use Rattle.attr_io.specs.Faults.{counted_up}

-- the bytes taken, how many it takes in all, and its count of faults
pub record VecSinkState : Type 0 where
  pub taken : List ℕ
  pub room : ℕ
  pub faults : ℕ

-- no space is left
abbrev pub IsSinkFull : VecSinkState → Type 0
IsSinkFull s = s.room ≤ length s.taken

-- the number of bytes of a piece that fit
abbrev pub fitting_count : VecSinkState → List ℕ → ℕ
fitting_count s piece = min (length piece) (s.room - length s.taken)

-- n bytes of a piece were taken
abbrev pub after_write : VecSinkState → List ℕ → ℕ → VecSinkState
after_write s piece n = record s { taken = s.taken ++ take n piece }

-- a write failed
abbrev pub after_fault : VecSinkState → VecSinkState
after_fault s = record s { faults = counted_up s.faults }
