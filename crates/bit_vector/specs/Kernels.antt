-- Words that are combined one by one with other words.
use Rattle.std.specs.Prelude.{ℕ, List, ◌++◌, take, drop}
use Rattle.std.specs.Simd.Lanes.{zip2}

-- the words after those from a place on are combined; those before it do not change
abbrev pub joined_from : (ℕ → ℕ → ℕ) → ℕ → List ℕ → List ℕ → List ℕ
joined_from f at words other = take at words ++ zip2 f (drop at words) (drop at other)
