-- A step of a path.
use Rattle.std.specs.Prelude.{ℕ}

-- a node above the leaves, and the slot of one of its children
pub record PathStep : Type 0 where
  pub node : ℕ
  pub slot : ℕ
