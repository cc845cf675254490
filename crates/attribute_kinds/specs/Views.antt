-- Attributes as callers see them.
use Rattle.std.specs.Prelude.{Bool, ℕ, List, Option}
use Rattle.attr_compaction.specs.Places.{PlanView}
use Rattle.image_format.specs.Tables.{AttributeTrees}
use Rattle.attr_types.specs.Table.{Table}
use Rattle.attr_types.specs.declared.field.Field.{Field}

-- the store with the attributes, which own everything in it
pub record AttributeView (S : Type 0) : Type 0 where
  pub store : S
  pub fields : List Field
  -- whether bit vectors are wanted
  pub dense : Bool
  -- the trees of each attribute, and the table that they represent
  pub trees : List AttributeTrees
  pub table : Table
  -- the operations applied so far
  pub operations : ℕ
  -- the root record of the last commit (0 before the first), its table and its operations
  pub root : ℕ
  pub committed : Table
  pub committed_operations : ℕ
  -- the compaction in progress
  pub plan : Option PlanView
