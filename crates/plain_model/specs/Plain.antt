-- A plain table as its callers see it.
use Rattle.std.specs.Prelude.{List}
use Rattle.attr_types.specs.Table.{Table}
use Rattle.attr_types.specs.declared.field.Field.{Field}

-- a table, and its attributes
pub record Plain : Type 0 where
  pub fields : List Field
  pub table : Table
