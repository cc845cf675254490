-- The table that attributes represent.
use Rattle.std.specs.Prelude.{List}
use Rattle.entry_ref.specs.Records.{Records}
use Rattle.image_format.specs.Tables.{AttributeTrees, table_of_columns, columns_at}
use Rattle.attr_types.specs.Table.{Table}

-- the table that trees represent
abbrev pub table_at : Records → List AttributeTrees → Table
table_at m trees = table_of_columns (columns_at m trees)
