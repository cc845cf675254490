-- What a reader keeps of a table.
use Rattle.std.specs.Prelude.{ℕ, List, [], ◌∷◌, Option}
use Rattle.std.specs.BTreeMap.{is_at}
use Rattle.std.specs.Map.{lookup}
use Rattle.std.specs.Ordering.{nat_cmp}
use Rattle.index_model.specs.Columns.{column_of}
use Rattle.attr_saver.specs.Bytes.{saved_bytes}
use Rattle.attr_saver.specs.Lawful.{save_of}
use Rattle.attr_types.specs.Scores as table
use Rattle.attr_types.specs.Table.{Table}
use Rattle.attr_types.specs.declared.field.Field.{Field}
use Rattle.attr_types.specs.declared.items.Item.{Item}
use Rattle.attr_c.specs.declared.answer.Answer.{Answer}
use Rattle.attr_c.specs.declared.answer.Answer.TheVariants.{Hits, Scores}

-- an answer, in the form of a table's answer
abbrev pub said : Answer → table.Answer
said (Hits docs) = table.documents docs
said (Scores list) = table.scored list

-- the items of a document in the attribute with this number, if the document exists
abbrev pub items_of : ℕ → ℕ → Table → Option (List Item)
items_of field doc table = lookup (is_at (nat_cmp doc)) (column_of field table)

-- the bytes of a save of the first attribute after this many operations
abbrev pub save_of_table : List Field → ℕ → Table → List ℕ
save_of_table [] operations table = []
save_of_table (field ∷ fields) operations table = saved_bytes (save_of field.kind field.value operations table)
