-- A reader under a guard.
use Rattle.std.specs.Prelude.{◌≡◌, ℕ, ◌≤◌, List, ◌∷◌, length}
use Rattle.atomic_table.specs.Seated.{TableId}
use Rattle.entry_ref.specs.Images.{words_at}
use Rattle.gen_core.specs.declared.views.ReaderView.{ReaderView}
use Rattle.word_arena.specs.Ruled.{seen_image, seen_number}
use Rattle.image_format.specs.Images.{table_of, operations_at, IsLawfulImage}
use Rattle.image_format.specs.Shapes.{shape_of, types_of}
use Rattle.attr_types.specs.Table.{Table}
use Rattle.attr_types.specs.declared.field.Field.{Field}
use Rattle.attr_types.specs.declared.field.TheConstants.{MOST_FIELDS}

-- the attributes for the asks, the memory that is read, and what the reader has seen, the guarded commit first
pub record KeptView : Type 0 where
  pub fields : List Field
  pub home : TableId
  pub reader : ReaderView

-- the guarded commit is one of these attributes
pub record IsKept (fields : List Field) (reader : ReaderView) : Type 0 where
  pub few : length fields ≤ MOST_FIELDS
  pub shaped : reader.sizes.shape ≡ shape_of (types_of fields)
  pub lawful : IsLawfulImage (shape_of (types_of fields)) (words_at (seen_image reader)) (seen_image reader).root

-- the table of the guarded commit, and its number of operations
abbrev pub table_in : KeptView → Table
table_in k = table_of (shape_of (types_of k.fields)) (words_at (seen_image k.reader)) (seen_image k.reader).root

abbrev pub operations_of : KeptView → ℕ
operations_of k = operations_at (words_at (seen_image k.reader)) (seen_image k.reader).root

-- the guarded commit is not older than any that the reader saw before, and nothing else was seen
pub record IsGuardOf (before after : ReaderView) : Type 0 where
  pub same_sizes : after.sizes ≡ before.sizes
  pub later : before.seen ≤ seen_number after
  pub seen : after.seen ≡ seen_number after
  pub saw : after.saw ≡ (seen_number after, seen_image after) ∷ before.saw
