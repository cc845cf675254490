-- The save of an image: the first attribute of its table, after its operations.
use Rattle.std.specs.Prelude.{◌≡◌, ℕ, Some, slice_get}
use Rattle.entry_ref.specs.Records.{Records}
use Rattle.image_format.specs.Images.{operations_at, table_of, IsLawfulImage}
use Rattle.image_format.specs.Shapes.{types_of_shape}
use Rattle.attr_types.specs.declared.kind.Kind.{Kind}
use Rattle.attr_types.specs.declared.kind.ValueType.{ValueType}
use Rattle.attr_saver.specs.Lawful.{save_of, IsLawfulSaved}
use Rattle.attr_saver.specs.declared.saved.Saved.{Saved}

-- images of this shape have a first attribute of this kind and value type
abbrev pub IsFirst : Kind → ValueType → ℕ → Type 0
IsFirst kind type shape = slice_get (types_of_shape shape) 0 ≡ Some (kind, type)

abbrev pub image_save : Kind → ValueType → ℕ → Records → ℕ → Saved
image_save kind type shape m root = save_of kind type (operations_at m root) (table_of shape m root)

-- the save of a lawful image is lawful
abbrev pub ImagesMayBeSaved : Type 0
ImagesMayBeSaved = (kind : Kind) (type : ValueType) (shape : ℕ) (m : Records) (root : ℕ)
    → IsFirst kind type shape → IsLawfulImage shape m root → IsLawfulSaved (image_save kind type shape m root)
