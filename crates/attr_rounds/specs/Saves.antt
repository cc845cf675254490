-- The save of an image, as what a reader's round answers.
use Rattle.std.specs.Prelude.{◌≡◌, ℕ, Vec}
use Rattle.std.specs.Global.{Global}
use Rattle.entry_ref.specs.Records.{Records}
use Rattle.image_format.specs.Images.{operations_at}
use Rattle.attr_types.specs.declared.field.Field.{Field}
use Rattle.attr_saver.specs.Bytes.{saved_bytes}
use Rattle.attr_saver.specs.Images.{image_save}

-- how many operations an image has
abbrev pub operations_of : ℕ → Records → ℕ → ℕ
operations_of shape m root = operations_at m root

-- these bytes are the save of an image's first attribute, which is this one
abbrev pub saves_of : Field → ℕ → Records → ℕ → Vec ℕ Global → Type 0
saves_of field shape m root bytes = bytes.items ≡ saved_bytes (image_save field.kind field.value shape m root)
