-- Images: a root, and the records that it reaches.
use Rattle.std.specs.Prelude.{ℕ, List, [], Option, nat_eq}
use Rattle.std.specs.Map.{lookup}
use Rattle.entry_ref.specs.Records.{Records, pairs_of, records_of}
use Rattle.entry_ref.specs.declared.images.Image.{Image}

-- root 0 and no record
abbrev pub no_image : Image
no_image = record { root = 0; records = [] }

-- the words of a record of the image
abbrev pub record_at : Image → ℕ → Option (List ℕ)
record_at image ref = lookup (nat_eq ref) image.records

-- an image as records
abbrev pub words_at : Image → Records
words_at image = records_of image.records

-- the image with these references, their words, and this root
abbrev pub image_of : List ℕ → Records → ℕ → Image
image_of refs m root = record { root = root; records = pairs_of refs m }
