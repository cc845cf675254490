-- The last image of a store, read in other records that have the same words of it.
use Rattle.std.proofs.Common.{◌≡◌, ℕ, zero, suc, ◌<◌, List, [], ◌∷◌, length, refl, sym, ap, ◌∙◌}
use Rattle.std.specs.Prelude.{slice_index}
use Rattle.entry_ref.specs.Records.{Records, AllThere, SameAt}
use Rattle.image_format.proofs.ImageLemmas.{table_empty}
use Rattle.image_format.specs.Images.{IsLawfulImage, attr_reaches, attributes_from, attributes_of, operations_at, table_of}
use Rattle.image_format.specs.ProofsForImages.{attr_present, attr_stays, columns_at-same}
use Rattle.image_format.specs.Shapes.{types_of_shape}
use Rattle.image_format.specs.Tables.{columns_at, table_of_columns}

same_there : (refs : List ℕ) (m w : Records) → AllThere refs m → ((r : ℕ) → 0 < length (m r) → w r ≡ m r) → SameAt refs m w
same_there [] m w there same = tt
same_there (r ∷ refs) m w there same = (same r there.0, same_there refs m w there.1 same)

module _ (shape : ℕ) (m w : Records) (same : (r : ℕ) → 0 < length (m r) → w r ≡ m r) where
  read_same : (root : ℕ) → IsLawfulImage shape m root → SameAt (attr_reaches shape m root) m w
  read_same root lawful = same_there (attr_reaches shape m root) m w (attr_present shape m root lawful) same

  pub lawful_taken : (root : ℕ) → IsLawfulImage shape m root → IsLawfulImage shape w root
  lawful_taken root lawful = (attr_stays shape m w root (read_same root lawful) lawful).0

  pub table_taken : (root : ℕ) → IsLawfulImage shape m root → table_of shape w root ≡ table_of shape m root
  table_taken zero lawful = table_empty shape w ∙ sym (table_empty shape m)
  table_taken (suc root) lawful =
      let stay = read_same (suc root) lawful in
      ap (λ ws. table_of_columns (columns_at w (attributes_from 0 (types_of_shape shape) ws))) stay.0
      ∙ ap table_of_columns (columns_at-same m w (attributes_of shape m (suc root)) stay.1)

  pub operations_taken : (root : ℕ) → IsLawfulImage shape m root → operations_at w root ≡ operations_at m root
  operations_taken zero lawful = refl
  operations_taken (suc root) lawful = ap (λ ws. slice_index ws 0) (read_same (suc root) lawful).0
