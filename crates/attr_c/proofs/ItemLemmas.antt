-- The documents of an attribute of a lawful image.
use Rattle.std.proofs.Common.{◌≡◌, ◌<◌, ◌≤◌, ◌+◌, ◌*◌, ◌^◌, ℕ, zero, suc, List, length, get_or, refl, subst, arith, Some}
use Rattle.std.specs.Prelude.{slice_get}
use Rattle.std.proofs.lemmas.Option.{slice_get_read, slice_get_within}
use Rattle.entry_ref.specs.Records.{Records}
use Rattle.attr_field.specs.Documents.{IsDocuments}
use Rattle.image_format.specs.Images.{documents_at, IsLawfulImage}
use Rattle.image_format.specs.Shapes.{shape_of, types_of}
use Rattle.image_format.proofs.ImageLemmas.{field_is_there, roots_there}
use Rattle.image_format.proofs.RootLemmas.{root_has_words}
use Rattle.attr_rounds.proofs.ImageLemmas.{are_documents}
use Rattle.attr_types.specs.declared.field.Field.{Field}
use Rattle.attr_types.specs.declared.field.TheConstants.{MOST_FIELDS}

pub field_there : (xs fields : List Field) (i : ℕ) (own : Field) → xs ≡ fields → i < length xs → own ≡ get_or xs i own → slice_get fields i ≡ Some own
field_there xs fields i own same within is =
    subst (λ fs. slice_get fs i ≡ Some own) same (slice_get_read xs (length xs) i own refl within is)

module _ (fields : List Field) (m : Records) (root : ℕ) (few : length fields ≤ MOST_FIELDS) (lawful : IsLawfulImage (shape_of (types_of fields)) m root) (i : ℕ) (field : Field)
    (at : slice_get fields i ≡ Some field) (references : (r : ℕ) → 0 < length (m r) → r < 2 ^ 32) where
  -- the word of the attribute's documents
  pub has_documents_root : (0 < root → 1 + 2 * i < length (m root)) × (documents_at m root i < 2 ^ 32)
  has_documents_root = (
    λ some. let words = root_has_words fields m root few some lawful in
        let within = slice_get_within fields i field at in
        omega (arith, words, within),
    told (documents_at m root i) (roots_there field.kind field.value m _ _ (field_is_there fields m root few lawful i field at).attribute).0,
  )
    where
      told : (r : ℕ) → (0 < r → 0 < length (m r)) → r < 2 ^ 32
      told zero there = omega arith
      told (suc r) there = references (suc r) (there (omega arith))

  pub documents_are : IsDocuments field.kind field.value m (documents_at m root i)
  documents_are = are_documents field.kind field.value m references _ _ (field_is_there fields m root few lawful i field at).attribute
