-- An image is lawful just where its root record has its form and the attributes that it names are lawful.
use Rattle.std.proofs.Common.{◌≡◌, ℕ, zero, suc, ◌<◌, ◌≤◌, List, [], length, Result, Ok, Err, refl, sym, ap, ap₂, subst, ◌∙◌, arith}
use Rattle.std.specs.Prelude.{IfErr}
use Rattle.std.proofs.lemmas.List.{length-map}
use Rattle.entry_ref.specs.Records.{Records}
use Rattle.image_format.proofs.ImageLemmas.{attributes_lawful, image_lawful, table_empty}
use Rattle.image_format.proofs.ShapeLemmas.{shape_tells}
use Rattle.image_format.specs.Images.{root_words, attributes_from, attributes_of, table_of, IsRootRecord, IsLawfulImage}
use Rattle.image_format.specs.Shapes.{shape_of, types_of_shape, types_of}
use Rattle.image_format.specs.Tables.{table_of_columns, columns_at, AreLawfulAttributes}
use Rattle.attr_types.specs.Table.{Table}
use Rattle.attr_types.specs.declared.field.Field.{Field}
use Rattle.attr_types.specs.declared.field.TheConstants.{MOST_FIELDS}
use Rattle.check_images.proofs.Walks.{refuted_by}
use Rattle.check_images.specs.Refutations.{Refutes}
use Rattle.check_images.specs.declared.fault.CheckFault.{CheckFault}

words_here : (m : Records) (root : ℕ) → 0 < root → root_words m root ≡ m root
words_here m zero some = absurd (omega arith)
words_here m (suc root) some = refl

form_here : (shape : ℕ) (m : Records) (root : ℕ) → 0 < root → IsLawfulImage shape m root → IsRootRecord (length (types_of_shape shape)) (m root)
form_here shape m zero some lawful = absurd (omega arith)
form_here shape m (suc root) some lawful = lawful.root_record

module _ (fields : List Field) (m : Records) (root : ℕ) (some : 0 < root) (few : length fields ≤ MOST_FIELDS) (words : List ℕ) (at : words ≡ m root) where
  tells : types_of_shape (shape_of (types_of fields)) ≡ types_of fields
  tells = shape_tells (types_of fields) (subst (λ n. n ≤ MOST_FIELDS) (sym (length-map fields (λ (f : Field). (f.kind, f.value)))) few)

  count : length (types_of_shape (shape_of (types_of fields))) ≡ length fields
  count = ap length tells ∙ length-map fields (λ (f : Field). (f.kind, f.value))

  named : attributes_of (shape_of (types_of fields)) m root ≡ attributes_from 0 (types_of fields) words
  named = ap₂ (λ ts ws. attributes_from 0 ts ws) tells (words_here m root some ∙ sym at)

  pub lawful_image : IsRootRecord (length fields) words → AreLawfulAttributes m (attributes_from 0 (types_of fields) words)
      → IsLawfulImage (shape_of (types_of fields)) m root
  lawful_image form good =
      image_lawful (shape_of (types_of fields)) m root
      (subst (λ n. IsRootRecord n (root_words m root)) (sym count) (subst (IsRootRecord (length fields)) (at ∙ sym (words_here m root some)) form))
      (subst (AreLawfulAttributes m) (sym named) good)

  pub image_record : IsLawfulImage (shape_of (types_of fields)) m root → IsRootRecord (length fields) words
  image_record lawful =
      subst (IsRootRecord (length fields)) (sym at) (subst (λ n. IsRootRecord n (m root)) count (form_here (shape_of (types_of fields)) m root some lawful))

  pub image_attributes : IsLawfulImage (shape_of (types_of fields)) m root → AreLawfulAttributes m (attributes_from 0 (types_of fields) words)
  image_attributes lawful = subst (AreLawfulAttributes m) named (attributes_lawful (shape_of (types_of fields)) m root lawful)

  pub image_table : table_of_columns (columns_at m (attributes_from 0 (types_of fields) words)) ≡ table_of (shape_of (types_of fields)) m root
  image_table = sym (ap (λ list. table_of_columns (columns_at m list)) named)

pub refuted_then : {T P Q : Type 0} (r : Result T CheckFault) → (Q → P) → IfErr r (Refutes P) → IfErr r (Refutes Q)
refuted_then (Ok x) f here = tt
refuted_then (Err fault) f here = refuted_by fault f here

-- the empty image
pub no_table : (shape : ℕ) (m : Records) (root : ℕ) (xs : Table) → root ≡ 0 → xs ≡ [] → xs ≡ table_of shape m root
no_table shape m root xs none empty = empty ∙ sym (table_empty shape m) ∙ ap (table_of shape m) (sym none)
