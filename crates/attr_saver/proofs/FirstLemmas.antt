-- The first attribute of images, by their shape.
use Rattle.std.proofs.Common.{◌≡◌, ◌≤◌, suc, List, [], ◌∷◌, length, refl, ap, ◌∙◌, arith, Some}
use Rattle.std.specs.Prelude.{slice_get}
use Rattle.list_lemmas.proofs.Options.{same_Some}
use Rattle.image_format.proofs.ShapeLemmas.{shape_tells}
use Rattle.image_format.specs.Shapes.{shape_of, types_of}
use Rattle.attr_types.specs.declared.field.Field.{Field}
use Rattle.attr_types.specs.declared.field.TheConstants.{MOST_FIELDS}
use Rattle.attr_types.specs.declared.kind.Kind.{Kind}
use Rattle.attr_types.specs.declared.kind.ValueType.{ValueType}
use Rattle.attr_saver.specs.Images.{IsFirst}

types_length : (fields : List Field) → length (types_of fields) ≡ length fields
types_length [] = refl
types_length (field ∷ fields) = ap suc (types_length fields)

first_type : (fields : List Field) (field : Field) → slice_get fields 0 ≡ Some field → slice_get (types_of fields) 0 ≡ Some (field.kind, field.value)
first_type [] field at = cc
first_type (f ∷ fields) field at = ap (λ (x : Field). Some (x.kind, x.value)) (same_Some f field at)

pub first_is : (fields : List Field) (field : Field) → length fields ≤ MOST_FIELDS → slice_get fields 0 ≡ Some field → IsFirst field.kind field.value (shape_of (types_of fields))
first_is fields field few at =
    ap (λ (ts : List (Kind × ValueType)). slice_get ts 0) (shape_tells (types_of fields) (omega (arith, few, types_length fields))) ∙ first_type fields field at
