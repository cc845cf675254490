-- Documents that fit: what an update makes of them, and one without items.
use Rattle.std.proofs.Common.{List, [], ◌∷◌, Option, Some, None, arith}
use Rattle.std.specs.List.{AllZip}
use Rattle.std.specs.List.Sorted.{IsStrictlySortedBy}
use Rattle.std.specs.Option.{IfSome}
use Rattle.attr_types.proofs.ChangeLemmas.{changed_fits}
use Rattle.attr_types.specs.Change.{changed}
use Rattle.attr_types.specs.Lawful.{IsLawfulDocument, DocumentHasType, ItemsFit, ChangeFits}
use Rattle.attr_types.specs.Table.{without_items, both, updated}
use Rattle.attr_types.specs.Value.{Document}
use Rattle.attr_types.specs.declared.change.Change.{Change}
use Rattle.attr_types.specs.declared.field.Field.{Field}
use Rattle.attr_types.specs.declared.items.Item.{Item}
use Rattle.attr_types.specs.declared.kind.Kind.{Kind}
use Rattle.attr_types.specs.declared.kind.Kind.TheVariants.{Single, Array, WeightedSet}
use Rattle.attr_types.specs.declared.kind.ValueType.{ValueType}

-- a lawful document with values of the attributes' types
abbrev pub DocumentFits : List Field → Document → Type 0
DocumentFits fields document = AllZip (λ field items. ItemsFit field.kind field.value items) fields document

abbrev pub ChangesFit : List Field → List Change → Type 0
ChangesFit fields changes = AllZip (λ field change. ChangeFits field.kind field.value change) fields changes

pub document_fits : (fields : List Field) (document : Document) → IsLawfulDocument fields document
    → DocumentHasType fields document → DocumentFits fields document
document_fits [] [] lawful typed = tt
document_fits [] (items ∷ document) lawful typed = absurd lawful
document_fits (field ∷ fields) [] lawful typed = absurd lawful
document_fits (field ∷ fields) (items ∷ document) lawful typed =
    ((lawful.0, typed.0), document_fits fields document lawful.1 typed.1)

pub document_is_lawful : (fields : List Field) (document : Document) → DocumentFits fields document
    → IsLawfulDocument fields document
document_is_lawful [] [] fits = tt
document_is_lawful [] (items ∷ document) fits = absurd fits
document_is_lawful (field ∷ fields) [] fits = absurd fits
document_is_lawful (field ∷ fields) (items ∷ document) fits = (fits.0.0, document_is_lawful fields document fits.1)

pub document_has_type : (fields : List Field) (document : Document) → DocumentFits fields document
    → DocumentHasType fields document
document_has_type [] [] fits = tt
document_has_type [] (items ∷ document) fits = absurd fits
document_has_type (field ∷ fields) [] fits = absurd fits
document_has_type (field ∷ fields) (items ∷ document) fits = (fits.0.1, document_has_type fields document fits.1)

nothing_fits : (kind : Kind) (type : ValueType) → ItemsFit kind type []
unfolding IsStrictlySortedBy
nothing_fits Single type = ((omega (arith), tt), tt)
nothing_fits Array type = ((omega (arith), tt), tt)
nothing_fits WeightedSet type = ((omega (arith), tt), tt)

pub without_items_fits : (fields : List Field) → DocumentFits fields (without_items fields)
without_items_fits [] = tt
without_items_fits (field ∷ fields) = (nothing_fits field.kind field.value, without_items_fits fields)

both_fit : (field : Field) (fields : List Field) (items : Option (List Item)) (document : Option Document)
    → IfSome items (ItemsFit field.kind field.value) → IfSome document (DocumentFits fields)
    → IfSome (both items document) (DocumentFits (field ∷ fields))
both_fit field fields None document left right = tt
both_fit field fields (Some items) None left right = tt
both_fit field fields (Some items) (Some document) left right = (left, right)

pub updated_fits : (fields : List Field) (changes : List Change) (document : Document) → ChangesFit fields changes
    → DocumentFits fields document → IfSome (updated fields changes document) (DocumentFits fields)
updated_fits [] changes document fit fits = tt
updated_fits (field ∷ fields) [] document fit fits = absurd fit
updated_fits (field ∷ fields) (change ∷ changes) [] fit fits = absurd fits
updated_fits (field ∷ fields) (change ∷ changes) (items ∷ document) fit fits =
    both_fit field fields (changed field.kind field.value change items) (updated fields changes document)
    (changed_fits field.kind field.value change items fit.0 fits.0) (updated_fits fields changes document fit.1 fits.1)
