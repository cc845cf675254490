-- The attributes of texts, one after another.
use Rattle.std.proofs.Common.{◌≡◌, ◌<◌, ◌≤◌, ℕ, Bool, true, false, cond, List, [], ◌∷◌, ◌++◌, length, map, nat_lt, ◌==◌, Option, Some, None, Ok, Err, ap, sym, ◌∙◌, refl, arith}
use Rattle.std.specs.Borrow.{Bor}
use Rattle.std.proofs.lemmas.Bool.Decides.{nat_tests}
use Rattle.std.proofs.lemmas.List.{length_push}
use Rattle.std.specs.List.{onto_first}
use Rattle.attr_types.specs.declared.field.Field.{Field}
use Rattle.attr_types.specs.declared.field.TheConstants.{MOST_FIELDS}
use Rattle.attr_c.specs.Attributes.{after_field, field_in, field_of_parts, fields_from, next_field, parts_of, SaysField, SaysFields}
use Rattle.attr_c.specs.declared.attributes.AttributesError.{AttributesError}
use Rattle.attr_c.specs.declared.attributes.AttributesError.TheVariants as errors

is_next : (before : List Field) (text : List ℕ) → length before < MOST_FIELDS → next_field before text ≡ field_in before text
is_next before text below =
    let is : nat_lt (length before) MOST_FIELDS ≡ true = grind (arith, nat_tests) in
    ap (λ b. cond b (field_in before text) None) is

pub fields_next : (before : List Field) (text : List ℕ) (texts : List (List ℕ)) (field : Field) → length before < MOST_FIELDS → field_in before text ≡ Some field
    → fields_from before (text ∷ texts) ≡ fields_from (before ++ field ∷ []) texts
unfolding fields_from
fields_next before text texts field below e =
    ap (λ f. after_field (length before) f (λ field. fields_from (before ++ field ∷ []) texts)) (is_next before text below ∙ e)

-- where an attribute is refused, so are all
pub fields_stopped : (error : AttributesError) (before : List Field) (text : List ℕ) (texts : List (List ℕ)) → length before < MOST_FIELDS
    → SaysField (length before) (Err error) (field_in before text) → SaysFields (Err error) (fields_from before (text ∷ texts))
unfolding fields_from
fields_stopped (errors.Broken number) before text texts below says =
    ap (λ f. after_field (length before) f (λ field. fields_from (before ++ field ∷ []) texts)) (is_next before text below ∙ says.0) ∙ ap Err (sym says.1)
fields_stopped errors.Memory before text texts below says = tt

-- there is no ninth attribute
pub fields_full : (before : List Field) (text : List ℕ) (texts : List (List ℕ)) → MOST_FIELDS ≤ length before → fields_from before (text ∷ texts) ≡ Err (length before)
unfolding fields_from
fields_full before text texts full =
    let is : nat_lt (length before) MOST_FIELDS ≡ false = grind (arith, nat_tests) in
    ap (λ b. after_field (length before) (cond b (field_in before text) None) (λ field. fields_from (before ++ field ∷ []) texts)) is

pub fields_end : (before : List Field) → fields_from before [] ≡ Ok before
unfolding fields_from
fields_end before = refl

onto_some : (byte : ℕ) (parts : List (List ℕ)) → 0 < length parts → 0 < length (onto_first byte parts)
onto_some byte [] some = absurd (omega (arith, some))
onto_some byte (part ∷ parts) some = omega arith

-- a text has a part
pub parts_some : (mark : ℕ) (text : List ℕ) → 0 < length (parts_of mark text)
parts_some mark [] = omega arith
parts_some mark (byte ∷ text) = go (byte == mark) (parts_some mark text)
  where
    go : (b : Bool) → 0 < length (parts_of mark text) → 0 < length (cond b ([] ∷ parts_of mark text) (onto_first byte (parts_of mark text)))
    go true some = omega arith
    go false some = onto_some byte (parts_of mark text) some

-- no attribute is lost
grows : (before : List Field) (texts : List (List ℕ)) (fields : List Field) → fields_from before texts ≡ Ok fields → length before ≤ length fields
unfolding fields_from
grows before [] fields e = let same : before ≡ fields = cc in omega (arith, ap length same)
grows before (text ∷ texts) fields e = go (next_field before text) (λ field. grows (before ++ field ∷ []) texts fields) e
  where
    go : (f : Option Field) → ((field : Field) → fields_from (before ++ field ∷ []) texts ≡ Ok fields → length (before ++ field ∷ []) ≤ length fields)
        → after_field (length before) f (λ field. fields_from (before ++ field ∷ []) texts) ≡ Ok fields → length before ≤ length fields
    go (Some field) more e = omega (arith, more field e, length_push before field)
    go None more e = cc

-- a text that names none is wrong
pub none_empty : (texts : List (List ℕ)) → 0 < length texts → fields_from [] texts ≡ Ok [] → ⊥
unfolding fields_from
none_empty [] some e = omega (arith, some)
none_empty (text ∷ texts) some e = go (next_field [] text) e
  where
    go : (f : Option Field) → after_field 0 f (λ field. fields_from ([] ++ field ∷ []) texts) ≡ Ok [] → ⊥
    go (Some field) e = let more = grows (field ∷ []) texts [] e in omega (arith, more)
    go None e = cc

-- an attribute has three parts
pub field_none : (before : List Field) (parts : List (Bor (List ℕ))) → (length parts ≡ 3 → ⊥) → field_of_parts before (map (λ (t : Bor (List ℕ)). t.now) parts) ≡ None
field_none before [] not_three = refl
field_none before (name ∷ []) not_three = refl
field_none before (name ∷ kind ∷ []) not_three = refl
field_none before (name ∷ kind ∷ value ∷ []) not_three = absurd (not_three refl)
field_none before (name ∷ kind ∷ value ∷ part ∷ parts) not_three = refl

pub other_parts : (before : List Field) (text : List ℕ) (parts : List (Bor (List ℕ))) → map (λ (t : Bor (List ℕ)). t.now) parts ≡ parts_of 58 text → (length parts ≡ 3 → ⊥)
    → None ≡ field_in before text
other_parts before text parts same not_three = sym (field_none before parts not_three) ∙ ap (field_of_parts before) same
