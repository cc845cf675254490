use Rattle.std.proofs.Common.{◌≡◌, ◌<◌, ◌+◌, ◌∙◌, ◌++◌, ◌∷◌, [], List, Err, ap, sym, subst, map, drop, length, slice_index_or, arith, rules, refl, ℕ}
use Rattle.std.proofs.Math.Seq.{drop-length}
use Rattle.std.specs.List.{AllByRecursion}
use Rattle.std.proofs.lemmas.Result.{err_from_is_err_and}
use Rattle.list_lemmas.proofs.Places.{drop-read}
use Rattle.attr_types.specs.declared.field.Field.{Field}
use Rattle.command_line.specs.Also.{EndsBefore, piece_of, fields_from}
use Rattle.command_line.specs.Settings.{Says}
use Rattle.command_line.specs.declared.also.AlsoPart.{AlsoPart}
use Rattle.command_line.proofs.FieldsLemmas.{fields_stopped, fields_next, fields_end}
use Rattle.command_line.proofs.also.fields_from.Goals as goal

abbrev no_part : AlsoPart
no_part = record { place = 0; text = record { ref_ptr = (0, 0); now = [] } }

-- the part that is read, and those after it
split : (parts : List AlsoPart) (i : ℕ) → i < length parts
    → map piece_of (drop i parts) ≡ piece_of (slice_index_or parts i no_part) ∷ map piece_of (drop (i + 1) parts)
split parts i below = ap (map piece_of) (drop-read parts i (slice_index_or parts i no_part) no_part below refl)

pub next_field-requires : goal.next_field-requires
next_field-requires c =
    let below : c.loop-part.part-index < length c.args.parts.now = omega arith in
    let left = subst (AllByRecursion (EndsBefore 18446744073709551614)) (split c.args.parts.now c.loop-part.part-index below)
    c.loop-part.invariant.left in
    omega (arith, left.0)

pub returns-in_err-field : goal.returns-in_err-field
returns-in_err-field c =
    let p = err_from_is_err_and c.from_residual-in_err-field.result c.from_residual-in_err-field.ensures.1 in
    let below : c.loop-part.part-index < length c.args.parts.now = omega arith in
    let is = ap (fields_from c.loop-part.fields) (sym (split c.args.parts.now c.loop-part.part-index below)) ∙ c.loop-part.invariant.read in
    rw (p.1 ∙ ap Err p.2) (subst (Says (λ (fields : List Field). fields) (Err c.in_err-field.field-0.0)) is
    (fields_stopped c.in_err-field.field-0.0 c.loop-part.fields _ _ (rw c.as_slice.ensures at c.in_err-field.ensures)))

pub loop-part-preserved : goal.loop-part-preserved
loop-part-preserved c =
    let below : c.loop-part.part-index < length c.args.parts.now = omega arith in
    let parts = split c.args.parts.now c.loop-part.part-index below in
    let left = subst (AllByRecursion (EndsBefore 18446744073709551614)) parts c.loop-part.invariant.left in
    let pushed : c.push.new.self ≡ c.loop-part.fields ++ c.in_ok-field.field ∷ [] = search rules in
    record {
      read = ap (λ fields. fields_from fields (map piece_of (drop (c.loop-part.part-index + 1) c.args.parts.now))) pushed
          ∙ sym (fields_next c.loop-part.fields _ _ c.in_ok-field.field (rw c.as_slice.ensures at c.in_ok-field.ensures))
          ∙ ap (fields_from c.loop-part.fields) (sym parts)
          ∙ c.loop-part.invariant.read;
      left = left.1;
    }

pub returns : goal.returns
returns c =
    let at_end : c.loop-part.part-index ≡ length c.args.parts.now = omega arith in
    let none = ap (λ n. drop n c.args.parts.now) at_end ∙ drop-length c.args.parts.now in
    sym c.loop-part.invariant.read
    ∙ ap (λ parts. fields_from c.loop-part.fields (map piece_of parts)) none
    ∙ fields_end c.loop-part.fields
