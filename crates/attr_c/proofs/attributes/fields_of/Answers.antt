use Rattle.std.proofs.Common.{◌≡◌, ◌<◌, ◌≤◌, ◌+◌, ◌∙◌, ◌++◌, ◌∷◌, [], List, Err, ap, sym, subst, map, drop, length, slice_index_or, arith, rules, refl, ℕ}
use Rattle.std.proofs.Math.Seq.{drop-length}
use Rattle.std.proofs.lemmas.List.{length_push}
use Rattle.std.specs.Borrow.{Bor}
use Rattle.std.proofs.lemmas.Result.{err_from_is_err_and}
use Rattle.list_lemmas.proofs.Places.{drop-read}
use Rattle.attr_types.specs.declared.field.TheConstants.{MOST_FIELDS}
use Rattle.attr_c.specs.Attributes.{field_in, fields_from, SaysField, SaysFields}
use Rattle.attr_c.proofs.AttributesLemmas.{fields_stopped, fields_next, fields_full, fields_end}
use Rattle.attr_c.proofs.attributes.fields_of.Goals as goal

abbrev no_text : Bor (List ℕ)
no_text = record { ref_ptr = (0, 0); now = [] }

-- the text that is read, and those after it
split : (texts : List (Bor (List ℕ))) (i : ℕ) → i < length texts
    → map (λ (t : Bor (List ℕ)). t.now) (drop i texts) ≡ (slice_index_or texts i no_text).now ∷ map (λ (t : Bor (List ℕ)). t.now) (drop (i + 1) texts)
split texts i below = ap (map (λ (t : Bor (List ℕ)). t.now)) (drop-read texts i (slice_index_or texts i no_text) no_text below refl)

pub returns-then-len-ge-MOST_FIELDS-clause-says : goal.returns-then-len-ge-MOST_FIELDS-clause-says
returns-then-len-ge-MOST_FIELDS-clause-says c =
    let below : c.loop-text.text-index < length c.args.texts.now = omega arith in
    let before : c.len.result ≡ length c.loop-text.fields = search rules in
    let number : c.len-then-len-ge-MOST_FIELDS.result ≡ length c.loop-text.fields = search rules in
    let full : MOST_FIELDS ≤ length c.loop-text.fields = omega (arith, before) in
    sym c.loop-text.invariant.read ∙ ap (fields_from c.loop-text.fields) (split c.args.texts.now c.loop-text.text-index below)
    ∙ fields_full c.loop-text.fields _ _ full ∙ ap Err (sym number)

pub returns-in_err-field-clause-says : goal.returns-in_err-field-clause-says
returns-in_err-field-clause-says c =
    let p = err_from_is_err_and c.from_residual.result c.from_residual.ensures.1 in
    let below : c.loop-text.text-index < length c.args.texts.now = omega arith in
    let before : c.len.result ≡ length c.loop-text.fields = search rules in
    let room : length c.loop-text.fields < MOST_FIELDS = omega (arith, before) in
    let is = ap (fields_from c.loop-text.fields) (sym (split c.args.texts.now c.loop-text.text-index below)) ∙ c.loop-text.invariant.read in
    rw (p.1 ∙ ap Err p.2) (subst (SaysFields (Err c.in_err-field.field-0.0)) is
    (fields_stopped c.in_err-field.field-0.0 c.loop-text.fields _ _ room
    (subst (λ fields. SaysField (length fields) (Err c.in_err-field.field-0.0) (field_in fields (slice_index_or c.args.texts.now c.loop-text.text-index no_text).now))
    c.as_slice.ensures c.in_err-field.ensures)))

pub loop-text-preserved : goal.loop-text-preserved
loop-text-preserved c =
    let below : c.loop-text.text-index < length c.args.texts.now = omega arith in
    let before : c.len.result ≡ length c.loop-text.fields = search rules in
    let room : length c.loop-text.fields < MOST_FIELDS = omega (arith, before) in
    let pushed : c.push.new.self ≡ c.loop-text.fields ++ c.in_ok-field.field ∷ [] = search rules in
    record {
      few = omega (arith, room, ap length pushed, length_push c.loop-text.fields c.in_ok-field.field);
      read = ap (λ fields. fields_from fields (map (λ (t : Bor (List ℕ)). t.now) (drop (c.loop-text.text-index + 1) c.args.texts.now))) pushed
          ∙ sym (fields_next c.loop-text.fields _ _ c.in_ok-field.field room (rw c.as_slice.ensures at c.in_ok-field.ensures))
          ∙ ap (fields_from c.loop-text.fields) (sym (split c.args.texts.now c.loop-text.text-index below))
          ∙ c.loop-text.invariant.read;
    }

pub returns-clause-says : goal.returns-clause-says
returns-clause-says c =
    let at_end : c.loop-text.text-index ≡ length c.args.texts.now = omega arith in
    let none = ap (λ n. drop n c.args.texts.now) at_end ∙ drop-length c.args.texts.now in
    sym c.loop-text.invariant.read
    ∙ ap (λ texts. fields_from c.loop-text.fields (map (λ (t : Bor (List ℕ)). t.now) texts)) none
    ∙ fields_end c.loop-text.fields
