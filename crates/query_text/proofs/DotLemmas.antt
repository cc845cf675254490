-- The machine of dot products reads them, and what is read of a dot product's text is what the checks say of it.
use Rattle.std.proofs.Common.{◌≡◌, ◌<◌, ◌+◌, ◌&&◌, ℕ, List, [], ◌∷◌, ◌++◌, length, Bool, true, false, cond, nat_lt, Option, Some, None, Result, Ok, Err, refl, sym, ap, subst, ◌∙◌, append_assoc, append-nil, codes, arith}
use Rattle.std.specs.Option.{option_and_then, option_map, unwrap_or}
use Rattle.std.specs.List.{slice_get}
use Rattle.std.specs.Str.{IsUtf8}
use Rattle.attr_types.specs.declared.field.Field.{Field}
use Rattle.attr_types.specs.declared.error.QueryError.{QueryError}
use Rattle.attr_types.specs.declared.error.QueryError.TheVariants.{WrongType, OutOfRange}
use Rattle.attr_types.specs.Scores.{AskTree, dot_of}
use Rattle.attr_types.specs.declared.part.Part.{Part}
use Rattle.query_text.specs.declared.mode.Mode.TheVariants as modes
use Rattle.query_text.specs.declared.survey.Survey.{Survey}
use Rattle.query_text.specs.declared.dot.survey.DotMode.{DotMode}
use Rattle.query_text.specs.declared.dot.survey.DotMode.TheVariants as dots
use Rattle.query_text.specs.declared.dot.survey.DotSurvey.{DotSurvey}
use Rattle.query_text.specs.Grammar.{dot_product, parts_text, word_text, IsFormedName, field_of, type_at, is_weighted, unknown_if, unless_unknown, checked_by, judged, parts_have_type, parts_in_range}
use Rattle.query_text.specs.Machine.{run_from, on_next}
use Rattle.query_text.specs.Modes.{next_mode}
use Rattle.query_text.specs.Survey.{start, surveyed, surveyed_after, is_complete, entered}
use Rattle.query_text.specs.Dot.{dot_next, dot_start, dot_entered, dot_after, dot_is_ended, dot_surveyed, has_ended}
use Rattle.query_text.specs.Asks.{parts_in, dot_found, dot_judged, dot_if, ask_if, ask_of}
use Rattle.query_text.proofs.DotBack.{dot_read}
use Rattle.query_text.proofs.DotFronts.{IsDot, dot_continues, dot_whole}
use Rattle.query_text.proofs.DotPaths.{dot_reached, dot_through}
use Rattle.query_text.proofs.TreePaths.{name_through, begins_start}
use Rattle.query_text.proofs.Walks.{through, through-append, walk, Shows, accepted, refused, run_whole, walked, StopsIn, Reads, stops_in}

abbrev mode_of : DotSurvey → DotMode
mode_of survey = survey.mode

mode_same : (fields : List Field) (text : List ℕ) (survey : DotSurvey) (place : ℕ) (o : Option DotMode) → option_map mode_of (option_map (dot_entered fields text survey place) o) ≡ o
mode_same fields text survey place None = refl
mode_same fields text survey place (Some mode) = refl

dot_shows : (fields : List Field) (text : List ℕ) → Shows (dot_after fields text) dot_is_ended dot_next has_ended mode_of
dot_shows fields text = record {
  same = λ s place byte. mode_same fields text s place (dot_next s.mode byte);
  ended = λ s. refl;
}

dot_is_surveyed : (fields : List Field) (name : Option (List ℕ)) (parts : List Part) → IsFormedName name → 0 < length parts
    → dot_surveyed fields (word_text (dot_product name parts)) ≡ Ok (dot_reached fields name parts)
dot_is_surveyed fields name parts formed some =
    run_whole (dot_after fields (word_text (dot_product name parts))) dot_is_ended dot_next has_ended mode_of (dot_shows fields (word_text (dot_product name parts)))
    dot_start (dot_reached fields name parts) 0 (word_text (dot_product name parts)) (dot_through fields name parts formed some) refl

-- ---- it is no query

-- a run that ends has come through
ran : {S : Type 0} (after : S → ℕ → ℕ → Option S) (ends : S → Bool) (s last : S) (place : ℕ) (text : List ℕ) → run_from after ends s place text ≡ Ok last
    → through after s place text ≡ Some last
unfolding run_from through
ran after ends s last place [] e = whole (ends s) e
  where
    whole : (b : Bool) → cond b (Ok s) (Err place) ≡ Ok last → Some s ≡ Some last
    whole true f = let same : s ≡ last = cc in ap Some same
    whole false f = absurd cc
ran after ends s last place (byte ∷ rest) e =
    (elim (after s place byte) as (λ o. on_next o (λ next. run_from after ends next (place + 1) rest) place ≡ Ok last
    → option_and_then (λ next. through after next (place + 1) rest) o ≡ Some last) [
      | None ↦ λ f. absurd cc
      | Some next ↦ λ f. ran after ends next last (place + 1) rest f
    ]) e

no_query_front : (fields : List Field) (text rest : List ℕ) → through (surveyed_after fields text) (start fields) 0 (codes "dot(" ++ rest) ≡ None
unfolding through next_mode
no_query_front fields text rest = refl

no_letter_leaf : (fields : List Field) (text : List ℕ) (survey : Survey) (place : ℕ) (rest : List ℕ) → survey.mode ≡ modes.Named
    → through (surveyed_after fields text) survey place (codes "dot(" ++ rest) ≡ None
unfolding through next_mode
no_letter_leaf fields text survey place rest named =
    ap (λ m. option_and_then (λ next. through (surveyed_after fields text) next (place + 1) (codes "ot(" ++ rest))
    (option_map (entered fields text survey place) (next_mode (nat_lt 0 survey.depth) m 100))) named

no_query : (fields : List Field) (name : Option (List ℕ)) (parts : List Part) → IsFormedName name
    → through (surveyed_after fields (word_text (dot_product name parts))) (start fields) 0 (word_text (dot_product name parts)) ≡ None
no_query fields None parts formed =
    let text = word_text (dot_product None parts) in
    ap (through (surveyed_after fields text) (start fields) 0) (append_assoc (codes "dot(") (parts_text parts) (codes ")"))
    ∙ no_query_front fields text (parts_text parts ++ codes ")")
no_query fields (Some name) parts formed =
    let behind = codes "dot(" ++ (parts_text parts ++ codes ")") in
    let whole : word_text (dot_product (Some name) parts) ≡ (name ++ codes ":") ++ behind =
    append_assoc ((name ++ codes ":") ++ codes "dot(") (parts_text parts) (codes ")")
    ∙ append_assoc (name ++ codes ":") (codes "dot(") (parts_text parts ++ codes ")") in
    let text = (name ++ codes ":") ++ behind in
    let named = name_through fields text (start fields) 0 name behind
    (record { begun = refl; wanted = refl; mode = begins_start; below = omega arith }) formed ([], sym (append-nil text)) in
    ap (λ t. through (surveyed_after fields t) (start fields) 0 t) whole
    ∙ through-append (surveyed_after fields text) (start fields) 0 (name ++ codes ":") behind
    ∙ ap (option_and_then (λ next. through (surveyed_after fields text) next (0 + length (name ++ codes ":")) behind)) named
    ∙ no_letter_leaf fields text _ (0 + length (name ++ codes ":")) (parts_text parts ++ codes ")") refl

pub dot_no_query : (fields : List Field) (name : Option (List ℕ)) (parts : List Part) → IsFormedName name
    → (place : ℕ) × (surveyed fields (word_text (dot_product name parts)) ≡ Err place)
dot_no_query fields name parts formed =
    let text = word_text (dot_product name parts) in
    (elim (surveyed fields text) as (λ r. surveyed fields text ≡ r → (place : ℕ) × (r ≡ Err place)) [
      | Err place ↦ λ e. (place, refl)
      | Ok survey ↦ λ e.
          let lost : None ≡ Some survey =
          sym (no_query fields name parts formed) ∙ ran (surveyed_after fields text) is_complete (start fields) survey 0 text e in
          absurd cc
    ]) refl

-- ---- the checks

module _ (fields : List Field) (name : Option (List ℕ)) (parts : List Part) (formed : IsFormedName name) (some : 0 < length parts)
    (utf8 : IsUtf8 (word_text (dot_product name parts))) where
  checked : (number : ℕ) (weighted types range : Bool) → parts_in_range parts ≡ range
      → (◌≡◌ {A = Result AskTree QueryError}
      (cond weighted (cond types (cond range (dot_found (word_text (dot_product name parts)) number (parts_in (word_text (dot_product name parts)))) (Err OutOfRange)) (Err WrongType)) (Err WrongType))
      (checked_by (weighted && types) range false (dot_of number parts)))
  checked number false types range h = refl
  checked number true false range h = refl
  checked number true true false h = refl
  checked number true true true h =
      ap (dot_found (word_text (dot_product name parts)) number) (dot_read name parts formed some utf8 h)

  found_judged : (found : Option ℕ) → field_of fields name ≡ found
      → dot_judged fields (word_text (dot_product name parts)) found
      (record { mode = dots.Ended; found = found; right = parts_have_type (type_at fields (unwrap_or found 0)) parts; small = parts_in_range parts })
      ≡ unless_unknown (unknown_if 0 found)
      (checked_by (is_weighted (slice_get fields (unwrap_or found 0)) && parts_have_type (type_at fields (unwrap_or found 0)) parts) (parts_in_range parts) false
      (dot_of (unwrap_or found 0) parts))
  found_judged None e = refl
  found_judged (Some number) e =
      checked number (is_weighted (slice_get fields number)) (parts_have_type (type_at fields number) parts) (parts_in_range parts) refl

  pub dot_is_judged : (ask_of fields (word_text (dot_product name parts)) ≡ judged fields (dot_product name parts))
  unfolding ask_of
  dot_is_judged =
      let text = word_text (dot_product name parts) in
      let place = dot_no_query fields name parts formed in
      ap (ask_if fields text) place.1
      ∙ ap (dot_if fields text place.0) (dot_is_surveyed fields name parts formed some)
      ∙ found_judged (field_of fields name) refl

-- ---- the machine reads the dot products

dot_walked : (name : Option (List ℕ)) (parts : List Part) → IsFormedName name → 0 < length parts
    → (last : DotMode) × (walk dot_next dots.Front (word_text (dot_product name parts)) ≡ Some last) × (has_ended last ≡ true)
dot_walked name parts formed some = (
  dots.Ended,
  walked (dot_after [] (word_text (dot_product name parts))) dot_is_ended dot_next has_ended mode_of (dot_shows [] (word_text (dot_product name parts))) dot_start
      (dot_reached [] name parts) 0 (word_text (dot_product name parts)) (dot_through [] name parts formed some),
  refl,
)

dot_reads : Reads dot_next has_ended dots.Front IsDot
dot_reads = record {
  whole = λ text is. subst (λ t. (last : DotMode) × (walk dot_next dots.Front t ≡ Some last) × (has_ended last ≡ true)) (sym is.4) (dot_walked is.0 is.1 is.2 is.3);
  front = dot_continues;
}

pub dot_stops : (fields : List Field) (text : List ℕ) (place : ℕ) → dot_surveyed fields text ≡ Err place → StopsIn IsDot text place
dot_stops fields text place e =
    let found = refused (dot_after fields text) dot_is_ended dot_next has_ended mode_of (dot_shows fields text) dot_start 0 place text e in
    let here : found.0 ≡ place = omega (arith, found.1) in
    subst (StopsIn IsDot text) here (stops_in dot_next has_ended dots.Front IsDot dot_reads text found.0 found.2)

pub dot_is_whole : (fields : List Field) (text : List ℕ) (survey : DotSurvey) → dot_surveyed fields text ≡ Ok survey → IsDot text
dot_is_whole fields text survey e =
    let read = accepted (dot_after fields text) dot_is_ended dot_next has_ended mode_of (dot_shows fields text) dot_start survey 0 text e in
    dot_whole text survey.mode read.0 read.1
