-- The machine of queries reads the queries, and what is read of a query's text is what the checks say of it.
use Rattle.std.proofs.Common.{◌≡◌, ◌≤◌, ◌+◌, ◌==◌, ◌&&◌, ℕ, List, [], Bool, true, false, cond, nat_lt, max, Option, Some, None, Result, Ok, Err, refl, sym, ap, ap₂, subst, ◌∙◌, append-nil, arith}
use Rattle.std.specs.Option.{option_map}
use Rattle.std.specs.Str.{IsUtf8}
use Rattle.std.proofs.lemmas.Bool.Decides.{nat_tests}
use Rattle.attr_types.specs.declared.field.Field.{Field}
use Rattle.attr_types.specs.declared.error.QueryError.{QueryError}
use Rattle.attr_types.specs.declared.error.QueryError.TheVariants.{WrongType, OutOfRange, TooDeep}
use Rattle.attr_types.specs.Scores.{AskTree, hits_of}
use Rattle.query_text.specs.declared.mode.Mode.{Mode}
use Rattle.query_text.specs.declared.survey.Survey.{Survey}
use Rattle.query_text.specs.Grammar.{NamedTree, whole_query, tree_text, IsFormed, resolved, unknown_in, tree_has_types, tree_in_range, levels_of, unless_unknown, checked_by, judged}
use Rattle.query_text.specs.Modes.{next_mode}
use Rattle.query_text.specs.Survey.{start, surveyed, surveyed_after, is_complete, ends_query, entered}
use Rattle.query_text.specs.Asks.{hits_found, hits_judged, query_if, query_of}
use Rattle.query_text.specs.Reading.{query_front}
use Rattle.query_text.proofs.ReadBack.{query_read}
use Rattle.query_text.proofs.Utf8Lemmas.{tree_readable}
use Rattle.query_text.proofs.Walks.{walk, Shows, accepted, refused, run_whole, walked, StopsIn, Reads, stops_in}
use Rattle.query_text.proofs.TreePaths.{Reaches, tree_through, tree_mode, begins_start, ends_tree}
use Rattle.query_text.proofs.Completions.{Form, form_to, form_next, form_ends, form_start, IsQuery, form_continues, form_whole}

abbrev pub form_of : Survey → Form
form_of survey = record { mode = survey.mode; depth = survey.depth }

form_same : (fields : List Field) (text : List ℕ) (survey : Survey) (place : ℕ) (o : Option Mode)
    → option_map form_of (option_map (entered fields text survey place) o) ≡ option_map (form_to (form_of survey)) o
form_same fields text survey place None = refl
form_same fields text survey place (Some mode) = refl

pub query_shows : (fields : List Field) (text : List ℕ) → Shows (surveyed_after fields text) is_complete form_next form_ends form_of
query_shows fields text = record {
  same = λ s place byte. form_same fields text s place (next_mode (nat_lt 0 s.depth) s.mode byte);
  ended = λ s. refl;
}

-- the survey of a query's text
abbrev pub Reached : List Field → NamedTree → Type 0
Reached fields query = Reaches fields (tree_text query) (start fields) 0 (tree_text query) (tree_mode query) (levels_of query) (unknown_in fields 0 query)
    (tree_has_types fields query) (tree_in_range query)

pub reached : (fields : List Field) (query : NamedTree) → IsFormed query → Reached fields query
reached fields query formed =
    tree_through fields (tree_text query) query (start fields) 0 (record { begun = refl; wanted = refl; mode = begins_start; below = omega arith }) formed
    ([], sym (append-nil (tree_text query)))

reached_whole : (fields : List Field) (query : NamedTree) (here : Reached fields query) → is_complete here.next ≡ true
reached_whole fields query here =
    ap₂ (λ d m. (d == 0) && ends_query m) here.depth_is here.mode_is ∙ (ends_tree query).whole

query_surveyed : (fields : List Field) (query : NamedTree) (here : Reached fields query) → surveyed fields (tree_text query) ≡ Ok here.next
query_surveyed fields query here =
    run_whole (surveyed_after fields (tree_text query)) is_complete form_next form_ends form_of (query_shows fields (tree_text query)) (start fields) here.next 0
    (tree_text query) here.is (reached_whole fields query here)

-- the checks
module _ (fields : List Field) (query : NamedTree) (formed : IsFormed query) (utf8 : IsUtf8 (tree_text query)) where
  found : tree_in_range query ≡ true → levels_of query ≤ 32 → query_front fields 32 (tree_text query) ≡ Some (resolved fields query, [])
  found small deep =
      ap (query_front fields 32) (sym (append-nil (tree_text query)))
      ∙ query_read fields query 32 [] formed (tree_readable query utf8 small) deep tt

  checked : (types range deep : Bool) → tree_in_range query ≡ range → nat_lt 32 (levels_of query) ≡ deep
      → (◌≡◌ {A = Result AskTree QueryError}
      (cond types (cond range (cond deep (Err TooDeep) (hits_found (tree_text query) (query_front fields 32 (tree_text query)))) (Err OutOfRange)) (Err WrongType))
      (checked_by types range deep (hits_of (resolved fields query))))
  checked false range deep s d = refl
  checked true false deep s d = refl
  checked true true true s d = refl
  checked true true false s d =
      let levels : levels_of query ≤ 32 = grind (arith, nat_tests) in
      ap (hits_found (tree_text query)) (found s levels)

  survey_checked : (here : Reached fields query)
      → hits_judged fields (tree_text query) here.next ≡ judged fields (whole_query query)
  survey_checked here =
      let deep : nat_lt 32 (max 1 (0 + levels_of query)) ≡ nat_lt 32 (levels_of query) = grind (arith, nat_tests) in
      let levels : nat_lt 32 here.next.levels ≡ nat_lt 32 (levels_of query) = ap (nat_lt 32) here.levels_is ∙ deep in
      (λ i. unless_unknown (here.unknown_is i) (cond (here.right_is i) (cond (here.small_is i)
      (cond (levels i) (Err TooDeep) (hits_found (tree_text query) (query_front fields 32 (tree_text query)))) (Err OutOfRange)) (Err WrongType)))
      ∙ ap (unless_unknown (unknown_in fields 0 query))
      (checked (tree_has_types fields query) (tree_in_range query) (nat_lt 32 (levels_of query)) refl refl)

  pub query_judged : (query_of fields (tree_text query) ≡ judged fields (whole_query query))
  unfolding query_of
  query_judged =
      let here = reached fields query formed in
      ap (query_if fields (tree_text query)) (query_surveyed fields query here) ∙ survey_checked here

pub query_is_surveyed : (fields : List Field) (query : NamedTree) → IsFormed query → (survey : Survey) × (surveyed fields (tree_text query) ≡ Ok survey)
query_is_surveyed fields query formed =
    let here = reached fields query formed in (here.next, query_surveyed fields query here)

-- the machine reads the queries
query_walked : (query : NamedTree) → IsFormed query → (last : Form) × (walk form_next form_start (tree_text query) ≡ Some last) × (form_ends last ≡ true)
query_walked query formed =
    let here = reached [] query formed in (
      form_of here.next,
      walked (surveyed_after [] (tree_text query)) is_complete form_next form_ends form_of (query_shows [] (tree_text query)) (start []) here.next 0 (tree_text query) here.is,
      reached_whole [] query here,
    )

pub query_reads : Reads form_next form_ends form_start IsQuery
query_reads = record {
  whole = λ text is. subst (λ t. (last : Form) × (walk form_next form_start t ≡ Some last) × (form_ends last ≡ true)) (sym is.2) (query_walked is.0 is.1);
  front = form_continues;
}

pub query_stops : (fields : List Field) (text : List ℕ) (place : ℕ) → surveyed fields text ≡ Err place → StopsIn IsQuery text place
query_stops fields text place e =
    let found = refused (surveyed_after fields text) is_complete form_next form_ends form_of (query_shows fields text) (start fields) 0 place text e in
    let here : found.0 ≡ place = omega (arith, found.1) in
    subst (StopsIn IsQuery text) here (stops_in form_next form_ends form_start IsQuery query_reads text found.0 found.2)

pub query_whole : (fields : List Field) (text : List ℕ) (survey : Survey) → surveyed fields text ≡ Ok survey → IsQuery text
query_whole fields text survey e =
    let read = accepted (surveyed_after fields text) is_complete form_next form_ends form_of (query_shows fields text) (start fields) survey 0 text e in
    form_whole text (form_of survey) read.0 read.1
