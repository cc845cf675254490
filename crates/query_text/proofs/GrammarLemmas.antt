-- What is read is what the grammar answers.
use Rattle.std.proofs.Common.{◌≡◌, ◌<◌, ◌≤◌, ◌+◌, ℕ, List, ◌++◌, length, take, drop, max, Result, Ok, Err, refl, sym, ap, subst, ◌∙◌, inl, inr, arith}
use Rattle.std.specs.Str.{IsUtf8}
use Rattle.std.proofs.lemmas.Bool.{cases_lt}
use Rattle.std.proofs.lemmas.List.{take-append-drop}
use Rattle.attr_types.specs.declared.field.Field.{Field}
use Rattle.attr_types.specs.declared.query.Query.{Query}
use Rattle.attr_types.specs.declared.error.QueryError.{QueryError}
use Rattle.attr_types.specs.declared.error.QueryError.TheVariants.{Syntax, NoField, WrongType, OutOfRange, TooDeep, Memory}
use Rattle.attr_types.specs.Scores.{AskTree}
use Rattle.attr_types.specs.declared.ask.Ask.{Ask}
use Rattle.query_text.specs.Grammar.{AskForms, any_word, queries, Word, whole_query, dot_product, tree_text, word_text, IsAmong, IsFormedWord, IsWordText, judged, Continues, BreaksAt, Answers, AnswersAs, AnswersQuery}
use Rattle.query_text.specs.Survey.{surveyed}
use Rattle.query_text.specs.declared.dot.survey.DotSurvey.{DotSurvey}
use Rattle.query_text.specs.Dot.{dot_surveyed}
use Rattle.query_text.specs.Asks.{query_if, query_of, dot_if, ask_if, ask_of, ParsesAs, AsksAs}
use Rattle.query_text.specs.Laws.{ask_by}
use Rattle.query_text.proofs.Completions.{IsQuery}
use Rattle.query_text.proofs.DotFronts.{IsDot}
use Rattle.query_text.proofs.DotLemmas.{dot_is_judged, dot_stops, dot_is_whole}
use Rattle.query_text.proofs.QueryLemmas.{query_judged, query_is_surveyed, query_stops, query_whole}
use Rattle.query_text.proofs.Walks.{StopsIn, shorter, none_past, none_whole}

-- ---- whatever words are read

-- a word's text is read as the checks say, and each text has an answer
pub record IsRead (words : AskForms) : Type 0 where
  pub word : (fields : List Field) (text : List ℕ) (word : Word) → IsUtf8 text → IsWordText words text word → ask_by words fields text ≡ judged fields word
  pub total : (fields : List Field) (text : List ℕ) → IsUtf8 text → Answers words fields text (ask_by words fields text)

-- a shorter front of a text goes on to the same word
continues_shorter : (words : AskForms) (text : List ℕ) (m n : ℕ) → m ≤ n → Continues words (take n text) → Continues words (take m text)
continues_shorter words text m n short (word, rest, is) = (
  word,
  drop m (take n text) ++ rest,
  record { among = is.among; formed = is.formed; written = shorter text m n rest short ∙ is.written },
)

no_word : (words : AskForms) (text : List ℕ) (place : ℕ) (word : Word) → BreaksAt words text place → IsWordText words text word → ⊥
no_word words text place word stop is =
    elim (cases_lt place (length text)) [
      | inl inside ↦ stop.stops inside (
        word,
        drop (place + 1) text,
        record { among = is.among; formed = is.formed; written = take-append-drop (place + 1) text ∙ is.written },
      )
      | inr past ↦ stop.unfinished (omega (arith, stop.within)) word is
    ]

one_place : (words : AskForms) (text : List ℕ) (m n : ℕ) → BreaksAt words text m → BreaksAt words text n → m < n → ⊥
one_place words text m n stop stop' before =
    stop.stops (omega (arith, stop'.within)) (continues_shorter words text (m + 1) n (omega arith) stop'.continues)

same_place : (words : AskForms) (text : List ℕ) (m n : ℕ) → BreaksAt words text m → BreaksAt words text n → m ≡ n
same_place words text m n stop stop' = elim (cases_lt m n) [
  | inl before ↦ absurd (one_place words text m n stop stop' before)
  | inr past ↦ elim (cases_lt n m) [
    | inl before ↦ absurd (one_place words text n m stop' stop before)
    | inr equal ↦ omega arith
  ]
]

module _ (words : AskForms) (read : IsRead words) (fields : List Field) where
  pub read_once : (text : List ℕ) (answer : Result AskTree QueryError) → IsUtf8 text → Answers words fields text answer → ask_by words fields text ≡ answer
  read_once text answer utf8 (Answers.by_word word is e) = read.word fields text word utf8 is ∙ e
  read_once text answer utf8 (Answers.by_place place stop e) = stopped (read.total fields text utf8)
    where
      stopped : Answers words fields text (ask_by words fields text) → ask_by words fields text ≡ answer
      stopped (Answers.by_word word is e') = absurd (no_word words text place word stop is)
      stopped (Answers.by_place place' stop' e') =
          sym e' ∙ ap (λ p. Err (Syntax p)) (same_place words text place' place stop' stop) ∙ e

  pub asks_one : (text : List ℕ) (a b : AskTree) → IsUtf8 text → Answers words fields text (Ok a) → Answers words fields text (Ok b) → a ≡ b
  asks_one text a b utf8 is is' =
      let same : ◌≡◌ {A = Result AskTree QueryError} (Ok a) (Ok b) = sym (read_once text (Ok a) utf8 is) ∙ read_once text (Ok b) utf8 is' in
      cc

  pub read_back : (word : Word) → IsUtf8 (word_text word) → IsAmong words word → IsFormedWord word → ask_by words fields (word_text word) ≡ judged fields word
  read_back word utf8 among formed = read.word fields (word_text word) word utf8 (record { among = among; formed = formed; written = refl })

-- ---- queries alone

query_word : (text : List ℕ) → IsQuery text → (word : Word) × IsWordText queries text word
query_word text (query, formed, written) = (whole_query query, record { among = tt; formed = formed; written = written })

pub word_query : (text : List ℕ) (word : Word) → IsWordText queries text word → IsQuery text
word_query text (whole_query query) is = (query, is.formed, is.written)
word_query text (dot_product name parts) is = absurd is.among

query_place : (text : List ℕ) (place : ℕ) → StopsIn IsQuery text place → BreaksAt queries text place
query_place text place stop =
    let goes = query_word (take place text ++ stop.rest) stop.continues in
    record {
      within = stop.within;
      continues = (goes.0, stop.rest, goes.1);
      stops = λ inside more. stop.stops inside more.1 (word_query _ more.0 more.2);
      unfinished = λ all word is. stop.unfinished all (word_query text word is);
    }

query_is_read : (fields : List Field) (text : List ℕ) (word : Word) → IsUtf8 text → IsWordText queries text word → query_of fields text ≡ judged fields word
query_is_read fields text (whole_query query) utf8 is =
    ap (query_of fields) is.written ∙ query_judged fields query is.formed (subst IsUtf8 is.written utf8)
query_is_read fields text (dot_product name parts) utf8 is = absurd is.among

query_total : (fields : List Field) (text : List ℕ) → IsUtf8 text → Answers queries fields text (query_of fields text)
unfolding query_of
query_total fields text utf8 =
    (elim (surveyed fields text) as (λ r. surveyed fields text ≡ r → Answers queries fields text (query_if fields text r)) [
      | Err place ↦ λ e. Answers.by_place place (query_place text place (query_stops fields text place e)) refl
      | Ok survey ↦ λ e.
          let word = query_word text (query_whole fields text survey e) in
          Answers.by_word word.0 word.1 (sym (query_is_read fields text word.0 utf8 word.1) ∙ ap (query_if fields text) e)
    ]) refl

pub queries_read : IsRead queries
queries_read = record { word = query_is_read; total = query_total }

-- a parser's answer is the grammar's
pub says_query : (fields : List Field) (text : List ℕ) (result : Result Query QueryError) → IsUtf8 text → ParsesAs result (query_of fields text)
    → AnswersQuery fields text result
says_query fields text (Ok query) utf8 said = subst (Answers queries fields text) said (query_total fields text utf8)
says_query fields text (Err (Syntax place)) utf8 said = subst (Answers queries fields text) said (query_total fields text utf8)
says_query fields text (Err (NoField place)) utf8 said = subst (Answers queries fields text) said (query_total fields text utf8)
says_query fields text (Err WrongType) utf8 said = subst (Answers queries fields text) said (query_total fields text utf8)
says_query fields text (Err OutOfRange) utf8 said = subst (Answers queries fields text) said (query_total fields text utf8)
says_query fields text (Err TooDeep) utf8 said = subst (Answers queries fields text) said (query_total fields text utf8)
says_query fields text (Err Memory) utf8 said = tt

-- ---- any word

hits_word : (text : List ℕ) → IsQuery text → (word : Word) × IsWordText any_word text word
hits_word text (query, formed, written) = (whole_query query, record { among = tt; formed = formed; written = written })

dot_word : (text : List ℕ) → IsDot text → (word : Word) × IsWordText any_word text word
dot_word text (name, parts, formed, some, written) = (dot_product name parts, record { among = tt; formed = (formed, some); written = written })

-- the later of two places
module _ (text : List ℕ) (place other : ℕ) (query_stop : StopsIn IsQuery text place) (dot_stop : StopsIn IsDot text other) where
  later_goes : (word : Word) × (rest : List ℕ) × IsWordText any_word (take (max place other) text ++ rest) word
  later_goes = elim (cases_lt place other) [
    | inl before ↦
        let here : other ≡ max place other = omega arith in
        let goes = dot_word (take other text ++ dot_stop.rest) dot_stop.continues in
        subst (λ k. (word : Word) × (rest : List ℕ) × IsWordText any_word (take k text ++ rest) word) here (goes.0, dot_stop.rest, goes.1)
    | inr past ↦
        let here : place ≡ max place other = omega arith in
        let goes = hits_word (take place text ++ query_stop.rest) query_stop.continues in
        subst (λ k. (word : Word) × (rest : List ℕ) × IsWordText any_word (take k text ++ rest) word) here (goes.0, query_stop.rest, goes.1)
  ]

  none_goes : max place other < length text → (word : Word) (rest : List ℕ) → IsWordText any_word (take (max place other + 1) text ++ rest) word → ⊥
  none_goes inside (whole_query query) rest is =
      none_past IsQuery text place (max place other + 1) rest query_stop (omega arith) (omega (arith, inside)) (query, is.formed, is.written)
  none_goes inside (dot_product name parts) rest is =
      none_past IsDot text other (max place other + 1) rest dot_stop (omega arith) (omega (arith, inside)) (name, parts, is.formed.0, is.formed.1, is.written)

  none_is : (word : Word) → IsWordText any_word text word → ⊥
  none_is (whole_query query) is = elim (cases_lt place (length text)) [
    | inl inside ↦ none_whole IsQuery text place query_stop inside (query, is.formed, is.written)
    | inr past ↦ query_stop.unfinished (omega (arith, query_stop.within)) (query, is.formed, is.written)
  ]
  none_is (dot_product name parts) is = elim (cases_lt other (length text)) [
    | inl inside ↦ none_whole IsDot text other dot_stop inside (name, parts, is.formed.0, is.formed.1, is.written)
    | inr past ↦ dot_stop.unfinished (omega (arith, dot_stop.within)) (name, parts, is.formed.0, is.formed.1, is.written)
  ]

  later_place : BreaksAt any_word text (max place other)
  later_place = record {
    within = omega (arith, query_stop.within, dot_stop.within);
    continues = later_goes;
    stops = λ inside more. none_goes inside more.0 more.1 more.2;
    unfinished = λ all word is. none_is word is;
  }

ask_is_read : (fields : List Field) (text : List ℕ) (word : Word) → IsUtf8 text → IsWordText any_word text word → ask_of fields text ≡ judged fields word
unfolding ask_of query_of
ask_is_read fields text (whole_query query) utf8 is =
    let surveyed_so = query_is_surveyed fields query is.formed in
    ap (ask_of fields) is.written
    ∙ ap (ask_if fields (tree_text query)) surveyed_so.1 ∙ sym (ap (query_if fields (tree_text query)) surveyed_so.1)
    ∙ query_judged fields query is.formed (subst IsUtf8 is.written utf8)
ask_is_read fields text (dot_product name parts) utf8 is =
    ap (ask_of fields) is.written ∙ dot_is_judged fields name parts is.formed.0 is.formed.1 (subst IsUtf8 is.written utf8)

ask_total : (fields : List Field) (text : List ℕ) → IsUtf8 text → Answers any_word fields text (ask_of fields text)
unfolding ask_of
ask_total fields text utf8 =
    (elim (surveyed fields text) as (λ r. surveyed fields text ≡ r → Answers any_word fields text (ask_if fields text r)) [
      | Ok survey ↦ λ e.
          let word = hits_word text (query_whole fields text survey e) in
          Answers.by_word word.0 word.1 (sym (ask_is_read fields text word.0 utf8 word.1) ∙ ap (ask_if fields text) e)
      | Err place ↦ λ e. neither place e (dot_surveyed fields text) refl
    ]) refl
  where
    neither : (place : ℕ) → surveyed fields text ≡ Err place → (r : Result DotSurvey ℕ) → dot_surveyed fields text ≡ r → Answers any_word fields text (dot_if fields text place r)
    neither place e (Ok survey) e' =
        let word = dot_word text (dot_is_whole fields text survey e') in
        Answers.by_word word.0 word.1
        (sym (ask_is_read fields text word.0 utf8 word.1) ∙ ap (ask_if fields text) e ∙ ap (dot_if fields text place) e')
    neither place e (Err other) e' =
        Answers.by_place (max place other) (later_place text place other (query_stops fields text place e) (dot_stops fields text other e')) refl

pub asks_read : IsRead any_word
asks_read = record { word = ask_is_read; total = ask_total }

pub says_ask : (fields : List Field) (text : List ℕ) (result : Result Ask QueryError) → IsUtf8 text → AsksAs result (ask_of fields text)
    → AnswersAs fields text result
says_ask fields text (Ok ask) utf8 said = subst (Answers any_word fields text) said (ask_total fields text utf8)
says_ask fields text (Err (Syntax place)) utf8 said = subst (Answers any_word fields text) said (ask_total fields text utf8)
says_ask fields text (Err (NoField place)) utf8 said = subst (Answers any_word fields text) said (ask_total fields text utf8)
says_ask fields text (Err WrongType) utf8 said = subst (Answers any_word fields text) said (ask_total fields text utf8)
says_ask fields text (Err OutOfRange) utf8 said = subst (Answers any_word fields text) said (ask_total fields text utf8)
says_ask fields text (Err TooDeep) utf8 said = subst (Answers any_word fields text) said (ask_total fields text utf8)
says_ask fields text (Err Memory) utf8 said = tt

-- ---- both

pub words_read : (words : AskForms) → IsRead words
words_read any_word = asks_read
words_read queries = queries_read
