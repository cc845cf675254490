-- Laws of the grammar of query words, for texts in UTF-8.
use Rattle.std.specs.Prelude.{◌≡◌, List, ℕ, Result, Ok}
use Rattle.std.specs.Str.{IsUtf8}
use Rattle.attr_types.specs.declared.field.Field.{Field}
use Rattle.attr_types.specs.declared.error.QueryError.{QueryError}
use Rattle.attr_types.specs.Scores.{AskTree}
use Rattle.query_text.specs.Grammar.{AskForms, any_word, queries, Word, word_text, IsAmong, IsFormedWord, judged, Answers}
use Rattle.query_text.specs.Asks.{ask_of, query_of}

-- how a text is read, if these words are read
abbrev pub ask_by : AskForms → List Field → List ℕ → Result AskTree QueryError
ask_by any_word fields text = ask_of fields text
ask_by queries fields text = query_of fields text

-- a text is read as the grammar says
abbrev pub ReadsByGrammar : Type 0
ReadsByGrammar = (words : AskForms) (fields : List Field) (text : List ℕ) → IsUtf8 text
    → Answers words fields text (ask_by words fields text)

-- the grammar has no other answer
abbrev pub AnswersOnce : Type 0
AnswersOnce = (words : AskForms) (fields : List Field) (text : List ℕ) (answer : Result AskTree QueryError) → IsUtf8 text
    → Answers words fields text answer → ask_by words fields text ≡ answer

-- no text asks for two things
abbrev pub AsksOneThing : Type 0
AsksOneThing = (words : AskForms) (fields : List Field) (text : List ℕ) (a b : AskTree) → IsUtf8 text
    → Answers words fields text (Ok a) → Answers words fields text (Ok b) → a ≡ b

-- each word that has a text is read as what it asks, or as the first of its refusals
abbrev pub ReadsBack : Type 0
ReadsBack = (words : AskForms) (fields : List Field) (word : Word) → IsUtf8 (word_text word) → IsAmong words word → IsFormedWord word
    → ask_by words fields (word_text word) ≡ judged fields word
