-- What holds of a run that words ask for.
use Rattle.std.proofs.Common.{◌≡◌, ap, refl, subst, ℕ, ◌+◌, List, [], ◌∷◌, map, string_bytes}
use Rattle.std.proofs.Common.{Option, Some, None, IfSome, Result, Ok, Err, String}
use Rattle.std.proofs.lemmas.Str.{IsUtf8-string_bytes}
use Rattle.std.specs.List.{AllByRecursion, AllZip}
use Rattle.std.specs.Str.{IsUtf8}
use Rattle.clap.specs.Walk.{Text}
use Rattle.attr_types.specs.declared.error.QueryError.{QueryError}
use Rattle.attr_types.specs.declared.field.Field.{Field}
use Rattle.command_line.specs.CommandLine.{make, seed}
use Rattle.command_line.specs.Reading.{IsWithin}
use Rattle.command_line.specs.Settings.{Given, settings_in, IsLawful, SettingsAreLawful}
use Rattle.command_line.specs.declared.reading.WordsError.{WordsError}
use Rattle.attr_types.specs.Scores.{AskTree}
use Rattle.query_text.specs.Asks.{ask_of}
use Rattle.query_text.specs.Grammar.{any_word, Answers}
use Rattle.query_text.specs.Laws.{ReadsByGrammar}
use Rattle.attr_report.specs.Run.{Run}
use Rattle.attr_run.specs.Run.{◌>>=◌, given_or_refused, ask_or_refused, asks_from, make_of, run_of, asked}
use Rattle.attr_run.specs.Settings.{IsTextOf, IsWithinRanges, IsLawfulRun, RunsAreAsked}
use Rattle.attr_run.specs.declared.outcome.Status.{Status}

-- texts that lie in strings are UTF-8
pub strings_utf8 : {Z : Type 0} (texts : List (String Z)) → AllByRecursion IsUtf8 (map (λ t. string_bytes t) texts)
strings_utf8 [] = tt
strings_utf8 (text ∷ texts) = (IsUtf8-string_bytes text, strings_utf8 texts)

-- two steps that came to an answer each came to one
next_ok : {A B : Type 0} (r : Result A Status) (next : A → Result B Status) (b : B) → (r >>= next) ≡ Ok b
    → (a : A) × (r ≡ Ok a) × (next a ≡ Ok b)
next_ok (Ok a) next b is = (a, refl, is)
next_ok (Err status) next b is = cc

same_ok : {A E : Type 0} (r : Result A E) (a b : A) → r ≡ Ok a → r ≡ Ok b → a ≡ b
same_ok r a b first second = cc

read_ok : (number : ℕ) (r : Result AskTree QueryError) (ask : AskTree) → ask_or_refused number r ≡ Ok ask → r ≡ Ok ask
read_ok number (Ok ask) other is = ap (λ (a : AskTree). Ok a) (same_ok (Ok ask) ask other refl is)
read_ok number (Err error) other is = cc

shown_ok : (g other : Given) → given_or_refused (Ok g) ≡ Ok other → g ≡ other
shown_ok g other same = cc

given_ok : (r : Result Given WordsError) (given other : Given) → r ≡ Ok given → given_or_refused r ≡ Ok other → given ≡ other
given_ok r given other is shown = shown_ok given other (subst (λ (x : Result Given WordsError). given_or_refused x ≡ Ok other) is shown)

texts_read : ReadsByGrammar → (fields : List Field) (number : ℕ) (texts : List Text) (asks : List AskTree)
    → asks_from fields number texts ≡ Ok asks → AllByRecursion IsUtf8 texts → AllZip (IsTextOf fields) texts asks
unfolding asks_from
texts_read reads fields number [] asks is all =
    subst (λ (found : List AskTree). AllZip (IsTextOf fields) [] found) (same_ok (Ok []) [] asks refl is) tt
texts_read reads fields number (text ∷ texts) asks is all =
    let first = next_ok (ask_or_refused number (ask_of fields text)) _ asks is in
    let others = next_ok (asks_from fields (number + 1) texts) _ asks first.2 in
    let here = subst (Answers any_word fields text) (read_ok number (ask_of fields text) first.0 first.1)
    (reads any_word fields text all.0) in
    subst (λ (found : List AskTree). AllZip (IsTextOf fields) (text ∷ texts) found)
    (same_ok (Ok (first.0 ∷ others.0)) (first.0 ∷ others.0) asks refl others.2)
    ((all.0, here), texts_read reads fields (number + 1) texts others.0 others.1 all.1)

made_within : (count : Option ℕ) (from : ℕ) → IfSome count (IsWithin make) → IsWithin seed from
    → IfSome (make_of count from) IsWithinRanges
made_within None from counted started = tt
made_within (Some count) from counted started = (counted, started)

run_is_lawful : (given : Given) (asks : List AskTree) → IsLawful given
    → AllZip (IsTextOf given.fields) given.queries asks → IsLawfulRun given.queries (run_of given asks)
run_is_lawful given asks lawful found = record {
  in_batch = lawful.in_batch;
  in_readers = lawful.in_readers;
  in_rounds = lawful.in_rounds;
  in_buffers = lawful.in_buffers;
  in_words = lawful.in_words;
  in_make = made_within given.make given.seed lawful.in_make lawful.in_seed;
  room = lawful.room;
  some = lawful.some;
  few = lawful.few;
  asks = found;
}

pub runs_are_asked : SettingsAreLawful → ReadsByGrammar → RunsAreAsked
unfolding asked
runs_are_asked settings reads line run given is words utf8 =
    let g = next_ok (given_or_refused (settings_in line)) _ run is in
    let q = next_ok (asks_from g.0.fields 1 g.0.queries) _ run g.2 in
    let same = given_ok (settings_in line) given g.0 words g.1 in
    let texts = subst (λ (x : Given). AllByRecursion IsUtf8 x.queries) same utf8 in
    let found = texts_read reads g.0.fields 1 g.0.queries q.0 q.1 texts in
    let here = subst (λ (x : Given). settings_in line ≡ Ok x) same words in
    let lawful = run_is_lawful g.0 q.0 (settings line g.0 here) found in
    record {
      given = g.0;
      is = here;
      lawful = subst (λ (r : Run). IsLawfulRun g.0.queries r) (same_ok (Ok (run_of g.0 q.0)) (run_of g.0 q.0) run refl q.2) lawful;
    }
