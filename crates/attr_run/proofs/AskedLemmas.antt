-- What the words ask for, step by step.
use Rattle.std.proofs.Common.{◌≡◌, ◌≤◌, ◌∙◌, sym, ap, refl, ℕ, List, [], ◌∷◌, length, ◌+◌}
use Rattle.std.proofs.Common.{Result, Ok, Err, IfErr, subst}
use Rattle.clap.specs.Walk.{Text}
use Rattle.clap.specs.Faults.{fault_of}
use Rattle.attr_types.specs.declared.error.QueryError.{QueryError}
use Rattle.attr_types.specs.declared.field.Field.{Field}
use Rattle.command_line.specs.CommandLine.{attr_app}
use Rattle.command_line.specs.Reading.{AskForHelp, AreRefused}
use Rattle.command_line.specs.Settings.{Given, Says as SaysOfWords, settings_in}
use Rattle.command_line.specs.declared.reading.WordsError.{WordsError}
use Rattle.command_line.specs.declared.reading.WordsError.TheVariants as words
use Rattle.attr_types.specs.Scores.{AskTree}
use Rattle.query_text.specs.Asks.{ask_of}
use Rattle.attr_report.specs.Run.{Run, run_in}
use Rattle.attr_run.specs.Run.{◌>>=◌, refusal_of, given_or_refused, ask_or_refused, asks_from, run_of, asked}
use Rattle.attr_run.specs.Steps.{Says, words_stop, IsWordsStop}
use Rattle.attr_run.specs.declared.outcome.Status.{Status}
use Rattle.attr_run.specs.declared.outcome.Status.TheVariants.{Help, Usage}
use Rattle.attr_run.specs.declared.outcome.UsageCause.TheVariants as usage
use Rattle.attr_run.specs.declared.stop.Stop.{Stop}
use Rattle.attr_run.specs.declared.stop.Stop.TheVariants as stops
use Rattle.attr_run.proofs.HelpLemmas.{IsLate, help-found, refusal-found, found-help, found-refusal}

-- ---- the settings

pub words-refused : {A : Type 0} (shown : A → Given) (error : WordsError) (said : Result Given WordsError)
    → SaysOfWords shown (Err error) said → Says shown (Err (words_stop error)) (given_or_refused said)
words-refused shown words.Help said says = ap given_or_refused says
words-refused shown words.Refused said says = ap given_or_refused says
words-refused shown words.Kind said says = ap given_or_refused says
words-refused shown words.Value said says = ap given_or_refused says
words-refused shown (words.Size buffers each) said says = ap given_or_refused says
words-refused shown (words.Also place) said says = ap given_or_refused says
words-refused shown words.Memory said says = tt

pub words_stop-words : (error : WordsError) → IsWordsStop (words_stop error)
words_stop-words words.Help = tt
words_stop-words words.Refused = tt
words_stop-words words.Kind = tt
words_stop-words words.Value = tt
words_stop-words (words.Size buffers each) = tt
words_stop-words (words.Also place) = tt
words_stop-words words.Memory = tt

-- ---- the steps after them

pub asked-at_settings : {A : Type 0} (shown : A → Given) (line : List Text) (stop : Stop)
    → Says shown (Err stop) (given_or_refused (settings_in line)) → Says run_in (Err stop) (asked line)
unfolding asked
asked-at_settings shown line (stops.Answer status) said = rw said refl
asked-at_settings shown line stops.Memory said = tt

pub asked-at_asks : (line : List Text) (given : Given) {A : Type 0} (shown : A → List AskTree) (stop : Stop)
    → given_or_refused (settings_in line) ≡ Ok given
    → Says shown (Err stop) (asks_from given.fields 1 given.queries) → Says run_in (Err stop) (asked line)
unfolding asked
asked-at_asks line given shown (stops.Answer status) is said = rw (is, said) refl
asked-at_asks line given shown stops.Memory is said = tt

pub asked-whole : (line : List Text) (given : Given) (asks : List AskTree)
    → given_or_refused (settings_in line) ≡ Ok given → asks_from given.fields 1 given.queries ≡ Ok asks
    → asked line ≡ Ok (run_of given asks)
unfolding asked
asked-whole line given asks is read = rw (is, read) refl

-- ---- what the words give, from what they ask for

-- a refusal of what is asked
abbrev IsOfAsks : Status → Type 0
IsOfAsks (Usage (usage.Query number error)) = Unit {0}
IsOfAsks _ = ⊥

later-next : {A B : Type 0} (r : Result A Status) (next : A → Result B Status) → IfErr r IsOfAsks
    → ((a : A) → IfErr (next a) IsOfAsks) → IfErr (r >>= next) IsOfAsks
later-next (Ok a) next here after = after a
later-next (Err status) next here after = here

later-ask : (number : ℕ) (said : Result AskTree QueryError) → IfErr (ask_or_refused number said) IsOfAsks
later-ask number (Ok ask) = tt
later-ask number (Err error) = tt

later-asks : (fields : List Field) (number : ℕ) (texts : List Text) → IfErr (asks_from fields number texts) IsOfAsks
unfolding asks_from
later-asks fields number [] = tt
later-asks fields number (text ∷ texts) = later-next _ _ (later-ask number (ask_of fields text))
    (λ ask. later-next _ _ (later-asks fields (number + 1) texts) (λ asks. tt))

refused_first : (said : Result Given WordsError) (rest : Given → Result Run Status) (status : Status)
    → (IsOfAsks status → ⊥) → ((given : Given) → IfErr (rest given) IsOfAsks)
    → (given_or_refused said >>= rest) ≡ Err status → given_or_refused said ≡ Err status
refused_first (Ok given) rest status early later is =
    absurd (early (subst (λ (r : Result Run Status). IfErr r IsOfAsks) is (later given)))
refused_first (Err error) rest status early later is = cc

-- the words' own refusal behind an answer
abbrev error_of : Status → WordsError
error_of Help = words.Help
error_of (Usage usage.Words) = words.Refused
error_of (Usage usage.KindName) = words.Kind
error_of (Usage usage.ValueName) = words.Value
error_of (Usage (usage.Size buffers each)) = words.Size buffers each
error_of (Usage (usage.Also place)) = words.Also place
error_of _ = words.Memory

back : (error : WordsError) → error_of (refusal_of error) ≡ error
back words.Help = refl
back words.Refused = refl
back words.Kind = refl
back words.Value = refl
back (words.Size buffers each) = refl
back (words.Also place) = refl
back words.Memory = refl

by_error : (said : Result Given WordsError) (error : WordsError) → given_or_refused said ≡ Err (refusal_of error) → said ≡ Err error
by_error (Ok given) error is = cc
by_error (Err other) error is =
    let same : refusal_of other ≡ refusal_of error = cc in
    ap (λ (e : WordsError). Err e) (sym (back other) ∙ ap error_of same ∙ back error)

rest_later : (given : Given)
    → IfErr (asks_from given.fields 1 given.queries >>= (λ asks. Ok (run_of given asks))) IsOfAsks
rest_later given = later-next _ _ (later-asks given.fields 1 given.queries) (λ asks. tt)

pub help-asked : (line : List Text) → length (fault_of attr_app line) ≤ 1 → asked line ≡ Err Help → AskForHelp line
unfolding asked
help-asked line one is = help-found line one
    (by_error (settings_in line) words.Help (refused_first (settings_in line) _ Help (λ none. none) rest_later is))

pub refusal-asked : (line : List Text) → length (fault_of attr_app line) ≤ 1
    → asked line ≡ Err (Usage usage.Words) → AreRefused line
unfolding asked
refusal-asked line one is = refusal-found line one
    (by_error (settings_in line) words.Refused (refused_first (settings_in line) _ (Usage usage.Words) (λ none. none) rest_later is))

pub asked-help : (line : List Text) → AskForHelp line → asked line ≡ Err Help
unfolding asked
asked-help line help = rw (ap given_or_refused (found-help line help)) refl

pub asked-refused : (line : List Text) → AreRefused line → asked line ≡ Err (Usage usage.Words)
unfolding asked
asked-refused line refused = rw (ap given_or_refused (found-refusal line refused)) refl

early : (error : WordsError) → IsLate error → IsOfAsks (refusal_of error) → ⊥
early words.Help late of = of
early words.Refused late of = of
early words.Kind late of = of
early words.Value late of = of
early (words.Size buffers each) late of = of
early (words.Also place) late of = of
early words.Memory late of = of

pub early-asked : (line : List Text) (error : WordsError) → IsLate error → asked line ≡ Err (refusal_of error) → settings_in line ≡ Err error
unfolding asked
early-asked line error late is =
    by_error (settings_in line) error (refused_first (settings_in line) _ (refusal_of error) (early error late) rest_later is)
