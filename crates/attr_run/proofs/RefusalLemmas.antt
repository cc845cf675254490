-- Words are refused by the first query that the grammar refuses.
use Rattle.std.proofs.Common.{◌≡◌, ◌∙◌, sym, ap, refl, subst, ℕ, ◌+◌, List, [], ◌∷◌, ◌++◌, length, Result, Ok, Err, suc, arith}
use Rattle.std.specs.List.{AllByRecursion, AllZip}
use Rattle.std.specs.Str.{IsUtf8}
use Rattle.clap.specs.Walk.{Text}
use Rattle.attr_types.specs.declared.error.QueryError.{QueryError}
use Rattle.attr_types.specs.declared.field.Field.{Field}
use Rattle.command_line.specs.Settings.{Given, settings_in}
use Rattle.attr_types.specs.Scores.{AskTree}
use Rattle.query_text.specs.Asks.{ask_of}
use Rattle.query_text.specs.Grammar.{any_word, Answers}
use Rattle.query_text.specs.Laws.{ReadsByGrammar, AnswersOnce}
use Rattle.attr_run.specs.Run.{◌>>=◌, given_or_refused, ask_or_refused, asks_from, run_of, asked}
use Rattle.attr_run.specs.Settings.{IsTextOf, QueriesAreRefused}
use Rattle.attr_run.specs.declared.outcome.Status.{Status}
use Rattle.attr_run.specs.declared.outcome.Status.TheVariants.{Usage}
use Rattle.attr_run.specs.declared.outcome.UsageCause.TheVariants as usage

abbrev refusal : ℕ → QueryError → Status
refusal number error = Usage (usage.Query number error)

-- a step that cannot be refused
err_first : {A B : Type 0} (r : Result A Status) (f : A → B) (status : Status) → (r >>= (λ a. Ok (f a))) ≡ Err status → r ≡ Err status
err_first (Ok a) f status is = cc
err_first (Err other) f status is = cc

-- the first refused of texts that are numbered from here
record Refused (fields : List Field) (texts : List Text) (from number : ℕ) (error : QueryError) : Type 0 where
  before : List Text
  text : Text
  others : List Text
  is : texts ≡ before ++ text ∷ others
  count : number ≡ from + length before
  asks : List AskTree
  good : AllZip (IsTextOf fields) before asks
  utf8 : IsUtf8 text
  refused : Answers any_word fields text (Err error)

same_refusal : (a b : ℕ) (x y : QueryError) → (◌≡◌ {A = Result (List AskTree) Status} (Err (refusal a x)) (Err (refusal b y))) → (a ≡ b) × (x ≡ y)
same_refusal a b x y e =
    let same : refusal a x ≡ refusal b y = cc in
    (ap number_in same, ap error_in same)
  where
    number_in : Status → ℕ
    number_in (Usage (usage.Query number error)) = number
    number_in _ = a

    error_in : Status → QueryError
    error_in (Usage (usage.Query number error)) = error
    error_in _ = x

first_refused : ReadsByGrammar → (fields : List Field) (from : ℕ) (texts : List Text) (number : ℕ) (error : QueryError)
    → asks_from fields from texts ≡ Err (refusal number error) → AllByRecursion IsUtf8 texts → Refused fields texts from number error
unfolding asks_from
first_refused reads fields from [] number error is all = absurd cc
first_refused reads fields from (text ∷ texts) number error is all =
    (elim (ask_of fields text) as (λ r. ask_of fields text ≡ r
    → (ask_or_refused from r >>= (λ ask. asks_from fields (from + 1) texts >>= (λ asks. Ok (ask ∷ asks)))) ≡ Err (refusal number error)
    → Refused fields (text ∷ texts) from number error) [
      | Err other ↦ λ e f.
          let same = same_refusal from number other error f in
          let here : from ≡ number = same.0 in
          record {
            before = [];
            text = text;
            others = texts;
            is = refl;
            count = omega (arith, here);
            asks = [];
            good = tt;
            utf8 = all.0;
            refused = subst (Answers any_word fields text) (e ∙ ap (λ x. Err x) same.1) (reads any_word fields text all.0);
          }
      | Ok ask ↦ λ e f.
          let more = first_refused reads fields (from + 1) texts number error (err_first (asks_from fields (from + 1) texts) (λ asks. ask ∷ asks) (refusal number error) f) all.1 in
          record {
            before = text ∷ more.before;
            text = more.text;
            others = more.others;
            is = ap (λ list. text ∷ list) more.is;
            count = omega (arith, more.count);
            asks = ask ∷ more.asks;
            good = ((all.0, subst (Answers any_word fields text) e (reads any_word fields text all.0)), more.good);
            utf8 = more.utf8;
            refused = more.refused;
          }
    ]) refl is

is_refused : AnswersOnce → (fields : List Field) (from : ℕ) (before : List Text) (asks : List AskTree) (text : Text) (others : List Text) (error : QueryError)
    → AllZip (IsTextOf fields) before asks → IsUtf8 text → Answers any_word fields text (Err error)
    → asks_from fields from (before ++ text ∷ others) ≡ Err (refusal (from + length before) error)
unfolding asks_from
is_refused once fields from [] [] text others error good utf8 refused =
    let here : from ≡ from + 0 = omega arith in
    ap (λ r. ask_or_refused from r >>= (λ ask. asks_from fields (from + 1) others >>= (λ asks. Ok (ask ∷ asks)))) (once any_word fields text (Err error) utf8 refused)
    ∙ ap (λ n. Err (refusal n error)) here
is_refused once fields from [] (ask ∷ asks) text others error good utf8 refused = absurd good
is_refused once fields from (first ∷ before) [] text others error good utf8 refused = absurd good
is_refused once fields from (first ∷ before) (ask ∷ asks) text others error good utf8 refused =
    let here : (from + 1) + length before ≡ from + suc (length before) = omega arith in
    ap (λ r. ask_or_refused from r >>= (λ ask. asks_from fields (from + 1) (before ++ text ∷ others) >>= (λ asks. Ok (ask ∷ asks))))
    (once any_word fields first (Ok ask) good.0.0 good.0.1)
    ∙ ap (λ r. r >>= (λ asks. Ok (ask ∷ asks))) (is_refused once fields (from + 1) before asks text others error good.1 utf8 refused)
    ∙ ap (λ n. Err (refusal n error)) here

asked_by : (line : List Text) (given : Given) → settings_in line ≡ Ok given
    → asked line ≡ (asks_from given.fields 1 given.queries >>= (λ asks. Ok (run_of given asks)))
unfolding asked
asked_by line given is = ap (λ r. given_or_refused r >>= (λ g. asks_from g.fields 1 g.queries >>= (λ asks. Ok (run_of g asks)))) is

pub queries_are_refused : ReadsByGrammar → AnswersOnce → QueriesAreRefused
queries_are_refused reads once line given number error is =
    let whole = asked_by line given is in
    record {
      only = λ utf8 refused.
          let found = first_refused reads given.fields 1 given.queries number error
          (err_first (asks_from given.fields 1 given.queries) (run_of given) (refusal number error) (sym whole ∙ refused)) utf8 in
          record {
            before = found.before;
            text = found.text;
            others = found.others;
            is = found.is;
            count = omega (arith, found.count);
            asks = found.asks;
            good = found.good;
            utf8 = found.utf8;
            refused = found.refused;
          };
      always = λ found.
          let here : 1 + length found.before ≡ number = omega (arith, found.count) in
          whole
          ∙ ap (λ texts. asks_from given.fields 1 texts >>= (λ asks. Ok (run_of given asks))) found.is
          ∙ ap (λ r. r >>= (λ asks. Ok (run_of given asks)))
          (is_refused once given.fields 1 found.before found.asks found.text found.others error found.good found.utf8 found.refused)
          ∙ ap (λ n. Err (refusal n error)) here;
    }
