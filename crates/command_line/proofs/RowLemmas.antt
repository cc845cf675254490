-- What a use of an argument leaves in the rows of one id: values that its parser passes.
use Rattle.std.proofs.Common.{◌≡◌, ◌∙◌, ◌<◌, ◌||◌, Bool, true, false, refl, subst, ap, arith, List}
use Rattle.std.proofs.Common.{[], ◌∷◌, ◌++◌, length, Option, Some, None, cond, fold}
use Rattle.std.specs.List.{find}
use Rattle.std.specs.Prelude.{option_and_then, option_map, slice_get}
use Rattle.std.proofs.lemmas.Bool.{ne_eqb}
use Rattle.clap.specs.ValueTests.{accepts}
use Rattle.std.specs.Str.{bytes_eq}
use Rattle.std.proofs.lemmas.Slice.Eq.{bytes_eq-Decides}
use Rattle.std.proofs.lemmas.List.{length-append}
use Rattle.clap.specs.Kinds.{Kinds, or_else, range_kinds, value_kinds, values_kinds}
use Rattle.clap.specs.Facts.{parser_of_value, unwrap_or_range}
use Rattle.clap.specs.Values.{read_as, reading_of, refused_kind}
use Rattle.clap.specs.Walk.{Row, Rule, Text, action_of, at_row, default_rows, first_of, has_row}
use Rattle.clap.specs.Walk.{is_empty, more_values, most_values, one_of, reading_by, row_text, used}
use Rattle.clap.specs.Walk.{used_as, values_or_missing, with_default, with_values, without}
use Rattle.clap.specs.Faults.{action_fault, default_fault, defaults_fault, given_default_fault}
use Rattle.clap.specs.Faults.{use_fault, values_fault}
use Rattle.clap.specs.declared.builder.action.ArgAction.{ArgAction}
use Rattle.clap.specs.declared.builder.action.ArgAction.TheVariants.{Set, Append, SetTrue, SetFalse}
use Rattle.clap.specs.declared.builder.action.ArgAction.TheVariants.{Count}
use Rattle.clap.specs.declared.builder.value_parser.ValueParser.{ValueParser}
use Rattle.clap.specs.declared.builder.value_parser.Reading.{Reading}
use Rattle.clap.specs.declared.parser.matches.ValueSource.{ValueSource}
use Rattle.clap.specs.declared.parser.matches.ValueSource.TheVariants.{DefaultValue, CommandLine}

-- ---- lists of kinds

-- where a step and what follows it find nothing, neither does
pub both_empty : (a b : Kinds) → or_else a b ≡ [] → (a ≡ []) × (b ≡ [])
both_empty [] b e = (refl, e)
both_empty (k ∷ ks) b e = cc

or_empty : (a b : Kinds) → a ≡ [] → b ≡ [] → or_else a b ≡ []
or_empty [] b e f = f
or_empty (k ∷ ks) b e f = cc

values_append : (i : Bool) (p : ValueParser) (xs ys : List Text) → values_kinds i p xs ≡ []
    → values_kinds i p ys ≡ [] → values_kinds i p (xs ++ ys) ≡ []
values_append i p [] ys e f = f
values_append i p (x ∷ xs) ys e f =
    let parts = both_empty (value_kinds i p x) (values_kinds i p xs) e in
    or_empty (value_kinds i p x) (values_kinds i p (xs ++ ys)) parts.0
    (values_append i p xs ys parts.1 f)

-- two ids of one text are one
same_id : (a b c : Text) → bytes_eq a b ≡ true → bytes_eq a c ≡ true → bytes_eq b c ≡ true
same_id a b c e f = subst (λ (x : Text). bytes_eq x c ≡ true) ((bytes_eq-Decides a b).0 e) f

-- a use of the argument may have so many values
abbrev pub TakesSoMany : Rule → List Text → Type 0
TakesSoMany a values =
    range_kinds (unwrap_or_range a.range).start_inclusive (most_values a) (length values) ≡ []

module _ (id : Text) (parser : ValueParser) where
  -- values that are there, pass and are read as the parser says
  pub record IsGood (how : Reading) (values : List Text) : Type 0 where
    pub passes : values_kinds false parser values ≡ []
    pub some : 0 < length values
    pub reading : how ≡ reading_of parser

  -- a row of the id has good values; all rows do
  abbrev pub Holds : Row → Type 0
  Holds r = bytes_eq r.id id ≡ true → IsGood r.reading r.values

  abbrev pub AllHold : List Row → Type 0
  AllHold [] = Unit {0}
  AllHold (r ∷ rs) = Holds r × AllHold rs

  -- an argument with the id has the parser, and no use of it is without a value
  pub record HasParser (a : Rule) : Type 0 where
    pub parser_is : parser_of_value a.parser ≡ parser
    pub case_is : a.ignore_case ≡ false
    pub some : (values : List Text) → TakesSoMany a values → 0 < length (values_or_missing a values)

  -- an argument counts nothing, and has the parser if it has the id
  pub record Fits (a : Rule) : Type 0 where
    pub counts : action_of a ≡ Count → ⊥
    pub own : bytes_eq a.id id ≡ true → HasParser a

  abbrev pub AllFit : List Rule → Type 0
  AllFit [] = Unit {0}
  AllFit (a ∷ rest) = Fits a × AllFit rest

  abbrev pub FitsIf : Option Rule → Type 0
  FitsIf None = Unit {0}
  FitsIf (Some a) = Fits a

  -- an argument that is looked up fits
  pub found_fits : (test : Rule → Bool) (rules : List Rule) → AllFit rules
      → FitsIf (find test rules)
  found_fits test [] all = tt
  found_fits test (a ∷ rest) all = go (test a) (found_fits test rest all.1)
    where
      go : (b : Bool) → FitsIf (find test rest) → FitsIf (cond b (Some a) (find test rest))
      go true later = all.0
      go false later = later

  -- ---- changes of rows

  appended : (xs ys : List Row) → AllHold xs → AllHold ys → AllHold (xs ++ ys)
  appended [] ys hx hy = hy
  appended (x ∷ xs) ys hx hy = (hx.0, appended xs ys hx.1 hy)

  -- rows that a change makes, and one that is added where there is none, hold
  changed_at : (key : Text) (change : Row → List Row) (missing rows : List Row)
      → ((r : Row) → bytes_eq r.id key ≡ true → Holds r → AllHold (change r)) → AllHold missing
      → AllHold rows → AllHold (at_row key change missing rows)
  changed_at key change missing [] changed fresh all = fresh
  changed_at key change missing (r ∷ rs) changed fresh all = go (bytes_eq r.id key) refl
      (changed_at key change missing rs changed fresh all.1)
    where
      go : (b : Bool) → bytes_eq r.id key ≡ b → AllHold (at_row key change missing rs)
          → AllHold (cond b (change r ++ rs) (r ∷ at_row key change missing rs))
      go true e later = appended (change r) rs (changed r e all.0) all.1
      go false e later = (all.0, later)

  -- the first row of an id is dropped
  pub dropped : (key : Text) (rows : List Row) → AllHold rows → AllHold (without key rows)
  dropped key rows all = changed_at key (λ _. []) [] rows (λ r e h. tt) tt all

  -- values are added to the row of an id
  pub added : (key : Text) (how : Reading) (s : ValueSource) (values : List Text) (rows : List Row)
      → (bytes_eq key id ≡ true → IsGood how values) → AllHold rows
      → AllHold (with_values key how s values rows)
  added key how s values rows good all =
      changed_at key (more_values s values) _ rows
      (λ r e h. ((λ is. more r (h is) (good (same_id r.id key id e is))), tt)) (good, tt) all
    where
      more : (r : Row) → IsGood r.reading r.values → IsGood how values
          → IsGood r.reading (r.values ++ values)
      more r old new = record {
        passes = values_append false parser r.values values old.passes new.passes;
        some = omega (arith, length-append r.values values, old.some);
        reading = old.reading;
      }

  -- ---- a use

  good_values : (a : Rule) (values : List Text) → Fits a → values_fault a values ≡ []
      → 0 < length values → bytes_eq a.id id ≡ true → IsGood (reading_by a) values
  good_values a values fits pass some is =
      let own = fits.own is in
      record {
        passes = subst (λ (i : Bool). values_kinds i parser values ≡ []) own.case_is
            (subst (λ (p : ValueParser). values_kinds a.ignore_case p values ≡ []) own.parser_is
            pass);
        some = some;
        reading = ap reading_of own.parser_is;
      }

  -- a use without a fault leaves good rows
  pub used_holds : (again : Bool) (a : Rule) (values : List Text) (rows : List Row) → Fits a
      → use_fault again a values rows ≡ []
      → AllHold rows → AllHold (used a values rows)
  used_holds again a values rows fits none all =
      let parts = both_empty
      (range_kinds (unwrap_or_range a.range).start_inclusive (most_values a) (length values))
      (action_fault (action_of a) again a (values_or_missing a values) rows) none in
      go (action_of a) refl parts.0 parts.1
    where
      good : TakesSoMany a values → values_fault a (values_or_missing a values) ≡ []
          → bytes_eq a.id id ≡ true → IsGood (reading_by a) (values_or_missing a values)
      good range pass is = good_values a (values_or_missing a values) fits pass
          ((fits.own is).some values range) is

      set : TakesSoMany a values → values_fault a (values_or_missing a values) ≡ []
          → AllHold (used_as Set a.id (reading_by a) (values_or_missing a values) rows)
      set range pass = added a.id (reading_by a) CommandLine (values_or_missing a values)
          (without a.id rows) (good range pass) (dropped a.id rows all)

      go : (action : ArgAction) → action_of a ≡ action → TakesSoMany a values
          → action_fault action again a (values_or_missing a values) rows ≡ []
          → AllHold (used_as action a.id (reading_by a) (values_or_missing a values) rows)
      go Set is range pass = set range (both_empty _ _ pass).1
      go SetTrue is range pass = set range (both_empty _ _ pass).1
      go SetFalse is range pass = set range (both_empty _ _ pass).1
      go Append is range pass = added a.id (reading_by a) CommandLine
          (values_or_missing a values) rows (good range pass) all
      go Count is range pass = absurd (fits.counts is)
      go other is range pass = all

  -- ---- defaults

  default_holds : (rows : List Row) (a : Rule) → Fits a → default_fault rows a ≡ [] → AllHold rows
      → AllHold (with_default rows a)
  default_holds rows a fits none all = go (has_row a.id rows) a.defaults none
    where
      go : (has : Bool) (values : List Text)
          → cond (has || is_empty values) [] (given_default_fault a values) ≡ []
          → AllHold (cond has rows (default_rows a.id (reading_by a) values rows))
      go true values e = all
      go false [] e = all
      go false (v ∷ vs) e =
          let given : is_empty (v ∷ vs) ≡ false = ne_eqb _ _ (λ zero. omega arith) in
          let pass : given_default_fault a (v ∷ vs) ≡ [] = rw given at e in
          added a.id (reading_by a) DefaultValue (v ∷ vs) rows
          (good_values a (v ∷ vs) fits (both_empty _ _ pass).1 (omega arith)) all

  -- and so do the defaults
  pub defaults_hold : (rows : List Row) (rules : List Rule) → AllFit rules
      → defaults_fault rows rules ≡ [] → AllHold rows → AllHold (fold with_default rows rules)
  unfolding defaults_fault
  defaults_hold rows [] fit none all = all
  defaults_hold rows (a ∷ rest) fit none all =
      let parts = both_empty (default_fault rows a)
      (defaults_fault (with_default rows a) rest) none in
      defaults_hold (with_default rows a) rest fit.1 parts.1
      (default_holds rows a fit.0 parts.0 all)

  -- ---- the row of the id, and its first value

  row_found : (rows : List Row) → AllHold rows → has_row id rows ≡ true
      → (r : Row) × (find (λ r. bytes_eq r.id id) rows ≡ Some r) × IsGood r.reading r.values
  row_found [] all has = cc
  row_found (r ∷ rs) all has = go (bytes_eq r.id id) refl has (row_found rs all.1)
    where
      go : (b : Bool) → bytes_eq r.id id ≡ b → (b || has_row id rs) ≡ true
          → (has_row id rs ≡ true
          → (q : Row) × (find (λ x. bytes_eq x.id id) rs ≡ Some q) × IsGood q.reading q.values)
          → (q : Row) × (cond b (Some r) (find (λ x. bytes_eq x.id id) rs) ≡ Some q)
          × IsGood q.reading q.values
      go true is e later = (r, refl, all.0 is)
      go false is e later = later e

  value_accepted : (text : Text) → value_kinds false parser text ≡ []
      → accepts false parser text ≡ true
  value_accepted text none = go (accepts false parser text) none
    where
      go : (b : Bool) → cond b [] (refused_kind parser ∷ []) ≡ [] → b ≡ true
      go true e = refl
      go false e = cc

  first_good : (values : List Text) → values_kinds false parser values ≡ [] → 0 < length values
      → (text : Text) × (slice_get values 0 ≡ Some text) × (accepts false parser text ≡ true)
  first_good [] none some = absurd (omega arith)
  first_good (v ∷ vs) none some = (v, refl, value_accepted v (both_empty _ _ none).0)

  -- where the id has a row, its first value is accepted, and read as the parser says
  pub text_found : (rows : List Row) → AllHold rows → has_row id rows ≡ true
      → (text : Text) × (first_of id rows ≡ Some text)
      × (one_of id rows ≡ Some (read_as (reading_of parser) text))
      × (accepts false parser text ≡ true)
  text_found rows all has =
      let row = row_found rows all has in
      let first = first_good row.0.values row.2.passes row.2.some in (
        first.0,
        ap (option_and_then (λ (r : Row). slice_get r.values 0)) row.1 ∙ first.1,
        ap (option_and_then row_text) row.1 ∙ ap (option_map (read_as row.0.reading)) first.1
            ∙ ap (λ (how : Reading). Some (read_as how first.0)) row.2.reading,
        first.2,
      )
