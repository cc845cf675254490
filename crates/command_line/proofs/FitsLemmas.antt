-- `Fits`, as a test that computes at an argument that is written out.
use Rattle.std.proofs.Common.{◌≡◌, ◌<◌, ◌&&◌, ◌||◌, ◌==◌, ℕ, Bool}
use Rattle.std.proofs.Common.{true, false, not, refl, ap₂, arith, List, [], ◌∷◌}
use Rattle.std.proofs.Common.{length, nat_lt}
use Rattle.std.specs.List.{list_all}
use Rattle.std.specs.Str.{bytes_eq}
use Rattle.std.proofs.lemmas.Bool.Decides.{Decides-eqb}
use Rattle.std.proofs.lemmas.Bool.{and_parts}
use Rattle.clap.specs.Facts.{parser_of_value, unwrap_or_range}
use Rattle.clap.specs.Walk.{Rule, Text, action_of, is_empty}
use Rattle.clap.specs.Walk.{values_or_missing}
use Rattle.clap.specs.declared.builder.action.ArgAction.{ArgAction}
use Rattle.clap.specs.declared.builder.action.ArgAction.TheVariants.{Count}
use Rattle.clap.specs.declared.builder.value_parser.ValueParser.{ValueParser}
use Rattle.clap.specs.declared.builder.value_parser.ValueParser.TheVariants as parsers
use Rattle.command_line.proofs.RowLemmas.{AllFit, Fits}
use Rattle.command_line.proofs.RowLemmas.{TakesSoMany}

abbrev pub is_count : ArgAction → Bool
is_count Count = true
is_count _ = false

-- an argument counts nothing, and if it has the id, it has the parser and a value at each use
abbrev pub fits_by : (ValueParser → Bool) → Text → Rule → Bool
fits_by is_parser id a = not (is_count (action_of a)) && (not (bytes_eq a.id id)
    || (is_parser (parser_of_value a.parser) && (not a.ignore_case
    && (nat_lt 0 (unwrap_or_range a.range).start_inclusive || not (is_empty a.missing)))))

not_true : (a : Bool) → not a ≡ true → a ≡ false
not_true true e = cc
not_true false e = refl

filled : (xs : List Text) → not (is_empty xs) ≡ true → 0 < length xs
filled [] e = cc
filled (x ∷ xs) e = omega arith

module _ (is_parser : ValueParser → Bool) (id : Text) (parser : ValueParser)
    (only : (p : ValueParser) → is_parser p ≡ true → p ≡ parser) where
  -- a use has a value where it must have one, or where one stands for none
  has_value : (a : Rule)
      → (nat_lt 0 (unwrap_or_range a.range).start_inclusive || not (is_empty a.missing)) ≡ true
      → (values : List Text) → TakesSoMany a values → 0 < length (values_or_missing a values)
  has_value a some (v ∷ vs) range = omega arith
  has_value a some [] range = go (nat_lt 0 (unwrap_or_range a.range).start_inclusive) refl some
    where
      go : (b : Bool) → nat_lt 0 (unwrap_or_range a.range).start_inclusive ≡ b
          → (b || not (is_empty a.missing)) ≡ true → 0 < length a.missing
      go true least e = let none = rw least at range in cc
      go false least e = filled a.missing e

  fits_of : (a : Rule) → fits_by is_parser id a ≡ true → Fits id parser a
  fits_of a e =
      let parts = and_parts (not (is_count (action_of a))) _ e in
      record {
        counts = λ is. let count = not_true _ parts.0 in let bad = rw is at count in cc;
        own = λ is.
            let rest = and_parts (is_parser (parser_of_value a.parser)) _ (rw is at parts.1) in
            let last = and_parts (not a.ignore_case) _ rest.1 in
            record {
              parser_is = only (parser_of_value a.parser) rest.0;
              case_is = not_true a.ignore_case last.0;
              some = has_value a last.1;
            };
      }

  pub fits_all : (rules : List Rule) → list_all (fits_by is_parser id) rules ≡ true
      → AllFit id parser rules
  fits_all [] e = tt
  fits_all (a ∷ rest) e =
      let parts = and_parts (fits_by is_parser id a) _ e in
      (fits_of a parts.0, fits_all rest parts.1)

-- ---- the parsers

abbrev pub is_unsigned : ℕ → ℕ → ValueParser → Bool
is_unsigned least most (parsers.Unsigned low high) = low == least && high == most
is_unsigned least most _ = false

pub only_unsigned : (least most : ℕ) (p : ValueParser) → is_unsigned least most p ≡ true
    → p ≡ parsers.Unsigned least most
only_unsigned least most (parsers.Unsigned low high) e =
    let parts = and_parts (low == least) _ e in
    ap₂ parsers.Unsigned ((Decides-eqb low least).0 parts.0) ((Decides-eqb high most).0 parts.1)
only_unsigned least most _ e = cc

abbrev pub is_bool : ValueParser → Bool
is_bool parsers.Bool = true
is_bool _ = false

pub only_bool : (p : ValueParser) → is_bool p ≡ true → p ≡ parsers.Bool
only_bool parsers.Bool e = refl
only_bool _ e = cc

abbrev pub is_string : ValueParser → Bool
is_string parsers.String = true
is_string _ = false

pub only_string : (p : ValueParser) → is_string p ≡ true → p ≡ parsers.String
only_string parsers.String e = refl
only_string _ e = cc
