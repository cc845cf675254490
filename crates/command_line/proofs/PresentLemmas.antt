-- Which arguments have a row at the end of a parse: those with a default, and those required.
use Rattle.std.proofs.Common.{◌++◌, fold, ◌≡◌, ◌||◌, ◌&&◌, Bool, true, false, not, refl, subst}
use Rattle.std.proofs.Common.{List, [], ◌∷◌}
use Rattle.std.proofs.Common.{cond, Some}
use Rattle.std.specs.List.{find, list_any}
use Rattle.std.specs.Option.{option_map_or}
use Rattle.std.specs.Str.{bytes_eq}
use Rattle.std.proofs.lemmas.Slice.Eq.{bytes_eq-Decides}
use Rattle.clap.specs.Walk.{default_rows, is_empty, more_values, reading_by, with_default}
use Rattle.clap.specs.Walk.{with_values}
use Rattle.clap.specs.declared.builder.value_parser.Reading.{Reading}
use Rattle.clap.specs.declared.parser.matches.ValueSource.{ValueSource}
use Rattle.clap.specs.declared.parser.matches.ValueSource.TheVariants.{DefaultValue}
use Rattle.clap.specs.Facts.{explicit_source}
use Rattle.clap.specs.Kinds.{check_kinds}
use Rattle.clap.specs.Takes.{is_given}
use Rattle.clap.specs.Walk.{Row, Rule, Text, has_row}

-- ---- an argument with a default has a row

or_more : (a b c : Bool) → (b ≡ true → c ≡ true) → (a || b) ≡ true → (a || c) ≡ true
or_more true b c more e = refl
or_more false b c more e = more e

or_true : (a : Bool) → (a || true) ≡ true
or_true true = refl
or_true false = refl

-- values that are added leave each row, and make one of their own
row_stays : (key id : Text) (how : Reading) (s : ValueSource) (values : List Text) (rows : List Row)
    → has_row id rows ≡ true → has_row id (with_values key how s values rows) ≡ true
row_stays key id how s values [] has = cc
row_stays key id how s values (r ∷ rs) has = go (bytes_eq r.id key)
    (row_stays key id how s values rs)
  where
    go : (b : Bool) → (has_row id rs ≡ true → has_row id (with_values key how s values rs) ≡ true)
        → has_row id
        (cond b (more_values s values r ++ rs) (r ∷ with_values key how s values rs)) ≡ true
    go true later = has
    go false later = or_more (bytes_eq r.id id) _ _ later has

row_made : (key : Text) (how : Reading) (s : ValueSource) (values : List Text) (rows : List Row)
    → has_row key (with_values key how s values rows) ≡ true
row_made key how s values [] = rw ((bytes_eq-Decides key key).1 refl) refl
row_made key how s values (r ∷ rs) = go (bytes_eq r.id key) refl (row_made key how s values rs)
  where
    go : (b : Bool) → bytes_eq r.id key ≡ b → has_row key (with_values key how s values rs) ≡ true
        → has_row key
        (cond b (more_values s values r ++ rs) (r ∷ with_values key how s values rs)) ≡ true
    go true is later = rw is refl
    go false is later = or_more (bytes_eq r.id key) true _ (λ e. later)
        (or_true (bytes_eq r.id key))

-- a default leaves each row, and makes one of its own
default_stays : (id : Text) (rows : List Row) (a : Rule) → has_row id rows ≡ true
    → has_row id (with_default rows a) ≡ true
default_stays id rows a has = go (has_row a.id rows) a.defaults
  where
    go : (b : Bool) (values : List Text)
        → has_row id (cond b rows (default_rows a.id (reading_by a) values rows)) ≡ true
    go true values = has
    go false [] = has
    go false (v ∷ vs) = row_stays a.id id (reading_by a) DefaultValue (v ∷ vs) rows has

default_made : (rows : List Row) (a : Rule) → is_empty a.defaults ≡ false
    → has_row a.id (with_default rows a) ≡ true
default_made rows a given = go (has_row a.id rows) refl a.defaults given
  where
    go : (b : Bool) → has_row a.id rows ≡ b → (values : List Text) → is_empty values ≡ false
        → has_row a.id (cond b rows (default_rows a.id (reading_by a) values rows)) ≡ true
    go true has values e = has
    go false has [] e = cc
    go false has (v ∷ vs) e = row_made a.id (reading_by a) DefaultValue (v ∷ vs) rows

defaults_stay : (id : Text) (rows : List Row) (rules : List Rule) → has_row id rows ≡ true
    → has_row id (fold with_default rows rules) ≡ true
defaults_stay id rows [] has = has
defaults_stay id rows (a ∷ rest) has = defaults_stay id (with_default rows a) rest
    (default_stays id rows a has)

-- an argument of this id has a default
abbrev pub has_default : Text → Rule → Bool
has_default id a = bytes_eq a.id id && not (is_empty a.defaults)

-- an argument with a default has a row once the defaults are in
pub defaults_made : (id : Text) (rows : List Row) (rules : List Rule)
    → list_any (has_default id) rules ≡ true → has_row id (fold with_default rows rules) ≡ true
defaults_made id rows [] has = cc
defaults_made id rows (a ∷ rest) has = go (bytes_eq a.id id) refl (is_empty a.defaults) refl has
    (defaults_made id (with_default rows a) rest)
  where
    go : (b : Bool) → bytes_eq a.id id ≡ b → (e : Bool) → is_empty a.defaults ≡ e
        → ((b && not e) || list_any (has_default id) rest) ≡ true
        → (list_any (has_default id) rest ≡ true
        → has_row id (fold with_default (with_default rows a) rest) ≡ true)
        → has_row id (fold with_default (with_default rows a) rest) ≡ true
    go true is false given any later =
        defaults_stay id (with_default rows a) rest
        (subst (λ (x : Text). has_row x (with_default rows a) ≡ true)
        ((bytes_eq-Decides a.id id).0 is) (default_made rows a given))
    go true is true given any later = later any
    go false is e given any later = later any

-- ---- an argument that is required has a row, where the last check passes

-- an argument of this id is required
abbrev pub is_required : Text → Rule → Bool
is_required id a = bytes_eq a.id id && a.required

-- a required argument was not given
abbrev pub is_missing : List Row → Rule → Bool
is_missing rows a = a.required && not (is_given a.id rows)

-- the check for required arguments found nothing
pub none_missing : (missing : Bool) → check_kinds false false missing ≡ [] → missing ≡ false
none_missing true e = cc
none_missing false e = refl

-- what was given has a row
given_has : (id : Text) (rows : List Row) → is_given id rows ≡ true → has_row id rows ≡ true
given_has id [] e = cc
given_has id (r ∷ rs) e = go (bytes_eq r.id id) e (given_has id rs)
  where
    go : (b : Bool)
        → option_map_or (λ (q : Row). explicit_source q.source)
        (cond b (Some r) (find (λ q. bytes_eq q.id id) rs)) false ≡ true
        → (is_given id rs ≡ true → has_row id rs ≡ true) → (b || has_row id rs) ≡ true
    go true e later = refl
    go false e later = later e

-- a required argument has a row where none is missing
pub required_has : (id : Text) (rows : List Row) (rules : List Rule)
    → list_any (is_missing rows) rules ≡ false → list_any (is_required id) rules ≡ true
    → has_row id rows ≡ true
required_has id rows [] none any = cc
required_has id rows (a ∷ rest) none any = go (bytes_eq a.id id) refl a.required
    (is_given a.id rows) refl none any (required_has id rows rest)
  where
    go : (same : Bool) → bytes_eq a.id id ≡ same → (required given : Bool)
        → is_given a.id rows ≡ given
        → ((required && not given) || list_any (is_missing rows) rest) ≡ false
        → ((same && required) || list_any (is_required id) rest) ≡ true
        → (list_any (is_missing rows) rest ≡ false → list_any (is_required id) rest ≡ true
        → has_row id rows ≡ true) → has_row id rows ≡ true
    go true same true true given none any later =
        given_has id rows
        (subst (λ (x : Text). is_given x rows ≡ true) ((bytes_eq-Decides a.id id).0 same) given)
    go true same true false given none any later = cc
    go true same false given is none any later = later none any
    go false same true true is none any later = later none any
    go false same true false is none any later = cc
    go false same false given is none any later = later none any
