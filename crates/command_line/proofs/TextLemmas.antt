-- What the words give where `attr` takes them: each text, and each number in its range.
use Rattle.std.proofs.Common.{Some, ◌≡◌, ◌⊎◌, ◌∙◌, ◌<◌, ◌^◌, ◌||◌, inl, inr, Bool}
use Rattle.std.proofs.Common.{true, false, refl, sym, ap, subst, arith, List, []}
use Rattle.std.proofs.Common.{Option, None, IfSome, cond, codes, lit<, ◌∷◌}
use Rattle.std.proofs.lemmas.Bool.{cases_Bool}
use Rattle.std.specs.Prelude.{unwrap_or, option_map, option_and_then, slice_get}
use Rattle.std.specs.List.{find, list_all, list_any}
use Rattle.std.specs.Str.{bytes_eq}
use Rattle.std.specs.Str.Parse.{digits_value, without_leading_plus}
use Rattle.std.proofs.lemmas.Slice.Eq.{bytes_eq-Decides}
use Rattle.clap.specs.Values.{IsUnsignedIn}
use Rattle.clap.specs.Walk.{Row, Rule, Text, first_of, one_of, row_text, has_row}
use Rattle.clap.specs.Walk.{nothing_held, rows_after}
use Rattle.clap.specs.Simple.{built, matches_of}
use Rattle.clap.specs.Faults.{level_fault}
use Rattle.clap.specs.declared.builder.value_parser.ValueParser.TheVariants as parsers
use Rattle.clap.proofs.OnLiterals.{clap_on_literals}
use Rattle.clap.proofs.FaultLemmas.{leaf_fault}
use Rattle.clap.proofs.ValueTestLemmas.{accepts-Accepts}
use Rattle.command_line.specs.CommandLine.{NumberOption, attr_app, batch, buffers, make, readers, rounds, seed}
use Rattle.command_line.specs.CommandLine.{words}
use Rattle.command_line.specs.Found.{HasFlagText, HasNumberText, HasText, HasTexts, IsNumberText, MayHaveText}
use Rattle.command_line.specs.Reading.{AreTaken, RangesHold, TextsAreGiven, IsWithin}
use Rattle.command_line.specs.Reading.{number_at, number_in, text_at}
use Rattle.command_line.proofs.CommandLemmas.{no_subcommands}
use Rattle.command_line.proofs.RowLemmas.{text_found}
use Rattle.command_line.proofs.WalkLemmas.{good_level, level_check}
use Rattle.command_line.proofs.PresentLemmas.{defaults_made, has_default, is_missing, is_required}
use Rattle.command_line.proofs.PresentLemmas.{none_missing, required_has}
use Rattle.command_line.proofs.FitsLemmas.{fits_all, fits_by, is_bool, is_string, is_unsigned}
use Rattle.command_line.proofs.FitsLemmas.{only_bool, only_string, only_unsigned}

-- the arguments of `attr`, as building leaves them
abbrev rules : List Rule
rules = (built attr_app).top.rules

-- a number that the option takes stands in its text; the option has a text
abbrev HasNumber : NumberOption → List Text → Type 0
HasNumber o line = HasText (IsUnsignedIn o.least o.most) o.name (matches_of attr_app line)

abbrev HasName : Text → List Text → Type 0
HasName name line =
    first_of name (matches_of attr_app line) ≡ Some (text_at name (matches_of attr_app line))

-- clap's faults are those of the one level that `attr` has, and its matches the rows of that level
level_passes : (line : List Text) → AreTaken line
    → level_fault (built attr_app).top [] nothing_held line false [] ≡ []
unfolding attr_app
level_passes line taken = sym (leaf_fault (built attr_app) nothing_held line no_subcommands) ∙ taken

rows_end : (line : List Text) → matches_of attr_app line ≡ rows_after rules [] line
unfolding attr_app
rows_end line = refl

number_text : (o : NumberOption) (line : List Text) → AreTaken line
    → list_all (fits_by (is_unsigned o.least o.most) o.name) rules ≡ true
    → list_any (has_default o.name) rules ≡ true
    → HasNumber o line
number_text o line taken fits default =
    let parser = parsers.Unsigned o.least o.most in
    let fit = fits_all (is_unsigned o.least o.most) o.name parser
    (only_unsigned o.least o.most) rules fits in
    let found = text_found o.name parser (rows_after rules [] line)
    (good_level o.name parser (built attr_app).top fit line (level_passes line taken))
    (defaults_made o.name _ rules default) in
    subst (HasText (IsUnsignedIn o.least o.most) o.name) (sym (rows_end line))
    (found.0, found.1, found.2, accepts-Accepts false parser found.0 found.3)

-- without a row there is no text
no_text : (name : Text) (rows : List Row) → has_row name rows ≡ false
    → (first_of name rows ≡ None) × (one_of name rows ≡ None)
no_text name [] has = (refl, refl)
no_text name (r ∷ rs) has = go (bytes_eq r.id name) has (no_text name rs)
  where
    go : (b : Bool) → (b || has_row name rs) ≡ false
        → (has_row name rs ≡ false → (first_of name rs ≡ None) × (one_of name rs ≡ None))
        → (option_and_then (λ (x : Row). slice_get x.values 0) (cond b (Some r) (find (λ x. bytes_eq x.id name) rs)) ≡ None)
        × (option_and_then row_text (cond b (Some r) (find (λ x. bytes_eq x.id name) rs)) ≡ None)
    go true e later = cc
    go false e later = later e

-- a text that is there is the number
pub has_number : (name : Text) (rows : List Row) (text : Text) → MayHaveText IsNumberText name rows
    → first_of name rows ≡ Some text → HasNumberText name rows
has_number name rows text (inl none) given =
    let broken : None ≡ Some text = sym none.0 ∙ given in cc
has_number name rows text (inr found) given = found

-- an option without a default has a number where it was given
number_if_given : (o : NumberOption) (line : List Text) → AreTaken line
    → list_all (fits_by (is_unsigned o.least o.most) o.name) rules ≡ true
    → MayHaveText (IsUnsignedIn o.least o.most) o.name (matches_of attr_app line)
number_if_given o line taken fits =
    let parser = parsers.Unsigned o.least o.most in
    let fit = fits_all (is_unsigned o.least o.most) o.name parser
    (only_unsigned o.least o.most) rules fits in
    let holds = good_level o.name parser (built attr_app).top fit line (level_passes line taken) in
    subst (MayHaveText (IsUnsignedIn o.least o.most) o.name) (sym (rows_end line))
    (elim (cases_Bool (has_row o.name (rows_after rules [] line))) [
      | inl has ↦
          let found = text_found o.name parser (rows_after rules [] line) holds has in
          inr (found.0, found.1, found.2, accepts-Accepts false parser found.0 found.3)
      | inr none ↦ inl (no_text o.name (rows_after rules [] line) none)
    ])

-- an option with a text has it, where its rule is one of `attr` and it has a row
named_text : (name : Text) (line : List Text) → AreTaken line
    → list_all (fits_by is_string name) rules ≡ true
    → has_row name (rows_after rules [] line) ≡ true
    → HasName name line
named_text name line taken fits has =
    let fit = fits_all is_string name parsers.String only_string rules fits in
    let found = text_found name parsers.String (rows_after rules [] line)
    (good_level name parsers.String (built attr_app).top fit line
    (level_passes line taken)) has in
    let first = subst (λ (rows : List Row). first_of name rows ≡ Some found.0)
    (sym (rows_end line)) found.1 in
    first ∙ ap (λ (t : Option Text). Some (unwrap_or t [])) (sym first)

nothing_missing : (line : List Text) → AreTaken line
    → list_any (is_missing (rows_after rules [] line)) rules ≡ false
unfolding attr_app
nothing_missing line taken = none_missing _
    (level_check (built attr_app).top line (level_passes line taken))

required_text : (name : Text) (line : List Text) → AreTaken line
    → list_all (fits_by is_string name) rules ≡ true → list_any (is_required name) rules ≡ true
    → HasName name line
required_text name line taken fits required = named_text name line taken fits
    (required_has name (rows_after rules [] line) rules (nothing_missing line taken) required)

default_text : (name : Text) (line : List Text) → AreTaken line
    → list_all (fits_by is_string name) rules ≡ true → list_any (has_default name) rules ≡ true
    → HasName name line
default_text name line taken fits default = named_text name line taken fits
    (defaults_made name _ rules default)

kind_text : (line : List Text) → AreTaken line
    → HasName (codes "kind") line
unfolding attr_app clap_on_literals
kind_text line taken = required_text (codes "kind") line taken refl refl

value_text : (line : List Text) → AreTaken line
    → HasName (codes "value") line
unfolding attr_app clap_on_literals
value_text line taken = required_text (codes "value") line taken refl refl

field_text : (line : List Text) → AreTaken line
    → HasName (codes "field") line
unfolding attr_app clap_on_literals
field_text line taken = default_text (codes "field") line taken refl refl

either : (text : Text) → (bytes_eq text (codes "true") || bytes_eq text (codes "false")) ≡ true
    → (text ≡ codes "true") ⊎ (text ≡ codes "false")
either text e = go (bytes_eq text (codes "true")) refl e
  where
    go : (b : Bool) → bytes_eq text (codes "true") ≡ b
        → (b || bytes_eq text (codes "false")) ≡ true
        → (text ≡ codes "true") ⊎ (text ≡ codes "false")
    go true is e = inl ((bytes_eq-Decides text (codes "true")).0 is)
    go false is e = inr ((bytes_eq-Decides text (codes "false")).0 e)

flag_text : (name : Text) (line : List Text) → AreTaken line
    → list_all (fits_by is_bool name) rules ≡ true → list_any (has_default name) rules ≡ true
    → HasFlagText name (matches_of attr_app line)
flag_text name line taken fits default =
    let fit = fits_all is_bool name parsers.Bool only_bool rules fits in
    let found = text_found name parsers.Bool (rows_after rules [] line)
    (good_level name parsers.Bool (built attr_app).top fit line (level_passes line taken))
    (defaults_made name _ rules default) in
    subst (HasFlagText name) (sym (rows_end line)) (found.0, found.1, found.2, either found.0 found.3)

after_text : (line : List Text) → AreTaken line
    → HasFlagText (codes "after") (matches_of attr_app line)
unfolding attr_app clap_on_literals
after_text line taken = flag_text (codes "after") line taken refl refl

wide_text : (line : List Text) → AreTaken line
    → HasFlagText (codes "wide") (matches_of attr_app line)
unfolding attr_app clap_on_literals
wide_text line taken = flag_text (codes "wide") line taken refl refl

dense_text : (line : List Text) → AreTaken line
    → HasFlagText (codes "dense") (matches_of attr_app line)
unfolding attr_app clap_on_literals
dense_text line taken = flag_text (codes "dense") line taken refl refl

save_text : (line : List Text) → AreTaken line
    → HasFlagText (codes "save") (matches_of attr_app line)
unfolding attr_app clap_on_literals
save_text line taken = flag_text (codes "save") line taken refl refl

batch_text : (line : List Text) → AreTaken line
    → HasNumber batch line
unfolding attr_app clap_on_literals
batch_text line taken = number_text batch line taken refl refl

readers_text : (line : List Text) → AreTaken line
    → HasNumber readers line
unfolding attr_app clap_on_literals
readers_text line taken = number_text readers line taken refl refl

rounds_text : (line : List Text) → AreTaken line
    → HasNumber rounds line
unfolding attr_app clap_on_literals
rounds_text line taken = number_text rounds line taken refl refl

buffers_text : (line : List Text) → AreTaken line
    → HasNumber buffers line
unfolding attr_app clap_on_literals
buffers_text line taken = number_text buffers line taken refl refl

words_text : (line : List Text) → AreTaken line
    → HasNumber words line
unfolding attr_app clap_on_literals
words_text line taken = number_text words line taken refl refl

seed_text : (line : List Text) → AreTaken line
    → HasNumber seed line
unfolding attr_app clap_on_literals
seed_text line taken = number_text seed line taken refl refl

make_text : (line : List Text) → AreTaken line
    → MayHaveText (IsUnsignedIn make.least make.most) make.name (matches_of attr_app line)
unfolding attr_app clap_on_literals
make_text line taken = number_if_given make line taken refl

fits_32 : (o : NumberOption) (rows : List Row) → o.most < 2 ^ 32
    → HasText (IsUnsignedIn o.least o.most) o.name rows → HasNumberText o.name rows
fits_32 o rows small text = (text.0, text.1, text.2, (text.3.0, omega (arith, text.3.3)))

small_or_none : (o : NumberOption) (rows : List Row) → o.most < 2 ^ 32
    → MayHaveText (IsUnsignedIn o.least o.most) o.name rows → MayHaveText IsNumberText o.name rows
small_or_none o rows small (inl none) = inl none
small_or_none o rows small (inr text) = inr (fits_32 o rows small text)

-- where the words are taken, each text that is read as a number or a flag is there
pub texts_there : (line : List Text) → AreTaken line → HasTexts (matches_of attr_app line)
texts_there line taken = record {
  batch = fits_32 batch (matches_of attr_app line) (lit< tt) (batch_text line taken);
  readers = fits_32 readers (matches_of attr_app line) (lit< tt) (readers_text line taken);
  rounds = fits_32 rounds (matches_of attr_app line) (lit< tt) (rounds_text line taken);
  buffers = fits_32 buffers (matches_of attr_app line) (lit< tt) (buffers_text line taken);
  words = fits_32 words (matches_of attr_app line) (lit< tt) (words_text line taken);
  make = small_or_none make (matches_of attr_app line) (lit< tt) (make_text line taken);
  seed = fits_32 seed (matches_of attr_app line) (lit< tt) (seed_text line taken);
  after = after_text line taken;
  wide = wide_text line taken;
  dense = dense_text line taken;
  save = save_text line taken;
}

within : (o : NumberOption) (rows : List Row)
    → HasText (IsUnsignedIn o.least o.most) o.name rows → IsWithin o (number_at o.name rows)
within o rows text =
    let read : number_at o.name rows ≡ digits_value 10 (without_leading_plus text.0) =
    ap (λ (t : Option Text). digits_value 10 (without_leading_plus (unwrap_or t []))) text.1 in
    (omega (arith, read, text.3.2), omega (arith, read, text.3.3))

within_if : (o : NumberOption) (rows : List Row)
    → MayHaveText (IsUnsignedIn o.least o.most) o.name rows
    → IfSome (option_map number_in (first_of o.name rows)) (IsWithin o)
within_if o rows (inl none) = rw none.0 tt
within_if o rows (inr text) = rw text.1 (text.3.2, text.3.3)

-- and each number is in its range
pub in_range : RangesHold
in_range line taken =
    let rows = matches_of attr_app line in
    record {
      in_batch = within batch rows (batch_text line taken);
      in_readers = within readers rows (readers_text line taken);
      in_rounds = within rounds rows (rounds_text line taken);
      in_buffers = within buffers rows (buffers_text line taken);
      in_words = within words rows (words_text line taken);
      in_make = within_if make rows (make_text line taken);
      in_seed = within seed rows (seed_text line taken);
    }

-- and kind, value type and field are texts that the matches have
pub texts_given : TextsAreGiven
texts_given line taken = (kind_text line taken, value_text line taken, field_text line taken)
