use Rattle.std.proofs.Common.{◌≡◌, List, ℕ, map, string_bytes, sym, subst}
use Rattle.clap.specs.Walk.{Row, rows_of}
use Rattle.clap.specs.Matches.{found_of}
use Rattle.clap.specs.Simple.{app_of}
use Rattle.command_line.specs.Found.{HasTexts}
use Rattle.command_line.specs.Reading.{options_said, said_by}
use Rattle.command_line.proofs.CommandLemmas.{error_is, rows_are, taken}
use Rattle.command_line.proofs.TextLemmas.{texts_there}
use Rattle.command_line.proofs.reading.read_options.Goals as goal

pub options_in-requires : goal.options_in-requires
options_in-requires c =
    let line : List (List ℕ) = map (λ w. string_bytes w) c.args.words.now in
    let a = app_of c.in_ok-command.command in
    let is = c.in_ok-command.ensures in
    let found = rows_of (found_of c.in-Ok.matches) in
    subst HasTexts (sym (rows_are a is line found c.in-Ok.ensures.matches))
    (texts_there line (taken a is line c.in-Ok.ensures.kinds))

pub returns-in_ok-options_in-in-Ok : goal.returns-in_ok-options_in-in-Ok
returns-in_ok-options_in-in-Ok c =
    let line : List (List ℕ) = map (λ w. string_bytes w) c.args.words.now in
    let a = app_of c.in_ok-command.command in
    let is = c.in_ok-command.ensures in
    let found = rows_of (found_of c.in-Ok.matches) in
    let rows = rows_are a is line found c.in-Ok.ensures.matches in
    let options = c.in_ok-options_in-in-Ok.field-0 in (
      taken a is line c.in-Ok.ensures.kinds,
      subst (λ (r : List Row). options_said options ≡ said_by r) rows
          c.in_ok-options_in-in-Ok.ensures,
    )

pub returns-in-Err : goal.returns-in-Err
returns-in-Err c =
    let line : List (List ℕ) = map (λ w. string_bytes w) c.args.words.now in
    let a = app_of c.in_ok-command.command in
    rw (c.refusal_of.ensures, c.kind.ensures)
    (error_is a c.in_ok-command.ensures line _ c.in-Err.ensures.kinds)
