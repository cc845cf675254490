use Rattle.std.proofs.Common.{◌∙◌, ap, sym, ℕ, List, [], Option, Some}
use Rattle.std.specs.Prelude.{option_map, unwrap_or}
use Rattle.clap.specs.Matches.{found_of}
use Rattle.clap.proofs.WalkLemmas.{first_value-rows}
use Rattle.command_line.specs.Reading.{number_in}
use Rattle.command_line.proofs.TextLemmas.{has_number}
use Rattle.command_line.proofs.options.number_if_given.Goals as goal

pub number_in-requires : goal.number_in-requires
number_in-requires c =
    let given = sym (c.in-Some.ensures ∙ first_value-rows (found_of c.args.matches.now) c.args.name.now) in
    has_number c.args.name.now _ _ c.requires given

pub returns-in-Some : goal.returns-in-Some
returns-in-Some c =
    let given = sym (c.in-Some.ensures ∙ first_value-rows (found_of c.args.matches.now) c.args.name.now) in
    ap Some (c.number_in.ensures ∙ ap (λ (o : Option (List ℕ)). number_in (unwrap_or o [])) given)
    ∙ sym (ap (option_map number_in) given)

pub returns-in-None : goal.returns-in-None
returns-in-None c =
    let given = sym (c.in-None.ensures ∙ first_value-rows (found_of c.args.matches.now) c.args.name.now) in
    sym (ap (option_map number_in) given)
