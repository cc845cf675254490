use Rattle.std.proofs.Common.{◌∙◌, ap, sym, []}
use Rattle.std.specs.Prelude.{unwrap_or}
use Rattle.std.specs.Str.Parse.{digits_value, without_leading_plus}
use Rattle.clap.specs.Matches.{found_of}
use Rattle.clap.proofs.WalkLemmas.{one_text-rows}
use Rattle.command_line.proofs.options.number_in.Goals as goal

pub unreachable-requires : goal.unreachable-requires
unreachable-requires c =
    let text = c.requires in
    let read = c.in-None.ensures.value text.0
    (one_text-rows (found_of c.args.matches.now) c.args.name.now ∙ text.2) in
    read.1.0 text.3

pub returns : goal.returns
returns c =
    let text = c.requires in
    let read = c.in-Some.ensures.value text.0
    (one_text-rows (found_of c.args.matches.now) c.args.name.now ∙ text.2) in
    read.0.1 ∙ ap (λ o. digits_value 10 (without_leading_plus (unwrap_or o []))) (sym text.1)
