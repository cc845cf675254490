use Rattle.std.proofs.Common.{◌∙◌, ap, ap₂, true}
use Rattle.std.proofs.lemmas.Result.{IfOk-weaker}
use Rattle.clap.specs.Simple.{Shape, app_of_fields, on_top, with_rule}
use Rattle.command_line.specs.CommandLine.{attr_app, with_fields, with_flags, with_numbers}
use Rattle.command_line.proofs.command.attr_command.Goals as goal

pub returns : goal.returns
unfolding attr_app
returns c =
    let start = ap app_of_fields c.no_binary_name-bare.ensures ∙ ap
    (on_top (λ (s : Shape). record s { no_binary_name = true })) c.new.ensures.app in
    let fields = c.in_ok-command.ensures ∙ ap with_fields start in
    let numbers = c.in_ok-command-2.ensures ∙ ap with_numbers fields in
    let flags = c.in_ok-command-3.ensures ∙ ap with_flags numbers in
    IfOk-weaker c.arg.result _ _
    (λ d h. h.shape c.words_argument.ensures.local
    ∙ ap₂ with_rule flags c.words_argument.ensures.rule) c.arg.ensures
