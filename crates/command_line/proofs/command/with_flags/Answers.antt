use Rattle.std.proofs.Common.{◌∙◌, ap, ap₂}
use Rattle.std.proofs.lemmas.Result.{IfOk-weaker}
use Rattle.clap.specs.Simple.{app_of, with_rule}
use Rattle.command_line.proofs.command.with_flags.Goals as goal

pub returns : goal.returns
returns c =
    let app_1 = c.in_ok-arg.ensures.shape c.flag_option.ensures.local
    ∙ ap (with_rule (app_of c.args.command)) c.flag_option.ensures.rule in
    let app_2 = c.in_ok-arg-2.ensures.shape c.flag_option-2.ensures.local
    ∙ ap₂ with_rule app_1 c.flag_option-2.ensures.rule in
    let app_3 = c.in_ok-arg-3.ensures.shape c.flag_option-3.ensures.local
    ∙ ap₂ with_rule app_2 c.flag_option-3.ensures.rule in
    IfOk-weaker c.arg-4.result _ _
    (λ d h. h.shape c.flag_option-4.ensures.local
    ∙ ap₂ with_rule app_3 c.flag_option-4.ensures.rule) c.arg-4.ensures
