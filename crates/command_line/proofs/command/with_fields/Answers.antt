use Rattle.std.proofs.Common.{◌∙◌, ap, ap₂}
use Rattle.std.proofs.lemmas.Result.{IfOk-weaker}
use Rattle.clap.specs.Simple.{app_of, with_rule}
use Rattle.command_line.proofs.command.with_fields.Goals as goal

pub returns : goal.returns
returns c =
    let app_1 = c.in_ok-arg.ensures.shape c.required_option.ensures.local
    ∙ ap (with_rule (app_of c.args.command)) c.required_option.ensures.rule in
    let app_2 = c.in_ok-arg-2.ensures.shape c.required_option-2.ensures.local
    ∙ ap₂ with_rule app_1 c.required_option-2.ensures.rule in
    let app_3 = c.in_ok-arg-3.ensures.shape c.text_option.ensures.local
    ∙ ap₂ with_rule app_2 c.text_option.ensures.rule in
    IfOk-weaker c.arg-4.result _ _
    (λ d h. h.shape c.free_text_option.ensures.local
    ∙ ap₂ with_rule app_3 c.free_text_option.ensures.rule) c.arg-4.ensures
