use Rattle.std.proofs.Common.{◌∙◌, ap, ap₂}
use Rattle.std.proofs.lemmas.Result.{IfOk-weaker}
use Rattle.clap.specs.Simple.{app_of, with_rule}
use Rattle.command_line.proofs.command.with_numbers.Goals as goal

pub returns : goal.returns
returns c =
    let app_1 = c.in_ok-arg.ensures.shape c.number_option.ensures.local
    ∙ ap (with_rule (app_of c.args.command)) c.number_option.ensures.rule in
    let app_2 = c.in_ok-arg-2.ensures.shape c.number_option-2.ensures.local
    ∙ ap₂ with_rule app_1 c.number_option-2.ensures.rule in
    let app_3 = c.in_ok-arg-3.ensures.shape c.number_option-3.ensures.local
    ∙ ap₂ with_rule app_2 c.number_option-3.ensures.rule in
    let app_4 = c.in_ok-arg-4.ensures.shape c.number_option-4.ensures.local
    ∙ ap₂ with_rule app_3 c.number_option-4.ensures.rule in
    let app_5 = c.in_ok-arg-5.ensures.shape c.number_option-5.ensures.local
    ∙ ap₂ with_rule app_4 c.number_option-5.ensures.rule in
    let app_6 = c.in_ok-arg-6.ensures.shape c.free_number_option.ensures.local
    ∙ ap₂ with_rule app_5 c.free_number_option.ensures.rule in
    IfOk-weaker c.arg-7.result _ _
    (λ d h. h.shape c.number_option-6.ensures.local
    ∙ ap₂ with_rule app_6 c.number_option-6.ensures.rule) c.arg-7.ensures
