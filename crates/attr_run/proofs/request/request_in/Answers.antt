use Rattle.std.proofs.Common.{◌∙◌, ap, sym, Ok, Err, map, Vec, Global}
use Rattle.std.proofs.lemmas.Result.{err_from_is_err_and}
use Rattle.attr_types.specs.Scores.{ask_tree}
use Rattle.attr_types.specs.declared.ask.Ask.{Ask}
use Rattle.command_line.specs.Settings.{given_by}
use Rattle.attr_report.specs.Run.{Run, run_in}
use Rattle.attr_run.proofs.AskedLemmas.{asked-at_settings, asked-at_asks, asked-whole}
use Rattle.attr_run.proofs.RuleLemmas.{ruled-settings, ruled-query}
use Rattle.attr_run.proofs.request.request_in.Goals as goal

pub returns-in_err-settings-clause-asked : goal.returns-in_err-settings-clause-asked
returns-in_err-settings-clause-asked c =
    let p = err_from_is_err_and c.from_residual.result c.from_residual.ensures.1 in
    rw (p.1 ∙ ap Err p.2)
    (asked-at_settings given_by c.args.words.now c.in_err-settings.field-0.0 c.in_err-settings.ensures.says)

pub returns-in_err-asks-clause-asked : goal.returns-in_err-asks-clause-asked
returns-in_err-asks-clause-asked c =
    let p = err_from_is_err_and c.from_residual-in_err-asks.result c.from_residual-in_err-asks.ensures.1 in
    rw (p.1 ∙ ap Err p.2) (asked-at_asks c.args.words.now (given_by c.in_ok-settings.settings) (λ
    (asks : Vec Ask Global). map ask_tree asks.items) c.in_err-asks.field-0.0
    c.in_ok-settings.ensures.says (rw (c.as_slice.ensures, c.as_slice-2.ensures.value) at c.in_err-asks.ensures.says))

pub returns-clause-asked : goal.returns-clause-asked
returns-clause-asked c =
    asked-whole c.args.words.now (given_by c.in_ok-settings.settings) (map ask_tree c.in_ok-asks.asks.items)
    c.in_ok-settings.ensures.says (rw (c.as_slice.ensures, c.as_slice-2.ensures.value) at c.in_ok-asks.ensures.says)
    ∙ ap (λ (run : Run). Ok run) (sym c.request_of.ensures.run)

pub returns-clause-lawful : goal.returns-clause-lawful
returns-clause-lawful c =
    c.settings_law.ensures.asked c.args.words.now _ (given_by c.in_ok-settings.settings) (returns-clause-asked c)
    c.in_ok-settings.ensures.given c.in_ok-settings.ensures.texts

pub returns-in_err-settings-clause-ruled : goal.returns-in_err-settings-clause-ruled
returns-in_err-settings-clause-ruled c =
    let p = err_from_is_err_and c.from_residual.result c.from_residual.ensures.1 in
    rw (p.1 ∙ ap Err p.2) (ruled-settings given_by c.args.words.now c.in_err-settings.field-0.0 c.in_err-settings.ensures.says)

pub returns-in_err-asks-clause-ruled : goal.returns-in_err-asks-clause-ruled
returns-in_err-asks-clause-ruled c =
    let p = err_from_is_err_and c.from_residual-in_err-asks.result c.from_residual-in_err-asks.ensures.1 in
    rw (p.1 ∙ ap Err p.2) (ruled-query run_in c.settings_law.ensures.refused c.args.words.now (given_by c.in_ok-settings.settings) c.in_ok-settings.ensures.given c.in_ok-settings.ensures.texts
    c.in_err-asks.field-0.0 (asked-at_asks c.args.words.now (given_by c.in_ok-settings.settings) (λ
    (asks : Vec Ask Global). map ask_tree asks.items) c.in_err-asks.field-0.0
    c.in_ok-settings.ensures.says (rw (c.as_slice.ensures, c.as_slice-2.ensures.value) at c.in_err-asks.ensures.says)))
