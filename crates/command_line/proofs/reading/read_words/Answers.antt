use Rattle.std.proofs.Common.{◌∙◌, ap, Err}
use Rattle.std.proofs.lemmas.Result.{err_from_is_err_and}
use Rattle.command_line.proofs.SettingsLemmas.{settings_taken, settings_refused, lawful_by}
use Rattle.command_line.proofs.reading.read_words.Goals as goal

pub returns-in_err-options-clause-says : goal.returns-in_err-options-clause-says
returns-in_err-options-clause-says c =
    let p = err_from_is_err_and c.from_residual.result c.from_residual.ensures.1 in
    rw (p.1 ∙ ap Err p.2) (settings_refused _ c.in_err-options.field-0.0 c.in_err-options.ensures)

pub returns-clause-says : goal.returns-clause-says
returns-clause-says c = settings_taken _ c.in_ok-options.options _ c.in_ok-options.ensures c.settings_by.ensures

pub returns-clause-lawful : goal.returns-clause-lawful
returns-clause-lawful c = lawful_by _ _ c.settings_law.ensures (returns-clause-says c)
