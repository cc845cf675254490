use Rattle.std.proofs.Common.{◌≡◌, ap, List, ℕ, Ok, Err, subst, arith}
use Rattle.command_line.specs.Settings.{given_by, settings_in as given_in}
use Rattle.attr_run.specs.Run.{given_or_refused}
use Rattle.attr_run.specs.Steps.{Says, words_stop}
use Rattle.attr_run.proofs.AskedLemmas.{words-refused, words_stop-words}
use Rattle.attr_run.proofs.SettingsLemmas.{strings_utf8}
use Rattle.attr_run.proofs.request.settings_in.Goals as goal

pub returns-in-Ok-clause-given : goal.returns-in-Ok-clause-given
returns-in-Ok-clause-given c =
    subst (λ (w : List (List ℕ)). given_in w ≡ Ok (given_by c.in-Ok.settings)) c.as_slice.ensures c.in-Ok.ensures.says

pub returns-in-Ok-clause-says : goal.returns-in-Ok-clause-says
returns-in-Ok-clause-says c = ap given_or_refused (returns-in-Ok-clause-given c)

pub returns-in-Err-clause-says : goal.returns-in-Err-clause-says
returns-in-Err-clause-says c =
    rw c.of_words.ensures (subst (λ (w : List (List ℕ)). Says given_by (Err (words_stop c.in-Err.error))
    (given_or_refused (given_in w))) c.as_slice.ensures (words-refused given_by c.in-Err.error _ c.in-Err.ensures.says))

pub returns-in-Err-clause-refusal : goal.returns-in-Err-clause-refusal
returns-in-Err-clause-refusal c = rw c.of_words.ensures (words_stop-words c.in-Err.error)

pub returns-in-Ok-clause-few : goal.returns-in-Ok-clause-few
returns-in-Ok-clause-few c = omega (arith, c.in-Ok.ensures.lawful.few)

pub returns-in-Ok-clause-texts : goal.returns-in-Ok-clause-texts
returns-in-Ok-clause-texts c = strings_utf8 c.in-Ok.settings.queries.items
