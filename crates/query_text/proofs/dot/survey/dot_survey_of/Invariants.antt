use Rattle.std.proofs.Common.{◌≡◌, drop}
use Rattle.query_text.specs.Machine.{run_from}
use Rattle.query_text.specs.Dot.{dot_after, dot_is_ended, dot_start}
use Rattle.query_text.proofs.dot.survey.dot_survey_of.Given as goal

abbrev pub invariant-loop-place : goal.invariant-loop-place
invariant-loop-place l =
    run_from (dot_after l.fields l.text) dot_is_ended l.survey l.place (drop l.place l.text)
    ≡ run_from (dot_after l.fields l.text) dot_is_ended dot_start 0 l.text
