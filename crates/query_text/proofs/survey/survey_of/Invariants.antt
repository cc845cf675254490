use Rattle.std.proofs.Common.{◌≡◌, ◌≤◌, drop}
use Rattle.query_text.specs.Machine.{run_from}
use Rattle.query_text.specs.Survey.{surveyed_after, is_complete, start}
use Rattle.query_text.proofs.survey.survey_of.Given as goal

abbrev pub invariant-loop-place : goal.invariant-loop-place
invariant-loop-place l = record {
  whole : run_from (surveyed_after l.fields l.text) is_complete l.survey l.place (drop l.place l.text)
      ≡ run_from (surveyed_after l.fields l.text) is_complete (start l.fields) 0 l.text;
  deep : l.survey.depth ≤ l.place;
  begins : l.survey.begins ≤ l.place;
}
