use Rattle.std.proofs.Common.{◌≡◌, ◌++◌, take, string_bytes, codes}
use Rattle.std.specs.List.{flat_map}
use Rattle.std.specs.Fmt.{decimal}
use Rattle.attr_report.specs.Report.{score_text}
use Rattle.attr_report.proofs.answers.push_scores.Given as goal

-- what is written so far
abbrev pub invariant-loop-score : goal.invariant-loop-score
invariant-loop-score l = string_bytes l.text ≡ string_bytes l.fn.text ++ (decimal l.fn.number ++ codes ":"
    ++ flat_map score_text (take l.score-index l.scores))
