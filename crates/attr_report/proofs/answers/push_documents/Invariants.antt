use Rattle.std.proofs.Common.{◌≡◌, ◌++◌, take, string_bytes, codes}
use Rattle.std.specs.List.{flat_map}
use Rattle.std.specs.Fmt.{decimal}
use Rattle.attr_report.proofs.answers.push_documents.Given as goal

-- what is written so far
abbrev pub invariant-loop-doc : goal.invariant-loop-doc
invariant-loop-doc l = string_bytes l.text ≡ string_bytes l.fn.text ++ (decimal l.fn.number ++ codes ":"
    ++ flat_map (λ doc. codes " " ++ decimal doc) (take l.doc-index l.docs))
