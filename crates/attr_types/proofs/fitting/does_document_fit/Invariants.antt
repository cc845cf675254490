use Rattle.std.proofs.Common.{◌≡◌, length}
use Rattle.attr_types.specs.Fitting.{document_fits}
use Rattle.attr_types.proofs.fitting.does_document_fit.Given as goal

-- what is left fits just where all does
abbrev pub invariant-loop-fields_left : goal.invariant-loop-fields_left
invariant-loop-fields_left l = document_fits l.fields_left l.document_left ≡ document_fits l.fields l.document

abbrev pub decreases-loop-fields_left : goal.decreases-loop-fields_left
decreases-loop-fields_left l = length l.fields_left
