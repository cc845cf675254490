use Rattle.std.proofs.Common.{◌≡◌, length}
use Rattle.attr_types.specs.Fitting.{changes_fit}
use Rattle.attr_types.proofs.fitting.do_changes_fit.Given as goal

-- what is left fits just where all does
abbrev pub invariant-loop-fields_left : goal.invariant-loop-fields_left
invariant-loop-fields_left l = changes_fit l.fields_left l.changes_left ≡ changes_fit l.fields l.changes

abbrev pub decreases-loop-fields_left : goal.decreases-loop-fields_left
decreases-loop-fields_left l = length l.fields_left
