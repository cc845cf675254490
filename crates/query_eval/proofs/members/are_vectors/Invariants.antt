use Rattle.std.proofs.Common.{◌≤◌, drop}
use Rattle.std.specs.List.{AllByRecursion}
use Rattle.image_format.specs.declared.TheConstants.{FIRST_VECTOR}
use Rattle.query_eval.proofs.members.are_vectors.Given as goal

-- if those that are left are bit vectors, all are
abbrev pub invariant-loop-list : goal.invariant-loop-list
invariant-loop-list l =
    AllByRecursion (λ list. FIRST_VECTOR ≤ list) (drop l.list-index l.lists) → AllByRecursion (λ list. FIRST_VECTOR ≤ list) l.lists
