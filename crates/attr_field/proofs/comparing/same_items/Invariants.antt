use Rattle.std.proofs.Common.{◌≡◌, take, length}
use Rattle.attr_field.proofs.comparing.same_items.Given as goal

-- the items so far are the same
abbrev pub invariant-loop-i : goal.invariant-loop-i
invariant-loop-i l = record { same : take l.i l.a ≡ take l.i l.b; sizes : length l.a ≡ length l.b }
