use Rattle.std.proofs.Common.{◌≡◌, drop, nat_le}
use Rattle.std.specs.List.{find}
use Rattle.image_format.specs.Words.{classes}
use Rattle.check_images.proofs.words.class_of.Given as goal

-- the classes that are left hold it just where all do
abbrev pub invariant-loop-width : goal.invariant-loop-width
invariant-loop-width l = find (nat_le l.count) (drop l.width-index classes) ≡ find (nat_le l.count) classes
