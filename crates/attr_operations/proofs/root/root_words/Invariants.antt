use Rattle.std.proofs.Common.{◌≡◌, ◌+◌, ◌*◌, ◌++◌, ◌∷◌, length, drop}
use Rattle.attr_operations.specs.Commits.{roots_listed}
use Rattle.attr_operations.proofs.root.root_words.Given as goal

-- the words so far, and those of the roots that are left, are all
abbrev pub invariant-loop-i : goal.invariant-loop-i
invariant-loop-i g l = record {
  words : l.words.items ++ roots_listed (drop l.i l.roots) ≡ l.operations ∷ roots_listed l.roots;
  size : length l.words.items ≡ 1 + 2 * l.i;
}
