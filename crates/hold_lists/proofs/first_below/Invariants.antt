use Rattle.std.proofs.Common.{◌≡◌, ◌<◌, ◌≤◌, ℕ, take, true}
use Rattle.hold_lists.specs.Runs.{nth_run, tagged_count}
use Rattle.hold_lists.proofs.first_below.Given as goal

abbrev pub invariant-loop-i : goal.invariant-loop-i
invariant-loop-i l = record {
  before : l.before ≡ tagged_count (take l.i l.runs.items);
  earlier : (k : ℕ) → k < l.i → l.oldest ≤ (nth_run l.runs.items k).generation;
  first : l.rises ≡ true → l.i ≡ 0;
}
