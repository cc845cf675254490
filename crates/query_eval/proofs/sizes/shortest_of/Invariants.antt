use Rattle.std.proofs.Common.{◌≡◌, ◌<◌, length}
use Rattle.query_eval.proofs.sizes.shortest_of.Given as goal

abbrev pub invariant-loop-i : goal.invariant-loop-i
invariant-loop-i g l = record {
  same : l.frozen ≡ l.fn.frozen;
  within : 0 < length l.queries → l.shortest < length l.queries;
}
