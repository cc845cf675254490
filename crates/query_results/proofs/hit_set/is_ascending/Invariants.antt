use Rattle.std.proofs.Common.{ℕ, suc, ◌<◌, slice_index}
use Rattle.query_results.proofs.hit_set.is_ascending.Given as goal

abbrev pub invariant-loop-place : goal.invariant-loop-place
invariant-loop-place l = (k : ℕ) → suc k < l.place → slice_index l.docs k < slice_index l.docs (suc k)
