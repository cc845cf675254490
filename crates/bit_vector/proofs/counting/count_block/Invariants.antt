use Rattle.std.proofs.Common.{◌≡◌, ◌*◌}
use Rattle.index_model.specs.Sets.{in_words}
use Rattle.bit_vector.proofs.OnesLemmas.{passing}
use Rattle.bit_vector.proofs.counting.count_block.Given as goal

abbrev pub invariant-loop-i : goal.invariant-loop-i
invariant-loop-i g l = record {
  same : l.frozen ≡ l.fn.frozen;
  count : l.count ≡ passing (in_words (g.F.Frozen.records l.fn.frozen l.block)) 0 (64 * l.i);
}
