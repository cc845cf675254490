use Rattle.std.proofs.Common.{◌≡◌, ◌&&◌, ◌*◌, ℕ}
use Rattle.std.specs.Prelude.{nat_lt}
use Rattle.index_model.specs.Sets.{has}
use Rattle.query_eval.specs.Lists.{some_has}
use Rattle.query_eval.proofs.vectors.union_of_vectors.Given as goal

-- those of the blocks so far are there
abbrev pub invariant-loop-block : goal.invariant-loop-block
invariant-loop-block g l = record {
  same : l.frozen ≡ l.fn.frozen;
  whole : (doc : ℕ) → has l.docs.items doc ≡ (nat_lt doc (4096 * l.block) && some_has (g.F.Frozen.records l.fn.frozen) l.lists doc);
}
