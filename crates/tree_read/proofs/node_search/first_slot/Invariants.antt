use Rattle.std.proofs.Common.{◌≡◌, ℕ, ◌<◌}
use Rattle.std.specs.Prelude.{slice_index}
use Rattle.std.specs.declared.cmp.Ordering.TheVariants.{Less}
use Rattle.tree_read.specs.Keys.{seen_by}
use Rattle.tree_read.proofs.node_search.first_slot.Given as goal

abbrev pub invariant-loop-slot : goal.invariant-loop-slot
invariant-loop-slot g l =
    let key = g.K.KeyOrder in
    record {
      same : l.frozen ≡ l.fn.frozen;
      before : (j : ℕ) → j < l.slot → seen_by key.read key.order (key.sought l.key) (g.F.Frozen.records l.fn.frozen) (slice_index l.keys j) ≡ Less;
    }
