use Rattle.std.proofs.Common.{◌≡◌, ◌+◌, ◌*◌, ◌≤◌, length}
use Rattle.image_format.specs.Words.{stored_items}
use Rattle.attr_saver.proofs.StoredLemmas.{words_rest}
use Rattle.attr_saver.proofs.stored_items.list_size.Given as goal

-- the items so far are counted
abbrev pub invariant-loop-i : goal.invariant-loop-i
invariant-loop-i g l =
    let m = g.F.Frozen.records l.fn.frozen in
    let ws = stored_items (m l.list) in
    record {
      same : l.frozen ≡ l.fn.frozen;
      so_far : l.size + length (words_rest l.kind l.value_type m l.i ws) ≡ length (words_rest l.kind l.value_type m 0 ws);
      small : l.size ≤ 1030 * l.i;
    }
