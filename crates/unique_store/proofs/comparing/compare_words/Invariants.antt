use Rattle.std.proofs.Common.{◌≡◌, ◌*◌, drop}
use Rattle.std.specs.Cmp.Lexicographic.{slice_cmp}
use Rattle.std.specs.Ordering.{nat_cmp}
use Rattle.image_format.specs.Values.{stored_text}
use Rattle.unique_store.proofs.OrderLemmas.{order, by_length}
use Rattle.unique_store.proofs.comparing.compare_words.Given as goal

-- the words so far are equal
abbrev pub invariant-loop-i : goal.invariant-loop-i
invariant-loop-i g l =
    let text = stored_text (g.F.Frozen.records l.fn.frozen l.stored) in
    record {
      same : l.frozen ≡ l.fn.frozen;
      rest : l.rest ≡ drop (8 * l.i) l.bytes;
      so_far : order (drop (8 * l.i) text) (drop (8 * l.i) l.bytes) (by_length text l.bytes) ≡ slice_cmp nat_cmp text l.bytes;
    }
