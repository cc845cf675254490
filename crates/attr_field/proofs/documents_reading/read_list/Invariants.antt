use Rattle.std.proofs.Common.{◌≡◌, map, take}
use Rattle.image_format.specs.Words.{stored_items}
use Rattle.attr_field.specs.Items.{item_of, word_entry}
use Rattle.attr_field.proofs.documents_reading.read_list.Given as goal

-- the items of the words so far
abbrev pub invariant-loop-i : goal.invariant-loop-i
invariant-loop-i g l =
    let m = g.F.Frozen.records l.fn.frozen in
    record {
      same : l.frozen ≡ l.fn.frozen;
      so_far : l.items.items ≡ map (λ word. item_of l.value_type m (word_entry l.kind word)) (take l.i (stored_items (m l.list)));
    }
