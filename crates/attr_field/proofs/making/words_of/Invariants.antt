use Rattle.std.proofs.Common.{◌≡◌, map, take}
use Rattle.attr_field.specs.Items.{entries_by_key, word_entry}
use Rattle.attr_field.proofs.making.words_of.Given as goal

abbrev pub invariant-loop-i : goal.invariant-loop-i
invariant-loop-i g l = map (word_entry l.kind) l.words.items ≡ entries_by_key (take l.i l.keys) (take l.i l.items)
