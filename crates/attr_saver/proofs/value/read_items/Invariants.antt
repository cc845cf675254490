use Rattle.std.proofs.Common.{◌≡◌, ◌-◌}
use Rattle.std.specs.Prelude.{None}
use Rattle.attr_saver.specs.Fields.{read_items, last_value}
use Rattle.attr_saver.proofs.Loops.{with_front}
use Rattle.attr_saver.proofs.value.read_items.Given as goal

-- the items so far, before what the rest says, are all
abbrev pub invariant-loop : goal.invariant-loop
invariant-loop l =
    with_front l.items.items (read_items l.kind l.value_type (l.count - l.counter) (last_value l.items.items) l.reader)
    ≡ read_items l.kind l.value_type l.count None l.fn.reader
