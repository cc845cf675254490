use Rattle.std.proofs.Common.{◌≡◌, ◌-◌}
use Rattle.attr_saver.specs.Fields.{read_documents}
use Rattle.attr_saver.proofs.Loops.{with_front}
use Rattle.attr_saver.proofs.document.read_documents.Given as goal

-- the documents so far, before what the rest says, are all
abbrev pub invariant-loop : goal.invariant-loop
invariant-loop l =
    with_front l.documents.items (read_documents l.kind l.value_type (l.count - l.counter) l.before l.reader)
    ≡ read_documents l.kind l.value_type l.count 0 l.fn.reader
