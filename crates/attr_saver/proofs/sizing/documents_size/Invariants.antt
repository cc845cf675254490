use Rattle.std.proofs.Common.{◌≡◌, ◌≤◌, ◌+◌, ◌*◌, length}
use Rattle.std.specs.List.{flat_map, AllByRecursion}
use Rattle.attr_saver.specs.Bytes.{document_bytes}
use Rattle.attr_saver.specs.Lawful.{first_column}
use Rattle.attr_saver.proofs.sizing.documents_size.Given as goal

-- the bytes so far, and those of the documents that are left, are all
abbrev pub invariant-loop-doc : goal.invariant-loop-doc
invariant-loop-doc l = record {
  size : l.size + length (flat_map (document_bytes l.kind) (first_column l._doc-iterator))
      ≡ length (flat_map (document_bytes l.kind) (first_column l.documents.entries));
  small : l.size + 1053696 * length (first_column l._doc-iterator) ≤ 1053696 * length (first_column l.documents.entries);
  short : AllByRecursion (λ d. length d.items ≤ 1023) (first_column l._doc-iterator);
}
