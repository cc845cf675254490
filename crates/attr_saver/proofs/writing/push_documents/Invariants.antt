use Rattle.std.proofs.Common.{◌≡◌, ◌++◌, ◌≤◌, length}
use Rattle.std.specs.List.{flat_map, AllByRecursion}
use Rattle.attr_saver.specs.Bytes.{document_bytes}
use Rattle.attr_saver.specs.Lawful.{IsStorable, first_column}
use Rattle.attr_saver.proofs.writing.push_documents.Given as goal

-- what is written, before the documents that are left, is all
abbrev pub invariant-loop-doc : goal.invariant-loop-doc
invariant-loop-doc l = record {
  bytes : l.out.items ++ flat_map (document_bytes l.kind) (first_column l.doc-iterator)
      ≡ l.initial.out.items ++ flat_map (document_bytes l.kind) (first_column l.documents.entries);
  few : AllByRecursion (λ d. length d.items ≤ 1023) (first_column l.doc-iterator);
  fits : AllByRecursion (λ d. AllByRecursion IsStorable d.items) (first_column l.doc-iterator)
      → AllByRecursion (λ d. AllByRecursion IsStorable d.items) (first_column l.documents.entries);
}
