use Rattle.std.proofs.Common.{◌≡◌}
use Rattle.attr_types.specs.Table.{document_at}
use Rattle.attr_operations.specs.Fields.{trees_of}
use Rattle.attr_operations.specs.Views.{table_at}
use Rattle.attr_operations.proofs.Reading.{ReadsSoFar}
use Rattle.attr_operations.proofs.document.read_document.Given as goal

abbrev pub invariant-loop-i : goal.invariant-loop-i
invariant-loop-i g l = record {
  reads : ReadsSoFar l.i (document_at (table_at (g.F.Frozen.records l.fn.frozen) (trees_of l.fields l.roots)) l.doc) l.document.items;
  same : l.frozen ≡ l.fn.frozen;
}
