use Rattle.std.proofs.Common.{◌≡◌, ◌++◌, length}
use Rattle.std.specs.List.{AllByRecursion}
use Rattle.tree_read.specs.SearchPlaces.{IsAt, pairs_from}
use Rattle.image_format.specs.Documents.{column_at}
use Rattle.index_model.specs.Columns.{column_of}
use Rattle.doc_vector.specs.Documents.{IsDocumentPair}
use Rattle.attr_rounds.proofs.ColumnLemmas.{read_pairs}
use Rattle.attr_rounds.proofs.reading.documents_in.Given as goal

abbrev pub invariant-loop-alloc : goal.invariant-loop-alloc
invariant-loop-alloc g l =
    let m = g.F.Frozen.records l.fn.frozen in
    record {
      same : l.frozen ≡ l.fn.frozen;
      at : IsAt m l.cursor;
      numbers : AllByRecursion IsDocumentPair (pairs_from m l.cursor);
      whole : column_of 0 l.documents.entries ++ read_pairs l.fn.kind l.fn.value_type m (pairs_from m l.cursor) ≡ column_at l.fn.kind l.fn.value_type m l.fn.root;
    }

abbrev pub decreases-loop-alloc : goal.decreases-loop-alloc
decreases-loop-alloc g l = length (pairs_from (g.F.Frozen.records l.fn.frozen) l.cursor)
