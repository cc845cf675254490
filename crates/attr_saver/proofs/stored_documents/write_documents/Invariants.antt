use Rattle.std.proofs.Common.{◌≡◌, length}
use Rattle.std.specs.List.{flat_map, AllByRecursion}
use Rattle.tree_read.specs.SearchPlaces.{IsAt, pairs_from}
use Rattle.tree_read.specs.Trees.{tree_pairs}
use Rattle.attr_saver.specs.Bytes.{document_bytes}
use Rattle.attr_saver.specs.Stored.{documents_of, IsStoredPair}
use Rattle.attr_saver.proofs.WriteLemmas.{IsFront}
use Rattle.attr_saver.proofs.stored_documents.write_documents.Given as goal

-- the documents so far are written
abbrev pub invariant-loop-kind : goal.invariant-loop-kind
invariant-loop-kind g l =
    let m = g.F.Frozen.records l.fn.frozen in
    record {
      same : l.frozen ≡ l.fn.frozen;
      at : IsAt m l.cursor;
      stored : AllByRecursion (IsStoredPair l.kind l.value_type m) (pairs_from m l.cursor);
      so_far : IsFront (g.K.Sink.taken l.fn.sink) (g.K.Sink.taken l.sink) (g.K.Sink.faults l.fn.sink) (g.K.Sink.faults l.sink)
          (flat_map (document_bytes l.kind) (documents_of l.kind l.value_type m (pairs_from m l.cursor)))
          (flat_map (document_bytes l.kind) (documents_of l.kind l.value_type m (tree_pairs m l.fn.tree)));
    }

abbrev pub decreases-loop-kind : goal.decreases-loop-kind
decreases-loop-kind g l = length (pairs_from (g.F.Frozen.records l.fn.frozen) l.cursor)
