use Rattle.std.proofs.Common.{length}
use Rattle.std.proofs.lemmas.Result.{err_from_is_err_and}
use Rattle.tree_read.specs.Trees.{tree_pairs}
use Rattle.attr_saver.specs.Bytes.{head_bytes}
use Rattle.attr_saver.proofs.StoredLemmas.{pairs_text}
use Rattle.attr_saver.proofs.WriteLemmas.{writes-cut, writes-then}
use Rattle.attr_saver.proofs.images.write_save.Goals as goal

pub returns-in_err-write_head-clause-writes : goal.returns-in_err-write_head-clause-writes
returns-in_err-write_head-clause-writes g c =
    let m = g.F.Frozen.records c.args.frozen.now in
    let ps = tree_pairs m c.args.tree in
    let head = rw c.total-documents.ensures.count at c.in_err-write_head.ensures in
    let p = err_from_is_err_and c.from_residual.result c.from_residual.ensures.1 in
    rw (p.1, p.2) (writes-cut _ _ _ _ (head_bytes c.args.kind c.args.value_type c.args.operations (length ps)) (pairs_text c.args.kind c.args.value_type m ps) c.in_err-write_head.field-0.0 head)

pub returns-clause-writes : goal.returns-clause-writes
returns-clause-writes g c =
    let m = g.F.Frozen.records c.args.frozen.now in
    let ps = tree_pairs m c.args.tree in
    let head = rw c.total-documents.ensures.count at c.in_ok-write_head.ensures in
    let rest = rw c.total-documents.ensures.same at c.write_documents.ensures.writes in
    writes-then _ _ _ _ (head_bytes c.args.kind c.args.value_type c.args.operations (length ps)) _ _ (pairs_text c.args.kind c.args.value_type m ps) c.in_ok-write_head.field-0 _ head rest
