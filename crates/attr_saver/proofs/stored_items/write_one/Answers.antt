use Rattle.std.specs.Int.{w16, to_be_bytes}
use Rattle.std.proofs.lemmas.Result.{err_from_is_err_and}
use Rattle.attr_saver.proofs.StoredLemmas.{word_bytes}
use Rattle.attr_saver.proofs.WriteLemmas.{writes-cut, writes-then}
use Rattle.attr_saver.proofs.stored_items.write_one.Goals as goal

pub returns-in_err-put-clause-writes : goal.returns-in_err-put-clause-writes
returns-in_err-put-clause-writes g c =
    let m = g.F.Frozen.records c.args.frozen.now in
    let p = err_from_is_err_and c.from_residual.result c.from_residual.ensures.1 in
    let put = rw c.to_be_bytes.ensures at c.in_err-put.ensures in
    rw (p.1, p.2) (writes-cut _ _ _ _ (to_be_bytes w16 1) (word_bytes c.args.kind c.args.value_type m c.args.word) c.in_err-put.field-0.0 put)

pub returns-clause-writes : goal.returns-clause-writes
returns-clause-writes g c =
    let m = g.F.Frozen.records c.args.frozen.now in
    let put = rw c.to_be_bytes.ensures at c.in_ok-put.ensures in
    writes-then _ _ _ _ (to_be_bytes w16 1) _ _ (word_bytes c.args.kind c.args.value_type m c.args.word) c.in_ok-put.field-0 _ put c.write_item.ensures.writes
