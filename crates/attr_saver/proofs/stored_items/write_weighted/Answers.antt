use Rattle.std.specs.Int.{w32, to_be_bytes}
use Rattle.std.proofs.Common.{◌/◌, ◌%◌, ◌^◌}
use Rattle.std.proofs.lemmas.Result.{err_from_is_err_and}
use Rattle.image_format.specs.Values.{stored_value}
use Rattle.attr_saver.specs.Bytes.{value_bytes}
use Rattle.attr_saver.proofs.StoredLemmas.{weighted_bytes}
use Rattle.attr_saver.proofs.WriteLemmas.{writes-cut, writes-then}
use Rattle.attr_saver.proofs.stored_items.write_weighted.Goals as goal

pub returns-in_err-write_key-clause-writes : goal.returns-in_err-write_key-clause-writes
returns-in_err-write_key-clause-writes g c =
    let m = g.F.Frozen.records c.args.frozen.now in
    let p = err_from_is_err_and c.from_residual.result c.from_residual.ensures.1 in
    rw (p.1, p.2, weighted_bytes c.args.value_type m c.args.word)
    (writes-cut _ _ _ _ (value_bytes (stored_value c.args.value_type m (c.args.word / 2 ^ 32))) (to_be_bytes w32 (c.args.word % 2 ^ 32)) c.in_err-write_key.field-0.0 c.in_err-write_key.ensures.writes)

pub returns-clause-writes : goal.returns-clause-writes
returns-clause-writes g c =
    let m = g.F.Frozen.records c.args.frozen.now in
    let put = rw c.to_be_bytes.ensures at c.put.ensures in
    rw (weighted_bytes c.args.value_type m c.args.word)
    (writes-then _ _ _ _ (value_bytes (stored_value c.args.value_type m (c.args.word / 2 ^ 32))) _ _ (to_be_bytes w32 (c.args.word % 2 ^ 32)) c.in_ok-write_key.field-0 _ c.in_ok-write_key.ensures.writes put)
