use Rattle.std.specs.Int.{w16, to_be_bytes}
use Rattle.std.proofs.Common.{ℕ, length, sym, subst, arith}
use Rattle.std.specs.List.{AllByRecursion}
use Rattle.array_store.specs.Arrays.{IsArray}
use Rattle.image_format.specs.Values.{IsValueRecord}
use Rattle.attr_saver.specs.Stored.{entry_in}
use Rattle.std.proofs.lemmas.Result.{err_from_is_err_and}
use Rattle.image_format.specs.Words.{stored_items}
use Rattle.attr_saver.proofs.StoredLemmas.{words_rest}
use Rattle.attr_saver.proofs.WriteLemmas.{writes-cut, writes-then}
use Rattle.attr_saver.proofs.stored_items.write_counted.Goals as goal

pub returns-in_err-put-clause-writes : goal.returns-in_err-put-clause-writes
returns-in_err-put-clause-writes g c =
    let m = g.F.Frozen.records c.args.frozen.now in
    let ws = stored_items (m c.args.list) in
    let p = err_from_is_err_and c.from_residual.result c.from_residual.ensures.1 in
    let put = rw (c.to_be_bytes.ensures, c.count-items.ensures.count) at c.in_err-put.ensures in
    rw (p.1, p.2) (writes-cut _ _ _ _ (to_be_bytes w16 (length ws)) (words_rest c.args.kind c.args.value_type m 0 ws) c.in_err-put.field-0.0 put)

pub returns-clause-writes : goal.returns-clause-writes
returns-clause-writes g c =
    let m = g.F.Frozen.records c.args.frozen.now in
    let ws = stored_items (m c.args.list) in
    let put = rw (c.to_be_bytes.ensures, c.count-items.ensures.count) at c.in_ok-put.ensures in
    let next = rw c.count-items.ensures.same at c.write_list.ensures.writes in
    writes-then _ _ _ _ (to_be_bytes w16 (length ws)) _ _ (words_rest c.args.kind c.args.value_type m 0 ws) c.in_ok-put.field-0 _ put next

pub write_list-requires : goal.write_list-requires
write_list-requires g c =
    let records = g.F.Frozen.records in
    let back = sym c.count-items.ensures.same in (
      omega arith,
      (
        subst (λ (f : g.row.F.Denot). IsArray (records f c.args.list)) back c.requires.array,
        subst (λ (f : g.row.F.Denot). AllByRecursion (λ (word : ℕ). IsValueRecord c.args.value_type (records f (entry_in c.args.kind word).0)) (stored_items (records f c.args.list))) back
            c.requires.values,
      ),
    )
