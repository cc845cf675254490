use Rattle.std.proofs.Common.{◌<◌, ℕ, length, slice_index, sym, ap, subst, ◌∙◌, arith}
use Rattle.std.proofs.lemmas.Result.{err_from_is_err_and}
use Rattle.list_lemmas.proofs.Each.{AllByRecursion-at}
use Rattle.array_store.specs.Arrays.{IsArray}
use Rattle.image_format.specs.Values.{IsValueRecord}
use Rattle.image_format.specs.Words.{stored_items}
use Rattle.attr_saver.specs.Stored.{entry_in}
use Rattle.attr_saver.proofs.StoredLemmas.{words_split, words_over}
use Rattle.attr_saver.proofs.WriteLemmas.{front-on, front-cut, front-end, front-start}
use Rattle.attr_saver.proofs.stored_items.write_list.Goals as goal

pub get-word-requires : goal.get-word-requires
get-word-requires g c =
    let records = g.F.Frozen.records in
    let same = sym c.loop-i.invariant.same in
    let count = c.count-i-end.ensures.count in
    let below = c.loop-i-test.true in (
      omega arith,
      (
        subst (λ (f : g.row.F.Denot). IsArray (records f c.args.list)) same c.requires.array,
        subst (λ (f : g.row.F.Denot). c.loop-i.i < length (stored_items (records f c.args.list))) same (omega arith),
      ),
    )

pub write_item-requires : goal.write_item-requires
write_item-requires g c =
    let records = g.F.Frozen.records in
    let m = records c.args.frozen.now in
    let ws = stored_items (m c.args.list) in
    let back = c.get-word.ensures.same ∙ c.loop-i.invariant.same in
    let count = c.count-i-end.ensures.count in
    let below = c.loop-i-test.true in
    let word = c.get-word.ensures.item ∙ ap (λ (f : g.row.F.Denot). slice_index (stored_items (records f c.args.list)) c.loop-i.i) c.loop-i.invariant.same in
    subst (λ (f : g.row.F.Denot). IsValueRecord c.args.value_type (records f (entry_in c.args.kind c.get-word.result).0)) (sym back)
    (subst (λ (w : ℕ). IsValueRecord c.args.value_type (m (entry_in c.args.kind w).0)) (sym word)
    (AllByRecursion-at (λ w. IsValueRecord c.args.value_type (m (entry_in c.args.kind w).0)) ws c.loop-i.i 0 (omega arith) c.requires.values))

pub returns-in_err-write_item-clause-writes : goal.returns-in_err-write_item-clause-writes
returns-in_err-write_item-clause-writes g c =
    let records = g.F.Frozen.records in
    let m = records c.args.frozen.now in
    let ws = stored_items (m c.args.list) in
    let back = c.get-word.ensures.same ∙ c.loop-i.invariant.same in
    let count = c.count-i-end.ensures.count in
    let below = c.loop-i-test.true in
    let word = c.get-word.ensures.item ∙ ap (λ (f : g.row.F.Denot). slice_index (stored_items (records f c.args.list)) c.loop-i.i) c.loop-i.invariant.same in
    let split = words_split c.args.kind c.args.value_type m c.loop-i.i c.get-word.result ws (omega arith) word in
    let write = rw back at c.in_err-write_item.ensures.writes in
    let p = err_from_is_err_and c.from_residual.result c.from_residual.ensures.1 in
    rw (p.1, p.2) (front-cut _ _ _ _ _ _ c.loop-i.invariant.so_far _ _ _ _ c.in_err-write_item.field-0.0 split write)

pub loop-i-preserved : goal.loop-i-preserved
loop-i-preserved g c =
    let records = g.F.Frozen.records in
    let m = records c.args.frozen.now in
    let ws = stored_items (m c.args.list) in
    let back = c.get-word.ensures.same ∙ c.loop-i.invariant.same in
    let count = c.count-i-end.ensures.count in
    let below = c.loop-i-test.true in
    let word = c.get-word.ensures.item ∙ ap (λ (f : g.row.F.Denot). slice_index (stored_items (records f c.args.list)) c.loop-i.i) c.loop-i.invariant.same in
    let split = words_split c.args.kind c.args.value_type m c.loop-i.i c.get-word.result ws (omega arith) word in
    let write = rw back at c.in_ok-write_item.ensures.writes in
    record {
      same = c.write_item.ensures.same ∙ back;
      so_far = front-on _ _ _ _ _ _ c.loop-i.invariant.so_far _ _ _ _ c.in_ok-write_item.field-0 split write;
    }

pub returns-clause-writes : goal.returns-clause-writes
returns-clause-writes g c =
    let m = g.F.Frozen.records c.args.frozen.now in
    let ws = stored_items (m c.args.list) in
    let count = c.count-i-end.ensures.count in
    let no = c.loop-i-test.false in
    front-end _ _ _ _ _ _ c.loop-i.invariant.so_far _ (words_over c.args.kind c.args.value_type m c.loop-i.i ws (omega arith))

pub loop-i-init : goal.loop-i-init
loop-i-init g c = record { same = c.count-i-end.ensures.same; so_far = front-start _ _ _ }
