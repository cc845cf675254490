use Rattle.std.proofs.Common.{rules, ◌≡◌, ◌≢◌, [], drop, sym, subst, ◌∙◌, arith, true≢false}
use Rattle.std.specs.List.{AllByRecursion}
use Rattle.std.proofs.lemmas.Result.{err_from_is_err_and}
use Rattle.tree_read.specs.SearchPlaces.{IsAt, pairs_from}
use Rattle.tree_read.specs.Trees.{tree_pairs}
use Rattle.attr_saver.specs.Stored.{IsStoredPair}
use Rattle.attr_saver.proofs.StoredLemmas.{next_pairs, pairs_over, pairs_split, pairs_text}
use Rattle.attr_saver.proofs.WriteLemmas.{front-on, front-cut, front-end, front-start, IsFront}
use Rattle.attr_saver.proofs.stored_documents.write_documents.Goals as goal

pub write_next-requires : goal.write_next-requires
write_next-requires g c =
    let records = g.F.Frozen.records in
    let m = records c.args.frozen.now in
    let before = c.loop-kind.invariant in
    let back = sym before.same in
    let some : pairs_from m c.loop-kind.cursor ≢ [] = λ none. true≢false (sym ((c.at_end.ensures.pairs m before.at).1 none) ∙ c.loop-kind-test.true) in (
      omega arith,
      (
        subst (λ (f : g.row.F.Denot). IsAt (records f) c.loop-kind.cursor) back before.at,
        (
          search rules,
          (
            subst (λ (f : g.row.F.Denot). pairs_from (records f) c.loop-kind.cursor ≢ []) back some,
            subst (λ (f : g.row.F.Denot). AllByRecursion (IsStoredPair c.args.kind c.args.value_type (records f)) (pairs_from (records f) c.loop-kind.cursor)) back before.stored,
          ),
        ),
      ),
    )

pub returns-in_err-write_next-clause-writes : goal.returns-in_err-write_next-clause-writes
returns-in_err-write_next-clause-writes g c =
    let m = g.F.Frozen.records c.args.frozen.now in
    let before = c.loop-kind.invariant in
    let ps = pairs_from m c.loop-kind.cursor in
    let some : ps ≢ [] = λ none. true≢false (sym ((c.at_end.ensures.pairs m before.at).1 none) ∙ c.loop-kind-test.true) in
    let next = rw before.same at c.in_err-write_next.ensures.writes in
    let p = err_from_is_err_and c.from_residual.result c.from_residual.ensures.1 in
    rw (p.1, p.2) (front-cut _ _ _ _ _ _ before.so_far _ _ _ _ c.in_err-write_next.field-0.0 (pairs_split c.args.kind c.args.value_type m ps some) next)

pub loop-kind-preserved : goal.loop-kind-preserved
loop-kind-preserved g c =
    let kind = c.args.kind in
    let type = c.args.value_type in
    let m = g.F.Frozen.records c.args.frozen.now in
    let before = c.loop-kind.invariant in
    let ps = pairs_from m c.loop-kind.cursor in
    let moved = c.write_next.ensures.same ∙ before.same in
    let some : ps ≢ [] = λ none. true≢false (sym ((c.at_end.ensures.pairs m before.at).1 none) ∙ c.loop-kind-test.true) in
    let next = rw before.same at c.in_ok-write_next.ensures.writes in
    let rest = subst (λ (f : g.row.F.Denot). pairs_from (g.F.Frozen.records f) c.next.new.self ≡ drop 1 (pairs_from (g.F.Frozen.records f) c.loop-kind.cursor)) moved c.next.ensures.pairs in
    let on = front-on _ _ _ _ _ _ before.so_far (g.K.Sink.taken c.write_next.new.sink) (g.K.Sink.faults c.write_next.new.sink) _ (pairs_text kind type m (drop 1 ps)) c.in_ok-write_next.field-0
    (pairs_split kind type m ps some) next in
    record {
      same = c.next.ensures.same ∙ moved;
      at = subst (λ (f : g.row.F.Denot). IsAt (g.F.Frozen.records f) c.next.new.self) moved c.next.ensures.at;
      stored = subst (AllByRecursion (IsStoredPair kind type m)) (sym rest) (next_pairs kind type m ps before.stored);
      so_far = subst (λ qs. IsFront (g.K.Sink.taken c.args.sink.now) (g.K.Sink.taken c.write_next.new.sink) (g.K.Sink.faults c.args.sink.now) (g.K.Sink.faults c.write_next.new.sink)
          (pairs_text kind type m qs) (pairs_text kind type m (tree_pairs m c.args.tree))) (sym rest) on;
    }

pub returns-clause-writes : goal.returns-clause-writes
returns-clause-writes g c =
    let m = g.F.Frozen.records c.args.frozen.now in
    let before = c.loop-kind.invariant in
    let ps = pairs_from m c.loop-kind.cursor in
    front-end _ _ _ _ _ _ before.so_far _ (pairs_over c.args.kind c.args.value_type m ps ((c.at_end.ensures.pairs m before.at).0 c.loop-kind-test.false))

pub loop-kind-init : goal.loop-kind-init
loop-kind-init g c =
    let kind = c.args.kind in
    let type = c.args.value_type in
    let m = g.F.Frozen.records c.args.frozen.now in
    let pairs = c.first-cursor.ensures.pairs in
    record {
      same = c.first-cursor.ensures.same;
      at = c.first-cursor.ensures.at;
      stored = subst (AllByRecursion (IsStoredPair kind type m)) (sym pairs) c.requires.each;
      so_far = subst (λ qs. IsFront (g.K.Sink.taken c.args.sink.now) (g.K.Sink.taken c.args.sink.now) (g.K.Sink.faults c.args.sink.now) (g.K.Sink.faults c.args.sink.now)
          (pairs_text kind type m qs) (pairs_text kind type m (tree_pairs m c.args.tree))) (sym pairs) (front-start _ _ _);
    }
