use Rattle.std.proofs.Common.{rules, ◌≡◌, ◌≢◌, ◌+◌, ℕ, List, [], length, drop, sym, ap, subst, ◌∙◌, arith, true≢false, length-append}
use Rattle.std.specs.List.{AllByRecursion}
use Rattle.tree_read.specs.SearchPlaces.{IsAt, pairs_from}
use Rattle.attr_saver.specs.Stored.{IsStoredPair}
use Rattle.attr_saver.proofs.StoredLemmas.{next_pairs, next_text, one_less, pairs_over, pairs_split, pairs_text}
use Rattle.attr_saver.proofs.stored_documents.documents_size.Goals as goal

pub next_size-size-requires : goal.next_size-size-requires
next_size-size-requires g c =
    let records = g.F.Frozen.records in
    let m = records c.args.frozen.now in
    let before = c.loop-kind.invariant in
    let back = sym before.same in
    let some : pairs_from m c.loop-kind.cursor ≢ [] = λ none. true≢false (sym ((c.at_end.ensures.pairs m before.at).1 none) ∙ c.loop-kind-test.true) in (
      omega arith,
      (
        subst (λ (f : g.row.F.Denot). IsAt (records f) c.loop-kind.cursor) back before.at,
        (
          search rules,
          (
            subst (λ (f : g.row.F.Denot). pairs_from (records f) c.loop-kind.cursor ≢ []) back some,
            subst (λ (f : g.row.F.Denot). AllByRecursion (IsStoredPair c.args.kind c.args.value_type (records f)) (pairs_from (records f) c.loop-kind.cursor)) back before.stored,
          ),
        ),
      ),
    )

pub loop-kind-preserved : goal.loop-kind-preserved
loop-kind-preserved g c =
    let kind = c.args.kind in
    let type = c.args.value_type in
    let m = g.F.Frozen.records c.args.frozen.now in
    let before = c.loop-kind.invariant in
    let ps = pairs_from m c.loop-kind.cursor in
    let moved = c.next_size-size.ensures.same ∙ before.same in
    let some : ps ≢ [] = λ none. true≢false (sym ((c.at_end.ensures.pairs m before.at).1 none) ∙ c.loop-kind-test.true) in
    let size : c.next_size-size.result ≡ length (next_text kind type m ps) =
    c.next_size-size.ensures.size ∙ ap (λ (f : g.row.F.Denot). length (next_text kind type (g.F.Frozen.records f) (pairs_from (g.F.Frozen.records f) c.loop-kind.cursor))) before.same in
    let rest = subst (λ (f : g.row.F.Denot). pairs_from (g.F.Frozen.records f) c.next.new.self ≡ drop 1 (pairs_from (g.F.Frozen.records f) c.loop-kind.cursor)) moved c.next.ensures.pairs in
    let sizes : length (pairs_text kind type m ps) ≡ length (next_text kind type m ps) + length (pairs_text kind type m (drop 1 ps)) =
    ap (λ (xs : List ℕ). length xs) (pairs_split kind type m ps some) ∙ length-append (next_text kind type m ps) (pairs_text kind type m (drop 1 ps)) in
    let left : length (pairs_text kind type m (pairs_from m c.next.new.self)) ≡ length (pairs_text kind type m (drop 1 ps)) = ap (λ qs. length (pairs_text kind type m qs)) rest in
    let count = ap (λ qs. length qs) rest in
    let so_far = before.so_far in
    let small = before.small in
    let least = c.next_size-size.ensures.small in
    let less = one_less ps some in
    record {
      same = c.next.ensures.same ∙ moved;
      at = subst (λ (f : g.row.F.Denot). IsAt (g.F.Frozen.records f) c.next.new.self) moved c.next.ensures.at;
      stored = subst (AllByRecursion (IsStoredPair kind type m)) (sym rest) (next_pairs kind type m ps before.stored);
      so_far = omega (arith, so_far, sizes, size, left);
      small = omega (arith, small, least, less, count);
    }

pub returns-clause-size : goal.returns-clause-size
returns-clause-size g c =
    let m = g.F.Frozen.records c.args.frozen.now in
    let before = c.loop-kind.invariant in
    let ps = pairs_from m c.loop-kind.cursor in
    let none = ap (λ (xs : List ℕ). length xs) (pairs_over c.args.kind c.args.value_type m ps ((c.at_end.ensures.pairs m before.at).0 c.loop-kind-test.false)) in
    let so_far = before.so_far in
    omega (arith, so_far, none)

pub returns-clause-small : goal.returns-clause-small
returns-clause-small g c =
    let small = c.loop-kind.invariant.small in
    let few = c.requires.few in
    omega (arith, small, few)

pub loop-kind-init : goal.loop-kind-init
loop-kind-init g c =
    let kind = c.args.kind in
    let type = c.args.value_type in
    let m = g.F.Frozen.records c.args.frozen.now in
    let pairs = c.first-cursor.ensures.pairs in
    let all = ap (λ qs. length (pairs_text kind type m qs)) pairs in
    let count = ap (λ qs. length qs) pairs in
    record {
      same = c.first-cursor.ensures.same;
      at = c.first-cursor.ensures.at;
      stored = subst (AllByRecursion (IsStoredPair kind type m)) (sym pairs) c.requires.each;
      so_far = omega (arith, all);
      small = omega (arith, count);
    }
