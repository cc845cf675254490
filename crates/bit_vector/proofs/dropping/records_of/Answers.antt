use Rattle.std.proofs.Common.{◌≡◌, ◌++◌, ℕ, List, length, map, drop, sym, ap, subst, ◌∙◌, arith}
use Rattle.std.proofs.lemmas.List.{append-nil}
use Rattle.std.specs.List.{AllByRecursion}
use Rattle.tree_read.specs.SearchPlaces.{IsAt, pairs_from}
use Rattle.tree_read.specs.Trees.{tree_pairs}
use Rattle.image_format.specs.Postings.{IsBlock}
use Rattle.bit_vector.proofs.DropLemmas.{blocks_few, blocks_small, fewer, first_all, not_end, rest_all, walked}
use Rattle.bit_vector.proofs.dropping.records_of.Goals as goal

pub loop-cursor-init : goal.loop-cursor-init
loop-cursor-init g c =
    let m = g.F.Frozen.records c.args.frozen.now in
    let is = c.requires.vector in
    let pairs = c.first-cursor.ensures.pairs in
    let few = blocks_few (tree_pairs m c.args.root) is.tree_is.ascends (blocks_small m (tree_pairs m c.args.root) is.blocks is.numbers) in
    let size = ap (λ (ps : List (ℕ × ℕ)). length ps) pairs in
    record {
      same = c.first-cursor.ensures.same;
      at = c.first-cursor.ensures.at;
      blocks = subst (AllByRecursion (λ (p : ℕ × ℕ). IsBlock p.0 (m p.1))) (sym pairs) is.blocks;
      done = ap (λ (xs : List ℕ). xs ++ map (λ p. p.1) (pairs_from m c.first-cursor.result)) c.new-records.ensures ∙ ap (map (λ (p : ℕ × ℕ). p.1)) pairs;
      few = let none = ap (λ (xs : List ℕ). length xs) c.new-records.ensures in omega (arith, few, size, none);
    }

pub overflow_cast-value : goal.overflow_cast-value
overflow_cast-value g c =
    let m = g.F.Frozen.records c.args.frozen.now in
    let inv = c.loop-cursor.invariant in
    let ps = pairs_from m c.loop-cursor.cursor in
    let some = not_end ps c.at_end.result (c.at_end.ensures.pairs m inv.at).1 c.loop-cursor-test.true in
    let block = first_all (λ p. IsBlock p.0 (m p.1)) ps some inv.blocks in
    let size = ap (λ (r : ℕ). length (m r)) (c.value.ensures m inv.at) ∙ block.size in
    let below = g.met.F.Frozen.references c.args.frozen.now c.value.result (omega (arith, size)) in
    omega arith

pub loop-cursor-preserved : goal.loop-cursor-preserved
loop-cursor-preserved g c =
    let records = g.F.Frozen.records in
    let m = records c.args.frozen.now in
    let inv = c.loop-cursor.invariant in
    let at = c.loop-cursor.cursor in
    let ps = pairs_from m at in
    let some = not_end ps c.at_end.result (c.at_end.ensures.pairs m inv.at).1 c.loop-cursor-test.true in
    let behind : pairs_from m c.next.new.self ≡ drop 1 ps = subst (λ f. pairs_from (records f) c.next.new.self ≡ drop 1 (pairs_from (records f) at)) inv.same c.next.ensures.pairs in
    let value_is = c.value.ensures m inv.at in
    record {
      same = c.next.ensures.same ∙ inv.same;
      at = subst (λ f. IsAt (records f) c.next.new.self) inv.same c.next.ensures.at;
      blocks = subst (AllByRecursion (λ (p : ℕ × ℕ). IsBlock p.0 (m p.1))) (sym behind) (rest_all (λ p. IsBlock p.0 (m p.1)) ps inv.blocks);
      done = walked c.loop-cursor.records.items c.push.new.self.items ps (pairs_from m c.next.new.self) (map (λ p. p.1) (tree_pairs m c.args.root)) c.value.result some value_is behind
          c.push.ensures.items inv.done;
      few = fewer c.loop-cursor.records.items c.push.new.self.items c.value.result ps (pairs_from m c.next.new.self) some behind c.push.ensures.items inv.few;
    }

pub returns-clause-records : goal.returns-clause-records
returns-clause-records g c =
    let m = g.F.Frozen.records c.args.frozen.now in
    let inv = c.loop-cursor.invariant in
    let none = (c.at_end.ensures.pairs m inv.at).0 c.loop-cursor-test.false in
    sym (append-nil c.loop-cursor.records.items)
    ∙ ap (λ (ps : List (ℕ × ℕ)). c.loop-cursor.records.items ++ map (λ p. p.1) ps) (sym none)
    ∙ inv.done
