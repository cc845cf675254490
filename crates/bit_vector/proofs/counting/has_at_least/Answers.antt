use Rattle.std.proofs.Common.{◌≡◌, ℕ, List, length, drop, nat_le, refl, sym, ap, subst, ◌∙◌, arith}
use Rattle.std.proofs.lemmas.Bool.{le-leb}
use Rattle.std.specs.List.{AllByRecursion}
use Rattle.tree_read.specs.SearchPlaces.{IsAt, pairs_from}
use Rattle.image_format.specs.Postings.{block_documents, vector_documents, IsBlock}
use Rattle.bit_vector.specs.Vectors.{blocks_documents}
use Rattle.bit_vector.proofs.DropLemmas.{count_few, first_all, first_count, not_end, rest_all}
use Rattle.bit_vector.proofs.VectorLemmas.{vector_ascends}
use Rattle.bit_vector.proofs.counting.has_at_least.Goals as goal

pub loop-cursor-init : goal.loop-cursor-init
loop-cursor-init g c =
    let m = g.F.Frozen.records c.args.frozen.now in
    let e = ap (λ (ps : List (ℕ × ℕ)). length (blocks_documents m ps)) c.first-cursor.ensures.pairs in
    record {
      same = c.first-cursor.ensures.same;
      at = c.first-cursor.ensures.at;
      blocks = subst (AllByRecursion (λ (p : ℕ × ℕ). IsBlock p.0 (m p.1))) (sym c.first-cursor.ensures.pairs) c.requires.vector.blocks;
      whole = omega (arith, e);
    }

pub overflow_cast-value : goal.overflow_cast-value
overflow_cast-value g c =
    let m = g.F.Frozen.records c.args.frozen.now in
    let inv = c.loop-cursor.invariant in
    let ps = pairs_from m c.loop-cursor.cursor in
    let some = not_end ps c.at_end.result (c.at_end.ensures.pairs m inv.at).1 c.loop-cursor-test.true in
    let block = first_all (λ p. IsBlock p.0 (m p.1)) ps some inv.blocks in
    let value_is = c.value.ensures m inv.at in
    let size = ap (λ (r : ℕ). length (m r)) value_is ∙ block.size in
    let below = g.met.F.Frozen.references c.args.frozen.now c.value.result (omega (arith, size)) in
    omega arith

pub count_block-count-requires : goal.count_block-count-requires
count_block-count-requires g c =
    let m = g.F.Frozen.records c.args.frozen.now in
    let inv = c.loop-cursor.invariant in
    let ps = pairs_from m c.loop-cursor.cursor in
    let some = not_end ps c.at_end.result (c.at_end.ensures.pairs m inv.at).1 c.loop-cursor-test.true in
    let block = first_all (λ p. IsBlock p.0 (m p.1)) ps some inv.blocks in
    (omega arith, ap (λ (f : g.row.F.Denot). length (g.F.Frozen.records f c.from_raw.result)) inv.same ∙ ap (λ (r : ℕ). length (m r)) (c.from_raw.ensures ∙ c.value.ensures m inv.at) ∙ block.size)

pub loop-cursor-preserved : goal.loop-cursor-preserved
loop-cursor-preserved g c =
    let records = g.F.Frozen.records in
    let m = records c.args.frozen.now in
    let inv = c.loop-cursor.invariant in
    let at = c.loop-cursor.cursor in
    let ps = pairs_from m at in
    let some = not_end ps c.at_end.result (c.at_end.ensures.pairs m inv.at).1 c.loop-cursor-test.true in
    let then_next = c.count_block-count.ensures.same ∙ inv.same in
    let behind : pairs_from m c.next.new.self ≡ drop 1 ps = subst (λ f. pairs_from (records f) c.next.new.self ≡ drop 1 (pairs_from (records f) at)) then_next c.next.ensures.pairs in
    let value_is = c.from_raw.ensures ∙ c.value.ensures m inv.at in
    let size : (k : ℕ) → c.count_block-count.result ≡ length (block_documents k (m c.from_raw.result)) =
    subst (λ (f : g.row.F.Denot). (k : ℕ) → c.count_block-count.result ≡ length (block_documents k (records f c.from_raw.result))) inv.same c.count_block-count.ensures.count in
    record {
      same = c.next.ensures.same ∙ then_next;
      at = subst (λ f. IsAt (records f) c.next.new.self) then_next c.next.ensures.at;
      blocks = subst (AllByRecursion (λ (p : ℕ × ℕ). IsBlock p.0 (m p.1))) (sym behind) (rest_all (λ p. IsBlock p.0 (m p.1)) ps inv.blocks);
      whole = first_count m ps (pairs_from m c.next.new.self) c.loop-cursor.count (length (vector_documents m c.args.root)) c.from_raw.result c.count_block-count.result some behind value_is size inv.whole;
    }

pub overflow_add-count : goal.overflow_add-count
overflow_add-count g c =
    let records = g.F.Frozen.records in
    let m = records c.args.frozen.now in
    let inv = c.loop-cursor.invariant in
    let ps = pairs_from m c.loop-cursor.cursor in
    let some = not_end ps c.at_end.result (c.at_end.ensures.pairs m inv.at).1 c.loop-cursor-test.true in
    let value_is = c.from_raw.ensures ∙ c.value.ensures m inv.at in
    let size : (k : ℕ) → c.count_block-count.result ≡ length (block_documents k (m c.from_raw.result)) =
    subst (λ (f : g.row.F.Denot). (k : ℕ) → c.count_block-count.result ≡ length (block_documents k (records f c.from_raw.result))) inv.same c.count_block-count.ensures.count in
    let whole = first_count m ps (drop 1 ps) c.loop-cursor.count (length (vector_documents m c.args.root)) c.from_raw.result c.count_block-count.result some refl value_is size inv.whole in
    let few = count_few (vector_documents m c.args.root) (vector_ascends m c.args.root c.requires.vector) c.requires.vector.numbers in
    omega (arith, whole, few)

pub returns-then-count-least-clause-least : goal.returns-then-count-least-clause-least
returns-then-count-least-clause-least g c =
    let m = g.F.Frozen.records c.args.frozen.now in
    let whole = c.loop-cursor.invariant.whole in
    let enough = c.if-count-least.true in
    sym (le-leb c.args.least (length (vector_documents m c.args.root)) (omega (arith, whole, enough)))

pub returns-clause-least : goal.returns-clause-least
returns-clause-least g c =
    let m = g.F.Frozen.records c.args.frozen.now in
    let inv = c.loop-cursor.invariant in
    let none = ap (λ (ps : List (ℕ × ℕ)). length (blocks_documents m ps)) ((c.at_end.ensures.pairs m inv.at).0 c.loop-cursor-test.false) in
    let whole = inv.whole in
    ap (nat_le c.args.least) (let e : c.loop-cursor.count ≡ length (vector_documents m c.args.root) = omega (arith, none, whole) in e)
