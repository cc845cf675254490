use Rattle.std.proofs.Common.{◌≡◌, ℕ, List, length, drop, ap, subst, sym, ◌∙◌, arith}
use Rattle.image_format.specs.Postings.{vector_documents}
use Rattle.bit_vector.specs.Walks.{documents_from, IsVectorPlace}
use Rattle.bit_vector.proofs.DropLemmas.{count_few, not_end}
use Rattle.bit_vector.proofs.VectorLemmas.{vector_ascends}
use Rattle.bit_vector.proofs.WalkLemmas.{fewer_documents}
use Rattle.query_results.proofs.TakeLemmas.{one_fewer}
use Rattle.query_results.proofs.lists.count_in_vector.Goals as goal

pub loop-cursor-init : goal.loop-cursor-init
loop-cursor-init g c =
    let documents = ap (λ (ds : List ℕ). length ds) c.first-cursor.ensures.documents in
    record {
      same = c.first-cursor.ensures.same;
      place = c.first-cursor.ensures.place;
      whole = omega (arith, documents);
    }

pub next-requires : goal.next-requires
next-requires g c =
    let records = g.F.Frozen.records in
    let inv = c.loop-cursor.invariant in
    (omega arith, (subst (λ f. IsVectorPlace (records f) c.loop-cursor.cursor) (sym inv.same) inv.place, c.at_end.ensures.follows c.loop-cursor-test.true))

pub loop-cursor-smaller : goal.loop-cursor-smaller
loop-cursor-smaller g c =
    let records = g.F.Frozen.records in
    let m = records c.args.frozen.now in
    let inv = c.loop-cursor.invariant in
    let rest = documents_from m c.loop-cursor.cursor in
    let some = not_end rest c.at_end.result (c.at_end.ensures.documents m inv.place).1 c.loop-cursor-test.true in
    let behind = subst (λ f. documents_from (records f) c.next.new.self ≡ drop 1 (documents_from (records f) c.loop-cursor.cursor)) inv.same c.next.ensures.documents in
    fewer_documents rest (documents_from m c.next.new.self) some behind

pub loop-cursor-preserved : goal.loop-cursor-preserved
loop-cursor-preserved g c =
    let records = g.F.Frozen.records in
    let m = records c.args.frozen.now in
    let inv = c.loop-cursor.invariant in
    let rest = documents_from m c.loop-cursor.cursor in
    let some = not_end rest c.at_end.result (c.at_end.ensures.documents m inv.place).1 c.loop-cursor-test.true in
    let behind = subst (λ f. documents_from (records f) c.next.new.self ≡ drop 1 (documents_from (records f) c.loop-cursor.cursor)) inv.same c.next.ensures.documents in
    let fewer = one_fewer rest (documents_from m c.next.new.self) some behind in
    record {
      same = c.next.ensures.same ∙ inv.same;
      place = subst (λ f. IsVectorPlace (records f) c.next.new.self) inv.same c.next.ensures.place;
      whole = let whole = inv.whole in omega (arith, whole, fewer);
    }

pub overflow_add-count : goal.overflow_add-count
overflow_add-count g c =
    let m = g.F.Frozen.records c.args.frozen.now in
    let whole = c.loop-cursor.invariant.whole in
    let few = count_few (vector_documents m c.args.root) (vector_ascends m c.args.root c.requires) c.requires.numbers in
    omega (arith, whole, few)

pub returns-clause-count : goal.returns-clause-count
returns-clause-count g c =
    let m = g.F.Frozen.records c.args.frozen.now in
    let inv = c.loop-cursor.invariant in
    let none = ap (λ (ds : List ℕ). length ds) ((c.at_end.ensures.documents m inv.place).0 c.loop-cursor-test.false) in
    let whole = inv.whole in
    omega (arith, none, whole)
