use Rattle.std.proofs.Common.{◌≡◌, ◌++◌, ℕ, List, drop, sym, ap, subst, ◌∙◌, arith}
use Rattle.std.proofs.lemmas.List.{append-nil}
use Rattle.image_format.specs.Postings.{vector_documents}
use Rattle.bit_vector.specs.Walks.{documents_from, IsVectorPlace}
use Rattle.bit_vector.proofs.DropLemmas.{not_end}
use Rattle.bit_vector.proofs.WalkLemmas.{fewer_documents, more_documents}
use Rattle.query_results.proofs.lists.with_vector.Goals as goal

pub loop-cursor-init : goal.loop-cursor-init
loop-cursor-init g c = record {
  same = c.first-cursor.ensures.same;
  place = c.first-cursor.ensures.place;
  whole = ap (λ (xs : List ℕ). c.args.docs.items ++ xs) c.first-cursor.ensures.documents;
}

pub next-requires : goal.next-requires
next-requires g c =
    let records = g.F.Frozen.records in
    let inv = c.loop-cursor.invariant in
    (omega arith, (subst (λ f. IsVectorPlace (records f) c.loop-cursor.cursor) (sym inv.same) inv.place, c.at_end.ensures.follows c.loop-cursor-test.true))

pub loop-cursor-smaller : goal.loop-cursor-smaller
loop-cursor-smaller g c =
    let records = g.F.Frozen.records in
    let m = records c.args.frozen.now in
    let inv = c.loop-cursor.invariant in
    let rest = documents_from m c.loop-cursor.cursor in
    let some = not_end rest c.at_end.result (c.at_end.ensures.documents m inv.place).1 c.loop-cursor-test.true in
    let behind = subst (λ f. documents_from (records f) c.next.new.self ≡ drop 1 (documents_from (records f) c.loop-cursor.cursor)) inv.same c.next.ensures.documents in
    fewer_documents rest (documents_from m c.next.new.self) some behind

pub loop-cursor-preserved : goal.loop-cursor-preserved
loop-cursor-preserved g c =
    let records = g.F.Frozen.records in
    let m = records c.args.frozen.now in
    let inv = c.loop-cursor.invariant in
    let rest = documents_from m c.loop-cursor.cursor in
    let some = not_end rest c.at_end.result (c.at_end.ensures.documents m inv.place).1 c.loop-cursor-test.true in
    let behind = subst (λ f. documents_from (records f) c.next.new.self ≡ drop 1 (documents_from (records f) c.loop-cursor.cursor)) inv.same c.next.ensures.documents in
    record {
      same = c.next.ensures.same ∙ inv.same;
      place = subst (λ f. IsVectorPlace (records f) c.next.new.self) inv.same c.next.ensures.place;
      whole = more_documents c.loop-cursor.all.items c.push.new.self.items rest (documents_from m c.next.new.self) (c.args.docs.items ++ vector_documents m c.args.root) c.doc.result some
          (c.doc.ensures m inv.place) behind c.in_ok-push.ensures.items inv.whole;
    }

pub returns-clause-docs : goal.returns-clause-docs
returns-clause-docs g c =
    let m = g.F.Frozen.records c.args.frozen.now in
    let inv = c.loop-cursor.invariant in
    let none = (c.at_end.ensures.documents m inv.place).0 c.loop-cursor-test.false in
    sym (append-nil c.loop-cursor.all.items) ∙ ap (λ (ds : List ℕ). c.loop-cursor.all.items ++ ds) (sym none) ∙ inv.whole
