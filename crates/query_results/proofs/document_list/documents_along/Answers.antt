use Rattle.std.proofs.Common.{◌≡◌, ◌≢◌, ◌-◌, ℕ, List, [], ◌∷◌, suc, drop, sym, ap, subst, ◌∙◌, arith, true≢false}
use Rattle.std.specs.List.{AllByRecursion}
use Rattle.std.specs.Map.{keys_of}
use Rattle.tree_read.specs.SearchPlaces.{IsAt, pairs_from}
use Rattle.doc_vector.specs.Documents.{IsDocumentPair}
use Rattle.query_eval.proofs.PartLemmas.{all_drop}
use Rattle.query_results.proofs.TakeLemmas.{first_document, one_taken}
use Rattle.query_results.proofs.document_list.documents_along.Goals as goal

pub loop-left-preserved : goal.loop-left-preserved
loop-left-preserved g c =
    let records = g.F.Frozen.records in
    let m = records c.args.frozen.now in
    let before = c.loop-left.invariant in
    let ps = pairs_from m c.loop-left.cursor in
    let some : ps ≢ [] = λ none. true≢false (sym ((c.at_end.ensures.pairs m before.at).1 none) ∙ c.if-at_end.false) in
    let rest = subst (λ (f : g.row.F.Denot). pairs_from (records f) c.next.new.self ≡ drop 1 (pairs_from (records f) c.loop-left.cursor)) before.same c.next.ensures.pairs in
    let left : c.loop-left.left ≡ suc (c.loop-left.left - 1) = omega (arith, c.loop-left-test.true) in
    record {
      same = c.next.ensures.same ∙ before.same;
      at = subst (λ (f : g.row.F.Denot). IsAt (records f) c.next.new.self) before.same c.next.ensures.at;
      pairs = subst (AllByRecursion IsDocumentPair) (sym rest) (all_drop IsDocumentPair ps before.pairs);
      whole = one_taken c.loop-left.docs c.push.new.self (keys_of ps) (keys_of (pairs_from m c.next.new.self)) _ c.new.result c.loop-left.left (c.loop-left.left - 1) left
          c.in_ok-push.ensures.ok
          (first_document ps some ∙ ap (λ (k : ℕ). k ∷ keys_of (drop 1 ps)) (sym (c.new.ensures ∙ c.key.ensures m before.at))
          ∙ ap (λ (qs : List (ℕ × ℕ)). c.new.result ∷ keys_of qs) (sym rest))
          before.whole;
    }
