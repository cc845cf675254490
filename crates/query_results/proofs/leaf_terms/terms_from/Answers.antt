use Rattle.std.proofs.Common.{◌≡◌, ◌≢◌, ◌-◌, ℕ, List, [], ◌∷◌, suc, drop, true, false, sym, ap, ap₂, subst, ◌∙◌, arith, true≢false}
use Rattle.tree_read.specs.SearchPlaces.{IsAt, first_key, pairs_from}
use Rattle.image_format.specs.Postings.{list_form, postings_at}
use Rattle.image_format.specs.Values.{stored_value}
use Rattle.index_model.specs.Leaves.{run, stands_beyond}
use Rattle.query_eval.proofs.PartLemmas.{all_drop}
use Rattle.query_eval.specs.Parts.{AreIndexPairs, IsIndexPair, index_of_pairs}
use Rattle.query_results.specs.Dictionaries.{term_of, terms_of}
use Rattle.query_results.proofs.TakeLemmas.{first_term, no_term, none_left, one_taken}
use Rattle.query_results.proofs.leaf_terms.terms_from.Goals as goal

pub returns-then-is_beyond-clause-terms : goal.returns-then-is_beyond-clause-terms
returns-then-is_beyond-clause-terms g c =
    let records = g.F.Frozen.records in
    let m = records c.args.frozen.now in
    let type = c.args.value_type in
    let leaf = c.args.leaf.now in
    let before = c.loop-left.invariant in
    let ps = pairs_from m c.loop-left.cursor in
    let term = c.in_ok-term.ensures.term
    ∙ ap (λ (f : g.row.F.Denot). term_of (stored_value type (records f) c.key.result, postings_at (records f) (list_form c.value.result))) before.same in
    let on : stands_beyond leaf (stored_value type m (first_key ps)) ≡ true =
    ap (λ (k : ℕ). stands_beyond leaf (stored_value type m k)) (sym (c.key.ensures m before.at))
    ∙ ap (λ t. stands_beyond leaf t.value) (sym term) ∙ sym c.is_beyond.ensures ∙ c.if-is_beyond.true in
    none_left c.loop-left.terms (terms_of (run leaf (index_of_pairs type m ps))) _ c.loop-left.left (no_term type m leaf ps on) before.whole

pub loop-left-preserved : goal.loop-left-preserved
loop-left-preserved g c =
    let records = g.F.Frozen.records in
    let m = records c.args.frozen.now in
    let type = c.args.value_type in
    let leaf = c.args.leaf.now in
    let before = c.loop-left.invariant in
    let ps = pairs_from m c.loop-left.cursor in
    let same_term = c.term_at.ensures.same ∙ before.same in
    let some : ps ≢ [] = λ none. true≢false (sym ((c.at_end.ensures.pairs m before.at).1 none) ∙ c.if-at_end.false) in
    let rest = subst (λ (f : g.row.F.Denot). pairs_from (records f) c.next.new.self ≡ drop 1 (pairs_from (records f) c.loop-left.cursor)) same_term c.next.ensures.pairs in
    let left : c.loop-left.left ≡ suc (c.loop-left.left - 1) = omega (arith, c.loop-left-test.true) in
    let term = c.in_ok-term.ensures.term
    ∙ ap (λ (f : g.row.F.Denot). term_of (stored_value type (records f) c.key.result, postings_at (records f) (list_form c.value.result))) before.same in
    let off : stands_beyond leaf (stored_value type m (first_key ps)) ≡ false =
    ap (λ (k : ℕ). stands_beyond leaf (stored_value type m k)) (sym (c.key.ensures m before.at))
    ∙ ap (λ t. stands_beyond leaf t.value) (sym term) ∙ sym c.is_beyond.ensures ∙ c.if-is_beyond.false in
    let first = ap₂ (λ (k v : ℕ). term_of (stored_value type m k, postings_at m (list_form v))) (sym (c.key.ensures m before.at)) (sym (c.value.ensures m before.at)) ∙ sym term in
    record {
      same = c.next.ensures.same ∙ same_term;
      at = subst (λ (f : g.row.F.Denot). IsAt (records f) c.next.new.self) same_term c.next.ensures.at;
      pairs = subst (AreIndexPairs type m) (sym rest) (all_drop (IsIndexPair type m) ps before.pairs);
      whole = one_taken c.loop-left.terms c.push.new.self (terms_of (run leaf (index_of_pairs type m ps))) (terms_of (run leaf (index_of_pairs type m (pairs_from m c.next.new.self)))) _
          c.in_ok-term.term c.loop-left.left (c.loop-left.left - 1) left c.in_ok-push.ensures.ok
          (first_term type m leaf ps some off ∙ ap (λ t. t ∷ terms_of (run leaf (index_of_pairs type m (drop 1 ps)))) first
          ∙ ap (λ (qs : List (ℕ × ℕ)). c.in_ok-term.term ∷ terms_of (run leaf (index_of_pairs type m qs))) (sym rest))
          before.whole;
    }
