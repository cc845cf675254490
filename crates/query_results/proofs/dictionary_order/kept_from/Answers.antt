use Rattle.std.proofs.Common.{◌≡◌, ◌≢◌, ◌++◌, ℕ, List, [], drop, filter, sym, ap, subst, ◌∙◌, true≢false}
use Rattle.std.specs.Map.{keys_of}
use Rattle.tree_read.specs.SearchPlaces.{IsAt, first_value, pairs_from}
use Rattle.image_format.specs.Postings.{list_form, postings_at}
use Rattle.index_model.specs.Leaves.{listed}
use Rattle.index_model.specs.Sets.{in_words}
use Rattle.query_eval.proofs.PartLemmas.{all_drop}
use Rattle.query_eval.specs.Parts.{AreIndexPairs, IsIndexPair, index_of_pairs}
use Rattle.query_results.proofs.TakeLemmas.{first_kept, parts_joined}
use Rattle.query_results.proofs.dictionary_order.kept_from.Goals as goal

pub loop-cursor-preserved : goal.loop-cursor-preserved
loop-cursor-preserved g c =
    let records = g.F.Frozen.records in
    let m = records c.args.frozen.now in
    let type = c.args.value_type in
    let test = in_words c.args.set.now in
    let before = c.loop-cursor.invariant in
    let ps = pairs_from m c.loop-cursor.cursor in
    let same_list = c.documents_in.ensures.same ∙ before.same in
    let some : ps ≢ [] = λ none. true≢false (sym ((c.at_end.ensures.pairs m before.at).1 none) ∙ c.if-at_end.false) in
    let rest = subst (λ (f : g.row.F.Denot). pairs_from (records f) c.next.new.self ≡ drop 1 (pairs_from (records f) c.loop-cursor.cursor)) same_list c.next.ensures.pairs in
    let read : c.in_ok-list.list.items ≡ keys_of (postings_at m (list_form (first_value ps))) =
    c.in_ok-list.ensures.docs
    ∙ ap (λ (f : g.row.F.Denot). keys_of (postings_at (records f) (list_form c.value.result))) before.same
    ∙ ap (λ (v : ℕ). keys_of (postings_at m (list_form v))) (c.value.ensures m before.at) in
    record {
      same = c.next.ensures.same ∙ same_list;
      at = subst (λ (f : g.row.F.Denot). IsAt (records f) c.next.new.self) same_list c.next.ensures.at;
      pairs = subst (AreIndexPairs type m) (sym rest) (all_drop (IsIndexPair type m) ps before.pairs);
      whole = parts_joined c.loop-cursor.docs.items c.push_kept.new.kept.items (filter test (keys_of (postings_at m (list_form (first_value ps)))))
          (filter test (listed (index_of_pairs type m ps))) (filter test (listed (index_of_pairs type m (pairs_from m c.next.new.self)))) _
          (c.in_ok-push_kept.ensures ∙ ap (λ (ds : List ℕ). c.loop-cursor.docs.items ++ filter test ds) (c.as_slice.ensures.value ∙ read))
          (first_kept type m test ps some
          ∙ ap (λ (qs : List (ℕ × ℕ)). filter test (keys_of (postings_at m (list_form (first_value ps)))) ++ filter test (listed (index_of_pairs type m qs))) (sym rest))
          before.whole;
    }
