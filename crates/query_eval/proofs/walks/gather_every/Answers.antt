use Rattle.std.proofs.Common.{◌≡◌, ◌≢◌, ◌||◌, ℕ, [], drop, sym, ap, subst, ◌∙◌, true≢false}
use Rattle.std.specs.Map.{keys_of}
use Rattle.tree_read.specs.Trees.{tree_pairs}
use Rattle.tree_read.specs.SearchPlaces.{IsAt, pairs_from}
use Rattle.image_format.specs.Postings.{list_form, postings_at}
use Rattle.index_model.specs.Gathers.{is_gathered}
use Rattle.index_model.specs.Sets.{has}
use Rattle.index_model.specs.Leaves.{listed}
use Rattle.query_eval.specs.Parts.{IsIndexPair, AreIndexPairs, index_of_pairs}
use Rattle.query_eval.proofs.PartLemmas.{all_drop, all_goes}
use Rattle.query_eval.proofs.walks.gather_every.Goals as goal

pub loop-alloc-preserved : goal.loop-alloc-preserved
loop-alloc-preserved g c =
    let type = c.args.value_type in
    let m = g.F.Frozen.records c.args.frozen.now in
    let ps = pairs_from m c.loop-alloc.cursor in
    let before = c.loop-alloc.invariant in
    let same_list = c.gather_list.ensures.same ∙ before.same in
    let some : ps ≢ [] = λ none. true≢false (sym ((c.at_end.ensures.pairs m before.at).1 none) ∙ c.loop-alloc-test.true) in
    let more : (doc : ℕ) → is_gathered c.in_ok-all.all doc ≡ (is_gathered c.loop-alloc.all doc || has (keys_of (postings_at m (list_form c.value.result))) doc) =
    subst (λ (f : g.row.F.Denot). (doc : ℕ) → is_gathered c.in_ok-all.all doc
    ≡ (is_gathered c.loop-alloc.all doc || has (keys_of (postings_at (g.F.Frozen.records f) (list_form c.value.result))) doc)) before.same c.in_ok-all.ensures.docs in
    let rest = subst (λ (f : g.row.F.Denot). pairs_from (g.F.Frozen.records f) c.next.new.self ≡ drop 1 (pairs_from (g.F.Frozen.records f) c.loop-alloc.cursor)) same_list c.next.ensures.pairs in
    record {
      same = c.next.ensures.same ∙ same_list;
      at = subst (λ (f : g.row.F.Denot). IsAt (g.F.Frozen.records f) c.next.new.self) same_list c.next.ensures.at;
      pairs = subst (AreIndexPairs type m) (sym rest) (all_drop (IsIndexPair type m) ps before.pairs);
      whole = λ doc. ap (λ qs. is_gathered c.in_ok-all.all doc || has (listed (index_of_pairs type m qs)) doc) rest
          ∙ all_goes type m ps some c.value.result (c.value.ensures m before.at) (λ d. is_gathered c.loop-alloc.all d) (λ d. is_gathered c.in_ok-all.all d)
          (λ d. is_gathered c.args.gathered d || has (listed (index_of_pairs type m (tree_pairs m c.args.root))) d) more before.whole doc;
    }
