use Rattle.std.proofs.Common.{◌≡◌, ◌≢◌, ◌++◌, ℕ, List, [], ◌∷◌, drop, filter, length, sym, ap, ap₂, subst, ◌∙◌, true≢false}
use Rattle.std.specs.Map.{keys_of}
use Rattle.tree_read.specs.SearchPlaces.{IsAt, first_key, first_value, pairs_from}
use Rattle.image_format.specs.Postings.{list_form, postings_at}
use Rattle.image_format.specs.Values.{stored_value, IsValueRecord}
use Rattle.bit_vector.proofs.DropLemmas.{first_all}
use Rattle.index_model.specs.Sets.{in_words}
use Rattle.query_eval.proofs.PartLemmas.{all_drop}
use Rattle.query_eval.specs.Parts.{AreIndexPairs, IsIndexPair, index_of_pairs}
use Rattle.query_results.specs.Dictionaries.{group_in, groups_in, some_documents}
use Rattle.query_results.proofs.TakeLemmas.{first_group, parts_joined}
use Rattle.query_results.proofs.dictionary_groups.groups_in_set.Goals as goal

pub push_group-requires : goal.push_group-requires
push_group-requires g c =
    let records = g.F.Frozen.records in
    let m = records c.args.frozen.now in
    let type = c.args.value_type in
    let before = c.loop-alloc.invariant in
    let ps = pairs_from m c.loop-alloc.cursor in
    let some : ps ≢ [] = λ none. true≢false (sym ((c.at_end.ensures.pairs m before.at).1 none) ∙ c.loop-alloc-test.true) in
    subst (λ (f : g.row.F.Denot). IsValueRecord type (records f c.key.result)) (sym (c.documents_in.ensures.same ∙ before.same))
    (subst (λ (k : ℕ). IsValueRecord type (m k)) (sym (c.key.ensures m before.at)) (first_all (IsIndexPair type m) ps some before.pairs).entry.0)

pub loop-alloc-preserved : goal.loop-alloc-preserved
loop-alloc-preserved g c =
    let records = g.F.Frozen.records in
    let m = records c.args.frozen.now in
    let type = c.args.value_type in
    let test = in_words c.args.set.now in
    let before = c.loop-alloc.invariant in
    let ps = pairs_from m c.loop-alloc.cursor in
    let same_list = c.documents_in.ensures.same ∙ before.same in
    let same_group = c.push_group.ensures.same ∙ same_list in
    let some : ps ≢ [] = λ none. true≢false (sym ((c.at_end.ensures.pairs m before.at).1 none) ∙ c.loop-alloc-test.true) in
    let rest = subst (λ (f : g.row.F.Denot). pairs_from (records f) c.next.new.self ≡ drop 1 (pairs_from (records f) c.loop-alloc.cursor)) same_group c.next.ensures.pairs in
    let listed : c.in_ok-docs.docs.items ≡ keys_of (postings_at m (list_form (first_value ps))) =
    c.in_ok-docs.ensures.docs
    ∙ ap (λ (f : g.row.F.Denot). keys_of (postings_at (records f) (list_form c.value.result))) before.same
    ∙ ap (λ (v : ℕ). keys_of (postings_at m (list_form v))) (c.value.ensures m before.at) in
    let count : c.count_in-count.result ≡ length (filter test (keys_of (postings_at m (list_form (first_value ps))))) =
    c.count_in-count.ensures ∙ ap (λ (ds : List ℕ). length (filter test ds)) (c.as_slice.ensures.value ∙ listed) in
    let value : stored_value type (records c.documents_in.new.frozen) c.key.result ≡ stored_value type m (first_key ps) =
    ap (λ (f : g.row.F.Denot). stored_value type (records f) c.key.result) same_list ∙ ap (stored_value type m) (c.key.ensures m before.at) in
    record {
      same = c.next.ensures.same ∙ same_group;
      at = subst (λ (f : g.row.F.Denot). IsAt (records f) c.next.new.self) same_group c.next.ensures.at;
      pairs = subst (AreIndexPairs type m) (sym rest) (all_drop (IsIndexPair type m) ps before.pairs);
      whole = parts_joined c.loop-alloc.groups c.push_group.new.groups
          (filter some_documents (group_in test (stored_value type m (first_key ps), postings_at m (list_form (first_value ps))) ∷ []))
          (groups_in test (index_of_pairs type m ps)) (groups_in test (index_of_pairs type m (pairs_from m c.next.new.self))) _
          (c.in_ok-push_group.ensures.group
          ∙ ap₂ (λ v (n : ℕ). c.loop-alloc.groups ++ filter some_documents (record { value = v; count = n } ∷ [])) value count)
          (first_group type m test ps some
          ∙ ap (λ (qs : List (ℕ × ℕ)). filter some_documents (group_in test (stored_value type m (first_key ps), postings_at m (list_form (first_value ps))) ∷ [])
          ++ groups_in test (index_of_pairs type m qs)) (sym rest))
          before.whole;
    }
