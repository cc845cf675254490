use Rattle.std.proofs.Common.{◌≡◌, ◌<◌, ◌||◌, ◌&&◌, ℕ, Bool, List, Option, length, drop, get_or, arith, ap, ◌∙◌, subst}
use Rattle.std.proofs.lemmas.Result.{IfOk-weaker}
use Rattle.std.specs.Prelude.{slice_get, IfSome, Vec}
use Rattle.std.specs.declared.alloc.Global.{Global}
use Rattle.attr_types.specs.Query.{tree_of, query_trees}
use Rattle.attr_types.specs.declared.query.Query.{Query}
use Rattle.index_model.specs.Gathers.{is_gathered}
use Rattle.index_model.specs.Sets.{has, Holds}
use Rattle.index_model.specs.Found.{found, found_all, is_listed}
use Rattle.query_eval.specs.Indexes.{AreMatched, IsMatched, indexes_in}
use Rattle.query_eval.specs.Lists.{some_has, AreListsOf}
use Rattle.query_eval.proofs.JoinLemmas.{members_some}
use Rattle.query_eval.proofs.QueryLemmas.{common_of, none_found, one_more, kept_known, query_there, all_members, none_left}
use Rattle.query_eval.proofs.queries.+gathering.Goals as goal

pub kept-returns-then-i-known-clause-docs : goal.kept-returns-then-i-known-clause-docs
kept-returns-then-i-known-clause-docs g t c = λ known doc. kept_known _ _ (known c.if-i-known.true doc)

pub kept-returns-clause-docs : goal.kept-returns-clause-docs
kept-returns-clause-docs g t c =
    let indexes = indexes_in g.row.OFFSET_BITS (g.F.Frozen.records c.args.frozen.now) c.args.dictionaries.now in
    IfOk-weaker c.kept_of.result _ _
    (λ list is. λ known doc. is doc
    ∙ ap (λ (b : Bool). has c.args.docs doc && b)
    (c.in_ok-own-in_default.ensures.docs doc ∙ ap (λ (b : Bool). b || found (tree_of c.args.query.now) indexes doc) (c.new.ensures doc)))
    c.kept_of.ensures

pub gather_common-returns-in_ok-common-in-Some-clause-docs : goal.gather_common-returns-in_ok-common-in-Some-clause-docs
gather_common-returns-in_ok-common-in-Some-clause-docs g t c =
    let bits = g.row.OFFSET_BITS in
    let ds = c.args.dictionaries.now in
    let indexes = indexes_in bits (g.F.Frozen.records c.args.frozen.now) ds in
    let queries = c.args.queries.now.items in
    let first = c.shortest_of-first.result in
    let query = c.in-Some.query.now in
    let docs = c.in_ok-docs-in-Some.docs in
    let common = c.in_ok-common-in-Some.common in
    let at = query_there c.as_slice-2.result.now queries first query c.as_slice-2.ensures.value c.in-Some.ensures.lookup.3.0 c.in-Some.ensures.lookup.1 in
    let holds = subst (λ (f : g.row.F.Denot). Holds docs (found (tree_of query) (indexes_in bits (g.F.Frozen.records f) ds))) c.shortest_of-first.ensures.same c.in_ok-docs-in-Some.ensures.docs in
    let are = subst (λ (f : g.row.F.Denot).
    AreMatched docs (slice_get queries first) (indexes_in bits (g.F.Frozen.records f) ds) → (doc : ℕ)
    → has common doc ≡ (has docs doc && found_all (query_trees queries) (indexes_in bits (g.F.Frozen.records f) ds) doc))
    (c.matching.ensures.same ∙ c.shortest_of-first.ensures.same) c.in_ok-common-in-Some.ensures.docs in
    IfOk-weaker c.with_docs.result _ _
    (λ all is. λ doc. is doc
    ∙ ap (λ (b : Bool). is_gathered c.args.gathered doc || b)
    (ap (λ (xs : List ℕ). has xs doc) c.as_slice-in-Some.ensures ∙ common_of indexes queries first query common docs at holds are doc))
    c.with_docs.ensures

pub gather_common-returns-in-None-clause-docs : goal.gather_common-returns-in-None-clause-docs
gather_common-returns-in-None-clause-docs g t c =
    let bits = g.row.OFFSET_BITS in
    let ds = c.args.dictionaries.now in
    let indexes = indexes_in bits (g.F.Frozen.records c.args.frozen.now) ds in
    let queries = c.args.queries.now.items in
    let first = c.shortest_of-first.result in
    let within = subst (λ (qs : List Query). 0 < length qs → first < length qs) c.as_slice.ensures.value c.shortest_of-first.ensures.within in
    let past = c.in-None.ensures.lookup.3 in
    let same = ap length c.as_slice-2.ensures.value in
    IfOk-weaker c.gather_listed.result _ _
    (λ all is. λ doc. is doc
    ∙ ap (λ (b : Bool). is_gathered c.args.gathered doc || b)
    (ap (λ (f : g.row.F.Denot). is_listed (indexes_in bits (g.F.Frozen.records f) ds) doc) c.shortest_of-first.ensures.same
    ∙ none_found indexes doc queries first within (omega (arith, same, past))))
    c.gather_listed.ensures.docs

pub gather_some-returns-in-Some-clause-docs : goal.gather_some-returns-in-Some-clause-docs
gather_some-returns-in-Some-clause-docs g t c =
    let m = g.F.Frozen.records c.args.frozen.now in
    let queries = c.args.queries.now.items in
    let indexes = indexes_in g.row.OFFSET_BITS m c.args.dictionaries.now in
    let lists = c.in-Some.lists.items in
    let are = subst (λ (o : Option (Vec ℕ Global)). IfSome o (λ (words : Vec ℕ Global). AreListsOf m words.items c.as_slice.result.now indexes))
    c.in-Some.is c.in_ok-lists.ensures.lists in
    let own = subst (λ (qs : List Query). AreListsOf m lists qs indexes) c.as_slice.ensures.value are in
    IfOk-weaker c.gather_lists.result _ _
    (λ all is. λ doc. is doc
    ∙ ap (λ (b : Bool). is_gathered c.args.gathered doc || b)
    (ap (λ (f : g.row.F.Denot). some_has (g.F.Frozen.records f) c.as_slice-in-Some.result.now doc) c.in_ok-lists.ensures.same
    ∙ ap (λ (ls : List ℕ). some_has m ls doc) c.as_slice-in-Some.ensures.value
    ∙ members_some m lists queries indexes doc own))
    c.gather_lists.ensures.docs

pub keep_common-returns-then-is_empty-clause-docs : goal.keep_common-returns-then-is_empty-clause-docs
keep_common-returns-then-is_empty-clause-docs g t c =
    let indexes = indexes_in g.row.OFFSET_BITS (g.F.Frozen.records c.args.frozen.now) c.args.dictionaries.now in
    let queries = c.args.queries.now.items in
    let loop = c.loop-i in
    λ known doc.
    none_left indexes doc (found_all (query_trees (drop loop.i queries)) indexes doc) loop.common (has c.args.docs doc && found_all (query_trees queries) indexes doc)
    (c.is_empty.ensures.0 c.if-is_empty.true) (loop.invariant.matched known doc).1

pub keep_common-returns-clause-docs : goal.keep_common-returns-clause-docs
keep_common-returns-clause-docs g t c =
    let indexes = indexes_in g.row.OFFSET_BITS (g.F.Frozen.records c.args.frozen.now) c.args.dictionaries.now in
    let queries = c.args.queries.now.items in
    let loop = c.loop-i in
    let same = ap length c.deref-query-items.ensures.value in
    λ known doc.
    all_members indexes doc queries loop.i (has loop.common doc) (has c.args.docs doc && found_all (query_trees queries) indexes doc)
    (omega (arith, same, c.loop-i-test.false)) (loop.invariant.matched known doc).1

pub keep_common-loop-i-preserved : goal.keep_common-loop-i-preserved
keep_common-loop-i-preserved g t c =
    let bits = g.row.OFFSET_BITS in
    let ds = c.args.dictionaries.now in
    let indexes = indexes_in bits (g.F.Frozen.records c.args.frozen.now) ds in
    let queries = c.args.queries.now.items in
    let loop = c.loop-i in
    let query = c.query-item.result in
    let next = c.in_ok-common.common in
    let size = ap length c.deref-query-items.ensures.value in
    let item = c.query-item.is ∙ ap (λ (qs : List Query). get_or qs loop.i query) c.deref-query-items.ensures.value in
    let at = query_there c.deref-query-items.result.now queries loop.i query c.deref-query-items.ensures.value c.loop-i-test.true c.query-item.is in
    let narrows = subst (λ (f : g.row.F.Denot).
    (loop.i ≡ c.args.known → IsMatched loop.common query (indexes_in bits (g.F.Frozen.records f) ds)) → (doc : ℕ)
    → has next doc ≡ (has loop.common doc && found (tree_of query) (indexes_in bits (g.F.Frozen.records f) ds) doc)) loop.invariant.same c.in_ok-common.ensures.docs in
    record {
      same = c.in_ok-common.ensures.same ∙ loop.invariant.same;
      matched = λ known doc.
          one_more indexes queries loop.i c.args.known query c.args.docs loop.common next at (omega (arith, size, c.loop-i-test.true)) item known
          (loop.invariant.matched known) narrows doc;
    }
