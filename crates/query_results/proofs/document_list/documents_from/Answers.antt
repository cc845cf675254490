use Rattle.std.proofs.Common.{◌≡◌, ℕ, arith, nat_le, filter, take, sym, ap, subst, ◌∙◌}
use Rattle.std.proofs.lemmas.Result.{IfOk-weaker}
use Rattle.std.specs.List.{AllByRecursion}
use Rattle.std.specs.Map.{keys_of}
use Rattle.std.specs.Ordering.{nat_cmp}
use Rattle.tree_read.specs.Pairs.{seek}
use Rattle.tree_read.specs.SearchPlaces.{pairs_from}
use Rattle.tree_read.specs.Trees.{tree_pairs}
use Rattle.doc_vector.specs.Documents.{IsDocumentPair}
use Rattle.enum_dictionary.proofs.BehindLemmas.{All-seek}
use Rattle.index_model.proofs.DocLemmas.{ascends_from_sorted}
use Rattle.query_results.proofs.TakeLemmas.{sought_keys}
use Rattle.query_results.proofs.document_list.documents_from.Goals as goal

pub documents_along-requires : goal.documents_along-requires
documents_along-requires g c =
    let records = g.F.Frozen.records in
    let frozen = c.args.frozen.now in
    let tree = c.documents_root-tree.result in
    let pairs = tree_pairs (records frozen) tree in
    let same = c.seek-cursor.ensures.same ∙ c.documents_root-tree.ensures.same in
    let found = subst (λ (f : g.row.F.Denot). pairs_from (records f) c.seek-cursor.result ≡ seek (λ k. nat_cmp k c.from.result) (tree_pairs (records f) tree))
    c.documents_root-tree.ensures.same c.seek-cursor.ensures.pairs in (
      omega arith,
      (
        rw c.seek-cursor.ensures.same c.seek-cursor.ensures.at,
        subst (λ (f : g.row.F.Denot). AllByRecursion IsDocumentPair (pairs_from (records f) c.seek-cursor.result)) (sym same)
            (subst (AllByRecursion IsDocumentPair) (sym found) (All-seek IsDocumentPair (λ k. nat_cmp k c.from.result) pairs c.documents_root-tree.ensures.map.pairs)),
      ),
    )

pub returns-clause-docs : goal.returns-clause-docs
returns-clause-docs g c =
    let records = g.F.Frozen.records in
    let frozen = c.args.frozen.now in
    let m = records frozen in
    let tree = c.documents_root-tree.result in
    let same = c.seek-cursor.ensures.same ∙ c.documents_root-tree.ensures.same in
    let found = subst (λ (f : g.row.F.Denot). pairs_from (records f) c.seek-cursor.result ≡ seek (λ k. nat_cmp k c.from.result) (tree_pairs (records f) tree))
    c.documents_root-tree.ensures.same c.seek-cursor.ensures.pairs in
    IfOk-weaker c.documents_along.result _ _
    (λ docs is.
    is ∙ ap (λ (f : g.row.F.Denot). take c.args.count (keys_of (pairs_from (records f) c.seek-cursor.result))) same
    ∙ ap (take c.args.count)
    (ap keys_of found
    ∙ sought_keys c.from.result (tree_pairs m tree) (ascends_from_sorted (keys_of (tree_pairs m tree)) c.documents_root-tree.ensures.map.tree_is.ascends)
    ∙ ap (λ (n : ℕ). filter (nat_le n) (keys_of (tree_pairs m tree))) c.from.ensures
    ∙ ap (filter (nat_le c.args.first)) c.documents_root-tree.ensures.keys))
    c.documents_along.ensures.docs
