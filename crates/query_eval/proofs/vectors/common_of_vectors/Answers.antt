use Rattle.std.proofs.Common.{◌≡◌, ◌&&◌, ◌||◌, ℕ, List, arith, sym, ap, subst, ◌∙◌}
use Rattle.std.specs.List.{AllByRecursion}
use Rattle.tree_read.specs.SearchPlaces.{IsAt, pairs_from}
use Rattle.tree_read.specs.Trees.{tree_pairs}
use Rattle.index_model.specs.Sets.{has}
use Rattle.query_eval.specs.Blocks.{IsDocumentBlock, documents_of}
use Rattle.query_eval.specs.Lists.{all_have, AreVectorWords}
use Rattle.query_eval.proofs.ListLemmas.{vector_blocks, has_vector}
use Rattle.query_eval.proofs.vectors.common_of_vectors.Goals as goal

pub push_rest-requires : goal.push_rest-requires
push_rest-requires g c =
    let m = g.F.Frozen.records c.args.frozen.now in
    let root = c.root_of-root.result in
    let cursor = c.first-cursor.result in
    let once = c.root_of-root.ensures.same in
    let pairs = subst (λ (f : g.row.F.Denot). pairs_from (g.F.Frozen.records f) cursor ≡ tree_pairs (g.F.Frozen.records f) root) once c.first-cursor.ensures.pairs in
    let blocks = subst (AllByRecursion (IsDocumentBlock m)) (sym pairs) (vector_blocks m c.args.list root c.requires.list c.root_of-root.ensures.root) in
    let back = sym (c.first-cursor.ensures.same ∙ once) in (
      omega arith,
      (
        subst (λ (f : g.row.F.Denot). IsAt (g.F.Frozen.records f) cursor) (sym c.first-cursor.ensures.same) c.first-cursor.ensures.at,
        (
          subst (λ (f : g.row.F.Denot). AllByRecursion (IsDocumentBlock (g.F.Frozen.records f)) (pairs_from (g.F.Frozen.records f) cursor)) back blocks,
          subst (λ (f : g.row.F.Denot). AreVectorWords (g.F.Frozen.records f) c.args.others.now) back c.requires.others,
        ),
      ),
    )

pub returns-clause-docs : goal.returns-clause-docs
returns-clause-docs g c = λ doc.
    let m = g.F.Frozen.records c.args.frozen.now in
    let root = c.root_of-root.result in
    let cursor = c.first-cursor.result in
    let others = c.args.others.now in
    let once = c.root_of-root.ensures.same in
    let pairs = subst (λ (f : g.row.F.Denot). pairs_from (g.F.Frozen.records f) cursor ≡ tree_pairs (g.F.Frozen.records f) root) once c.first-cursor.ensures.pairs in
    ap (λ (docs : List ℕ). has docs doc) c.from_vec.ensures
    ∙ c.in_ok-push_rest.ensures.docs doc
    ∙ ap (λ (docs : List ℕ). has docs doc || (has (documents_of (g.F.Frozen.records c.first-cursor.new.frozen) (pairs_from (g.F.Frozen.records c.first-cursor.new.frozen) cursor)) doc
    && all_have (g.F.Frozen.records c.first-cursor.new.frozen) others doc)) c.new-docs.ensures.items
    ∙ ap (λ (f : g.row.F.Denot). has (documents_of (g.F.Frozen.records f) (pairs_from (g.F.Frozen.records f) cursor)) doc && all_have (g.F.Frozen.records f) others doc)
    (c.first-cursor.ensures.same ∙ once)
    ∙ ap (λ (ps : List (ℕ × ℕ)). has (documents_of m ps) doc && all_have m others doc) pairs
    ∙ ap (λ b. b && all_have m others doc) (sym (has_vector m c.args.list root c.requires.list c.root_of-root.ensures.root doc))
