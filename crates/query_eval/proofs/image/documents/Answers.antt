use Rattle.std.proofs.Common.{◌<◌, ℕ, length, arith, sym, ap, subst, ◌∙◌}
use Rattle.tree_read.specs.Trees.{tree_pairs, IsRootNode}
use Rattle.query_eval.proofs.CountLemmas.{has_documents}
use Rattle.query_eval.proofs.image.documents.Goals as goal

pub root_at-tree-requires : goal.root_at-tree-requires
root_at-tree-requires g c =
    let frozen = c.args.frozen.now in
    let has = has_documents (g.F.Frozen.shape frozen) (g.F.Frozen.records frozen) c.args.root (g.met.F.Frozen.references frozen) c.requires.image in
    (omega arith, (has.words, has.small))

pub total-requires : goal.total-requires
total-requires g c =
    let frozen = c.args.frozen.now in
    let has = has_documents (g.F.Frozen.shape frozen) (g.F.Frozen.records frozen) c.args.root (g.met.F.Frozen.references frozen) c.requires.image in (
      omega arith,
      subst (λ (f : g.row.F.Denot). 0 < c.root_at-tree.result → IsRootNode (g.F.Frozen.records f) c.root_at-tree.result) (sym c.root_at-tree.ensures.same)
          (subst (λ (r : ℕ). 0 < r → IsRootNode (g.F.Frozen.records frozen) r) (sym c.root_at-tree.ensures.root) has.node),
    )

pub returns-clause-count : goal.returns-clause-count
returns-clause-count g c =
    let frozen = c.args.frozen.now in
    let has = has_documents (g.F.Frozen.shape frozen) (g.F.Frozen.records frozen) c.args.root (g.met.F.Frozen.references frozen) c.requires.image in
    c.total.ensures.count
    ∙ ap (λ (f : g.row.F.Denot). length (tree_pairs (g.F.Frozen.records f) c.root_at-tree.result)) c.root_at-tree.ensures.same
    ∙ ap (λ (r : ℕ). length (tree_pairs (g.F.Frozen.records frozen) r)) c.root_at-tree.ensures.root
    ∙ has.count
