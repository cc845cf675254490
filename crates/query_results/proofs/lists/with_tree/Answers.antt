use Rattle.std.proofs.Common.{◌++◌, ℕ, List, arith, ap, ◌∙◌}
use Rattle.tree_read.specs.Trees.{tree_pairs}
use Rattle.query_eval.proofs.LeafListLemmas.{tree_documents, tree_keys}
use Rattle.query_results.proofs.lists.with_tree.Goals as goal

pub take_keys-requires : goal.take_keys-requires
take_keys-requires g c =
    (omega arith, (c.requires.form.0.node, tree_documents (tree_pairs (g.F.Frozen.records c.args.frozen.now) c.args.root) c.requires.documents))

pub returns-clause-docs : goal.returns-clause-docs
returns-clause-docs g c =
    c.in_ok-take_keys.ensures.takes
    ∙ ap (λ (ks : List ℕ). c.args.docs.items ++ ks) (tree_keys (tree_pairs (g.F.Frozen.records c.args.frozen.now) c.args.root))
