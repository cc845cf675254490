use Rattle.std.proofs.Common.{◌||◌, ℕ, List, arith, ap, ◌∙◌}
use Rattle.tree_read.specs.Trees.{tree_pairs}
use Rattle.index_model.specs.Sets.{has, in_words}
use Rattle.query_eval.proofs.LeafListLemmas.{tree_documents, tree_keys}
use Rattle.query_eval.proofs.lists.insert_tree.Goals as goal

pub take_keys-requires : goal.take_keys-requires
take_keys-requires g c =
    (omega arith, (c.requires.form.0.node, tree_documents (tree_pairs (g.F.Frozen.records c.args.frozen.now) c.args.root) c.requires.documents))

pub returns-clause-docs : goal.returns-clause-docs
returns-clause-docs g c = λ doc.
    c.in_ok-take_keys.ensures.takes doc
    ∙ ap (λ (ks : List ℕ). in_words c.args.set doc || has ks doc) (tree_keys (tree_pairs (g.F.Frozen.records c.args.frozen.now) c.args.root))
