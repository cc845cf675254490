use Rattle.std.proofs.Common.{◌||◌, ◌&&◌, ℕ, List, arith, ap, ◌∙◌}
use Rattle.std.specs.Map.{keys_of}
use Rattle.tree_read.specs.Trees.{tree_pairs}
use Rattle.index_model.specs.Sets.{has, in_words}
use Rattle.query_eval.proofs.LeafListLemmas.{tree_documents, tree_keys}
use Rattle.query_eval.proofs.kept.keep_marked.Goals as goal

pub take_keys-requires : goal.take_keys-requires
take_keys-requires g c =
    (omega arith, (c.requires.form.0.node, tree_documents (tree_pairs (g.F.Frozen.records c.args.frozen.now) c.args.root) c.requires.documents))

pub returns-clause-kept : goal.returns-clause-kept
returns-clause-kept g c = λ doc.
    let pairs = tree_pairs (g.F.Frozen.records c.args.frozen.now) c.args.root in
    ap (λ (xs : List ℕ). has xs doc) c.from_vec.ensures
    ∙ c.in_ok-take_keys.ensures.takes.1 doc
    ∙ ap (λ (xs : List ℕ). has xs doc || (in_words c.args.marks.items doc && has (keys_of pairs) doc)) c.new.ensures.items
    ∙ ap (λ (ks : List ℕ). in_words c.args.marks.items doc && has ks doc) (tree_keys pairs)
