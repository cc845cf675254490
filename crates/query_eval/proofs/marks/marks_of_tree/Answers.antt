use Rattle.std.proofs.Common.{◌≡◌, ◌<◌, ◌||◌, ℕ, Bool, List, arith, sym, ap, subst, ◌∙◌}
use Rattle.std.specs.List.{AllByRecursion}
use Rattle.std.specs.Map.{keys_of}
use Rattle.tree_read.specs.Trees.{tree_pairs, IsRootNode}
use Rattle.index_model.proofs.BitLemmas.{zeros}
use Rattle.index_model.specs.Sets.{has}
use Rattle.attr_types.specs.Lawful.{IsDocNumber}
use Rattle.query_eval.proofs.LeafListLemmas.{tree_documents, tree_keys}
use Rattle.query_eval.proofs.marks.marks_of_tree.Goals as goal

pub take_keys-requires : goal.take_keys-requires
take_keys-requires g c =
    let root = c.args.root in
    let same = sym (c.total.ensures.same ∙ c.last_key.ensures.same) in (
      omega arith,
      (
        subst (λ (f : g.row.F.Denot). 0 < root → IsRootNode (g.F.Frozen.records f) root) same c.requires.form.0.node,
        subst (λ (f : g.row.F.Denot). AllByRecursion (λ p. IsDocNumber p.0) (tree_pairs (g.F.Frozen.records f) root)) same
            (tree_documents (tree_pairs (g.F.Frozen.records c.args.frozen.now) root) c.requires.documents),
      ),
    )

pub returns-then-marked-clause-marks : goal.returns-then-marked-clause-marks
returns-then-marked-clause-marks g c = λ doc.
    let root = c.args.root in
    let same = c.total.ensures.same ∙ c.last_key.ensures.same in
    (c.in_ok-take_keys.ensures.takes c.if-marked.true).1 doc
    ∙ ap (λ (b : Bool). b || has (keys_of (tree_pairs (g.F.Frozen.records c.total.new.frozen) root)) doc)
    (zeros (λ (x y : ℕ). y ≡ x) (λ y e. e) c.in_ok-vec.field-0.items doc c.in_ok-vec.ensures.items)
    ∙ ap (λ (f : g.row.F.Denot). has (keys_of (tree_pairs (g.F.Frozen.records f) root)) doc) same
    ∙ ap (λ (ks : List ℕ). has ks doc) (tree_keys (tree_pairs (g.F.Frozen.records c.args.frozen.now) root))
