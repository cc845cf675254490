use Rattle.std.proofs.Common.{◌≢◌, ◌≤◌, ℕ, List, [], sym, ap, subst, ◌∙◌}
use Rattle.tree_read.specs.Pairs.{lookup}
use Rattle.tree_read.specs.SearchPlaces.{first_key}
use Rattle.tree_read.specs.Trees.{tree_pairs}
use Rattle.doc_vector.specs.Documents.{beside_document}
use Rattle.query_results.proofs.WalkLemmas.{sought, stops}
use Rattle.query_results.proofs.walks.search_root.Goals as goal

pub returns-clause-before : goal.returns-clause-before
returns-clause-before g c =
    let m = g.F.Frozen.records c.args.frozen.now in
    record {
      at_is = c.walk_from-place.ensures.at;
      rest = λ later le. ap (lookup (beside_document later)) c.walk_from-place.ensures.pairs ∙ sought (tree_pairs m c.args.root) c.args.doc later le;
    }

pub returns-clause-past : goal.returns-clause-past
returns-clause-past g c =
    let m = g.F.Frozen.records c.args.frozen.now in
    subst (λ (ps : List (ℕ × ℕ)). ps ≢ [] → c.args.doc ≤ first_key ps) (sym c.walk_from-place.ensures.pairs) (stops (tree_pairs m c.args.root) c.args.doc)
