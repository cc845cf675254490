use Rattle.std.proofs.Common.{◌≡◌, ◌≢◌, [], sym, ◌∙◌, arith, true≢false}
use Rattle.tree_read.specs.SearchPlaces.{pairs_from, first_key, first_value}
use Rattle.tree_read.specs.Trees.{tree_pairs}
use Rattle.doc_vector.specs.Documents.{beside_document}
use Rattle.doc_vector.proofs.DocumentLemmas.{found_fits}
use Rattle.query_results.proofs.WalkLemmas.{present}
use Rattle.query_results.proofs.walks.found_at.Goals as goal

pub overflow_cast-value : goal.overflow_cast-value
overflow_cast-value g c =
    let m = g.F.Frozen.records c.args.frozen.now in
    let at = c.requires.before.at_is in
    let ps = pairs_from m c.args.cursor.now in
    let some : ps ≢ [] = λ none. true≢false (sym ((c.at_end.ensures.pairs m at).1 none) ∙ c.if-at_end.false) in
    let key : first_key ps ≡ c.args.doc = sym (c.key.ensures m at) ∙ c.if-key-from.false ∙ c.from.ensures ∙ c.number.ensures.number in
    let value = c.value.ensures m at in
    let below = found_fits (beside_document c.args.doc) (tree_pairs m c.args.root) c.requires.map.pairs (first_value ps)
    (sym (c.requires.before.rest c.args.doc (omega arith)) ∙ sym (present ps c.args.doc some key)) in
    omega (arith, below, value)
