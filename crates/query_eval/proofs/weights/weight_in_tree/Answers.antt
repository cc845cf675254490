use Rattle.std.proofs.Common.{◌<◌, ◌^◌, ℕ, Some, None, arith, rules, sym, ap, ◌∙◌}
use Rattle.std.proofs.lemmas.Int.{to_z-of_z}
use Rattle.std.specs.Int.{w32}
use Rattle.std.specs.Int.RustNames.{FitsSigned}
use Rattle.tree_read.specs.Trees.{tree_pairs}
use Rattle.image_format.specs.Postings.{postings_at, tree}
use Rattle.query_eval.specs.Weights.{weight_in_list}
use Rattle.query_eval.proofs.LookupLemmas.{pair_among}
use Rattle.query_eval.proofs.WeightLemmas.{tree_weight}
use Rattle.query_eval.proofs.weights.weight_in_tree.Goals as goal

pub overflow_cast-weight : goal.overflow_cast-weight
overflow_cast-weight g c =
    let m = g.F.Frozen.records c.args.frozen.now in
    let below = pair_among (λ p. p.1 < 2 ^ 32) _ (tree_pairs m c.args.root) (c.in-Some.field-0-0, c.in-Some.weight) c.requires.form.2 (sym c.in-Some.ensures.pair) in
    omega arith

pub returns-in-Some-clause-weight : goal.returns-in-Some-clause-weight
returns-in-Some-clause-weight g c =
    let m = g.F.Frozen.records c.args.frozen.now in
    let fits : FitsSigned w32 c.cast_signed.result = search rules in
    to_z-of_z w32 c.cast_signed.result fits ∙ c.cast_signed.ensures
    ∙ tree_weight m c.args.root c.from.result c.requires.form.0 (Some (c.in-Some.field-0-0, c.in-Some.weight)) c.in-Some.ensures.pair
    ∙ ap (λ (d : ℕ). weight_in_list d (postings_at m (tree c.args.root))) c.from.ensures

pub returns-in-None-clause-weight : goal.returns-in-None-clause-weight
returns-in-None-clause-weight g c =
    let m = g.F.Frozen.records c.args.frozen.now in
    tree_weight m c.args.root c.from.result c.requires.form.0 None c.in-None.ensures.pair
    ∙ ap (λ (d : ℕ). weight_in_list d (postings_at m (tree c.args.root))) c.from.ensures
