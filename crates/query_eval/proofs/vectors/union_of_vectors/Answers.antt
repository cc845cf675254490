use Rattle.std.proofs.Common.{◌≡◌, ◌&&◌, ◌*◌, ℕ, List, nat_lt, arith, ap, ◌∙◌}
use Rattle.index_model.specs.Sets.{has}
use Rattle.query_eval.specs.Lists.{some_has}
use Rattle.query_eval.proofs.JoinLemmas.{blocks_all}
use Rattle.query_eval.proofs.vectors.union_of_vectors.Goals as goal

pub returns-clause-docs : goal.returns-clause-docs
returns-clause-docs g c = λ doc.
    let m = g.F.Frozen.records c.args.frozen.now in
    let lists = c.args.lists.now in
    ap (λ (docs : List ℕ). has docs doc) c.from_vec.ensures
    ∙ c.loop-block.invariant.whole doc
    ∙ ap (λ (n : ℕ). nat_lt doc (4096 * n) && some_has m lists doc) (let end : c.loop-block.block ≡ 256 = omega (arith, c.loop-block-test.false, c.loop-block.auto.block-end) in end)
    ∙ blocks_all m lists doc c.requires
