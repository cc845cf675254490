use Rattle.std.proofs.Common.{◌≡◌, ◌<◌, ◌+◌, ◌*◌, ℕ, List, length, get_or, bit_or, rules, refl, ap, subst, ◌∙◌}
use Rattle.std.proofs.lemmas.Simd.{length-zip2}
use Rattle.index_model.specs.Sets.{in_words}
use Rattle.query_eval.specs.Lists.{list_has, IsVectorWord}
use Rattle.query_eval.proofs.JoinLemmas.{all_after, some_more}
use Rattle.bit_vector.proofs.KernelLemmas.{either_bit}
use Rattle.query_eval.proofs.vectors.add_of_all.Goals as goal

pub loop-list-preserved : goal.loop-list-preserved
loop-list-preserved g c =
    let m = g.F.Frozen.records c.args.frozen.now in
    let lists = c.args.lists.now in
    let loop = c.loop-list in
    let n = loop.list-index in
    let list = get_or lists n 0 in
    let own = c.block_of-own.result in
    let even : length loop.words ≡ length own = search rules in
    let bits = subst (λ (f : g.row.F.Denot). (i : ℕ) → i < 4096 → in_words own i ≡ list_has (g.F.Frozen.records f) list (4096 * c.args.block + i))
    loop.invariant.same c.block_of-own.ensures.bits in
    record {
      same = c.block_of-own.ensures.same ∙ loop.invariant.same;
      size = ap length c.block_or.ensures ∙ length-zip2 bit_or loop.words own even ∙ loop.invariant.size;
      left = all_after (IsVectorWord m) lists n c.loop-list-test.true loop.invariant.left;
      whole = λ i below. some_more m (4096 * c.args.block + i) lists n list (in_words loop.words i) (in_words c.block_or.new.into i) (in_words own i) _
          c.loop-list-test.true refl (ap (λ (ws : List ℕ). in_words ws i) c.block_or.ensures ∙ either_bit loop.words own even i) (bits i below) (loop.invariant.whole i below);
    }
