use Rattle.std.proofs.Common.{arith, refl, ◌<◌, ◌+◌, ◌*◌, ◌∙◌}
use Rattle.std.specs.Int.{trailing_zeros, w64}
use Rattle.query_eval.proofs.BitLemmas.{there, less, others, one_document}
use Rattle.query_eval.proofs.blocks.push_word.Goals as goal

pub new-requires-clause-first : goal.new-requires-clause-first
new-requires-clause-first c =
    let small : c.loop-left.left < 18446744073709551616 = omega (arith, c.loop-left.auto.left-fits) in
    let doc = c.args.place * 64 + trailing_zeros w64 c.loop-left.left in
    (c.loop-left.invariant.numbers doc (there c.args.place c.loop-left.left c.loop-left-test.true small doc refl)).0

pub loop-left-smaller : goal.loop-left-smaller
loop-left-smaller c =
    let small : c.loop-left.left < 18446744073709551616 = omega (arith, c.loop-left.auto.left-fits) in
    less c.args.place c.loop-left.left c.loop-left-test.true small

pub loop-left-preserved : goal.loop-left-preserved
loop-left-preserved c =
    let small : c.loop-left.left < 18446744073709551616 = omega (arith, c.loop-left.auto.left-fits) in
    let place = c.args.place in
    let left = c.loop-left.left in
    let some = c.loop-left-test.true in
    record {
      numbers = λ doc is. c.loop-left.invariant.numbers doc (others place left some small c.new.result doc c.new.ensures is);
      whole = λ doc. one_document place left some small c.loop-left.docs.items c.push.new.self.items c.new.result doc c.new.ensures c.in_ok-push.ensures.items ∙ c.loop-left.invariant.whole doc;
    }
