use Rattle.std.proofs.Common.{arith}
use Rattle.index_model.proofs.DocLemmas.{adjacent}
use Rattle.query_results.proofs.hit_set.is_ascending.Goals as goal

pub returns : goal.returns
returns c = λ is. adjacent c.args.docs.now (λ k low. c.loop-place.invariant k (let past = c.loop-place-test.false in omega (arith, low, past)))
