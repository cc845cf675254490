use Rattle.std.proofs.Common.{arith}
use Rattle.attr_run.proofs.feed.made_in.Goals as goal

pub returns-clause-few : goal.returns-clause-few
returns-clause-few c = omega (arith, c.in_ok-ops.ensures.count, c.ranges.count.fits)
