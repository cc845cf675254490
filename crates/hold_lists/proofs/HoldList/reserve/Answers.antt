use Rattle.std.proofs.Common.{arith}
use Rattle.hold_lists.proofs.RunLemmas.{runs-few}
use Rattle.hold_lists.proofs.HoldList.reserve.Goals as goal

pub overflow_sub-most : goal.overflow_sub-most
overflow_sub-most g c =
    let kept = c.self.invariant in
    omega (arith, runs-few c.self.inside.runs.items kept.filled, kept.counted, kept.within, c.self.inside.runs.ok.0, c.self.inside.entries.ok.0, c.in_ok-reserve.ensures.len, c.len.ensures, c.len-2.ensures)
