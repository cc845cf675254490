use Rattle.entry_ledger.proofs.Creating.{created}
use Rattle.entry_ledger.proofs.shelves.Shelves.create.Goals as goal

pub invariant_of-result : goal.invariant_of-result
invariant_of-result c =
    rw (c.in_ok-shelves.ensures, c.in_ok-made.ensures, c.in_ok-filled.ensures, c.in_ok-stacks.ensures, c.in_ok-touched.ensures)
    (created c.args.words c.args.buffers c.ranges.buffers.fits)
