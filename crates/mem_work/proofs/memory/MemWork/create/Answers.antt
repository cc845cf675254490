use Rattle.std.proofs.Common.{◌+◌, ◌*◌, refl, arith}
use Rattle.list_lemmas.proofs.Places.{slice_index-zeros}
use Rattle.mem_work.proofs.Views.{view-opened, records-opened}
use Rattle.mem_work.proofs.Marked.{fresh-at, mark-fresh}
use Rattle.mem_work.proofs.memory.MemWork.create.Goals as goal

pub returns-clause-knows : goal.returns-clause-knows
returns-clause-knows g c =
    let e = c.in_ok-cells.ensures in
    rw (e.table, e.stamps, e.marks, e.buffers, e.words, c.from_raw.ensures)
    (view-opened g.L.Layout.reaches g.L.Layout.empty_reaches c.args.shape (c.args.buffers * c.args.words) g.row.OFFSET_BITS c.args.buffers c.args.words refl)

pub returns-clause-records : goal.returns-clause-records
returns-clause-records g c r =
    let e = c.in_ok-cells.ensures in
    rw (e.table, e.stamps, e.buffers, e.words, c.from_raw.ensures)
    (records-opened g.L.Layout.reaches g.L.Layout.empty_reaches c.args.shape (c.args.buffers * c.args.words) g.row.OFFSET_BITS c.args.buffers c.args.words refl r)

pub invariant_of-result-clause-marks : goal.invariant_of-result-clause-marks
invariant_of-result-clause-marks g c =
    let e = c.in_ok-cells.ensures in
    rw e.marks (λ b. mark-fresh _ _ (fresh-at c.args.buffers b))

pub invariant_of-result-clause-unused : goal.invariant_of-result-clause-unused
invariant_of-result-clause-unused g c =
    let e = c.in_ok-cells.ensures in
    let cells = c.in_ok-cells.cells in
    let count = c.args.buffers * c.args.words in
    rw e.stamps (λ b x inside below none. (
      omega (arith, slice_index-zeros (count + count) (b * cells.words + x)),
      omega (arith, slice_index-zeros (count + count) (cells.buffers * cells.words + (b * cells.words + x))),
    ))
