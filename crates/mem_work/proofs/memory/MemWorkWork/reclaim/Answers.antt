use Rattle.std.proofs.Common.{subst, sym, ap, ◌∙◌, arith, refl}
use Rattle.mem_work.specs.Cells.{width_in, buffer_by}
use Rattle.mem_work.specs.Marks.{mark_at, marked, IsMarkOfWidth}
use Rattle.mem_work.proofs.Marked.{mark-freed, marked-freed, freed-at}
use Rattle.mem_work.proofs.memory.MemWorkWork.reclaim.Goals as goal

pub invariant_of-self-clause-marks : goal.invariant_of-self-clause-marks
invariant_of-self-clause-marks g c =
    let s = c.args.self.now in
    let e = c.free_below.ensures in
    rw (e.marks, e.table, e.words)
    (λ b. subst (IsMarkOfWidth s.generation s.first s.last (width_in s.cells.table.items s.cells.words b)) (sym (freed-at s.generation s.cells.marks.items b))
    (mark-freed s.generation s.first s.last _ _ (s.marks b)))

pub returns-clause-holds : goal.returns-clause-holds
returns-clause-holds g c =
    let s = c.args.self.now in
    let e = c.free_below.ensures in
    rw (e.marks, e.table, e.stamps, e.buffers, e.words) (record {
      closed = 0;
      queue = refl;
      left = omega arith;
      buffer = λ k b. (ap (λ m. marked m (buffer_by (width_in s.cells.table.items s.cells.words b))) (freed-at s.generation s.cells.marks.items b)
          ∙ marked-freed s.generation s.first s.last (width_in s.cells.table.items s.cells.words b) (mark_at s.cells.marks.items b) (s.marks b)) k;
      generation = refl;
      hold = refl;
      newest = λ is. (refl, refl, refl, refl);
      stopped = λ is. absurd (cc);
    })

pub invariant_of-self-clause-unused : goal.invariant_of-self-clause-unused
invariant_of-self-clause-unused g c =
    let s = c.args.self.now in
    let e = c.free_below.ensures in
    rw (e.table, e.stamps, e.buffers, e.words) s.unused
