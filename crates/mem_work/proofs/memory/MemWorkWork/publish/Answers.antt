use Rattle.std.proofs.Common.{◌+◌, ◌*◌, ap, sym, ◌∙◌, arith}
use Rattle.mem_work.proofs.Views.{lawful-publish, view-publish, records-publish, commit-publish}
use Rattle.mem_work.specs.Marks.{with_marks}
use Rattle.mem_work.proofs.Marked.{mark-later}
use Rattle.mem_work.proofs.memory.MemWorkWork.publish.Goals as goal

pub invariant_of-self : goal.invariant_of-self
invariant_of-self g c =
    let s = c.args.self.now in
    record {
      stamped = λ p. omega (arith, s.stamped p);
      unused = λ b x inside below free. (omega (arith, s.stamped (b * s.cells.words + x)), omega (arith, s.stamped (s.cells.buffers * s.cells.words + (b * s.cells.words + x))));
      marks = λ b. mark-later s.generation s.first s.last _ _ (s.marks b);
      early = omega (arith, s.early);
      generations = s.generations;
      limit = omega (arith, c.requires.room);
      lawful = lawful-publish g.L.Layout.reaches g.L.Layout.lawful g.L.Layout.present g.L.Layout.stays s.shape s.cells.table.items s.cells.stamps.items g.row.OFFSET_BITS s.cells.buffers s.cells.words s.last s.root
          s.lawful c.args.root (sym s.cells.stamps.ok.0 ∙ s.cells.stamped) s.stamped c.requires.lawful;
    }

pub returns-clause-commit : goal.returns-clause-commit
returns-clause-commit g c =
    let s = c.args.self.now in
    commit-publish g.L.Layout.reaches g.L.Layout.lawful g.L.Layout.present g.L.Layout.stays s.shape s.cells.table.items s.cells.stamps.items g.row.OFFSET_BITS s.cells.buffers s.cells.words s.last s.root s.lawful
    c.args.root (sym s.cells.stamps.ok.0 ∙ s.cells.stamped) s.stamped c.requires.lawful

pub returns-clause-knows : goal.returns-clause-knows
returns-clause-knows g c =
    let s = c.args.self.now in
    ap (λ v. with_marks v s.cells.marks.items s.generation s.first)
    (view-publish g.L.Layout.reaches g.L.Layout.lawful g.L.Layout.present g.L.Layout.stays s.shape s.cells.table.items s.cells.stamps.items g.row.OFFSET_BITS s.cells.buffers s.cells.words s.last s.root s.lawful
    c.args.root (sym s.cells.stamps.ok.0 ∙ s.cells.stamped) s.stamped c.requires.lawful)

pub returns-clause-records : goal.returns-clause-records
returns-clause-records g c =
    let s = c.args.self.now in
    λ k q. records-publish g.L.Layout.reaches g.L.Layout.lawful g.L.Layout.present g.L.Layout.stays s.shape s.cells.table.items s.cells.stamps.items g.row.OFFSET_BITS s.cells.buffers s.cells.words s.last s.root s.lawful
    c.args.root (sym s.cells.stamps.ok.0 ∙ s.cells.stamped) s.stamped c.requires.lawful q k
