use Rattle.std.proofs.Common.{◌+◌, arith, sym, ap, ◌∙◌}
use Rattle.entry_ledger.specs.Ledgers.{entries_of}
use Rattle.entry_store.proofs.PublishSteps.{read-work, publishes, tagged, apart, records-now, stands-published}
use Rattle.entry_store.proofs.entry_store.EntryStore.publish.Goals as goal

pub publish-commit-requires : goal.publish-commit-requires
publish-commit-requires g c =
    let s = c.args.self.now in (
      omega arith,
      (
        (read-work g.row.OFFSET_BITS g.W.Layout.Layout.reaches g.W.Layout.Layout.lawful g.W.Layout.Layout.present g.W.Layout.Layout.stays _ _ _ s.unit s.stands c.requires.unit
            (g.W.Frozen.shape s.work) c.args.root c.requires.lawful).0,
        c.requires.room,
      ),
    )

pub commit-requires : goal.commit-requires
commit-requires g c =
    let s = c.args.self.now in
    (omega arith, (ap (λ k. k + 1) s.stands.last ∙ sym c.publish-commit.ensures.number, s.stands.settled c.requires.unit))

pub invariant_of-self : goal.invariant_of-self
invariant_of-self g c =
    let s = c.args.self.now in
    let p = c.publish-commit.ensures in
    record {
      stands = stands-published g.row.OFFSET_BITS g.W.Layout.Layout.reaches g.W.Layout.Layout.lawful g.W.Layout.Layout.present g.W.Layout.Layout.stays (g.W.Work.knows s.work) (g.W.Frozen.records s.work)
          (entries_of g.row.OFFSET_BITS s.entries) s.unit s.stands c.requires.unit (g.W.Frozen.shape s.work) c.args.root c.requires.lawful c.requires.whole
          (g.W.Work.knows c.publish-commit.new.self) (g.W.Frozen.records c.publish-commit.new.self) c.publish-commit.result
          (entries_of g.row.OFFSET_BITS c.commit.new.self) p.number p.commit p.knows p.records c.commit.ensures.commit (g.met.W.Work.queue s.work) c.commit.ensures.good;
    }

pub returns-clause-publishes : goal.returns-clause-publishes
returns-clause-publishes g c =
    let s = c.args.self.now in
    let p = c.publish-commit.ensures in
    publishes g.row.OFFSET_BITS g.W.Layout.Layout.reaches g.W.Layout.Layout.lawful g.W.Layout.Layout.present g.W.Layout.Layout.stays (g.W.Work.knows s.work) (g.W.Frozen.records s.work)
    (entries_of g.row.OFFSET_BITS s.entries) s.unit s.stands c.requires.unit (g.W.Frozen.shape s.work) c.args.root c.requires.lawful c.requires.whole
    (g.W.Work.knows c.publish-commit.new.self) (g.W.Frozen.records c.publish-commit.new.self) c.publish-commit.result
    (entries_of g.row.OFFSET_BITS c.commit.new.self) p.number p.commit p.knows p.records c.commit.ensures.commit (g.W.Frozen.shape c.publish-commit.new.self) p.shape

pub returns-clause-records : goal.returns-clause-records
returns-clause-records g c =
    let s = c.args.self.now in
    let p = c.publish-commit.ensures in
    records-now g.row.OFFSET_BITS g.W.Layout.Layout.reaches g.W.Layout.Layout.lawful g.W.Layout.Layout.present g.W.Layout.Layout.stays (g.W.Work.knows s.work) (g.W.Frozen.records s.work)
    (entries_of g.row.OFFSET_BITS s.entries) s.unit s.stands c.requires.unit (g.W.Frozen.shape s.work) c.args.root c.requires.lawful c.requires.whole
    (g.W.Work.knows c.publish-commit.new.self) (g.W.Frozen.records c.publish-commit.new.self) c.publish-commit.result
    (entries_of g.row.OFFSET_BITS c.commit.new.self) p.number p.commit p.knows p.records c.commit.ensures.commit

pub returns-clause-tagged : goal.returns-clause-tagged
returns-clause-tagged g c =
    let s = c.args.self.now in
    let p = c.publish-commit.ensures in
    tagged g.row.OFFSET_BITS g.W.Layout.Layout.reaches g.W.Layout.Layout.lawful g.W.Layout.Layout.present g.W.Layout.Layout.stays (g.W.Work.knows s.work) (g.W.Frozen.records s.work)
    (entries_of g.row.OFFSET_BITS s.entries) s.unit s.stands c.requires.unit (g.W.Frozen.shape s.work) c.args.root c.requires.lawful c.requires.whole
    (g.W.Work.knows c.publish-commit.new.self) (g.W.Frozen.records c.publish-commit.new.self) c.publish-commit.result
    (entries_of g.row.OFFSET_BITS c.commit.new.self) p.number p.commit p.knows p.records c.commit.ensures.commit

pub returns-clause-apart : goal.returns-clause-apart
returns-clause-apart g c =
    let s = c.args.self.now in
    let p = c.publish-commit.ensures in
    apart g.row.OFFSET_BITS g.W.Layout.Layout.reaches g.W.Layout.Layout.lawful g.W.Layout.Layout.present g.W.Layout.Layout.stays (g.W.Work.knows s.work) (g.W.Frozen.records s.work)
    (entries_of g.row.OFFSET_BITS s.entries) s.unit s.stands c.requires.unit (g.W.Frozen.shape s.work) c.args.root c.requires.lawful c.requires.whole
    (g.W.Work.knows c.publish-commit.new.self) (g.W.Frozen.records c.publish-commit.new.self) c.publish-commit.result
    (entries_of g.row.OFFSET_BITS c.commit.new.self) p.number p.commit p.knows p.records c.commit.ensures.commit

pub returns-clause-unit : goal.returns-clause-unit
returns-clause-unit g c = c.requires.unit
