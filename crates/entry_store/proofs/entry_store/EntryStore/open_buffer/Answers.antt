use Rattle.std.proofs.Common.{ap, ◌∙◌, refl}
use Rattle.entry_ledger.specs.Entries.{EntriesView}
use Rattle.entry_ledger.specs.Ledgers.{entries_of}
use Rattle.buffer_states.specs.Buffers.{is_state_active, is_on_hold}
use Rattle.entry_ledger.specs.Entries.{count_marks}
use Rattle.entry_store.specs.Standing.{ledger_of, records_by_status, statuses}
use Rattle.entry_store.specs.ProofsForMarks.{count-active, count-held}
use Rattle.entry_store.proofs.Along.{lowest-is, handed-is, none-free, opens-handed, records-handed, stands-handed}
use Rattle.entry_store.proofs.entry_store.EntryStore.open_buffer.Goals as goal

pub returns-in_default-clause-full : goal.returns-in_default-clause-full
returns-in_default-clause-full g c =
    let s = c.args.self.now in (
      refl,
      none-free g.row.OFFSET_BITS _ _ _ s.unit s.stands c.in_default.ensures.none,
      c.active.ensures ∙ ap (count_marks is_state_active (entries_of g.row.OFFSET_BITS s.entries).mark) s.stands.count ∙ count-active (entries_of g.row.OFFSET_BITS s.entries).mark (g.W.Work.knows s.work).buffer
          (g.W.Work.knows s.work).sizes.buffers s.stands.marks,
      c.on_hold.ensures ∙ ap (count_marks is_on_hold (entries_of g.row.OFFSET_BITS s.entries).mark) s.stands.count ∙ count-held (entries_of g.row.OFFSET_BITS s.entries).mark (g.W.Work.knows s.work).buffer
          (g.W.Work.knows s.work).sizes.buffers s.stands.marks,
      refl,
    )

pub invariant_of-self : goal.invariant_of-self
invariant_of-self g c =
    let s = c.args.self.now in
    let low = c.in-Some.ensures.lowest in
    let knows = handed-is g.row.OFFSET_BITS _ _ _ s.unit s.stands (g.W.Work.knows c.hand_out.new.self) c.in-Some.buffer c.args.width c.hand_out.result
    (lowest-is g.row.OFFSET_BITS _ _ _ s.unit s.stands c.in-Some.buffer low) c.hand_out.ensures.none c.hand_out.ensures.lowest c.hand_out.ensures.handed in
    record {
      stands = stands-handed g.row.OFFSET_BITS _ (g.W.Frozen.shape s.work) _ _ s.unit s.stands c.in-Some.buffer c.args.width low _ _ _ _ knows c.hand_out.ensures.shape c.hand_out.ensures.records c.in-Ok.ensures.ok
          (g.met.W.Work.kept s.work) c.open_buffer.ensures.good;
    }

pub returns-in-Ok-clause-opens : goal.returns-in-Ok-clause-opens
returns-in-Ok-clause-opens g c =
    let s = c.args.self.now in
    let low = c.in-Some.ensures.lowest in
    let knows = handed-is g.row.OFFSET_BITS _ _ _ s.unit s.stands (g.W.Work.knows c.hand_out.new.self) c.in-Some.buffer c.args.width c.hand_out.result
    (lowest-is g.row.OFFSET_BITS _ _ _ s.unit s.stands c.in-Some.buffer low) c.hand_out.ensures.none c.hand_out.ensures.lowest c.hand_out.ensures.handed in
    opens-handed g.row.OFFSET_BITS _ (g.W.Frozen.shape s.work) _ _ s.unit s.stands c.in-Some.buffer c.args.width low _ _ _ _ knows c.hand_out.ensures.shape c.hand_out.ensures.records c.in-Ok.ensures.ok

pub returns-in-Ok-clause-records : goal.returns-in-Ok-clause-records
returns-in-Ok-clause-records g c =
    let s = c.args.self.now in
    let low = c.in-Some.ensures.lowest in
    let knows = handed-is g.row.OFFSET_BITS _ _ _ s.unit s.stands (g.W.Work.knows c.hand_out.new.self) c.in-Some.buffer c.args.width c.hand_out.result
    (lowest-is g.row.OFFSET_BITS _ _ _ s.unit s.stands c.in-Some.buffer low) c.hand_out.ensures.none c.hand_out.ensures.lowest c.hand_out.ensures.handed in
    records-handed g.row.OFFSET_BITS _ (g.W.Frozen.shape s.work) _ _ s.unit s.stands c.in-Some.buffer c.args.width low _
    (g.W.Frozen.shape c.hand_out.new.self) _ _ knows c.hand_out.ensures.shape c.hand_out.ensures.records c.in-Ok.ensures.ok

pub returns-in-Err-clause-left : goal.returns-in-Err-clause-left
returns-in-Err-clause-left g c =
    let s = c.args.self.now in
    ap (λ e. ledger_of g.row.OFFSET_BITS (g.W.Work.knows s.work) (g.W.Frozen.shape s.work) (g.W.Frozen.records s.work) e s.unit) c.in-Err.ensures.err

pub returns-in-Err-clause-records : goal.returns-in-Err-clause-records
returns-in-Err-clause-records g c =
    let s = c.args.self.now in
    ap (λ (e : EntriesView). records_by_status (statuses (g.W.Work.knows s.work).commits e) (g.W.Frozen.records s.work)) c.in-Err.ensures.err
