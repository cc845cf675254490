use Rattle.std.proofs.Common.{refl, ap, ◌∙◌, cond, []}
use Rattle.store_api.specs.Statuses.{has_record}
use Rattle.entry_ledger.specs.Entries.{EntriesView}
use Rattle.entry_ledger.specs.Calls.{new_entries}
use Rattle.entry_ledger.specs.Ledgers.{entries_of}
use Rattle.entry_store.specs.Standing.{statuses}
use Rattle.entry_store.proofs.Stands.{stands-new}
use Rattle.entry_store.proofs.entry_store.EntryStore.create.Goals as goal

pub invariant_of-result : goal.invariant_of-result
invariant_of-result g c =
    record {
      stands = stands-new g.row.OFFSET_BITS (g.W.Work.knows c.args.work) (g.W.Frozen.records c.args.work) (entries_of g.row.OFFSET_BITS c.in-Ok.entries) c.requires
          (c.in-Ok.ensures.new ∙ ap (λ n. new_entries n c.words.result) c.buffers.ensures ∙ ap (new_entries (g.W.Work.knows c.args.work).sizes.buffers) c.words.ensures) c.in-Ok.ensures.good;
    }

pub returns-in-Ok-clause-new : goal.returns-in-Ok-clause-new
returns-in-Ok-clause-new g c =
    let new = c.in-Ok.ensures.new in
    record {
      unit = refl;
      status = λ r. ap (λ (e : EntriesView). statuses (g.W.Work.knows c.args.work).commits e r) new;
      counts = λ w. ap (λ (e : EntriesView). e.of_width w) new;
      sealed = λ b. ap (λ (e : EntriesView). (e.mark b).sealed) new;
      finished = ap (λ (e : EntriesView). e.finished) new;
    }

pub returns-in-Ok-clause-records : goal.returns-in-Ok-clause-records
returns-in-Ok-clause-records g c r =
    ap (λ (e : EntriesView). cond (has_record (statuses (g.W.Work.knows c.args.work).commits e r)) (g.W.Frozen.records c.args.work r) []) c.in-Ok.ensures.new
