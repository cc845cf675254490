use Rattle.std.proofs.Common.{ap, ◌∙◌, arith}
use Rattle.store_api.specs.Ledgers.{is_in}
use Rattle.arena_api.specs.Works.{last_image}
use Rattle.entry_ledger.specs.Ledgers.{entries_of}
use Rattle.entry_ledger.specs.Entries.{is_used_entry}
use Rattle.entry_store.specs.ProofsForStates.{used-some, in_use-used}
use Rattle.entry_store.proofs.Stands.{stands-dropped}
use Rattle.entry_store.proofs.LedgerSteps.{drops-entry}
use Rattle.entry_store.proofs.Compose.{drop-may}
use Rattle.entry_store.proofs.entry_store.EntryStoreStore.drop_entry.Goals as goal

pub drop_entry-requires : goal.drop_entry-requires
drop_entry-requires g c =
    let s = c.args.self.now in
    let had = used-some (is_in (last_image (g.W.Work.knows s.work).commits) c.args.entry) (entries_of g.row.OFFSET_BITS s.entries).last ((entries_of g.row.OFFSET_BITS s.entries).state c.args.entry) c.requires.used in
    (omega arith, (omega arith, ap is_used_entry had.1 ∙ in_use-used _ _ had.0 had.2))

pub invariant_of-self : goal.invariant_of-self
invariant_of-self g c =
    let s = c.args.self.now in
    let had = used-some (is_in (last_image (g.W.Work.knows s.work).commits) c.args.entry) (entries_of g.row.OFFSET_BITS s.entries).last ((entries_of g.row.OFFSET_BITS s.entries).state c.args.entry) c.requires.used in
    record { stands = stands-dropped g.row.OFFSET_BITS _ _ _ s.unit s.stands _ c.args.entry had.0 had.1 had.2 c.requires.unit (c.drop_entry.ensures.drops had.0 had.1) c.drop_entry.ensures.good }

pub returns-clause-drops : goal.returns-clause-drops
returns-clause-drops g c =
    let s = c.args.self.now in
    let had = used-some (is_in (last_image (g.W.Work.knows s.work).commits) c.args.entry) (entries_of g.row.OFFSET_BITS s.entries).last ((entries_of g.row.OFFSET_BITS s.entries).state c.args.entry) c.requires.used in
    drops-entry g.row.OFFSET_BITS _ (g.W.Frozen.shape s.work) _ _ s.unit s.stands _ c.args.entry had.0 had.1 had.2 (c.drop_entry.ensures.drops had.0 had.1)

pub returns-clause-may : goal.returns-clause-may
returns-clause-may g c = drop-may _ _ _ _ c.args.entry c.requires.used (returns-clause-drops g c)
