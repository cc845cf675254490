use Rattle.std.proofs.Common.{sym, ap, ◌∙◌, arith}
use Rattle.entry_ledger.specs.Ledgers.{entries_of}
use Rattle.store_api.specs.Calls.{with_hold}
use Rattle.entry_store.specs.Steps.{retired_by}
use Rattle.entry_store.proofs.entry_store.retire_finished.Goals as goal

pub retire_buffer-requires : goal.retire_buffer-requires
retire_buffer-requires g c = c.requires.may c.in-Some.buffer (sym c.in-Some.ensures)

pub retire-requires : goal.retire-requires
retire-requires g c = (omega arith, (sym c.in-Some.ensures, (c.requires.settled, c.requires.tagged)))

pub returns-in-Some-clause-knows : goal.returns-in-Some-clause-knows
returns-in-Some-clause-knows g c = c.retire_buffer.ensures.knows ∙ ap (with_hold (g.W.Work.knows c.args.work.now)) c.in-Some.ensures

pub returns-in-Some-clause-retired : goal.returns-in-Some-clause-retired
returns-in-Some-clause-retired g c = c.retire.ensures.retired ∙ ap (retired_by g.row.OFFSET_BITS (entries_of g.row.OFFSET_BITS c.args.entries.now)) c.in-Some.ensures

pub returns-in-None-clause-knows : goal.returns-in-None-clause-knows
returns-in-None-clause-knows g c = ap (with_hold (g.W.Work.knows c.args.work.now)) c.in-None.ensures

pub returns-in-None-clause-retired : goal.returns-in-None-clause-retired
returns-in-None-clause-retired g c = ap (retired_by g.row.OFFSET_BITS (entries_of g.row.OFFSET_BITS c.args.entries.now)) c.in-None.ensures
