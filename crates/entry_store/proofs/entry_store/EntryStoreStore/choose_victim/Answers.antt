use Rattle.entry_store.proofs.Sealing.{victim-is, no-victim}
use Rattle.entry_store.proofs.entry_store.EntryStoreStore.choose_victim.Goals as goal

pub returns-clause-some : goal.returns-clause-some
returns-clause-some g c =
    let s = c.args.self.now in
    victim-is g.row.OFFSET_BITS _ (g.W.Frozen.shape s.work) _ _ s.unit s.stands c.choose_victim.result c.choose_victim.ensures.victim

pub returns-clause-none : goal.returns-clause-none
returns-clause-none g c =
    let s = c.args.self.now in
    no-victim g.row.OFFSET_BITS _ (g.W.Frozen.shape s.work) _ _ s.unit s.stands c.choose_victim.result c.choose_victim.ensures.none
