use Rattle.entry_store.proofs.Sealing.{usage-is}
use Rattle.entry_store.proofs.entry_store.EntryStoreStore.usage.Goals as goal

pub returns : goal.returns
returns g c =
    let s = c.args.self.now in
    usage-is g.row.OFFSET_BITS _ (g.W.Frozen.shape s.work) _ _ s.unit s.stands c.active.result c.on_hold.result c.words-words.result c.active.ensures c.on_hold.ensures c.words-words.ensures
