use Rattle.std.proofs.Common.{refl, inl}
use Rattle.entry_store.proofs.Compose.{one-makes, one-may}
use Rattle.entry_store.proofs.entry_store.EntryStoreStore.make_near.Goals as goal

pub returns-in-Some-clause-makes : goal.returns-in-Some-clause-makes
returns-in-Some-clause-makes g c = one-makes g.row.OFFSET_BITS _ _ _ _ _ c.args.width c.args.words.now c.in-Some.entry (inl refl) (inl refl) c.in-Some.ensures.takes

pub returns-in-Some-clause-may : goal.returns-in-Some-clause-may
returns-in-Some-clause-may g c = one-may g.row.OFFSET_BITS _ _ _ _ c.args.width c.args.words.now c.in-Some.entry c.in-Some.ensures.takes (c.args.self.now.stands.good.few_made c.args.width) refl
