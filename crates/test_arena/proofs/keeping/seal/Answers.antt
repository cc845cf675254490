use Rattle.test_arena.proofs.KeepLemmas.{seal-keeps}
use Rattle.test_arena.proofs.keeping.seal.Goals as goal

pub seal-requires : goal.seal-requires
seal-requires g c =
    let victim = c.in-Some.ensures.some.candidate in
    record { below = victim.below; active = victim.active; unfilled = victim.unfilled }

pub returns-in-Some : goal.returns-in-Some
returns-in-Some g c =
    seal-keeps (g.S.Store.ledger c.args.store.now) (g.S.Store.ledger c.seal.new.self) (g.S.Frozen.records c.args.store.now) (g.S.Frozen.records c.seal.new.self)
    c.args.keeping c.in-Some.buffer c.args.keeping.last c.requires c.seal.ensures.seals c.seal.ensures.records

pub returns-in-None : goal.returns-in-None
returns-in-None g c = c.requires
