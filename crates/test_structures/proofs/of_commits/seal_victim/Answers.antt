use Rattle.std.proofs.Common.{ℕ, ◌≡◌, ◌∙◌, true, cond, refl, ap}
use Rattle.store_api.specs.Statuses.{Status}
use Rattle.store_api.specs.Ledgers.{Ledger}
use Rattle.std.proofs.lemmas.Bool.{eq-eqb}
use Rattle.test_structures.proofs.Roots.{quiet-none}
use Rattle.test_structures.proofs.of_commits.seal_victim.Goals as goal

pub seal-requires : goal.seal-requires
seal-requires g c =
    let victim = c.in-Some.ensures.some.candidate in
    record { below = victim.below; active = victim.active; unfilled = victim.unfilled }

pub finish-requires-clause-sealed : goal.finish-requires-clause-sealed
finish-requires-clause-sealed g c =
    let b = c.in-Some.buffer in
    c.seal.ensures.seals.sealed b ∙ ap (λ t. cond t true ((g.S.Store.ledger c.args.store.now).sealed b)) (eq-eqb b b refl)

pub finish-requires-clause-none : goal.finish-requires-clause-none
finish-requires-clause-none g c = ap (λ l. l.finished) c.seal.ensures.seals.same ∙ c.requires.none

pub returns-then-finishes-clause-unit : goal.returns-then-finishes-clause-unit
returns-then-finishes-clause-unit g c = ap (λ l. l.unit) c.finish.ensures.ledger ∙ ap (λ l. l.unit) c.seal.ensures.seals.same ∙ c.requires.unit

pub returns-then-finishes-clause-owns : goal.returns-then-finishes-clause-owns
returns-then-finishes-clause-owns g c =
    quiet-none (g.S.Store.ledger c.args.store.now) (g.S.Store.ledger c.finish.new.self) (g.S.Frozen.records c.args.store.now) (g.S.Frozen.records c.finish.new.self)
    (ap (λ l. l.status) c.finish.ensures.ledger ∙ ap (λ l. l.status) c.seal.ensures.seals.same) c.requires.owns

pub returns-else-finishes-clause-unit : goal.returns-else-finishes-clause-unit
returns-else-finishes-clause-unit g c = ap (λ l. l.unit) c.seal.ensures.seals.same ∙ c.requires.unit

pub returns-else-finishes-clause-owns : goal.returns-else-finishes-clause-owns
returns-else-finishes-clause-owns g c =
    quiet-none (g.S.Store.ledger c.args.store.now) (g.S.Store.ledger c.seal.new.self) (g.S.Frozen.records c.args.store.now) (g.S.Frozen.records c.seal.new.self)
    (ap (λ l. l.status) c.seal.ensures.seals.same) c.requires.owns

pub returns-in-None-clause-unit : goal.returns-in-None-clause-unit
returns-in-None-clause-unit g c = c.requires.unit

pub returns-in-None-clause-owns : goal.returns-in-None-clause-owns
returns-in-None-clause-owns g c = c.requires.owns
