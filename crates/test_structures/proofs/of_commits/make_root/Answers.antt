use Rattle.std.proofs.Common.{◌≡◌, ◌∙◌, [], ◌∷◌, ap, arith}
use Rattle.entry_ref.specs.References.{buffer_of}
use Rattle.store_api.specs.Parts.{entry}
use Rattle.store_api.proofs.UnitLemmas.{turns-accept}
use Rattle.store_api.proofs.PartLemmas.{all-then}
use Rattle.store_api.proofs.UnitLemmas.{apart-from}
use Rattle.test_structures.proofs.Roots.{begun-all, same-all}
use Rattle.test_structures.proofs.of_commits.make_root.Goals as goal

pub returns-clause-owns : goal.returns-clause-owns
returns-clause-owns g c =
    let ledger = g.S.Store.ledger in
    let records = g.S.Frozen.records in
    let root = c.in_ok-root.root in
    let begun = begun-all (ledger c.args.store.now) (ledger c.begin.new.self) (records c.args.store.now) (records c.begin.new.self) [] c.begin.ensures.ledger c.begin.ensures.records c.requires.owns in
    let made = all-then (ledger c.begin.new.self) (ledger c.make_entry.new.store) (records c.begin.new.self) (records c.make_entry.new.store) [] (entry root ∷ []) begun c.in_ok-root.ensures.turns in
    same-all (ledger c.make_entry.new.store) (ledger c.accept.new.self) (records c.make_entry.new.store) (records c.accept.new.self) root made
    (turns-accept (ledger c.make_entry.new.store) (ledger c.accept.new.self) (records c.make_entry.new.store) (records c.accept.new.self) c.accept.ensures)

pub returns-clause-apart : goal.returns-clause-apart
returns-clause-apart g c =
    let after = g.S.Store.ledger c.accept.new.self in
    apart-from after.finished after.sealed (buffer_of g.row.OFFSET_BITS c.in_ok-root.root) (λ b is. g.met.S.Store.finished c.accept.new.self b is)
    (ap (λ f. f (buffer_of g.row.OFFSET_BITS c.in_ok-root.root)) c.accept.ensures.sealed ∙ c.in_ok-root.ensures.unsealed)
