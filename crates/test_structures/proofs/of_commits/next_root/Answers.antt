use Rattle.std.proofs.Common.{◌≡◌, ◌∙◌, [], ◌∷◌, ap, arith}
use Rattle.entry_ref.specs.References.{buffer_of}
use Rattle.store_api.specs.Parts.{entry}
use Rattle.store_api.proofs.UnitLemmas.{turns-accept}
use Rattle.store_api.proofs.UnitLemmas.{apart-from}
use Rattle.test_structures.proofs.Roots.{begun-all, more-all, rest-owns, less-all, same-all}
use Rattle.test_structures.proofs.of_commits.next_root.Goals as goal

pub drop_one-requires : goal.drop_one-requires
drop_one-requires g c =
    let ledger = g.S.Store.ledger in
    let records = g.S.Frozen.records in
    let begun = begun-all (ledger c.args.store.now) (ledger c.begin.new.self) (records c.args.store.now) (records c.begin.new.self)
    (entry c.args.root ∷ []) c.begin.ensures.ledger c.begin.ensures.records c.requires.owns in
    let made = more-all (ledger c.begin.new.self) (ledger c.make_entry.new.store) (ledger c.make_entry.new.store) (records c.begin.new.self) (records c.make_entry.new.store)
    (records c.make_entry.new.store) c.args.root c.in_ok-next.next begun c.in_ok-next.ensures.turns in (
      omega arith,
      (
        c.make_entry.ensures.may.unit ∙ ap (λ l. l.unit) c.begin.ensures.ledger,
        rest-owns (ledger c.make_entry.new.store) (ledger c.make_entry.new.store) (ledger c.make_entry.new.store)
            (records c.make_entry.new.store) (records c.make_entry.new.store) (records c.make_entry.new.store) c.args.root c.in_ok-next.next made,
      ),
    )

pub returns-clause-owns : goal.returns-clause-owns
returns-clause-owns g c =
    let ledger = g.S.Store.ledger in
    let records = g.S.Frozen.records in
    let begun = begun-all (ledger c.args.store.now) (ledger c.begin.new.self) (records c.args.store.now) (records c.begin.new.self)
    (entry c.args.root ∷ []) c.begin.ensures.ledger c.begin.ensures.records c.requires.owns in
    let made = more-all (ledger c.begin.new.self) (ledger c.make_entry.new.store) (ledger c.make_entry.new.store) (records c.begin.new.self) (records c.make_entry.new.store)
    (records c.make_entry.new.store) c.args.root c.in_ok-next.next begun c.in_ok-next.ensures.turns in
    let left = less-all (ledger c.make_entry.new.store) (ledger c.make_entry.new.store) (ledger c.drop_one.new.store) (records c.make_entry.new.store) (records c.make_entry.new.store)
    (records c.drop_one.new.store) c.args.root c.in_ok-next.next made c.drop_one.ensures.turns in
    same-all (ledger c.drop_one.new.store) (ledger c.accept.new.self) (records c.drop_one.new.store) (records c.accept.new.self) c.in_ok-next.next left
    (turns-accept (ledger c.drop_one.new.store) (ledger c.accept.new.self) (records c.drop_one.new.store) (records c.accept.new.self) c.accept.ensures)

pub returns-clause-apart : goal.returns-clause-apart
returns-clause-apart g c =
    let after = g.S.Store.ledger c.accept.new.self in
    apart-from after.finished after.sealed (buffer_of g.row.OFFSET_BITS c.in_ok-next.next) (λ b is. g.met.S.Store.finished c.accept.new.self b is)
    (ap (λ f. f (buffer_of g.row.OFFSET_BITS c.in_ok-next.next)) (c.accept.ensures.sealed ∙ c.drop_one.ensures.may.sealed) ∙ c.in_ok-next.ensures.unsealed)
