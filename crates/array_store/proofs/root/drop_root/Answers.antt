use Rattle.std.proofs.Common.{arith, refl, sym, true≢false}
use Rattle.store_api.proofs.Counts.{at_most-none}
use Rattle.array_store.proofs.RootLemmas.{owns_root, drops_root, drops_nothing}
use Rattle.array_store.proofs.root.drop_root.Goals as goal

pub valid-requires : goal.valid-requires
valid-requires g c = omega arith

pub drop_one-requires : goal.drop_one-requires
drop_one-requires g c =
    let ledger = g.S.Store.ledger c.args.store.now in
    let m = g.S.Frozen.records c.args.store.now in
    (omega arith, (c.requires.unit, owns_root ledger ledger m m c.args.root (c.if-valid.ensures.0 refl) c.requires.owns))

pub returns-then-valid-clause-turns : goal.returns-then-valid-clause-turns
returns-then-valid-clause-turns g c =
    let ledger = g.S.Store.ledger in
    let records = g.S.Frozen.records in
    drops_root (ledger c.args.store.now) (ledger c.drop_one.new.store) (records c.args.store.now) (records c.drop_one.new.store) c.args.root (c.if-valid.ensures.0 refl) c.drop_one.ensures.turns

pub returns-then-valid-clause-may : goal.returns-then-valid-clause-may
returns-then-valid-clause-may g c = c.drop_one.ensures.may

pub returns-else-valid-clause-turns : goal.returns-else-valid-clause-turns
returns-else-valid-clause-turns g c = drops_nothing (g.S.Store.ledger c.args.store.now) (g.S.Frozen.records c.args.store.now) c.args.root (λ some. true≢false (sym (c.if-valid.ensures.1 some)))

pub returns-else-valid-clause-may : goal.returns-else-valid-clause-may
returns-else-valid-clause-may g c = c.may_do_law.ensures.same c.args.store.now

pub returns-then-valid-clause-none_made : goal.returns-then-valid-clause-none_made
returns-then-valid-clause-none_made g c = c.drop_one.ensures.none_made

pub returns-else-valid-clause-none_made : goal.returns-else-valid-clause-none_made
returns-else-valid-clause-none_made g c = λ k w. at_most-none k ((g.S.Store.ledger c.args.store.now).of_width w)
