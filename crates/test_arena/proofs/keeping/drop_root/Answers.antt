use Rattle.std.proofs.Common.{ℕ, ◌<◌, [], ◌∷◌, sym, subst, arith}
use Rattle.store_api.specs.Parts.{Owns, Turns, entry}
use Rattle.store_api.proofs.May.{may_do-same}
use Rattle.test_arena.proofs.KeepLemmas.{drops-none, drops-root, owns-root}
use Rattle.test_arena.proofs.keeping.drop_root.Goals as goal

pub from_raw-requires : goal.from_raw-requires
from_raw-requires g c = omega arith

pub drop_one-requires : goal.drop_one-requires
drop_one-requires g c =
    let s = c.args.store.now in
    let some : 0 < c.args.root = let is = c.if-root-gt0.true in omega arith in (
      omega arith,
      (
        c.requires.unit,
        subst (λ (q : ℕ). Owns (g.S.Store.ledger s) (g.S.Frozen.records s) (entry q ∷ [])) (sym c.from_raw.ensures)
            (owns-root (g.S.Store.ledger s) (g.S.Frozen.records s) c.args.root some c.requires.owns),
      ),
    )

pub returns-then-root-gt0-clause-turns : goal.returns-then-root-gt0-clause-turns
returns-then-root-gt0-clause-turns g c =
    let s = c.args.store.now in
    let t = c.drop_one.new.store in
    let some : 0 < c.args.root = let is = c.if-root-gt0.true in omega arith in
    drops-root (g.S.Store.ledger s) (g.S.Store.ledger t) (g.S.Frozen.records s) (g.S.Frozen.records t) c.args.root some
    (subst (λ (q : ℕ). Turns (g.S.Store.ledger s) (g.S.Store.ledger t) (g.S.Frozen.records s) (g.S.Frozen.records t) (entry q ∷ []) []) c.from_raw.ensures c.drop_one.ensures.turns)

pub returns-then-root-gt0-clause-may : goal.returns-then-root-gt0-clause-may
returns-then-root-gt0-clause-may g c = c.drop_one.ensures.may

pub returns-else-root-gt0-clause-turns : goal.returns-else-root-gt0-clause-turns
returns-else-root-gt0-clause-turns g c =
    let s = c.args.store.now in
    drops-none (g.S.Store.ledger s) (g.S.Frozen.records s) c.args.root (let not = c.if-root-gt0.false in omega arith)

pub returns-else-root-gt0-clause-may : goal.returns-else-root-gt0-clause-may
returns-else-root-gt0-clause-may g c = may_do-same (g.S.Store.ledger c.args.store.now)
