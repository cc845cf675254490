use Rattle.std.proofs.Common.{rules, ◌≡◌, arith}
use Rattle.test_structures.proofs.Roots.{one-there, there, whole, committed}
use Rattle.test_structures.proofs.of_commits.commit_root.Goals as goal

pub commit-requires : goal.commit-requires
commit-requires g c =
    let s = c.args.store.now in
    let r = c.args.root in (
      omega arith,
      (
        c.requires.unit,
        (
          one-there (g.S.Frozen.shape s) (g.S.Frozen.records s) r
              (there g.row.OFFSET_BITS (g.S.Frozen.shape s) (g.S.Store.ledger s) (g.S.Frozen.records s) r c.requires.owns (g.met.S.Store.recorded s r) (g.met.S.Store.placed s r)),
          (
            search rules,
            whole g.row.OFFSET_BITS (g.S.Frozen.shape s) (g.S.Store.ledger s) (g.S.Frozen.records s) r c.requires.owns (g.met.S.Store.recorded s r) (g.met.S.Store.placed s r) c.requires.apart,
          ),
        ),
      ),
    )

pub returns-clause-owns : goal.returns-clause-owns
returns-clause-owns g c =
    let s = c.args.store.now in
    let r = c.args.root in
    committed g.row.OFFSET_BITS (g.S.Frozen.shape s) (g.S.Store.ledger s) (g.S.Frozen.records s) r c.requires.owns (g.met.S.Store.recorded s r) (g.met.S.Store.placed s r) c.requires.apart
    (g.S.Store.ledger c.commit.new.self) (g.S.Frozen.records c.commit.new.self) c.commit.result c.commit.ensures.stores
