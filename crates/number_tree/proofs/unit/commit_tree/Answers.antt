use Rattle.std.proofs.Common.{arith}
use Rattle.tree_read.specs.ProofsForTrees.{tree_pairs-same}
use Rattle.number_tree.proofs.HoldLemmas.{tree_whole, same_commit, holds_commit, sizes_commit}
use Rattle.number_tree.proofs.unit.commit_tree.Goals as goal

pub commit-requires : goal.commit-requires
commit-requires g c =
    let m = g.S.Frozen.records c.args.store.now in
    let ledger = g.S.Store.ledger c.args.store.now in
    (omega arith, (c.requires.holds.unit, (c.requires.holds.is_tree, (c.requires.room, tree_whole g.row.OFFSET_BITS ledger ledger m m c.args.root c.requires.holds))))

pub returns-clause-holds : goal.returns-clause-holds
returns-clause-holds g c = holds_commit g.row.OFFSET_BITS (g.S.Store.ledger c.args.store.now) (g.S.Store.ledger c.commit.new.self) (g.S.Frozen.records c.args.store.now)
    (g.S.Frozen.records c.commit.new.self) c.args.root c.requires.holds c.commit.result c.commit.ensures.records c.commit.ensures.stores

pub returns-clause-sizes : goal.returns-clause-sizes
returns-clause-sizes g c = sizes_commit g.row.OFFSET_BITS (g.S.Store.ledger c.args.store.now) (g.S.Store.ledger c.commit.new.self) (g.S.Frozen.records c.args.store.now)
    (g.S.Frozen.records c.commit.new.self) c.args.root c.requires.holds c.commit.result c.commit.ensures.records c.commit.ensures.stores

pub returns-clause-pairs : goal.returns-clause-pairs
returns-clause-pairs g c =
    tree_pairs-same (g.S.Frozen.records c.args.store.now) (g.S.Frozen.records c.commit.new.self) c.args.root
    (same_commit g.row.OFFSET_BITS (g.S.Store.ledger c.args.store.now) (g.S.Store.ledger c.commit.new.self) (g.S.Frozen.records c.args.store.now)
    (g.S.Frozen.records c.commit.new.self) c.args.root c.requires.holds c.commit.result c.commit.ensures.records c.commit.ensures.stores)
