use Rattle.std.proofs.Common.{arith}
use Rattle.test_structures.proofs.Roots.{none-new}
use Rattle.test_structures.proofs.of_commits.replace_roots.Goals as goal

pub make_root-requires : goal.make_root-requires
make_root-requires g c = (omega arith, (c.requires.new.unit, (c.requires.width, none-new (g.S.Store.ledger c.args.store.now) (g.S.Frozen.records c.args.store.now) c.requires.new)))

pub commit_root-requires : goal.commit_root-requires
commit_root-requires g c = (omega arith, (c.in_ok-first.ensures.unit, (c.in_ok-first.ensures.owns, c.in_ok-first.ensures.apart)))

pub next_root-requires : goal.next_root-requires
next_root-requires g c = (omega arith, (c.commit_root.ensures.unit, (c.requires.width, c.commit_root.ensures.owns)))

pub commit_root-requires-2 : goal.commit_root-requires-2
commit_root-requires-2 g c = (omega arith, (c.in_ok-second.ensures.unit, (c.in_ok-second.ensures.owns, c.in_ok-second.ensures.apart)))

pub next_root-requires-2 : goal.next_root-requires-2
next_root-requires-2 g c = (omega arith, (c.commit_root-2.ensures.unit, (c.requires.width, c.commit_root-2.ensures.owns)))

pub commit_root-requires-3 : goal.commit_root-requires-3
commit_root-requires-3 g c = (omega arith, (c.in_ok-third.ensures.unit, (c.in_ok-third.ensures.owns, c.in_ok-third.ensures.apart)))

pub next_root-requires-3 : goal.next_root-requires-3
next_root-requires-3 g c = (omega arith, (c.commit_root-3.ensures.unit, (c.requires.width, c.commit_root-3.ensures.owns)))

pub commit_root-last-requires : goal.commit_root-last-requires
commit_root-last-requires g c = (omega arith, (c.in_ok-fourth.ensures.unit, (c.in_ok-fourth.ensures.owns, c.in_ok-fourth.ensures.apart)))

pub raw-requires : goal.raw-requires
raw-requires g c = omega arith

pub raw-requires-2 : goal.raw-requires-2
raw-requires-2 g c = omega arith

pub raw-requires-3 : goal.raw-requires-3
raw-requires-3 g c = omega arith

pub raw-requires-4 : goal.raw-requires-4
raw-requires-4 g c = omega arith
