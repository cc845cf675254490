use Rattle.std.proofs.Common.{subst}
use Rattle.attr_loader.specs.Batches.{CommitsBatch, CommitsRoot}
use Rattle.attr_loader.proofs.Applying.{commits_on}
use Rattle.attr_loader.proofs.RoomRuns.{quiet_then}
use Rattle.attr_loader.specs.Made.{after_root}
use Rattle.attr_loader.proofs.batch.commit_all.Goals as goal

pub returns-in_ok-compact_after-in-Done-clause-commits : goal.returns-in_ok-compact_after-in-Done-clause-commits
returns-in_ok-compact_after-in-Done-clause-commits g c =
    let ledger = g.S.Store.ledger in
    let made = subst (CommitsBatch ledger c.args.attribute.now c.commit_table.new.attribute c.args.count c.args.skipped) c.in-Done.is c.in_ok-more.ensures.commits in
    commits_on ledger c.args.attribute.now c.commit_table.new.attribute c.compact_after.new.attribute c.args.count c.args.skipped c.in-Done.more made c.in_ok-compact_after-in-Done.ensures.keeps

pub returns-in_ok-compact_after-in-Done-clause-room : goal.returns-in_ok-compact_after-in-Done-clause-room
returns-in_ok-compact_after-in-Done-clause-room g c =
    let ledger = g.S.Store.ledger in
    let mid = c.commit_table.new.attribute in
    let made = subst (CommitsBatch ledger c.args.attribute.now mid c.args.count c.args.skipped) c.in-Done.is c.in_ok-more.ensures.commits in
    let root = subst (CommitsRoot ledger c.args.attribute.now mid) c.in-Done.is c.in_ok-more.ensures.room in (
      λ steps start. c.compact_after.ensures.room (after_root steps) (root.1 steps start),
      quiet_then ledger c.args.attribute.now mid c.compact_after.new.attribute after_root (λ steps. steps) root made.1.stays.sizes made.1.stays.fields made.1.stays.dense c.compact_after.ensures.quiet,
    )

pub returns-in-Full-clause-commits : goal.returns-in-Full-clause-commits
returns-in-Full-clause-commits g c =
    subst (CommitsBatch g.S.Store.ledger c.args.attribute.now c.commit_table.new.attribute c.args.count c.args.skipped) c.in-Full.is c.in_ok-more.ensures.commits

pub returns-in-Full-clause-room : goal.returns-in-Full-clause-room
returns-in-Full-clause-room g c =
    subst (CommitsRoot g.S.Store.ledger c.args.attribute.now c.commit_table.new.attribute) c.in-Full.is c.in_ok-more.ensures.room
