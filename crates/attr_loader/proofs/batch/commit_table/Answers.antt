use Rattle.std.proofs.Common.{ap, refl, rules, subst}
use Rattle.arena_api.specs.Works.{last_image}
use Rattle.attribute_kinds.specs.Calls.{IsForRoot, RefusesCommit}
use Rattle.attr_loader.proofs.Applying.{cannot_commit, commit_number, commit_readers, keeps_of}
use Rattle.attr_loader.proofs.RoomRuns.{room_root, root_refused}
use Rattle.attr_loader.proofs.batch.commit_table.Goals as goal

pub returns-in-Ok-clause-commits : goal.returns-in-Ok-clause-commits
returns-in-Ok-clause-commits g c =
    let ledger = g.S.Store.ledger in
    let old = c.args.attribute.now in
    let new = c.commit.new.self in
    let made = c.in-Ok.ensures.commits in (
      refl,
      record {
        stays = record {
          home = search rules;
          sizes = search rules;
          readers = commit_readers (ledger old.store) (ledger new.store) _ _ _ made;
          fields = c.commit.ensures.fields;
          dense = c.commit.ensures.dense;
        };
        table = c.commit.ensures.table;
        operations = c.commit.ensures.operations;
        committed = search rules;
        committed_operations = search rules;
        number = commit_number (ledger old.store) (ledger new.store) _ _ _ made;
        image = last_image (ledger new.store).work.commits;
        told = c.in-Ok.ensures.told;
        lawful = search rules;
        image_operations = search rules;
        image_table = search rules;
      },
    )

pub returns-in-Ok-clause-room : goal.returns-in-Ok-clause-room
returns-in-Ok-clause-room g c =
    let ledger = g.S.Store.ledger in
    (c.commit.ensures.plan, room_root ledger c.args.attribute.now c.commit.new.self c.commit.ensures.fields c.commit.ensures.table c.commit.ensures.dense c.commit.ensures.makes)

pub returns-in-Err-Full-clause-commits : goal.returns-in-Err-Full-clause-commits
returns-in-Err-Full-clause-commits g c =
    let ledger = g.S.Store.ledger in
    let old = c.args.attribute.now in
    let new = c.commit.new.self in
    let h = c.in-Err-Full.ensures in (
      refl,
      cannot_commit ledger old new _ c.in-Err-Full.active c.in-Err-Full.held _ _
          (keeps_of ledger old new h.keeps c.commit.ensures.fields c.commit.ensures.dense (ap (λ v. v.committed) h.left) (ap (λ v. v.committed_operations) h.left))
          h.keeps h.left (record { refused = h.refused; width = h.width }) c.in-Err-Full.field-0-is,
    )

pub returns-in-Err-Full-clause-room : goal.returns-in-Err-Full-clause-room
returns-in-Err-Full-clause-room g c =
    let ledger = g.S.Store.ledger in
    let old = c.args.attribute.now in
    let new = c.commit.new.self in
    let refused = subst (RefusesCommit (ledger old.store) (ledger new.store)) c.in-Err-Full.field-0-is c.in-Err-Full.ensures.refused in
    let for_root = subst (IsForRoot old.fields) c.in-Err-Full.field-0-is c.in-Err-Full.ensures.width in
    root_refused ledger old new c.in-Err-Full.field-0-0 c.commit.ensures.fields c.commit.ensures.table c.commit.ensures.dense c.commit.ensures.makes for_root refused.room.is_width_of refused.room.made
