use Rattle.std.proofs.Common.{length, map}
use Rattle.image_format.specs.Words.{unpacked}
use Rattle.store_api.proofs.May.{may_do-then}
use Rattle.posting_store.specs.Changes.{list_most}
use Rattle.posting_store.proofs.ChangeLemmas.{old_stays, old_owned, replaces, counts_then}
use Rattle.posting_store.proofs.replacing.replace_list.Goals as goal

pub drop_list-requires-clause-list : goal.drop_list-requires-clause-list
drop_list-requires-clause-list g c =
    let ledger = g.S.Store.ledger in
    let records = g.S.Frozen.records in
    let s = c.args.store.now in
    let t = c.make_list.new.store in
    old_stays (ledger s) (ledger t) (ledger t) (records s) (records t) (records t) c.args.list c.in_ok-next.next (map unpacked c.args.items.now) c.requires.owns c.in_ok-next.ensures.makes c.requires.list

pub drop_list-requires-clause-owns : goal.drop_list-requires-clause-owns
drop_list-requires-clause-owns g c =
    let ledger = g.S.Store.ledger in
    let records = g.S.Frozen.records in
    let s = c.args.store.now in
    let t = c.make_list.new.store in
    old_owned (ledger s) (ledger t) (ledger t) (records s) (records t) (records t) c.args.list c.in_ok-next.next (map unpacked c.args.items.now) c.requires.owns c.in_ok-next.ensures.makes

pub returns-clause-makes : goal.returns-clause-makes
returns-clause-makes g c =
    let ledger = g.S.Store.ledger in
    let records = g.S.Frozen.records in
    let s = c.args.store.now in
    let t = c.make_list.new.store in
    let u = c.drop_list.new.store in
    replaces (ledger s) (ledger t) (ledger u) (records s) (records t) (records u) c.args.list c.in_ok-next.next (map unpacked c.args.items.now)
    c.requires.owns c.in_ok-next.ensures.makes c.make_list.ensures.may c.drop_list.ensures.turns

pub returns-clause-counts : goal.returns-clause-counts
returns-clause-counts g c =
    let ledger = g.S.Store.ledger in
    counts_then (ledger c.args.store.now) (ledger c.make_list.new.store) (ledger c.drop_list.new.store) (list_most 0 (length c.args.items.now)) c.make_list.ensures.counts c.drop_list.ensures.none_made

pub returns-clause-may : goal.returns-clause-may
returns-clause-may g c = may_do-then _ _ _ c.make_list.ensures.may c.drop_list.ensures.may

-- (place 1: an edit of must-fail/ puts an answer of its own here)
-- (place 2: an edit of must-fail/ puts an answer of its own here)

-- (place 3: an edit of must-fail/ puts an answer of its own here)
-- (place 4: an edit of must-fail/ puts an answer of its own here)

-- (place 5: an edit of must-fail/ puts an answer of its own here)
-- (place 6: an edit of must-fail/ puts an answer of its own here)

-- (place 7: an edit of must-fail/ puts an answer of its own here)
-- (place 8: an edit of must-fail/ puts an answer of its own here)
