use Rattle.std.proofs.Common.{length, ◌∙◌, arith}
use Rattle.std.proofs.lemmas.Result.{err_from_is_err_and}
use Rattle.image_format.specs.Words.{class_of}
use Rattle.array_store.proofs.RootLemmas.{one_dropped, owns_still, makes_root}
use Rattle.array_store.proofs.root.turn_root.Goals as goal

pub make_record-requires : goal.make_record-requires
make_record-requires g c = (omega arith, (c.requires.unit, c.requires.few))

pub drop_root-requires : goal.drop_root-requires
drop_root-requires g c =
    let ledger = g.S.Store.ledger in
    let records = g.S.Frozen.records in
    let old = ledger c.args.store.now in
    let mid = ledger c.make_record.new.store in
    let m = records c.args.store.now in
    let k = records c.make_record.new.store in
    (omega arith, (c.make_record.ensures.may.unit ∙ c.requires.unit, owns_still g.row.OFFSET_BITS old mid mid m k k _ c.args.before c.in_ok-root.root c.requires.owns c.in_ok-root.ensures.adds))

pub returns-clause-makes : goal.returns-clause-makes
returns-clause-makes g c =
    let ledger = g.S.Store.ledger in
    let records = g.S.Frozen.records in
    makes_root g.row.OFFSET_BITS (ledger c.args.store.now) (ledger c.make_record.new.store) (ledger c.drop_root.new.store) (records c.args.store.now) (records c.make_record.new.store) (records c.drop_root.new.store)
    _ c.args.before c.in_ok-root.root c.requires.owns c.in_ok-root.ensures.adds c.drop_root.ensures.turns c.drop_root.ensures.may.sealed

pub returns-clause-may : goal.returns-clause-may
returns-clause-may g c = c.may_do_law.ensures.then c.args.store.now c.make_record.new.store c.drop_root.new.store c.make_record.ensures.may c.drop_root.ensures.may

pub returns-in_err-root-clause-makes : goal.returns-in_err-root-clause-makes
returns-in_err-root-clause-makes g c = let p = err_from_is_err_and c.from_residual.result c.from_residual.ensures.1 in rw p.1 tt

pub returns-in_err-root-clause-refuses : goal.returns-in_err-root-clause-refuses
returns-in_err-root-clause-refuses g c = let p = err_from_is_err_and c.from_residual.result c.from_residual.ensures.1 in rw (p.1, p.2) c.in_err-root.ensures.refuses

pub returns-in_err-root-clause-none_made : goal.returns-in_err-root-clause-none_made
returns-in_err-root-clause-none_made g c = let p = err_from_is_err_and c.from_residual.result c.from_residual.ensures.1 in rw p.1 c.in_err-root.ensures.refused.none_made

pub returns-in_err-root-clause-may : goal.returns-in_err-root-clause-may
returns-in_err-root-clause-may g c = c.make_record.ensures.may

pub returns-in_err-root-clause-counts : goal.returns-in_err-root-clause-counts
returns-in_err-root-clause-counts g c = c.make_record.ensures.counts

pub returns-clause-counts : goal.returns-clause-counts
returns-clause-counts g c =
    let ledger = g.S.Store.ledger in
    one_dropped (class_of (length c.args.words.now)) (ledger c.args.store.now) (ledger c.make_record.new.store) (ledger c.drop_root.new.store)
    c.make_record.ensures.counts c.drop_root.ensures.none_made

-- (place 1: an edit of must-fail/ puts an answer of its own here)
-- (place 2: an edit of must-fail/ puts an answer of its own here)

-- (place 3: an edit of must-fail/ puts an answer of its own here)
-- (place 4: an edit of must-fail/ puts an answer of its own here)
