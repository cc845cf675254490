use Rattle.posting_store.proofs.ChangeLemmas.{makes_short, counts_short, is_short_width}
use Rattle.posting_store.proofs.making.make_short.Goals as goal
use Rattle.posting_store.proofs.RefusalLemmas.{of_one}
use Rattle.posting_store.specs.Changes.{IsListWidth}
use Rattle.array_store.proofs.ClassLemmas.{class_width}
use Rattle.store_api.proofs.May.{may_do-same}
use Rattle.std.proofs.Common.{length, ◌+◌}
use Rattle.image_format.specs.Words.{class_of}
use Rattle.std.proofs.lemmas.Result.{err_from_is_err_and}

pub returns-in_err-record-clause-counts : goal.returns-in_err-record-clause-counts
returns-in_err-record-clause-counts g c =
    counts_short (g.S.Store.ledger c.args.store.now) (g.S.Store.ledger c.add.new.store) (length c.args.items.now) c.requires.few c.add.ensures.counts

pub returns-clause-makes : goal.returns-clause-makes
returns-clause-makes g c =
    makes_short (g.S.Store.ledger c.args.store.now) (g.S.Store.ledger c.add.new.store) (g.S.Frozen.records c.args.store.now) (g.S.Frozen.records c.add.new.store)
    g.row.OFFSET_BITS c.short.result c.in_ok-record.record c.args.items.now c.short.ensures.word c.short.ensures.plain c.requires.some c.requires.few c.requires.documents
    c.in_ok-record.ensures.items c.in_ok-record.ensures.adds

pub returns-clause-counts : goal.returns-clause-counts
returns-clause-counts g c =
    counts_short (g.S.Store.ledger c.args.store.now) (g.S.Store.ledger c.add.new.store) (length c.args.items.now) c.requires.few c.add.ensures.counts

pub returns-in_err-record-clause-refuses : goal.returns-in_err-record-clause-refuses
returns-in_err-record-clause-refuses g c =
    let a = g.S.Store.ledger c.args.store.now in
    let size = length c.args.items.now in
    let p = err_from_is_err_and c.from_residual.result c.from_residual.ensures.1 in
    rw (p.1, p.2) (of_one (IsListWidth size) a a (g.S.Store.ledger c.add.new.store) (class_of (1 + size)) _ (may_do-same a) (class_width (1 + size))
    (is_short_width size c.requires.some c.requires.few) c.in_err-record.ensures.refuses)
