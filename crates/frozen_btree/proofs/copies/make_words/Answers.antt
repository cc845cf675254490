use Rattle.std.proofs.lemmas.Result.{IfOk-weaker}
use Rattle.frozen_nodes.proofs.MadeLemmas.{makes-any}
use Rattle.frozen_btree.proofs.TouchLemmas.{copies-made}
use Rattle.frozen_btree.proofs.copies.make_words.Goals as goal

pub returns-clause-copies : goal.returns-clause-copies
returns-clause-copies g c =
    let ledger = g.S.Store.ledger in
    let records = g.S.Frozen.records in
    let s = c.args.store.now in
    let t = c.make_near.new.self in
    let e = c.make_near.ensures in
    IfOk-weaker c.make_near.result _ _ (λ ref makes. copies-made g.row.OFFSET_BITS (ledger s) (ledger t) (records s) (records t) c.args.words.now ref c.told-words makes e.may) e.makes

pub returns-clause-nodes : goal.returns-clause-nodes
returns-clause-nodes g c =
    let ledger = g.S.Store.ledger in
    let records = g.S.Frozen.records in
    let s = c.args.store.now in
    let t = c.make_near.new.self in
    let e = c.make_near.ensures in
    makes-any g.row.OFFSET_BITS (ledger s) (ledger t) (records s) (records t) c.args.words.now c.make_near.result e.makes e.refused e.left e.may
