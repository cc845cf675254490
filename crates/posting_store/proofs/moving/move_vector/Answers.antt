use Rattle.std.proofs.Common.{arith}
use Rattle.std.proofs.lemmas.Result.{err_from_is_err_and}
use Rattle.posting_store.proofs.VectorLemmas.{vector_is, vector_owned}
use Rattle.posting_store.proofs.MoveLemmas.{vector_most_made, vector_moved}
use Rattle.posting_store.proofs.moving.move_vector.Goals as goal

pub move_block-requires : goal.move_block-requires
move_block-requires g c =
    let s = c.args.store.now in
    let m = g.S.Frozen.records s in
    let at = c.root_of-root.ensures in (
      omega arith,
      (
        c.requires.unit,
        (
          c.requires.sealed,
          (
            vector_is m c.args.list c.root_of-root.result at c.requires.list,
            vector_owned m c.args.list c.root_of-root.result at (g.S.Store.ledger s) c.requires.owns,
          ),
        ),
      ),
    )

pub returns-in_err-next-clause-counts : goal.returns-in_err-next-clause-counts
returns-in_err-next-clause-counts g c =
    let ledger = g.S.Store.ledger in
    let records = g.S.Frozen.records in
    let s = c.args.store.now in
    let t = c.move_block.new.store in
    vector_most_made (ledger s) (ledger t) (records s) (records t) c.args.list c.root_of-root.result c.requires.list c.requires.vector c.root_of-root.ensures c.move_block.ensures.counts

pub returns-in_err-next-clause-refuses : goal.returns-in_err-next-clause-refuses
returns-in_err-next-clause-refuses g c =
    let p = err_from_is_err_and c.from_residual.result c.from_residual.ensures.1 in rw (p.1, p.2) c.in_err-next.ensures.refuses

pub returns-clause-moves : goal.returns-clause-moves
returns-clause-moves g c =
    let ledger = g.S.Store.ledger in
    let records = g.S.Frozen.records in
    let s = c.args.store.now in
    let t = c.move_block.new.store in
    vector_moved (ledger s) (ledger t) (records s) (records t) c.args.list c.root_of-root.result c.requires.list c.requires.vector c.root_of-root.ensures
    g.row.OFFSET_BITS c.args.buffer c.args.doc c.vector.result c.in_ok-next.next c.vector.ensures.word c.vector.ensures.vector c.in_ok-next.ensures.moves c.requires.owns c.move_block.ensures.may

pub returns-clause-counts : goal.returns-clause-counts
returns-clause-counts g c =
    let ledger = g.S.Store.ledger in
    let records = g.S.Frozen.records in
    let s = c.args.store.now in
    let t = c.move_block.new.store in
    vector_most_made (ledger s) (ledger t) (records s) (records t) c.args.list c.root_of-root.result c.requires.list c.requires.vector c.root_of-root.ensures c.move_block.ensures.counts
