use Rattle.std.proofs.Common.{◌≡◌, length, true, sym, subst, arith}
use Rattle.std.proofs.lemmas.Result.{err_from_is_err_and}
use Rattle.compaction_moves.specs.Cleared.{trees_of_roots}
use Rattle.image_format.specs.Documents.{column_at}
use Rattle.index_model.specs.Columns.{items_of}
use Rattle.compaction_moves.proofs.MakeLemmas.{makes_items}
use Rattle.compaction_moves.specs.DocumentMoves.{CanMoveItems, MovesItems}
use Rattle.compaction_moves.proofs.MoveLemmas.{items_can, items_done}
use Rattle.compaction_moves.proofs.field_documents.move_document_items.Goals as goal

pub move_items-requires : goal.move_items-requires
move_items-requires g c =
    let bits = g.row.OFFSET_BITS in
    let plan = c.args.plan.now in
    let a = trees_of_roots c.args.field.now c.args.roots in
    let doc = c.args.doc in
    let old = g.S.Store.ledger c.args.store.now in
    let m = g.S.Frozen.records c.args.store.now in
    let can = c.requires.can in (
      omega arith,
      (
        can.unit,
        (
          subst (λ v. old.sealed v ≡ true) (sym c.victim.ensures) can.sealed,
          subst (λ v. CanMoveItems bits v a.kind a.type old m a.documents a.dictionary) (sym c.victim.ensures) (items_can bits plan a old m c.can_law.ensures.items doc can),
        ),
      ),
    )

pub returns-in_err-documents-clause-moved : goal.returns-in_err-documents-clause-moved
returns-in_err-documents-clause-moved g c = let p = err_from_is_err_and c.from_residual.result c.from_residual.ensures.1 in rw p.1 tt

pub returns-in_err-documents-clause-counts : goal.returns-in_err-documents-clause-counts
returns-in_err-documents-clause-counts g c =
    let a = trees_of_roots c.args.field.now c.args.roots in
    let old = g.S.Store.ledger c.args.store.now in
    let m = g.S.Frozen.records c.args.store.now in
    makes_items old (g.S.Store.ledger c.move_items.new.store) m a.kind a.type a.documents a.dictionary c.requires.can.field
    (length (items_of (column_at a.kind a.type m a.documents) c.args.doc)) c.move_items.ensures.counts

pub returns-in_err-documents-clause-refuses : goal.returns-in_err-documents-clause-refuses
returns-in_err-documents-clause-refuses g c =
    let p = err_from_is_err_and c.from_residual.result c.from_residual.ensures.1 in rw (p.1, p.2) c.in_err-documents.ensures.refuses

pub returns-in_err-documents-clause-may : goal.returns-in_err-documents-clause-may
returns-in_err-documents-clause-may g c = c.move_items.ensures.may

pub returns-clause-moved : goal.returns-clause-moved
returns-clause-moved g c =
    let bits = g.row.OFFSET_BITS in
    let plan = c.args.plan.now in
    let a = trees_of_roots c.args.field.now c.args.roots in
    let doc = c.args.doc in
    let old = g.S.Store.ledger c.args.store.now in
    let m = g.S.Frozen.records c.args.store.now in
    let new = g.S.Store.ledger c.move_items.new.store in
    let n = g.S.Frozen.records c.move_items.new.store in
    let next = c.in_ok-documents.documents in
    let can = c.requires.can in
    items_done bits plan a old m new n next c.index_law.ensures.stays c.keys_law.ensures c.items_law.ensures doc can
    (subst (λ v. MovesItems bits v doc a.kind a.type old new m n a.documents a.dictionary next) c.victim.ensures c.in_ok-documents.ensures.moves)

pub returns-clause-counts : goal.returns-clause-counts
returns-clause-counts g c =
    let a = trees_of_roots c.args.field.now c.args.roots in
    let old = g.S.Store.ledger c.args.store.now in
    let m = g.S.Frozen.records c.args.store.now in
    makes_items old (g.S.Store.ledger c.move_items.new.store) m a.kind a.type a.documents a.dictionary c.requires.can.field
    (length (items_of (column_at a.kind a.type m a.documents) c.args.doc)) c.move_items.ensures.counts

pub returns-clause-may : goal.returns-clause-may
returns-clause-may g c = c.move_items.ensures.may
