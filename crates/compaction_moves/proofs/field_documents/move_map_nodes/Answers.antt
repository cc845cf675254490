use Rattle.std.proofs.Common.{◌≡◌, true, refl, sym, subst, arith}
use Rattle.std.proofs.lemmas.Result.{err_from_is_err_and}
use Rattle.compaction_moves.specs.Cleared.{trees_of_roots}
use Rattle.store_api.specs.Calls.{IsUsedWidth}
use Rattle.store_api.proofs.May.{may_do-same}
use Rattle.posting_store.proofs.RefusalLemmas.{of_one}
use Rattle.compaction_moves.specs.DocumentMoves.{MovesDocumentNodes}
use Rattle.compaction_moves.proofs.MakeLemmas.{makes_map}
use Rattle.compaction_moves.proofs.MoveLemmas.{map_done, nodes_can}
use Rattle.compaction_moves.proofs.field_documents.move_map_nodes.Goals as goal

pub move_document_nodes-requires : goal.move_document_nodes-requires
move_document_nodes-requires g c =
    let bits = g.row.OFFSET_BITS in
    let plan = c.args.plan.now in
    let a = trees_of_roots c.args.field.now c.args.roots in
    let doc = c.args.doc in
    let old = g.S.Store.ledger c.args.store.now in
    let m = g.S.Frozen.records c.args.store.now in
    let can = c.requires.can in
    let asks = nodes_can bits plan a old m c.can_law.ensures.nodes doc can in (
      omega arith,
      (
        can.unit,
        (subst (λ v. old.sealed v ≡ true) (sym c.victim.ensures) can.sealed, (can.field.documents_are, (asks.1, asks.0))),
      ),
    )

pub returns-in_err-documents-clause-moved : goal.returns-in_err-documents-clause-moved
returns-in_err-documents-clause-moved g c = let p = err_from_is_err_and c.from_residual.result c.from_residual.ensures.1 in rw p.1 tt

pub returns-in_err-documents-clause-counts : goal.returns-in_err-documents-clause-counts
returns-in_err-documents-clause-counts g c =
    let a = trees_of_roots c.args.field.now c.args.roots in
    let old = g.S.Store.ledger c.args.store.now in
    let m = g.S.Frozen.records c.args.store.now in
    makes_map old (g.S.Store.ledger c.move_document_nodes.new.store) m a.kind a.type a.documents a.dictionary c.requires.can.field c.move_document_nodes.ensures.counts

pub returns-in_err-documents-clause-refuses : goal.returns-in_err-documents-clause-refuses
returns-in_err-documents-clause-refuses g c =
    let a = g.S.Store.ledger c.args.store.now in
    let m = g.S.Frozen.records c.args.store.now in
    let p = err_from_is_err_and c.from_residual.result c.from_residual.ensures.1 in
    rw (p.1, p.2) (of_one (IsUsedWidth a m) a a (g.S.Store.ledger c.move_document_nodes.new.store) 34 _ (may_do-same a) refl c.in_err-documents.ensures.used c.in_err-documents.ensures.refuses)

pub returns-in_err-documents-clause-may : goal.returns-in_err-documents-clause-may
returns-in_err-documents-clause-may g c = c.move_document_nodes.ensures.may

pub returns-clause-moved : goal.returns-clause-moved
returns-clause-moved g c =
    let bits = g.row.OFFSET_BITS in
    let plan = c.args.plan.now in
    let a = trees_of_roots c.args.field.now c.args.roots in
    let doc = c.args.doc in
    let old = g.S.Store.ledger c.args.store.now in
    let m = g.S.Frozen.records c.args.store.now in
    let new = g.S.Store.ledger c.move_document_nodes.new.store in
    let n = g.S.Frozen.records c.move_document_nodes.new.store in
    let next = c.in_ok-documents.documents in
    let can = c.requires.can in
    let leaves = c.leaves_law.ensures plan.victim c.args.store.now c.move_document_nodes.new.store can.sealed can.begun.each c.move_document_nodes.ensures.may in
    map_done bits plan a old m new n next c.index_law.ensures.stays c.keys_law.ensures c.map_law.ensures leaves doc can (nodes_can bits plan a old m c.can_law.ensures.nodes doc can).0
    (subst (λ v. MovesDocumentNodes bits v doc a.kind a.type old new m n a.documents next) c.victim.ensures c.in_ok-documents.ensures.moves)

pub returns-clause-counts : goal.returns-clause-counts
returns-clause-counts g c =
    let a = trees_of_roots c.args.field.now c.args.roots in
    let old = g.S.Store.ledger c.args.store.now in
    let m = g.S.Frozen.records c.args.store.now in
    makes_map old (g.S.Store.ledger c.move_document_nodes.new.store) m a.kind a.type a.documents a.dictionary c.requires.can.field c.move_document_nodes.ensures.counts

pub returns-clause-may : goal.returns-clause-may
returns-clause-may g c = c.move_document_nodes.ensures.may
