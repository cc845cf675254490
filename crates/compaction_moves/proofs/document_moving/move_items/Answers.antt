use Rattle.std.proofs.Common.{◌≡◌, ◌+◌, ◌*◌, true, length, refl, sym, subst, arith}
use Rattle.std.specs.Prelude.{IfOk, IfErr}
use Rattle.store_api.specs.Calls.{IsUsedWidth, RefusesOf}
use Rattle.store_api.specs.Units.{MayDo, MakesWithin}
use Rattle.store_api.proofs.May.{may_do-same}
use Rattle.frozen_btree.specs.Changes.{levels}
use Rattle.image_format.specs.Documents.{column_at}
use Rattle.index_model.specs.Columns.{items_of}
use Rattle.value_index.proofs.CountLemmas.{within_none}
use Rattle.attr_field.specs.DocumentsChanges.{documents_most}
use Rattle.compaction_moves.specs.DocumentMoves.{CanMoveItems, MovesItems}
use Rattle.compaction_moves.proofs.DocumentSetLemmas.{items_unmoved}
use Rattle.compaction_moves.proofs.document_moving.move_items.Goals as goal

pub document_lies-requires : goal.document_lies-requires
document_lies-requires g c = (omega arith, c.requires.can.documents_are)

pub returns-then-not-document_lies-clause-moves : goal.returns-then-not-document_lies-clause-moves
returns-then-not-document_lies-clause-moves g c =
    let ledger = g.S.Store.ledger in
    let records = g.S.Frozen.records in
    let a = ledger c.args.store.now in
    let m = records c.args.store.now in
    let kind = c.args.kind in
    let type = c.args.value_type in
    let root = c.args.documents in
    subst (λ s. MovesItems g.row.OFFSET_BITS c.args.buffer c.args.doc kind type a (ledger s) m (records s) root c.args.dictionary root) (sym c.document_lies.ensures.same)
    (items_unmoved g.row.OFFSET_BITS c.args.buffer kind type a m root c.args.dictionary c.args.doc c.requires.can (c.document_lies.ensures.away c.if-not-document_lies.true))

pub returns-then-not-document_lies-clause-still : goal.returns-then-not-document_lies-clause-still
returns-then-not-document_lies-clause-still g c apart = refl

pub returns-then-not-document_lies-clause-counts : goal.returns-then-not-document_lies-clause-counts
returns-then-not-document_lies-clause-counts g c =
    let ledger = g.S.Store.ledger in
    let a = ledger c.args.store.now in
    let m = g.S.Frozen.records c.args.store.now in
    let most = documents_most c.args.kind (length (items_of (column_at c.args.kind c.args.value_type m c.args.documents) c.args.doc)) (2 * levels m c.args.documents + 1) in
    subst (λ s. MakesWithin a (ledger s) most) (sym c.document_lies.ensures.same) (within_none a most)

pub returns-then-not-document_lies-clause-may : goal.returns-then-not-document_lies-clause-may
returns-then-not-document_lies-clause-may g c =
    let ledger = g.S.Store.ledger in
    subst (λ s. MayDo (ledger c.args.store.now) (ledger s)) (sym c.document_lies.ensures.same) (may_do-same (ledger c.args.store.now))

pub read_again-requires : goal.read_again-requires
read_again-requires g c =
    let ledger = g.S.Store.ledger in
    let records = g.S.Frozen.records in
    let same = sym c.document_lies.ensures.same in (
      omega arith,
      (
        subst (λ s. (ledger s).unit ≡ true) same c.requires.unit,
        (
          subst (λ s. (ledger s).sealed c.args.buffer ≡ true) same c.requires.sealed,
          subst (λ s. CanMoveItems g.row.OFFSET_BITS c.args.buffer c.args.kind c.args.value_type (ledger s) (records s) c.args.documents c.args.dictionary) same c.requires.can,
        ),
      ),
    )

pub returns-clause-moves : goal.returns-clause-moves
returns-clause-moves g c =
    let ledger = g.S.Store.ledger in
    let records = g.S.Frozen.records in
    let t = c.read_again.new.store in
    subst (λ s. IfOk c.read_again.result (MovesItems g.row.OFFSET_BITS c.args.buffer c.args.doc c.args.kind c.args.value_type (ledger s) (ledger t) (records s) (records t) c.args.documents c.args.dictionary))
    c.document_lies.ensures.same c.read_again.ensures.moves

pub returns-clause-still : goal.returns-clause-still
returns-clause-still g c apart = absurd (c.document_lies.ensures.lies c.if-not-document_lies.false apart)

pub returns-clause-counts : goal.returns-clause-counts
returns-clause-counts g c =
    let ledger = g.S.Store.ledger in
    let records = g.S.Frozen.records in
    let t = c.read_again.new.store in
    subst (λ s. MakesWithin (ledger s) (ledger t) (documents_most c.args.kind (length (items_of (column_at c.args.kind c.args.value_type (records s) c.args.documents) c.args.doc))
    (2 * levels (records s) c.args.documents + 1))) c.document_lies.ensures.same c.read_again.ensures.counts

pub returns-clause-refuses : goal.returns-clause-refuses
returns-clause-refuses g c =
    let ledger = g.S.Store.ledger in
    subst (λ s. IfErr c.read_again.result (RefusesOf (IsUsedWidth (ledger s) (g.S.Frozen.records s)) (ledger s) (ledger c.read_again.new.store))) c.document_lies.ensures.same c.read_again.ensures.refuses

pub returns-clause-may : goal.returns-clause-may
returns-clause-may g c =
    let ledger = g.S.Store.ledger in
    subst (λ s. MayDo (ledger s) (ledger c.read_again.new.store)) c.document_lies.ensures.same c.read_again.ensures.may
