use Rattle.std.proofs.Common.{◌≡◌, ℕ, ◌+◌, ◌*◌, [], Some, true, length, sym, ap, subst, ◌∙◌, arith}
use Rattle.std.specs.Prelude.{IfOk, IfErr, unwrap_or}
use Rattle.std.specs.BTreeMap.{is_at}
use Rattle.std.specs.Map.{lookup}
use Rattle.std.specs.Ordering.{nat_cmp}
use Rattle.store_api.specs.Calls.{IsUsedWidth, RefusesOf}
use Rattle.store_api.specs.Units.{MayDo, MakesWithin}
use Rattle.store_api.proofs.May.{may_do-same}
use Rattle.frozen_btree.specs.Changes.{levels}
use Rattle.image_format.specs.Documents.{column_at}
use Rattle.index_model.specs.Columns.{items_of}
use Rattle.value_index.proofs.CountLemmas.{within_none}
use Rattle.attr_field.specs.DocumentsChanges.{documents_most}
use Rattle.compaction_moves.specs.DocumentMoves.{CanMoveItems, MovesItems}
use Rattle.compaction_moves.proofs.DocumentSetLemmas.{none_unmoved}
use Rattle.compaction_moves.proofs.document_moving.read_again.Goals as goal

pub document_items-requires : goal.document_items-requires
document_items-requires g c = (omega arith, c.requires.can.documents_are)

pub returns-in_default-clause-counts : goal.returns-in_default-clause-counts
returns-in_default-clause-counts g c =
    let ledger = g.S.Store.ledger in
    let a = ledger c.args.store.now in
    let m = g.S.Frozen.records c.args.store.now in
    let most = documents_most c.args.kind (length (items_of (column_at c.args.kind c.args.value_type m c.args.documents) c.args.doc)) (2 * levels m c.args.documents + 1) in
    subst (λ s. MakesWithin a (ledger s) most) (sym c.document_items.ensures.same) (within_none a most)

pub returns-in_default-clause-refuses : goal.returns-in_default-clause-refuses
returns-in_default-clause-refuses g c = tt

pub returns-in_default-clause-may : goal.returns-in_default-clause-may
returns-in_default-clause-may g c =
    let ledger = g.S.Store.ledger in
    subst (λ s. MayDo (ledger c.args.store.now) (ledger s)) (sym c.document_items.ensures.same) (may_do-same (ledger c.args.store.now))

pub set_again-requires : goal.set_again-requires
set_again-requires g c =
    let ledger = g.S.Store.ledger in
    let records = g.S.Frozen.records in
    let kind = c.args.kind in
    let type = c.args.value_type in
    let documents = c.args.documents in
    let same = sym c.document_items.ensures.same in
    let there = sym c.in-Ok.ensures.items ∙ c.in-Some.is ∙ ap Some (sym c.as_slice.ensures) in (
      omega arith,
      (
        subst (λ s. (ledger s).unit ≡ true) same c.requires.unit,
        (
          subst (λ s. (ledger s).sealed c.args.buffer ≡ true) same c.requires.sealed,
          (
            subst (λ s. CanMoveItems g.row.OFFSET_BITS c.args.buffer kind type (ledger s) (records s) documents c.args.dictionary) same c.requires.can,
            subst (λ s. lookup (is_at (nat_cmp c.args.doc)) (column_at kind type (records s) documents) ≡ Some c.as_slice.result.now) same there,
          ),
        ),
      ),
    )

pub returns-in-Some-clause-moves : goal.returns-in-Some-clause-moves
returns-in-Some-clause-moves g c =
    let ledger = g.S.Store.ledger in
    let records = g.S.Frozen.records in
    let t = c.set_again.new.store in
    subst (λ s. IfOk c.set_again.result (MovesItems g.row.OFFSET_BITS c.args.buffer c.args.doc c.args.kind c.args.value_type (ledger s) (ledger t) (records s) (records t) c.args.documents c.args.dictionary))
    c.document_items.ensures.same c.set_again.ensures.moves

pub returns-in-Some-clause-counts : goal.returns-in-Some-clause-counts
returns-in-Some-clause-counts g c =
    let ledger = g.S.Store.ledger in
    let records = g.S.Frozen.records in
    let t = c.set_again.new.store in
    let there = c.as_slice.ensures in
    let size : length c.as_slice.result.now ≡ length (items_of (column_at c.args.kind c.args.value_type (records c.args.store.now) c.args.documents) c.args.doc) =
    ap length c.as_slice.ensures ∙ ap (λ found. length (unwrap_or found [])) (sym c.in-Some.is ∙ c.in-Ok.ensures.items) in
    subst (λ (k : ℕ). MakesWithin (ledger c.args.store.now) (ledger t) (documents_most c.args.kind k (2 * levels (records c.args.store.now) c.args.documents + 1))) size
    (subst (λ s. MakesWithin (ledger s) (ledger t) (documents_most c.args.kind (length c.as_slice.result.now) (2 * levels (records s) c.args.documents + 1)))
    c.document_items.ensures.same c.set_again.ensures.counts)

pub returns-in-Some-clause-refuses : goal.returns-in-Some-clause-refuses
returns-in-Some-clause-refuses g c =
    let ledger = g.S.Store.ledger in
    subst (λ s. IfErr c.set_again.result (RefusesOf (IsUsedWidth (ledger s) (g.S.Frozen.records s)) (ledger s) (ledger c.set_again.new.store))) c.document_items.ensures.same c.set_again.ensures.refuses

pub returns-in-Some-clause-may : goal.returns-in-Some-clause-may
returns-in-Some-clause-may g c =
    let ledger = g.S.Store.ledger in
    subst (λ s. MayDo (ledger s) (ledger c.set_again.new.store)) c.document_items.ensures.same c.set_again.ensures.may

pub returns-in-None-clause-moves : goal.returns-in-None-clause-moves
returns-in-None-clause-moves g c =
    let ledger = g.S.Store.ledger in
    let records = g.S.Frozen.records in
    let a = ledger c.args.store.now in
    let m = records c.args.store.now in
    let kind = c.args.kind in
    let type = c.args.value_type in
    let root = c.args.documents in
    let none = sym c.in-Ok.ensures.items ∙ c.in-None.is in
    subst (λ s. MovesItems g.row.OFFSET_BITS c.args.buffer c.args.doc kind type a (ledger s) m (records s) root c.args.dictionary root) (sym c.document_items.ensures.same)
    (none_unmoved g.row.OFFSET_BITS c.args.buffer kind type a m root c.args.dictionary c.args.doc c.requires.can none)

pub returns-in-None-clause-counts : goal.returns-in-None-clause-counts
returns-in-None-clause-counts g c =
    let ledger = g.S.Store.ledger in
    let a = ledger c.args.store.now in
    let m = g.S.Frozen.records c.args.store.now in
    let most = documents_most c.args.kind (length (items_of (column_at c.args.kind c.args.value_type m c.args.documents) c.args.doc)) (2 * levels m c.args.documents + 1) in
    subst (λ s. MakesWithin a (ledger s) most) (sym c.document_items.ensures.same) (within_none a most)

pub returns-in-None-clause-may : goal.returns-in-None-clause-may
returns-in-None-clause-may g c =
    let ledger = g.S.Store.ledger in
    subst (λ s. MayDo (ledger c.args.store.now) (ledger s)) (sym c.document_items.ensures.same) (may_do-same (ledger c.args.store.now))
