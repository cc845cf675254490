use Rattle.std.proofs.Common.{◌≡◌, ◌+◌, ◌*◌, [], ◌∷◌, Some, true, length, sym, subst, arith}
use Rattle.std.specs.Prelude.{IfOk, IfErr}
use Rattle.std.specs.List.{AllByRecursion}
use Rattle.store_api.specs.Calls.{IsUsedWidth, RefusesOf}
use Rattle.store_api.specs.Parts.{Owns}
use Rattle.store_api.specs.Units.{MayDo, MakesWithin}
use Rattle.store_api.proofs.May.{may_do-same}
use Rattle.frozen_btree.specs.Changes.{levels}
use Rattle.image_format.specs.Documents.{column_at}
use Rattle.index_model.specs.Columns.{with_change}
use Rattle.posting_store.proofs.RefusalLemmas.{if_more}
use Rattle.value_index.specs.Indexes.{IsKey}
use Rattle.value_index.proofs.CountLemmas.{within_none}
use Rattle.attr_field.specs.DocumentsChanges.{documents_most, AreBeside, AreKeysOf, IsDocumentWidth, MakesDocuments, SetsItems}
use Rattle.attr_field.specs.Documents.{documents_part, documents_refer, IsDocuments}
use Rattle.compaction_moves.proofs.DocumentSetLemmas.{items_lawful, items_listed, items_typed, keys_beside, moved_by, owns_documents}
use Rattle.compaction_moves.proofs.DocumentUsedLemmas.{document_used}
use Rattle.compaction_moves.proofs.document_moving.set_again.Goals as goal

pub keys_of-requires : goal.keys_of-requires
keys_of-requires g c =
    let a = g.S.Store.ledger c.args.store.now in
    let m = g.S.Frozen.records c.args.store.now in
    let bits = g.row.OFFSET_BITS in
    let items = c.args.items.now in (
      omega arith,
      (
        c.requires.can.index_is,
        (
          items_typed bits c.args.buffer c.args.kind c.args.value_type a m c.args.documents c.args.dictionary c.args.doc c.requires.can items c.requires.there,
          items_listed bits c.args.buffer c.args.kind c.args.value_type a m c.args.documents c.args.dictionary c.args.doc c.requires.can items c.requires.there,
        ),
      ),
    )

pub returns-in_default-clause-counts : goal.returns-in_default-clause-counts
returns-in_default-clause-counts g c =
    let ledger = g.S.Store.ledger in
    let a = ledger c.args.store.now in
    let most = documents_most c.args.kind (length c.args.items.now) (2 * levels (g.S.Frozen.records c.args.store.now) c.args.documents + 1) in
    subst (λ s. MakesWithin a (ledger s) most) (sym c.keys_of.ensures.same) (within_none a most)

pub returns-in_default-clause-refuses : goal.returns-in_default-clause-refuses
returns-in_default-clause-refuses g c = tt

pub returns-in_default-clause-may : goal.returns-in_default-clause-may
returns-in_default-clause-may g c =
    let ledger = g.S.Store.ledger in
    subst (λ s. MayDo (ledger c.args.store.now) (ledger s)) (sym c.keys_of.ensures.same) (may_do-same (ledger c.args.store.now))

pub set_document-requires : goal.set_document-requires
set_document-requires g c =
    let ledger = g.S.Store.ledger in
    let records = g.S.Frozen.records in
    let a = ledger c.args.store.now in
    let m = records c.args.store.now in
    let bits = g.row.OFFSET_BITS in
    let buffer = c.args.buffer in
    let kind = c.args.kind in
    let type = c.args.value_type in
    let documents = c.args.documents in
    let dictionary = c.args.dictionary in
    let same = sym c.keys_of.ensures.same in
    let can = c.requires.can in
    let keys = c.in-Ok.keys.items in (
      omega arith,
      (
        subst (λ s. (ledger s).unit ≡ true) same c.requires.unit,
        (
          subst (λ s. IsDocuments kind type (records s) documents) same can.documents_are,
          (
            subst (λ s. Owns (ledger s) (records s) (documents_part kind documents ∷ [])) same (owns_documents bits buffer kind type a m documents dictionary c.args.doc can),
            (
              subst (λ s. AreBeside (ledger s) (records s) (documents_part kind documents ∷ []) (documents_refer kind (records s) documents)) same can.beside_them,
              (
                subst (λ s. AreKeysOf type (records s) c.as_slice.result.now c.args.items.now) same
                    (subst (λ refs. AreKeysOf type m refs c.args.items.now) (sym c.as_slice.ensures.value) c.in-Ok.ensures.keys),
                (
                  subst (λ s. AreBeside (ledger s) (records s) (documents_part kind documents ∷ []) c.as_slice.result.now) same
                      (subst (λ refs. AreBeside a m (documents_part kind documents ∷ []) refs) (sym c.as_slice.ensures.value)
                      (keys_beside bits buffer kind type a m documents dictionary c.args.doc can c.key_law.ensures.read keys c.in-Ok.ensures.kept)),
                  items_lawful bits buffer kind type a m documents dictionary c.args.doc can c.args.items.now c.requires.there,
                ),
              ),
            ),
          ),
        ),
      ),
    )

pub returns-clause-moves : goal.returns-clause-moves
returns-clause-moves g c =
    let ledger = g.S.Store.ledger in
    let records = g.S.Frozen.records in
    let a = ledger c.args.store.now in
    let m = records c.args.store.now in
    let d = ledger c.set_document.new.store in
    let o = records c.set_document.new.store in
    let kind = c.args.kind in
    let type = c.args.value_type in
    let documents = c.args.documents in
    let doc = c.args.doc in
    let items = c.args.items.now in
    let keys = c.as_slice.result.now in
    let same = c.keys_of.ensures.same in
    let kept = subst (AllByRecursion (IsKey m c.args.dictionary)) (sym c.as_slice.ensures.value) c.in-Ok.ensures.kept in
    let may = subst (λ s. MayDo (ledger s) d) same c.set_document.ensures.may in
    let makes = subst (λ s. IfOk c.set_document.result (MakesDocuments kind type (ledger s) d (records s) o documents keys (with_change (column_at kind type (records s) documents) doc (Some items))))
    same c.set_document.ensures.makes in
    let sets = subst (λ s. IfOk c.set_document.result (SetsItems kind (ledger s) (records s) o documents doc keys)) same c.set_document.ensures.sets in
    moved_by g.row.OFFSET_BITS c.args.buffer kind type a m documents c.args.dictionary doc c.requires.can items c.requires.there d o keys kept c.requires.sealed may
    (g.met.S.Store.sized c.set_document.new.store) c.set_document.result makes sets

pub returns-clause-counts : goal.returns-clause-counts
returns-clause-counts g c =
    let ledger = g.S.Store.ledger in
    let records = g.S.Frozen.records in
    subst (λ s. MakesWithin (ledger s) (ledger c.set_document.new.store) (documents_most c.args.kind (length c.args.items.now) (2 * levels (records s) c.args.documents + 1)))
    c.keys_of.ensures.same c.set_document.ensures.counts

pub returns-clause-refuses : goal.returns-clause-refuses
returns-clause-refuses g c =
    let ledger = g.S.Store.ledger in
    let a = ledger c.args.store.now in
    let m = g.S.Frozen.records c.args.store.now in
    let d = ledger c.set_document.new.store in
    let among = IsDocumentWidth c.args.kind (length c.args.items.now) in
    let owns = owns_documents g.row.OFFSET_BITS c.args.buffer c.args.kind c.args.value_type a m c.args.documents c.args.dictionary c.args.doc c.requires.can in
    if_more among (IsUsedWidth a m) a a d c.set_document.result (may_do-same a)
    (document_used c.args.kind c.args.value_type a m c.args.documents c.args.doc c.requires.can.documents_are owns c.args.items.now c.requires.there)
    (subst (λ s. IfErr c.set_document.result (RefusesOf among (ledger s) d)) c.keys_of.ensures.same c.set_document.ensures.refuses)

pub returns-clause-may : goal.returns-clause-may
returns-clause-may g c =
    let ledger = g.S.Store.ledger in
    subst (λ s. MayDo (ledger s) (ledger c.set_document.new.store)) c.keys_of.ensures.same c.set_document.ensures.may
