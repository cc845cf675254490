use Rattle.std.proofs.Common.{◌≡◌, ◌∷◌, [], length, Some, arith, ◌+◌, ◌*◌, ◌≤◌, sym, subst}
use Rattle.std.specs.Prelude.{take}
use Rattle.attr_field.specs.DocumentsChanges.{MakesDocuments, documents_most, AreBeside, AreKeysOf, IsDocumentWidth}
use Rattle.attr_field.specs.Steps.{StepsField, FindsBy}
use Rattle.image_format.specs.Documents.{column_at}
use Rattle.image_format.specs.Postings.{index_of}
use Rattle.index_model.specs.Columns.{with_change}
use Rattle.value_index.specs.Forms.{KeepsForm}
use Rattle.attr_field.proofs.CountLemmas.{documents_low, few_entry, low_entry}
use Rattle.attr_field.proofs.RefLemmas.{owns_documents, if_ok}
use Rattle.attr_field.proofs.SingleLemmas.{keys_kept, keys_single}
use Rattle.attr_field.proofs.StepLemmas.{documents_form, documents_steps, documents_index_same, refer_beside, keys_beside}
use Rattle.std.specs.List.{AllByRecursion}
use Rattle.store_api.specs.Parts.{Owns}
use Rattle.store_api.specs.Units.{MayDo, MakesWithin}
use Rattle.store_api.proofs.May.{may_do-same}
use Rattle.attr_field.specs.Documents.{documents_part, documents_refer, IsDocuments}
use Rattle.store_api.specs.Calls.{RefusesOf}
use Rattle.frozen_btree.specs.Changes.{levels as levels_of}
use Rattle.value_index.specs.Indexes.{IsKey}
use Rattle.value_index.proofs.CountLemmas.{within_none}
use Rattle.attr_field.proofs.steps.set_items.Goals as goal

pub set_document-requires : goal.set_document-requires
set_document-requires g c =
    let found = subst (FindsBy c.args.value_type (g.S.Frozen.records c.args.store.now) c.args.dictionary c.args.items.now c.args.key) c.in-None.is c.requires.found in
    let old = g.S.Store.ledger c.args.store.now in
    let m = g.S.Frozen.records c.args.store.now in
    let kind = c.args.kind in
    let type = c.args.value_type in
    let documents = c.args.documents in
    let root = c.args.dictionary in
    let items = c.args.items.now in
    let keys = take (length items) (c.args.key ∷ []) in (
      omega arith,
      (
        c.requires.unit,
        (
          c.requires.stands.documents_are,
          (
            owns_documents old m kind documents root c.requires.stands.owns,
            (
              refer_beside c.key_law.ensures.read kind type old m documents root c.requires.stands,
              (
                keys_single type m root c.args.key items found.0 found.1,
                (
                  keys_beside c.key_law.ensures.read kind type old m documents root c.requires.stands keys (keys_kept type m root c.args.key items found.0 found.1),
                  c.requires.fits.0,
                ),
              ),
            ),
          ),
        ),
      ),
    )

pub returns-in-None-clause-steps : goal.returns-in-None-clause-steps
returns-in-None-clause-steps g c =
    let found = subst (FindsBy c.args.value_type (g.S.Frozen.records c.args.store.now) c.args.dictionary c.args.items.now c.args.key) c.in-None.is c.requires.found in
    let old = g.S.Store.ledger c.args.store.now in
    let new = g.S.Store.ledger c.set_document.new.store in
    let m = g.S.Frozen.records c.args.store.now in
    let n = g.S.Frozen.records c.set_document.new.store in
    let kind = c.args.kind in
    let type = c.args.value_type in
    let documents = c.args.documents in
    let dictionary = c.args.dictionary in
    let items = c.args.items.now in
    let keys = take (length items) (c.args.key ∷ []) in
    let column = with_change (column_at kind type m documents) c.args.doc (Some items) in
    if_ok (λ next. MakesDocuments kind type old new m n documents keys column next) (λ next. StepsField kind type old new m n documents dictionary column next dictionary)
    c.set_document.result c.set_document.ensures.makes (λ next makes. documents_steps c.index_law.ensures.stays kind type old new m n documents dictionary next keys column c.requires.stands makes
    (keys_kept type m dictionary c.args.key items found.0 found.1))

pub returns-in-None-clause-index : goal.returns-in-None-clause-index
returns-in-None-clause-index g c =
    let found = subst (FindsBy c.args.value_type (g.S.Frozen.records c.args.store.now) c.args.dictionary c.args.items.now c.args.key) c.in-None.is c.requires.found in
    let old = g.S.Store.ledger c.args.store.now in
    let new = g.S.Store.ledger c.set_document.new.store in
    let m = g.S.Frozen.records c.args.store.now in
    let n = g.S.Frozen.records c.set_document.new.store in
    let kind = c.args.kind in
    let type = c.args.value_type in
    let documents = c.args.documents in
    let dictionary = c.args.dictionary in
    let items = c.args.items.now in
    let keys = take (length items) (c.args.key ∷ []) in
    let column = with_change (column_at kind type m documents) c.args.doc (Some items) in
    if_ok (λ next. MakesDocuments kind type old new m n documents keys column next) (λ next. index_of type n dictionary ≡ index_of type m dictionary)
    c.set_document.result c.set_document.ensures.makes (λ next makes. documents_index_same c.index_law.ensures.stays kind type old new m n documents dictionary next keys column c.requires.stands makes
    (keys_kept type m dictionary c.args.key items found.0 found.1))

pub returns-in-None-clause-form : goal.returns-in-None-clause-form
returns-in-None-clause-form g c =
    let found = subst (FindsBy c.args.value_type (g.S.Frozen.records c.args.store.now) c.args.dictionary c.args.items.now c.args.key) c.in-None.is c.requires.found in
    let old = g.S.Store.ledger c.args.store.now in
    let new = g.S.Store.ledger c.set_document.new.store in
    let m = g.S.Frozen.records c.args.store.now in
    let n = g.S.Frozen.records c.set_document.new.store in
    let kind = c.args.kind in
    let type = c.args.value_type in
    let documents = c.args.documents in
    let dictionary = c.args.dictionary in
    let items = c.args.items.now in
    let keys = take (length items) (c.args.key ∷ []) in
    let column = with_change (column_at kind type m documents) c.args.doc (Some items) in
    if_ok (λ next. MakesDocuments kind type old new m n documents keys column next) (λ next. KeepsForm type m n dictionary)
    c.set_document.result c.set_document.ensures.makes (λ next makes. documents_form c.index_law.ensures.stays kind type old new m n documents dictionary next keys column c.requires.stands makes
    (keys_kept type m dictionary c.args.key items found.0 found.1) c.index_law.ensures.form)

pub returns-in-None-clause-refuses : goal.returns-in-None-clause-refuses
returns-in-None-clause-refuses g c = c.set_document.ensures.refuses

pub returns-in-None-clause-counts : goal.returns-in-None-clause-counts
returns-in-None-clause-counts g c =
    few_entry (g.S.Store.ledger c.args.store.now) (g.S.Store.ledger c.set_document.new.store) (g.S.Frozen.records c.args.store.now) c.args.documents
    c.args.kind (length c.args.items.now) c.set_document.ensures.counts

pub returns-in-None-clause-may : goal.returns-in-None-clause-may
returns-in-None-clause-may g c = c.set_document.ensures.may

pub returns-in-None-clause-low : goal.returns-in-None-clause-low
returns-in-None-clause-low g c =
    let m = g.S.Frozen.records c.args.store.now in
    λ levels some few.
    low_entry (g.S.Store.ledger c.args.store.now) (g.S.Store.ledger c.set_document.new.store) m c.args.documents c.args.kind (length c.args.items.now) levels
    (documents_low c.args.kind c.args.value_type m c.args.documents levels c.requires.stands.documents_are some few) c.set_document.ensures.counts

pub shared_whole_as_front-given : goal.shared_whole_as_front-given
shared_whole_as_front-given g c =
    let found = subst (FindsBy c.args.value_type (g.S.Frozen.records c.args.store.now) c.args.dictionary c.args.items.now c.args.key) c.in-None.is c.requires.found in
    (found.0, omega arith)

pub keys_of-requires : goal.keys_of-requires
keys_of-requires g c =
    let listed = subst (FindsBy c.args.value_type (g.S.Frozen.records c.args.store.now) c.args.dictionary c.args.items.now c.args.key) c.in-Some.is c.requires.found in
    (omega arith, (c.requires.stands.index_is, (c.requires.fits.1, listed)))

pub returns-in_default-clause-refuses : goal.returns-in_default-clause-refuses
returns-in_default-clause-refuses g c = tt

pub returns-in_default-clause-may : goal.returns-in_default-clause-may
returns-in_default-clause-may g c =
    let ledger = g.S.Store.ledger in
    subst (λ s. MayDo (ledger c.args.store.now) (ledger s)) (sym c.keys_of.ensures.same) (may_do-same (ledger c.args.store.now))

pub set_document-requires-in-Some : goal.set_document-requires-in-Some
set_document-requires-in-Some g c =
    let ledger = g.S.Store.ledger in
    let records = g.S.Frozen.records in
    let old = ledger c.args.store.now in
    let m = records c.args.store.now in
    let kind = c.args.kind in
    let type = c.args.value_type in
    let documents = c.args.documents in
    let same = sym c.keys_of.ensures.same in
    let keys = c.in-Ok.keys.items in (
      omega arith,
      (
        subst (λ s. (ledger s).unit ≡ Rattle.std.proofs.Common.true) same c.requires.unit,
        (
          subst (λ s. IsDocuments kind type (records s) documents) same c.requires.stands.documents_are,
          (
            subst (λ s. Owns (ledger s) (records s) (documents_part kind documents ∷ [])) same (owns_documents old m kind documents c.args.dictionary c.requires.stands.owns),
            (
              subst (λ s. AreBeside (ledger s) (records s) (documents_part kind documents ∷ []) (documents_refer kind (records s) documents)) same
                  (refer_beside c.key_law.ensures.read kind type old m documents c.args.dictionary c.requires.stands),
              (
                subst (λ s. AreKeysOf type (records s) c.as_slice-given.result.now c.args.items.now) same
                    (subst (λ refs. AreKeysOf type m refs c.args.items.now) (sym c.as_slice-given.ensures.value) c.in-Ok.ensures.keys),
                (
                  subst (λ s. AreBeside (ledger s) (records s) (documents_part kind documents ∷ []) c.as_slice-given.result.now) same
                      (subst (λ refs. AreBeside old m (documents_part kind documents ∷ []) refs) (sym c.as_slice-given.ensures.value)
                      (keys_beside c.key_law.ensures.read kind type old m documents c.args.dictionary c.requires.stands keys c.in-Ok.ensures.kept)),
                  c.requires.fits.0,
                ),
              ),
            ),
          ),
        ),
      ),
    )

pub returns-in-Ok-clause-steps : goal.returns-in-Ok-clause-steps
returns-in-Ok-clause-steps g c =
    let ledger = g.S.Store.ledger in
    let records = g.S.Frozen.records in
    let old = ledger c.args.store.now in
    let new = ledger c.set_document-in-Some.new.store in
    let m = records c.args.store.now in
    let n = records c.set_document-in-Some.new.store in
    let kind = c.args.kind in
    let type = c.args.value_type in
    let documents = c.args.documents in
    let dictionary = c.args.dictionary in
    let doc = c.args.doc in
    let items = c.args.items.now in
    let keys = c.as_slice-given.result.now in
    let column = with_change (column_at kind type m documents) doc (Some items) in
    let kept = subst (AllByRecursion (IsKey m dictionary)) (sym c.as_slice-given.ensures.value) c.in-Ok.ensures.kept in
    if_ok (λ next. MakesDocuments kind type (ledger c.keys_of.new.frozen) new (records c.keys_of.new.frozen) n documents keys
    (with_change (column_at kind type (records c.keys_of.new.frozen) documents) doc (Some items)) next)
    (λ next. StepsField kind type old new m n documents dictionary column next dictionary) c.set_document-in-Some.result c.set_document-in-Some.ensures.makes
    (λ next makes. documents_steps c.index_law.ensures.stays kind type old new m n documents dictionary next keys column c.requires.stands
    (subst (λ s. MakesDocuments kind type (ledger s) new (records s) n documents keys (with_change (column_at kind type (records s) documents) doc (Some items)) next) c.keys_of.ensures.same makes) kept)

pub returns-in-Ok-clause-index : goal.returns-in-Ok-clause-index
returns-in-Ok-clause-index g c =
    let ledger = g.S.Store.ledger in
    let records = g.S.Frozen.records in
    let old = ledger c.args.store.now in
    let new = ledger c.set_document-in-Some.new.store in
    let m = records c.args.store.now in
    let n = records c.set_document-in-Some.new.store in
    let kind = c.args.kind in
    let type = c.args.value_type in
    let documents = c.args.documents in
    let dictionary = c.args.dictionary in
    let doc = c.args.doc in
    let items = c.args.items.now in
    let keys = c.as_slice-given.result.now in
    let column = with_change (column_at kind type m documents) doc (Some items) in
    let kept = subst (AllByRecursion (IsKey m dictionary)) (sym c.as_slice-given.ensures.value) c.in-Ok.ensures.kept in
    if_ok (λ next. MakesDocuments kind type (ledger c.keys_of.new.frozen) new (records c.keys_of.new.frozen) n documents keys
    (with_change (column_at kind type (records c.keys_of.new.frozen) documents) doc (Some items)) next)
    (λ next. index_of type n dictionary ≡ index_of type m dictionary) c.set_document-in-Some.result c.set_document-in-Some.ensures.makes
    (λ next makes. documents_index_same c.index_law.ensures.stays kind type old new m n documents dictionary next keys column c.requires.stands
    (subst (λ s. MakesDocuments kind type (ledger s) new (records s) n documents keys (with_change (column_at kind type (records s) documents) doc (Some items)) next) c.keys_of.ensures.same makes) kept)

pub returns-in-Ok-clause-form : goal.returns-in-Ok-clause-form
returns-in-Ok-clause-form g c =
    let ledger = g.S.Store.ledger in
    let records = g.S.Frozen.records in
    let old = ledger c.args.store.now in
    let new = ledger c.set_document-in-Some.new.store in
    let m = records c.args.store.now in
    let n = records c.set_document-in-Some.new.store in
    let kind = c.args.kind in
    let type = c.args.value_type in
    let documents = c.args.documents in
    let dictionary = c.args.dictionary in
    let doc = c.args.doc in
    let items = c.args.items.now in
    let keys = c.as_slice-given.result.now in
    let column = with_change (column_at kind type m documents) doc (Some items) in
    let kept = subst (AllByRecursion (IsKey m dictionary)) (sym c.as_slice-given.ensures.value) c.in-Ok.ensures.kept in
    if_ok (λ next. MakesDocuments kind type (ledger c.keys_of.new.frozen) new (records c.keys_of.new.frozen) n documents keys
    (with_change (column_at kind type (records c.keys_of.new.frozen) documents) doc (Some items)) next)
    (λ next. KeepsForm type m n dictionary) c.set_document-in-Some.result c.set_document-in-Some.ensures.makes
    (λ next makes. documents_form c.index_law.ensures.stays kind type old new m n documents dictionary next keys column c.requires.stands
    (subst (λ s. MakesDocuments kind type (ledger s) new (records s) n documents keys (with_change (column_at kind type (records s) documents) doc (Some items)) next) c.keys_of.ensures.same makes) kept
    c.index_law.ensures.form)

pub returns-in-Ok-clause-refuses : goal.returns-in-Ok-clause-refuses
returns-in-Ok-clause-refuses g c =
    let ledger = g.S.Store.ledger in
    subst (λ s. Rattle.std.specs.Prelude.IfErr c.set_document-in-Some.result (RefusesOf (IsDocumentWidth c.args.kind (length c.args.items.now)) (ledger s) (ledger c.set_document-in-Some.new.store)))
    c.keys_of.ensures.same
    c.set_document-in-Some.ensures.refuses

pub returns-in_default-clause-counts : goal.returns-in_default-clause-counts
returns-in_default-clause-counts g c =
    let ledger = g.S.Store.ledger in
    let most = documents_most c.args.kind (length c.args.items.now) 17 in
    subst (λ s. MakesWithin (ledger c.args.store.now) (ledger s) most) (sym c.keys_of.ensures.same) (within_none (ledger c.args.store.now) most)

pub returns-in-Ok-clause-counts : goal.returns-in-Ok-clause-counts
returns-in-Ok-clause-counts g c =
    let ledger = g.S.Store.ledger in
    let made = few_entry (ledger c.keys_of.new.frozen) (ledger c.set_document-in-Some.new.store) (g.S.Frozen.records c.keys_of.new.frozen) c.args.documents
    c.args.kind (length c.args.items.now) c.set_document-in-Some.ensures.counts in
    subst (λ s. MakesWithin (ledger s) (ledger c.set_document-in-Some.new.store) (documents_most c.args.kind (length c.args.items.now) 17)) c.keys_of.ensures.same made

pub returns-in-Ok-clause-may : goal.returns-in-Ok-clause-may
returns-in-Ok-clause-may g c =
    let ledger = g.S.Store.ledger in
    subst (λ s. MayDo (ledger s) (ledger c.set_document-in-Some.new.store)) c.keys_of.ensures.same c.set_document-in-Some.ensures.may

pub returns-in_default-clause-low : goal.returns-in_default-clause-low
returns-in_default-clause-low g c =
    let ledger = g.S.Store.ledger in
    λ levels some few.
    let most = documents_most c.args.kind (length c.args.items.now) (2 * levels + 1) in
    subst (λ s. MakesWithin (ledger c.args.store.now) (ledger s) most) (sym c.keys_of.ensures.same) (within_none (ledger c.args.store.now) most)

pub returns-in-Ok-clause-low : goal.returns-in-Ok-clause-low
returns-in-Ok-clause-low g c =
    let ledger = g.S.Store.ledger in
    let records = g.S.Frozen.records in
    let m = records c.args.store.now in
    λ levels some few.
    let low = subst (λ s. levels_of (records s) c.args.documents ≤ levels) (sym c.keys_of.ensures.same)
    (documents_low c.args.kind c.args.value_type m c.args.documents levels c.requires.stands.documents_are some few) in
    let made = low_entry (ledger c.keys_of.new.frozen) (ledger c.set_document-in-Some.new.store) (records c.keys_of.new.frozen) c.args.documents
    c.args.kind (length c.args.items.now) levels low c.set_document-in-Some.ensures.counts in
    subst (λ s. MakesWithin (ledger s) (ledger c.set_document-in-Some.new.store) (documents_most c.args.kind (length c.args.items.now) (2 * levels + 1))) c.keys_of.ensures.same made
