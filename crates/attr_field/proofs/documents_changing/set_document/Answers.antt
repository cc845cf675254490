use Rattle.std.proofs.Common.{◌+◌, ◌*◌, subst, ◌<◌, ℕ, length, refl, arith, ◌∙◌, inl, inr}
use Rattle.std.proofs.lemmas.Result.{err_from_is_err_and}
use Rattle.std.proofs.Math.Nat.{pos_of_div-pos}
use Rattle.frozen_btree.proofs.TopLemmas.{levels-same}
use Rattle.entry_ref.specs.References.{buffer_limit}
use Rattle.store_api.proofs.May.{may_do-same, may_do-then}
use Rattle.posting_store.proofs.RefusalLemmas.{if_one, of_more}
use Rattle.attr_field.specs.DocumentsChanges.{IsDocumentWidth}
use Rattle.attr_field.specs.Items.{entries_by_key, IsItemsWidth}
use Rattle.frozen_btree.specs.Changes.{levels}
use Rattle.frozen_btree.specs.Makes.{CountsNodes}
use Rattle.attr_field.proofs.DocumentsCountLemmas.{counts-one, counts-both}
use Rattle.attr_field.proofs.DocumentsChangeLemmas.{nodes_stay, still_map, still_owned, made_documents, set_documents}
use Rattle.attr_field.proofs.KeyLemmas.{keys_length, keys_there}
use Rattle.attr_field.proofs.documents_changing.set_document.Goals as goal

pub make_items-requires : goal.make_items-requires
make_items-requires g c =
    let m = g.S.Frozen.records c.args.store.now in
    let keys = c.args.keys.now in
    let items = c.args.items.now in
    let placed : (r : ℕ) → 0 < length (m r) → 0 < r = λ r some. pos_of_div-pos (buffer_limit g.row.OFFSET_BITS) (g.met.S.Store.placed c.args.store.now r some).entry.first in
    (omega arith, (c.requires.unit, (keys_length c.args.value_type m keys items c.requires.keys, (keys_there c.args.value_type m placed keys items c.requires.keys, c.requires.lawful))))

pub set_reference-requires : goal.set_reference-requires
set_reference-requires g c =
    let ledger = g.S.Store.ledger in
    let records = g.S.Frozen.records in
    let s = c.args.store.now in
    let t = c.make_items.new.store in
    let list = entries_by_key c.args.keys.now c.args.items.now in (
      omega arith,
      (
        c.make_items.ensures.may.unit ∙ c.requires.unit,
        (
          still_map c.args.kind c.args.value_type (ledger s) (ledger t) (ledger t) (records s) (records t)
              (records t) c.args.root c.args.doc c.in_ok-reference.reference c.requires.documents c.requires.owns list c.in_ok-reference.ensures.makes,
          still_owned c.args.kind c.args.value_type (ledger s) (ledger t) (ledger t) (records s) (records t)
              (records t) c.args.root c.args.doc c.in_ok-reference.reference c.requires.documents c.requires.owns list c.in_ok-reference.ensures.makes,
        ),
      ),
    )

pub returns-clause-makes : goal.returns-clause-makes
returns-clause-makes g c =
    let ledger = g.S.Store.ledger in
    let records = g.S.Frozen.records in
    let s = c.args.store.now in
    let t = c.make_items.new.store in
    let u = c.set_reference.new.store in
    made_documents c.args.kind c.args.value_type (ledger s) (ledger t) (ledger u) (records s) (records t) (records u) c.args.root c.args.doc c.in_ok-reference.reference c.requires.documents c.requires.owns
    c.requires.beside c.args.keys.now c.args.items.now c.requires.keys c.requires.keys_beside c.requires.lawful c.in_ok-reference.ensures.makes c.make_items.ensures.may c.set_reference.result
    c.set_reference.ensures.changes

pub returns-clause-sets : goal.returns-clause-sets
returns-clause-sets g c =
    let ledger = g.S.Store.ledger in
    let records = g.S.Frozen.records in
    let s = c.args.store.now in
    let t = c.make_items.new.store in
    let u = c.set_reference.new.store in
    set_documents c.args.kind c.args.value_type (ledger s) (ledger t) (ledger u) (records s) (records t) (records u) c.args.root c.args.doc c.in_ok-reference.reference c.requires.documents c.requires.owns
    c.requires.beside c.args.keys.now c.args.items.now c.requires.keys c.requires.keys_beside c.requires.lawful c.in_ok-reference.ensures.makes c.make_items.ensures.may c.set_reference.result
    c.set_reference.ensures.changes

pub returns-in_err-reference-clause-counts : goal.returns-in_err-reference-clause-counts
returns-in_err-reference-clause-counts g c =
    let ledger = g.S.Store.ledger in
    let m = g.S.Frozen.records c.args.store.now in
    counts-one (ledger c.args.store.now) (ledger c.make_items.new.store) c.args.kind (length c.args.items.now) (2 * levels m c.args.root + 1) c.make_items.ensures.counts

pub returns-clause-counts : goal.returns-clause-counts
returns-clause-counts g c =
    let ledger = g.S.Store.ledger in
    let records = g.S.Frozen.records in
    let s = c.args.store.now in
    let t = c.make_items.new.store in
    let u = c.set_reference.new.store in
    let nodes = nodes_stay c.args.kind c.args.value_type (ledger s) (ledger t) (ledger t) (records s) (records t) (records t) c.args.root c.args.doc c.in_ok-reference.reference c.requires.documents c.requires.owns
    (entries_by_key c.args.keys.now c.args.items.now) c.in_ok-reference.ensures.makes in
    counts-both (ledger s) (ledger t) (ledger u) c.args.kind (length c.args.items.now) (2 * levels (records s) c.args.root + 1) c.make_items.ensures.may c.make_items.ensures.counts
    (subst (λ (k : ℕ). CountsNodes (ledger t) (ledger u) (2 * k + 1)) (levels-same (records s) (records t) c.args.root nodes) c.set_reference.ensures.counts)

pub returns-in_err-reference-clause-refuses : goal.returns-in_err-reference-clause-refuses
returns-in_err-reference-clause-refuses g c =
    let a = g.S.Store.ledger c.args.store.now in
    let kind = c.args.kind in
    let size = length c.args.items.now in
    let p = err_from_is_err_and c.from_residual.result c.from_residual.ensures.1 in
    rw (p.1, p.2) (of_more (IsItemsWidth kind size) (IsDocumentWidth kind size) a a (g.S.Store.ledger c.make_items.new.store) _ (may_do-same a) (λ w is. inr is) c.in_err-reference.ensures.refuses)

pub returns-clause-refuses : goal.returns-clause-refuses
returns-clause-refuses g c =
    let ledger = g.S.Store.ledger in
    if_one (IsDocumentWidth c.args.kind (length c.args.items.now)) (ledger c.args.store.now) (ledger c.make_items.new.store) (ledger c.set_reference.new.store) 34 c.set_reference.result
    c.make_items.ensures.may refl (inl refl) c.set_reference.ensures.refuses

pub returns-clause-may : goal.returns-clause-may
returns-clause-may g c = may_do-then _ _ _ c.make_items.ensures.may c.set_reference.ensures.may
