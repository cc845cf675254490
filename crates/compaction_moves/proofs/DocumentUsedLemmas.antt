-- A refused move is one of a width of which a record was in use as it began: the document's, or a node.
use Rattle.std.proofs.Common.{◌≡◌, ℕ, zero, suc, ℤ, ◌+◌, ◌<◌, List, [], ◌∷◌, length, map, true, true≢false, None, Some, Option, option_map, inl, inr, refl, sym, ap, subst, ◌∙◌, arith}
use Rattle.std.proofs.lemmas.List.{length-map}
use Rattle.std.specs.BTreeMap.{is_at}
use Rattle.std.specs.Map.{lookup as lookup_in}
use Rattle.std.specs.Ordering.{nat_cmp}
use Rattle.std.specs.Prelude.{pos}
use Rattle.list_lemmas.proofs.Options.{same_Some}
use Rattle.frozen_btree.proofs.UsedLemmas.{node_used}
use Rattle.image_format.proofs.RootLemmas.{length-filled}
use Rattle.entry_ref.specs.Records.{Among, Records}
use Rattle.tree_read.specs.Pairs.{lookup}
use Rattle.store_api.specs.Calls.{IsUsedWidth}
use Rattle.store_api.specs.Ledgers.{Ledger}
use Rattle.store_api.specs.Parts.{Owns, Part, times}
use Rattle.store_api.proofs.Times.{among-times, times-append}
use Rattle.store_api.proofs.Uses.{in-uses}
use Rattle.tree_read.specs.Trees.{tree_nodes, tree_pairs}
use Rattle.frozen_btree.specs.Changes.{tree}
use Rattle.doc_vector.specs.Documents.{beside_document}
use Rattle.image_format.specs.Documents.{column_at, items_at, IsItemsRecord}
use Rattle.image_format.specs.Words.{class_of, stored_items, unpacked, IsStoredList}
use Rattle.attr_types.specs.Change.{most_items}
use Rattle.attr_types.specs.declared.items.Item.{Item}
use Rattle.attr_types.specs.declared.kind.Kind.{Kind}
use Rattle.attr_types.specs.declared.kind.Kind.TheVariants.{Single, Array, WeightedSet}
use Rattle.attr_types.specs.declared.kind.ValueType.{ValueType}
use Rattle.attr_field.specs.DocumentsChanges.{pairs_own, IsDocumentWidth}
use Rattle.attr_field.specs.Documents.{documents_own, documents_part, items_own, IsDocuments}
use Rattle.attr_field.specs.Items.{has_list, item_of}
use Rattle.attr_field.proofs.PairLemmas.{found, times-out}
use Rattle.attr_field.proofs.ReadLemmas.{found_items, found_records}

-- ---- what is owned is in use
used_at : {H : Type 0} (a : Ledger H) (m : Records) (part : Part) (r width : ℕ) → Owns a m (part ∷ []) → 0 < times r (part.reach m) → length (m r) ≡ width → IsUsedWidth a m width
used_at a m part r width owns some size = record { ref = r; used = (let each = owns.each r in in-uses a r (omega arith)); length_is = size }

-- ---- a document's record
-- its reference has a record of its own
items_size : (kind : Kind) (type : ValueType) (m : Records) (ref : ℕ) → IsItemsRecord kind ref (m ref) → has_list kind ≡ true → 0 < length (items_at kind type m ref)
    → Among ref (items_own kind ref) × (length (m ref) ≡ class_of (1 + length (items_at kind type m ref)))
items_size kind type m zero are list some = absurd (omega (arith, some))
items_size Single type m (suc ref) are list some = absurd (true≢false (sym list))
items_size Array type m (suc ref) are list some =
    let items = stored_items (m (suc ref)) in
    let stored : IsStoredList most_items (m (suc ref)) = are in
    let few = stored.few in
    let size = ap length stored.words ∙ length-filled (length items ∷ items) (omega arith) in
    let ones : List (ℕ × ℤ) = map (λ (value : ℕ). (value, pos 1)) items in
    let same = length-map ones (item_of type m) in
    let inner : length ones ≡ length items = length-map items (λ (value : ℕ). (value, pos 1)) in
    (inl refl, size ∙ ap class_of (let e : suc (length items) ≡ 1 + length (items_at Array type m (suc ref)) = omega arith in e))
items_size WeightedSet type m (suc ref) are list some =
    let items = stored_items (m (suc ref)) in
    let stored : IsStoredList most_items (m (suc ref)) = are in
    let few = stored.few in
    let size = ap length stored.words ∙ length-filled (length items ∷ items) (omega arith) in
    let same = length-map (map unpacked items) (item_of type m) in
    let inner : length (map {B = ℕ × ℤ} unpacked items) ≡ length items = length-map items unpacked in
    (inl refl, size ∙ ap class_of (let e : suc (length items) ≡ 1 + length (items_at WeightedSet type m (suc ref)) = omega arith in e))

module _ {H : Type 0} (kind : Kind) (type : ValueType) (a : Ledger H) (m : Records) (root doc : ℕ) (documents : IsDocuments kind type m root)
    (owns : Owns a m (documents_part kind root ∷ [])) (items : List Item) (there : lookup_in (is_at (nat_cmp doc)) (column_at kind type m root) ≡ Some items) where
  -- the reference of the document
  mapped : (o : Option ℕ) → option_map (items_at kind type m) o ≡ Some items → (ref : ℕ) × (o ≡ Some ref) × (items_at kind type m ref ≡ items)
  mapped None is = absurd (grind (arith, is))
  mapped (Some ref) is = (ref, refl, same_Some (items_at kind type m ref) items is)

  at : (ref : ℕ) × (lookup (beside_document doc) (tree_pairs m root) ≡ Some ref) × (items_at kind type m ref ≡ items)
  at = mapped (lookup (beside_document doc) (tree_pairs m root)) (found_items kind type m root doc documents (lookup (beside_document doc) (tree_pairs m root)) refl ∙ there)

  root_some : (top : ℕ) → lookup (beside_document doc) (tree_pairs m top) ≡ Some at.0 → 0 < top
  root_some zero here = absurd (grind (arith, here))
  root_some (suc ref) here = omega arith

  tree_owned : Owns a m (tree root ∷ [])
  tree_owned = record { each = λ r. let o = owns.each r in let whole = times-append r (tree_nodes m root) (pairs_own kind (tree_pairs m root)) in omega arith }

  own_owned : (r : ℕ) → Among r (items_own kind at.0) → 0 < times r (documents_own kind m root)
  own_owned r among =
      let some = among-times r (items_own kind at.0) among in
      let part = times-out r (items_own kind) (beside_document doc) (tree_pairs m root) in
      let here : times r (found (items_own kind) (lookup (beside_document doc) (tree_pairs m root))) ≡ times r (items_own kind at.0) = ap (λ (o : Option ℕ). times r (found (items_own kind) o)) at.1 in
      let whole = times-append r (tree_nodes m root) (pairs_own kind (tree_pairs m root)) in
      omega arith

  pub document_used : (width : ℕ) → IsDocumentWidth kind (length items) width → IsUsedWidth a m width
  document_used width (inl node) = subst (IsUsedWidth a m) (sym node) (node_used a m root documents.map_is.tree_is.node (root_some root at.1) tree_owned)
  document_used width (inr record_of) =
      let same = ap (λ (xs : List Item). length xs) at.2 in
      let form = (found_records kind type m root doc documents at.0 at.1).0 in
      let size = items_size kind type m at.0 form record_of.list (let some = record_of.some in omega arith) in
      used_at a m (documents_part kind root) at.0 width owns (own_owned at.0 size.0) (size.1 ∙ ap (λ (k : ℕ). class_of (1 + k)) same ∙ sym record_of.width_is)
