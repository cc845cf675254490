-- What a change of one attribute asks for, of a document that is there or is to be.
use Rattle.std.proofs.Common.{◌≡◌, ℕ, zero, suc, ◌+◌, ◌<◌, Bool, true, false, List, [], ◌∷◌, length, set, nat_cmp, Option, Some, None, option_map, refl, sym, ap, subst, ◌∙◌, arith}
use Rattle.std.specs.Prelude.{slice_get, IsSome, unwrap_or}
use Rattle.std.specs.BTreeMap.{is_at}
use Rattle.std.specs.Map.{lookup}
use Rattle.std.specs.Option.{IfSome, IfNone}
use Rattle.list_lemmas.proofs.Options.{same_Some}
use Rattle.list_lemmas.proofs.Each.{AllByRecursion-slice_get}
use Rattle.entry_ref.specs.Records.{Records}
use Rattle.store_api.specs.Ledgers.{Ledger}
use Rattle.store_api.specs.Parts.{Owns}
use Rattle.store_api.specs.Units.{MayDo}
use Rattle.store_api.proofs.PartLemmas.{owns-some}
use Rattle.attr_types.proofs.EntryLemmas.{all-lookup}
use Rattle.attr_types.proofs.TableLemmas.{Sound}
use Rattle.attr_types.specs.Lawful.{IsLawfulDocument, DocumentHasType, ItemsFit}
use Rattle.attr_types.specs.Query.{items_in}
use Rattle.attr_types.specs.Table.{Table, document_at}
use Rattle.attr_types.specs.Value.{Document}
use Rattle.attr_types.specs.declared.field.Field.{Field}
use Rattle.attr_types.specs.declared.items.Item.{Item}
use Rattle.index_model.specs.Columns.{Column, column_of, items_of as items_had, with_change}
use Rattle.image_format.proofs.TableLemmas.{document_size}
use Rattle.image_format.specs.Documents.{column_at}
use Rattle.attr_field.specs.Changes.{MakesField}
use Rattle.attr_field.specs.Fields.{field_part, IsField, RefersBeside}
use Rattle.attr_field.specs.Forms.{wants}
use Rattle.attr_field.specs.Widths.{IsFieldWidth}
use Rattle.attr_field.specs.Laws.{FieldStays, FieldIsLawful, FieldOwnsKeys}
use Rattle.attr_field.specs.declared.roots.FieldRoots.{FieldRoots}
use Rattle.attr_field.proofs.CopyLemmas.{refers_some}
use Rattle.attr_operations.specs.Fields.{FitsFields, HaveForms, IsFieldAt, IsOfFormAt, column_in, part_of, parts_of, table_with, trees_of, trees_of_field}
use Rattle.attr_operations.specs.Counts.{items_if_there}
use Rattle.attr_operations.specs.Views.{table_at}
use Rattle.attr_operations.specs.Widths.{IsChangedWidth}
use Rattle.attr_operations.proofs.TreeLists.{tree_get, tree_set}
use Rattle.attr_operations.proofs.PartLists.{count_at}
use Rattle.attr_operations.proofs.Columns.{FieldLaws, column_with}
use Rattle.attr_operations.proofs.Referring.{RefersAt}
use Rattle.attr_operations.proofs.Walk.{IsPartway, ChangesPart, way_forms, way_more}

pub laws_of : FieldStays → FieldIsLawful → FieldOwnsKeys → FieldLaws
laws_of stays lawful keys = record {
  stays = λ a m n same refer is. stays a.kind a.type m n a.documents a.dictionary same refer is;
  lawful = λ a m is. lawful a.kind a.type m a.documents a.dictionary is;
  keys = λ a m r is key. keys a.kind a.type m a.documents a.dictionary r is key;
}

-- ---- a document in a column
lookup_at : (test : ℕ → Bool) (i : ℕ) (e : ℕ × Document) (es : Table) (b : Bool) → test e.0 ≡ b
    → lookup test (column_of i es) ≡ option_map (λ d. items_in d i) (lookup test es)
    → lookup test (column_of i (e ∷ es)) ≡ option_map (λ d. items_in d i) (lookup test (e ∷ es))
lookup_at test i e es true is rest = cc
lookup_at test i e es false is rest = cc

pub lookup_column : (test : ℕ → Bool) (i : ℕ) (table : Table) → lookup test (column_of i table) ≡ option_map (λ d. items_in d i) (lookup test table)
lookup_column test i [] = refl
lookup_column test i (e ∷ es) = lookup_at test i e es (test e.0) refl (lookup_column test i es)

pub found_size : (fields : List Field) (table : Table) (doc i : ℕ) (o : Option Document) → Sound fields table → o ≡ document_at table doc → i < length fields
    → IfSome o (λ d. i < length d)
found_size fields table doc i None sound is below = tt
found_size fields table doc i (Some d) sound is below =
    let size = document_size fields d (all-lookup (IsLawfulDocument fields) (is_at (nat_cmp doc)) table sound.0.documents d (sym is)) in omega arith

pub fit_size : (fields : List Field) (i : ℕ) (o : Option Document) → IfSome o (FitsFields fields) → i < length fields → IfSome o (λ d. i < length d)
fit_size fields i None fits below = tt
fit_size fields i (Some d) fits below = let size = document_size fields d fits.lawful in omega arith

items_fit_at : (fields : List Field) (d : Document) (i : ℕ) (field : Field) → IsLawfulDocument fields d → DocumentHasType fields d → slice_get fields i ≡ Some field
    → ItemsFit field.kind field.value (items_in d i)
items_fit_at [] d i field lawful typed at = cc
items_fit_at (f ∷ fields) [] i field lawful typed at = absurd lawful
items_fit_at (f ∷ fields) (items ∷ d) zero field lawful typed at =
    subst {A = Field} (λ g. ItemsFit g.kind g.value items) (same_Some f field at) (lawful.0, typed.0)
items_fit_at (f ∷ fields) (items ∷ d) (suc i) field lawful typed at = items_fit_at fields d i field lawful.1 typed.1 at

fits_at : (fields : List Field) (o : Option Document) (i : ℕ) (field : Field) → IfSome o (FitsFields fields) → slice_get fields i ≡ Some field
    → IfSome (option_map (λ d. items_in d i) o) (ItemsFit field.kind field.value)
fits_at fields None i field fits at = tt
fits_at fields (Some d) i field fits at = items_fit_at fields d i field fits.lawful fits.typed at

there_at : (new old : Option Document) (i : ℕ) → IfNone new (IsSome old) → IfNone (option_map (λ d. items_in d i) new) (IsSome (option_map (λ d. items_in d i) old))
there_at (Some d) old i gone = tt
there_at None (Some o) i gone = refl
there_at None None i gone = gone

-- ---- what the change of one attribute asks for
pub record CanChange {H : Type 0} (ledger : Ledger H) (m : Records) (field : Field) (documents dictionary doc : ℕ) (before : List Item) (after : Option (List Item)) : Type 0 where
  pub is_field : IsField field.kind field.value m documents dictionary
  pub owns : Owns ledger m (field_part field.kind documents dictionary ∷ [])
  pub refers : RefersBeside ledger field.kind m documents dictionary (field_part field.kind documents dictionary ∷ [])
  pub there : IfNone after (IsSome (lookup (is_at (nat_cmp doc)) (column_at field.kind field.value m documents)))
  pub was : before ≡ items_had (column_at field.kind field.value m documents) doc
  pub fits : IfSome after (ItemsFit field.kind field.value)

module _ {bits : ℕ} {H : Type 0} (begun now : Ledger H) (k m : Records) (fields : List Field) (first roots : List (FieldRoots bits)) (doc i : ℕ) (old new : Option Document)
    (field : Field) (root : FieldRoots bits)
    (way : IsPartway begun now k m fields (trees_of fields first) (trees_of fields roots) (table_with (table_at k (trees_of fields first)) doc new) i)
    (at_field : slice_get fields i ≡ Some field) (at_root : slice_get roots i ≡ Some root) where
  at_tree : slice_get (trees_of fields roots) i ≡ Some (trees_of_field field root)
  at_tree = tree_get fields roots i field root at_field at_root

  -- its form
  pub form_at : (dense : Bool) → HaveForms dense m (trees_of fields roots) → IsOfFormAt dense m (trees_of_field field root)
  form_at dense forms = AllByRecursion-slice_get (IsOfFormAt dense m) (trees_of fields roots) i (trees_of_field field root) forms at_tree

  pub column_is : column_in m (trees_of_field field root) ≡ column_of i (table_at k (trees_of fields first))
  column_is = way.partly.rest i (trees_of_field field root) (omega arith) at_tree

  module _ (there : old ≡ document_at (table_at k (trees_of fields first)) doc) (gone : IfNone new (IsSome old)) (fits : IfSome new (FitsFields fields))
      (before : List Item) (after : Option (List Item)) (was : before ≡ unwrap_or (option_map (λ d. items_in d i) old) []) (next : after ≡ option_map (λ d. items_in d i) new) where
    found : lookup (is_at (nat_cmp doc)) (column_in m (trees_of_field field root)) ≡ option_map (λ d. items_in d i) old
    found = ap (lookup (is_at (nat_cmp doc))) column_is ∙ lookup_column (is_at (nat_cmp doc)) i (table_at k (trees_of fields first)) ∙ ap (option_map (λ d. items_in d i)) (sym there)

    pub can_change : CanChange now m field root.documents root.dictionary doc before after
    can_change = record {
      is_field = AllByRecursion-slice_get (IsFieldAt m) (trees_of fields roots) i (trees_of_field field root) way.partly.each at_tree;
      owns = owns-some now m (parts_of (trees_of fields roots)) (part_of (trees_of_field field root) ∷ []) way.owns
          (λ r. let e = count_at (trees_of fields roots) i (trees_of_field field root) m r at_tree in omega arith);
      refers = refers_some field.kind now m root.documents root.dictionary (parts_of (trees_of fields roots)) (part_of (trees_of_field field root) ∷ [])
          (AllByRecursion-slice_get (RefersAt now m (parts_of (trees_of fields roots))) (trees_of fields roots) i (trees_of_field field root) way.refers at_tree)
          (λ r. let e = count_at (trees_of fields roots) i (trees_of_field field root) m r at_tree in omega arith);
      there = subst (λ a. IfNone a (IsSome (lookup (is_at (nat_cmp doc)) (column_in m (trees_of_field field root))))) (sym next)
          (subst (λ f. IfNone (option_map (λ d. items_in d i) new) (IsSome f)) (sym found) (there_at new old i gone));
      was = was ∙ ap (λ f. unwrap_or f []) (sym found);
      fits = subst (λ a. IfSome a (ItemsFit field.kind field.value)) (sym next) (fits_at fields new i field fits at_field);
    }

  -- of which width its change was refused
  pub changed_width : (dense : Bool) → Sound fields (table_at k (trees_of fields first)) → (before : List Item) (after : Option (List Item)) → before ≡ items_if_there old i
      → after ≡ option_map (λ d. items_in d i) new → (w : ℕ)
      → IsFieldWidth (wants dense field.kind) field.kind (with_change (column_at field.kind field.value m root.documents) doc after) before (unwrap_or after []) w
      → IsChangedWidth dense fields (table_with (table_at k (trees_of fields first)) doc new) old new w
  changed_width dense sound before after was next w is =
      let table = table_at k (trees_of fields first) in
      let column : with_change (column_at field.kind field.value m root.documents) doc after ≡ column_of i (table_with table doc new) =
      ap (λ a. with_change (column_in m (trees_of_field field root)) doc a) next ∙ ap (λ (c : Column). with_change c doc (option_map (λ d. items_in d i) new)) column_is
      ∙ sym (column_with fields table doc i new sound.0) in
      record {
        number = i;
        field = field;
        field_is = at_field;
        is = subst (λ (c : Column). IsFieldWidth (wants dense field.kind) field.kind c (items_if_there old i) (items_if_there new i) w) column
            (subst (λ (items : List Item). IsFieldWidth (wants dense field.kind) field.kind (with_change (column_at field.kind field.value m root.documents) doc after) items (items_if_there new i) w) was
            (subst (λ (items : List Item). IsFieldWidth (wants dense field.kind) field.kind (with_change (column_at field.kind field.value m root.documents) doc after) before items w)
            (ap (λ (a : Option (List Item)). unwrap_or a []) next) is));
      }

  -- the walk goes on
  module _ (laws : FieldLaws) (sound : Sound fields (table_at k (trees_of fields first))) (after : Option (List Item)) (next : after ≡ option_map (λ d. items_in d i) new)
      (ledger : Ledger H) (n : Records) (changed : FieldRoots bits)
      (makes : MakesField field.kind field.value now ledger m n root.documents root.dictionary (with_change (column_at field.kind field.value m root.documents) doc after) changed.documents changed.dictionary) where
    part : ChangesPart now ledger m n (trees_of_field field root) (trees_of_field field changed) doc (option_map (λ d. items_in d i) new)
    part = record {
      is_field = makes.field_is;
      column_is = makes.column_is ∙ ap (λ a. with_change (column_at field.kind field.value m root.documents) doc a) next;
      turns = makes.turns;
      kind = refl;
      refers = makes.refers;
      flows = record { kind = refl; type = refl; flows = makes.flows };
    }

    pub way_on : MayDo begun now → IsPartway begun ledger k n fields (trees_of fields first) (trees_of fields (set roots i changed)) (table_with (table_at k (trees_of fields first)) doc new) (i + 1)
    way_on may =
        let more : IsPartway begun ledger k n fields (trees_of fields first) (set (trees_of fields roots) i (trees_of_field field changed)) (table_with (table_at k (trees_of fields first)) doc new) (suc i) =
        way_more laws begun now ledger may k m n fields (trees_of fields first) (trees_of fields roots) doc new i (trees_of_field field root) (trees_of_field field changed) sound at_tree way part in
        let place : suc i ≡ i + 1 = omega arith in
        subst (λ ts. IsPartway begun ledger k n fields (trees_of fields first) ts (table_with (table_at k (trees_of fields first)) doc new) (i + 1)) (sym (tree_set fields roots i field changed at_field))
        (subst (λ j. IsPartway begun ledger k n fields (trees_of fields first) (set (trees_of fields roots) i (trees_of_field field changed)) (table_with (table_at k (trees_of fields first)) doc new) j) place more)

    -- and the forms with it
    pub forms_on : (dense : Bool) → HaveForms dense m (trees_of fields roots) → IsOfFormAt dense n (trees_of_field field changed) → HaveForms dense n (trees_of fields (set roots i changed))
    forms_on dense forms here =
        subst (HaveForms dense n) (sym (tree_set fields roots i field changed at_field))
        (way_forms laws dense begun now ledger k m n fields (trees_of fields first) (trees_of fields roots) doc new i (trees_of_field field root) (trees_of_field field changed) sound at_tree way part forms here)
