-- A dictionary with the right lists has exactly the values of a column, if it has all of them.
use Rattle.std.proofs.Common.{◌≡◌, ℕ, ◌<◌, Bool, true, false, cond, List, [], ◌∷◌, length, map, Option, Some, None, option_map, is_eq, refl, sym, ap, subst, arith}
use Rattle.std.specs.Prelude.{ℤ, Contains}
use Rattle.std.proofs.lemmas.List.Elements.{All-contains, All-from_recursion, Contains-append_left, Contains-append_right}
use Rattle.std.specs.Cmp.{Equal-is}
use Rattle.std.specs.List.{find, cons_option, AllByRecursion}
use Rattle.std.specs.List.Sorted.{IsStrictlySortedBy}
use Rattle.std.specs.Map.{keys_of}
use Rattle.std.specs.Ordering.{nat_cmp}
use Rattle.image_format.proofs.ImageLemmas.{index_keys}
use Rattle.list_lemmas.proofs.Each.{AllByRecursion-append, AllByRecursion-left, AllByRecursion-right}
use Rattle.entry_ref.specs.Records.{Records}
use Rattle.tree_read.specs.Trees.{tree_pairs, by_number, IsTree}
use Rattle.index_model.specs.Columns.{Column, column_values, documents_with, IsLawfulColumn}
use Rattle.index_model.specs.Index.{HasValues, HasLists}
use Rattle.image_format.specs.Documents.{items_at, column_at}
use Rattle.image_format.proofs.ListLemmas.{lists_filled}
use Rattle.image_format.specs.Postings.{list_form, postings_at, IsDictionaryEntry}
use Rattle.image_format.specs.Values.{stored_value}
use Rattle.attr_types.specs.Lawful.{IsDocNumber, IsLawfulItems}
use Rattle.attr_types.specs.ProofsForOrder.{value_cmp_exact}
use Rattle.attr_types.specs.Value.{value_cmp, values_of}
use Rattle.attr_types.specs.declared.items.Item.{Item}
use Rattle.attr_types.specs.declared.kind.Kind.{Kind}
use Rattle.attr_types.specs.declared.kind.ValueType.{ValueType}
use Rattle.attr_types.specs.declared.value.Value.{Value}

contains-here : {X : Type 0} (x y : X) (xs : List X) → x ≡ y → Contains (x ∷ xs) y
contains-here x y xs same = (0, (let some : 0 < length (x ∷ xs) = omega arith in some), same)

contains-there : {X : Type 0} (x y : X) (xs : List X) → Contains xs y → Contains (x ∷ xs) y
contains-there x y xs among = Contains-append_right (x ∷ []) xs y among

module _ (kind : Kind) (type : ValueType) (m : Records) (documents : ℕ) where
  -- the column of a tree whose documents are lawful
  keys_same : (ps : List (ℕ × ℕ)) → keys_of (map (λ (p : ℕ × ℕ). (p.0, items_at kind type m p.1)) ps) ≡ map (λ (p : ℕ × ℕ). by_number m p.0) ps
  keys_same [] = refl
  keys_same (p ∷ ps) = ap (λ ks. p.0 ∷ ks) (keys_same ps)

  rows_numbers : (column : Column) → AllByRecursion (λ (e : ℕ × List Item). IsDocNumber e.0 × IsLawfulItems kind e.1) column → AllByRecursion IsDocNumber (keys_of column)
  rows_numbers [] all = tt
  rows_numbers (e ∷ column) all = (all.0.0, rows_numbers column all.1)

  rows_items : (column : Column) → AllByRecursion (λ (e : ℕ × List Item). IsDocNumber e.0 × IsLawfulItems kind e.1) column → AllByRecursion (λ (e : ℕ × List Item). IsLawfulItems kind e.1) column
  rows_items [] all = tt
  rows_items (e ∷ column) all = (all.0.1, rows_items column all.1)

  rows_both : (column : Column) → AllByRecursion IsDocNumber (keys_of column) → AllByRecursion (λ (e : ℕ × List Item). IsLawfulItems kind e.1) column
      → AllByRecursion (λ (e : ℕ × List Item). IsDocNumber e.0 × IsLawfulItems kind e.1) column
  rows_both [] numbers items = tt
  rows_both (e ∷ column) numbers items = ((numbers.0, items.0), rows_both column numbers.1 items.1)

  pub lawful_column : IsTree nat_cmp by_number m documents → AllByRecursion (λ (e : ℕ × List Item). IsDocNumber e.0 × IsLawfulItems kind e.1) (column_at kind type m documents)
      → IsLawfulColumn kind (column_at kind type m documents)
  lawful_column is_tree all = record {
    ascends = subst (IsStrictlySortedBy nat_cmp) (sym (keys_same (tree_pairs m documents))) is_tree.ascends;
    numbers = rows_numbers (column_at kind type m documents) all;
    items = rows_items (column_at kind type m documents) all;
  }

  pub lawful_rows : IsLawfulColumn kind (column_at kind type m documents)
      → AllByRecursion (λ (e : ℕ × List Item). IsDocNumber e.0 × IsLawfulItems kind e.1) (column_at kind type m documents)
  lawful_rows lawful = rows_both (column_at kind type m documents) lawful.numbers lawful.items

module _ (type : ValueType) (m : Records) (column : Column) where
  abbrev IsRight : ℕ × ℕ → Type 0
  IsRight p = postings_at m (list_form p.1) ≡ documents_with (stored_value type m p.0) column

  pub to_lists : (ps : List (ℕ × ℕ)) → AllByRecursion IsRight ps → HasLists column (map (λ (p : ℕ × ℕ). (stored_value type m p.0, postings_at m (list_form p.1))) ps)
  to_lists [] all = tt
  to_lists (p ∷ ps) all = (all.0, to_lists ps all.1)

  pub from_lists : (ps : List (ℕ × ℕ)) → HasLists column (map (λ (p : ℕ × ℕ). (stored_value type m p.0, postings_at m (list_form p.1))) ps) → AllByRecursion IsRight ps
  from_lists [] all = tt
  from_lists (p ∷ ps) all = (all.0, from_lists ps all.1)

-- a value that some document has
module _ (value : Value) where
  found_value : (items : List Item) (item : Item) → find (λ (other : Item). is_eq (value_cmp value other.value)) items ≡ Some item → Contains (values_of items) value
  found_value [] item is = absurd (cc)
  found_value (first ∷ items) item is = told (is_eq (value_cmp value first.value)) refl is (found_value items item)
    where
      told : (b : Bool) → is_eq (value_cmp value first.value) ≡ b → cond b (Some first) (find (λ (other : Item). is_eq (value_cmp value other.value)) items) ≡ Some item
          → (find (λ (other : Item). is_eq (value_cmp value other.value)) items ≡ Some item → Contains (values_of items) value) → Contains (values_of (first ∷ items)) value
      told true same here later = contains-here first.value value (values_of items) (sym (value_cmp_exact value first.value ((Equal-is (value_cmp value first.value)).0 same)))
      told false other there later = contains-there first.value value (values_of items) (later there)

  pub value_of_some : (column : Column) → 0 < length (documents_with value column) → Contains (column_values column) value
  value_of_some [] some = absurd (omega arith)
  value_of_some (e ∷ column) some = told (find (λ (other : Item). is_eq (value_cmp value other.value)) e.1) refl some (value_of_some column)
    where
      told : (found : Option Item) → find (λ (other : Item). is_eq (value_cmp value other.value)) e.1 ≡ found
          → 0 < length (cons_option (option_map {U = ℕ × ℤ} (λ (item : Item). (e.0, item.weight)) found) (documents_with value column))
          → (0 < length (documents_with value column) → Contains (column_values column) value) → Contains (column_values (e ∷ column)) value
      told None is more later = Contains-append_right (values_of e.1) (column_values column) value (later more)
      told (Some item) is more later = Contains-append_left (values_of e.1) (column_values column) value (found_value e.1 item is)

-- what holds of all items holds of all values
module _ (P : Value → Type 0) where
  all_values : (items : List Item) → AllByRecursion (λ (item : Item). P item.value) items → AllByRecursion P (values_of items)
  all_values [] all = tt
  all_values (item ∷ items) all = (all.0, all_values items all.1)

  pub all_column_values : (column : Column) → AllByRecursion (λ (e : ℕ × List Item). AllByRecursion (λ (item : Item). P item.value) e.1) column → AllByRecursion P (column_values column)
  all_column_values [] all = tt
  all_column_values (e ∷ column) all = AllByRecursion-append P (values_of e.1) (column_values column) (all_values e.1 all.0) (all_column_values column all.1)

module _ (type : ValueType) (m : Records) (column : Column) where
  all_in_column : (ps : List (ℕ × ℕ)) → AllByRecursion (IsDictionaryEntry type m) ps → AllByRecursion (IsRight type m column) ps
      → AllByRecursion (Contains (column_values column)) (map (λ (p : ℕ × ℕ). stored_value type m p.0) ps)
  all_in_column [] entries right = tt
  all_in_column (p ∷ ps) entries right =
      (value_of_some (stored_value type m p.0) column (subst (λ (list : List (ℕ × ℤ)). 0 < length list) right.0 (lists_filled m (list_form p.1) entries.0.1)), all_in_column ps entries.1 right.1)

  pub has_values : (ps : List (ℕ × ℕ)) → AllByRecursion (IsDictionaryEntry type m) ps → AllByRecursion (IsRight type m column) ps
      → AllByRecursion (λ (e : ℕ × List Item). AllByRecursion (λ (item : Item). Contains (map (λ (p : ℕ × ℕ). stored_value type m p.0) ps) item.value) e.1) column
      → HasValues column (map (λ (p : ℕ × ℕ). (stored_value type m p.0, postings_at m (list_form p.1))) ps)
  has_values ps entries right covered value =
      let vs : List Value = map (λ (p : ℕ × ℕ). stored_value type m p.0) ps in
      let keys = index_keys type m ps in (
        λ among. All-contains (Contains (column_values column)) vs value (All-from_recursion (Contains (column_values column)) vs (all_in_column ps entries right)) (subst (λ ks. Contains ks value) keys among),
        λ among. subst (λ ks. Contains ks value) (sym keys) (All-contains (Contains vs) (column_values column) value
            (All-from_recursion (Contains vs) (column_values column) (all_column_values (Contains vs) column covered)) among),
      )

-- the other way: the values of an index cover the items of its column
each_all : {X : Type 0} (P : X → Type 0) (xs : List X) → ((x : X) → Contains xs x → P x) → AllByRecursion P xs
each_all P [] each = tt
each_all P (x ∷ xs) each = (each x (contains-here x x xs refl), each_all P xs (λ y among. each y (contains-there x y xs among)))

module _ (P : Value → Type 0) where
  all_items : (items : List Item) → AllByRecursion P (values_of items) → AllByRecursion (λ (item : Item). P item.value) items
  all_items [] all = tt
  all_items (item ∷ items) all = (all.0, all_items items all.1)

  all_rows : (column : Column) → AllByRecursion P (column_values column) → AllByRecursion (λ (e : ℕ × List Item). AllByRecursion (λ (item : Item). P item.value) e.1) column
  all_rows [] all = tt
  all_rows (e ∷ column) all = (
    all_items e.1 (AllByRecursion-left P (values_of e.1) (column_values column) all),
    all_rows column (AllByRecursion-right P (values_of e.1) (column_values column) all),
  )

pub values_cover : (column : Column) (index : List (Value × List (ℕ × ℤ))) → HasValues column index
    → AllByRecursion (λ (e : ℕ × List Item). AllByRecursion (λ (item : Item). Contains (keys_of index) item.value) e.1) column
values_cover column index has = all_rows (Contains (keys_of index)) column (each_all (Contains (keys_of index)) (column_values column) (λ v among. (has v).1 among))
