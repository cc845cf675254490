-- How many values and documents a column has, as operations go on.
use Rattle.std.proofs.Common.{◌≡◌, ℕ, ℤ, suc, ◌+◌, ◌≤◌, Bool, true, false, ◌||◌, cond, List, [], ◌∷◌, ◌++◌, length, Option, Some, None, refl, sym, ap, ◌∙◌, arith, nat_cmp, is_eq}
use Rattle.std.proofs.lemmas.Cmp.{eq_by_cmp_equiv}
use Rattle.std.proofs.lemmas.List.{length-append, length-map}
use Rattle.std.proofs.lemmas.List.Sums.{sum_by-cons}
use Rattle.std.proofs.lemmas.Map.Keys.{IsDistinct-from_sorted}
use Rattle.std.proofs.lemmas.Map.Made.{length-le_from_is_member}
use Rattle.std.specs.BTreeMap.{insert_entry, is_at}
use Rattle.std.specs.declared.cmp.Ordering.{Ordering}
use Rattle.std.specs.declared.cmp.Ordering.TheVariants.{Less, Equal, Greater}
use Rattle.std.specs.List.{cons_option, find, list_any}
use Rattle.std.specs.Map.{keys_of, lookup, remove_entry}
use Rattle.std.specs.Option.{is_some, option_map}
use Rattle.std.specs.Ordering.{match_ordering}
use Rattle.index_model.proofs.MapLemmas.{lookup-first_weights}
use Rattle.index_model.proofs.OfLemmas.{any-append, any-index, has_some}
use Rattle.index_model.specs.Changes.{first_weights}
use Rattle.index_model.specs.Columns.{Column, documents_with}
use Rattle.index_model.specs.Index.{Index, IsIndexOf, weight_in}
use Rattle.attr_types.specs.ProofsForOrder.{value_cmp_total}
use Rattle.attr_types.specs.Value.{value_cmp}
use Rattle.attr_types.specs.declared.items.Item.{Item}
use Rattle.attr_types.specs.declared.value.Value.{Value}
use Rattle.attr_loader.specs.Room.{column_weight}

-- ---- the values of an index
weight_keys : Column → List Value
weight_keys [] = []
weight_keys (e ∷ column) = keys_of (first_weights [] e.1) ++ weight_keys column

weight_length : (column : Column) → length (weight_keys column) ≡ column_weight column
unfolding weight_keys
weight_length [] = refl
weight_length (e ∷ column) =
    let rest = weight_length column in
    let both = length-append (keys_of (first_weights [] e.1)) (weight_keys column) in
    let own : length (keys_of (first_weights [] e.1)) ≡ length (first_weights [] e.1) = length-map (first_weights [] e.1) (λ p. p.0) in
    let sum = sum_by-cons (λ (x : ℕ × List Item). length (first_weights [] x.1)) e column in
    omega (arith, rest, both, own, sum)

any_keys : (value : Value) (es : List (Value × ℤ)) → list_any (is_at (value_cmp value)) (keys_of es) ≡ is_some (lookup (is_at (value_cmp value)) es)
any_keys value [] = refl
any_keys value (e ∷ es) =
    elim (is_eq (value_cmp value e.0)) as (λ b. (b || list_any (is_at (value_cmp value)) (keys_of es)) ≡ is_some (cond b (Some e.1) (lookup (is_at (value_cmp value)) es)))
    [ true ↦ refl | false ↦ any_keys value es ]

any_found : (doc : ℕ) (o : Option Item) (docs : List (ℕ × ℤ))
    → (is_some (option_map (λ (item : Item). item.weight) o) || has_some docs) ≡ has_some (cons_option (option_map {U = ℕ × ℤ} (λ item. (doc, item.weight)) o) docs)
any_found doc None docs = refl
any_found doc (Some item) docs = refl

any_weights : (value : Value) (column : Column) → list_any (is_at (value_cmp value)) (weight_keys column) ≡ has_some (documents_with value column)
unfolding weight_keys
any_weights value [] = refl
any_weights value (e ∷ column) =
    any-append (is_at (value_cmp value)) (keys_of (first_weights [] e.1)) (weight_keys column)
    ∙ ap (λ b. b || list_any (is_at (value_cmp value)) (weight_keys column)) (any_keys value (first_weights [] e.1) ∙ ap is_some (lookup-first_weights value [] e.1))
    ∙ ap (λ b. is_some (weight_in value e.1) || b) (any_weights value column)
    ∙ any_found e.0 (find (λ (item : Item). is_eq (value_cmp value item.value)) e.1) (documents_with value column)

pub index_few : (column : Column) (index : Index) → IsIndexOf column index → length index ≤ column_weight column
index_few column index of =
    let few : length (keys_of index) ≤ length (weight_keys column)
    = length-le_from_is_member (eq_by_cmp_equiv value_cmp_total) (keys_of index) (weight_keys column) (IsDistinct-from_sorted value_cmp (keys_of index) of.formed.ascends)
    (λ value there. any_weights value column ∙ sym (ap has_some (of.lists value)) ∙ sym (any-index value index of.formed.filled) ∙ there) in
    let own : length (keys_of index) ≡ length index = length-map index (λ e. e.0) in
    let all = weight_length column in
    omega (arith, few, own, all)

-- ---- a document's items change
module _ (doc : ℕ) (items : List Item) where
  abbrev own : ℕ
  own = length (first_weights [] items)

  cons_weight : (e : ℕ × List Item) (column : Column) → column_weight (e ∷ column) ≡ length (first_weights [] e.1) + column_weight column
  cons_weight e column = sum_by-cons (λ (x : ℕ × List Item). length (first_weights [] x.1)) e column

  pub put_weight : (column : Column) → column_weight (insert_entry nat_cmp column doc items) ≤ column_weight column + own
  put_weight [] = let one = cons_weight (doc, items) [] in let none : column_weight [] ≡ 0 = refl in omega (arith, one, none)
  put_weight (e ∷ column) = told (nat_cmp doc e.0) (put_weight column)
    where
      told : (r : Ordering) → column_weight (insert_entry nat_cmp column doc items) ≤ column_weight column + own
          → column_weight (match_ordering r ((doc, items) ∷ e ∷ column) ((e.0, items) ∷ column) (e ∷ insert_entry nat_cmp column doc items)) ≤ column_weight (e ∷ column) + own
      told Less rest = let a = cons_weight (doc, items) (e ∷ column) in omega (arith, a)
      told Equal rest = let a = cons_weight (e.0, items) column in let b = cons_weight e column in omega (arith, a, b)
      told Greater rest = let a = cons_weight e (insert_entry nat_cmp column doc items) in let b = cons_weight e column in omega (arith, a, b, rest)

  pub put_length : (column : Column) → length (insert_entry nat_cmp column doc items) ≤ length column + 1
  put_length [] = omega arith
  put_length (e ∷ column) = told (nat_cmp doc e.0) (put_length column)
    where
      told : (r : Ordering) → length (insert_entry nat_cmp column doc items) ≤ length column + 1
          → length (match_ordering r ((doc, items) ∷ e ∷ column) ((e.0, items) ∷ column) (e ∷ insert_entry nat_cmp column doc items)) ≤ suc (length column) + 1
      told Less rest = omega arith
      told Equal rest = omega arith
      told Greater rest = omega (arith, rest)

module _ (test : ℕ → Bool) where
  pub taken_weight : (column : Column) → column_weight (remove_entry test column) ≤ column_weight column
  taken_weight [] = omega arith
  taken_weight (e ∷ column) = told (test e.0) (taken_weight column)
    where
      told : (b : Bool) → column_weight (remove_entry test column) ≤ column_weight column → column_weight (cond b column (e ∷ remove_entry test column)) ≤ column_weight (e ∷ column)
      told true rest = let b = cons_weight 0 [] e column in omega (arith, b)
      told false rest = let a = cons_weight 0 [] e (remove_entry test column) in let b = cons_weight 0 [] e column in omega (arith, a, b, rest)

  pub taken_length : (column : Column) → length (remove_entry test column) ≤ length column
  taken_length [] = omega arith
  taken_length (e ∷ column) = told (test e.0) (taken_length column)
    where
      told : (b : Bool) → length (remove_entry test column) ≤ length column → length (cond b column (e ∷ remove_entry test column)) ≤ suc (length column)
      told true rest = omega arith
      told false rest = omega (arith, rest)
