-- Which values are one, and among which values one is.
use Rattle.std.proofs.Common.{◌≡◌, ◌≢◌, ℕ, zero, suc, ◌+◌, ◌<◌, Bool, true, false, List, [], ◌∷◌, ◌++◌, length, get_or, take, Option, Some, None, option_map, Ordering, is_eq, true≢false, sym, ap, subst, ◌∙◌, arith}
use Rattle.std.proofs.Common.{append-nil}
use Rattle.std.specs.Prelude.{ℤ, Contains}
use Rattle.std.proofs.lemmas.Cmp.{tied_itself}
use Rattle.std.proofs.lemmas.List.{take_more}
use Rattle.std.proofs.lemmas.List.Elements.{at_read, filter_map-append}
use Rattle.std.specs.Cmp.{Equal-is}
use Rattle.std.specs.List.{find, filter_map, cons_option, AllByRecursion}
use Rattle.index_model.specs.Columns.{documents_with}
use Rattle.attr_types.specs.Value.{value_cmp}
use Rattle.attr_types.specs.ProofsForOrder.{value_cmp_total, value_cmp_exact}
use Rattle.attr_types.specs.declared.items.Item.{Item}
use Rattle.attr_types.specs.declared.value.Value.{Value}

pub same_value : (x v : Value) (r : Ordering) (answer : Bool) → r ≡ value_cmp x v → answer ≡ is_eq r → answer ≡ true → x ≡ v
same_value x v r answer compared is so = value_cmp_exact x v ((Equal-is (value_cmp x v)).0 (ap is_eq (sym compared) ∙ sym is ∙ so))

pub other_value : (x v : Value) (r : Ordering) (answer : Bool) → r ≡ value_cmp x v → answer ≡ is_eq r → answer ≡ false → x ≢ v
other_value x v r answer compared is not_so same =
    true≢false (sym (ap is_eq (tied_itself value_cmp_total v)) ∙ ap (λ y. is_eq (value_cmp y v)) (sym same) ∙ ap is_eq (sym compared) ∙ sym is ∙ not_so)

-- an element that is read is among them
pub contains_at : {X : Type 0} (xs : List X) (i : ℕ) (x v : X) → i < length xs → x ≡ get_or xs i x → x ≡ v → Contains xs v
contains_at xs i x v low is same = (i, low, at_read xs (λ y. y ≡ v) i x low is same v)

pub other_at : (xs : List Value) (i : ℕ) (x v : Value) → i < length xs → x ≡ get_or xs i x → x ≢ v → get_or xs i v ≢ v
other_at xs i x v low is other = at_read xs (λ y. y ≢ v) i x low is other v

-- what holds of all holds of one that is read
pub all_at : {X : Type 0} (P : X → Type 0) (xs : List X) (i : ℕ) (x : X) → i < length xs → x ≡ get_or xs i x → AllByRecursion P xs → P x
all_at P [] i x low is all = absurd (omega arith)
all_at P (y ∷ ys) zero x low is all = subst P (sym is) all.0
all_at P (y ∷ ys) (suc i) x low is all = all_at P ys i x (omega arith) is all.1

-- one element more of which something holds
pub all_more : {X : Type 0} (P : X → Type 0) (xs : List X) (i : ℕ) (x : X) → i < length xs → x ≡ get_or xs i x → AllByRecursion P (take i xs) → P x → AllByRecursion P (take (i + 1) xs)
all_more P [] i x low is all here = absurd (omega arith)
all_more P (y ∷ ys) zero x low is all here = (subst P is here, tt)
all_more P (y ∷ ys) (suc i) x low is all here =
    subst (λ n. AllByRecursion P (take n (y ∷ ys))) (let e : suc (i + 1) ≡ suc i + 1 = omega arith in e) (all.0, all_more P ys i x (omega arith) is all.1 here)

-- one element more of those that are kept
kept_more : {X Y : Type 0} (h : X → Option Y) (xs : List X) (i : ℕ) (x : X) → i < length xs → x ≡ get_or xs i x → filter_map h (take (i + 1) xs) ≡ filter_map h (take i xs) ++ filter_map h (x ∷ [])
kept_more h xs i x low is =
    ap (filter_map h) (take_more xs i x low)
    ∙ filter_map-append h (take i xs) (get_or xs i x ∷ [])
    ∙ ap (λ y. filter_map h (take i xs) ++ filter_map h (y ∷ [])) (sym is)

-- and so of the documents with a value
module _ (value : Value) (column : List (ℕ × List Item)) (i : ℕ) (e : ℕ × List Item) (low : i < length column) (is : e ≡ get_or column i e) where
  abbrev of : ℕ × List Item → Option (ℕ × ℤ)
  of d = option_map {U = ℕ × ℤ} (λ (item : Item). (d.0, item.weight)) (find (λ (item : Item). is_eq (value_cmp value item.value)) d.1)

  pub document_more : (list more : List (ℕ × ℤ)) (pair : ℕ × ℤ) → of e ≡ Some pair → list ≡ documents_with value (take i column) → more ≡ list ++ pair ∷ [] → more ≡ documents_with value (take (i + 1) column)
  document_more list more pair told so_far next =
      next ∙ ap (λ xs. xs ++ pair ∷ []) so_far
      ∙ ap (λ o. documents_with value (take i column) ++ cons_option o []) (sym told)
      ∙ sym (kept_more of column i e low is)

  pub document_none : (list : List (ℕ × ℤ)) → of e ≡ None → list ≡ documents_with value (take i column) → list ≡ documents_with value (take (i + 1) column)
  document_none list told so_far =
      so_far ∙ sym (append-nil (documents_with value (take i column)))
      ∙ ap (λ o. documents_with value (take i column) ++ cons_option o []) (sym told)
      ∙ sym (kept_more of column i e low is)
