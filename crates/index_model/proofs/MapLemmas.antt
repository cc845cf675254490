-- A walk over the entries of a map from value to weight.
use Rattle.std.proofs.Common.{◌≡◌, ℕ, ℤ, true, false, cond, List, [], ◌∷◌, ◌++◌, Option, Some, None}
use Rattle.std.proofs.Common.{IsSome, option_map, nat_cmp, is_eq, refl, sym, ap, ◌∙◌, subst, Less}
use Rattle.std.proofs.lemmas.Cmp.{tied_itself}
use Rattle.std.specs.BTreeMap.{insert_entry, is_at}
use Rattle.std.specs.List.{AllByRecursion, find}
use Rattle.std.specs.Option.{is_some}
use Rattle.attr_types.proofs.EntryLemmas.{lookup-insert_here, lookup-insert_other}
use Rattle.attr_types.specs.declared.items.Item.{Item}
use Rattle.index_model.proofs.ChangeLemmas.{by_value}
use Rattle.index_model.proofs.ListLemmas.{list_of-sorted, weight_in-first}
use Rattle.index_model.proofs.PartLemmas.{insert_same}
use Rattle.std.specs.List.Sorted.{IsStrictlySortedBy}
use Rattle.std.specs.Map.{keys_of, lookup}
use Rattle.std.specs.Ordering.{ordering_reverse}
use Rattle.attr_types.specs.Value.{value_cmp}
use Rattle.attr_types.specs.ProofsForOrder.{value_cmp_total}
use Rattle.attr_types.specs.declared.value.Value.{Value}
use Rattle.index_model.proofs.BetweenLemmas.{put_step, same_step, take_step, stay_step}
use Rattle.std.proofs.lemmas.Bool.Decides.{Decides-int_eq}
use Rattle.index_model.specs.Index.{Index, IsFormed, list_of, weight_in, with_posting, without_posting}
use Rattle.index_model.specs.Changes.{IsBetween, is_weight, first_given, settled, first_weights}

-- the entries so far are added, and the rest is to come
pub record IsWalk (start : Index) (doc : ℕ) (entries rest : List (Value × ℤ)) (index : Index) : Type 0 where
  pub done : List (Value × ℤ)
  pub joins : done ++ rest ≡ entries
  pub between : IsBetween start doc (λ v. lookup (is_at (value_cmp v)) done) (λ v. None) index

pub was_weight : (weight : ℤ) (o : Option ℤ) → is_weight weight o ≡ true → o ≡ Some weight
was_weight weight None is = cc
was_weight weight (Some other) is = ap Some (sym ((Decides-int_eq weight other).0 is))

lookup-push_here : (value : Value) (weight : ℤ) (es : List (Value × ℤ)) → lookup (is_at (value_cmp value)) es ≡ None
    → lookup (is_at (value_cmp value)) (es ++ (value, weight) ∷ []) ≡ Some weight
lookup-push_here value weight [] none = ap (λ r. cond (is_eq r) (Some weight) None) (tied_itself value_cmp_total value)
lookup-push_here value weight (e ∷ es) none =
    elim (is_eq (value_cmp value e.0)) as (λ b. cond b (Some e.1) (lookup (is_at (value_cmp value)) es) ≡ None
    → cond b (Some e.1) (lookup (is_at (value_cmp value)) (es ++ (value, weight) ∷ [])) ≡ Some weight)
    [ true ↦ λ h. cc | false ↦ λ h. lookup-push_here value weight es h ] none

lookup-push_other : (value : Value) (weight : ℤ) (es : List (Value × ℤ)) (q : Value) → is_eq (value_cmp q value) ≡ false
    → lookup (is_at (value_cmp q)) (es ++ (value, weight) ∷ []) ≡ lookup (is_at (value_cmp q)) es
lookup-push_other value weight [] q apart = ap (λ b. cond b (Some weight) None) apart
lookup-push_other value weight (e ∷ es) q apart = ap (cond (is_eq (value_cmp q e.0)) (Some e.1)) (lookup-push_other value weight es q apart)

pub at_place : (first value : Value) (weight : ℤ) (es more : List (Value × ℤ))
    → AllByRecursion (λ y. value_cmp first y ≡ Less) (keys_of (es ++ (value, weight) ∷ more)) → value_cmp first value ≡ Less
at_place first value weight [] more all = all.0
at_place first value weight (e ∷ es) more all = at_place first value weight es more all.1

pub none_before : (value : Value) (weight : ℤ) (es more : List (Value × ℤ)) → IsStrictlySortedBy value_cmp (keys_of (es ++ (value, weight) ∷ more))
    → lookup (is_at (value_cmp value)) es ≡ None
unfolding IsStrictlySortedBy
none_before value weight [] more up = refl
none_before value weight (e ∷ es) more up =
    ap (λ r. cond (is_eq r) (Some e.1) (lookup (is_at (value_cmp value)) es))
    (value_cmp_total.antisymm value e.0 ∙ ap ordering_reverse (at_place e.0 value weight es more up.0))
    ∙ none_before value weight es more up.1

append_again : {A : Type 0} (xs : List A) (y : A) (ys : List A) → (xs ++ y ∷ []) ++ ys ≡ xs ++ y ∷ ys
append_again [] y ys = refl
append_again (x ∷ xs) y ys = ap (λ rest. x ∷ rest) (append_again xs y ys)

append_none : {A : Type 0} (xs : List A) → xs ++ [] ≡ xs
append_none [] = refl
append_none (x ∷ xs) = ap (λ rest. x ∷ rest) (append_none xs)

module _ (start : Index) (doc : ℕ) (entries : List (Value × ℤ)) where
  pub walk_ends : (rest : List (Value × ℤ)) (index : Index) → IsWalk start doc entries rest index → rest ≡ []
      → IsBetween start doc (λ v. lookup (is_at (value_cmp v)) entries) (λ v. None) index
  walk_ends rest index p is =
      subst (λ es. IsBetween start doc (λ v. lookup (is_at (value_cmp v)) es) (λ v. None) index)
      (sym (append_none p.done) ∙ ap (λ es. p.done ++ es) (sym is) ∙ p.joins) p.between

  module _ (rest more : List (Value × ℤ)) (value : Value) (weight : ℤ) (now later : Index) (up : IsStrictlySortedBy value_cmp (keys_of entries))
      (p : IsWalk start doc entries rest now) (is : rest ≡ (value, weight) ∷ more) where
    joined : p.done ++ (value, weight) ∷ more ≡ entries
    joined = ap (λ es. p.done ++ es) (sym is) ∙ p.joins

    lacks : lookup (is_at (value_cmp value)) p.done ≡ None
    lacks = none_before value weight p.done more (subst (λ es. IsStrictlySortedBy value_cmp (keys_of es)) (sym joined) up)

    pub walk_put : later ≡ with_posting value doc weight now → IsWalk start doc entries more later
    walk_put made = record {
      done = p.done ++ (value, weight) ∷ [];
      joins = append_again p.done (value, weight) more ∙ joined;
      between = subst (IsBetween start doc (λ v. lookup (is_at (value_cmp v)) (p.done ++ (value, weight) ∷ [])) (λ v. None)) (sym made)
          (put_step start doc now value weight (λ v. lookup (is_at (value_cmp v)) p.done) (λ v. lookup (is_at (value_cmp v)) (p.done ++ (value, weight) ∷ []))
          (lookup-push_other value weight p.done) p.between lacks (lookup-push_here value weight p.done lacks));
    }

    pub walk_same : later ≡ now → lookup (is_at (nat_cmp doc)) (list_of value start) ≡ Some weight → IsWalk start doc entries more later
    walk_same made had = record {
      done = p.done ++ (value, weight) ∷ [];
      joins = append_again p.done (value, weight) more ∙ joined;
      between = subst (IsBetween start doc (λ v. lookup (is_at (value_cmp v)) (p.done ++ (value, weight) ∷ [])) (λ v. None)) (sym made)
          (same_step start doc now value weight (λ v. lookup (is_at (value_cmp v)) p.done) (λ v. lookup (is_at (value_cmp v)) (p.done ++ (value, weight) ∷ []))
          (lookup-push_other value weight p.done) p.between lacks (lookup-push_here value weight p.done lacks) had);
    }

-- ---- the walk back: the entries so far are taken out
pub record IsWalkBack (start : Index) (doc : ℕ) (added : Value → Option ℤ) (entries rest : List (Value × ℤ)) (index : Index) : Type 0 where
  pub done : List (Value × ℤ)
  pub joins : done ++ rest ≡ entries
  pub between : IsBetween start doc added (λ v. lookup (is_at (value_cmp v)) done) index

module _ (start : Index) (doc : ℕ) (added : Value → Option ℤ) (entries : List (Value × ℤ)) where
  pub back_begins : (rest : List (Value × ℤ)) → rest ≡ entries → IsFormed start
      → ((v : Value) → lookup (is_at (nat_cmp doc)) (list_of v start) ≡ first_given (added v) (lookup (is_at (value_cmp v)) entries))
      → IsWalkBack start doc added entries rest start
  back_begins rest is formed has = record {
    done = [];
    joins = is;
    between = record { formed = formed; lists = λ v. told v (added v) (has v) };
  }
    where
      told : (v : Value) (o : Option ℤ) → lookup (is_at (nat_cmp doc)) (list_of v start) ≡ first_given o (lookup (is_at (value_cmp v)) entries)
          → list_of v start ≡ settled o None doc (list_of v start)
      told v (Some weight) there = sym (insert_same doc weight (list_of v start) (list_of-sorted v start formed) there)
      told v None there = refl

  pub back_ends : (rest : List (Value × ℤ)) (index : Index) → IsWalkBack start doc added entries rest index → rest ≡ []
      → IsBetween start doc added (λ v. lookup (is_at (value_cmp v)) entries) index
  back_ends rest index p is =
      subst (λ es. IsBetween start doc added (λ v. lookup (is_at (value_cmp v)) es) index)
      (sym (append_none p.done) ∙ ap (λ es. p.done ++ es) (sym is) ∙ p.joins) p.between

  module _ (rest more : List (Value × ℤ)) (value : Value) (weight : ℤ) (now later : Index) (up : IsStrictlySortedBy value_cmp (keys_of entries))
      (p : IsWalkBack start doc added entries rest now) (is : rest ≡ (value, weight) ∷ more) where
    joined_back : p.done ++ (value, weight) ∷ more ≡ entries
    joined_back = ap (λ es. p.done ++ es) (sym is) ∙ p.joins

    lacks_back : lookup (is_at (value_cmp value)) p.done ≡ None
    lacks_back = none_before value weight p.done more (subst (λ es. IsStrictlySortedBy value_cmp (keys_of es)) (sym joined_back) up)

    lookup-joined : (es : List (Value × ℤ)) → lookup (is_at (value_cmp value)) es ≡ None
        → lookup (is_at (value_cmp value)) (es ++ (value, weight) ∷ more) ≡ Some weight
    lookup-joined [] none = ap (λ r. cond (is_eq r) (Some weight) (lookup (is_at (value_cmp value)) more)) (tied_itself value_cmp_total value)
    lookup-joined (e ∷ es) none =
        elim (is_eq (value_cmp value e.0)) as (λ b. cond b (Some e.1) (lookup (is_at (value_cmp value)) es) ≡ None
        → cond b (Some e.1) (lookup (is_at (value_cmp value)) (es ++ (value, weight) ∷ more)) ≡ Some weight)
        [ true ↦ λ h. cc | false ↦ λ h. lookup-joined es h ] none

    pub back_there : ((v : Value) → lookup (is_at (nat_cmp doc)) (list_of v start) ≡ first_given (added v) (lookup (is_at (value_cmp v)) entries))
        → added value ≡ None → IsSome (lookup (is_at (nat_cmp doc)) (list_of value now))
    back_there has gone =
        ap is_some (ap (lookup (is_at (nat_cmp doc))) (p.between.lists value
        ∙ ap (λ o. settled o (lookup (is_at (value_cmp value)) p.done) doc (list_of value start)) gone
        ∙ ap (λ o. settled None o doc (list_of value start)) lacks_back)
        ∙ has value ∙ ap (λ o. first_given o (lookup (is_at (value_cmp value)) entries)) gone
        ∙ ap (lookup (is_at (value_cmp value))) (sym joined_back) ∙ lookup-joined p.done lacks_back)

    pub back_take : later ≡ without_posting value doc now → added value ≡ None → IsWalkBack start doc added entries more later
    back_take made gone = record {
      done = p.done ++ (value, weight) ∷ [];
      joins = append_again p.done (value, weight) more ∙ joined_back;
      between = subst (IsBetween start doc added (λ v. lookup (is_at (value_cmp v)) (p.done ++ (value, weight) ∷ []))) (sym made)
          (take_step start doc now value weight (λ v. lookup (is_at (value_cmp v)) p.done) (λ v. lookup (is_at (value_cmp v)) (p.done ++ (value, weight) ∷ []))
          (lookup-push_other value weight p.done) added p.between gone lacks_back (lookup-push_here value weight p.done lacks_back));
    }

    pub back_stay : (other : ℤ) → later ≡ now → added value ≡ Some other → IsWalkBack start doc added entries more later
    back_stay other made stays = record {
      done = p.done ++ (value, weight) ∷ [];
      joins = append_again p.done (value, weight) more ∙ joined_back;
      between = subst (IsBetween start doc added (λ v. lookup (is_at (value_cmp v)) (p.done ++ (value, weight) ∷ []))) (sym made)
          (stay_step start doc now value weight (λ v. lookup (is_at (value_cmp v)) p.done) (λ v. lookup (is_at (value_cmp v)) (p.done ++ (value, weight) ∷ []))
          (lookup-push_other value weight p.done) added other p.between stays);
    }

-- ---- the map of items
weight_in-other : (value : Value) (item : Item) (items : List Item) → is_eq (value_cmp value item.value) ≡ false
    → weight_in value (item ∷ items) ≡ weight_in value items
weight_in-other value item items apart =
    ap (λ b. option_map (λ (x : Item). x.weight) (cond b (Some item) (find (λ (x : Item). is_eq (value_cmp value x.value)) items))) apart

or_none : (o : Option ℤ) → first_given o None ≡ o
or_none None = refl
or_none (Some weight) = refl

first_step : (value : Value) (es : List (Value × ℤ)) (item : Item) (items : List Item) (o : Option ℤ) → lookup (is_at (value_cmp item.value)) es ≡ o
    → first_given (lookup (is_at (value_cmp value)) (cond (is_some o) es (insert_entry value_cmp es item.value item.weight))) (weight_in value items)
    ≡ first_given (lookup (is_at (value_cmp value)) es) (weight_in value (item ∷ items))
first_step value es item items (Some weight) is =
    by_value (λ v. first_given (lookup (is_at (value_cmp v)) es) (weight_in v items) ≡ first_given (lookup (is_at (value_cmp v)) es) (weight_in v (item ∷ items))) item.value
    (ap (λ o. first_given o (weight_in item.value items)) is ∙ sym (ap (λ o. first_given o (weight_in item.value (item ∷ items))) is))
    (λ v apart. ap (first_given (lookup (is_at (value_cmp v)) es)) (sym (weight_in-other v item items apart))) value
first_step value es item items None is =
    by_value (λ v. first_given (lookup (is_at (value_cmp v)) (insert_entry value_cmp es item.value item.weight)) (weight_in v items)
    ≡ first_given (lookup (is_at (value_cmp v)) es) (weight_in v (item ∷ items))) item.value
    (ap (λ o. first_given o (weight_in item.value items)) (lookup-insert_here value_cmp_total es item.value item.weight)
    ∙ sym (weight_in-first item items) ∙ sym (ap (λ o. first_given o (weight_in item.value (item ∷ items))) is))
    (λ v apart. ap (λ o. first_given o (weight_in v items)) (lookup-insert_other value_cmp_total es item.value item.weight v apart)
    ∙ ap (first_given (lookup (is_at (value_cmp v)) es)) (sym (weight_in-other v item items apart))) value

pub lookup-first_weights : (value : Value) (es : List (Value × ℤ)) (items : List Item)
    → lookup (is_at (value_cmp value)) (first_weights es items) ≡ first_given (lookup (is_at (value_cmp value)) es) (weight_in value items)
lookup-first_weights value es [] = sym (or_none (lookup (is_at (value_cmp value)) es))
lookup-first_weights value es (item ∷ items) =
    lookup-first_weights value (cond (is_some (lookup (is_at (value_cmp item.value)) es)) es (insert_entry value_cmp es item.value item.weight)) items
    ∙ first_step value es item items (lookup (is_at (value_cmp item.value)) es) refl

pub none_then : (o : Option ℤ) → is_some o ≡ false → o ≡ None
none_then None is = refl
none_then (Some weight) is = cc

pub some_then : (o : Option ℤ) → is_some o ≡ true → (weight : ℤ) × (o ≡ Some weight)
some_then None is = cc
some_then (Some weight) is = (weight, refl)
