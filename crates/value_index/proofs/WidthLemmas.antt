-- Of which width a walk was refused.
use Rattle.std.proofs.Common.{◌≡◌, ℕ, ℤ, Bool, List, [], ◌∷◌, ◌++◌, length, Option, Some, None, nat_cmp, sym, ap, subst, ◌∙◌, inl, inr}
use Rattle.std.specs.BTreeMap.{insert_entry, is_at}
use Rattle.std.specs.List.{AllByRecursion}
use Rattle.std.specs.List.Sorted.{IsStrictlySortedBy}
use Rattle.std.specs.Map.{keys_of, lookup, remove_entry}
use Rattle.std.specs.Option.{is_some}
use Rattle.index_model.proofs.MapLemmas.{IsWalk, IsWalkBack, none_before}
use Rattle.index_model.proofs.OfLemmas.{all_found}
use Rattle.index_model.specs.Changes.{settled}
use Rattle.index_model.specs.Index.{Index, list_of}
use Rattle.attr_types.specs.ProofsForOrder.{value_cmp_total}
use Rattle.attr_types.specs.Value.{value_cmp}
use Rattle.attr_types.specs.declared.value.Value.{Value}
use Rattle.value_index.specs.Changes.{IsChangeWidth, IsValueWidth}
use Rattle.value_index.specs.Widths.{IsWalkWidth}

-- an entry at its place, and none of its value before it
at_here : (P : Value × ℤ → Type 0) (done more : List (Value × ℤ)) (e : Value × ℤ) → AllByRecursion P (done ++ e ∷ more) → P e
at_here P [] more e all = all.0
at_here P (d ∷ done) more e all = at_here P done more e all.1

-- the value that is next in a walk: its list is what it was at first, and is changed once
module _ (start : Index) (doc : ℕ) (entries rest more : List (Value × ℤ)) (value : Value) (weight : ℤ) (now : Index)
    (up : IsStrictlySortedBy value_cmp (keys_of entries)) (is : rest ≡ (value, weight) ∷ more) where
  joined : (done : List (Value × ℤ)) → done ++ rest ≡ entries → done ++ (value, weight) ∷ more ≡ entries
  joined done joins = ap (λ es. done ++ es) (sym is) ∙ joins

  found : (done : List (Value × ℤ)) → done ++ rest ≡ entries → lookup (is_at (value_cmp value)) entries ≡ Some weight
  found done joins =
      at_here (λ e. lookup (is_at (value_cmp e.0)) entries ≡ Some e.1) done more (value, weight)
      (subst (AllByRecursion (λ e. lookup (is_at (value_cmp e.0)) entries ≡ Some e.1)) (sym (joined done joins)) (all_found value_cmp_total entries up))

  lacks : (done : List (Value × ℤ)) → done ++ rest ≡ entries → lookup (is_at (value_cmp value)) done ≡ None
  lacks done joins = none_before value weight done more (subst (λ (es : List (Value × ℤ)). IsStrictlySortedBy value_cmp (keys_of es)) (sym (joined done joins)) up)

  -- so its list is what it was at first
  pub put_list : (p : IsWalk start doc entries rest now) → list_of value start ≡ list_of value now
  put_list p = sym (p.between.lists value ∙ ap (λ (o : Option ℤ). settled o None doc (list_of value start)) (lacks p.done p.joins))

  pub take_list : (added : Value → Option ℤ) (p : IsWalkBack start doc added entries rest now) → added value ≡ None → list_of value start ≡ list_of value now
  take_list added p gone = sym (
      p.between.lists value ∙ ap (λ (o : Option ℤ). settled o (lookup (is_at (value_cmp value)) p.done) doc (list_of value start)) gone
      ∙ ap (λ (o : Option ℤ). settled None o doc (list_of value start)) (lacks p.done p.joins))

  pub put_width : (dense : Bool) (p : IsWalk start doc entries rest now) (w : ℕ) → IsChangeWidth dense value (length (insert_entry nat_cmp (list_of value now) doc weight)) w
      → IsWalkWidth dense start doc (λ v. lookup (is_at (value_cmp v)) entries) (λ v. None) w
  put_width dense p w (inl node) = inl node
  put_width dense p w (inr one) =
      let there = found p.done p.joins in
      let was : list_of value now ≡ list_of value start = sym (put_list p) in
      let lists : insert_entry nat_cmp (list_of value now) doc weight ≡ settled (lookup (is_at (value_cmp value)) entries) None doc (list_of value start) =
      ap (λ (ds : List (ℕ × ℤ)). insert_entry nat_cmp ds doc weight) was ∙ ap (λ (o : Option ℤ). settled o None doc (list_of value start)) (sym there) in
      inr (record { value = value; walked = inl (ap is_some there); is = subst (λ (ds : List (ℕ × ℤ)). IsValueWidth dense value (length ds) w) lists one })

  pub take_width : (dense : Bool) (added : Value → Option ℤ) (p : IsWalkBack start doc added entries rest now) → added value ≡ None → (w : ℕ)
      → IsChangeWidth dense value (length (remove_entry (is_at (nat_cmp doc)) (list_of value now))) w
      → IsWalkWidth dense start doc added (λ v. lookup (is_at (value_cmp v)) entries) w
  take_width dense added p gone w (inl node) = inl node
  take_width dense added p gone w (inr one) =
      let there = found p.done p.joins in
      let was : list_of value now ≡ list_of value start = sym (take_list added p gone) in
      let lists : remove_entry (is_at (nat_cmp doc)) (list_of value now) ≡ settled (added value) (lookup (is_at (value_cmp value)) entries) doc (list_of value start) =
      ap (λ (ds : List (ℕ × ℤ)). remove_entry (is_at (nat_cmp doc)) ds) was
      ∙ ap (λ (o : Option ℤ). settled None o doc (list_of value start)) (sym there)
      ∙ ap (λ (o : Option ℤ). settled o (lookup (is_at (value_cmp value)) entries) doc (list_of value start)) (sym gone) in
      inr (record { value = value; walked = inr (ap is_some there); is = subst (λ (ds : List (ℕ × ℤ)). IsValueWidth dense value (length ds) w) lists one })
