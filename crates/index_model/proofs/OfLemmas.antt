-- An index of a table has its values and its lists, and is the only one that has.
use Rattle.std.proofs.Common.{◌≡◌, ◌<◌, ℕ, ℤ, Bool, true, false, ◌||◌, cond, List, [], ◌∷◌, ◌++◌, length, Option, Some, None, arith}
use Rattle.std.proofs.Common.{option_map, nat_cmp, is_eq, is_lt, refl, sym, ap, ◌∙◌, subst, Ordering, Less, Equal, Greater}
use Rattle.std.proofs.lemmas.Cmp.{tied_itself, eq_by_cmp_equiv}
use Rattle.std.proofs.lemmas.Map.Views.{Contains-from_any, list_any-from_Contains, Contains-keys_from_lookup, tells_apart}
use Rattle.std.specs.BTreeMap.{is_at}
use Rattle.std.specs.Cmp.{IsTotalOrder, Equal-is}
use Rattle.std.specs.List.{AllByRecursion, Contains, find, list_any, cons_option}
use Rattle.std.specs.List.Sorted.{IsStrictlySortedBy}
use Rattle.std.specs.Map.{keys_of, lookup}
use Rattle.std.specs.Option.{unwrap_or, is_some}
use Rattle.std.specs.Ordering.{ordering_reverse}
use Rattle.list_lemmas.proofs.Each.{AllByRecursion-weaker}
use Rattle.attr_types.proofs.EntryLemmas.{all-lookup, below_all}
use Rattle.attr_types.specs.Value.{value_cmp, values_of}
use Rattle.attr_types.specs.ProofsForOrder.{value_cmp_total, value_cmp_exact}
use Rattle.attr_types.specs.declared.items.Item.{Item}
use Rattle.attr_types.specs.declared.value.Value.{Value}
use Rattle.index_model.specs.Columns.{Column, column_values, documents_with}
use Rattle.index_model.proofs.ChangeLemmas.{documents_with-sorted}
use Rattle.index_model.proofs.ListLemmas.{same_value}
use Rattle.index_model.specs.Index.{Index, IsFormed, IsIndexOf, HasValues, HasLists, list_of, weight_in}

abbrev pub has_some : {Z : Type 0} → List Z → Bool
has_some [] = false
has_some (x ∷ xs) = true

is_none_left : {Z : Type 0} (xs : List Z) → has_some xs ≡ false → xs ≡ []
is_none_left [] none = refl
is_none_left (x ∷ xs) none = cc

pub has_some-length : {Z : Type 0} (xs : List Z) → 0 < length xs → has_some xs ≡ true
has_some-length [] long = absurd (omega arith)
has_some-length (x ∷ xs) long = refl

length-has_some : {Z : Type 0} (xs : List Z) → has_some xs ≡ true → 0 < length xs
length-has_some [] some = cc
length-has_some (x ∷ xs) some = omega arith

pub any-append : {X : Type 0} (p : X → Bool) (xs ys : List X) → list_any p (xs ++ ys) ≡ (list_any p xs || list_any p ys)
any-append p [] ys = refl
any-append p (x ∷ xs) ys =
    elim (p x) as (λ b. (b || list_any p (xs ++ ys)) ≡ ((b || list_any p xs) || list_any p ys)) [ true ↦ refl | false ↦ any-append p xs ys ]

pub any-values : (value : Value) (items : List Item) → list_any (is_at (value_cmp value)) (values_of items) ≡ is_some (weight_in value items)
any-values value [] = refl
any-values value (item ∷ items) =
    elim (is_eq (value_cmp value item.value)) as (λ b. (b || list_any (is_at (value_cmp value)) (values_of items))
    ≡ is_some (option_map (λ (x : Item). x.weight) (cond b (Some item) (find (λ (x : Item). is_eq (value_cmp value x.value)) items))))
    [ true ↦ refl | false ↦ any-values value items ]

any-found : (doc : ℕ) (o : Option Item) (docs : List (ℕ × ℤ))
    → (is_some (option_map (λ (item : Item). item.weight) o) || has_some docs)
    ≡ has_some (cons_option (option_map {U = ℕ × ℤ} (λ item. (doc, item.weight)) o) docs)
any-found doc None docs = refl
any-found doc (Some item) docs = refl

pub any-table : (value : Value) (table : Column) → list_any (is_at (value_cmp value)) (column_values table) ≡ has_some (documents_with value table)
any-table value [] = refl
any-table value (e ∷ table) =
    any-append (is_at (value_cmp value)) (values_of e.1) (column_values table)
    ∙ ap (λ b. b || list_any (is_at (value_cmp value)) (column_values table)) (any-values value e.1)
    ∙ ap (λ b. is_some (weight_in value e.1) || b) (any-table value table)
    ∙ any-found e.0 (find (λ item. is_eq (value_cmp value item.value)) e.1) (documents_with value table)

pub any-index : (value : Value) (index : Index) → AllByRecursion (λ e. 0 < length e.1) index
    → list_any (is_at (value_cmp value)) (keys_of index) ≡ has_some (list_of value index)
any-index value [] filled = refl
any-index value (e ∷ index) filled =
    elim (is_eq (value_cmp value e.0)) as (λ b. (b || list_any (is_at (value_cmp value)) (keys_of index))
    ≡ has_some (unwrap_or (cond b (Some e.1) (lookup (is_at (value_cmp value)) index)) []))
    [ true ↦ sym (has_some-length e.1 filled.0) | false ↦ any-index value index filled.1 ]

-- ---- from an index of a table
pub has_values : (table : Column) (index : Index) → IsIndexOf table index → HasValues table index
has_values table index of value =
    let same : list_any (is_at (value_cmp value)) (keys_of index) ≡ list_any (is_at (value_cmp value)) (column_values table) =
    any-index value index of.formed.filled ∙ ap has_some (of.lists value) ∙ sym (any-table value table) in (
      λ there. Contains-from_any (tells_apart value_cmp_exact) value (column_values table)
          (sym same ∙ list_any-from_Contains (eq_by_cmp_equiv value_cmp_total) value (keys_of index) there),
      λ there. Contains-from_any (tells_apart value_cmp_exact) value (keys_of index)
          (same ∙ list_any-from_Contains (eq_by_cmp_equiv value_cmp_total) value (column_values table) there),
    )

module _ {K X : Type 0} {R : K → K → Ordering} (o : IsTotalOrder R) where
  found_later : (e : K × X) (es rest : List (K × X)) → AllByRecursion (λ y. R e.0 y ≡ Less) (keys_of rest)
      → AllByRecursion (λ f. lookup (is_at (R f.0)) es ≡ Some f.1) rest
      → AllByRecursion (λ f. lookup (is_at (R f.0)) (e ∷ es) ≡ Some f.1) rest
  found_later e es [] below found = tt
  found_later e es (f ∷ rest) below found = (
    ap (λ r. cond (is_eq r) (Some e.1) (lookup (is_at (R f.0)) es)) (o.antisymm f.0 e.0 ∙ ap ordering_reverse below.0) ∙ found.0,
    found_later e es rest below.1 found.1,
  )

  pub all_found : (es : List (K × X)) → IsStrictlySortedBy R (keys_of es) → AllByRecursion (λ e. lookup (is_at (R e.0)) es ≡ Some e.1) es
  unfolding IsStrictlySortedBy
  all_found [] up = tt
  all_found (e ∷ es) up = (
    ap (λ r. cond (is_eq r) (Some e.1) (lookup (is_at (R e.0)) es)) (tied_itself o e.0),
    found_later e es es up.0 (all_found es up.1),
  )

pub all_both : {A : Type 0} (P Q S : A → Type 0) (xs : List A) → ((x : A) → P x → Q x → S x) → AllByRecursion P xs → AllByRecursion Q xs → AllByRecursion S xs
all_both P Q S [] each all also = tt
all_both P Q S (x ∷ xs) each all also = (each x all.0 also.0, all_both P Q S xs each all.1 also.1)

pub has_lists : (table : Column) (index : Index) → IsIndexOf table index → HasLists table index
has_lists table index of =
    AllByRecursion-weaker (λ e. lookup (is_at (value_cmp e.0)) index ≡ Some e.1) (λ e. e.1 ≡ documents_with e.0 table) (λ e found. sym (ap (λ (o : Option (List (ℕ × ℤ))). unwrap_or o []) found) ∙ of.lists e.0)
    index
    (all_found value_cmp_total index of.formed.ascends)

-- ---- to an index of a table
listed_at : (table : Column) (value : Value) (docs : List (ℕ × ℤ)) (e : Value × List (ℕ × ℤ)) (rest : Option (List (ℕ × ℤ)))
    → e.1 ≡ documents_with e.0 table → (rest ≡ Some docs → docs ≡ documents_with value table)
    → (b : Bool) → is_eq (value_cmp value e.0) ≡ b → cond b (Some e.1) rest ≡ Some docs → docs ≡ documents_with value table
listed_at table value docs e rest here later true is found =
    let same : e.1 ≡ docs = cc in
    sym same ∙ here ∙ ap (λ v. documents_with v table) (sym (same_value value e.0 is))
listed_at table value docs e rest here later false is found = later found

listed : (table : Column) (index : Index) → HasLists table index → (value : Value) (docs : List (ℕ × ℤ))
    → lookup (is_at (value_cmp value)) index ≡ Some docs → docs ≡ documents_with value table
listed table [] lists value docs found = cc
listed table (e ∷ index) lists value docs found =
    listed_at table value docs e (lookup (is_at (value_cmp value)) index) lists.0 (listed table index lists.1 value docs)
    (is_eq (value_cmp value e.0)) refl found

key-there : (value : Value) (index : Index) (docs : List (ℕ × ℤ)) → lookup (is_at (value_cmp value)) index ≡ Some docs
    → Contains (keys_of index) value
key-there value index docs found =
    Contains-keys_from_lookup (tells_apart value_cmp_exact) value index (ap is_some found)

unlisted : (value : Value) (index : Index) → lookup (is_at (value_cmp value)) index ≡ None
    → list_any (is_at (value_cmp value)) (keys_of index) ≡ false
unlisted value [] none = refl
unlisted value (e ∷ index) none =
    elim (is_eq (value_cmp value e.0)) as (λ b. cond b (Some e.1) (lookup (is_at (value_cmp value)) index) ≡ None
    → (b || list_any (is_at (value_cmp value)) (keys_of index)) ≡ false)
    [ true ↦ λ h. cc | false ↦ λ h. unlisted value index h ] none

true_then : (a b : Bool) → (a ≡ true → b ≡ true) → b ≡ false → a ≡ false
true_then true b up none = let is : b ≡ true = up refl in cc
true_then false b up none = refl

pub is_index_of : (table : Column) (index : Index) → IsStrictlySortedBy nat_cmp (keys_of table)
    → IsStrictlySortedBy value_cmp (keys_of index) → HasValues table index → HasLists table index → IsIndexOf table index
is_index_of table index ordered up values lists = record {
  formed = record {
    ascends = up;
    filled = all_both (λ e. lookup (is_at (value_cmp e.0)) index ≡ Some e.1) (λ e. e.1 ≡ documents_with e.0 table) (λ e. 0 < length e.1) index
        (λ e found is. length-has_some e.1 (ap has_some is ∙ sym (any-table e.0 table)
        ∙ list_any-from_Contains (eq_by_cmp_equiv value_cmp_total) e.0 (column_values table) ((values e.0).0 (key-there e.0 index e.1 found))))
        (all_found value_cmp_total index up) lists;
    lists_ascend = AllByRecursion-weaker (λ e. e.1 ≡ documents_with e.0 table) (λ e. IsStrictlySortedBy nat_cmp (keys_of e.1))
        (λ e is. subst (λ docs. IsStrictlySortedBy nat_cmp (keys_of docs)) (sym is) (documents_with-sorted table e.0 ordered))
        index lists;
  };
  lists = λ value. told value (lookup (is_at (value_cmp value)) index) refl;
}
  where
    told : (value : Value) (o : Option (List (ℕ × ℤ))) → lookup (is_at (value_cmp value)) index ≡ o → unwrap_or o [] ≡ documents_with value table
    told value (Some docs) is = listed table index lists value docs is
    told value None is = sym (is_none_left (documents_with value table) (sym (any-table value table)
        ∙ true_then (list_any (is_at (value_cmp value)) (column_values table)) (list_any (is_at (value_cmp value)) (keys_of index))
        (λ there. list_any-from_Contains (eq_by_cmp_equiv value_cmp_total) value (keys_of index)
        ((values value).1 (Contains-from_any (tells_apart value_cmp_exact) value (column_values table) there)))
        (unlisted value index is)))

-- a value with no documents is no item's
pub no_documents : (value : Value) (table : Column) → documents_with value table ≡ [] → Contains (column_values table) value → ⊥
no_documents value table none there =
    let some : has_some {Z = ℕ × ℤ} [] ≡ true = sym (ap has_some none) ∙ sym (any-table value table)
    ∙ list_any-from_Contains (eq_by_cmp_equiv value_cmp_total) value (column_values table) there in
    cc

-- ---- one index alone
pub lookup_above : {K X : Type 0} (R : K → K → Ordering) (k : K) (es : List (K × X)) → AllByRecursion (λ y. R k y ≡ Less) (keys_of es)
    → lookup (is_at (R k)) es ≡ None
lookup_above R k [] above = refl
lookup_above R k (e ∷ es) above =
    ap (λ r. cond (is_eq r) (Some e.1) (lookup (is_at (R k)) es)) above.0 ∙ lookup_above R k es above.1

none_is_not : {X : Type 0} {A : Type 0} (o : Option X) (x : X) → o ≡ None → o ≡ Some x → A
none_is_not o x none some = cc

module _ {K X : Type 0} {R : K → K → Ordering} (o : IsTotalOrder R) (exact : (a b : K) → R a b ≡ Equal → a ≡ b) where
  at_head : (e : K × X) (es : List (K × X)) → lookup (is_at (R e.0)) (e ∷ es) ≡ Some e.1
  at_head e es = ap (λ r. cond (is_eq r) (Some e.1) (lookup (is_at (R e.0)) es)) (tied_itself o e.0)

  above_head : (r : Ordering) (e f : K × X) (fs : List (K × X)) → R e.0 f.0 ≡ r → is_lt r ≡ true
      → AllByRecursion (λ y. R f.0 y ≡ Less) (keys_of fs) → lookup (is_at (R e.0)) (f ∷ fs) ≡ None
  above_head Less e f fs is lt up = lookup_above R e.0 (f ∷ fs) (is, below_all o e.0 f.0 is (keys_of fs) up)
  above_head Equal e f fs is lt up = cc
  above_head Greater e f fs is lt up = cc

  tails : (e : K × X) (es fs : List (K × X)) → AllByRecursion (λ y. R e.0 y ≡ Less) (keys_of es) → AllByRecursion (λ y. R e.0 y ≡ Less) (keys_of fs)
      → ((q : K) → lookup (is_at (R q)) (e ∷ es) ≡ lookup (is_at (R q)) (e ∷ fs)) → (q : K) → lookup (is_at (R q)) es ≡ lookup (is_at (R q)) fs
  tails e es fs up also same q = told (is_eq (R q e.0)) refl (same q)
    where
      told : (b : Bool) → is_eq (R q e.0) ≡ b → cond b (Some e.1) (lookup (is_at (R q)) es) ≡ cond b (Some e.1) (lookup (is_at (R q)) fs)
          → lookup (is_at (R q)) es ≡ lookup (is_at (R q)) fs
      told true is h =
          subst (λ k. lookup (is_at (R k)) es ≡ lookup (is_at (R k)) fs) (sym (exact q e.0 ((Equal-is (R q e.0)).0 is)))
          (lookup_above R e.0 es up ∙ sym (lookup_above R e.0 fs also))
      told false is h = h

  heads : (e f : K × X) (es fs : List (K × X)) → AllByRecursion (λ y. R e.0 y ≡ Less) (keys_of es) → AllByRecursion (λ y. R f.0 y ≡ Less) (keys_of fs)
      → ((q : K) → lookup (is_at (R q)) (e ∷ es) ≡ lookup (is_at (R q)) (f ∷ fs)) → (r : Ordering) → R e.0 f.0 ≡ r → e ≡ f
  heads e f es fs up also same Less is =
      none_is_not (lookup (is_at (R e.0)) (f ∷ fs)) e.1 (above_head Less e f fs is refl also) (sym (same e.0) ∙ at_head e es)
  heads e f es fs up also same Equal is =
      let key : e.0 ≡ f.0 = exact e.0 f.0 is in
      let found : Some e.1 ≡ Some f.1 = sym (at_head e es) ∙ same e.0
      ∙ ap (λ r. cond (is_eq r) (Some f.1) (lookup (is_at (R e.0)) fs)) is in
      let value : e.1 ≡ f.1 = cc in
      λ i. (key i, value i)
  heads e f es fs up also same Greater is =
      none_is_not (lookup (is_at (R f.0)) (e ∷ es)) f.1
      (above_head Less f e es (o.antisymm f.0 e.0 ∙ ap ordering_reverse is) refl up) (same f.0 ∙ at_head f fs)

  pub same_entries : (es fs : List (K × X)) → IsStrictlySortedBy R (keys_of es) → IsStrictlySortedBy R (keys_of fs)
      → ((q : K) → lookup (is_at (R q)) es ≡ lookup (is_at (R q)) fs) → es ≡ fs
  unfolding IsStrictlySortedBy
  same_entries [] [] up also same = refl
  same_entries [] (f ∷ fs) up also same = none_is_not (lookup (is_at (R f.0)) (f ∷ fs)) f.1 (sym (same f.0)) (at_head f fs)
  same_entries (e ∷ es) [] up also same = none_is_not (lookup (is_at (R e.0)) (e ∷ es)) e.1 (same e.0) (at_head e es)
  same_entries (e ∷ es) (f ∷ fs) up also same =
      let head : f ≡ e = sym (heads e f es fs up.0 also.0 same (R e.0 f.0) refl) in
      ap (λ rest. e ∷ rest) (same_entries es fs up.1 also.1
      (tails e es fs up.0 (subst (λ (x : K × X). AllByRecursion (λ y. R x.0 y ≡ Less) (keys_of fs)) head also.0)
      (λ q. same q ∙ ap (λ (x : K × X). lookup (is_at (R q)) (x ∷ fs)) head)))
      ∙ ap (λ (x : K × X). x ∷ fs) (sym head)

same_lists : (o p : Option (List (ℕ × ℤ))) → ((docs : List (ℕ × ℤ)) → o ≡ Some docs → 0 < length docs)
    → ((docs : List (ℕ × ℤ)) → p ≡ Some docs → 0 < length docs) → unwrap_or o [] ≡ unwrap_or p [] → o ≡ p
same_lists None None left right same = refl
same_lists None (Some docs) left right same =
    let long : 0 < length {A = ℕ × ℤ} [] = subst (λ (ds : List (ℕ × ℤ)). 0 < length ds) (sym same) (right docs refl) in absurd (omega arith)
same_lists (Some docs) None left right same =
    let long : 0 < length {A = ℕ × ℤ} [] = subst (λ (ds : List (ℕ × ℤ)). 0 < length ds) same (left docs refl) in absurd (omega arith)
same_lists (Some docs) (Some others) left right same = ap Some same

pub same_index : (a b : Index) → IsFormed a → IsFormed b → ((value : Value) → list_of value a ≡ list_of value b) → a ≡ b
same_index a b left right same =
    same_entries value_cmp_total value_cmp_exact a b left.ascends right.ascends
    (λ value. same_lists (lookup (is_at (value_cmp value)) a) (lookup (is_at (value_cmp value)) b)
    (λ docs is. all-lookup (λ (ds : List (ℕ × ℤ)). 0 < length ds) (is_at (value_cmp value)) a left.filled docs is)
    (λ docs is. all-lookup (λ (ds : List (ℕ × ℤ)). 0 < length ds) (is_at (value_cmp value)) b right.filled docs is)
    (same value))

pub only_index : (table : Column) (a b : Index) → IsIndexOf table a → IsIndexOf table b → a ≡ b
only_index table a b left right = same_index a b left.formed right.formed (λ value. left.lists value ∙ sym (right.lists value))

pub empty_index : IsIndexOf [] []
unfolding IsStrictlySortedBy
empty_index = record { formed = record { ascends = tt; filled = tt; lists_ascend = tt }; lists = λ value. refl }
