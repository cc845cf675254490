-- How many values an index has, and how many documents a list, in each state between the tables.
use Rattle.std.proofs.Common.{◌≡◌, ◌<◌, ◌≤◌, ◌+◌, ◌*◌, ℕ, suc, ℤ, Bool, true, false, ◌||◌, cond, List, [], ◌∷◌, ◌++◌, length, Option, Some, None, IsSome, arith}
use Rattle.std.proofs.Common.{nat_cmp, is_eq, refl, sym, ap, ◌∙◌, subst, Ordering, Less}
use Rattle.std.proofs.lemmas.Cmp.{alike_right, ranked, nat_cmp_total}
use Rattle.std.proofs.lemmas.List.{length-append, length-map}
use Rattle.std.specs.BTreeMap.{is_at}
use Rattle.std.specs.Cmp.{IsTotalOrder, Equal-is}
use Rattle.std.specs.List.{AllByRecursion, list_any}
use Rattle.std.specs.List.Sorted.{IsStrictlySortedBy}
use Rattle.std.specs.Map.{keys_of, lookup}
use Rattle.std.specs.Option.{is_some}
use Rattle.std.specs.Ordering.{ordering_reverse}
use Rattle.list_lemmas.proofs.Each.{AllByRecursion-weaker}
use Rattle.attr_types.proofs.EntryLemmas.{all_keys-insert, all_keys-remove}
use Rattle.attr_types.specs.Lawful.{IsDocNumber, IsLawfulItems}
use Rattle.attr_types.specs.Value.{value_cmp, values_of}
use Rattle.attr_types.specs.ProofsForOrder.{value_cmp_total}
use Rattle.attr_types.specs.declared.items.Item.{Item}
use Rattle.attr_types.specs.declared.kind.Kind.{Kind}
use Rattle.attr_types.specs.declared.kind.Kind.TheVariants.{Single, Array, WeightedSet}
use Rattle.attr_types.specs.declared.value.Value.{Value}
use Rattle.index_model.specs.Columns.{Column, IsLawfulColumn, column_values, documents_with}
use Rattle.index_model.proofs.ListLemmas.{documents_with-part, list_of-sorted}
use Rattle.index_model.proofs.OfLemmas.{has_some, any-table, any-values, any-append, all_found, all_both}
use Rattle.index_model.proofs.PartLemmas.{all_keys-part}
use Rattle.index_model.proofs.StayLemmas.{there_then, some-remove}
use Rattle.index_model.specs.Index.{Index, IsIndexOf, list_of, weight_in}
use Rattle.index_model.specs.Changes.{settled, IsPartway}

-- ---- keys that ascend and are all in a list are no more than it has
abbrev without_one : {K : Type 0} → (K → Bool) → List K → List K
without_one test [] = []
without_one test (x ∷ xs) = cond (test x) xs (x ∷ without_one test xs)

length-without_one : {K : Type 0} (test : K → Bool) (xs : List K) → list_any test xs ≡ true → length xs ≡ suc (length (without_one test xs))
length-without_one test [] some = cc
length-without_one test (x ∷ xs) some =
    elim (test x) as (λ b. (b || list_any test xs) ≡ true → suc (length xs) ≡ suc (length (cond b xs (x ∷ without_one test xs))))
    [ true ↦ λ h. refl | false ↦ λ h. ap suc (length-without_one test xs h) ] some

any-without_one : {K : Type 0} (p test : K → Bool) → ((x : K) → test x ≡ true → p x ≡ false) → (xs : List K)
    → list_any p (without_one test xs) ≡ list_any p xs
any-without_one p test apart [] = refl
any-without_one p test apart (x ∷ xs) = told (test x) refl (any-without_one p test apart xs)
  where
    told : (b : Bool) → test x ≡ b → list_any p (without_one test xs) ≡ list_any p xs
        → list_any p (cond b xs (x ∷ without_one test xs)) ≡ (p x || list_any p xs)
    told true is rest = sym (ap (λ b. b || list_any p xs) (apart x is))
    told false is rest = ap (λ b. p x || b) rest

module _ {K : Type 0} {R : K → K → Ordering} (o : IsTotalOrder R) where
  not_later : (k later : K) → R k later ≡ Less → (x : K) → is_at (R k) x ≡ true → is_at (R later) x ≡ false
  not_later k later below x is =
      ap is_eq (sym (alike_right o k x later ((Equal-is (R k x)).0 is)) ∙ o.antisymm later k ∙ ap ordering_reverse below)

  no_more : (ks xs : List K) → IsStrictlySortedBy R ks → AllByRecursion (λ k. list_any (is_at (R k)) xs ≡ true) ks
      → length ks ≤ length xs
  unfolding IsStrictlySortedBy
  no_more [] xs up all = omega arith
  no_more (k ∷ ks) xs up all =
      let rest : length ks ≤ length (without_one (is_at (R k)) xs) = no_more ks (without_one (is_at (R k)) xs) up.1
      (all_both (λ y. R k y ≡ Less) (λ y. list_any (is_at (R y)) xs ≡ true) (λ y. list_any (is_at (R y)) (without_one (is_at (R k)) xs) ≡ true) ks
      (λ y below is. any-without_one (is_at (R y)) (is_at (R k)) (not_later k y below) xs ∙ is) up.0 all.1) in
      let count : length xs ≡ suc (length (without_one (is_at (R k)) xs)) = length-without_one (is_at (R k)) xs all.0 in
      omega arith

-- ---- documents that ascend are few
few_between : (low high : ℕ) (ks : List ℕ) → low ≤ suc high → IsStrictlySortedBy nat_cmp ks → AllByRecursion (λ k. low ≤ k) ks
    → AllByRecursion (λ k. k ≤ high) ks → length ks + low ≤ suc high
unfolding IsStrictlySortedBy
few_between low high [] some up above below = omega arith
few_between low high (k ∷ ks) some up above below =
    let first : k ≤ high = below.0 in
    let least : low ≤ k = above.0 in
    let rest : length ks + suc k ≤ suc high = few_between (suc k) high ks (omega arith) up.1
    (AllByRecursion-weaker (λ y. nat_cmp k y ≡ Less) (λ y. suc k ≤ y) (λ y h. let lt : k < y = ranked k y Less (sym h) in omega arith) ks up.0) below.1 in
    omega arith

pub documents_few : (ks : List ℕ) → IsStrictlySortedBy nat_cmp ks → AllByRecursion IsDocNumber ks → length ks ≤ 1048575
documents_few ks up all =
    let few : length ks + 1 ≤ suc 1048575 = few_between 1 1048575 ks (omega arith) up
    (AllByRecursion-weaker IsDocNumber (λ k. 1 ≤ k) (λ k is. is.0) ks all) (AllByRecursion-weaker IsDocNumber (λ k. k ≤ 1048575) (λ k is. is.1) ks all) in
    omega arith

-- ---- a list in each state
documents_with-documents : (value : Value) (table : Column) → AllByRecursion IsDocNumber (keys_of table)
    → AllByRecursion IsDocNumber (keys_of (documents_with value table))
documents_with-documents value table all =
    subst (λ docs. AllByRecursion IsDocNumber (keys_of docs)) (sym (documents_with-part value table)) (all_keys-part (weight_in value) IsDocNumber table all)

pub list_documents : (kind : Kind) (table : Column) (start : Index) (doc : ℕ) (added removed : List Item) (index : Index) (value : Value)
    → IsLawfulColumn kind table → IsDocNumber doc → IsIndexOf table start → IsPartway start doc added removed index
    → AllByRecursion IsDocNumber (keys_of (list_of value index))
list_documents kind table start doc added removed index value lawful is of p =
    subst (λ docs. AllByRecursion IsDocNumber (keys_of docs)) (sym (p.lists value)) (told (weight_in value added) (weight_in value removed))
  where
    begun : AllByRecursion IsDocNumber (keys_of (list_of value start))
    begun = subst (λ docs. AllByRecursion IsDocNumber (keys_of docs)) (sym (of.lists value)) (documents_with-documents value table lawful.numbers)

    told : (o r : Option ℤ) → AllByRecursion IsDocNumber (keys_of (settled o r doc (list_of value start)))
    told (Some weight) r = all_keys-insert nat_cmp_total IsDocNumber (list_of value start) doc weight begun is
    told None (Some weight) = all_keys-remove IsDocNumber (is_at (nat_cmp doc)) (list_of value start) begun
    told None None = begun

pub list_few : (kind : Kind) (table : Column) (start : Index) (doc : ℕ) (added removed : List Item) (index : Index) (value : Value)
    → IsLawfulColumn kind table → IsDocNumber doc → IsIndexOf table start → IsPartway start doc added removed index
    → length (list_of value index) ≤ 1048575
list_few kind table start doc added removed index value lawful is of p =
    let few : length (keys_of (list_of value index)) ≤ 1048575 = documents_few (keys_of (list_of value index)) (list_of-sorted value index p.formed)
    (list_documents kind table start doc added removed index value lawful is of p) in
    subst (λ n. n ≤ 1048575) (length-map (list_of value index) (λ e. e.0)) few

-- ---- the values in each state
value_from : (table : Column) (start : Index) (doc : ℕ) (added removed : List Item) (index : Index) (value : Value)
    → IsIndexOf table start → IsPartway start doc added removed index → IsSome (lookup (is_at (value_cmp value)) index)
    → list_any (is_at (value_cmp value)) (column_values table ++ values_of added) ≡ true
value_from table start doc added removed index value of p there =
    any-append (is_at (value_cmp value)) (column_values table) (values_of added)
    ∙ ap (λ b. b || list_any (is_at (value_cmp value)) (values_of added)) (any-table value table ∙ sym (ap has_some (of.lists value)))
    ∙ ap (λ b. has_some (list_of value start) || b) (any-values value added)
    ∙ told (weight_in value added) (weight_in value removed) (sym (ap has_some (p.lists value)) ∙ there_then value index p.formed there)
  where
    either : (a : Bool) → (a || true) ≡ true
    either true = refl
    either false = refl

    first : (a : Bool) → a ≡ true → (a || false) ≡ true
    first true is = refl
    first false is = cc

    told : (o r : Option ℤ) → has_some (settled o r doc (list_of value start)) ≡ true → (has_some (list_of value start) || is_some o) ≡ true
    told (Some weight) r some = either (has_some (list_of value start))
    told None (Some weight) some = first (has_some (list_of value start)) (some-remove doc (list_of value start) some)
    told None None some = first (has_some (list_of value start)) some

pub values_few : (table : Column) (start : Index) (doc : ℕ) (added removed : List Item) (index : Index)
    → IsIndexOf table start → IsPartway start doc added removed index → length index ≤ length (column_values table) + length added
values_few table start doc added removed index of p =
    let few : length (keys_of index) ≤ length (column_values table ++ values_of added) =
    no_more value_cmp_total (keys_of index) (column_values table ++ values_of added) p.formed.ascends (all_keys index
    (AllByRecursion-weaker (λ e. lookup (is_at (value_cmp e.0)) index ≡ Some e.1)
    (λ e. list_any (is_at (value_cmp e.0)) (column_values table ++ values_of added) ≡ true) (λ e found. value_from table start doc added removed index e.0 of p (ap is_some found))
    index (all_found value_cmp_total index p.formed.ascends))) in
    let count : length (keys_of index) ≡ length index = length-map index (λ e. e.0) in
    let both : length (column_values table ++ values_of added) ≡ length (column_values table) + length (values_of added) = length-append (column_values table) (values_of added) in
    let more : length (values_of added) ≡ length added = length-map added (λ item. item.value) in
    omega arith
  where
    all_keys : (es : Index) → AllByRecursion (λ e. list_any (is_at (value_cmp e.0)) (column_values table ++ values_of added) ≡ true) es
        → AllByRecursion (λ k. list_any (is_at (value_cmp k)) (column_values table ++ values_of added) ≡ true) (keys_of es)
    all_keys [] all = tt
    all_keys (e ∷ es) all = (all.0, all_keys es all.1)

short_items : (kind : Kind) (items : List Item) → IsLawfulItems kind items → length items ≤ 1023
short_items Single items lawful = let short : length items ≤ 1 = lawful.0 in omega arith
short_items Array items lawful = lawful.0
short_items WeightedSet items lawful = lawful.0

column_values-few : (kind : Kind) (table : Column) → AllByRecursion (λ e. IsLawfulItems kind e.1) table
    → length (column_values table) ≤ 1023 * length table
column_values-few kind [] all = omega arith
column_values-few kind (e ∷ table) all =
    let rest : length (column_values table) ≤ 1023 * length table = column_values-few kind table all.1 in
    let both : length (values_of e.1 ++ column_values table) ≡ length (values_of e.1) + length (column_values table) = length-append (values_of e.1) (column_values table) in
    let more : length (values_of e.1) ≡ length e.1 = length-map e.1 (λ item. item.value) in
    let short : length e.1 ≤ 1023 = short_items kind e.1 all.0 in
    omega arith

-- so there is room in a dictionary in every state
pub index_few : (kind : Kind) (table : Column) (start : Index) (doc : ℕ) (added removed : List Item) (index : Index)
    → IsLawfulColumn kind table → IsIndexOf table start → IsPartway start doc added removed index → length added ≤ 1023
    → length index ≤ 1072693248
index_few kind table start doc added removed index lawful of p short =
    let few : length index ≤ length (column_values table) + length added = values_few table start doc added removed index of p in
    let all : length (column_values table) ≤ 1023 * length table = column_values-few kind table lawful.items in
    let docs : length (keys_of table) ≤ 1048575 = documents_few (keys_of table) lawful.ascends lawful.numbers in
    let count : length (keys_of table) ≡ length table = length-map table (λ e. e.0) in
    omega arith
