-- Documents in the order of their values, by the lists of an index.
use Rattle.std.proofs.Common.{◌≡◌, ◌≤◌, ◌<◌, ◌+◌, ℕ, zero, suc, Bool, true, false, ◌||◌, ◌&&◌, List, [], ◌∷◌, ◌++◌, map, filter, take, drop, length, nat_eq, refl, sym, ap, ap₂, subst}
use Rattle.std.proofs.Common.{Option, Some, None, cond, Ordering, Less, Equal, Greater, ◌∙◌, arith, true≢false}
use Rattle.std.proofs.lemmas.Bool.{eqb-true}
use Rattle.std.proofs.lemmas.Cmp.{nat_cmp_total, on_total, then_total, tied_itself}
use Rattle.std.proofs.lemmas.List.{map-append}
use Rattle.std.proofs.lemmas.List.Elements.{filter-append}
use Rattle.std.proofs.lemmas.List.Folds.{list_any-append}
use Rattle.std.proofs.lemmas.Map.Lookups.{exact_unsigned}
use Rattle.std.specs.BTreeMap.{is_at}
use Rattle.std.specs.BTreeSet.{insert_key}
use Rattle.std.specs.Cmp.{nat_cmp_is, tied_then, IsTotalOrder}
use Rattle.std.specs.List.{flat_map, list_any, AllByRecursion}
use Rattle.std.specs.List.Sorted.{IsStrictlySortedBy}
use Rattle.std.specs.Map.{keys_of, lookup}
use Rattle.std.specs.Option.{unwrap_or}
use Rattle.std.specs.Ordering.{eq_by_cmp, is_eq, is_lt, match_ordering, nat_cmp, ordering_reverse, ordering_then}
use Rattle.list_lemmas.proofs.Each.{AllByRecursion-append}
use Rattle.attr_types.specs.Lawful.{IsLawfulItems}
use Rattle.attr_types.specs.ProofsForOrder.{value_cmp_exact, value_cmp_total}
use Rattle.attr_types.specs.Scores.{has_value}
use Rattle.attr_types.specs.Table.{Table}
use Rattle.attr_types.specs.Value.{value_cmp}
use Rattle.attr_types.specs.declared.items.Item.{Item}
use Rattle.attr_types.specs.declared.kind.Kind.TheVariants.{Single}
use Rattle.attr_types.specs.declared.value.Value.{Value}
use Rattle.index_model.proofs.BitLemmas.{by_cases}
use Rattle.index_model.proofs.DocLemmas.{ascends_from_sorted, kept_has}
use Rattle.index_model.proofs.ListLemmas.{same_value}
use Rattle.index_model.specs.Columns.{Column, column_of, items_of as items_in_column}
use Rattle.index_model.specs.Index.{Index, IsIndexOf}
use Rattle.index_model.specs.Leaves.{listed}
use Rattle.index_model.specs.Sets.{has, in_words, IsAscending}
use Rattle.result_model.specs.Groups.{has as has_in}
use Rattle.result_model.specs.Orders.{by_value, by_value_then_document, in_order, sorted, with_keys, with_value}
use Rattle.result_model.specs.Values.{first_value, items_of, value_of}
use Rattle.result_model.specs.declared.direction.Direction.TheVariants.{Ascending}
use Rattle.query_results.specs.Dictionaries.{IsSetOf}
use Rattle.query_results.proofs.AttributeLemmas.{column_found}
use Rattle.query_results.proofs.DictionaryLemmas.{and_off, entry_has, kept_ascends, not_known, same, same_number}
use Rattle.query_results.proofs.OrderLemmas.{both_equal, has_in_order, is_in_order, sorted_in_order}

abbrev Key : Type 0
Key = Option Value × ℕ

abbrev up : Option Value → Option Value → Ordering
up = by_value Ascending

abbrev key_cmp : Key → Key → Ordering
key_cmp = by_value_then_document Ascending

-- ---- the order of keys

value_antisymm : (a b : Option Value) → up a b ≡ ordering_reverse (up b a)
value_antisymm (Some a) (Some b) = value_cmp_total.antisymm a b
value_antisymm (Some a) None = refl
value_antisymm None (Some b) = refl
value_antisymm None None = refl

value_trans : (a b c : Option Value) → up a b ≡ Less → up b c ≡ Less → up a c ≡ Less
value_trans (Some a) (Some b) (Some c) first second = value_cmp_total.trans a b c first second
value_trans (Some a) (Some b) None first second = refl
value_trans (Some a) None (Some c) first second = absurd (true≢false (sym (ap is_lt second)))
value_trans (Some a) None None first second = refl
value_trans None (Some b) c first second = absurd (true≢false (sym (ap is_lt first)))
value_trans None None (Some c) first second = absurd (true≢false (sym (ap is_lt first)))
value_trans None None None first second = absurd (true≢false (sym (ap is_lt first)))

value_congr : (a b c : Option Value) → up a b ≡ Equal → up a c ≡ up b c
value_congr (Some a) (Some b) (Some c) is = value_cmp_total.congr a b c is
value_congr (Some a) (Some b) None is = refl
value_congr (Some a) None c is = absurd (true≢false (sym (ap is_eq is)))
value_congr None (Some b) c is = absurd (true≢false (sym (ap is_eq is)))
value_congr None None c is = refl

value_exact : (a b : Option Value) → up a b ≡ Equal → a ≡ b
value_exact (Some a) (Some b) is = ap Some (value_cmp_exact a b is)
value_exact (Some a) None is = absurd (true≢false (sym (ap is_eq is)))
value_exact None (Some b) is = absurd (true≢false (sym (ap is_eq is)))
value_exact None None is = refl

up_total : IsTotalOrder up
up_total = record { antisymm = value_antisymm; trans = value_trans; congr = value_congr }

key_total : IsTotalOrder key_cmp
key_total = then_total (on_total (λ (k : Key). k.0) up_total) (on_total (λ (k : Key). k.1) nat_cmp_total)

key_exact : (a b : Key) → key_cmp a b ≡ Equal → a ≡ b
key_exact a b is =
    let both = both_equal (up a.0 b.0) (nat_cmp a.1 b.1) is in
    ap₂ (λ (o : Option Value) (doc : ℕ). (o, doc)) (value_exact a.0 b.0 both.0) (exact_unsigned a.1 b.1 both.1)

abbrev AreSorted : List Key → Type 0
AreSorted keys = IsStrictlySortedBy key_cmp keys

abbrev AreAbove : Key → List Key → Type 0
AreAbove k keys = AllByRecursion (λ y. key_cmp k y ≡ Less) keys

abbrev AreBelow : List Key → List Key → Type 0
AreBelow keys others = AllByRecursion (λ k. AreAbove k others) keys

sorted_append : (xs ys : List Key) → AreSorted xs → AreSorted ys → AreBelow xs ys → AreSorted (xs ++ ys)
unfolding IsStrictlySortedBy
sorted_append [] ys first second below = second
sorted_append (x ∷ xs) ys first second below =
    (AllByRecursion-append (λ y. key_cmp x y ≡ Less) xs ys first.0 below.0, sorted_append xs ys first.1 second below.1)

-- ---- the keys of one value

abbrev keys_with : Option Value → List ℕ → List Key
keys_with o docs = map (λ doc. (o, doc)) docs

docs_back : (o : Option Value) (docs : List ℕ) → map (λ k. k.1) (keys_with o docs) ≡ docs
docs_back o [] = refl
docs_back o (doc ∷ docs) = ap (λ (ds : List ℕ). doc ∷ ds) (docs_back o docs)

later_docs : (v : Value) (doc : ℕ) (docs : List ℕ) → AllByRecursion (λ y. doc < y) docs → AreAbove (Some v, doc) (keys_with (Some v) docs)
later_docs v doc [] all = tt
later_docs v doc (y ∷ docs) all =
    (ap (λ o. ordering_then o (nat_cmp doc y)) (tied_itself value_cmp_total v) ∙ sym (nat_cmp_is doc y Less all.0), later_docs v doc docs all.1)

one_sorted : (v : Value) (docs : List ℕ) → IsAscending docs → AreSorted (keys_with (Some v) docs)
unfolding IsStrictlySortedBy
one_sorted v [] ascend = tt
one_sorted v (doc ∷ docs) ascend = (later_docs v doc docs ascend.0, one_sorted v docs ascend.1)

each_above : (k : Key) (o : Option Value) → up k.0 o ≡ Less → (docs : List ℕ) → AreAbove k (keys_with o docs)
each_above k o less [] = tt
each_above k o less (doc ∷ docs) = (ap (λ r. ordering_then r (nat_cmp k.1 doc)) less, each_above k o less docs)

-- ---- keys without a value

abbrev LackValues : List Key → Type 0
LackValues keys = AllByRecursion (λ k. k.0 ≡ None) keys

lack_inserted : (keys : List Key) (k : Key) → k.0 ≡ None → LackValues keys → LackValues (insert_key key_cmp keys k)
lack_inserted [] k none all = (none, tt)
lack_inserted (x ∷ keys) k none all =
    elim (key_cmp k x) as (λ r. LackValues (match_ordering r (k ∷ x ∷ keys) (x ∷ keys) (x ∷ insert_key key_cmp keys k)))
    [ Less ↦ (none, all) | Equal ↦ all | Greater ↦ (all.0, lack_inserted keys k none all.1) ]

lack_with : (keys more : List Key) → LackValues keys → LackValues more → LackValues (with_keys key_cmp keys more)
lack_with keys [] all others = all
lack_with keys (k ∷ more) all others = lack_with (insert_key key_cmp keys k) more (lack_inserted keys k others.0 all) others.1

lack_each : (docs : List ℕ) → LackValues (keys_with None docs)
lack_each [] = tt
lack_each (doc ∷ docs) = (refl, lack_each docs)

lack_above : (v : Value) (doc : ℕ) (keys : List Key) → LackValues keys → AreAbove (Some v, doc) keys
lack_above v doc [] all = tt
lack_above v doc (k ∷ keys) all = (ap (λ o. ordering_then (up (Some v) o) (nat_cmp doc k.1)) all.0, lack_above v doc keys all.1)

-- ---- whether a key is there

step_docs : (a s n h l : Bool) → (n ≡ true → a ≡ s) → l ≡ (s && h) → ((a && n) || l) ≡ (s && (n || h))
step_docs a true true h l is rest = ap (λ x. (x && true) || l) (is refl)
step_docs a false true h l is rest = ap (λ x. (x && true) || l) (is refl) ∙ rest
step_docs a s false h l is rest = ap (λ x. x || l) (and_off a) ∙ rest

-- a key is among those of documents if its document is, and has its value
any_key : (o : Option Value) (doc : ℕ) (f : ℕ → Option Value) (docs : List ℕ)
    → list_any (eq_by_cmp key_cmp (o, doc)) (map (λ d. (f d, d)) docs) ≡ (is_eq (up o (f doc)) && has docs doc)
any_key o doc f [] = sym (and_off (is_eq (up o (f doc))))
any_key o doc f (d ∷ docs) =
    ap (λ b. b || list_any (eq_by_cmp key_cmp (o, doc)) (map (λ x. (f x, x)) docs))
    (sym (tied_then (up o (f d)) (nat_cmp doc d)) ∙ ap (λ b. is_eq (up o (f d)) && b) (sym (same_number doc d)))
    ∙ step_docs (is_eq (up o (f d))) (is_eq (up o (f doc))) (nat_eq doc d) (has docs doc) _
    (λ yes. ap (λ x. is_eq (up o (f x))) (sym (eqb-true doc d yes)))
    (any_key o doc f docs)

step_values : (a x w k l : Bool) → (a ≡ true → x ≡ w) → l ≡ (k && w) → ((a && x) || l) ≡ ((a || k) && w)
step_values true x true k l is rest = ap (λ b. b || l) (is refl)
step_values true x false k l is rest = ap (λ b. b || l) (is refl) ∙ rest ∙ and_off k
step_values false x w k l is rest = rest

or_none : (b : Bool) → (b || false) ≡ b
or_none true = refl
or_none false = refl

and_swap : (a b : Bool) → (a && b) ≡ (b && a)
and_swap true true = refl
and_swap true false = refl
and_swap false true = refl
and_swap false false = refl

-- ---- the value of a document in a single attribute

few_found : (es : Column) → AllByRecursion (λ e. IsLawfulItems Single e.1) es → (doc : ℕ) → length (items_in_column es doc) ≤ 1
few_found [] all doc = omega arith
few_found (e ∷ es) all doc =
    elim (is_eq (nat_cmp doc e.0)) as (λ b. length (unwrap_or (cond b (Some e.1) (lookup (is_at (nat_cmp doc)) es)) []) ≤ 1)
    [ true ↦ all.0.0 | false ↦ few_found es all.1 doc ]

one_value : (v : Value) (items : List Item) → length items ≤ 1 → list_any (has_value v) items ≡ is_eq (up (Some v) (first_value items))
one_value v [] few = refl
one_value v (item ∷ []) few = or_none (has_value v item)
one_value v (item ∷ other ∷ items) few = absurd (omega (arith, few))

-- ---- parts of lists

pub part_kept : {A : Type 0} (xs ys : List A) (from count : ℕ) → from + count ≤ length xs → take count (drop from (xs ++ ys)) ≡ take count (drop from xs)
part_kept xs ys zero zero le = refl
part_kept [] ys zero (suc count) le = absurd (omega (arith, le))
part_kept {A} (x ∷ xs) ys zero (suc count) le = ap (λ (zs : List A). x ∷ zs) (part_kept xs ys zero count (omega (arith, le)))
part_kept [] ys (suc from) count le = absurd (omega (arith, le))
part_kept (x ∷ xs) ys (suc from) count le = part_kept xs ys from count (omega (arith, le))

module _ (test : ℕ → Bool) where
  -- the documents of each value that pass a test, with the value
  abbrev keys_in : Index → List Key
  keys_in es = flat_map (λ e. keys_with (Some e.0) (filter test (keys_of e.1))) es

  docs_in : (es : Index) → map (λ k. k.1) (keys_in es) ≡ filter test (listed es)
  docs_in [] = refl
  docs_in (e ∷ es) =
      map-append (λ (k : Key). k.1) (keys_with (Some e.0) (filter test (keys_of e.1))) (keys_in es)
      ∙ ap₂ (λ (xs ys : List ℕ). xs ++ ys) (docs_back (Some e.0) (filter test (keys_of e.1))) (docs_in es)
      ∙ sym (filter-append test (keys_of e.1) (listed es))

  later_values : (k : Key) (es : Index) → AllByRecursion (λ w. up k.0 (Some w) ≡ Less) (keys_of es) → AreAbove k (keys_in es)
  later_values k [] all = tt
  later_values k (e ∷ es) all =
      AllByRecursion-append (λ y. key_cmp k y ≡ Less) (keys_with (Some e.0) (filter test (keys_of e.1))) (keys_in es)
      (each_above k (Some e.0) all.0 (filter test (keys_of e.1))) (later_values k es all.1)

  below_later : (v : Value) (es : Index) → AllByRecursion (λ w. value_cmp v w ≡ Less) (keys_of es) → (docs : List ℕ) → AreBelow (keys_with (Some v) docs) (keys_in es)
  below_later v es all [] = tt
  below_later v es all (doc ∷ docs) = (later_values (Some v, doc) es all, below_later v es all docs)

  keys_sorted : (es : Index) → IsStrictlySortedBy value_cmp (keys_of es) → AllByRecursion (λ e. IsStrictlySortedBy nat_cmp (keys_of e.1)) es → AreSorted (keys_in es)
  unfolding IsStrictlySortedBy
  keys_sorted [] values lists = tt
  keys_sorted (e ∷ es) values lists =
      sorted_append (keys_with (Some e.0) (filter test (keys_of e.1))) (keys_in es)
      (one_sorted e.0 (filter test (keys_of e.1)) (kept_ascends test (keys_of e.1) (ascends_from_sorted (keys_of e.1) lists.0)))
      (keys_sorted es values.1 lists.1)
      (below_later e.0 es values.0 (filter test (keys_of e.1)))

  below_one : (v : Value) (keys : List Key) → LackValues keys → (docs : List ℕ) → AreBelow (keys_with (Some v) docs) keys
  below_one v keys lack [] = tt
  below_one v keys lack (doc ∷ docs) = (lack_above v doc keys lack, below_one v keys lack docs)

  below_lacking : (es : Index) (keys : List Key) → LackValues keys → AreBelow (keys_in es) keys
  below_lacking [] keys lack = tt
  below_lacking (e ∷ es) keys lack =
      AllByRecursion-append (λ k. AreAbove k keys) (keys_with (Some e.0) (filter test (keys_of e.1))) (keys_in es)
      (below_one e.0 keys lack (filter test (keys_of e.1))) (below_lacking es keys lack)

  any_in : (o : Option Value) (doc : ℕ) (es : Index)
      → list_any (eq_by_cmp key_cmp (o, doc)) (keys_in es) ≡ list_any (λ e. is_eq (up o (Some e.0)) && (has (keys_of e.1) doc && test doc)) es
  any_in o doc [] = refl
  any_in o doc (e ∷ es) =
      list_any-append (eq_by_cmp key_cmp (o, doc)) (keys_with (Some e.0) (filter test (keys_of e.1))) (keys_in es)
      ∙ ap₂ (λ (a b : Bool). a || b)
      (any_key o doc (λ d. Some e.0) (filter test (keys_of e.1)) ∙ ap (λ b. is_eq (up o (Some e.0)) && b) (kept_has test (keys_of e.1) doc))
      (any_in o doc es)

module _ (field : ℕ) (table : Table) (index : Index) (ascends : IsStrictlySortedBy nat_cmp (keys_of table)) (is : IsIndexOf (column_of field table) index)
    (single : AllByRecursion (λ e. IsLawfulItems Single e.1) (column_of field table)) (words docs : List ℕ) (set : IsSetOf words docs) where
  has_one : (v : Value) (doc : ℕ) → has_in field table v doc ≡ is_eq (up (Some v) (value_of field table doc))
  has_one v doc =
      one_value v (items_of field table doc)
      (subst (λ (items : List Item). length items ≤ 1) (column_found field table doc) (few_found (column_of field table) single doc))

  any_entry : (v : Value) (doc : ℕ) (es : Index) → AllByRecursion (λ e. (d : ℕ) → has (keys_of e.1) d ≡ has_in field table e.0 d) es
      → list_any (λ e. same v e.0 && (has (keys_of e.1) doc && in_words words doc)) es
      ≡ (list_any (same v) (keys_of es) && (has_in field table v doc && in_words words doc))
  any_entry v doc [] all = refl
  any_entry v doc (e ∷ es) all =
      step_values (same v e.0) (has (keys_of e.1) doc && in_words words doc) (has_in field table v doc && in_words words doc) (list_any (same v) (keys_of es)) _
      (λ yes. ap (λ b. b && in_words words doc) (all.0 doc ∙ ap (λ w. has_in field table w doc) (sym (same_value v e.0 yes))))
      (any_entry v doc es all.1)

  known : (v : Value) (doc : ℕ) → (list_any (same v) (keys_of index) && (has_in field table v doc && in_words words doc)) ≡ (has_in field table v doc && in_words words doc)
  known v doc = by_cases (list_any (same v) (keys_of index))
      (λ yes. ap (λ b. b && (has_in field table v doc && in_words words doc)) yes)
      (λ no. ap (λ b. b && (has_in field table v doc && in_words words doc)) no
      ∙ sym (ap (λ b. b && in_words words doc) (not_known field table index ascends is v no doc)))

  -- a document lacks a value
  abbrev lacks : ℕ → Bool
  lacks doc = is_eq (up None (value_of field table doc))

  -- the documents without a value, in order
  abbrev lacking : List Key
  lacking = in_order key_cmp (keys_with None (filter lacks docs))

  same_keys : (q : Key) → list_any (eq_by_cmp key_cmp q) (keys_in (in_words words) index ++ lacking) ≡ list_any (eq_by_cmp key_cmp q) (map (with_value field table) docs)
  same_keys q = told q.0 q.1
    where
      none_here : (doc : ℕ) (es : Index) → list_any (λ e. is_eq (up None (Some e.0)) && (has (keys_of e.1) doc && in_words words doc)) es ≡ false
      none_here doc [] = refl
      none_here doc (e ∷ es) = none_here doc es

      told : (o : Option Value) (doc : ℕ) → list_any (eq_by_cmp key_cmp (o, doc)) (keys_in (in_words words) index ++ lacking)
          ≡ list_any (eq_by_cmp key_cmp (o, doc)) (map (with_value field table) docs)
      told (Some v) doc =
          list_any-append (eq_by_cmp key_cmp (Some v, doc)) (keys_in (in_words words) index) lacking
          ∙ ap₂ (λ (a b : Bool). a || b)
          (any_in (in_words words) (Some v) doc index ∙ any_entry v doc index (entry_has field table index ascends is) ∙ known v doc)
          (has_in_order key_total (Some v, doc) (keys_with None (filter lacks docs)) ∙ any_key (Some v) doc (λ d. None) (filter lacks docs))
          ∙ or_none (has_in field table v doc && in_words words doc)
          ∙ ap₂ (λ (a b : Bool). a && b) (has_one v doc) (set.exact doc)
          ∙ sym (any_key (Some v) doc (value_of field table) docs)
      told None doc =
          list_any-append (eq_by_cmp key_cmp (None, doc)) (keys_in (in_words words) index) lacking
          ∙ ap₂ (λ (a b : Bool). a || b)
          (any_in (in_words words) None doc index ∙ none_here doc index)
          (has_in_order key_total (None, doc) (keys_with None (filter lacks docs)) ∙ any_key None doc (λ d. None) (filter lacks docs))
          ∙ kept_has lacks docs doc ∙ and_swap (has docs doc) (lacks doc)
          ∙ sym (any_key None doc (value_of field table) docs)

  -- the documents in order are those of the lists, and then those without a value
  pub order_is : filter (in_words words) (listed index) ++ map (λ k. k.1) lacking ≡ map (λ k. k.1) (in_order key_cmp (map (with_value field table) docs))
  order_is =
      ap (λ (xs : List ℕ). xs ++ map (λ k. k.1) lacking) (sym (docs_in (in_words words) index))
      ∙ sym (map-append (λ (k : Key). k.1) (keys_in (in_words words) index) lacking)
      ∙ ap (map (λ (k : Key). k.1))
      (is_in_order key_total key_exact (keys_in (in_words words) index ++ lacking) (map (with_value field table) docs)
      (sorted_append (keys_in (in_words words) index) lacking
      (keys_sorted (in_words words) index is.formed.ascends is.formed.lists_ascend)
      (sorted_in_order key_total (keys_with None (filter lacks docs)))
      (below_lacking (in_words words) index lacking (lack_with [] (keys_with None (filter lacks docs)) tt (lack_each (filter lacks docs)))))
      same_keys)

  -- a part of them, where the lists have all of it whatever follows
  pub part_is : (part : List ℕ) (from count : ℕ) → ((others : List ℕ) → part ≡ take count (drop from (filter (in_words words) (listed index) ++ others)))
      → part ≡ sorted field Ascending docs from count table
  part_is part from count all = all (map (λ k. k.1) lacking) ∙ ap (λ (ds : List ℕ). take count (drop from ds)) order_is
