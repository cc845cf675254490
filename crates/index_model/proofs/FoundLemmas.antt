-- What the indexes of a table hold for a query are the documents that match.
use Rattle.std.proofs.Common.{◌≡◌, inl, inr, ℕ, zero, suc, ℤ, ◌+◌, ◌<◌, ◌≤◌, Bool, true, false, cond, ◌||◌, ◌&&◌, List, [], ◌∷◌, map, drop, length, Option, Some, None}
use Rattle.std.proofs.Common.{nat_eq, nat_cmp, refl, sym, ap, ◌∙◌, subst, option_map, arith, add-one, is_eq}
use Rattle.std.proofs.lemmas.Bool.{cases_lt, eqb-true, ne_eqb, and_parts, or_cases, or_left, or_right, or_from}
use Rattle.std.proofs.lemmas.Cmp.{eq_by_cmp_equiv, tied_itself}
use Rattle.std.proofs.lemmas.List.Folds.{list_any-append}
use Rattle.std.proofs.lemmas.Map.Views.{Contains-from_any, list_any-from_Contains, tells_apart}
use Rattle.std.specs.List.{AllByRecursion, list_any, filter, flat_map, find, cons_option, Contains}
use Rattle.std.specs.Map.{keys_of}
use Rattle.std.specs.Option.{is_some}
use Rattle.std.specs.Ordering.{eq_by_cmp}
use Rattle.index_model.proofs.ListLemmas.{same_value}
use Rattle.index_model.proofs.OfLemmas.{has_values, has_lists}
use Rattle.index_model.specs.Columns.{Column, IsLawfulColumn, column_of, column_values, documents_with}
use Rattle.index_model.specs.Index.{Index, IsIndexOf}
use Rattle.attr_types.proofs.EntryLemmas.{sorted_map-filter}
use Rattle.attr_types.specs.Lawful.{IsLawfulTable, IsLawfulDocument, IsDocNumber}
use Rattle.attr_types.specs.ProofsForOrder.{value_cmp_total, value_cmp_exact}
use Rattle.attr_types.specs.Query.{QueryTree, QueryTrees, one, and, or, no_trees, tree, meets, meets_some, has_items, items_in}
use Rattle.attr_types.specs.Query.{matches, all_match, some_match}
use Rattle.attr_types.specs.Table.{Table, hits}
use Rattle.attr_types.specs.Value.{Document, value_cmp, values_of}
use Rattle.attr_types.specs.declared.field.Field.{Field}
use Rattle.attr_types.specs.declared.items.Item.{Item}
use Rattle.attr_types.specs.declared.kind.Kind.{Kind}
use Rattle.attr_types.specs.declared.query.Leaf.{Leaf}
use Rattle.attr_types.specs.declared.query.Leaf.TheVariants.{Range}
use Rattle.attr_types.specs.declared.value.Value.{Value}
use Rattle.index_model.proofs.DocLemmas.{same_ascending, same_bool, ascends_from_sorted}
use Rattle.index_model.specs.Postings.{HaveDocNumbers}
use Rattle.index_model.specs.Sets.{has, IsAscending, Holds}
use Rattle.index_model.specs.Found.{AreIndexesFrom, index_at, is_listed, found, found_all, found_some}
use Rattle.index_model.specs.Leaves.{listed, meeting}

-- ---- Bools
both : (a b : Bool) → a ≡ true → b ≡ true → (a && b) ≡ true
both true b on is = is
both false b on is = cc

ors : (a b c d : Bool) → a ≡ b → c ≡ d → (a || c) ≡ (b || d)
ors a b c d first second = cc

ands : (a b c d : Bool) → a ≡ b → c ≡ d → (a && c) ≡ (b && d)
ands a b c d first second = cc

and_true : (b : Bool) → (b && true) ≡ b
and_true true = refl
and_true false = refl

and_off : (b : Bool) → (b && false) ≡ false
and_off true = refl
and_off false = refl

and_assoc : (a b c : Bool) → ((a && b) && c) ≡ (a && (b && c))
and_assoc true b c = refl
and_assoc false b c = refl

-- ---- tests over lists
module _ {X : Type 0} where
  any_flat_map : {A : Type 0} (p : A → Bool) (f : X → List A) (xs : List X)
      → list_any p (flat_map f xs) ≡ list_any (λ x. list_any p (f x)) xs
  any_flat_map p f [] = refl
  any_flat_map p f (x ∷ xs) =
      list_any-append p (f x) (flat_map f xs) ∙ ap (λ b. list_any p (f x) || b) (any_flat_map p f xs)

  any_map : {A : Type 0} (p : A → Bool) (f : X → A) (xs : List X) → list_any p (map f xs) ≡ list_any (λ x. p (f x)) xs
  any_map p f [] = refl
  any_map p f (x ∷ xs) = ap (λ b. p (f x) || b) (any_map p f xs)

  any_filter : (p q : X → Bool) (xs : List X) → list_any p (filter q xs) ≡ list_any (λ x. q x && p x) xs
  any_filter p q [] = refl
  any_filter p q (x ∷ xs) = told (q x) ∙ ap (λ b. (q x && p x) || b) (any_filter p q xs)
    where
      told : (b : Bool) → list_any p (cond b (x ∷ filter q xs) (filter q xs)) ≡ ((b && p x) || list_any p (filter q xs))
      told true = refl
      told false = refl

  any_same : (p q : X → Bool) (xs : List X) → AllByRecursion (λ x. p x ≡ q x) xs → list_any p xs ≡ list_any q xs
  any_same p q [] all = refl
  any_same p q (x ∷ xs) all = ors _ _ _ _ all.0 (any_same p q xs all.1)

  all_same : (p q : X → Bool) → ((x : X) → p x ≡ q x) → (xs : List X) → AllByRecursion (λ x. p x ≡ q x) xs
  all_same p q same [] = tt
  all_same p q same (x ∷ xs) = (same x, all_same p q same xs)

  any_then : (p q : X → Bool) → ((x : X) → p x ≡ true → q x ≡ true) → (xs : List X)
      → list_any p xs ≡ true → list_any q xs ≡ true
  any_then p q then' [] is = cc
  any_then p q then' (x ∷ xs) is = elim (or_cases (p x) (list_any p xs) is) [
    | inl here ↦ or_left (q x) (list_any q xs) (then' x here)
    | inr later ↦ or_right (q x) (list_any q xs) (any_then p q then' xs later)
  ]

  any_use : {G : Type 0} (p : X → Bool) → ((x : X) → p x ≡ true → G) → (xs : List X) → list_any p xs ≡ true → G
  any_use p then' [] is = cc
  any_use p then' (x ∷ xs) is = elim (or_cases (p x) (list_any p xs) is) [
    | inl here ↦ then' x here
    | inr later ↦ any_use p then' xs later
  ]

-- ---- rows at a document
-- some row of this document passes the test
abbrev at : {A : Type 0} → (A → Bool) → List (ℕ × A) → ℕ → Bool
at p table doc = list_any (λ r. p r.1 && nat_eq doc r.0) table

at_same : {A : Type 0} (p q : A → Bool) → ((items : A) → p items ≡ q items) → (table : List (ℕ × A)) (doc : ℕ)
    → at p table doc ≡ at q table doc
at_same p q same table doc =
    any_same _ _ table (all_same (λ r. p r.1 && nat_eq doc r.0) (λ r. q r.1 && nat_eq doc r.0) (λ r. ap (λ b. b && nat_eq doc r.0) (same r.1)) table)

hits_at : (query : QueryTree) (table : Table) (doc : ℕ) → has (hits query table) doc ≡ at (matches query) table doc
hits_at query table doc =
    any_map (nat_eq doc) (λ e. e.0) (filter (λ e. matches query e.1) table)
    ∙ any_filter (λ e. nat_eq doc e.0) (λ e. matches query e.1) table

at_none : {A : Type 0} (table : List (ℕ × A)) (doc : ℕ) → false ≡ at {A = A} (λ items. false) table doc
at_none [] doc = refl
at_none (r ∷ table) doc = at_none table doc

swap : (p q e a b : Bool) → (((p || q) && e) || (a || b)) ≡ (((p && e) || a) || ((q && e) || b))
swap true q true a b = refl
swap true true false a b = refl
swap true false false a b = refl
swap false true true true b = refl
swap false true true false b = refl
swap false true false a b = refl
swap false false e a b = refl

at_or : {A : Type 0} (p q : A → Bool) (table : List (ℕ × A)) (doc : ℕ)
    → at (λ items. p items || q items) table doc ≡ (at p table doc || at q table doc)
at_or p q [] doc = refl
at_or p q (r ∷ table) doc =
    ap (λ b. ((p r.1 || q r.1) && nat_eq doc r.0) || b) (at_or p q table doc)
    ∙ swap (p r.1) (q r.1) (nat_eq doc r.0) (at p table doc) (at q table doc)

gone : {A : Type 0} (p : A → Bool) (table : List (ℕ × A)) (doc : ℕ) → AllByRecursion (λ k. doc < k) (keys_of table)
    → at p table doc ≡ false
gone p [] doc all = refl
gone p (r ∷ table) doc all =
    let below : doc < r.0 = all.0 in
    or_from (p r.1 && nat_eq doc r.0) (at p table doc)
    (ap (λ b. p r.1 && b) (ne_eqb doc r.0 (λ e. omega (arith, e))) ∙ and_off (p r.1)) (gone p table doc all.1)

met_here : (p q : Bool) → (((p && q) && true) || false) ≡ (((p && true) || false) && ((q && true) || false))
met_here true true = refl
met_here true false = refl
met_here false q = refl

met_later : (p q a b : Bool) → (((p && q) && false) || (a && b)) ≡ (((p && false) || a) && ((q && false) || b))
met_later true true a b = refl
met_later true false a b = refl
met_later false true a b = refl
met_later false false a b = refl

meet_at : (p q e a b c : Bool) → (e ≡ true → (a ≡ false) × (b ≡ false) × (c ≡ false)) → c ≡ (a && b)
    → (((p && q) && e) || c) ≡ (((p && e) || a) && ((q && e) || b))
meet_at p q true a b c none is =
    let off = none refl in
    ap (λ x. ((p && q) && true) || x) off.2 ∙ met_here p q
    ∙ ands _ _ _ _ (ap (λ x. (p && true) || x) (sym off.0)) (ap (λ x. (q && true) || x) (sym off.1))
meet_at p q false a b c none is = ap (λ x. ((p && q) && false) || x) is ∙ met_later p q a b

at_and : {A : Type 0} (p q : A → Bool) (table : List (ℕ × A)) (doc : ℕ) → IsAscending (keys_of table)
    → at (λ items. p items && q items) table doc ≡ (at p table doc && at q table doc)
at_and p q [] doc up = refl
at_and p q (r ∷ table) doc up =
    meet_at (p r.1) (q r.1) (nat_eq doc r.0) (at p table doc) (at q table doc) (at (λ items. p items && q items) table doc)
    (λ is. let later = subst (λ d. AllByRecursion (λ k. d < k) (keys_of table)) (sym (eqb-true doc r.0 is)) up.0 in
    (gone p table doc later, gone q table doc later, gone (λ items. p items && q items) table doc later))
    (at_and p q table doc up.1)

-- ---- a leaf
abbrev has_value : Value → List Item → Bool
has_value value items = list_any (λ item. is_eq (value_cmp value item.value)) items

list_step : (o : Option Item) (doc own : ℕ) (rest : List (ℕ × ℤ))
    → has (keys_of (cons_option (option_map (λ item. (own, item.weight)) o) rest)) doc
    ≡ ((is_some o && nat_eq doc own) || has (keys_of rest) doc)
list_step None doc own rest = refl
list_step (Some item) doc own rest = refl

found_any : (test : Item → Bool) (items : List Item) → is_some (find test items) ≡ list_any test items
found_any test [] = refl
found_any test (item ∷ items) = told (test item) ∙ ap (λ b. test item || b) (found_any test items)
  where
    told : (b : Bool) → is_some (cond b (Some item) (find test items)) ≡ (b || is_some (find test items))
    told true = refl
    told false = refl

listed_at : (value : Value) (table : Column) (doc : ℕ)
    → has (keys_of (documents_with value table)) doc ≡ at (has_value value) table doc
listed_at value [] doc = refl
listed_at value (r ∷ table) doc =
    let test = λ (item : Item). is_eq (value_cmp value item.value) in
    list_step (find test r.1) doc r.0 (documents_with value table)
    ∙ ors _ _ _ _ (ap (λ b. b && nat_eq doc r.0) (found_any test r.1)) (listed_at value table doc)

-- the documents in the lists of values that meet a leaf, by the table alone
abbrev by_lists : Leaf → Index → Column → ℕ → Bool
by_lists leaf index table doc = list_any (λ e. meets leaf e.0 && at (has_value e.0) table doc) index

lists_step : (leaf : Leaf) (index : Index) (table : Column) (doc : ℕ) → AllByRecursion (λ e. e.1 ≡ documents_with e.0 table) index
    → AllByRecursion (λ e. (meets leaf e.0 && has (keys_of e.1) doc) ≡ (meets leaf e.0 && at (has_value e.0) table doc)) index
lists_step leaf [] table doc all = tt
lists_step leaf (e ∷ index) table doc all =
    (ap (λ b. meets leaf e.0 && b) (ap (λ list. has (keys_of list) doc) all.0 ∙ listed_at e.0 table doc), lists_step leaf index table doc all.1)

meeting_lists : (leaf : Leaf) (index : Index) (table : Column) (doc : ℕ) → IsIndexOf table index
    → has (listed (meeting leaf index)) doc ≡ by_lists leaf index table doc
meeting_lists leaf index table doc is =
    any_flat_map (nat_eq doc) (λ e. keys_of e.1) (meeting leaf index)
    ∙ any_filter (λ e. has (keys_of e.1) doc) (λ e. meets leaf e.0) index
    ∙ any_same _ _ index (lists_step leaf index table doc (has_lists table index is))

value_meets : (leaf : Leaf) (value : Value) → meets leaf value ≡ true → (items : List Item) → has_value value items ≡ true
    → meets_some leaf items ≡ true
value_meets leaf value on items is =
    any_then (λ item. is_eq (value_cmp value item.value)) (λ item. meets leaf item.value)
    (λ item same. subst (λ v. meets leaf v ≡ true) (same_value value item.value same) on) items is

rows_then : (p q : List Item → Bool) → ((items : List Item) → p items ≡ true → q items ≡ true) → (table : Column) (doc : ℕ)
    → at p table doc ≡ true → at q table doc ≡ true
rows_then p q then' table doc is =
    any_then (λ r. p r.1 && nat_eq doc r.0) (λ r. q r.1 && nat_eq doc r.0)
    (λ r on. let parts = and_parts (p r.1) (nat_eq doc r.0) on in both (q r.1) (nat_eq doc r.0) (then' r.1 parts.0) parts.1)
    table is

lists_meet : (leaf : Leaf) (index : Index) (table : Column) (doc : ℕ) → by_lists leaf index table doc ≡ true
    → at (meets_some leaf) table doc ≡ true
lists_meet leaf index table doc is =
    any_use (λ e. meets leaf e.0 && at (has_value e.0) table doc)
    (λ e on. let parts = and_parts (meets leaf e.0) (at (has_value e.0) table doc) on in
    rows_then (has_value e.0) (meets_some leaf) (value_meets leaf e.0 parts.0) table doc parts.1)
    index is

-- a value that meets a leaf
record Picked (leaf : Leaf) (P : Value → Type 0) : Type 0 where
  value : Value
  meets : meets leaf value ≡ true
  there : P value

pick_item : (leaf : Leaf) (items : List Item) → meets_some leaf items ≡ true → Picked leaf (λ v. has_value v items ≡ true)
pick_item leaf [] is = cc
pick_item leaf (item ∷ items) is = elim (or_cases (meets leaf item.value) (meets_some leaf items) is) [
  | inl here ↦ record {
    value = item.value;
    meets = here;
    there = or_left _ (has_value item.value items) (ap is_eq (tied_itself value_cmp_total item.value));
  }
  | inr later ↦
      let rest = pick_item leaf items later in
      record { value = rest.value; meets = rest.meets; there = or_right _ (has_value rest.value items) rest.there }
]

pick : (leaf : Leaf) (table : Column) (doc : ℕ) → at (meets_some leaf) table doc ≡ true
    → Picked leaf (λ v. at (has_value v) table doc ≡ true)
pick leaf [] doc is = cc
pick leaf (r ∷ table) doc is =
    elim (or_cases (meets_some leaf r.1 && nat_eq doc r.0) (at (meets_some leaf) table doc) is) [
      | inl here ↦
          let parts = and_parts (meets_some leaf r.1) (nat_eq doc r.0) here in
          let item = pick_item leaf r.1 parts.0 in
          record {
            value = item.value;
            meets = item.meets;
            there = or_left _ (at (has_value item.value) table doc) (both (has_value item.value r.1) (nat_eq doc r.0) item.there parts.1);
          }
      | inr later ↦
          let rest = pick leaf table doc later in
          record { value = rest.value; meets = rest.meets; there = or_right _ (at (has_value rest.value) table doc) rest.there }
    ]

-- a value that some row has is a value of the table
value_of_table : (value : Value) (table : Column) (doc : ℕ) → at (has_value value) table doc ≡ true
    → Contains (column_values table) value
value_of_table value table doc is =
    Contains-from_any (tells_apart value_cmp_exact) value (column_values table)
    (any_flat_map (eq_by_cmp value_cmp value) (λ e. values_of e.1) table
    ∙ any_same _ _ table (all_same (λ e. list_any (eq_by_cmp value_cmp value) (values_of e.1)) (λ e. has_value value e.1)
    (λ e. any_map (eq_by_cmp value_cmp value) (λ item. item.value) e.1) table)
    ∙ any_then (λ r. has_value value r.1 && nat_eq doc r.0) (λ r. has_value value r.1)
    (λ r on. (and_parts (has_value value r.1) (nat_eq doc r.0) on).0) table is)

meet_lists : (leaf : Leaf) (index : Index) (table : Column) (doc : ℕ) → IsIndexOf table index
    → at (meets_some leaf) table doc ≡ true → by_lists leaf index table doc ≡ true
meet_lists leaf index table doc is on =
    let picked = pick leaf table doc on in
    let value = picked.value in
    let there = list_any-from_Contains (eq_by_cmp_equiv value_cmp_total) value (keys_of index)
    ((has_values table index is value).1 (value_of_table value table doc picked.there)) in
    any_then (λ e. eq_by_cmp value_cmp value e.0) (λ e. meets leaf e.0 && at (has_value e.0) table doc)
    (λ e same. subst (λ v. (meets leaf v && at (has_value v) table doc) ≡ true) (same_value value e.0 same)
    (both (meets leaf value) (at (has_value value) table doc) picked.meets picked.there))
    index (sym (any_map (eq_by_cmp value_cmp value) (λ e. e.0) index) ∙ there)

-- the documents in the lists of the values that meet a leaf are those with an item that meets it
pub leaf_at : (leaf : Leaf) (index : Index) (table : Column) (doc : ℕ) → IsIndexOf table index
    → has (listed (meeting leaf index)) doc ≡ at (meets_some leaf) table doc
leaf_at leaf index table doc is =
    meeting_lists leaf index table doc is
    ∙ same_bool _ _ (lists_meet leaf index table doc) (meet_lists leaf index table doc is)

-- ---- all documents with items
abbrev open_range : Leaf
open_range = Range None None

all_meeting : (index : Index) → meeting open_range index ≡ index
all_meeting [] = refl
all_meeting (e ∷ index) = ap (λ xs. e ∷ xs) (all_meeting index)

open_meets : (items : List Item) → meets_some open_range items ≡ has_items items
open_meets [] = refl
open_meets (item ∷ items) = refl

all_at : (index : Index) (table : Column) (doc : ℕ) → IsIndexOf table index
    → has (listed index) doc ≡ at has_items table doc
all_at index table doc is =
    ap (λ xs. has (listed xs) doc) (sym (all_meeting index)) ∙ leaf_at open_range index table doc is
    ∙ at_same (meets_some open_range) has_items open_meets table doc

-- ---- the attributes of a table
column-at : (p : List Item → Bool) (i : ℕ) (table : Table) (doc : ℕ)
    → at p (column_of i table) doc ≡ at (λ d. p (items_in d i)) table doc
column-at p i table doc = any_map (λ r. p r.1 && nat_eq doc r.0) (λ e. (e.0, items_in e.1 i)) table

rows_same : (p q : Document → Bool) (table : Table) → AllByRecursion (λ e. p e.1 ≡ q e.1) table → (doc : ℕ)
    → at p table doc ≡ at q table doc
rows_same p q [] all doc = refl
rows_same p q (r ∷ table) all doc = ors _ _ _ _ (ap (λ b. b && nat_eq doc r.0) all.0) (rows_same p q table all.1 doc)

-- behind its last attribute a document has no items
nothing_behind : (fields : List Field) (document : Document) (i : ℕ) → IsLawfulDocument fields document → length fields ≤ i
    → items_in document i ≡ []
nothing_behind [] [] i lawful behind = refl
nothing_behind [] (items ∷ document) i lawful behind = absurd lawful
nothing_behind (field ∷ fields) [] i lawful behind = absurd lawful
nothing_behind (field ∷ fields) (items ∷ document) zero lawful behind = absurd (omega (arith, behind))
nothing_behind (field ∷ fields) (items ∷ document) (suc i) lawful behind =
    nothing_behind fields document i lawful.1 (omega (arith, behind))

no_index : (indexes : List Index) (i : ℕ) → length indexes ≤ i → index_at indexes i ≡ []
no_index [] i behind = refl
no_index (index ∷ indexes) zero behind = absurd (omega (arith, behind))
no_index (index ∷ indexes) (suc i) behind = no_index indexes i (omega (arith, behind))

own_index : (indexes : List Index) (i k : ℕ) (table : Table) → AreIndexesFrom i table indexes → k < length indexes
    → IsIndexOf (column_of (i + k) table) (index_at indexes k)
own_index [] i k table are within = absurd (omega (arith, within))
own_index (index ∷ indexes) i zero table are within = subst (λ n. IsIndexOf (column_of n table) index) (omega arith) are.0
own_index (index ∷ indexes) i (suc k) table are within =
    subst (λ n. IsIndexOf (column_of n table) (index_at indexes k)) (omega arith) (own_index indexes (i + 1) k table are.1 (omega (arith, within)))

-- the items of a document from one attribute on
from_on : (document : Document) (i : ℕ)
    → list_any has_items (drop i document) ≡ (has_items (items_in document i) || list_any has_items (drop (suc i) document))
from_on [] zero = refl
from_on [] (suc i) = refl
from_on (items ∷ document) zero = refl
from_on (items ∷ document) (suc i) = from_on document i

drop_past : (fields : List Field) (document : Document) (i : ℕ) → IsLawfulDocument fields document → length fields ≤ i
    → list_any has_items (drop i document) ≡ false
drop_past [] [] zero lawful behind = refl
drop_past [] [] (suc i) lawful behind = refl
drop_past [] (items ∷ document) i lawful behind = absurd lawful
drop_past (field ∷ fields) [] i lawful behind = absurd lawful
drop_past (field ∷ fields) (items ∷ document) zero lawful behind = absurd (omega (arith, behind))
drop_past (field ∷ fields) (items ∷ document) (suc i) lawful behind = drop_past fields document i lawful.1 (omega (arith, behind))

each_row : (P Q : Document → Type 0) (table : Table) → ((d : Document) → P d → Q d) → AllByRecursion (λ e. P e.1) table
    → AllByRecursion (λ e. Q e.1) table
each_row P Q [] then' all = tt
each_row P Q (r ∷ table) then' all = (then' r.1 all.0, each_row P Q table then' all.1)

module _ (fields : List Field) (table : Table) (lawful : AllByRecursion (λ e. IsLawfulDocument fields e.1) table) where
  listed_from : (indexes : List Index) (i : ℕ) (doc : ℕ) → AreIndexesFrom i table indexes → length indexes + i ≡ length fields
      → is_listed indexes doc ≡ at (λ d. list_any has_items (drop i d)) table doc
  listed_from [] i doc are all =
      at_none table doc
      ∙ rows_same (λ d. false) (λ d. list_any has_items (drop i d)) table
      (each_row (IsLawfulDocument fields) (λ d. false ≡ list_any has_items (drop i d)) table
      (λ d is. sym (drop_past fields d i is (omega (arith, all)))) lawful) doc
  listed_from (index ∷ indexes) i doc are all =
      ors _ _ _ _
      (all_at index (column_of i table) doc are.0 ∙ column-at has_items i table doc)
      (listed_from indexes (i + 1) doc are.1 (omega (arith, all)))
      ∙ sym (at_or (λ d. has_items (items_in d i)) (λ d. list_any has_items (drop (i + 1) d)) table doc)
      ∙ at_same _ _ (λ d. ap (λ n. has_items (items_in d i) || list_any has_items (drop n d)) (add-one i) ∙ sym (from_on d i)) table doc

  leaf_in : (indexes : List Index) (field : ℕ) (leaf : Leaf) (doc : ℕ) → AreIndexesFrom 0 table indexes
      → length indexes ≡ length fields
      → has (listed (meeting leaf (index_at indexes field))) doc ≡ at (λ d. meets_some leaf (items_in d field)) table doc
  leaf_in indexes field leaf doc are all = elim (cases_lt field (length indexes)) [
    | inl within ↦
        leaf_at leaf (index_at indexes field) (column_of field table) doc (subst (λ n. IsIndexOf (column_of n table) (index_at indexes field)) (omega arith) (own_index indexes 0 field table are within))
        ∙ column-at (meets_some leaf) field table doc
    | inr behind ↦
        ap (λ index. has (listed (meeting leaf index)) doc) (no_index indexes field behind)
        ∙ at_none table doc
        ∙ rows_same (λ d. false) (λ d. meets_some leaf (items_in d field)) table
        (each_row (IsLawfulDocument fields) (λ d. false ≡ meets_some leaf (items_in d field)) table
        (λ d is. ap (meets_some leaf) (sym (nothing_behind fields d field is (omega (arith, behind, all))))) lawful) doc
  ]

-- ---- queries
items_none : (document : Document) (i : ℕ) → list_any has_items document ≡ false → items_in document i ≡ []
items_none [] i none = refl
items_none ([] ∷ document) zero none = refl
items_none ((item ∷ items) ∷ document) zero none = cc
items_none ([] ∷ document) (suc i) none = items_none document i none
items_none ((item ∷ items) ∷ document) (suc i) none = cc

-- a document without items matches nothing
mutual
  none_matches : (t : QueryTree) (d : Document) → list_any has_items d ≡ false → matches t d ≡ false
  none_matches (one field leaf) d none = ap (meets_some leaf) (items_none d field none)
  none_matches (and members) d none = ap (λ b. b && all_match members d) none
  none_matches (or members) d none = none_match_some members d none

  none_match_some : (ts : QueryTrees) (d : Document) → list_any has_items d ≡ false → some_match ts d ≡ false
  none_match_some no_trees d none = refl
  none_match_some (tree t ts) d none = or_from (matches t d) (some_match ts d) (none_matches t d none) (none_match_some ts d none)

with_items : (t : QueryTree) (ts : QueryTrees) (d : Document)
    → (matches t d && all_match ts d) ≡ (list_any has_items d && (matches t d && all_match ts d))
with_items t ts d = told (list_any has_items d) refl
  where
    told : (b : Bool) → list_any has_items d ≡ b → (matches t d && all_match ts d) ≡ (b && (matches t d && all_match ts d))
    told true some = refl
    told false none = ap (λ b. b && all_match ts d) (none_matches t d none)

module _ (fields : List Field) (table : Table) (lawful : AllByRecursion (λ e. IsLawfulDocument fields e.1) table)
    (indexes : List Index) (doc : ℕ) (are : AreIndexesFrom 0 table indexes) (all : length indexes ≡ length fields)
    (up : IsAscending (keys_of table)) where
  mutual
    pub found_at : (t : QueryTree) → found t indexes doc ≡ at (matches t) table doc
    found_at (one field leaf) = leaf_in fields table lawful indexes field leaf doc are all
    found_at (and no_trees) =
        listed_from fields table lawful indexes 0 doc are (omega (arith, all))
        ∙ at_same (λ d. list_any has_items d) (λ d. list_any has_items d && true) (λ d. sym (and_true (list_any has_items d))) table doc
    found_at (and (tree t ts)) =
        found_all_at ts (matches t) (found t indexes doc) (found_at t)
        ∙ at_same (λ d. matches t d && all_match ts d) (matches (and (tree t ts))) (with_items t ts) table doc
    found_at (or members) = found_some_at members

    found_all_at : (ts : QueryTrees) (p : Document → Bool) (here : Bool) → here ≡ at p table doc
        → (here && found_all ts indexes doc) ≡ at (λ d. p d && all_match ts d) table doc
    found_all_at no_trees p here so =
        and_true here ∙ so ∙ at_same p (λ d. p d && true) (λ d. sym (and_true (p d))) table doc
    found_all_at (tree t ts) p here so =
        sym (and_assoc here (found t indexes doc) (found_all ts indexes doc))
        ∙ found_all_at ts (λ d. p d && matches t d) (here && found t indexes doc)
        (ands _ _ _ _ so (found_at t) ∙ sym (at_and p (matches t) table doc up))
        ∙ at_same _ _ (λ d. and_assoc (p d) (matches t d) (all_match ts d)) table doc

    found_some_at : (ts : QueryTrees) → found_some ts indexes doc ≡ at (some_match ts) table doc
    found_some_at no_trees = at_none table doc
    found_some_at (tree t ts) =
        ors _ _ _ _ (found_at t) (found_some_at ts) ∙ sym (at_or (matches t) (some_match ts) table doc)

pub found_are_hits : (fields : List Field) (table : Table) (indexes : List Index) (query : QueryTree) (docs : List ℕ)
    → IsLawfulTable fields table → length indexes ≡ length fields → AreIndexesFrom 0 table indexes
    → Holds docs (found query indexes) → docs ≡ hits query table
found_are_hits fields table indexes query docs lawful all are holds =
    same_ascending docs (hits query table) holds.ascends
    (ascends_from_sorted (hits query table)
    (sorted_map-filter nat_cmp (λ e. e.0) (λ e. matches query e.1) table lawful.ascends))
    (λ doc. holds.exact doc
    ∙ found_at fields table lawful.documents indexes doc are all (ascends_from_sorted (keys_of table) lawful.ascends) query
    ∙ sym (hits_at query table doc))

-- ---- the lists of an index have documents
cond_documents : (o : Option Item) (own : ℕ) (rest : List (ℕ × ℤ)) → IsDocNumber own
    → AllByRecursion (λ p. IsDocNumber p.0) rest
    → AllByRecursion (λ p. IsDocNumber p.0) (cons_option (option_map (λ item. (own, item.weight)) o) rest)
cond_documents None own rest here all = all
cond_documents (Some item) own rest here all = (here, all)

with_documents : (value : Value) (table : Column) → AllByRecursion IsDocNumber (keys_of table)
    → AllByRecursion (λ p. IsDocNumber p.0) (documents_with value table)
with_documents value [] all = tt
with_documents value (r ∷ table) all =
    cond_documents (find (λ item. is_eq (value_cmp value item.value)) r.1) r.0 (documents_with value table) all.0 (with_documents value table all.1)

lists_documents : (index : Index) (column : Column) → AllByRecursion IsDocNumber (keys_of column)
    → AllByRecursion (λ e. e.1 ≡ documents_with e.0 column) index → AllByRecursion (λ e. HaveDocNumbers e.1) index
lists_documents [] column all lists = tt
lists_documents (e ∷ index) column all lists = (
  subst HaveDocNumbers (sym lists.0) (with_documents e.0 column all),
  lists_documents index column all lists.1,
)

pub index_lists_documents : (kind : Kind) (column : Column) (index : Index) → IsLawfulColumn kind column → IsIndexOf column index
    → AllByRecursion (λ e. HaveDocNumbers e.1) index
index_lists_documents kind column index lawful is = lists_documents index column lawful.numbers (has_lists column index is)
