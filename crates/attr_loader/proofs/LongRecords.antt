-- Which of the records that an operation makes are long: at most one for each new value, and one for the document.
use Rattle.std.proofs.Common.{◌≡◌, ℕ, ℤ, zero, suc, ◌+◌, ◌<◌, ◌≤◌, Bool, true, false, cond, nat_eq, nat_le, nat_cmp, List, [], ◌∷◌, length, refl, sym, ap, subst, ◌∙◌, arith, inl, inr}
use Rattle.std.proofs.lemmas.Bool.{eqb-true, leb-true, true≢false}
use Rattle.std.specs.BTreeMap.{insert_entry, is_at}
use Rattle.std.specs.Map.{remove_entry}
use Rattle.array_store.proofs.ClassLemmas.{class_least, class_width}
use Rattle.store_api.specs.Ledgers.{is_width}
use Rattle.attr_field.specs.Counts.{change_records, entry_weight, new_values}
use Rattle.attr_field.specs.Items.{has_list, items_record}
use Rattle.attr_field.specs.Widths.{IsFieldWidth}
use Rattle.image_format.specs.Values.{value_words}
use Rattle.image_format.specs.Words.{class_of}
use Rattle.index_model.specs.Changes.{first_weights}
use Rattle.index_model.specs.Columns.{Column, documents_with}
use Rattle.attr_types.specs.declared.items.Item.{Item}
use Rattle.attr_types.specs.declared.kind.Kind.{Kind}
use Rattle.attr_types.specs.declared.value.Value.{Value}
use Rattle.attribute_kinds.proofs.RecordSums.{over, over_walk, all_values}
use Rattle.value_index.proofs.WalksCountLemmas.{one_of}
use Rattle.value_index.specs.Counts.{is_added, is_gone, new_record, put_records, short_record, taken_records}

-- widths from 32 on
abbrev pub broad : List ℕ
broad = 32 ∷ 64 ∷ 128 ∷ 256 ∷ 512 ∷ 1024 ∷ []

far : (w k : ℕ) → k < w → cond {A = ℕ} (nat_eq w k) 1 0 ≡ 0
far w k less = told (nat_eq w k) refl
  where
    told : (t : Bool) → nat_eq w k ≡ t → cond {A = ℕ} t 1 0 ≡ 0
    told true is = absurd (let same = eqb-true w k is in omega arith)
    told false is = refl

pub short_broad : (count : ℕ) → over broad (short_record count) ≡ 0
short_broad count = told (nat_le count 8) refl
  where
    told : (t : Bool) → nat_le count 8 ≡ t → over broad (λ w. cond t (cond (nat_eq w (class_of (1 + count))) 1 0) 0) ≡ 0
    told true is =
        let few = leb-true count 8 is in
        let k = class_least (1 + count) 16 (inr (inr (inr (inl refl)))) (omega arith) in
        let a = far 32 (class_of (1 + count)) (omega (arith, k)) in
        let b = far 64 (class_of (1 + count)) (omega (arith, k)) in
        let c = far 128 (class_of (1 + count)) (omega (arith, k)) in
        let d = far 256 (class_of (1 + count)) (omega (arith, k)) in
        let e = far 512 (class_of (1 + count)) (omega (arith, k)) in
        let f = far 1024 (class_of (1 + count)) (omega (arith, k)) in
        omega (arith, a, b, c, d, e, f)
    told false is = refl

-- widths of more than 128 words, and of more than 256
abbrev longs : List ℕ
longs = 256 ∷ 512 ∷ 1024 ∷ []

abbrev wides : List ℕ
wides = 512 ∷ 1024 ∷ []

if_one : (t : Bool) → cond {A = ℕ} t 1 0 ≤ 1
if_one true = omega arith
if_one false = omega arith

cond_none : (t : Bool) → cond {A = ℕ} t 0 0 ≡ 0
cond_none true = refl
cond_none false = refl

cond_zero : (t : Bool) (n : ℕ) → n ≡ 0 → cond {A = ℕ} t n 0 ≡ 0
cond_zero true n is = is
cond_zero false n is = refl

-- a value's own record
own_long : (docs : List (ℕ × ℤ)) (value : Value) → over longs (new_record docs value) ≤ 1
own_long [] value =
    let few = if_one (nat_eq 256 (class_of (length (value_words value)))) in
    let sum : cond {A = ℕ} (nat_eq 256 (class_of (length (value_words value)))) 1 0 + (0 + (0 + 0)) ≤ 1 = omega (arith, few) in
    sum
own_long (d ∷ docs) value = omega arith

own_wide : (docs : List (ℕ × ℤ)) (value : Value) → over wides (new_record docs value) ≡ 0
own_wide [] value = refl
own_wide (d ∷ docs) value = refl

-- that of a document
items_by : (t : Bool) (k : ℕ) → over longs (λ w. cond t (cond (nat_eq w k) 1 0) 0) ≤ 1
items_by true k = let one = one_of k in omega (arith, one)
items_by false k = omega arith

items_long : (kind : Kind) (count : ℕ) → over longs (items_record kind count) ≤ 1
items_long kind zero = omega arith
items_long kind (suc count) = items_by (has_list kind) (class_of (1 + suc count))

module _ (lists : Value → List (ℕ × ℤ)) (doc : ℕ) (e : Value × ℤ) where
  put_long : over longs (put_records lists doc e) ≤ 1
  put_long =
      let own = own_long (lists e.0) e.0 in
      let short = short_broad (length (insert_entry nat_cmp (lists e.0) doc e.1)) in
      omega (arith, own, short)

  put_wide : over wides (put_records lists doc e) ≤ 0
  put_wide =
      let own = own_wide (lists e.0) e.0 in
      let short = short_broad (length (insert_entry nat_cmp (lists e.0) doc e.1)) in
      omega (arith, own, short)

  taken_long : over longs (taken_records lists doc e) ≤ 0
  taken_long = let short = short_broad (length (remove_entry (is_at (nat_cmp doc)) (lists e.0))) in omega (arith, short)

module _ (column : Column) (doc : ℕ) (before after : List Item) (kind : Kind) where
  abbrev lists : Value → List (ℕ × ℤ)
  lists value = documents_with value column

  abbrev old : List (Value × ℤ)
  old = first_weights [] before

  abbrev new : List (Value × ℤ)
  new = first_weights [] after

  pub change_long : over longs (change_records kind column doc before after) ≤ new_values old new + 1
  change_long =
      let added = over_walk longs (is_added (entry_weight old)) (put_records lists doc) (λ e. Unit {0}) 1 (λ e is. put_long lists doc e) new (all_values new) in
      let gone = over_walk longs (is_gone (entry_weight new)) (taken_records lists doc) (λ e. Unit {0}) 0 (λ e is. taken_long lists doc e) old (all_values old) in
      let items = items_long kind (length after) in
      omega (arith, added, gone, items)

  pub change_wide : over wides (change_records kind column doc before after) ≤ 1
  change_wide =
      let added = over_walk wides (is_added (entry_weight old)) (put_records lists doc) (λ e. Unit {0}) 0 (λ e is. put_wide lists doc e) new (all_values new) in
      let gone = over_walk longs (is_gone (entry_weight new)) (taken_records lists doc) (λ e. Unit {0}) 0 (λ e is. taken_long lists doc e) old (all_values old) in
      let items = items_long kind (length after) in
      omega (arith, added, gone, items)

  -- the widest is the document's
  pub change_widest : items_record kind (length after) 1024 ≡ 0 → change_records kind column doc before after 1024 ≡ 0
  change_widest none =
      let added = over_walk wides (is_added (entry_weight old)) (put_records lists doc) (λ e. Unit {0}) 0 (λ e is. put_wide lists doc e) new (all_values new) in
      let gone = over_walk longs (is_gone (entry_weight new)) (taken_records lists doc) (λ e. Unit {0}) 0 (λ e is. taken_long lists doc e) old (all_values old) in
      omega (arith, added, gone, none)

items_other : (kind : Kind) (count : ℕ) → 512 ≡ class_of (1 + count) → items_record kind count 1024 ≡ 0
items_other kind zero is = refl
items_other kind (suc count) is = subst (λ k. cond {A = ℕ} (has_list kind) (cond (nat_eq 1024 k) 1 0) 0 ≡ 0) is (cond_none (has_list kind))

-- a document that was refused a record of 512 words needs none of 1024
pub items_refused : (dense : Bool) (kind : Kind) (column : Column) (before after : List Item) → IsFieldWidth dense kind column before after 512 → items_record kind (length after) 1024 ≡ 0
items_refused dense kind column before after (inl (inl node)) = absurd (omega (arith, node))
items_refused dense kind column before after (inl (inr items)) = items_other kind (length after) items.width_is
items_refused dense kind column before after (inr value) = absurd (let few = value.is.few in omega (arith, few))

-- ---- other widths than those of the store
module _ (w : ℕ) (off : is_width w ≡ false) where
  off_class : (n : ℕ) → cond {A = ℕ} (nat_eq w (class_of n)) 1 0 ≡ 0
  off_class n = told (nat_eq w (class_of n)) refl
    where
      told : (t : Bool) → nat_eq w (class_of n) ≡ t → cond {A = ℕ} t 1 0 ≡ 0
      told true is = absurd (true≢false (sym (class_width n) ∙ ap is_width (sym (eqb-true w (class_of n) is)) ∙ off))
      told false is = refl

  pub off_node : nat_eq w 34 ≡ false
  off_node = told (nat_eq w 34) refl
    where
      told : (t : Bool) → nat_eq w 34 ≡ t → t ≡ false
      told true is = absurd (let same : true ≡ is_width w = ap is_width (sym (eqb-true w 34 is)) in true≢false (same ∙ off))
      told false is = refl

  own_off : (docs : List (ℕ × ℤ)) (value : Value) → new_record docs value w ≡ 0
  own_off [] value = cond_zero (nat_le w 256) (cond (nat_eq w (class_of (length (value_words value)))) 1 0) (off_class (length (value_words value)))
  own_off (d ∷ docs) value = refl

  short_off : (count : ℕ) → short_record count w ≡ 0
  short_off count = cond_zero (nat_le count 8) (cond (nat_eq w (class_of (1 + count))) 1 0) (off_class (1 + count))

  items_off : (kind : Kind) (count : ℕ) → items_record kind count w ≡ 0
  items_off kind zero = refl
  items_off kind (suc count) = cond_zero (has_list kind) (cond (nat_eq w (class_of (1 + suc count))) 1 0) (off_class (1 + suc count))

  pub change_off : (column : Column) (doc : ℕ) (before after : List Item) (kind : Kind) → change_records kind column doc before after w ≡ 0
  change_off column doc before after kind =
      let lists : Value → List (ℕ × ℤ) = λ value. documents_with value column in
      let old = first_weights [] before in
      let new = first_weights [] after in
      let added = over_walk (w ∷ []) (is_added (entry_weight old)) (put_records lists doc) (λ e. Unit {0}) 0
      (λ e is. let own = own_off (lists e.0) e.0 in let short = short_off (length (insert_entry nat_cmp (lists e.0) doc e.1)) in omega (arith, own, short)) new (all_values new) in
      let gone = over_walk (w ∷ []) (is_gone (entry_weight new)) (taken_records lists doc) (λ e. Unit {0}) 0
      (λ e is. let short = short_off (length (remove_entry (is_at (nat_cmp doc)) (lists e.0))) in omega (arith, short)) old (all_values old) in
      let items = items_off kind (length after) in
      omega (arith, added, gone, items)
