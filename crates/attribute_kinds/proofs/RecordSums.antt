-- Sums over widths of the records that a change makes.
use Rattle.std.proofs.Common.{◌≡◌, ℕ, ℤ, zero, suc, ◌+◌, ◌*◌, ◌≤◌, Bool, true, false, cond, nat_eq, nat_le, List, [], ◌∷◌, length, refl, ap, ◌∙◌, arith}
use Rattle.std.proofs.lemmas.List.Sums.{sum_by-cons}
use Rattle.std.specs.BTreeMap.{insert_entry, is_at}
use Rattle.std.specs.List.{count_by, AllByRecursion}
use Rattle.std.specs.Map.{remove_entry}
use Rattle.std.specs.Ordering.{nat_cmp}
use Rattle.attr_field.specs.Counts.{entry_weight, field_records, lost_values, new_values}
use Rattle.attr_field.specs.Items.{has_list, items_record}
use Rattle.image_format.specs.Values.{value_words}
use Rattle.image_format.specs.Words.{class_of}
use Rattle.index_model.specs.Columns.{Column, documents_with}
use Rattle.attr_types.specs.declared.kind.Kind.{Kind}
use Rattle.attr_types.specs.declared.value.Value.{Value}
use Rattle.value_index.specs.Counts.{added_records, gone_records, is_added, is_gone, new_record, put_records, record_sum, short_record, taken_records, walk_records}
use Rattle.value_index.proofs.WalksCountLemmas.{one_of}

-- so many of these widths
abbrev pub over : List ℕ → (ℕ → ℕ) → ℕ
over [] f = 0
over (w ∷ ws) f = f w + over ws f

over-plus : (ws : List ℕ) (f h : ℕ → ℕ) → over ws (λ w. f w + h w) ≡ over ws f + over ws h
over-plus [] f h = refl
over-plus (w ∷ ws) f h = let rest = over-plus ws f h in omega arith

over-same : (ws : List ℕ) (f h : ℕ → ℕ) → ((w : ℕ) → f w ≡ h w) → over ws f ≡ over ws h
over-same [] f h same = refl
over-same (w ∷ ws) f h same = let here = same w in let rest = over-same ws f h same in omega (arith, here, rest)

over-none : (ws : List ℕ) → over ws (λ w. 0) ≡ 0
over-none [] = refl
over-none (w ∷ ws) = let rest = over-none ws in omega (arith, rest)

-- the values of a walk, each with so many at most
module _ (ws : List ℕ) (changes : Value × ℤ → Bool) (each : Value × ℤ → ℕ → ℕ) (P : Value × ℤ → Type 0) (k : ℕ) (few : (e : Value × ℤ) → P e → over ws (each e) ≤ k) where
  one_few : (e : Value × ℤ) (t : Bool) → P e → over ws (λ w. cond t (each e w) 0) ≤ k * cond t 1 0
  one_few e true is = let some = few e is in omega arith
  one_few e false is = let none = over-none ws in omega arith

  pub over_walk : (es : List (Value × ℤ)) → AllByRecursion P es → over ws (walk_records changes each es) ≤ k * count_by changes es
  over_walk [] all = let none = over-none ws in omega arith
  over_walk (e ∷ es) all =
      let rest = over_walk es all.1 in
      let one = one_few e (changes e) all.0 in
      let parts : over ws (walk_records changes each (e ∷ es)) ≡ over ws (λ w. cond (changes e) (each e w) 0) + over ws (walk_records changes each es) =
      over-same ws (walk_records changes each (e ∷ es)) (λ w. cond (changes e) (each e w) 0 + walk_records changes each es w) (λ w. sum_by-cons (λ (x : Value × ℤ). cond (changes x) (each x w) 0) e es)
      ∙ over-plus ws (λ w. cond (changes e) (each e w) 0) (walk_records changes each es) in
      let count : count_by changes (e ∷ es) ≡ cond (changes e) 1 0 + count_by changes es = sum_by-cons (λ (x : Value × ℤ). cond (changes x) 1 0) e es in
      let product : k * count_by changes (e ∷ es) ≡ k * (cond (changes e) 1 0 + count_by changes es) = ap (λ n. k * n) count in
      let spread : k * (cond (changes e) 1 0 + count_by changes es) ≡ k * cond (changes e) 1 0 + k * count_by changes es = mul-plus k (cond (changes e) 1 0) (count_by changes es) in
      omega (arith, rest, one, parts, product, spread)
    where
      mul-plus : (a b c : ℕ) → a * (b + c) ≡ a * b + a * c
      mul-plus a b c = grind arith

pub all_values : (es : List (Value × ℤ)) → AllByRecursion (λ e. Unit {0}) es
all_values [] = tt
all_values (e ∷ es) = (tt, all_values es)

-- ---- all widths but that of nodes
abbrev others : List ℕ
others = 2 ∷ 4 ∷ 8 ∷ 16 ∷ 32 ∷ 64 ∷ 128 ∷ 256 ∷ 512 ∷ 1024 ∷ []

over-others : (f : ℕ → ℕ) → over others f ≡ record_sum f
over-others f = omega arith

-- of one record that is not wide
cut_few : (f : ℕ → ℕ) → record_sum f ≤ 1 → record_sum (λ w. cond (nat_le w 256) (f w) 0) ≤ 1
cut_few f one = let cut : f 2 + f 4 + f 8 + f 16 + f 32 + f 64 + f 128 + f 256 + 0 + 0 ≤ 1 = omega (arith, one) in cut

new_few : (docs : List (ℕ × ℤ)) (value : Value) → record_sum (new_record docs value) ≤ 1
new_few [] value = cut_few (λ w. cond (nat_eq w (class_of (length (value_words value)))) 1 0) (one_of (class_of (length (value_words value))))
new_few (d ∷ docs) value = omega arith

one_if_few : (t : Bool) (k : ℕ) → record_sum (λ w. cond t (cond (nat_eq w k) 1 0) 0) ≤ 1
one_if_few true k = one_of k
one_if_few false k = omega arith

short_few : (count : ℕ) → record_sum (short_record count) ≤ 1
short_few count = one_if_few (nat_le count 8) (class_of (1 + count))

items_few : (kind : Kind) (count : ℕ) → record_sum (items_record kind count) ≤ 1
items_few kind zero = omega arith
items_few kind (suc count) = one_if_few (has_list kind) (class_of (1 + suc count))

module _ (lists : Value → List (ℕ × ℤ)) (doc : ℕ) (e : Value × ℤ) where
  put_few : over others (put_records lists doc e) ≤ 2
  put_few =
      let sum = over-others (put_records lists doc e) in
      let new = new_few (lists e.0) e.0 in
      let short = short_few (length (insert_entry nat_cmp (lists e.0) doc e.1)) in
      omega (arith, sum, new, short)

  taken_few : over others (taken_records lists doc e) ≤ 1
  taken_few =
      let sum = over-others (taken_records lists doc e) in
      let short = short_few (length (remove_entry (is_at (nat_cmp doc)) (lists e.0))) in
      omega (arith, sum, short)

pub field_sum : (kind : Kind) (column : Column) (doc count : ℕ) (old new : List (Value × ℤ))
    → record_sum (field_records kind column doc count old new) ≤ 2 * new_values old new + 1 + lost_values old new
field_sum kind column doc count old new =
    let lists : Value → List (ℕ × ℤ) = λ value. documents_with value column in
    let added = over_walk others (is_added (entry_weight old)) (put_records lists doc) (λ e. Unit {0}) 2 (λ e is. put_few lists doc e) new (all_values new) in
    let gone = over_walk others (is_gone (entry_weight new)) (taken_records lists doc) (λ e. Unit {0}) 1 (λ e is. taken_few lists doc e) old (all_values old) in
    let first = over-others (added_records lists doc (entry_weight old) new) in
    let last = over-others (gone_records lists doc (entry_weight new) old) in
    let items = items_few kind count in
    omega (arith, added, gone, first, last, items)

-- ---- one width
if_one : (t : Bool) → cond {A = ℕ} t 1 0 ≤ 1
if_one true = omega arith
if_one false = omega arith

if_both : (s t : Bool) → cond {A = ℕ} s (cond t 1 0) 0 ≤ 1
if_both true t = if_one t
if_both false t = omega arith

new_one : (docs : List (ℕ × ℤ)) (value : Value) (w : ℕ) → new_record docs value w ≤ 1
new_one [] value w = if_both (nat_le w 256) (nat_eq w (class_of (length (value_words value))))
new_one (d ∷ docs) value w = omega arith

short_one : (count w : ℕ) → short_record count w ≤ 1
short_one count w = if_both (nat_le count 8) (nat_eq w (class_of (1 + count)))

items_one : (kind : Kind) (count w : ℕ) → items_record kind count w ≤ 1
items_one kind zero w = omega arith
items_one kind (suc count) w = if_both (has_list kind) (nat_eq w (class_of (1 + suc count)))

pub field_one : (kind : Kind) (column : Column) (doc count : ℕ) (old new : List (Value × ℤ)) (w : ℕ)
    → field_records kind column doc count old new w ≤ 2 * new_values old new + 1 + lost_values old new
field_one kind column doc count old new w =
    let lists : Value → List (ℕ × ℤ) = λ value. documents_with value column in
    let added = over_walk (w ∷ []) (is_added (entry_weight old)) (put_records lists doc) (λ e. Unit {0}) 2
    (λ e is. let one = new_one (lists e.0) e.0 w in let short = short_one (length (insert_entry nat_cmp (lists e.0) doc e.1)) w in omega (arith, one, short)) new (all_values new) in
    let gone = over_walk (w ∷ []) (is_gone (entry_weight new)) (taken_records lists doc) (λ e. Unit {0}) 1
    (λ e is. let short = short_one (length (remove_entry (is_at (nat_cmp doc)) (lists e.0))) w in omega (arith, short)) old (all_values old) in
    let items = items_one kind count w in
    omega (arith, added, gone, items)
