-- What an operation makes, and what a store that refused it had.
use Rattle.std.proofs.Common.{◌≡◌, ℕ, ℤ, suc, ◌+◌, ◌*◌, ◌<◌, ◌≤◌, Bool, true, false, true≢false, cond, nat_eq, List, [], ◌∷◌, length, Option, Some, None, refl, sym, ap, subst, arith, inl, inr, suc-mul}
use Rattle.std.proofs.Math.Nat.{mul-le-mul_right}
use Rattle.std.proofs.lemmas.Bool.{cases_lt}
use Rattle.std.proofs.lemmas.List.Sums.{count_by-le-length, sum_by-cons}
use Rattle.std.proofs.lemmas.Nat.{le-div}
use Rattle.std.specs.BTreeMap.{insert_entry, is_at}
use Rattle.std.specs.List.{AllByRecursion}
use Rattle.std.specs.Map.{remove_entry}
use Rattle.std.specs.Ordering.{nat_cmp}
use Rattle.std.specs.Option.{IfSome}
use Rattle.arena_api.specs.Works.{free_count}
use Rattle.store_api.specs.Ledgers.{Ledger, OfWidth, buffers_in, capacity, widths}
use Rattle.store_api.specs.Units.{MakesAtMost, MakesWithin}
use Rattle.store_api.specs.declared.store.StoreError.{StoreError}
use Rattle.store_api.specs.declared.store.StoreError.TheVariants.{Full, Memory}
use Rattle.attr_field.specs.Counts.{change_records, field_forms, lost_values, new_values, entry_weight}
use Rattle.attr_field.specs.Forms.{wants}
use Rattle.index_model.specs.Changes.{first_weights}
use Rattle.index_model.specs.Columns.{Column, column_of, documents_with}
use Rattle.attr_types.proofs.TableLemmas.{Sound, step_keeps}
use Rattle.attr_types.specs.Lawful.{IsLawfulDocument, IsLawfulItems, OpFits}
use Rattle.attr_types.specs.Table.{Table, after_op, op_doc}
use Rattle.attr_types.specs.Value.{Document}
use Rattle.attr_types.specs.declared.field.Field.{Field}
use Rattle.attr_types.specs.declared.kind.Kind.{Kind}
use Rattle.attr_types.specs.declared.kind.Kind.TheVariants as kinds
use Rattle.attr_types.specs.declared.items.Item.{Item}
use Rattle.attr_types.specs.declared.op.Op.{Op}
use Rattle.attr_types.specs.declared.value.Value.{Value}
use Rattle.value_index.proofs.CountLemmas.{within_more}
use Rattle.value_index.proofs.FormCounts.{no_forms}
use Rattle.value_index.specs.Counts.{besides, by_width, is_added, is_gone, put_forms, record_sum, taken_forms, walk_records}
use Rattle.attribute_kinds.proofs.RecordSums.{field_one, field_sum}
use Rattle.attr_operations.specs.Calls.{KeepsStore, RefusesUnit}
use Rattle.attr_operations.specs.Counts.{document_after, document_before, document_forms, document_nodes, document_records, items_if_there, kind_at}
use Rattle.attr_operations.specs.Counts.{operation_forms, operation_nodes, operation_records, weights_at}
use Rattle.attribute_kinds.specs.Counts.{operation_values}
use Rattle.attr_operations.specs.Counts.{MakesOperation, SparesOperation}
use Rattle.attr_operations.specs.Widths.{IsFullAmong, IsOperationWidth}
use Rattle.attribute_kinds.specs.Counts.{AreShort, IsOneSingle, IsSparse, LacksBuffers, NamesWidth, SparesOf}
use Rattle.attribute_kinds.specs.Refusals.{refusal_of_store}
use Rattle.attr_operations.proofs.StepLemmas.{found_lawful}

-- ---- what is to spare
values_few : (old new : List (Value × ℤ)) → new_values old new ≤ length new
values_few old new = count_by-le-length (is_added (entry_weight old)) new

lost_few : (old new : List (Value × ℤ)) → lost_values old new ≤ length old
lost_few old new = count_by-le-length (is_gone (entry_weight new)) old

width_few : (t : Bool) (spare records new kept gone : ℕ) → spare ≤ cond t (0 + (34 * new + 17 + 34 * gone)) (0 + records) → records ≤ 2 * new + 1 + gone → new ≤ kept
    → spare < 34 * (kept + gone + 1)
width_few true spare records new kept gone most sum few = omega arith
width_few false spare records new kept gone most sum few = omega arith

-- ---- sparse lists need nothing besides
wanted : (dense : Bool) (kind : Kind) → wants dense kind ≡ true → dense ≡ true
wanted dense kinds.Single is = is
wanted dense kinds.Array is = is
wanted dense kinds.WeightedSet is = absurd (true≢false (sym is))

walk_none : (test : Value × ℤ → Bool) (f : Value × ℤ → ℕ → ℕ) (w : ℕ) (entries : List (Value × ℤ)) → AllByRecursion (λ e. f e w ≡ 0) entries → walk_records test f entries w ≡ 0
walk_none test f w [] none = refl
walk_none test f w (e ∷ es) none =
    let rest = walk_none test f w es none.1 in
    let all = sum_by-cons (λ (x : Value × ℤ). cond (test x) (f x w) 0) e es in
    let here : cond (test e) (f e w) 0 ≡ 0 = told (test e) in
    omega (arith, rest, all, here)
  where
    told : (t : Bool) → cond t (f e w) 0 ≡ 0
    told true = none.0
    told false = refl

module _ (dense : Bool) (kind : Kind) (column : Column) (doc w : ℕ) where
  abbrev lists : Value → List (ℕ × ℤ)
  lists value = documents_with value column

  put_none : (entries : List (Value × ℤ)) → (dense ≡ true → AreShort column entries) → AllByRecursion (λ e. put_forms (wants dense kind) lists doc e w ≡ 0) entries
  put_none [] short = tt
  put_none (e ∷ es) short = (
    no_forms (wants dense kind) (lists e.0) (insert_entry nat_cmp (lists e.0) doc e.1) w (λ is. (short (wanted dense kind is)).0),
    put_none es (λ is. (short is).1),
  )

  taken_none : (entries : List (Value × ℤ)) → (dense ≡ true → AreShort column entries) → AllByRecursion (λ e. taken_forms (wants dense kind) lists doc e w ≡ 0) entries
  taken_none [] short = tt
  taken_none (e ∷ es) short = (
    no_forms (wants dense kind) (lists e.0) (remove_entry (is_at (nat_cmp doc)) (lists e.0)) w (λ is. (short (wanted dense kind is)).0),
    taken_none es (λ is. (short is).1),
  )

  field_none : (old new : List (Value × ℤ)) → (dense ≡ true → AreShort column old × AreShort column new) → field_forms (wants dense kind) column doc old new w ≡ 0
  field_none old new short =
      let added = walk_none (is_added (entry_weight old)) (put_forms (wants dense kind) lists doc) w new (put_none new (λ is. (short is).1)) in
      let gone = walk_none (is_gone (entry_weight new)) (taken_forms (wants dense kind) lists doc) w old (taken_none old (λ is. (short is).0)) in
      omega (arith, added, gone)

-- the first attribute alone
pub sparse_none : (dense : Bool) (fields : List Field) (table : Table) (op : Op) → IsSparse dense fields table op → length fields ≡ 1 → (w : ℕ) → operation_forms dense fields table op w ≡ 0
sparse_none dense fields table op sparse one w =
    let before = document_before table op in
    let after = document_after fields table op in
    let none = field_none dense (kind_at fields 0) (column_of 0 table) (op_doc op) w (weights_at before 0) (weights_at after 0) sparse in
    let first : document_forms dense fields table (op_doc op) before after 1 w ≡ 0 = omega (arith, none) in
    subst (λ n. document_forms dense fields table (op_doc op) before after n w ≡ 0) (sym one) first

spares_one : (fields : List Field) (table : Table) (op : Op) (spare width : ℕ) → spare ≤ by_width (operation_nodes fields table op) (operation_records fields table op) width
    → length fields ≡ 1 → spare < 34 * (operation_values fields table op + 1)
spares_one fields table op spare width few one =
    let before = document_before table op in
    let after = document_after fields table op in
    let old = weights_at before 0 in
    let new = weights_at after 0 in
    let records = change_records (kind_at fields 0) (column_of 0 table) (op_doc op) (items_if_there before 0) (items_if_there after 0) in
    width_few (nat_eq width 34) spare (records width) (new_values old new) (length new) (lost_values old new)
    (subst (λ n. spare ≤ by_width (document_nodes before after n) (document_records fields table (op_doc op) before after n) width) one few)
    (field_one (kind_at fields 0) (column_of 0 table) (op_doc op) (length (items_if_there after 0)) old new width) (values_few old new)

pub spares_operation : {H : Type 0} (dense : Bool) (now : Ledger H) (fields : List Field) (table : Table) (op : Op) (e : StoreError) → SparesOperation dense now fields table op e
    → SparesOf dense now fields table op (refusal_of_store e)
spares_operation dense now fields table op (Full width active held oldest) few = record {
  few = few;
  one = λ sparse one. spares_one fields table op ((now.of_width width).spare) width (let none = sparse_none dense fields table op sparse one width in omega (arith, few, none)) one;
}
spares_operation dense now fields table op Memory few = tt

-- of which width it was refused
pub names_width : (dense : Bool) (fields : List Field) (table : Table) (op : Op) (e : StoreError) → IsFullAmong (IsOperationWidth dense fields table op) e
    → NamesWidth dense fields table op (refusal_of_store e)
names_width dense fields table op (Full width active held oldest) full = full
names_width dense fields table op Memory full = tt

-- ---- one attribute of kind single
single_items : (fields : List Field) (document : Option Document) → IsOneSingle fields → IfSome document (IsLawfulDocument fields) → length (items_if_there document 0) ≤ 1
single_items [] None single lawful = absurd single
single_items [] (Some d) single lawful = absurd single
single_items (field ∷ []) None single lawful = omega arith
single_items (field ∷ []) (Some []) single lawful = absurd lawful
single_items (field ∷ []) (Some (items ∷ d)) single lawful = (subst (λ kind. IsLawfulItems kind items) single lawful.0).0
single_items (field ∷ next ∷ fields) None single lawful = absurd single
single_items (field ∷ next ∷ fields) (Some d) single lawful = absurd single

single_one : (fields : List Field) → IsOneSingle fields → length fields ≡ 1
single_one [] single = absurd single
single_one (field ∷ []) single = refl
single_one (field ∷ next ∷ fields) single = absurd single

single_weights : (items : List Item) → length items ≤ 1 → length (first_weights [] items) ≤ 1
single_weights [] few = omega arith
single_weights (item ∷ []) few = omega arith
single_weights (item ∷ next ∷ items) few = absurd (omega arith)

module _ (fields : List Field) (table : Table) (op : Op) (sound : Sound fields table) (fits : OpFits fields op) (single : IsOneSingle fields) where
  weights_few : (document : Option Document) → IfSome document (IsLawfulDocument fields) → length (weights_at document 0) ≤ 1
  weights_few document lawful = single_weights (items_if_there document 0) (single_items fields document single lawful)

  before_few : length (weights_at (document_before table op) 0) ≤ 1
  before_few = weights_few (document_before table op) (found_lawful fields table (op_doc op) (document_before table op) sound refl)

  after_few : length (weights_at (document_after fields table op) 0) ≤ 1
  after_few = weights_few (document_after fields table op) (found_lawful fields (after_op fields table op) (op_doc op) (document_after fields table op) (step_keeps fields table op fits sound) refl)

  single_few : (operation_nodes fields table op ≤ 85) × (record_sum (operation_records fields table op) ≤ 4)
  single_few =
      let before = document_before table op in
      let after = document_after fields table op in
      let old = weights_at before 0 in
      let new = weights_at after 0 in
      let values = values_few old new in
      let lost = lost_few old new in
      let was = before_few in
      let is = after_few in
      let nodes : document_nodes before after 1 ≤ 85 = omega (arith, values, lost, was, is) in
      let sum = field_sum (kind_at fields 0) (column_of 0 table) (op_doc op) (length (items_if_there after 0)) old new in
      let records : record_sum (document_records fields table (op_doc op) before after 1) ≤ 4 = omega (arith, sum, values, lost, was, is) in (
        subst (λ n. document_nodes before after n ≤ 85) (sym (single_one fields single)) nodes,
        subst (λ n. record_sum (document_records fields table (op_doc op) before after n) ≤ 4) (sym (single_one fields single)) records,
      )

-- ---- buffers: where fewer entries are made than fit one, at most one is handed out
one_buffer : (room most : ℕ) (a b : OfWidth) → MakesAtMost room most a b → most < room → b.buffers ≤ a.buffers + 1
one_buffer room most a b made few = elim (cases_lt (a.buffers + 1) b.buffers) [
  | inl over ↦ absurd (
      let more : suc (suc a.buffers) * room ≤ b.buffers * room = mul-le-mul_right room (omega arith) in
      let first = suc-mul (suc a.buffers) room in
      let second = suc-mul a.buffers room in
      let space = made.room in
      omega (arith, more, first, second, space, few))
  | inr low ↦ low
]

few_buffers : {H : Type 0} (old new : Ledger H) (nodes : ℕ) (records : ℕ → ℕ) → MakesWithin old new (by_width nodes records) → nodes < capacity old.work.sizes.words 34
    → buffers_in new.of_width widths ≤ buffers_in old.of_width widths + record_sum records + 1
few_buffers old new nodes records made low =
    let each = made.each in
    let node = one_buffer (capacity old.work.sizes.words 34) nodes (old.of_width 34) (new.of_width 34) (each 34) low in
    omega (
      arith,
      node,
      (each 2).buffers,
      (each 4).buffers,
      (each 8).buffers,
      (each 16).buffers,
      (each 32).buffers,
      (each 64).buffers,
      (each 128).buffers,
      (each 256).buffers,
      (each 512).buffers,
      (each 1024).buffers,
    )

many_nodes : (words : ℕ) → 8192 ≤ words → 85 < capacity words 34
many_nodes words some = let many = le-div 240 words 34 (omega arith) (omega arith) in omega arith

-- where lists are sparse, an operation makes what it makes without bit vectors
pub sparse_made : {H : Type 0} (dense : Bool) (old new : Ledger H) (fields : List Field) (table : Table) (op : Op) → IsSparse dense fields table op → length fields ≡ 1
    → MakesOperation dense old new fields table op → MakesWithin old new (by_width (operation_nodes fields table op) (operation_records fields table op))
sparse_made dense old new fields table op sparse one made =
    let most = by_width (operation_nodes fields table op) (operation_records fields table op) in
    within_more old new (besides most (operation_forms dense fields table op)) most (λ w. let none = sparse_none dense fields table op sparse one w in omega (arith, none)) made.few

pub lacks_buffers : {H : Type 0} (dense : Bool) (old new : Ledger H) (fields : List Field) (table : Table) (op : Op) (e : StoreError) → Sound fields table → OpFits fields op
    → free_count old.work.buffer old.work.sizes.buffers + buffers_in old.of_width widths ≡ old.work.sizes.buffers
    → free_count new.work.buffer new.work.sizes.buffers + buffers_in new.of_width widths ≡ new.work.sizes.buffers
    → 8192 ≤ old.work.sizes.words → KeepsStore old new → RefusesUnit old new e → MakesOperation dense old new fields table op
    → LacksBuffers dense old fields table op (refusal_of_store e)
lacks_buffers dense old new fields table op (Full width active held oldest) sound fits before after words keeps room made = λ sparse single.
    let few = single_few fields table op sound fits single in
    let many = many_nodes old.work.sizes.words words in
    let more = few_buffers old new (operation_nodes fields table op) (operation_records fields table op) (sparse_made dense old new fields table op sparse (single_one fields single) made)
    (let nodes = few.0 in omega arith) in
    let sizes : new.work.sizes.buffers ≡ old.work.sizes.buffers = ap (λ s. s.buffers) keeps.sizes in
    omega (arith, few.1, more, before, after, room.free, sizes)
lacks_buffers dense old new fields table op Memory sound fits before after words keeps room made = tt
