-- What one operation, one commit and one step of a compaction add to what was made.
use Rattle.std.proofs.Common.{◌≡◌, ℕ, ℤ, zero, suc, ◌+◌, ◌-◌, ◌*◌, ◌^◌, ◌<◌, ◌≤◌, Bool, true, false, ◌&&◌, cond, nat_eq, nat_cmp, List, [], ◌∷◌, length, Option, Some, None, option_map, refl, sym, ap, subst, ◌∙◌}
use Rattle.std.proofs.Common.{arith, inl, inr, mul_assoc, mul_comm}
use Rattle.std.proofs.Math.Nat.{mul-le-mul_right, pow-le-pow_right}
use Rattle.std.proofs.lemmas.Bool.{cases_lt, eqb-true, eqb-false, true≢false}
use Rattle.std.specs.BTreeMap.{insert_entry, is_at}
use Rattle.std.specs.List.{AllByRecursion}
use Rattle.std.specs.Map.{keys_of, remove_entry}
use Rattle.std.specs.Option.{unwrap_or}
use Rattle.std.proofs.lemmas.Option.{slice_get_within}
use Rattle.std.specs.Prelude.{slice_get}
use Rattle.array_store.specs.Adding.{MakesOneOf}
use Rattle.store_api.specs.Ledgers.{Ledger, is_width}
use Rattle.store_api.specs.Units.{MakesWithin}
use Rattle.attr_field.proofs.SizeLemmas.{documents_few}
use Rattle.attr_field.proofs.WeightLemmas.{weights_typed}
use Rattle.attr_field.specs.Counts.{change_records, entry_weight, lost_values, new_values, StaysLow}
use Rattle.attr_field.specs.Forms.{wants}
use Rattle.attr_field.specs.Items.{items_record}
use Rattle.attr_field.specs.Widths.{IsFieldWidth}
use Rattle.image_format.specs.Words.{class_of}
use Rattle.image_format.specs.declared.TheConstants.{LEAST_DENSE}
use Rattle.index_model.proofs.ColumnLemmas.{operation_changes}
use Rattle.index_model.specs.Changes.{first_weights}
use Rattle.index_model.specs.Columns.{Column, column_of, documents_with, with_change}
use Rattle.attr_loader.proofs.Levels.{levels_there}
use Rattle.attr_loader.proofs.Steps.{counts_rise, keys_long, keys_made, operation_few, operation_long, operation_made, root_long, root_made}
use Rattle.attr_loader.specs.Laws.{HasLevels}
use Rattle.attr_loader.specs.Made as room
use Rattle.attr_loader.specs.Made.{Steps, HasMade, RiseBy, after_keys, after_operation, after_root, both, broad_sum, pairs_of}
use Rattle.attr_loader.specs.Runs.{AreLevels}
use Rattle.attr_operations.proofs.Reading.{column_length}
use Rattle.attr_operations.specs.Widths.{IsOperationWidth}
use Rattle.attr_operations.specs.Counts.{document_after, document_before, document_records, items_if_there, kind_at, low_document, operation_forms, weights_at, MakesOperation}
use Rattle.attr_types.proofs.EntryLemmas.{all-lookup}
use Rattle.attr_types.proofs.TableLemmas.{step_keeps}
use Rattle.attr_types.specs.Lawful.{DocumentHasType, IsLawfulTable, OpFits}
use Rattle.attr_types.specs.Query.{items_in}
use Rattle.attr_types.specs.Table.{Table, after_op, document_at, op_doc, step}
use Rattle.attr_types.specs.Value.{type_of, values_of as item_values, AreOfType, Document}
use Rattle.attr_types.specs.declared.field.Field.{Field}
use Rattle.attr_types.specs.declared.items.Item.{Item}
use Rattle.attr_types.specs.declared.kind.Kind.{Kind}
use Rattle.attr_types.specs.declared.kind.Kind.TheVariants.{Single, Array, WeightedSet}
use Rattle.attr_types.specs.declared.kind.ValueType.{ValueType}
use Rattle.attr_types.specs.declared.kind.ValueType.TheVariants as types
use Rattle.attr_types.specs.declared.op.Op.{Op}
use Rattle.attr_types.specs.declared.value.Value.{Value}
use Rattle.attr_types.specs.declared.value.Value.TheVariants as values
use Rattle.attribute_kinds.proofs.RecordSums.{field_sum, over, over_walk, all_values}
use Rattle.attribute_kinds.proofs.RoomLemmas.{sparse_none}
use Rattle.attribute_kinds.specs.Counts.{operation_values, AreShort, HasNoVectors, IsSparse}
use Rattle.compaction_steps.specs.Counts.{AreSingleLong, MakesKeys}
use Rattle.compaction_moves.specs.Counts.{key_nodes, IsLowColumn}
use Rattle.value_index.proofs.CountLemmas.{within_more}
use Rattle.value_index.specs.Counts.{besides, by_width, is_added, is_gone, new_record, put_records, taken_records}
use Rattle.attr_loader.proofs.ColumnWeights.{index_few, put_length, put_weight, taken_length, taken_weight}
use Rattle.attr_loader.proofs.LongRecords.{broad, change_long, change_off, change_wide, change_widest, items_refused, off_node, short_broad}
use Rattle.attr_loader.specs.Room.{column_weight, is_long, is_single, is_single_long, AreSparse, IsMade, IsRefusedBy}

-- ---- the table after an operation
with_weight : (column : Column) (doc : ℕ) (o : Option Document) → column_weight (with_change column doc (option_map (λ d. items_in d 0) o)) ≤ column_weight column + length (weights_at o 0)
with_weight column doc None = let few = taken_weight (is_at (nat_cmp doc)) column in omega (arith, few)
with_weight column doc (Some d) = put_weight doc (items_in d 0) column

with_length : (column : Column) (doc : ℕ) (o : Option Document) → length (with_change column doc (option_map (λ d. items_in d 0) o)) ≤ length column + 1
with_length column doc None = let few = taken_length (is_at (nat_cmp doc)) column in omega (arith, few)
with_length column doc (Some d) = put_length doc (items_in d 0) column

module _ (fields : List Field) (table : Table) (op : Op) (lawful : IsLawfulTable fields table) where
  weight_by : (o : Option Table) → step fields table op ≡ o
      → column_weight (column_of 0 (unwrap_or o table)) ≤ column_weight (column_of 0 table) + length (weights_at (document_at (unwrap_or o table) (op_doc op)) 0)
  weight_by None is = omega arith
  weight_by (Some next) is =
      let same = ap column_weight (operation_changes fields table next op 0 lawful is) in
      let few = with_weight (column_of 0 table) (op_doc op) (document_at next (op_doc op)) in
      omega (arith, same, few)

  length_by : (o : Option Table) → step fields table op ≡ o → length (column_of 0 (unwrap_or o table)) ≤ length (column_of 0 table) + 1
  length_by None is = omega arith
  length_by (Some next) is =
      let same : length (column_of 0 next) ≡ length (with_change (column_of 0 table) (op_doc op) (option_map (λ d. items_in d 0) (document_at next (op_doc op)))) =
      ap (λ (cl : Column). length cl) (operation_changes fields table next op 0 lawful is) in
      let few = with_length (column_of 0 table) (op_doc op) (document_at next (op_doc op)) in
      omega (arith, same, few)

  weight_after : column_weight (column_of 0 (after_op fields table op)) ≤ column_weight (column_of 0 table) + length (weights_at (document_after fields table op) 0)
  weight_after = weight_by (step fields table op) refl

  length_after : length (column_of 0 (after_op fields table op)) ≤ length (column_of 0 table) + 1
  length_after = length_by (step fields table op) refl

-- ---- levels: the least that pairs allow are no more than others that they are below
least : (pairs h levels : ℕ) → AreLevels pairs h → pairs < 2 * 8 ^ levels → 0 < levels → h ≤ levels
least pairs h levels are below some = elim (cases_lt levels h) [
  | inl over ↦ absurd (
      let low = are.low (omega arith) in
      let more : 8 ^ levels ≤ 8 ^ (h - 1) = pow-le-pow_right (omega arith) (omega arith) in
      omega (arith, low, more, below))
  | inr few ↦ few
]

-- ---- one attribute of kind single with long values
record IsSingleLong (fields : List Field) : Type 0 where
  pub kind : kind_at fields 0 ≡ Single
  pub all : AreSingleLong fields

single_is : (kind : Kind) → is_single kind ≡ true → kind ≡ Single
single_is Single is = refl
single_is Array is = absurd (true≢false (sym is))
single_is WeightedSet is = absurd (true≢false (sym is))

long_is : (type : ValueType) → is_long type ≡ true → type ≡ types.Long
long_is types.Long is = refl
long_is types.Text is = absurd (true≢false (sym is))

two_true : (a b : Bool) → (a && b) ≡ true → (a ≡ true) × (b ≡ true)
two_true true true is = (refl, refl)
two_true true false is = absurd (true≢false (sym is))
two_true false b is = absurd (true≢false (sym is))

single_long : (fields : List Field) → is_single_long fields ≡ true → IsSingleLong fields
single_long [] is = absurd (true≢false (sym is))
single_long (field ∷ []) is =
    let parts = two_true (is_single field.kind) (is_long field.value) is in
    record { kind = single_is field.kind parts.0; all = ((single_is field.kind parts.0, long_is field.value parts.1), tt) }
single_long (field ∷ more ∷ fields) is = absurd (true≢false (sym is))

own_broad : (docs : List (ℕ × ℤ)) (value : Value) → type_of value ≡ types.Long → over broad (new_record docs value) ≡ 0
own_broad [] (values.Long number) is = refl
own_broad [] (values.Text bytes) is = absurd (grind (arith, is))
own_broad (d ∷ docs) value is = refl

items_none : (kind : Kind) (count w : ℕ) → kind ≡ Single → items_record kind count w ≡ 0
items_none kind zero w is = refl
items_none kind (suc count) w is = ap (λ k. items_record k (suc count) w) is

module _ (lists : Value → List (ℕ × ℤ)) (doc : ℕ) (e : Value × ℤ) where
  put_broad : type_of e.0 ≡ types.Long → over broad (put_records lists doc e) ≤ 0
  put_broad is =
      let own = own_broad (lists e.0) e.0 is in
      let short = short_broad (length (insert_entry nat_cmp (lists e.0) doc e.1)) in
      omega (arith, own, short)

  taken_broad : over broad (taken_records lists doc e) ≤ 0
  taken_broad = let short = short_broad (length (remove_entry (is_at (nat_cmp doc)) (lists e.0))) in omega (arith, short)

entries_long : (es : List (Value × ℤ)) → AreOfType types.Long (keys_of es) → AllByRecursion (λ (e : Value × ℤ). type_of e.0 ≡ types.Long) es
entries_long [] typed = tt
entries_long (e ∷ es) typed = (typed.0, entries_long es typed.1)

change_broad : (column : Column) (doc : ℕ) (before after : List Item) (kind : Kind) → kind ≡ Single → AreOfType types.Long (keys_of (first_weights [] after))
    → over broad (change_records kind column doc before after) ≡ 0
change_broad column doc before after kind single typed =
    let lists : Value → List (ℕ × ℤ) = λ value. documents_with value column in
    let old = first_weights [] before in
    let new = first_weights [] after in
    let added = over_walk broad (is_added (entry_weight old)) (put_records lists doc) (λ e. type_of e.0 ≡ types.Long) 0 (λ e is. put_broad lists doc e is) new (entries_long new typed) in
    let gone = over_walk broad (is_gone (entry_weight new)) (taken_records lists doc) (λ e. Unit {0}) 0 (λ e is. taken_broad lists doc e) old (all_values old) in
    let none : (w : ℕ) → items_record kind (length after) w ≡ 0 = λ w. items_none kind (length after) w single in
    let a = none 32 in let b = none 64 in let c = none 128 in let d = none 256 in let e = none 512 in let f = none 1024 in
    omega (arith, added, gone, a, b, c, d, e, f)

-- the items of a document that is there are of the attribute's type
typed_items : (fields : List Field) (document : Option Document) → AreSingleLong fields → length fields ≡ 1 → ((d : Document) → document ≡ Some d → DocumentHasType fields d)
    → AreOfType types.Long (item_values (items_if_there document 0))
typed_items fields None long one typed = tt
typed_items [] (Some d) long one typed = absurd (omega arith)
typed_items (field ∷ fields) (Some []) long one typed = tt
typed_items (field ∷ fields) (Some (items ∷ d)) long one typed =
    subst (λ t. AreOfType t (item_values items)) long.0.1 (typed (items ∷ d) refl).0

-- ---- an operation
module _ {H : Type 0} (dense : Bool) (old new : Ledger H) (fields : List Field) (table : Table) (op : Op) (steps : Steps) (made : IsMade dense old fields table steps) (fits : OpFits fields op)
    (makes : MakesOperation dense old new fields table op) where
  abbrev t : ℕ
  t = operation_values fields table op

  abbrev ob : List (Value × ℤ)
  ob = weights_at (document_before table op) 0

  abbrev ow : List (Value × ℤ)
  ow = weights_at (document_after fields table op) 0

  abbrev records : ℕ → ℕ
  records = document_records fields table (op_doc op) (document_before table op) (document_after fields table op) 1

  few_values : new_values ob ow + lost_values ob ow ≤ t
  few_values = let few = Rattle.std.proofs.lemmas.List.Sums.count_by-le-length (is_added (entry_weight ob)) ow in omega (arith, few)

  there : HasLevels (pairs_of (after_operation steps t))
  there = levels_there (pairs_of (after_operation steps t))

  stays : StaysLow there.levels (column_of 0 table) ow
  stays = record {
    some = there.are.some;
    values = λ index of.
        let few = index_few (column_of 0 table) index of in
        let all = made.values in
        let high = there.are.high in
        omega (arith, few, all, high);
    documents = let few = made.documents in let high = there.are.high in omega (arith, few, high);
  }

  abbrev more : ℕ → ℕ
  more = by_width (low_document there.levels (document_before table op) (document_after fields table op) 1) records

  -- its lists are short before it
  short : (entries : List (Value × ℤ)) → 1 + length (column_of 0 table) < LEAST_DENSE → AreShort (column_of 0 table) entries
  short [] few = tt
  short (e ∷ es) few = (let less = documents_few e.0 (column_of 0 table) in omega (arith, less, few), short es few)

  sparse_here : AreSparse dense (after_operation steps t) → IsSparse dense fields table op
  sparse_here sparse on =
      let below = sparse on in
      let documents = made.documents in
      let few : 1 + length (column_of 0 table) < LEAST_DENSE = omega (arith, below, documents) in
      (short ob few, short ow few)

  abbrev all_low : ℕ → ℕ
  all_low = by_width (low_document there.levels (document_before table op) (document_after fields table op) (length fields))
      (document_records fields table (op_doc op) (document_before table op) (document_after fields table op) (length fields))

  low : AreSparse dense (after_operation steps t) → MakesWithin old new more
  low sparse =
      subst (λ n. MakesWithin old new (by_width (low_document there.levels (document_before table op) (document_after fields table op) n)
      (document_records fields table (op_doc op) (document_before table op) (document_after fields table op) n))) made.one
      (within_more old new (besides all_low (operation_forms dense fields table op)) all_low
      (λ w. let none = sparse_none dense fields table op (sparse_here sparse) made.one w in omega (arith, none))
      (makes.low there.levels (λ field below. first field (omega (arith, below, made.one)))))
    where
      first : (field : ℕ) → field < 1 → StaysLow there.levels (column_of field table) (weights_at (document_after fields table op) field)
      first zero below = stays
      first (suc field) below = absurd (omega arith)

  sum_few : room.record_sum records ≤ 2 * t + 1
  sum_few =
      let sum = field_sum (kind_at fields 0) (column_of 0 table) (op_doc op) (length (items_if_there (document_after fields table op) 0)) ob ow in
      let few = few_values in
      omega (arith, sum, few)

  nodes_few : (levels : ℕ) → 0 < levels → pairs_of (after_operation steps t) < 2 * 8 ^ levels → more 34 ≤ (2 * levels + 1) * (2 * t + 1)
  nodes_few levels some below =
      let few = (operation_few there.levels t (new_values ob ow) (lost_values ob ow) few_values).nodes in
      let up = least (pairs_of (after_operation steps t)) there.levels levels there.are below some in
      let outer : (2 * there.levels + 1) * (2 * t + 1) ≤ (2 * levels + 1) * (2 * t + 1) = mul-le-mul_right (2 * t + 1) (omega (arith, up)) in
      omega (arith, few, outer)

  narrow_none : is_single_long fields ≡ true → broad_sum more ≡ 0
  narrow_none is =
      let single = single_long fields is in
      let sound = step_keeps fields table op fits (made.lawful, made.typed) in
      let typed = typed_items fields (document_after fields table op) single.all made.one
      (λ d found. all-lookup (DocumentHasType fields) (is_at (nat_cmp (op_doc op))) (after_op fields table op) sound.1 d found) in
      let none = change_broad (column_of 0 table) (op_doc op) (items_if_there (document_before table op) 0) (items_if_there (document_after fields table op) 0) (kind_at fields 0) single.kind
      (weights_typed types.Long ow (items_if_there (document_after fields table op) 0) refl typed) in
      omega (arith, none)

  long_few : room.MakesFewLong t more
  long_few =
      let before = items_if_there (document_before table op) 0 in
      let after = items_if_there (document_after fields table op) 0 in
      let long = change_long (column_of 0 table) (op_doc op) before after (kind_at fields 0) in
      let wide = change_wide (column_of 0 table) (op_doc op) before after (kind_at fields 0) in
      let few = few_values in
      record { long = omega (arith, long, few); wide = omega (arith, wide) }

  plain_none : (w : ℕ) → is_width w ≡ false → more w ≡ 0
  plain_none w off = told (nat_eq w 34) (off_node w off)
    where
      told : (b : Bool) → b ≡ false → cond b (low_document there.levels (document_before table op) (document_after fields table op) 1) (records w) ≡ 0
      told true is = absurd (true≢false is)
      told false is =
          let none = change_off w off (column_of 0 table) (op_doc op) (items_if_there (document_before table op) 0) (items_if_there (document_after fields table op) 0) (kind_at fields 0) in
          omega (arith, none)

  plain : (after_operation steps t).keys ≡ 0 → (w : ℕ) → is_width w ≡ false → both made.most more w ≡ 0
  plain none w off = let so_far = made.plain none w off in let here = plain_none w off in omega (arith, so_far, here)

  -- the record of 512 words was refused
  widest_none : (width : ℕ) → width ≡ 512 → IsOperationWidth dense fields table op width → more 1024 ≡ 0
  widest_none width is names =
      let changed = names.is in
      told changed.number changed.field (slice_get_within fields changed.number changed.field changed.field_is) changed.field_is
      (subst (IsFieldWidth (wants dense changed.field.kind) changed.field.kind (column_of changed.number (after_op fields table op)) (items_if_there (document_before table op) changed.number)
      (items_if_there (document_after fields table op) changed.number)) is changed.is)
    where
      told : (number : ℕ) (field : Field) → number < length fields → slice_get fields number ≡ Some field
          → IsFieldWidth (wants dense field.kind) field.kind (column_of number (after_op fields table op)) (items_if_there (document_before table op) number) (items_if_there (document_after fields table op) number) 512
          → more 1024 ≡ 0
      told zero field below found is =
          let kind : kind_at fields 0 ≡ field.kind = ap (λ o. unwrap_or (option_map (λ f. f.kind) o) Single) found in
          let none = items_refused (wants dense field.kind) field.kind (column_of 0 (after_op fields table op)) (items_if_there (document_before table op) 0) (items_if_there (document_after fields table op) 0) is in
          let widest = change_widest (column_of 0 table) (op_doc op) (items_if_there (document_before table op) 0) (items_if_there (document_after fields table op) 0) (kind_at fields 0)
          (ap (λ k. items_record k (length (items_if_there (document_after fields table op) 0)) 1024) kind ∙ none) in
          omega (arith, widest)
      told (suc number) field below found is = absurd (let one = made.one in omega (arith, one, below))

  has : HasMade (is_single_long fields) (after_operation steps t) (both made.most more)
  has = operation_made (is_single_long fields) steps t made.most more made.has (record { nodes = nodes_few; records = sum_few; narrow = narrow_none })

  within : AreSparse dense (after_operation steps t) → room.IsWithin (both made.most more) (λ width. (new.of_width width).made) (λ width. (new.of_width width).buffers)
  within sparse =
      counts_rise made.most more (λ width. (old.of_width width).made) (λ width. (new.of_width width).made) (λ width. (old.of_width width).buffers) (λ width. (new.of_width width).buffers)
      (made.within (λ on. let below = sparse on in omega (arith, below)))
      (record { made_few = λ w. ((low sparse).each w).made; buffers_few = λ w. ((low sparse).each w).buffers })

  -- it was applied
  pub made_after : IsMade dense new fields (after_op fields table op) (after_operation steps t)
  made_after =
      let sound = step_keeps fields table op fits (made.lawful, made.typed) in
      record {
        one = made.one;
        most = both made.most more;
        has = has;
        long = operation_long steps t made.most more made.long long_few;
        plain = plain;
        within = within;
        lawful = sound.0;
        typed = sound.1;
        values = let few = weight_after fields table op made.lawful in let all = made.values in omega (arith, few, all);
        documents = let few = length_after fields table op made.lawful in let all = made.documents in omega (arith, few, all);
      }

  -- it was refused
  pub made_refused : (width : ℕ) → IsOperationWidth dense fields table op width → IsRefusedBy dense new fields table (after_operation steps t) width
  made_refused width names = record {
    made = record {
      one = made.one;
      most = both made.most more;
      has = has;
      long = operation_long steps t made.most more made.long long_few;
      plain = plain;
      within = within;
      lawful = made.lawful;
      typed = made.typed;
      values = let all = made.values in omega (arith, all);
      documents = let all = made.documents in omega (arith, all);
    };
    apart = λ is. (let before = made.long.wide in let none = widest_none width is names in omega (arith, before, none));
  }

-- ---- a commit
pub made_root : {H : Type 0} (dense : Bool) (old new : Ledger H) (fields : List Field) (table : Table) (steps : Steps) → IsMade dense old fields table steps
    → MakesOneOf (class_of (1 + 2 * length fields)) old new → IsMade dense new fields table (after_root steps)
made_root dense old new fields table steps made makes =
    let here : MakesOneOf 4 old new = subst (λ n. MakesOneOf (class_of (1 + 2 * n)) old new) made.one makes in
    let more : ℕ → ℕ = λ w. cond (nat_eq w 4) 1 0 in
    let rise : RiseBy more (λ width. (old.of_width width).made) (λ width. (new.of_width width).made) (λ width. (old.of_width width).buffers) (λ width. (new.of_width width).buffers)
    = record { made_few = λ w. (by_root old new here w (nat_eq w 4) refl).0; buffers_few = λ w. (by_root old new here w (nat_eq w 4) refl).1 } in
    record {
      one = made.one;
      most = both made.most more;
      has = root_made (is_single_long fields) steps made.most more made.has (record { nodes = refl; root = omega arith; others = refl });
      long = root_long steps made.most more made.long (record { nodes = refl; root = omega arith; others = refl });
      plain = λ none w off. (let so_far = made.plain none w off in let here = root_none w off (nat_eq w 4) refl in omega (arith, so_far, here));
      within = λ sparse. counts_rise made.most more (λ width. (old.of_width width).made) (λ width. (new.of_width width).made) (λ width. (old.of_width width).buffers) (λ width. (new.of_width width).buffers)
          (made.within sparse) rise;
      lawful = made.lawful;
      typed = made.typed;
      values = made.values;
      documents = made.documents;
    }
  where
    root_none : (w : ℕ) → is_width w ≡ false → (t : Bool) → nat_eq w 4 ≡ t → cond {A = ℕ} t 1 0 ≡ 0
    root_none w off true is = absurd (let same : true ≡ is_width w = ap is_width (sym (eqb-true w 4 is)) in true≢false (same ∙ off))
    root_none w off false is = refl

    by_root : {H : Type 0} (old new : Ledger H) → MakesOneOf 4 old new → (w : ℕ) (t : Bool) → nat_eq w 4 ≡ t
        → ((new.of_width w).made ≤ (old.of_width w).made + cond t 1 0) × ((new.of_width w).buffers ≤ (old.of_width w).buffers + cond t 1 0)
    by_root old new here w true is =
        subst (λ v. ((new.of_width v).made ≤ (old.of_width v).made + 1) × ((new.of_width v).buffers ≤ (old.of_width v).buffers + 1)) (sym (eqb-true w 4 is)) (here.one.made, here.one.buffers)
    by_root old new here w false is =
        let none = here.others 0 w (eqb-false w 4 is) in
        (none.made, none.buffers)

-- ---- keys of a compaction
twice : (a k : ℕ) → 2 * a * k ≡ a * (2 * k)
twice a k = ap (λ x. x * k) (mul_comm 2 a) ∙ mul_assoc a 2 k

keys_plain : {H : Type 0} (dense : Bool) (old new : Ledger H) (fields : List Field) (table : Table) (steps : Steps) (keys : ℕ) → 0 < keys → IsMade dense old fields table steps
    → HasNoVectors dense table → MakesKeys (HasNoVectors dense table) fields table old new keys → IsMade dense new fields table (after_keys steps keys)
keys_plain dense old new fields table steps keys some_keys made plain makes =
    let there = levels_there (pairs_of steps) in
    let low_column : IsLowColumn there.levels (column_of 0 table) = record {
      some = there.are.some;
      values = λ index of. (let few = index_few (column_of 0 table) index of in let all = made.values in let high = there.are.high in omega (arith, few, all, high));
      documents = (let few = made.documents in let high = there.are.high in omega (arith, few, high));
    } in
    let low = makes.low plain there.levels (λ field below. first there.levels field low_column (omega (arith, below, made.one))) in
    let more = by_width (key_nodes there.levels * keys) makes.records in
    let keyed : room.MakesKeys (is_single_long fields) (pairs_of steps) keys more = record {
      nodes = λ levels some below.
          let up = least (pairs_of steps) there.levels levels there.are below some in
          let inner : key_nodes there.levels * keys ≤ 2 * (2 * levels + 1) * keys = mul-le-mul_right keys (omega (arith, up)) in
          let same = twice (2 * levels + 1) keys in
          omega (arith, inner, same);
      records = let few = makes.few in omega (arith, few);
      narrow = λ is.
          let none = makes.narrow plain (single_long fields is).all in
          let a = none 32 (omega arith) in let b = none 64 (omega arith) in let c = none 128 (omega arith) in
          let d = none 256 (omega arith) in let e = none 512 (omega arith) in let f = none 1024 (omega arith) in
          omega (arith, a, b, c, d, e, f);
    } in
    record {
      one = made.one;
      most = both made.most more;
      has = keys_made (is_single_long fields) steps keys made.most more made.has keyed;
      long = keys_long (is_single_long fields) steps keys made.most more made.long keyed;
      plain = λ none. absurd (omega (arith, none, some_keys));
      within = λ sparse. counts_rise made.most more (λ width. (old.of_width width).made) (λ width. (new.of_width width).made) (λ width. (old.of_width width).buffers) (λ width. (new.of_width width).buffers)
          (made.within sparse) (record { made_few = low.made; buffers_few = low.buffers });
      lawful = made.lawful;
      typed = made.typed;
      values = made.values;
      documents = made.documents;
    }
  where
    first : (levels field : ℕ) → IsLowColumn levels (column_of 0 table) → field < 1 → IsLowColumn levels (column_of field table)
    first levels zero low below = low
    first levels (suc field) low below = absurd (omega arith)

-- with more documents nothing is promised of a store with bit vectors
keys_many : {H : Type 0} (dense : Bool) (old new : Ledger H) (fields : List Field) (table : Table) (steps : Steps) (keys : ℕ) → 0 < keys → IsMade dense old fields table steps
    → dense ≡ true → LEAST_DENSE ≤ length table → IsMade dense new fields table (after_keys steps keys)
keys_many dense old new fields table steps keys some_keys made on many =
    let more : ℕ → ℕ = λ width. 0 in
    let keyed : room.MakesKeys (is_single_long fields) (pairs_of steps) keys more = record {
      nodes = λ levels some below. omega arith;
      records = omega arith;
      narrow = λ is. omega arith;
    } in
    record {
      one = made.one;
      most = both made.most more;
      has = keys_made (is_single_long fields) steps keys made.most more made.has keyed;
      long = keys_long (is_single_long fields) steps keys made.most more made.long keyed;
      plain = λ none. absurd (omega (arith, none, some_keys));
      within = λ sparse. absurd (let below = sparse on in let few = made.documents in let size = column_length 0 table in omega (arith, below, few, size, many));
      lawful = made.lawful;
      typed = made.typed;
      values = made.values;
      documents = made.documents;
    }

pub made_keys : {H : Type 0} (dense : Bool) (old new : Ledger H) (fields : List Field) (table : Table) (steps : Steps) (keys : ℕ) → 0 < keys → IsMade dense old fields table steps
    → MakesKeys (HasNoVectors dense table) fields table old new keys → IsMade dense new fields table (after_keys steps keys)
made_keys false old new fields table steps keys some_keys made makes =
    keys_plain false old new fields table steps keys some_keys made (λ on. absurd (true≢false (sym on))) makes
made_keys true old new fields table steps keys some_keys made makes = elim (cases_lt (length table) LEAST_DENSE) [
  | inl few ↦ keys_plain true old new fields table steps keys some_keys made (λ on. few) makes
  | inr many ↦ keys_many true old new fields table steps keys some_keys made refl many
]
