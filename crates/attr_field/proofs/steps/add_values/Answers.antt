use Rattle.std.proofs.Common.{◌≡◌, ◌*◌, ℤ, pos, List, [], ◌∷◌, length, not, false, true, Option, None, Some, nat_cmp, refl, sym, ap, subst, ◌∙◌, arith}
use Rattle.std.specs.BTreeMap.{insert_entry, is_at}
use Rattle.std.specs.List.{AllByRecursion}
use Rattle.std.specs.Option.{option_copied}
use Rattle.posting_store.proofs.RefusalLemmas.{if_more, of_more}
use Rattle.posting_store.specs.Lists.{AreOnes}
use Rattle.store_api.proofs.May.{may_do-same}
use Rattle.image_format.specs.Documents.{column_at}
use Rattle.image_format.specs.Postings.{index_of}
use Rattle.index_model.specs.Changes.{first_weights, is_weight, IsBetween}
use Rattle.index_model.specs.Index.{list_of, with_posting}
use Rattle.attr_types.specs.Lawful.{HaveWeightOne}
use Rattle.attr_types.specs.Value.{type_of, value_cmp, values_of, AreOfType}
use Rattle.attr_types.specs.declared.items.Item.{Item}
use Rattle.attr_types.specs.declared.kind.ValueType.{ValueType}
use Rattle.attr_types.specs.declared.value.Value.{Value}
use Rattle.value_index.proofs.CountLemmas.{within_none}
use Rattle.value_index.proofs.FormLemmas.{between_ones, entry_one}
use Rattle.value_index.proofs.LevelLemmas.{dictionary_low, list_low}
use Rattle.value_index.proofs.WalksCountLemmas.{few_added, low_added}
use Rattle.value_index.specs.Changes.{IsChangeWidth, MakesIndex}
use Rattle.value_index.specs.Counts.{added_count, added_forms, added_records, besides, by_width, is_added, put_forms, put_records, value_nodes, AddsLow, IsLow}
use Rattle.value_index.specs.Forms.{IsOfForm, IsPlainIndex, WeighOnes}
use Rattle.value_index.specs.Indexes.{key_at, IsIndex}
use Rattle.value_index.specs.Walks.{WalksIndex}
use Rattle.value_index.specs.Widths.{IsWalkWidth}
use Rattle.value_index.specs.declared.adding.Added.{Added}
use Rattle.attr_field.specs.Counts.{item_weights}
use Rattle.attr_field.specs.Steps.{AreWeights, FindsBy, FindsItemKey, IsMadeBy, StepsField}
use Rattle.attr_field.proofs.RefLemmas.{owns_index, if_ok}
use Rattle.attr_field.proofs.SearchLemmas.{finds_key}
use Rattle.attr_field.proofs.SingleLemmas.{add_none, add_one, add_width, both_ok, counts_one, entry_none, entry_only, first_none, first_only}
use Rattle.attr_field.proofs.StepLemmas.{added_listed, index_steps}
use Rattle.std.proofs.lemmas.Result.{err_from_is_err_and}
use Rattle.attr_field.proofs.ChangeLemmas.{weights}
use Rattle.attr_field.proofs.WeightLemmas.{counts_given_added, items_listed, weights_are, weights_typed}
use Rattle.attr_field.proofs.steps.add_values.Goals as goal

pub add_with_key-requires : goal.add_with_key-requires
add_with_key-requires g c =
    let a = g.S.Store.ledger c.args.store.now in
    let m = g.S.Frozen.records c.args.store.now in
    let type = c.args.value_type in
    let root = c.args.dictionary in
    let item = c.in-Some-first.item.now in
    let single = subst (IsMadeBy c.args.old.now c.args.new.now) c.in-None.is c.requires.how in
    let only = first_only c.args.new.now item (sym c.first.ensures.value ∙ ap option_copied c.in-Some-first.is) single.has in
    let typed : type_of item.value ≡ type = (subst (λ (xs : List Item). AreOfType type (values_of xs)) only c.requires.typed).0 in (
      omega arith,
      (
        omega arith,
        (
          c.requires.unit,
          (
            subst (λ (t : ValueType). IsIndex t m root) (sym typed) c.requires.stands.index_is,
            (
              owns_index a m c.args.kind c.args.documents root c.requires.stands.owns,
              (
                c.requires.form.plain,
                (
                  λ wanted. subst (λ (t : ValueType). AreOnes (list_of item.value (index_of t m root))) (sym typed) (c.requires.form.ones wanted item.value),
                  λ wanted. refl,
                ),
              ),
            ),
          ),
        ),
      ),
    )

pub from_raw-nothing-requires : goal.from_raw-nothing-requires
from_raw-nothing-requires g c = omega arith

pub returns-in-Some-first-clause-steps : goal.returns-in-Some-first-clause-steps
returns-in-Some-first-clause-steps g c =
    let a = g.S.Store.ledger c.args.store.now in
    let b = g.S.Store.ledger c.add_with_key.new.store in
    let m = g.S.Frozen.records c.args.store.now in
    let type = c.args.value_type in
    let root = c.args.dictionary in
    let doc = c.args.doc in
    let item = c.in-Some-first.item.now in
    let value = item.value in
    let single = subst (IsMadeBy c.args.old.now c.args.new.now) c.in-None.is c.requires.how in
    let only = first_only c.args.new.now item (sym c.first.ensures.value ∙ ap option_copied c.in-Some-first.is) single.has in
    let typed : type_of value ≡ type = (subst (λ (xs : List Item). AreOfType type (values_of xs)) only c.requires.typed).0 in
    let entries = first_weights [] c.args.new.now in
    let is : entries ≡ (value, pos 1) ∷ [] = entry_only c.args.new.now item only ∙ ap (λ (w : ℤ). (value, w) ∷ []) (subst HaveWeightOne only single.ones).0 in
    let n = g.S.Frozen.records c.add_with_key.new.store in
    let kind = c.args.kind in
    let documents = c.args.documents in
    let formed = (c.index_law.ensures.lawful type m root c.requires.stands.index_is).formed in
    let walks = if_ok (λ (x : Added g.row.OFFSET_BITS). MakesIndex (type_of value) a b m n root (with_posting value doc (pos 1) (index_of (type_of value) m root)) x.root)
    (λ (x : Added g.row.OFFSET_BITS). WalksIndex type a b m n root doc (item_weights c.args.new.now) (λ v. None) x.root) c.add_with_key.result c.add_with_key.ensures.makes
    (λ x makes. add_one type a m root doc entries c.requires.unit c.requires.stands.index_is formed (owns_index a m kind documents root c.requires.stands.owns) value (pos 1) is
    c.key_law.ensures.read b n x.root c.add_with_key.ensures.may
    (subst (λ (t : ValueType). MakesIndex t a b m n root (with_posting value doc (pos 1) (index_of t m root)) x.root) typed makes)) in
    let added = item_weights c.args.new.now in
    if_ok (λ (x : Added g.row.OFFSET_BITS). WalksIndex type a b m n root doc added (λ v. None) x.root)
    (λ (x : Added g.row.OFFSET_BITS). StepsField kind type a b m n documents root (column_at kind type m documents) documents x.root) c.add_with_key.result walks
    (λ x walk. index_steps c.documents_law.ensures.stays kind type a b m n documents root x.root c.requires.stands walk.index_is walk.keys walk.flows walk.turns
    (added_listed c.documents_law.ensures.values kind type m documents root doc added (index_of type n x.root) c.requires.indexed walk.between))

pub returns-in-Some-first-clause-form : goal.returns-in-Some-first-clause-form
returns-in-Some-first-clause-form g c =
    let a = g.S.Store.ledger c.args.store.now in
    let b = g.S.Store.ledger c.add_with_key.new.store in
    let m = g.S.Frozen.records c.args.store.now in
    let type = c.args.value_type in
    let root = c.args.dictionary in
    let doc = c.args.doc in
    let item = c.in-Some-first.item.now in
    let value = item.value in
    let single = subst (IsMadeBy c.args.old.now c.args.new.now) c.in-None.is c.requires.how in
    let only = first_only c.args.new.now item (sym c.first.ensures.value ∙ ap option_copied c.in-Some-first.is) single.has in
    let typed : type_of value ≡ type = (subst (λ (xs : List Item). AreOfType type (values_of xs)) only c.requires.typed).0 in
    let entries = first_weights [] c.args.new.now in
    let is : entries ≡ (value, pos 1) ∷ [] = entry_only c.args.new.now item only ∙ ap (λ (w : ℤ). (value, w) ∷ []) (subst HaveWeightOne only single.ones).0 in
    let n = g.S.Frozen.records c.add_with_key.new.store in
    let kind = c.args.kind in
    let documents = c.args.documents in
    let formed = (c.index_law.ensures.lawful type m root c.requires.stands.index_is).formed in
    let walks = if_ok (λ (x : Added g.row.OFFSET_BITS). MakesIndex (type_of value) a b m n root (with_posting value doc (pos 1) (index_of (type_of value) m root)) x.root)
    (λ (x : Added g.row.OFFSET_BITS). WalksIndex type a b m n root doc (item_weights c.args.new.now) (λ v. None) x.root) c.add_with_key.result c.add_with_key.ensures.makes
    (λ x makes. add_one type a m root doc entries c.requires.unit c.requires.stands.index_is formed (owns_index a m kind documents root c.requires.stands.owns) value (pos 1) is
    c.key_law.ensures.read b n x.root c.add_with_key.ensures.may
    (subst (λ (t : ValueType). MakesIndex t a b m n root (with_posting value doc (pos 1) (index_of t m root)) x.root) typed makes)) in
    let start = index_of type m root in
    let ones : AllByRecursion (λ (e : Value × ℤ). e.1 ≡ pos 1) entries = subst (AllByRecursion (λ (e : Value × ℤ). e.1 ≡ pos 1)) (sym is) (refl, tt) in
    let both = both_ok (λ (x : Added g.row.OFFSET_BITS). WalksIndex type a b m n root doc (item_weights c.args.new.now) (λ v. None) x.root)
    (λ (x : Added g.row.OFFSET_BITS). c.args.dense ≡ false → IsPlainIndex n x.root) c.add_with_key.result walks c.add_with_key.ensures.plain in
    if_ok (λ (x : Added g.row.OFFSET_BITS). WalksIndex type a b m n root doc (item_weights c.args.new.now) (λ v. None) x.root × (c.args.dense ≡ false → IsPlainIndex n x.root))
    (λ (x : Added g.row.OFFSET_BITS). IsOfForm c.args.dense type n x.root) c.add_with_key.result both
    (λ x walk. record {
      ones = λ wanted. between_ones start doc (item_weights c.args.new.now) (λ v. None) (index_of type n x.root) walk.0.between
          (λ v weight. entry_one (is_at (value_cmp v)) entries weight ones) (c.requires.form.ones wanted);
      plain = walk.1;
    })

pub returns-in-Some-first-clause-between : goal.returns-in-Some-first-clause-between
returns-in-Some-first-clause-between g c =
    let a = g.S.Store.ledger c.args.store.now in
    let b = g.S.Store.ledger c.add_with_key.new.store in
    let m = g.S.Frozen.records c.args.store.now in
    let type = c.args.value_type in
    let root = c.args.dictionary in
    let doc = c.args.doc in
    let item = c.in-Some-first.item.now in
    let value = item.value in
    let single = subst (IsMadeBy c.args.old.now c.args.new.now) c.in-None.is c.requires.how in
    let only = first_only c.args.new.now item (sym c.first.ensures.value ∙ ap option_copied c.in-Some-first.is) single.has in
    let typed : type_of value ≡ type = (subst (λ (xs : List Item). AreOfType type (values_of xs)) only c.requires.typed).0 in
    let entries = first_weights [] c.args.new.now in
    let is : entries ≡ (value, pos 1) ∷ [] = entry_only c.args.new.now item only ∙ ap (λ (w : ℤ). (value, w) ∷ []) (subst HaveWeightOne only single.ones).0 in
    let n = g.S.Frozen.records c.add_with_key.new.store in
    let kind = c.args.kind in
    let documents = c.args.documents in
    let formed = (c.index_law.ensures.lawful type m root c.requires.stands.index_is).formed in
    let walks = if_ok (λ (x : Added g.row.OFFSET_BITS). MakesIndex (type_of value) a b m n root (with_posting value doc (pos 1) (index_of (type_of value) m root)) x.root)
    (λ (x : Added g.row.OFFSET_BITS). WalksIndex type a b m n root doc (item_weights c.args.new.now) (λ v. None) x.root) c.add_with_key.result c.add_with_key.ensures.makes
    (λ x makes. add_one type a m root doc entries c.requires.unit c.requires.stands.index_is formed (owns_index a m kind documents root c.requires.stands.owns) value (pos 1) is
    c.key_law.ensures.read b n x.root c.add_with_key.ensures.may
    (subst (λ (t : ValueType). MakesIndex t a b m n root (with_posting value doc (pos 1) (index_of t m root)) x.root) typed makes)) in
    if_ok (λ (x : Added g.row.OFFSET_BITS). WalksIndex type a b m n root doc (item_weights c.args.new.now) (λ v. None) x.root)
    (λ (x : Added g.row.OFFSET_BITS). IsBetween (index_of type m root) doc (item_weights c.args.new.now) (λ v. None) (index_of type n x.root)) c.add_with_key.result walks
    (λ x walk. walk.between)

pub returns-in-Some-first-clause-found : goal.returns-in-Some-first-clause-found
returns-in-Some-first-clause-found g c =
    let a = g.S.Store.ledger c.args.store.now in
    let b = g.S.Store.ledger c.add_with_key.new.store in
    let m = g.S.Frozen.records c.args.store.now in
    let type = c.args.value_type in
    let root = c.args.dictionary in
    let doc = c.args.doc in
    let item = c.in-Some-first.item.now in
    let value = item.value in
    let single = subst (IsMadeBy c.args.old.now c.args.new.now) c.in-None.is c.requires.how in
    let only = first_only c.args.new.now item (sym c.first.ensures.value ∙ ap option_copied c.in-Some-first.is) single.has in
    let typed : type_of value ≡ type = (subst (λ (xs : List Item). AreOfType type (values_of xs)) only c.requires.typed).0 in
    let entries = first_weights [] c.args.new.now in
    let is : entries ≡ (value, pos 1) ∷ [] = entry_only c.args.new.now item only ∙ ap (λ (w : ℤ). (value, w) ∷ []) (subst HaveWeightOne only single.ones).0 in
    let n = g.S.Frozen.records c.add_with_key.new.store in
    let kind = c.args.kind in
    let documents = c.args.documents in
    let formed = (c.index_law.ensures.lawful type m root c.requires.stands.index_is).formed in
    let walks = if_ok (λ (x : Added g.row.OFFSET_BITS). MakesIndex (type_of value) a b m n root (with_posting value doc (pos 1) (index_of (type_of value) m root)) x.root)
    (λ (x : Added g.row.OFFSET_BITS). WalksIndex type a b m n root doc (item_weights c.args.new.now) (λ v. None) x.root) c.add_with_key.result c.add_with_key.ensures.makes
    (λ x makes. add_one type a m root doc entries c.requires.unit c.requires.stands.index_is formed (owns_index a m kind documents root c.requires.stands.owns) value (pos 1) is
    c.key_law.ensures.read b n x.root c.add_with_key.ensures.may
    (subst (λ (t : ValueType). MakesIndex t a b m n root (with_posting value doc (pos 1) (index_of t m root)) x.root) typed makes)) in
    let both = both_ok (λ (x : Added g.row.OFFSET_BITS). WalksIndex type a b m n root doc (item_weights c.args.new.now) (λ v. None) x.root)
    (λ (x : Added g.row.OFFSET_BITS). key_at value n x.root ≡ Some x.key) c.add_with_key.result walks c.add_with_key.ensures.key in
    if_ok (λ (x : Added g.row.OFFSET_BITS). WalksIndex type a b m n root doc (item_weights c.args.new.now) (λ v. None) x.root × (key_at value n x.root ≡ Some x.key))
    (λ (x : Added g.row.OFFSET_BITS). FindsBy type n x.root c.args.new.now x.key c.args.weights.now) c.add_with_key.result both
    (λ x walk. subst (FindsBy type n x.root c.args.new.now x.key) (sym c.in-None.is) (
      single.has,
      subst (λ (xs : List Item). FindsItemKey type n x.root xs x.key) (sym only)
          (finds_key c.key_law.ensures.found c.key_law.ensures.read type n x.root x.key value walk.0.index_is typed walk.1, tt),
    ))

pub returns-in-Some-first-clause-counts : goal.returns-in-Some-first-clause-counts
returns-in-Some-first-clause-counts g c =
    let a = g.S.Store.ledger c.args.store.now in
    let b = g.S.Store.ledger c.add_with_key.new.store in
    let m = g.S.Frozen.records c.args.store.now in
    let type = c.args.value_type in
    let root = c.args.dictionary in
    let doc = c.args.doc in
    let item = c.in-Some-first.item.now in
    let value = item.value in
    let single = subst (IsMadeBy c.args.old.now c.args.new.now) c.in-None.is c.requires.how in
    let only = first_only c.args.new.now item (sym c.first.ensures.value ∙ ap option_copied c.in-Some-first.is) single.has in
    let typed : type_of value ≡ type = (subst (λ (xs : List Item). AreOfType type (values_of xs)) only c.requires.typed).0 in
    let entries = first_weights [] c.args.new.now in
    let is : entries ≡ (value, pos 1) ∷ [] = entry_only c.args.new.now item only ∙ ap (λ (w : ℤ). (value, w) ∷ []) (subst HaveWeightOne only single.ones).0 in
    let lists = λ (v : Value). list_of v (index_of type m root) in
    let reads = ap (λ (t : ValueType). list_of value (index_of t m root)) (sym typed) in
    let is_index = subst (λ (t : ValueType). IsIndex t m root) (sym typed) c.requires.stands.index_is in
    let lacks = (subst (AllByRecursion (λ (x : Item). item_weights c.args.old.now x.value ≡ None)) only single.adds).0 in
    let changed : not (is_weight (pos 1) (item_weights c.args.old.now value)) ≡ true = ap (λ (o : Option ℤ). not (is_weight (pos 1) o)) lacks in
    counts_one 34 (put_records lists doc) (put_forms c.args.dense lists doc) a b (is_added (item_weights c.args.old.now)) entries value (pos 1) is changed
    (few_added value (pos 1) m root doc is_index a b c.args.dense c.args.total c.requires.form.plain lists reads c.add_with_key.ensures.counts)

pub returns-in-Some-first-clause-low : goal.returns-in-Some-first-clause-low
returns-in-Some-first-clause-low g c =
    let a = g.S.Store.ledger c.args.store.now in
    let b = g.S.Store.ledger c.add_with_key.new.store in
    let m = g.S.Frozen.records c.args.store.now in
    let type = c.args.value_type in
    let root = c.args.dictionary in
    let doc = c.args.doc in
    let item = c.in-Some-first.item.now in
    let value = item.value in
    let single = subst (IsMadeBy c.args.old.now c.args.new.now) c.in-None.is c.requires.how in
    let only = first_only c.args.new.now item (sym c.first.ensures.value ∙ ap option_copied c.in-Some-first.is) single.has in
    let typed : type_of value ≡ type = (subst (λ (xs : List Item). AreOfType type (values_of xs)) only c.requires.typed).0 in
    let entries = first_weights [] c.args.new.now in
    let is : entries ≡ (value, pos 1) ∷ [] = entry_only c.args.new.now item only ∙ ap (λ (w : ℤ). (value, w) ∷ []) (subst HaveWeightOne only single.ones).0 in
    let lists = λ (v : Value). list_of v (index_of type m root) in
    let reads = ap (λ (t : ValueType). list_of value (index_of t m root)) (sym typed) in
    let is_index = subst (λ (t : ValueType). IsIndex t m root) (sym typed) c.requires.stands.index_is in
    let lacks = (subst (AllByRecursion (λ (x : Item). item_weights c.args.old.now x.value ≡ None)) only single.adds).0 in
    let changed : not (is_weight (pos 1) (item_weights c.args.old.now value)) ≡ true = ap (λ (o : Option ℤ). not (is_weight (pos 1) o)) lacks in
    λ levels low.
    let start : IsLow levels (index_of type m root) = low [] entries (index_of type m root) refl (record { formed = c.requires.indexed.formed; lists = λ v. refl }) in
    counts_one (value_nodes levels) (put_records lists doc) (put_forms c.args.dense lists doc) a b (is_added (item_weights c.args.old.now)) entries value (pos 1) is changed
    (low_added value (pos 1) m root doc levels is_index (dictionary_low type m root levels c.requires.stands.index_is start)
    (list_low value m root levels is_index (subst (λ (t : ValueType). IsLow levels (index_of t m root)) (sym typed) start))
    a b c.args.dense c.args.total c.requires.form.plain lists reads c.add_with_key.ensures.counts)

pub returns-in-Some-first-clause-refuses : goal.returns-in-Some-first-clause-refuses
returns-in-Some-first-clause-refuses g c =
    let a = g.S.Store.ledger c.args.store.now in
    let b = g.S.Store.ledger c.add_with_key.new.store in
    let m = g.S.Frozen.records c.args.store.now in
    let type = c.args.value_type in
    let root = c.args.dictionary in
    let doc = c.args.doc in
    let item = c.in-Some-first.item.now in
    let value = item.value in
    let single = subst (IsMadeBy c.args.old.now c.args.new.now) c.in-None.is c.requires.how in
    let only = first_only c.args.new.now item (sym c.first.ensures.value ∙ ap option_copied c.in-Some-first.is) single.has in
    let typed : type_of value ≡ type = (subst (λ (xs : List Item). AreOfType type (values_of xs)) only c.requires.typed).0 in
    let entries = first_weights [] c.args.new.now in
    let is : entries ≡ (value, pos 1) ∷ [] = entry_only c.args.new.now item only ∙ ap (λ (w : ℤ). (value, w) ∷ []) (subst HaveWeightOne only single.ones).0 in
    let lists = λ (v : Value). list_of v (index_of type m root) in
    let reads = ap (λ (t : ValueType). list_of value (index_of t m root)) (sym typed) in
    let is_index = subst (λ (t : ValueType). IsIndex t m root) (sym typed) c.requires.stands.index_is in
    let lacks = (subst (AllByRecursion (λ (x : Item). item_weights c.args.old.now x.value ≡ None)) only single.adds).0 in
    let changed : not (is_weight (pos 1) (item_weights c.args.old.now value)) ≡ true = ap (λ (o : Option ℤ). not (is_weight (pos 1) o)) lacks in
    let formed = (c.index_law.ensures.lawful type m root c.requires.stands.index_is).formed in
    if_more (IsChangeWidth c.args.dense value (length (insert_entry nat_cmp (list_of value (index_of (type_of value) m root)) doc (pos 1))))
    (IsWalkWidth c.args.dense (index_of type m root) doc (item_weights c.args.new.now) (λ v. None)) a a b c.add_with_key.result (may_do-same a)
    (λ w change. add_width type a m root doc entries c.requires.unit c.requires.stands.index_is formed (owns_index a m c.args.kind c.args.documents root c.requires.stands.owns)
    value (pos 1) is c.args.dense w
    (subst (λ (t : ValueType). IsChangeWidth c.args.dense value (length (insert_entry nat_cmp (list_of value (index_of t m root)) doc (pos 1))) w) typed change))
    c.add_with_key.ensures.refuses

pub returns-in-Some-first-clause-may : goal.returns-in-Some-first-clause-may
returns-in-Some-first-clause-may g c = c.add_with_key.ensures.may

pub returns-in-None-first-clause-steps : goal.returns-in-None-first-clause-steps
returns-in-None-first-clause-steps g c =
    let a = g.S.Store.ledger c.args.store.now in
    let m = g.S.Frozen.records c.args.store.now in
    let type = c.args.value_type in
    let root = c.args.dictionary in
    let doc = c.args.doc in
    let none = first_none c.args.new.now (sym c.first.ensures.value ∙ ap option_copied c.in-None-first.is) in
    let entries = first_weights [] c.args.new.now in
    let formed = (c.index_law.ensures.lawful type m root c.requires.stands.index_is).formed in
    let walk = add_none type a m root doc entries c.requires.unit c.requires.stands.index_is formed (owns_index a m c.args.kind c.args.documents root c.requires.stands.owns)
    (entry_none c.args.new.now none) in
    let kind = c.args.kind in
    let documents = c.args.documents in
    index_steps c.documents_law.ensures.stays kind type a a m m documents root root c.requires.stands walk.index_is walk.keys walk.flows walk.turns
    (added_listed c.documents_law.ensures.values kind type m documents root doc (item_weights c.args.new.now) (index_of type m root) c.requires.indexed walk.between)

pub returns-in-None-first-clause-form : goal.returns-in-None-first-clause-form
returns-in-None-first-clause-form g c = c.requires.form

pub returns-in-None-first-clause-between : goal.returns-in-None-first-clause-between
returns-in-None-first-clause-between g c =
    let a = g.S.Store.ledger c.args.store.now in
    let m = g.S.Frozen.records c.args.store.now in
    let type = c.args.value_type in
    let root = c.args.dictionary in
    let doc = c.args.doc in
    let none = first_none c.args.new.now (sym c.first.ensures.value ∙ ap option_copied c.in-None-first.is) in
    let entries = first_weights [] c.args.new.now in
    let formed = (c.index_law.ensures.lawful type m root c.requires.stands.index_is).formed in
    let walk = add_none type a m root doc entries c.requires.unit c.requires.stands.index_is formed (owns_index a m c.args.kind c.args.documents root c.requires.stands.owns)
    (entry_none c.args.new.now none) in
    walk.between

pub returns-in-None-first-clause-found : goal.returns-in-None-first-clause-found
returns-in-None-first-clause-found g c =
    let single = subst (IsMadeBy c.args.old.now c.args.new.now) c.in-None.is c.requires.how in
    let none = first_none c.args.new.now (sym c.first.ensures.value ∙ ap option_copied c.in-None-first.is) in
    let m = g.S.Frozen.records c.args.store.now in
    subst (FindsBy c.args.value_type m c.args.dictionary c.args.new.now c.from_raw-nothing.result) (sym c.in-None.is)
    (single.has, subst (λ (xs : List Item). FindsItemKey c.args.value_type m c.args.dictionary xs c.from_raw-nothing.result) (sym none) tt)

pub returns-in-None-first-clause-counts : goal.returns-in-None-first-clause-counts
returns-in-None-first-clause-counts g c =
    let lists = λ (v : Value). list_of v (index_of c.args.value_type (g.S.Frozen.records c.args.store.now) c.args.dictionary) in
    let entries = first_weights [] c.args.new.now in
    let old = item_weights c.args.old.now in
    within_none (g.S.Store.ledger c.args.store.now)
    (besides (by_width (34 * added_count old entries) (added_records lists c.args.doc old entries)) (added_forms c.args.dense lists c.args.doc old entries))

pub returns-in-None-first-clause-low : goal.returns-in-None-first-clause-low
returns-in-None-first-clause-low g c =
    let lists = λ (v : Value). list_of v (index_of c.args.value_type (g.S.Frozen.records c.args.store.now) c.args.dictionary) in
    let entries = first_weights [] c.args.new.now in
    let old = item_weights c.args.old.now in
    λ levels low. within_none (g.S.Store.ledger c.args.store.now)
    (besides (by_width (value_nodes levels * added_count old entries) (added_records lists c.args.doc old entries)) (added_forms c.args.dense lists c.args.doc old entries))

pub returns-in-None-first-clause-may : goal.returns-in-None-first-clause-may
returns-in-None-first-clause-may g c = may_do-same (g.S.Store.ledger c.args.store.now)

pub add_all-requires : goal.add_all-requires
add_all-requires g c =
    let w = c.in-Some.weights in
    let are : AreWeights w c.args.old.now c.args.new.now = subst (IsMadeBy c.args.old.now c.args.new.now) c.in-Some.is c.requires.how in (
      omega arith,
      (
        c.requires.unit,
        (
          c.requires.stands.index_is,
          (
            owns_index (g.S.Store.ledger c.args.store.now) (g.S.Frozen.records c.args.store.now) c.args.kind c.args.documents c.args.dictionary c.requires.stands.owns,
            (
              c.requires.form,
              (
                subst (WeighOnes c.args.dense) (sym are.after_are) c.requires.ones,
                (
                  weights_typed c.args.value_type w.after.entries c.args.new.now are.after_are c.requires.typed,
                  λ value. c.requires.has value ∙ ap (λ (es : List (Value × ℤ)). weights es value) (sym are.before_are),
                ),
              ),
            ),
          ),
        ),
      ),
    )

pub returns-in_err-root-in-Some-clause-steps : goal.returns-in_err-root-in-Some-clause-steps
returns-in_err-root-in-Some-clause-steps g c =
    let p = err_from_is_err_and c.from_residual.result c.from_residual.ensures.1 in rw p.1 tt

pub returns-in_err-root-in-Some-clause-form : goal.returns-in_err-root-in-Some-clause-form
returns-in_err-root-in-Some-clause-form g c =
    let p = err_from_is_err_and c.from_residual.result c.from_residual.ensures.1 in rw p.1 tt

pub returns-in_err-root-in-Some-clause-between : goal.returns-in_err-root-in-Some-clause-between
returns-in_err-root-in-Some-clause-between g c =
    let p = err_from_is_err_and c.from_residual.result c.from_residual.ensures.1 in rw p.1 tt

pub returns-in_err-root-in-Some-clause-found : goal.returns-in_err-root-in-Some-clause-found
returns-in_err-root-in-Some-clause-found g c =
    let p = err_from_is_err_and c.from_residual.result c.from_residual.ensures.1 in rw p.1 tt

pub returns-in_err-root-in-Some-clause-counts : goal.returns-in_err-root-in-Some-clause-counts
returns-in_err-root-in-Some-clause-counts g c =
    let a = g.S.Store.ledger c.args.store.now in
    let b = g.S.Store.ledger c.add_all.new.store in
    let m = g.S.Frozen.records c.args.store.now in
    let n = g.S.Frozen.records c.add_all.new.store in
    let type = c.args.value_type in
    let start = index_of type m c.args.dictionary in
    let w = c.in-Some.weights in
    let are : AreWeights w c.args.old.now c.args.new.now = subst (IsMadeBy c.args.old.now c.args.new.now) c.in-Some.is c.requires.how in
    counts_given_added a b 34 (λ (v : Value). list_of v start) c.args.doc c.args.dense w.before.entries w.after.entries c.args.old.now c.args.new.now are.before_are are.after_are
    c.add_all.ensures.counts

pub returns-in_err-root-in-Some-clause-low : goal.returns-in_err-root-in-Some-clause-low
returns-in_err-root-in-Some-clause-low g c =
    let a = g.S.Store.ledger c.args.store.now in
    let b = g.S.Store.ledger c.add_all.new.store in
    let m = g.S.Frozen.records c.args.store.now in
    let n = g.S.Frozen.records c.add_all.new.store in
    let type = c.args.value_type in
    let start = index_of type m c.args.dictionary in
    let w = c.in-Some.weights in
    let are : AreWeights w c.args.old.now c.args.new.now = subst (IsMadeBy c.args.old.now c.args.new.now) c.in-Some.is c.requires.how in
    λ levels low. counts_given_added a b (value_nodes levels) (λ (v : Value). list_of v start) c.args.doc c.args.dense w.before.entries w.after.entries c.args.old.now c.args.new.now
    are.before_are are.after_are (c.add_all.ensures.low levels (subst (AddsLow levels start c.args.doc) (sym are.after_are) low))

pub returns-in_err-root-in-Some-clause-may : goal.returns-in_err-root-in-Some-clause-may
returns-in_err-root-in-Some-clause-may g c =
    c.add_all.ensures.may

pub returns-in_ok-root-in-Some-clause-counts : goal.returns-in_ok-root-in-Some-clause-counts
returns-in_ok-root-in-Some-clause-counts g c =
    let a = g.S.Store.ledger c.args.store.now in
    let b = g.S.Store.ledger c.add_all.new.store in
    let m = g.S.Frozen.records c.args.store.now in
    let n = g.S.Frozen.records c.add_all.new.store in
    let type = c.args.value_type in
    let start = index_of type m c.args.dictionary in
    let w = c.in-Some.weights in
    let are : AreWeights w c.args.old.now c.args.new.now = subst (IsMadeBy c.args.old.now c.args.new.now) c.in-Some.is c.requires.how in
    counts_given_added a b 34 (λ (v : Value). list_of v start) c.args.doc c.args.dense w.before.entries w.after.entries c.args.old.now c.args.new.now are.before_are are.after_are
    c.add_all.ensures.counts

pub returns-in_ok-root-in-Some-clause-low : goal.returns-in_ok-root-in-Some-clause-low
returns-in_ok-root-in-Some-clause-low g c =
    let a = g.S.Store.ledger c.args.store.now in
    let b = g.S.Store.ledger c.add_all.new.store in
    let m = g.S.Frozen.records c.args.store.now in
    let n = g.S.Frozen.records c.add_all.new.store in
    let type = c.args.value_type in
    let start = index_of type m c.args.dictionary in
    let w = c.in-Some.weights in
    let are : AreWeights w c.args.old.now c.args.new.now = subst (IsMadeBy c.args.old.now c.args.new.now) c.in-Some.is c.requires.how in
    λ levels low. counts_given_added a b (value_nodes levels) (λ (v : Value). list_of v start) c.args.doc c.args.dense w.before.entries w.after.entries c.args.old.now c.args.new.now
    are.before_are are.after_are (c.add_all.ensures.low levels (subst (AddsLow levels start c.args.doc) (sym are.after_are) low))

pub returns-in_ok-root-in-Some-clause-may : goal.returns-in_ok-root-in-Some-clause-may
returns-in_ok-root-in-Some-clause-may g c =
    c.add_all.ensures.may

pub returns-in_err-root-in-Some-clause-refuses : goal.returns-in_err-root-in-Some-clause-refuses
returns-in_err-root-in-Some-clause-refuses g c =
    let a = g.S.Store.ledger c.args.store.now in
    let b = g.S.Store.ledger c.add_all.new.store in
    let m = g.S.Frozen.records c.args.store.now in
    let n = g.S.Frozen.records c.add_all.new.store in
    let type = c.args.value_type in
    let start = index_of type m c.args.dictionary in
    let w = c.in-Some.weights in
    let are : AreWeights w c.args.old.now c.args.new.now = subst (IsMadeBy c.args.old.now c.args.new.now) c.in-Some.is c.requires.how in
    let p = err_from_is_err_and c.from_residual.result c.from_residual.ensures.1 in
    rw (p.1, p.2) (of_more (IsWalkWidth c.args.dense start c.args.doc (weights w.after.entries) (λ v. None)) (IsWalkWidth c.args.dense start c.args.doc (item_weights c.args.new.now) (λ v. None))
    a a b _ (may_do-same a) (λ width is. subst (λ (es : List (Value × ℤ)). IsWalkWidth c.args.dense start c.args.doc (weights es) (λ v. None) width) are.after_are is)
    c.in_err-root-in-Some.ensures.refuses)

pub returns-in_ok-root-in-Some-clause-form : goal.returns-in_ok-root-in-Some-clause-form
returns-in_ok-root-in-Some-clause-form g c =
    c.in_ok-root-in-Some.ensures.form

pub returns-in_ok-root-in-Some-clause-steps : goal.returns-in_ok-root-in-Some-clause-steps
returns-in_ok-root-in-Some-clause-steps g c =
    let a = g.S.Store.ledger c.args.store.now in
    let b = g.S.Store.ledger c.add_all.new.store in
    let m = g.S.Frozen.records c.args.store.now in
    let n = g.S.Frozen.records c.add_all.new.store in
    let type = c.args.value_type in
    let start = index_of type m c.args.dictionary in
    let w = c.in-Some.weights in
    let are : AreWeights w c.args.old.now c.args.new.now = subst (IsMadeBy c.args.old.now c.args.new.now) c.in-Some.is c.requires.how in
    let kind = c.args.kind in
    let documents = c.args.documents in
    let root = c.in_ok-root-in-Some.root in
    let walks = c.in_ok-root-in-Some.ensures.makes in
    index_steps c.documents_law.ensures.stays kind type a b m n documents c.args.dictionary root c.requires.stands walks.index_is walks.keys walks.flows walks.turns
    (added_listed c.documents_law.ensures.values kind type m documents c.args.dictionary c.args.doc (weights w.after.entries) (index_of type n root) c.requires.indexed walks.between)

pub returns-in_ok-root-in-Some-clause-between : goal.returns-in_ok-root-in-Some-clause-between
returns-in_ok-root-in-Some-clause-between g c =
    let a = g.S.Store.ledger c.args.store.now in
    let b = g.S.Store.ledger c.add_all.new.store in
    let m = g.S.Frozen.records c.args.store.now in
    let n = g.S.Frozen.records c.add_all.new.store in
    let type = c.args.value_type in
    let start = index_of type m c.args.dictionary in
    let w = c.in-Some.weights in
    let are : AreWeights w c.args.old.now c.args.new.now = subst (IsMadeBy c.args.old.now c.args.new.now) c.in-Some.is c.requires.how in
    let root = c.in_ok-root-in-Some.root in
    subst (λ (es : List (Value × ℤ)). IsBetween start c.args.doc (weights es) (λ v. None) (index_of type n root)) are.after_are c.in_ok-root-in-Some.ensures.makes.between

pub returns-in_ok-root-in-Some-clause-found : goal.returns-in_ok-root-in-Some-clause-found
returns-in_ok-root-in-Some-clause-found g c =
    let a = g.S.Store.ledger c.args.store.now in
    let b = g.S.Store.ledger c.add_all.new.store in
    let m = g.S.Frozen.records c.args.store.now in
    let n = g.S.Frozen.records c.add_all.new.store in
    let type = c.args.value_type in
    let start = index_of type m c.args.dictionary in
    let w = c.in-Some.weights in
    let are : AreWeights w c.args.old.now c.args.new.now = subst (IsMadeBy c.args.old.now c.args.new.now) c.in-Some.is c.requires.how in
    let root = c.in_ok-root-in-Some.root in
    subst (FindsBy type n root c.args.new.now c.from_raw-nothing.result) (sym c.in-Some.is)
    (items_listed start (index_of type n root) c.args.doc (weights w.after.entries) c.args.new.now (weights_are w.after.entries c.args.new.now are.after_are) c.in_ok-root-in-Some.ensures.makes.between)
