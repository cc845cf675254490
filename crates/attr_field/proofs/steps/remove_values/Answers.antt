use Rattle.std.proofs.Common.{◌≡◌, ◌*◌, ℤ, List, [], length, not, false, true, Option, None, nat_cmp, refl, sym, ap, subst, ◌∙◌, arith}
use Rattle.std.specs.BTreeMap.{is_at}
use Rattle.std.specs.List.{AllByRecursion}
use Rattle.std.specs.Map.{remove_entry}
use Rattle.std.specs.Option.{is_some, option_copied}
use Rattle.posting_store.proofs.RefusalLemmas.{if_more}
use Rattle.posting_store.specs.Lists.{AreOnes}
use Rattle.store_api.proofs.May.{may_do-same}
use Rattle.image_format.specs.Documents.{column_at}
use Rattle.image_format.specs.Postings.{index_of}
use Rattle.index_model.proofs.MapLemmas.{back_begins}
use Rattle.index_model.specs.Changes.{first_given, first_weights, IsBetween}
use Rattle.index_model.specs.Index.{list_of, without_posting, Index, IsIndexOf}
use Rattle.attr_types.specs.Value.{type_of, values_of, AreOfType}
use Rattle.attr_types.specs.declared.items.Item.{Item}
use Rattle.attr_types.specs.declared.kind.ValueType.{ValueType}
use Rattle.attr_types.specs.declared.value.Value.{Value}
use Rattle.value_index.proofs.CountLemmas.{within_none}
use Rattle.value_index.proofs.FormLemmas.{between_ones, ones_lookup}
use Rattle.value_index.proofs.LevelLemmas.{dictionary_low, list_low}
use Rattle.value_index.proofs.RemoveLemmas.{IsThere}
use Rattle.value_index.proofs.WalksCountLemmas.{few_gone, low_gone}
use Rattle.value_index.specs.Changes.{IsChangeWidth, MakesIndex}
use Rattle.value_index.specs.Counts.{besides, by_width, gone_count, gone_forms, gone_records, is_gone, taken_forms, taken_records, value_nodes, IsLow, RemovesLow}
use Rattle.value_index.specs.Forms.{IsOfForm, IsPlainIndex}
use Rattle.value_index.specs.Indexes.{IsIndex}
use Rattle.value_index.specs.Walks.{WalksIndex}
use Rattle.value_index.specs.Widths.{IsWalkWidth}
use Rattle.attr_field.specs.Counts.{item_weights}
use Rattle.attr_field.specs.Steps.{AreWeights, IsMadeBy, StepsField}
use Rattle.attr_field.proofs.RefLemmas.{owns_index, if_ok}
use Rattle.attr_field.proofs.SingleLemmas.{both_ok, counts_one, entry_none, entry_only, first_none, first_only, remove_none, remove_one, remove_there, remove_width}
use Rattle.attr_field.proofs.StepLemmas.{ended_listed, index_steps}
use Rattle.attr_field.proofs.ChangeLemmas.{weights}
use Rattle.attr_field.proofs.WeightLemmas.{counts_given_gone, weights_typed}
use Rattle.attr_field.proofs.steps.remove_values.Goals as goal

pub remove-requires : goal.remove-requires
remove-requires g c =
    let a = g.S.Store.ledger c.args.store.now in
    let m = g.S.Frozen.records c.args.store.now in
    let type = c.args.value_type in
    let root = c.args.dictionary in
    let doc = c.args.doc in
    let added = item_weights c.args.new.now in
    let item = c.in-Some-first.item.now in
    let value = item.value in
    let single = subst (IsMadeBy c.args.old.now c.args.new.now) c.in-None.is c.requires.how in
    let only = first_only c.args.old.now item (sym c.first.ensures.value ∙ ap option_copied c.in-Some-first.is) single.had in
    let typed : type_of value ≡ type = (subst (λ (xs : List Item). AreOfType type (values_of xs)) only c.requires.typed).0 in
    let entries = first_weights [] c.args.old.now in
    let is = entry_only c.args.old.now item only in
    let gone : added value ≡ None = (subst (AllByRecursion (λ (x : Item). added x.value ≡ None)) only single.takes).0 in
    let formed = (c.index_law.ensures.lawful type m root c.requires.stands.index_is).formed in
    let owns = owns_index a m c.args.kind c.args.documents root c.requires.stands.owns in
    let there = remove_there type a m root doc added entries c.requires.unit c.requires.stands.index_is formed owns c.requires.has value item.weight is gone in (
      omega arith,
      (
        c.requires.unit,
        (
          subst (λ (t : ValueType). IsIndex t m root) (sym typed) c.requires.stands.index_is,
          (
            owns,
            (
              c.requires.form.plain,
              (
                λ wanted. subst (λ (t : ValueType). AreOnes (list_of value (index_of t m root))) (sym typed) (c.requires.form.ones wanted value),
                subst (λ (t : ValueType). IsThere t m root doc value) (sym typed) there,
              ),
            ),
          ),
        ),
      ),
    )

pub returns-in-Some-first-clause-steps : goal.returns-in-Some-first-clause-steps
returns-in-Some-first-clause-steps g c =
    let a = g.S.Store.ledger c.args.store.now in
    let b = g.S.Store.ledger c.remove.new.store in
    let m = g.S.Frozen.records c.args.store.now in
    let type = c.args.value_type in
    let root = c.args.dictionary in
    let doc = c.args.doc in
    let added = item_weights c.args.new.now in
    let item = c.in-Some-first.item.now in
    let value = item.value in
    let single = subst (IsMadeBy c.args.old.now c.args.new.now) c.in-None.is c.requires.how in
    let only = first_only c.args.old.now item (sym c.first.ensures.value ∙ ap option_copied c.in-Some-first.is) single.had in
    let typed : type_of value ≡ type = (subst (λ (xs : List Item). AreOfType type (values_of xs)) only c.requires.typed).0 in
    let entries = first_weights [] c.args.old.now in
    let is = entry_only c.args.old.now item only in
    let gone : added value ≡ None = (subst (AllByRecursion (λ (x : Item). added x.value ≡ None)) only single.takes).0 in
    let formed = (c.index_law.ensures.lawful type m root c.requires.stands.index_is).formed in
    let owns = owns_index a m c.args.kind c.args.documents root c.requires.stands.owns in
    let n = g.S.Frozen.records c.remove.new.store in
    let kind = c.args.kind in
    let documents = c.args.documents in
    let removed = item_weights c.args.old.now in
    let walks = if_ok (MakesIndex (type_of value) a b m n root (without_posting value doc (index_of (type_of value) m root))) (WalksIndex type a b m n root doc added removed)
    c.remove.result c.remove.ensures.makes
    (λ next makes. remove_one type a m root doc added entries c.requires.unit c.requires.stands.index_is formed owns c.requires.has value item.weight is gone b n next c.remove.ensures.may
    (subst (λ (t : ValueType). MakesIndex t a b m n root (without_posting value doc (index_of t m root)) next) typed makes)) in
    if_ok (WalksIndex type a b m n root doc added removed) (λ next. StepsField kind type a b m n documents root (column_at kind type m documents) documents next) c.remove.result walks
    (λ next walk. index_steps c.documents_law.ensures.stays kind type a b m n documents root next c.requires.stands walk.index_is walk.keys walk.flows walk.turns
    (ended_listed c.documents_law.ensures.values kind type m documents (index_of type n next) (c.requires.ends (index_of type n next) walk.between)))

pub returns-in-Some-first-clause-form : goal.returns-in-Some-first-clause-form
returns-in-Some-first-clause-form g c =
    let a = g.S.Store.ledger c.args.store.now in
    let b = g.S.Store.ledger c.remove.new.store in
    let m = g.S.Frozen.records c.args.store.now in
    let type = c.args.value_type in
    let root = c.args.dictionary in
    let doc = c.args.doc in
    let added = item_weights c.args.new.now in
    let item = c.in-Some-first.item.now in
    let value = item.value in
    let single = subst (IsMadeBy c.args.old.now c.args.new.now) c.in-None.is c.requires.how in
    let only = first_only c.args.old.now item (sym c.first.ensures.value ∙ ap option_copied c.in-Some-first.is) single.had in
    let typed : type_of value ≡ type = (subst (λ (xs : List Item). AreOfType type (values_of xs)) only c.requires.typed).0 in
    let entries = first_weights [] c.args.old.now in
    let is = entry_only c.args.old.now item only in
    let gone : added value ≡ None = (subst (AllByRecursion (λ (x : Item). added x.value ≡ None)) only single.takes).0 in
    let formed = (c.index_law.ensures.lawful type m root c.requires.stands.index_is).formed in
    let owns = owns_index a m c.args.kind c.args.documents root c.requires.stands.owns in
    let n = g.S.Frozen.records c.remove.new.store in
    let kind = c.args.kind in
    let documents = c.args.documents in
    let removed = item_weights c.args.old.now in
    let walks = if_ok (MakesIndex (type_of value) a b m n root (without_posting value doc (index_of (type_of value) m root))) (WalksIndex type a b m n root doc added removed)
    c.remove.result c.remove.ensures.makes
    (λ next makes. remove_one type a m root doc added entries c.requires.unit c.requires.stands.index_is formed owns c.requires.has value item.weight is gone b n next c.remove.ensures.may
    (subst (λ (t : ValueType). MakesIndex t a b m n root (without_posting value doc (index_of t m root)) next) typed makes)) in
    let start = index_of type m root in
    let both = both_ok (WalksIndex type a b m n root doc added removed) (λ next. c.args.dense ≡ false → IsPlainIndex n next) c.remove.result walks c.remove.ensures.plain in
    if_ok (λ next. WalksIndex type a b m n root doc added removed next × (c.args.dense ≡ false → IsPlainIndex n next)) (IsOfForm c.args.dense type n) c.remove.result both
    (λ next walk. record {
      ones = λ wanted. between_ones start doc added removed (index_of type n next) walk.0.between
          (λ v weight had. ones_lookup (is_at (nat_cmp doc)) (list_of v start) weight (c.requires.form.ones wanted v)
          (c.requires.has v ∙ ap (λ o. first_given o (removed v)) had)) (c.requires.form.ones wanted);
      plain = walk.1;
    })

pub returns-in-Some-first-clause-index : goal.returns-in-Some-first-clause-index
returns-in-Some-first-clause-index g c =
    let a = g.S.Store.ledger c.args.store.now in
    let b = g.S.Store.ledger c.remove.new.store in
    let m = g.S.Frozen.records c.args.store.now in
    let type = c.args.value_type in
    let root = c.args.dictionary in
    let doc = c.args.doc in
    let added = item_weights c.args.new.now in
    let item = c.in-Some-first.item.now in
    let value = item.value in
    let single = subst (IsMadeBy c.args.old.now c.args.new.now) c.in-None.is c.requires.how in
    let only = first_only c.args.old.now item (sym c.first.ensures.value ∙ ap option_copied c.in-Some-first.is) single.had in
    let typed : type_of value ≡ type = (subst (λ (xs : List Item). AreOfType type (values_of xs)) only c.requires.typed).0 in
    let entries = first_weights [] c.args.old.now in
    let is = entry_only c.args.old.now item only in
    let gone : added value ≡ None = (subst (AllByRecursion (λ (x : Item). added x.value ≡ None)) only single.takes).0 in
    let formed = (c.index_law.ensures.lawful type m root c.requires.stands.index_is).formed in
    let owns = owns_index a m c.args.kind c.args.documents root c.requires.stands.owns in
    let n = g.S.Frozen.records c.remove.new.store in
    let kind = c.args.kind in
    let documents = c.args.documents in
    let removed = item_weights c.args.old.now in
    let walks = if_ok (MakesIndex (type_of value) a b m n root (without_posting value doc (index_of (type_of value) m root))) (WalksIndex type a b m n root doc added removed)
    c.remove.result c.remove.ensures.makes
    (λ next makes. remove_one type a m root doc added entries c.requires.unit c.requires.stands.index_is formed owns c.requires.has value item.weight is gone b n next c.remove.ensures.may
    (subst (λ (t : ValueType). MakesIndex t a b m n root (without_posting value doc (index_of t m root)) next) typed makes)) in
    if_ok (WalksIndex type a b m n root doc added removed) (λ next. IsIndexOf (column_at kind type m documents) (index_of type n next)) c.remove.result walks
    (λ next walk. c.requires.ends (index_of type n next) walk.between)

pub returns-in-Some-first-clause-counts : goal.returns-in-Some-first-clause-counts
returns-in-Some-first-clause-counts g c =
    let a = g.S.Store.ledger c.args.store.now in
    let b = g.S.Store.ledger c.remove.new.store in
    let m = g.S.Frozen.records c.args.store.now in
    let type = c.args.value_type in
    let root = c.args.dictionary in
    let doc = c.args.doc in
    let added = item_weights c.args.new.now in
    let item = c.in-Some-first.item.now in
    let value = item.value in
    let single = subst (IsMadeBy c.args.old.now c.args.new.now) c.in-None.is c.requires.how in
    let only = first_only c.args.old.now item (sym c.first.ensures.value ∙ ap option_copied c.in-Some-first.is) single.had in
    let typed : type_of value ≡ type = (subst (λ (xs : List Item). AreOfType type (values_of xs)) only c.requires.typed).0 in
    let entries = first_weights [] c.args.old.now in
    let is = entry_only c.args.old.now item only in
    let gone : added value ≡ None = (subst (AllByRecursion (λ (x : Item). added x.value ≡ None)) only single.takes).0 in
    let formed = (c.index_law.ensures.lawful type m root c.requires.stands.index_is).formed in
    let owns = owns_index a m c.args.kind c.args.documents root c.requires.stands.owns in
    let lists = λ (v : Value). list_of v (index_of type m root) in
    let reads = ap (λ (t : ValueType). list_of value (index_of t m root)) (sym typed) in
    let is_index = subst (λ (t : ValueType). IsIndex t m root) (sym typed) c.requires.stands.index_is in
    let changed : not (is_some (added value)) ≡ true = ap (λ (o : Option ℤ). not (is_some o)) gone in
    counts_one 34 (taken_records lists doc) (taken_forms c.args.dense lists doc) a b (is_gone added) entries value item.weight is changed
    (few_gone value item.weight m root doc is_index a b c.args.dense c.args.total c.requires.form.plain lists reads c.remove.ensures.counts)

pub returns-in-Some-first-clause-low : goal.returns-in-Some-first-clause-low
returns-in-Some-first-clause-low g c =
    let a = g.S.Store.ledger c.args.store.now in
    let b = g.S.Store.ledger c.remove.new.store in
    let m = g.S.Frozen.records c.args.store.now in
    let type = c.args.value_type in
    let root = c.args.dictionary in
    let doc = c.args.doc in
    let added = item_weights c.args.new.now in
    let item = c.in-Some-first.item.now in
    let value = item.value in
    let single = subst (IsMadeBy c.args.old.now c.args.new.now) c.in-None.is c.requires.how in
    let only = first_only c.args.old.now item (sym c.first.ensures.value ∙ ap option_copied c.in-Some-first.is) single.had in
    let typed : type_of value ≡ type = (subst (λ (xs : List Item). AreOfType type (values_of xs)) only c.requires.typed).0 in
    let entries = first_weights [] c.args.old.now in
    let is = entry_only c.args.old.now item only in
    let gone : added value ≡ None = (subst (AllByRecursion (λ (x : Item). added x.value ≡ None)) only single.takes).0 in
    let formed = (c.index_law.ensures.lawful type m root c.requires.stands.index_is).formed in
    let owns = owns_index a m c.args.kind c.args.documents root c.requires.stands.owns in
    let lists = λ (v : Value). list_of v (index_of type m root) in
    let reads = ap (λ (t : ValueType). list_of value (index_of t m root)) (sym typed) in
    let is_index = subst (λ (t : ValueType). IsIndex t m root) (sym typed) c.requires.stands.index_is in
    let changed : not (is_some (added value)) ≡ true = ap (λ (o : Option ℤ). not (is_some o)) gone in
    λ levels low.
    let begins = back_begins (index_of type m root) doc added entries entries refl formed c.requires.has in
    let start : IsLow levels (index_of type m root) = low begins.done entries (index_of type m root) begins.joins begins.between in
    counts_one (value_nodes levels) (taken_records lists doc) (taken_forms c.args.dense lists doc) a b (is_gone added) entries value item.weight is changed
    (low_gone value item.weight m root doc levels is_index (dictionary_low type m root levels c.requires.stands.index_is start)
    (list_low value m root levels is_index (subst (λ (t : ValueType). IsLow levels (index_of t m root)) (sym typed) start))
    a b c.args.dense c.args.total c.requires.form.plain lists reads c.remove.ensures.counts)

pub returns-in-Some-first-clause-refuses : goal.returns-in-Some-first-clause-refuses
returns-in-Some-first-clause-refuses g c =
    let a = g.S.Store.ledger c.args.store.now in
    let b = g.S.Store.ledger c.remove.new.store in
    let m = g.S.Frozen.records c.args.store.now in
    let type = c.args.value_type in
    let root = c.args.dictionary in
    let doc = c.args.doc in
    let added = item_weights c.args.new.now in
    let item = c.in-Some-first.item.now in
    let value = item.value in
    let single = subst (IsMadeBy c.args.old.now c.args.new.now) c.in-None.is c.requires.how in
    let only = first_only c.args.old.now item (sym c.first.ensures.value ∙ ap option_copied c.in-Some-first.is) single.had in
    let typed : type_of value ≡ type = (subst (λ (xs : List Item). AreOfType type (values_of xs)) only c.requires.typed).0 in
    let entries = first_weights [] c.args.old.now in
    let is = entry_only c.args.old.now item only in
    let gone : added value ≡ None = (subst (AllByRecursion (λ (x : Item). added x.value ≡ None)) only single.takes).0 in
    let formed = (c.index_law.ensures.lawful type m root c.requires.stands.index_is).formed in
    let owns = owns_index a m c.args.kind c.args.documents root c.requires.stands.owns in
    if_more (IsChangeWidth c.args.dense value (length (remove_entry (is_at (nat_cmp doc)) (list_of value (index_of (type_of value) m root)))))
    (IsWalkWidth c.args.dense (index_of type m root) doc added (item_weights c.args.old.now)) a a b c.remove.result (may_do-same a)
    (λ w change. remove_width type a m root doc added entries c.requires.unit c.requires.stands.index_is formed owns c.requires.has value item.weight is gone c.args.dense w
    (subst (λ (t : ValueType). IsChangeWidth c.args.dense value (length (remove_entry (is_at (nat_cmp doc)) (list_of value (index_of t m root)))) w) typed change))
    c.remove.ensures.refuses

pub returns-in-Some-first-clause-may : goal.returns-in-Some-first-clause-may
returns-in-Some-first-clause-may g c = c.remove.ensures.may

pub returns-in-None-first-clause-steps : goal.returns-in-None-first-clause-steps
returns-in-None-first-clause-steps g c =
    let a = g.S.Store.ledger c.args.store.now in
    let m = g.S.Frozen.records c.args.store.now in
    let type = c.args.value_type in
    let root = c.args.dictionary in
    let none = first_none c.args.old.now (sym c.first.ensures.value ∙ ap option_copied c.in-None-first.is) in
    let formed = (c.index_law.ensures.lawful type m root c.requires.stands.index_is).formed in
    let walk = remove_none type a m root c.args.doc (item_weights c.args.new.now) (first_weights [] c.args.old.now) c.requires.unit c.requires.stands.index_is formed
    (owns_index a m c.args.kind c.args.documents root c.requires.stands.owns) c.requires.has (entry_none c.args.old.now none) in
    let kind = c.args.kind in
    let documents = c.args.documents in
    index_steps c.documents_law.ensures.stays kind type a a m m documents root root c.requires.stands walk.index_is walk.keys walk.flows walk.turns
    (ended_listed c.documents_law.ensures.values kind type m documents (index_of type m root) (c.requires.ends (index_of type m root) walk.between))

pub returns-in-None-first-clause-form : goal.returns-in-None-first-clause-form
returns-in-None-first-clause-form g c = c.requires.form

pub returns-in-None-first-clause-index : goal.returns-in-None-first-clause-index
returns-in-None-first-clause-index g c =
    let a = g.S.Store.ledger c.args.store.now in
    let m = g.S.Frozen.records c.args.store.now in
    let type = c.args.value_type in
    let root = c.args.dictionary in
    let none = first_none c.args.old.now (sym c.first.ensures.value ∙ ap option_copied c.in-None-first.is) in
    let formed = (c.index_law.ensures.lawful type m root c.requires.stands.index_is).formed in
    let walk = remove_none type a m root c.args.doc (item_weights c.args.new.now) (first_weights [] c.args.old.now) c.requires.unit c.requires.stands.index_is formed
    (owns_index a m c.args.kind c.args.documents root c.requires.stands.owns) c.requires.has (entry_none c.args.old.now none) in
    c.requires.ends (index_of type m root) walk.between

pub returns-in-None-first-clause-counts : goal.returns-in-None-first-clause-counts
returns-in-None-first-clause-counts g c =
    let lists = λ (v : Value). list_of v (index_of c.args.value_type (g.S.Frozen.records c.args.store.now) c.args.dictionary) in
    let entries = first_weights [] c.args.old.now in
    let new = item_weights c.args.new.now in
    within_none (g.S.Store.ledger c.args.store.now)
    (besides (by_width (34 * gone_count new entries) (gone_records lists c.args.doc new entries)) (gone_forms c.args.dense lists c.args.doc new entries))

pub returns-in-None-first-clause-low : goal.returns-in-None-first-clause-low
returns-in-None-first-clause-low g c =
    let lists = λ (v : Value). list_of v (index_of c.args.value_type (g.S.Frozen.records c.args.store.now) c.args.dictionary) in
    let entries = first_weights [] c.args.old.now in
    let new = item_weights c.args.new.now in
    λ levels low. within_none (g.S.Store.ledger c.args.store.now)
    (besides (by_width (value_nodes levels * gone_count new entries) (gone_records lists c.args.doc new entries)) (gone_forms c.args.dense lists c.args.doc new entries))

pub returns-in-None-first-clause-may : goal.returns-in-None-first-clause-may
returns-in-None-first-clause-may g c = may_do-same (g.S.Store.ledger c.args.store.now)

pub remove_all-requires : goal.remove_all-requires
remove_all-requires g c =
    let w = c.in-Some.weights in
    let are : AreWeights w c.args.old.now c.args.new.now = subst (IsMadeBy c.args.old.now c.args.new.now) c.in-Some.is c.requires.how in (
      omega arith,
      (
        c.requires.unit,
        (
          c.requires.stands.index_is,
          (
            owns_index (g.S.Store.ledger c.args.store.now) (g.S.Frozen.records c.args.store.now) c.args.kind c.args.documents c.args.dictionary c.requires.stands.owns,
            (
              c.requires.form,
              (
                weights_typed c.args.value_type w.before.entries c.args.old.now are.before_are c.requires.typed,
                λ value. c.requires.has value ∙ ap (λ (es : List (Value × ℤ)). first_given (weights es value) (item_weights c.args.old.now value)) (sym are.after_are)
                    ∙ ap (λ (es : List (Value × ℤ)). first_given (weights w.after.entries value) (weights es value)) (sym are.before_are),
              ),
            ),
          ),
        ),
      ),
    )

pub returns-in-Some-clause-steps : goal.returns-in-Some-clause-steps
returns-in-Some-clause-steps g c =
    let a = g.S.Store.ledger c.args.store.now in
    let b = g.S.Store.ledger c.remove_all.new.store in
    let m = g.S.Frozen.records c.args.store.now in
    let n = g.S.Frozen.records c.remove_all.new.store in
    let type = c.args.value_type in
    let start = index_of type m c.args.dictionary in
    let w = c.in-Some.weights in
    let are : AreWeights w c.args.old.now c.args.new.now = subst (IsMadeBy c.args.old.now c.args.new.now) c.in-Some.is c.requires.how in
    let doc = c.args.doc in
    let kind = c.args.kind in
    let documents = c.args.documents in
    let added = weights w.after.entries in
    let removed = weights w.before.entries in
    let between = λ (index : Index) (bt : IsBetween start doc added removed index).
    subst (λ (es : List (Value × ℤ)). IsBetween start doc (item_weights c.args.new.now) (weights es) index) are.before_are
    (subst (λ (es : List (Value × ℤ)). IsBetween start doc (weights es) removed index) are.after_are bt) in
    if_ok (WalksIndex type a b m n c.args.dictionary doc added removed)
    (λ next. StepsField kind type a b m n documents c.args.dictionary (column_at kind type m documents) documents next) c.remove_all.result c.remove_all.ensures.makes
    (λ next walks. index_steps c.documents_law.ensures.stays kind type a b m n documents c.args.dictionary next c.requires.stands walks.index_is walks.keys walks.flows walks.turns
    (ended_listed c.documents_law.ensures.values kind type m documents (index_of type n next) (c.requires.ends (index_of type n next) (between (index_of type n next) walks.between))))

pub returns-in-Some-clause-index : goal.returns-in-Some-clause-index
returns-in-Some-clause-index g c =
    let a = g.S.Store.ledger c.args.store.now in
    let b = g.S.Store.ledger c.remove_all.new.store in
    let m = g.S.Frozen.records c.args.store.now in
    let n = g.S.Frozen.records c.remove_all.new.store in
    let type = c.args.value_type in
    let start = index_of type m c.args.dictionary in
    let w = c.in-Some.weights in
    let are : AreWeights w c.args.old.now c.args.new.now = subst (IsMadeBy c.args.old.now c.args.new.now) c.in-Some.is c.requires.how in
    let doc = c.args.doc in
    let kind = c.args.kind in
    let documents = c.args.documents in
    let added = weights w.after.entries in
    let removed = weights w.before.entries in
    let between = λ (index : Index) (bt : IsBetween start doc added removed index).
    subst (λ (es : List (Value × ℤ)). IsBetween start doc (item_weights c.args.new.now) (weights es) index) are.before_are
    (subst (λ (es : List (Value × ℤ)). IsBetween start doc (weights es) removed index) are.after_are bt) in
    if_ok (WalksIndex type a b m n c.args.dictionary doc added removed) (λ next. IsIndexOf (column_at kind type m documents) (index_of type n next)) c.remove_all.result c.remove_all.ensures.makes
    (λ next walks. c.requires.ends (index_of type n next) (between (index_of type n next) walks.between))

pub returns-in-Some-clause-form : goal.returns-in-Some-clause-form
returns-in-Some-clause-form g c =
    c.remove_all.ensures.form

pub returns-in-Some-clause-may : goal.returns-in-Some-clause-may
returns-in-Some-clause-may g c =
    c.remove_all.ensures.may

pub returns-in-Some-clause-counts : goal.returns-in-Some-clause-counts
returns-in-Some-clause-counts g c =
    let a = g.S.Store.ledger c.args.store.now in
    let b = g.S.Store.ledger c.remove_all.new.store in
    let m = g.S.Frozen.records c.args.store.now in
    let n = g.S.Frozen.records c.remove_all.new.store in
    let type = c.args.value_type in
    let start = index_of type m c.args.dictionary in
    let w = c.in-Some.weights in
    let are : AreWeights w c.args.old.now c.args.new.now = subst (IsMadeBy c.args.old.now c.args.new.now) c.in-Some.is c.requires.how in
    let doc = c.args.doc in
    counts_given_gone a b 34 (λ (v : Value). list_of v start) doc c.args.dense w.before.entries w.after.entries c.args.old.now c.args.new.now are.before_are are.after_are
    c.remove_all.ensures.counts

pub returns-in-Some-clause-low : goal.returns-in-Some-clause-low
returns-in-Some-clause-low g c =
    let a = g.S.Store.ledger c.args.store.now in
    let b = g.S.Store.ledger c.remove_all.new.store in
    let m = g.S.Frozen.records c.args.store.now in
    let n = g.S.Frozen.records c.remove_all.new.store in
    let type = c.args.value_type in
    let start = index_of type m c.args.dictionary in
    let w = c.in-Some.weights in
    let are : AreWeights w c.args.old.now c.args.new.now = subst (IsMadeBy c.args.old.now c.args.new.now) c.in-Some.is c.requires.how in
    let doc = c.args.doc in
    λ levels low. counts_given_gone a b (value_nodes levels) (λ (v : Value). list_of v start) doc c.args.dense w.before.entries w.after.entries c.args.old.now c.args.new.now
    are.before_are are.after_are
    (c.remove_all.ensures.low levels (subst (λ (es : List (Value × ℤ)). RemovesLow levels start doc (weights es) w.before.entries) (sym are.after_are)
    (subst (RemovesLow levels start doc (item_weights c.args.new.now)) (sym are.before_are) low)))

pub returns-in-Some-clause-refuses : goal.returns-in-Some-clause-refuses
returns-in-Some-clause-refuses g c =
    let a = g.S.Store.ledger c.args.store.now in
    let b = g.S.Store.ledger c.remove_all.new.store in
    let m = g.S.Frozen.records c.args.store.now in
    let n = g.S.Frozen.records c.remove_all.new.store in
    let type = c.args.value_type in
    let start = index_of type m c.args.dictionary in
    let w = c.in-Some.weights in
    let are : AreWeights w c.args.old.now c.args.new.now = subst (IsMadeBy c.args.old.now c.args.new.now) c.in-Some.is c.requires.how in
    let doc = c.args.doc in
    if_more (IsWalkWidth c.args.dense start doc (weights w.after.entries) (weights w.before.entries))
    (IsWalkWidth c.args.dense start doc (item_weights c.args.new.now) (item_weights c.args.old.now)) a a b c.remove_all.result (may_do-same a)
    (λ width is. subst (λ (es : List (Value × ℤ)). IsWalkWidth c.args.dense start doc (item_weights c.args.new.now) (weights es) width) are.before_are
    (subst (λ (es : List (Value × ℤ)). IsWalkWidth c.args.dense start doc (weights es) (weights w.before.entries) width) are.after_are is))
    c.remove_all.ensures.refuses
