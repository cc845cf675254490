use Rattle.std.proofs.Common.{◌≡◌, ℕ, ℤ, List, true, length, not, nat_cmp, sym, ap, subst, ◌∙◌, arith}
use Rattle.std.proofs.lemmas.Result.{err_from_is_err_and}
use Rattle.std.specs.BTreeMap.{get, is_at}
use Rattle.std.specs.Map.{remove_entry}
use Rattle.store_api.proofs.May.{may_do-then}
use Rattle.image_format.specs.Postings.{index_of}
use Rattle.index_model.proofs.MapLemmas.{none_then, some_then}
use Rattle.index_model.specs.Index.{list_of, without_posting}
use Rattle.attr_types.specs.Value.{type_of, value_cmp}
use Rattle.attr_types.specs.declared.kind.ValueType.{ValueType}
use Rattle.attr_types.specs.declared.value.Value.{Value}
use Rattle.value_index.specs.Changes.{IsChangeWidth, MakesIndex}
use Rattle.value_index.specs.Indexes.{IsIndex}
use Rattle.index_model.specs.Changes.{first_given}
use Rattle.posting_store.specs.Lists.{AreOnes}
use Rattle.value_index.specs.Counts.{is_gone, taken_forms, taken_records, value_nodes, IsLow}
use Rattle.value_index.proofs.FormLemmas.{between_ones, ones_lookup}
use Rattle.value_index.proofs.WalksCountLemmas.{few_gone, low_gone, counts_begin, counts_put, counts_pass, counts_end}
use Rattle.value_index.proofs.RemoveLemmas.{removes_begin, removes_typed, removes_there, removes_take, removes_stay, removes_end, IsThere}
use Rattle.value_index.proofs.LevelLemmas.{dictionary_low, list_low}
use Rattle.value_index.proofs.WidthLemmas.{take_list, take_width}
use Rattle.value_index.specs.Widths.{IsWalkWidth}
use Rattle.posting_store.proofs.RefusalLemmas.{of_more}
use Rattle.value_index.proofs.walks_removing.remove_all.Goals as goal

pub loop-value-init : goal.loop-value-init
loop-value-init g c =
    let ledger = g.S.Store.ledger c.args.store.now in
    let m = g.S.Frozen.records c.args.store.now in
    let lists = λ (v : Value). list_of v (index_of c.args.value_type m c.args.root) in
    let each = taken_records lists c.args.doc in
    let form = taken_forms c.args.dense lists c.args.doc in
    let rest = c.into_iter-value-iterator.ensures.into_iter_gives ∙ c.iter-value-items.ensures.rest in
    record {
      removes = removes_begin c.args.value_type ledger m c.args.root c.args.doc (get value_cmp c.args.new.now) c.args.old.now.entries c.into_iter-value-iterator.result
          rest c.requires.unit c.requires.index
          (c.index_law.ensures.lawful c.args.value_type m c.args.root c.requires.index).formed c.requires.owns c.requires.has;
      plain = c.requires.form.plain;
      counts = counts_begin 34 each form ledger (is_gone (get value_cmp c.args.new.now)) c.args.old.now.entries c.into_iter-value-iterator.result rest;
      low = λ levels low. counts_begin (value_nodes levels) each form ledger (is_gone (get value_cmp c.args.new.now)) c.args.old.now.entries c.into_iter-value-iterator.result rest;
    }

pub remove-requires : goal.remove-requires
remove-requires g c =
    let ledger = g.S.Store.ledger in
    let records = g.S.Frozen.records in
    let p = c.loop-value.invariant.removes in
    let m = records c.loop-value.store in
    let value = c.in-Some.value.now in
    let added = get value_cmp c.args.new.now in
    let typed = removes_typed c.args.value_type (ledger c.args.store.now) (records c.args.store.now) c.args.root c.args.doc added c.args.old.now.entries
    (ledger c.loop-value.store) m c.loop-value.next c.loop-value.value-iterator c.next.new.self
    value c.in-Some.field-0-1.now c.iter-value-items.ensures.ordered p c.in-Some.ensures.steps c.requires.typed in
    let there = removes_there c.args.value_type (ledger c.args.store.now) (records c.args.store.now) c.args.root c.args.doc added c.args.old.now.entries
    (ledger c.loop-value.store) m c.loop-value.next c.loop-value.value-iterator c.next.new.self
    value c.in-Some.field-0-1.now c.iter-value-items.ensures.ordered p c.in-Some.ensures.steps c.requires.has
    (none_then (added value) (sym c.contains_key.ensures ∙ c.if-not-contains_key.true)) in
    let type = c.args.value_type in
    let root = c.loop-value.next in
    let listed = take_list (index_of type (records c.args.store.now) c.args.root) c.args.doc c.args.old.now.entries c.loop-value.value-iterator c.next.new.self value c.in-Some.field-0-1.now (index_of type m root)
    c.iter-value-items.ensures.ordered c.in-Some.ensures.steps added p.walk (none_then (added value) (sym c.contains_key.ensures ∙ c.if-not-contains_key.true)) in
    let ones = λ (wanted : c.args.dense ≡ true). subst {A = List (ℕ × ℤ)} AreOnes (subst (λ (t : ValueType). list_of value (index_of type (records c.args.store.now) c.args.root) ≡ list_of value (index_of t m root))
    (sym typed) listed)
    (c.requires.form.ones wanted value) in (
      omega arith,
      (
        p.unit,
        (
          subst (λ t. IsIndex t m c.loop-value.next) (sym typed) p.index_is,
          (
            p.owns,
            (
              c.loop-value.invariant.plain,
              (
                ones,
                subst (λ (t : ValueType). IsThere t m c.loop-value.next c.args.doc value) (sym typed) there,
              ),
            ),
          ),
        ),
      ),
    )

pub returns-in_err-next-clause-makes : goal.returns-in_err-next-clause-makes
returns-in_err-next-clause-makes g c = let p = err_from_is_err_and c.from_residual.result c.from_residual.ensures.1 in rw p.1 tt

pub returns-in_err-next-clause-counts : goal.returns-in_err-next-clause-counts
returns-in_err-next-clause-counts g c =
    let ledger = g.S.Store.ledger in
    let records = g.S.Frozen.records in
    let begun = ledger c.args.store.now in
    let now = ledger c.loop-value.store in
    let new = ledger c.remove.new.store in
    let m = records c.loop-value.store in
    let root = c.loop-value.next in
    let value = c.in-Some.value.now in
    let weight = c.in-Some.field-0-1.now in
    let type = c.args.value_type in
    let doc = c.args.doc in
    let entries = c.args.old.now.entries in
    let added = get value_cmp c.args.new.now in
    let test = is_gone added in
    let lists = λ (v : Value). list_of v (index_of type (records c.args.store.now) c.args.root) in
    let each = taken_records lists doc in
    let form = taken_forms c.args.dense lists doc in
    let p = c.loop-value.invariant.removes in
    let up = c.iter-value-items.ensures.ordered in
    let gone = sym c.contains_key.ensures ∙ c.if-not-contains_key.true in
    let typed = removes_typed type begun (records c.args.store.now) c.args.root doc added entries now m root c.loop-value.value-iterator c.next.new.self
    value weight up p c.in-Some.ensures.steps c.requires.typed in
    let listed = take_list (index_of type (records c.args.store.now) c.args.root) doc entries c.loop-value.value-iterator c.next.new.self value weight (index_of type m root) up c.in-Some.ensures.steps
    added p.walk (none_then (added value) gone) in
    counts_end 34 each form begun test entries new c.next.new.self
    (counts_put 34 each form begun test entries
    now c.loop-value.value-iterator c.next.new.self value weight c.loop-value.invariant.counts c.in-Some.ensures.steps (ap not gone) new p.may
    (few_gone value weight m root doc (subst (λ t. IsIndex t m root) (sym typed) p.index_is) now new c.args.dense c.args.documents c.loop-value.invariant.plain lists
    (subst (λ (t : ValueType). list_of value (index_of type (records c.args.store.now) c.args.root) ≡ list_of value (index_of t m root)) (sym typed) listed) c.remove.ensures.counts))

pub returns-in_err-next-clause-low : goal.returns-in_err-next-clause-low
returns-in_err-next-clause-low g c =
    let ledger = g.S.Store.ledger in
    let records = g.S.Frozen.records in
    let begun = ledger c.args.store.now in
    let now = ledger c.loop-value.store in
    let new = ledger c.remove.new.store in
    let m = records c.loop-value.store in
    let root = c.loop-value.next in
    let value = c.in-Some.value.now in
    let weight = c.in-Some.field-0-1.now in
    let entries = c.args.old.now.entries in
    let added = get value_cmp c.args.new.now in
    let test = is_gone added in
    let p = c.loop-value.invariant.removes in
    let type = c.args.value_type in
    let doc = c.args.doc in
    let up = c.iter-value-items.ensures.ordered in
    let lists = λ (v : Value). list_of v (index_of type (records c.args.store.now) c.args.root) in
    let each = taken_records lists doc in
    let form = taken_forms c.args.dense lists doc in
    let gone = sym c.contains_key.ensures ∙ c.if-not-contains_key.true in
    let typed = removes_typed type begun (records c.args.store.now) c.args.root doc added entries now m root c.loop-value.value-iterator c.next.new.self
    value weight up p c.in-Some.ensures.steps c.requires.typed in
    let listed = take_list (index_of type (records c.args.store.now) c.args.root) doc entries c.loop-value.value-iterator c.next.new.self value weight (index_of type m root) up c.in-Some.ensures.steps
    added p.walk (none_then (added value) gone) in
    λ levels low.
    let here : IsLow levels (index_of c.args.value_type m root) = low p.walk.done c.loop-value.value-iterator (index_of c.args.value_type m root) p.walk.joins p.walk.between in
    counts_end (value_nodes levels) each form begun test entries new c.next.new.self
    (counts_put (value_nodes levels) each form begun test entries
    now c.loop-value.value-iterator c.next.new.self value weight (c.loop-value.invariant.low levels low) c.in-Some.ensures.steps
    (ap not (sym c.contains_key.ensures ∙ c.if-not-contains_key.true)) new p.may
    (low_gone value weight m root doc levels (subst (λ t. IsIndex t m root) (sym typed) p.index_is) (dictionary_low type m root levels p.index_is here)
    (list_low value m root levels (subst (λ t. IsIndex t m root) (sym typed) p.index_is) (subst (λ t. IsLow levels (index_of t m root)) (sym typed) here))
    now new c.args.dense c.args.documents c.loop-value.invariant.plain lists (subst (λ (t : ValueType). list_of value (index_of type (records c.args.store.now) c.args.root) ≡ list_of value (index_of t m root))
    (sym typed) listed) c.remove.ensures.counts))

pub returns-in_err-next-clause-refuses : goal.returns-in_err-next-clause-refuses
returns-in_err-next-clause-refuses g c =
    let ledger = g.S.Store.ledger in
    let records = g.S.Frozen.records in
    let begun = ledger c.args.store.now in
    let now = ledger c.loop-value.store in
    let m = records c.loop-value.store in
    let root = c.loop-value.next in
    let value = c.in-Some.value.now in
    let weight = c.in-Some.field-0-1.now in
    let doc = c.args.doc in
    let type = c.args.value_type in
    let entries = c.args.old.now.entries in
    let added = get value_cmp c.args.new.now in
    let up = c.iter-value-items.ensures.ordered in
    let walk = c.loop-value.invariant.removes in
    let start = index_of type (records c.args.store.now) c.args.root in
    let typed = removes_typed type begun (records c.args.store.now) c.args.root doc added entries now m root c.loop-value.value-iterator c.next.new.self value weight up walk c.in-Some.ensures.steps c.requires.typed in
    let p = err_from_is_err_and c.from_residual.result c.from_residual.ensures.1 in
    rw (p.1, p.2) (of_more (IsChangeWidth c.args.dense value (length (remove_entry (is_at (nat_cmp doc)) (list_of value (index_of (type_of value) m root)))))
    (IsWalkWidth c.args.dense start doc added (get value_cmp c.args.old.now)) begun now (ledger c.remove.new.store) _ walk.may
    (λ w is. take_width start doc entries c.loop-value.value-iterator c.next.new.self value weight (index_of type m root) up c.in-Some.ensures.steps c.args.dense added walk.walk
    (none_then (added value) (sym c.contains_key.ensures ∙ c.if-not-contains_key.true)) w
    (subst (λ (t : ValueType). IsChangeWidth c.args.dense value (length (remove_entry (is_at (nat_cmp doc)) (list_of value (index_of t m root)))) w) typed is))
    c.in_err-next.ensures.refuses)

pub returns-in_err-next-clause-may : goal.returns-in_err-next-clause-may
returns-in_err-next-clause-may g c =
    let ledger = g.S.Store.ledger in
    may_do-then (ledger c.args.store.now) (ledger c.loop-value.store) (ledger c.remove.new.store) c.loop-value.invariant.removes.may c.remove.ensures.may

pub loop-value-preserved-then-not-contains_key : goal.loop-value-preserved-then-not-contains_key
loop-value-preserved-then-not-contains_key g c =
    let ledger = g.S.Store.ledger in
    let records = g.S.Frozen.records in
    let now = ledger c.loop-value.store in
    let new = ledger c.remove.new.store in
    let m = records c.loop-value.store in
    let n = records c.remove.new.store in
    let root = c.loop-value.next in
    let next = c.in_ok-next.next in
    let value = c.in-Some.value.now in
    let weight = c.in-Some.field-0-1.now in
    let doc = c.args.doc in
    let added = get value_cmp c.args.new.now in
    let p = c.loop-value.invariant.removes in
    let up = c.iter-value-items.ensures.ordered in
    let typed = removes_typed c.args.value_type (ledger c.args.store.now) (records c.args.store.now) c.args.root doc added c.args.old.now.entries
    now m root c.loop-value.value-iterator c.next.new.self value weight up p c.in-Some.ensures.steps c.requires.typed in
    let gone = sym c.contains_key.ensures ∙ c.if-not-contains_key.true in
    let type = c.args.value_type in
    let lists = λ (v : Value). list_of v (index_of type (records c.args.store.now) c.args.root) in
    let each = taken_records lists doc in
    let form = taken_forms c.args.dense lists doc in
    let listed = take_list (index_of type (records c.args.store.now) c.args.root) doc c.args.old.now.entries c.loop-value.value-iterator c.next.new.self value weight (index_of type m root) up c.in-Some.ensures.steps
    added p.walk (none_then (added value) gone) in
    let reads = subst (λ (t : ValueType). list_of value (index_of type (records c.args.store.now) c.args.root) ≡ list_of value (index_of t m root)) (sym typed) listed in
    let is_index = subst (λ t. IsIndex t m root) (sym typed) p.index_is in
    record {
      removes = removes_take c.args.value_type (ledger c.args.store.now) (records c.args.store.now) c.args.root doc added c.args.old.now.entries
          now m root c.loop-value.value-iterator c.next.new.self value weight up p c.in-Some.ensures.steps
          (none_then (added value) gone) new n next c.remove.ensures.may
          (subst (λ (t : ValueType). MakesIndex t now new m n root (without_posting value doc (index_of t m root)) next) typed c.in_ok-next.ensures.makes);
      plain = c.in_ok-next.ensures.plain;
      counts = counts_put 34 each form (ledger c.args.store.now) (is_gone added) c.args.old.now.entries
          now c.loop-value.value-iterator c.next.new.self value weight c.loop-value.invariant.counts c.in-Some.ensures.steps
          (ap not gone) new p.may (few_gone value weight m root doc is_index now new c.args.dense c.args.documents c.loop-value.invariant.plain lists reads c.remove.ensures.counts);
      low = λ levels low.
          let here : IsLow levels (index_of c.args.value_type m root) = low p.walk.done c.loop-value.value-iterator (index_of c.args.value_type m root) p.walk.joins p.walk.between in
          counts_put (value_nodes levels) each form (ledger c.args.store.now) (is_gone added) c.args.old.now.entries
          now c.loop-value.value-iterator c.next.new.self value weight (c.loop-value.invariant.low levels low) c.in-Some.ensures.steps
          (ap not gone) new p.may
          (low_gone value weight m root doc levels is_index (dictionary_low type m root levels p.index_is here)
          (list_low value m root levels is_index (subst (λ t. IsLow levels (index_of t m root)) (sym typed) here))
          now new c.args.dense c.args.documents c.loop-value.invariant.plain lists reads c.remove.ensures.counts);
    }

pub loop-value-preserved : goal.loop-value-preserved
loop-value-preserved g c =
    let ledger = g.S.Store.ledger in
    let records = g.S.Frozen.records in
    let value = c.in-Some.value.now in
    let lists = λ (v : Value). list_of v (index_of c.args.value_type (records c.args.store.now) c.args.root) in
    let each = taken_records lists c.args.doc in
    let form = taken_forms c.args.dense lists c.args.doc in
    let added = get value_cmp c.args.new.now in
    let there = sym c.contains_key.ensures ∙ c.if-not-contains_key.false in
    let other = some_then (added value) there in
    record {
      removes = removes_stay c.args.value_type (ledger c.args.store.now) (records c.args.store.now) c.args.root c.args.doc added c.args.old.now.entries
          (ledger c.loop-value.store) (records c.loop-value.store) c.loop-value.next c.loop-value.value-iterator c.next.new.self value c.in-Some.field-0-1.now
          c.iter-value-items.ensures.ordered c.loop-value.invariant.removes c.in-Some.ensures.steps other.0 other.1;
      plain = c.loop-value.invariant.plain;
      counts = counts_pass 34 each form (ledger c.args.store.now) (is_gone added) c.args.old.now.entries
          (ledger c.loop-value.store) c.loop-value.value-iterator c.next.new.self value c.in-Some.field-0-1.now c.loop-value.invariant.counts c.in-Some.ensures.steps (ap not there);
      low = λ levels low. counts_pass (value_nodes levels) each form (ledger c.args.store.now) (is_gone added) c.args.old.now.entries
          (ledger c.loop-value.store) c.loop-value.value-iterator c.next.new.self value c.in-Some.field-0-1.now (c.loop-value.invariant.low levels low) c.in-Some.ensures.steps (ap not there);
    }

pub returns-clause-makes : goal.returns-clause-makes
returns-clause-makes g c =
    let ledger = g.S.Store.ledger in
    let records = g.S.Frozen.records in
    removes_end c.args.value_type (ledger c.args.store.now) (records c.args.store.now) c.args.root c.args.doc (get value_cmp c.args.new.now) c.args.old.now.entries
    (ledger c.loop-value.store) (records c.loop-value.store) c.loop-value.next c.loop-value.value-iterator c.loop-value.invariant.removes c.in-None.ensures.steps.0

pub returns-in_err-next-clause-form : goal.returns-in_err-next-clause-form
returns-in_err-next-clause-form g c = let p = err_from_is_err_and c.from_residual.result c.from_residual.ensures.1 in rw p.1 tt

pub returns-clause-form : goal.returns-clause-form
returns-clause-form g c =
    let ledger = g.S.Store.ledger in
    let records = g.S.Frozen.records in
    let type = c.args.value_type in
    let doc = c.args.doc in
    let added = get value_cmp c.args.new.now in
    let removed = get value_cmp c.args.old.now in
    let start = index_of type (records c.args.store.now) c.args.root in
    let walks = removes_end type (ledger c.args.store.now) (records c.args.store.now) c.args.root doc added c.args.old.now.entries
    (ledger c.loop-value.store) (records c.loop-value.store) c.loop-value.next c.loop-value.value-iterator c.loop-value.invariant.removes c.in-None.ensures.steps.0 in
    record {
      ones = λ wanted. between_ones start doc added removed (index_of type (records c.loop-value.store) c.loop-value.next) walks.between
          (λ value weight is. ones_lookup (is_at (nat_cmp doc)) (list_of value start) weight (c.requires.form.ones wanted value)
          (c.requires.has value ∙ ap (λ o. first_given o (removed value)) is)) (c.requires.form.ones wanted);
      plain = c.loop-value.invariant.plain;
    }

pub returns-clause-counts : goal.returns-clause-counts
returns-clause-counts g c =
    let ledger = g.S.Store.ledger in
    let lists = λ (v : Value). list_of v (index_of c.args.value_type (g.S.Frozen.records c.args.store.now) c.args.root) in
    let each = taken_records lists c.args.doc in
    let form = taken_forms c.args.dense lists c.args.doc in
    counts_end 34 each form (ledger c.args.store.now) (is_gone (get value_cmp c.args.new.now)) c.args.old.now.entries
    (ledger c.loop-value.store) c.loop-value.value-iterator c.loop-value.invariant.counts

pub returns-clause-low : goal.returns-clause-low
returns-clause-low g c =
    let ledger = g.S.Store.ledger in
    let lists = λ (v : Value). list_of v (index_of c.args.value_type (g.S.Frozen.records c.args.store.now) c.args.root) in
    let each = taken_records lists c.args.doc in
    let form = taken_forms c.args.dense lists c.args.doc in
    λ levels low.
    counts_end (value_nodes levels) each form (ledger c.args.store.now) (is_gone (get value_cmp c.args.new.now)) c.args.old.now.entries
    (ledger c.loop-value.store) c.loop-value.value-iterator (c.loop-value.invariant.low levels low)

pub returns-clause-may : goal.returns-clause-may
returns-clause-may g c = c.loop-value.invariant.removes.may
