use Rattle.std.proofs.Common.{◌≡◌, ◌++◌, ℤ, ℕ, List, pos, true, None, length, not, sym, ap, subst, ◌∙◌, arith, rules, w32, SFits, to_z, of_z, nat_cmp}
use Rattle.std.proofs.lemmas.Int.{to_z-of_z}
use Rattle.std.proofs.lemmas.Result.{err_from_is_err_and}
use Rattle.std.specs.BTreeMap.{get, insert_entry, is_at}
use Rattle.std.specs.List.{AllByRecursion}
use Rattle.std.specs.Map.{lookup}
use Rattle.store_api.proofs.May.{may_do-then}
use Rattle.store_api.specs.Units.{MakesWithin}
use Rattle.image_format.specs.Postings.{index_of}
use Rattle.index_model.proofs.MapLemmas.{was_weight}
use Rattle.index_model.specs.Changes.{is_weight}
use Rattle.index_model.specs.Index.{list_of, with_posting}
use Rattle.attr_types.specs.Value.{type_of, value_cmp}
use Rattle.attr_types.specs.declared.kind.ValueType.{ValueType}
use Rattle.attr_types.specs.declared.value.Value.{Value}
use Rattle.value_index.specs.Changes.{IsChangeWidth, MakesIndex}
use Rattle.value_index.specs.Indexes.{IsIndex}
use Rattle.value_index.proofs.AddLemmas.{adds_begin, adds_typed, adds_put, adds_same, adds_end}
use Rattle.value_index.specs.Changes.{add_most}
use Rattle.posting_store.specs.Lists.{AreOnes}
use Rattle.value_index.specs.Counts.{is_added, put_forms, put_records, value_nodes, IsLow}
use Rattle.value_index.proofs.FormLemmas.{between_ones, entry_one, one_here}
use Rattle.value_index.proofs.WalksCountLemmas.{few_added, low_added, counts_begin, counts_put, counts_pass, counts_end}
use Rattle.value_index.proofs.LevelLemmas.{dictionary_low, list_low}
use Rattle.value_index.proofs.WidthLemmas.{put_list, put_width}
use Rattle.value_index.specs.Widths.{IsWalkWidth}
use Rattle.posting_store.proofs.RefusalLemmas.{of_more}
use Rattle.value_index.proofs.walks_adding.add_all.Goals as goal

pub loop-value-init : goal.loop-value-init
loop-value-init g c =
    let ledger = g.S.Store.ledger c.args.store.now in
    let m = g.S.Frozen.records c.args.store.now in
    let lists = λ (v : Value). list_of v (index_of c.args.value_type m c.args.root) in
    let each = put_records lists c.args.doc in
    let form = put_forms c.args.dense lists c.args.doc in
    let rest = c.into_iter-value-iterator.ensures.into_iter_gives ∙ c.iter-value-items.ensures.rest in
    record {
      adds = adds_begin c.args.value_type ledger m c.args.root c.args.doc c.args.new.now.entries c.into_iter-value-iterator.result
          rest c.requires.unit c.requires.index
          (c.index_law.ensures.lawful c.args.value_type m c.args.root c.requires.index).formed c.requires.owns;
      plain = c.requires.form.plain;
      counts = counts_begin 34 each form ledger (is_added (get value_cmp c.args.old.now)) c.args.new.now.entries c.into_iter-value-iterator.result rest;
      low = λ levels low. counts_begin (value_nodes levels) each form ledger (is_added (get value_cmp c.args.old.now)) c.args.new.now.entries c.into_iter-value-iterator.result rest;
    }

pub add-requires : goal.add-requires
add-requires g c =
    let ledger = g.S.Store.ledger in
    let records = g.S.Frozen.records in
    let p = c.loop-value.invariant.adds in
    let typed = adds_typed c.args.value_type (ledger c.args.store.now) (records c.args.store.now) c.args.root c.args.doc c.args.new.now.entries
    (ledger c.loop-value.store) (records c.loop-value.store) c.loop-value.next c.loop-value.value-iterator c.next.new.self
    c.in-Some.value.now c.in-Some.weight.now c.iter-value-items.ensures.ordered p c.in-Some.ensures.steps c.requires.typed in
    let type = c.args.value_type in
    let m = records c.loop-value.store in
    let root = c.loop-value.next in
    let value = c.in-Some.value.now in
    let weight = c.in-Some.weight.now in
    let fits : SFits w32 weight = search rules in
    let listed = put_list (index_of type (records c.args.store.now) c.args.root) c.args.doc c.args.new.now.entries c.loop-value.value-iterator c.next.new.self value weight
    (index_of type m root) c.iter-value-items.ensures.ordered c.in-Some.ensures.steps p.walk in
    let ones = λ (wanted : c.args.dense ≡ true). subst {A = List (ℕ × ℤ)} AreOnes (subst (λ (t : ValueType). list_of value (index_of type (records c.args.store.now) c.args.root) ≡ list_of value (index_of t m root))
    (sym typed) listed)
    (c.requires.form.ones wanted value) in
    let joined = ap (λ es. p.walk.done ++ es) (sym c.in-Some.ensures.steps) ∙ p.walk.joins in
    let one = λ (wanted : c.args.dense ≡ true). one_here p.walk.done c.next.new.self value weight (subst (AllByRecursion (λ (e : Value × ℤ). e.1 ≡ pos 1)) (sym joined) (c.requires.ones wanted)) in (
      omega arith,
      (
        p.unit,
        (
          subst (λ t. IsIndex t m root) (sym typed) p.index_is,
          (
            p.owns,
            (
              c.loop-value.invariant.plain,
              (
                ones,
                subst (λ (w : ℤ). c.args.dense ≡ true → w ≡ pos 1) (sym (to_z-of_z w32 weight fits)) one,
              ),
            ),
          ),
        ),
      ),
    )

pub returns-in_err-next-clause-makes : goal.returns-in_err-next-clause-makes
returns-in_err-next-clause-makes g c = let p = err_from_is_err_and c.from_residual.result c.from_residual.ensures.1 in rw p.1 tt

pub returns-in_err-next-clause-counts : goal.returns-in_err-next-clause-counts
returns-in_err-next-clause-counts g c =
    let ledger = g.S.Store.ledger in
    let records = g.S.Frozen.records in
    let begun = ledger c.args.store.now in
    let now = ledger c.loop-value.store in
    let new = ledger c.add.new.store in
    let m = records c.loop-value.store in
    let root = c.loop-value.next in
    let value = c.in-Some.value.now in
    let weight = c.in-Some.weight.now in
    let type = c.args.value_type in
    let doc = c.args.doc in
    let entries = c.args.new.now.entries in
    let lists = λ (v : Value). list_of v (index_of type (records c.args.store.now) c.args.root) in
    let each = put_records lists doc in
    let form = put_forms c.args.dense lists doc in
    let fits : SFits w32 c.in-Some.weight.now = search rules in
    let test = is_added (get value_cmp c.args.old.now) in
    let p = c.loop-value.invariant.adds in
    let up = c.iter-value-items.ensures.ordered in
    let typed = adds_typed type begun (records c.args.store.now) c.args.root doc entries now m root c.loop-value.value-iterator c.next.new.self
    value weight up p c.in-Some.ensures.steps c.requires.typed in
    let listed = put_list (index_of type (records c.args.store.now) c.args.root) doc entries c.loop-value.value-iterator c.next.new.self value weight (index_of type m root) up c.in-Some.ensures.steps p.walk in
    let made = subst (λ (z : ℤ). MakesWithin now new (add_most value m root c.args.dense c.args.documents (insert_entry nat_cmp (list_of value (index_of (type_of value) m root)) doc z)))
    (to_z-of_z w32 weight fits) c.add.ensures.counts in
    counts_end 34 each form begun test entries new c.next.new.self
    (counts_put 34 each form begun test entries
    now c.loop-value.value-iterator c.next.new.self value weight c.loop-value.invariant.counts c.in-Some.ensures.steps
    (ap not (ap (λ (w : ℤ). is_weight w (get value_cmp c.args.old.now value)) (sym (to_z-of_z w32 weight fits)) ∙ sym c.has_weight.ensures ∙ c.if-not-has_weight.true))
    new p.may
    (few_added value weight m root doc (subst (λ t. IsIndex t m root) (sym typed) p.index_is) now new c.args.dense c.args.documents c.loop-value.invariant.plain lists
    (subst (λ (t : ValueType). list_of value (index_of type (records c.args.store.now) c.args.root) ≡ list_of value (index_of t m root)) (sym typed) listed) made))

pub returns-in_err-next-clause-low : goal.returns-in_err-next-clause-low
returns-in_err-next-clause-low g c =
    let ledger = g.S.Store.ledger in
    let records = g.S.Frozen.records in
    let begun = ledger c.args.store.now in
    let now = ledger c.loop-value.store in
    let new = ledger c.add.new.store in
    let m = records c.loop-value.store in
    let root = c.loop-value.next in
    let value = c.in-Some.value.now in
    let weight = c.in-Some.weight.now in
    let entries = c.args.new.now.entries in
    let fits : SFits w32 c.in-Some.weight.now = search rules in
    let test = is_added (get value_cmp c.args.old.now) in
    let p = c.loop-value.invariant.adds in
    let type = c.args.value_type in
    let doc = c.args.doc in
    let up = c.iter-value-items.ensures.ordered in
    let lists = λ (v : Value). list_of v (index_of type (records c.args.store.now) c.args.root) in
    let each = put_records lists doc in
    let form = put_forms c.args.dense lists doc in
    let typed = adds_typed type begun (records c.args.store.now) c.args.root doc entries now m root c.loop-value.value-iterator c.next.new.self
    value weight up p c.in-Some.ensures.steps c.requires.typed in
    let listed = put_list (index_of type (records c.args.store.now) c.args.root) doc entries c.loop-value.value-iterator c.next.new.self value weight (index_of type m root) up c.in-Some.ensures.steps p.walk in
    let made = subst (λ (z : ℤ). MakesWithin now new (add_most value m root c.args.dense c.args.documents (insert_entry nat_cmp (list_of value (index_of (type_of value) m root)) doc z)))
    (to_z-of_z w32 weight fits) c.add.ensures.counts in
    λ levels low.
    let here : IsLow levels (index_of c.args.value_type m root) = low p.walk.done c.loop-value.value-iterator (index_of c.args.value_type m root) p.walk.joins p.walk.between in
    counts_end (value_nodes levels) each form begun test entries new c.next.new.self
    (counts_put (value_nodes levels) each form begun test entries
    now c.loop-value.value-iterator c.next.new.self value weight (c.loop-value.invariant.low levels low) c.in-Some.ensures.steps
    (ap not (ap (λ (w : ℤ). is_weight w (get value_cmp c.args.old.now value)) (sym (to_z-of_z w32 weight fits)) ∙ sym c.has_weight.ensures ∙ c.if-not-has_weight.true))
    new p.may
    (low_added value weight m root doc levels (subst (λ t. IsIndex t m root) (sym typed) p.index_is) (dictionary_low type m root levels p.index_is here)
    (list_low value m root levels (subst (λ t. IsIndex t m root) (sym typed) p.index_is) (subst (λ t. IsLow levels (index_of t m root)) (sym typed) here))
    now new c.args.dense c.args.documents c.loop-value.invariant.plain lists (subst (λ (t : ValueType). list_of value (index_of type (records c.args.store.now) c.args.root) ≡ list_of value (index_of t m root))
    (sym typed) listed) made))

pub returns-in_err-next-clause-refuses : goal.returns-in_err-next-clause-refuses
returns-in_err-next-clause-refuses g c =
    let ledger = g.S.Store.ledger in
    let records = g.S.Frozen.records in
    let begun = ledger c.args.store.now in
    let now = ledger c.loop-value.store in
    let m = records c.loop-value.store in
    let root = c.loop-value.next in
    let value = c.in-Some.value.now in
    let weight = c.in-Some.weight.now in
    let doc = c.args.doc in
    let type = c.args.value_type in
    let entries = c.args.new.now.entries in
    let fits : SFits w32 weight = search rules in
    let up = c.iter-value-items.ensures.ordered in
    let walk = c.loop-value.invariant.adds in
    let start = index_of type (records c.args.store.now) c.args.root in
    let typed = adds_typed type begun (records c.args.store.now) c.args.root doc entries now m root c.loop-value.value-iterator c.next.new.self value weight up walk c.in-Some.ensures.steps c.requires.typed in
    let p = err_from_is_err_and c.from_residual.result c.from_residual.ensures.1 in
    rw (p.1, p.2) (of_more (IsChangeWidth c.args.dense value (length (insert_entry nat_cmp (list_of value (index_of (type_of value) m root)) doc (to_z w32 (of_z w32 weight)))))
    (IsWalkWidth c.args.dense start doc (get value_cmp c.args.new.now) (λ v. None)) begun now (ledger c.add.new.store) _ walk.may
    (λ w is. put_width start doc entries c.loop-value.value-iterator c.next.new.self value weight (index_of type m root) up c.in-Some.ensures.steps c.args.dense walk.walk w
    (subst (λ (t : ValueType). IsChangeWidth c.args.dense value (length (insert_entry nat_cmp (list_of value (index_of t m root)) doc weight)) w) typed
    (subst (λ (z : ℤ). IsChangeWidth c.args.dense value (length (insert_entry nat_cmp (list_of value (index_of (type_of value) m root)) doc z)) w) (to_z-of_z w32 weight fits) is)))
    c.in_err-next.ensures.refuses)

pub returns-in_err-next-clause-may : goal.returns-in_err-next-clause-may
returns-in_err-next-clause-may g c =
    let ledger = g.S.Store.ledger in
    may_do-then (ledger c.args.store.now) (ledger c.loop-value.store) (ledger c.add.new.store) c.loop-value.invariant.adds.may c.add.ensures.may

pub loop-value-preserved-then-not-has_weight : goal.loop-value-preserved-then-not-has_weight
loop-value-preserved-then-not-has_weight g c =
    let ledger = g.S.Store.ledger in
    let records = g.S.Frozen.records in
    let now = ledger c.loop-value.store in
    let new = ledger c.add.new.store in
    let m = records c.loop-value.store in
    let n = records c.add.new.store in
    let root = c.loop-value.next in
    let next = c.in_ok-next.next in
    let value = c.in-Some.value.now in
    let weight = c.in-Some.weight.now in
    let doc = c.args.doc in
    let p = c.loop-value.invariant.adds in
    let up = c.iter-value-items.ensures.ordered in
    let fits : SFits w32 c.in-Some.weight.now = search rules in
    let typed = adds_typed c.args.value_type (ledger c.args.store.now) (records c.args.store.now) c.args.root doc c.args.new.now.entries
    now m root c.loop-value.value-iterator c.next.new.self value weight up p c.in-Some.ensures.steps c.requires.typed in
    let type = c.args.value_type in
    let lists = λ (v : Value). list_of v (index_of type (records c.args.store.now) c.args.root) in
    let each = put_records lists doc in
    let form = put_forms c.args.dense lists doc in
    let listed = put_list (index_of type (records c.args.store.now) c.args.root) doc c.args.new.now.entries c.loop-value.value-iterator c.next.new.self value weight
    (index_of type m root) up c.in-Some.ensures.steps p.walk in
    let reads = subst (λ (t : ValueType). list_of value (index_of type (records c.args.store.now) c.args.root) ≡ list_of value (index_of t m root)) (sym typed) listed in
    let made = subst (λ (z : ℤ). MakesWithin now new (add_most value m root c.args.dense c.args.documents (insert_entry nat_cmp (list_of value (index_of (type_of value) m root)) doc z)))
    (to_z-of_z w32 weight fits) c.add.ensures.counts in
    let is_index = subst (λ t. IsIndex t m root) (sym typed) p.index_is in
    record {
      adds = adds_put c.args.value_type (ledger c.args.store.now) (records c.args.store.now) c.args.root doc c.args.new.now.entries
          now m root c.loop-value.value-iterator c.next.new.self value weight up p c.in-Some.ensures.steps
          c.key_law.ensures.read c.requires.index new n next c.add.ensures.may
          (subst (λ (t : ValueType). MakesIndex t now new m n root (with_posting value doc weight (index_of t m root)) next) typed
          (subst (λ (w : ℤ). MakesIndex (type_of value) now new m n root (with_posting value doc w (index_of (type_of value) m root)) next) (to_z-of_z w32 weight fits)
          c.in_ok-next.ensures.makes));
      plain = c.in_ok-next.ensures.plain;
      counts = counts_put 34 each form (ledger c.args.store.now) (is_added (get value_cmp c.args.old.now)) c.args.new.now.entries
          now c.loop-value.value-iterator c.next.new.self value weight c.loop-value.invariant.counts c.in-Some.ensures.steps
          (ap not (ap (λ (w : ℤ). is_weight w (get value_cmp c.args.old.now value)) (sym (to_z-of_z w32 weight fits)) ∙ sym c.has_weight.ensures ∙ c.if-not-has_weight.true))
          new p.may (few_added value weight m root doc is_index now new c.args.dense c.args.documents c.loop-value.invariant.plain lists reads made);
      low = λ levels low.
          let here : IsLow levels (index_of c.args.value_type m root) = low p.walk.done c.loop-value.value-iterator (index_of c.args.value_type m root) p.walk.joins p.walk.between in
          counts_put (value_nodes levels) each form (ledger c.args.store.now) (is_added (get value_cmp c.args.old.now)) c.args.new.now.entries
          now c.loop-value.value-iterator c.next.new.self value weight (c.loop-value.invariant.low levels low) c.in-Some.ensures.steps
          (ap not (ap (λ (w : ℤ). is_weight w (get value_cmp c.args.old.now value)) (sym (to_z-of_z w32 weight fits)) ∙ sym c.has_weight.ensures ∙ c.if-not-has_weight.true))
          new p.may
          (low_added value weight m root doc levels is_index (dictionary_low type m root levels p.index_is here)
          (list_low value m root levels is_index (subst (λ t. IsLow levels (index_of t m root)) (sym typed) here))
          now new c.args.dense c.args.documents c.loop-value.invariant.plain lists reads made);
    }

pub loop-value-preserved : goal.loop-value-preserved
loop-value-preserved g c =
    let ledger = g.S.Store.ledger in
    let records = g.S.Frozen.records in
    let value = c.in-Some.value.now in
    let weight = c.in-Some.weight.now in
    let lists = λ (v : Value). list_of v (index_of c.args.value_type (records c.args.store.now) c.args.root) in
    let each = put_records lists c.args.doc in
    let form = put_forms c.args.dense lists c.args.doc in
    let fits : SFits w32 c.in-Some.weight.now = search rules in
    let same = ap (λ (w : ℤ). is_weight w (get value_cmp c.args.old.now value)) (sym (to_z-of_z w32 weight fits))
    ∙ sym c.has_weight.ensures ∙ c.if-not-has_weight.false in
    record {
      adds = adds_same c.args.value_type (ledger c.args.store.now) (records c.args.store.now) c.args.root c.args.doc c.args.new.now.entries
          (ledger c.loop-value.store) (records c.loop-value.store) c.loop-value.next c.loop-value.value-iterator c.next.new.self value weight
          c.iter-value-items.ensures.ordered c.loop-value.invariant.adds c.in-Some.ensures.steps
          (c.requires.has value ∙ was_weight weight (get value_cmp c.args.old.now value) same);
      plain = c.loop-value.invariant.plain;
      counts = counts_pass 34 each form (ledger c.args.store.now) (is_added (get value_cmp c.args.old.now)) c.args.new.now.entries
          (ledger c.loop-value.store) c.loop-value.value-iterator c.next.new.self value weight c.loop-value.invariant.counts c.in-Some.ensures.steps (ap not same);
      low = λ levels low. counts_pass (value_nodes levels) each form (ledger c.args.store.now) (is_added (get value_cmp c.args.old.now)) c.args.new.now.entries
          (ledger c.loop-value.store) c.loop-value.value-iterator c.next.new.self value weight (c.loop-value.invariant.low levels low) c.in-Some.ensures.steps (ap not same);
    }

pub returns-clause-makes : goal.returns-clause-makes
returns-clause-makes g c =
    let ledger = g.S.Store.ledger in
    let records = g.S.Frozen.records in
    adds_end c.args.value_type (ledger c.args.store.now) (records c.args.store.now) c.args.root c.args.doc c.args.new.now.entries
    (ledger c.loop-value.store) (records c.loop-value.store) c.loop-value.next c.loop-value.value-iterator c.loop-value.invariant.adds c.in-None.ensures.steps.0

pub returns-in_err-next-clause-form : goal.returns-in_err-next-clause-form
returns-in_err-next-clause-form g c = let p = err_from_is_err_and c.from_residual.result c.from_residual.ensures.1 in rw p.1 tt

pub returns-clause-form : goal.returns-clause-form
returns-clause-form g c =
    let ledger = g.S.Store.ledger in
    let records = g.S.Frozen.records in
    let type = c.args.value_type in
    let entries = c.args.new.now.entries in
    let start = index_of type (records c.args.store.now) c.args.root in
    let walks = adds_end type (ledger c.args.store.now) (records c.args.store.now) c.args.root c.args.doc entries
    (ledger c.loop-value.store) (records c.loop-value.store) c.loop-value.next c.loop-value.value-iterator c.loop-value.invariant.adds c.in-None.ensures.steps.0 in
    record {
      ones = λ wanted. between_ones start c.args.doc (λ v. lookup (is_at (value_cmp v)) entries) (λ v. None) (index_of type (records c.loop-value.store) c.loop-value.next) walks.between
          (λ value weight. entry_one (is_at (value_cmp value)) entries weight (c.requires.ones wanted)) (c.requires.form.ones wanted);
      plain = c.loop-value.invariant.plain;
    }

pub returns-clause-counts : goal.returns-clause-counts
returns-clause-counts g c =
    let ledger = g.S.Store.ledger in
    let lists = λ (v : Value). list_of v (index_of c.args.value_type (g.S.Frozen.records c.args.store.now) c.args.root) in
    let each = put_records lists c.args.doc in
    let form = put_forms c.args.dense lists c.args.doc in
    counts_end 34 each form (ledger c.args.store.now) (is_added (get value_cmp c.args.old.now)) c.args.new.now.entries
    (ledger c.loop-value.store) c.loop-value.value-iterator c.loop-value.invariant.counts

pub returns-clause-low : goal.returns-clause-low
returns-clause-low g c =
    let ledger = g.S.Store.ledger in
    let lists = λ (v : Value). list_of v (index_of c.args.value_type (g.S.Frozen.records c.args.store.now) c.args.root) in
    let each = put_records lists c.args.doc in
    let form = put_forms c.args.dense lists c.args.doc in
    λ levels low.
    counts_end (value_nodes levels) each form (ledger c.args.store.now) (is_added (get value_cmp c.args.old.now)) c.args.new.now.entries
    (ledger c.loop-value.store) c.loop-value.value-iterator (c.loop-value.invariant.low levels low)

pub returns-clause-may : goal.returns-clause-may
returns-clause-may g c = c.loop-value.invariant.adds.may
