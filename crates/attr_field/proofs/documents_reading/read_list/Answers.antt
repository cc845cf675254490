use Rattle.std.proofs.Common.{◌≡◌, ◌+◌, ◌<◌, ◌∷◌, [], ◌++◌, ℕ, suc, length, map, take, slice_index, sym, ap, subst, ◌∙◌, arith}
use Rattle.std.proofs.lemmas.List.{take_all}
use Rattle.list_lemmas.proofs.Each.{AllByRecursion-at}
use Rattle.array_store.specs.Arrays.{IsArray}
use Rattle.image_format.specs.Values.{IsValueRecord}
use Rattle.image_format.specs.Words.{stored_items}
use Rattle.attr_types.specs.declared.items.Item.{Item}
use Rattle.attr_field.specs.Items.{item_of, word_entry}
use Rattle.attr_field.proofs.ReadLemmas.{map_more}
use Rattle.attr_field.proofs.documents_reading.read_list.Goals as goal

pub get-word-requires : goal.get-word-requires
get-word-requires g c =
    let records = g.F.Frozen.records in
    let same = sym c.loop-i.invariant.same in
    let count = c.count-i-end.ensures.count in
    let below = c.loop-i-test.true in (
      omega arith,
      (
        subst (λ (f : g.row.F.Denot). IsArray (records f c.args.list)) same c.requires.array,
        subst (λ (f : g.row.F.Denot). c.loop-i.i < length (stored_items (records f c.args.list))) same (omega arith),
      ),
    )

pub read_item-requires : goal.read_item-requires
read_item-requires g c =
    let records = g.F.Frozen.records in
    let m = records c.args.frozen.now in
    let ws = stored_items (m c.args.list) in
    let back = c.get-word.ensures.same ∙ c.loop-i.invariant.same in
    let count = c.count-i-end.ensures.count in
    let below = c.loop-i-test.true in
    let word = c.get-word.ensures.item ∙ ap (λ (f : g.row.F.Denot). slice_index (stored_items (records f c.args.list)) c.loop-i.i) c.loop-i.invariant.same in
    subst (λ (f : g.row.F.Denot). IsValueRecord c.args.value_type (records f (word_entry c.args.kind c.get-word.result).0)) (sym back)
    (subst (λ (w : ℕ). IsValueRecord c.args.value_type (m (word_entry c.args.kind w).0)) (sym word)
    (AllByRecursion-at (λ w. IsValueRecord c.args.value_type (m (word_entry c.args.kind w).0)) ws c.loop-i.i 0 (omega arith) c.requires.values))

pub loop-i-preserved : goal.loop-i-preserved
loop-i-preserved g c =
    let records = g.F.Frozen.records in
    let m = records c.args.frozen.now in
    let ws = stored_items (m c.args.list) in
    let back = c.get-word.ensures.same ∙ c.loop-i.invariant.same in
    let count = c.count-i-end.ensures.count in
    let below = c.loop-i-test.true in
    let word = c.get-word.ensures.item ∙ ap (λ (f : g.row.F.Denot). slice_index (stored_items (records f c.args.list)) c.loop-i.i) c.loop-i.invariant.same in
    let item = c.in_ok-item.ensures.item
    ∙ ap (λ (f : g.row.F.Denot). item_of c.args.value_type (records f) (word_entry c.args.kind c.get-word.result)) back
    ∙ ap (λ (w : ℕ). item_of c.args.value_type m (word_entry c.args.kind w)) word in
    record {
      same = c.read_item.ensures.same ∙ back;
      so_far = c.in_ok-push.ensures.items
          ∙ ap (λ (x : Item). c.loop-i.items.items ++ x ∷ []) item
          ∙ ap (λ xs. xs ++ item_of c.args.value_type m (word_entry c.args.kind (slice_index ws c.loop-i.i)) ∷ []) c.loop-i.invariant.so_far
          ∙ sym (map_more (λ w. item_of c.args.value_type m (word_entry c.args.kind w)) ws c.loop-i.i (omega arith))
          ∙ ap (λ j. map (λ w. item_of c.args.value_type m (word_entry c.args.kind w)) (take j ws)) (let e : suc c.loop-i.i ≡ c.loop-i.i + 1 = omega arith in e);
    }

pub returns-clause-items : goal.returns-clause-items
returns-clause-items g c =
    let m = g.F.Frozen.records c.args.frozen.now in
    let ws = stored_items (m c.args.list) in
    let count = c.count-i-end.ensures.count in
    let no = c.loop-i-test.false in
    c.from_vec.ensures ∙ c.loop-i.invariant.so_far
    ∙ ap (map (λ w. item_of c.args.value_type m (word_entry c.args.kind w))) (take_all c.loop-i.i ws (omega arith))
