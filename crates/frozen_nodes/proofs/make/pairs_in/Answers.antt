use Rattle.std.proofs.Common.{◌≡◌, ◌<◌, ◌≤◌, ◌+◌, ◌-◌, ℕ, List, length, get_or, ap, subst, ◌∙◌, arith}
use Rattle.entry_ref.specs.Records.{word_at}
use Rattle.tree_read.specs.Nodes.{count_of}
use Rattle.tree_read.specs.Trees.{pairs_below}
use Rattle.std.specs.List.{flat_map}
use Rattle.std.proofs.lemmas.List.{take_all}
use Rattle.tree_read.proofs.CountLemmas.{leaf_count, child_size, counted_more, count_within, counted_all}
use Rattle.frozen_nodes.proofs.make.pairs_in.Goals as goal

pub returns-then-slots-eq0-clause-count : goal.returns-then-slots-eq0-clause-count
returns-then-slots-eq0-clause-count g c =
    let m = g.F.Frozen.records c.args.frozen.now in
    let slots = c.args.slots.now in
    c.len.ensures.value ∙ leaf_count m slots.keys.items slots.values.items slots.level c.if-slots-eq0.true c.requires.hand

pub overflow_cast-child : goal.overflow_cast-child
overflow_cast-child g c =
    let m = g.F.Frozen.records c.args.frozen.now in
    let slots = c.args.slots.now in
    let i = c.loop-child.child-index in
    let is : get_or c.as_slice-child-items.result.now i 0 ≡ get_or slots.values.items i 0 = ap (λ (xs : List ℕ). get_or xs i 0) c.as_slice-child-items.ensures.value in
    let low : i < length slots.values.items = subst (λ (xs : List ℕ). i < length xs) c.as_slice-child-items.ensures.value c.loop-child-test.true in
    let size = child_size m slots.keys.items slots.values.items i low slots.level c.if-slots-eq0.false c.requires.hand in
    let small : get_or slots.values.items i 0 < 4294967296 = g.met.F.Frozen.references c.args.frozen.now (get_or slots.values.items i 0) (omega arith) in
    omega arith

pub word-count-requires : goal.word-count-requires
word-count-requires g c =
    let m = g.F.Frozen.records c.args.frozen.now in
    let slots = c.args.slots.now in
    let i = c.loop-child.child-index in
    let is : c.from_raw.result ≡ get_or slots.values.items i 0 = c.from_raw.ensures ∙ ap (λ (xs : List ℕ). get_or xs i 0) c.as_slice-child-items.ensures.value in
    let low : i < length slots.values.items = subst (λ (xs : List ℕ). i < length xs) c.as_slice-child-items.ensures.value c.loop-child-test.true in
    let size = child_size m slots.keys.items slots.values.items i low slots.level c.if-slots-eq0.false c.requires.hand in
    let here : length (g.F.Frozen.records c.loop-child.frozen c.from_raw.result) ≡ 34 =
    ap (λ f. length (g.F.Frozen.records f c.from_raw.result)) c.loop-child.invariant.same ∙ ap (λ r. length (m r)) is ∙ size in
    omega arith

pub overflow_add-count : goal.overflow_add-count
overflow_add-count g c =
    let m = g.F.Frozen.records c.args.frozen.now in
    let slots = c.args.slots.now in
    let i = c.loop-child.child-index in
    let is : c.from_raw.result ≡ get_or slots.values.items i 0 = c.from_raw.ensures ∙ ap (λ (xs : List ℕ). get_or xs i 0) c.as_slice-child-items.ensures.value in
    let low : i < length slots.values.items = subst (λ (xs : List ℕ). i < length xs) c.as_slice-child-items.ensures.value c.loop-child-test.true in
    let here : c.word-count.result ≡ count_of (m (get_or slots.values.items i 0)) =
    c.word-count.ensures.value ∙ ap (λ f. word_at (g.F.Frozen.records f) c.from_raw.result 1) c.loop-child.invariant.same ∙ ap (λ r. count_of (m r)) is in
    let within = count_within m slots.keys.items slots.values.items i low slots.level c.loop-child.count c.if-slots-eq0.false c.requires.hand c.loop-child.invariant.count in
    let few = c.requires.few in
    omega arith

pub loop-child-preserved : goal.loop-child-preserved
loop-child-preserved g c =
    let m = g.F.Frozen.records c.args.frozen.now in
    let slots = c.args.slots.now in
    let i = c.loop-child.child-index in
    let is : c.from_raw.result ≡ get_or slots.values.items i 0 = c.from_raw.ensures ∙ ap (λ (xs : List ℕ). get_or xs i 0) c.as_slice-child-items.ensures.value in
    let low : i < length slots.values.items = subst (λ (xs : List ℕ). i < length xs) c.as_slice-child-items.ensures.value c.loop-child-test.true in
    let here : c.word-count.result ≡ count_of (m (get_or slots.values.items i 0)) =
    c.word-count.ensures.value ∙ ap (λ f. word_at (g.F.Frozen.records f) c.from_raw.result 1) c.loop-child.invariant.same ∙ ap (λ r. count_of (m r)) is in
    record {
      same = c.word-count.ensures.same ∙ c.loop-child.invariant.same;
      count = ap (λ w. c.loop-child.count + w) here ∙ counted_more m slots.keys.items slots.values.items i low slots.level c.loop-child.count c.if-slots-eq0.false c.requires.hand c.loop-child.invariant.count;
    }

pub returns-clause-count : goal.returns-clause-count
returns-clause-count g c =
    let m = g.F.Frozen.records c.args.frozen.now in
    let slots = c.args.slots.now in
    let i = c.loop-child.child-index in
    let past : length slots.values.items ≤ i = subst (λ (xs : List ℕ). length xs ≤ i) c.as_slice-child-items.ensures.value c.loop-child-test.false in
    counted_all m slots.keys.items slots.values.items slots.level c.loop-child.count c.if-slots-eq0.false
    (c.loop-child.invariant.count ∙ ap (λ (xs : List ℕ). length (flat_map (pairs_below m (slots.level - 1)) xs)) (take_all i slots.values.items past))
