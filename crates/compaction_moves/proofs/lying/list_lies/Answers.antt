use Rattle.std.proofs.Common.{◌≡◌, ◌≢◌, ◌<◌, ◌+◌, ℕ, suc, length, map, take, slice_index, sym, ap, subst, ◌∙◌, arith}
use Rattle.std.proofs.lemmas.List.{take_all}
use Rattle.list_lemmas.proofs.Each.{AllByRecursion-at}
use Rattle.entry_ref.specs.References.{buffer_of}
use Rattle.frozen_btree.specs.Paths.{NoneIn}
use Rattle.array_store.specs.Arrays.{IsArray}
use Rattle.image_format.specs.Values.{IsValueRecord}
use Rattle.image_format.specs.Words.{stored_items}
use Rattle.compaction_moves.proofs.LyingLemmas.{record_of, none_at, none_more}
use Rattle.compaction_moves.proofs.lying.list_lies.Goals as goal

pub get-word-requires : goal.get-word-requires
get-word-requires g c =
    let records = g.F.Frozen.records in
    let same = sym c.loop-i.invariant.same in
    let count = c.count-i-end.ensures.count in
    let below = c.loop-i-test.true in (
      omega arith,
      (
        subst (λ (f : g.row.F.Denot). IsArray (records f c.args.list)) same c.requires.array,
        subst (λ (f : g.row.F.Denot). c.loop-i.i < length (stored_items (records f c.args.list))) same (omega arith),
      ),
    )

pub value_lies-requires : goal.value_lies-requires
value_lies-requires g c =
    let records = g.F.Frozen.records in
    let m = records c.args.frozen.now in
    let ws = stored_items (m c.args.list) in
    let kind = c.args.kind in
    let type = c.args.value_type in
    let back = c.get-word.ensures.same ∙ c.loop-i.invariant.same in
    let count = c.count-i-end.ensures.count in
    let below = c.loop-i-test.true in
    let word = c.get-word.ensures.item ∙ ap (λ (f : g.row.F.Denot). slice_index (stored_items (records f c.args.list)) c.loop-i.i) c.loop-i.invariant.same in
    let key = c.record_in-key.ensures ∙ ap (record_of kind) word in
    subst (λ (f : g.row.F.Denot). IsValueRecord type (records f c.record_in-key.result)) (sym back)
    (subst (λ (k : ℕ). IsValueRecord type (m k)) (sym key)
    (AllByRecursion-at (λ w. IsValueRecord type (m (record_of kind w))) ws c.loop-i.i 0 (omega arith) c.requires.values))

pub loop-i-preserved : goal.loop-i-preserved
loop-i-preserved g c =
    let records = g.F.Frozen.records in
    let m = records c.args.frozen.now in
    let ws = stored_items (m c.args.list) in
    let kind = c.args.kind in
    let bits = g.row.OFFSET_BITS in
    let buffer = c.args.buffer in
    let back = c.get-word.ensures.same ∙ c.loop-i.invariant.same in
    let count = c.count-i-end.ensures.count in
    let below = c.loop-i-test.true in
    let word = c.get-word.ensures.item ∙ ap (λ (f : g.row.F.Denot). slice_index (stored_items (records f c.args.list)) c.loop-i.i) c.loop-i.invariant.same in
    let key = c.record_in-key.ensures ∙ ap (record_of kind) word in
    let here : buffer_of bits (record_of kind (slice_index ws c.loop-i.i)) ≢ buffer = (λ e. c.value_lies.ensures.away c.if-value_lies.false (ap (buffer_of bits) key ∙ e)) in
    record {
      same = c.value_lies.ensures.same ∙ back;
      so_far = subst (λ j. NoneIn bits buffer (map (record_of kind) (take j ws))) (let e : suc c.loop-i.i ≡ c.loop-i.i + 1 = omega arith in e)
          (none_more bits buffer (record_of kind) ws c.loop-i.i (omega arith) c.loop-i.invariant.so_far here);
    }

pub returns-then-value_lies-clause-lies : goal.returns-then-value_lies-clause-lies
returns-then-value_lies-clause-lies g c told none =
    let records = g.F.Frozen.records in
    let m = records c.args.frozen.now in
    let ws = stored_items (m c.args.list) in
    let kind = c.args.kind in
    let bits = g.row.OFFSET_BITS in
    let count = c.count-i-end.ensures.count in
    let below = c.loop-i-test.true in
    let word = c.get-word.ensures.item ∙ ap (λ (f : g.row.F.Denot). slice_index (stored_items (records f c.args.list)) c.loop-i.i) c.loop-i.invariant.same in
    let key = c.record_in-key.ensures ∙ ap (record_of kind) word in
    none_at bits c.args.buffer (record_of kind) ws c.loop-i.i (omega arith) none (ap (buffer_of bits) (sym key) ∙ c.value_lies.ensures.lies c.if-value_lies.true)

pub returns-clause-away : goal.returns-clause-away
returns-clause-away g c none =
    let m = g.F.Frozen.records c.args.frozen.now in
    let ws = stored_items (m c.args.list) in
    let count = c.count-i-end.ensures.count in
    let last = c.loop-i-test.false in
    subst (NoneIn g.row.OFFSET_BITS c.args.buffer) (ap (map (record_of c.args.kind)) (take_all c.loop-i.i ws (omega arith))) c.loop-i.invariant.so_far
