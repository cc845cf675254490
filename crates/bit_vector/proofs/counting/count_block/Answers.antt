use Rattle.std.proofs.Common.{◌≡◌, ◌+◌, ◌*◌, get_or, count_ones, refl, ap, ◌∙◌, arith}
use Rattle.index_model.specs.Sets.{in_words}
use Rattle.bit_vector.proofs.OnesLemmas.{block_count, one_word, ones_few, passing, word_few}
use Rattle.bit_vector.proofs.counting.count_block.Goals as goal

pub loop-i-init : goal.loop-i-init
loop-i-init g c = record { same = refl; count = refl }

pub loop-i-preserved : goal.loop-i-preserved
loop-i-preserved g c =
    let m = g.F.Frozen.records c.args.frozen.now in
    let ws = m c.args.block in
    let inv = c.loop-i.invariant in
    let read : c.word.result ≡ get_or ws c.loop-i.i 0 = c.word.ensures.value ∙ ap (λ (f : g.row.F.Denot). get_or (g.F.Frozen.records f c.args.block) c.loop-i.i 0) inv.same in
    let fits = c.word.type_inv in
    record {
      same = c.word.ensures.same ∙ inv.same;
      count = one_word ws c.loop-i.i c.loop-i.count _ (omega (arith, read, fits)) inv.count (ap (λ w. c.loop-i.count + count_ones w) read);
    }

pub returns-clause-count : goal.returns-clause-count
returns-clause-count g c = λ k.
    let ws = g.F.Frozen.records c.args.frozen.now c.args.block in
    c.loop-i.invariant.count
    ∙ ap (passing (in_words ws) 0) (let e : 64 * c.loop-i.i ≡ 4096 = omega (arith, c.loop-i-test.false, c.loop-i.auto.i-end) in e)
    ∙ block_count k ws

pub overflow_add-count : goal.overflow_add-count
overflow_add-count g c =
    let ws = g.F.Frozen.records c.args.frozen.now c.args.block in
    let inv = c.loop-i.invariant in
    let read : c.word.result ≡ get_or ws c.loop-i.i 0 = c.word.ensures.value ∙ ap (λ (f : g.row.F.Denot). get_or (g.F.Frozen.records f c.args.block) c.loop-i.i 0) inv.same in
    let fits = c.word.type_inv in
    let few = word_few ws c.loop-i.i (omega (arith, read, fits)) in
    let same = ap count_ones read in
    let before = ones_few ws (64 * c.loop-i.i) in
    let count = inv.count in
    omega (arith, few, same, before, count, c.loop-i-test.true)

pub returns-clause-few : goal.returns-clause-few
returns-clause-few g c =
    let ws = g.F.Frozen.records c.args.frozen.now c.args.block in
    let before = ones_few ws (64 * c.loop-i.i) in
    let count = c.loop-i.invariant.count in
    omega (arith, before, count, c.loop-i-test.false, c.loop-i.auto.i-end)
