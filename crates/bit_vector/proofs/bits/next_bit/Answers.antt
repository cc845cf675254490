use Rattle.std.proofs.Common.{◌≡◌, ◌+◌, ◌/◌, ◌%◌, ◌^◌, get_or, w64, refl, sym, ap, ◌∙◌, arith}
use Rattle.std.specs.Int.{trailing_zeros}
use Rattle.bit_vector.proofs.BitLemmas.{next_none, next_set, passes_more}
use Rattle.bit_vector.proofs.bits.next_bit.Goals as goal

pub loop-i-init : goal.loop-i-init
loop-i-init g c = record { same = refl; low = omega arith; before = λ j least less. absurd (omega (arith, least, less)) }

pub loop-i-preserved : goal.loop-i-preserved
loop-i-preserved g c =
    let m = g.F.Frozen.records c.args.frozen.now in
    let ws = m c.args.block in
    let inv = c.loop-i.invariant in
    let i = c.loop-i.i in
    let read : c.word.result ≡ get_or ws (i / 64) 0 = c.word.ensures.value ∙ ap (λ (f : g.row.F.Denot). get_or (g.F.Frozen.records f c.args.block) (i / 64) 0) inv.same in
    record {
      same = c.word.ensures.same ∙ inv.same;
      low = let low = inv.low in omega (arith, low);
      before = passes_more ws i c.args.from inv.before (ap (λ w. w / 2 ^ (i % 64)) (sym read) ∙ c.if-left-ne0.false);
    }

pub returns-then-left-ne0-clause-next : goal.returns-then-left-ne0-clause-next
returns-then-left-ne0-clause-next g c =
    let m = g.F.Frozen.records c.args.frozen.now in
    let ws = m c.args.block in
    let inv = c.loop-i.invariant in
    let i = c.loop-i.i in
    let read : c.word.result ≡ get_or ws (i / 64) 0 = c.word.ensures.value ∙ ap (λ (f : g.row.F.Denot). get_or (g.F.Frozen.records f c.args.block) (i / 64) 0) inv.same in
    let fits = c.word.type_inv in
    next_set ws i (λ none. c.if-left-ne0.true (ap (λ w. w / 2 ^ (i % 64)) read ∙ none)) (omega (arith, read, fits)) _ c.args.from
    (ap (λ w. i + trailing_zeros w64 (w / 2 ^ (i % 64))) read) inv.low c.loop-i-test.true inv.before

pub returns-clause-next : goal.returns-clause-next
returns-clause-next g c =
    let m = g.F.Frozen.records c.args.frozen.now in
    next_none (m c.args.block) c.args.from c.loop-i.i c.requires.within (let end = c.loop-i-test.false in omega (arith, end)) c.loop-i.invariant.before
