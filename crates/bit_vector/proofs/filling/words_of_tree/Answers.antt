use Rattle.std.proofs.Common.{◌≡◌, ◌*◌, drop, replicate, refl, subst, ◌∙◌, arith}
use Rattle.tree_read.specs.SearchPlaces.{IsAt, pairs_from}
use Rattle.tree_read.specs.Trees.{tree_pairs}
use Rattle.bit_vector.proofs.BitLemmas.{zero_bits}
use Rattle.bit_vector.proofs.DropLemmas.{not_end}
use Rattle.bit_vector.proofs.FillLemmas.{fills_end, fills_first, fills_more, fills_past, keys}
use Rattle.bit_vector.proofs.filling.words_of_tree.Goals as goal

pub loop-cursor-init : goal.loop-cursor-init
loop-cursor-init g c =
    let m = g.F.Frozen.records c.args.frozen.now in
    record {
      same = c.seek-cursor.ensures.same;
      at = c.seek-cursor.ensures.at;
      fills = fills_first c.args.number (c.args.number * 4096) (replicate 64 0) (tree_pairs m c.args.root) (pairs_from m c.seek-cursor.result) (omega arith) refl (zero_bits 64) c.requires.tree.ascends
          c.seek-cursor.ensures.pairs;
    }

pub loop-cursor-preserved : goal.loop-cursor-preserved
loop-cursor-preserved g c =
    let records = g.F.Frozen.records in
    let m = records c.args.frozen.now in
    let inv = c.loop-cursor.invariant in
    let at = c.loop-cursor.cursor in
    let ps = pairs_from m at in
    let some = not_end ps c.at_end.result (c.at_end.ensures.pairs m inv.at).1 c.loop-cursor-test.true in
    let behind : pairs_from m c.next.new.self ≡ drop 1 ps = subst (λ f. pairs_from (records f) c.next.new.self ≡ drop 1 (pairs_from (records f) at)) inv.same c.next.ensures.pairs in
    record {
      same = c.next.ensures.same ∙ inv.same;
      at = subst (λ f. IsAt (records f) c.next.new.self) inv.same c.next.ensures.at;
      fills = fills_more c.args.number c.loop-cursor.words c.set_bit.new.words ps (pairs_from m c.next.new.self) (keys (tree_pairs m c.args.root)) c.key-key.result inv.fills some
          (c.key-key.ensures m inv.at) behind c.if-key-number.false c.set_bit.ensures.size c.set_bit.ensures.bits;
    }

pub returns-then-key-number-clause-bits : goal.returns-then-key-number-clause-bits
returns-then-key-number-clause-bits g c =
    let m = g.F.Frozen.records c.args.frozen.now in
    let inv = c.loop-cursor.invariant in
    let ps = pairs_from m c.loop-cursor.cursor in
    let some = not_end ps c.at_end.result (c.at_end.ensures.pairs m inv.at).1 c.loop-cursor-test.true in
    fills_past c.args.number c.loop-cursor.words ps (keys (tree_pairs m c.args.root)) c.key-key.result inv.fills some (c.key-key.ensures m inv.at) c.if-key-number.true

pub returns-clause-bits : goal.returns-clause-bits
returns-clause-bits g c =
    let m = g.F.Frozen.records c.args.frozen.now in
    let inv = c.loop-cursor.invariant in
    let none = (c.at_end.ensures.pairs m inv.at).0 c.loop-cursor-test.false in
    fills_end c.args.number c.loop-cursor.words (pairs_from m c.loop-cursor.cursor) (keys (tree_pairs m c.args.root)) inv.fills none
