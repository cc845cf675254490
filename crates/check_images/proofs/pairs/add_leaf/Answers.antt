use Rattle.std.proofs.Common.{◌<◌, arith}
use Rattle.std.proofs.lemmas.Result.{err_from_is_err_and}
use Rattle.tree_read.specs.Nodes.{used_of}
use Rattle.check_images.proofs.WalkLemmas.{slots_more, slots_ascend}
use Rattle.check_images.proofs.Walks.{refuted_by}
use Rattle.entry_ref.specs.Maps.{seen}
use Rattle.check_images.proofs.pairs.add_leaf.Goals as goal

pub loop-i-preserved : goal.loop-i-preserved
loop-i-preserved c =
    let ws = c.args.words.now in
    let it = c.loop-i.invariant in
    let low : c.loop-i.i < used_of ws = omega arith in
    record {
      size = it.size;
      room = it.room;
      used = it.used;
      pairs = slots_more ws it.size it.room c.args.pairs.now.items c.loop-i.pairs.items c.add_pair.new.pairs.items c.loop-i.i low it.pairs c.in_ok-add_pair.ensures.pairs;
      ascends = c.in_ok-add_pair.ensures.ascends;
    }

pub returns-in_err-add_pair-clause-exact : goal.returns-in_err-add_pair-clause-exact
returns-in_err-add_pair-clause-exact c =
    let ws = c.args.words.now in
    let it = c.loop-i.invariant in
    let low : c.loop-i.i < used_of ws = omega arith in
    let p = err_from_is_err_and c.from_residual.result c.from_residual.ensures.1 in
    rw (p.1, p.2)
    (refuted_by c.in_err-add_pair.field-0.0
    (slots_ascend ws it.size it.room c.args.keys (seen c.args.records.now) c.args.pairs.now.items c.loop-i.pairs.items c.loop-i.i low it.pairs)
    c.in_err-add_pair.ensures.exact)
