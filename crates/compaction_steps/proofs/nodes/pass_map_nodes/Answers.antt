use Rattle.std.proofs.Common.{◌+◌, ◌<◌, ◌^◌, ℕ, nat_cmp, refl, sym, subst, arith}
use Rattle.compaction_moves.specs.Cleared.{trees_of_roots}
use Rattle.tree_read.specs.Pairs.{seek}
use Rattle.tree_read.specs.Trees.{by_number, tree_pairs}
use Rattle.enum_dictionary.proofs.BehindLemmas.{All-seek}
use Rattle.attr_compaction.proofs.NextLemmas.{unit_all}
use Rattle.compaction_steps.specs.Sights.{IsRun}
use Rattle.compaction_steps.specs.Ways.{IsWayApart}
use Rattle.compaction_steps.proofs.NodeKeys.{map_nodes_pass}
use Rattle.compaction_steps.proofs.PairLemmas.{all_numbers}
use Rattle.compaction_steps.proofs.RunLemmas.{last_has}
use Rattle.compaction_steps.proofs.nodes.pass_map_nodes.Goals as goal

pub returns-then-most-eq0-clause-same : goal.returns-then-most-eq0-clause-same
returns-then-most-eq0-clause-same g c = refl

pub overflow_add-key : goal.overflow_add-key
overflow_add-key g c = omega (arith, c.ranges.doc.fits)

pub way_of-way-requires : goal.way_of-way-requires
way_of-way-requires g c = (
  omega arith,
  (
    c.requires.documents_are.map_is.tree_is,
    (unit_all (tree_pairs (g.F.Frozen.records c.args.frozen.now) c.args.roots.documents), (let some = c.if-most-eq0.false in omega arith)),
  ),
)

pub returns-then-way-eq0-clause-same : goal.returns-then-way-eq0-clause-same
returns-then-way-eq0-clause-same g c = c.way_of-way.ensures.same

pub overflow_cast-result : goal.overflow_cast-result
overflow_cast-result g c =
    let m = g.F.Frozen.records c.args.frozen.now in
    let ps = seek (λ key. nat_cmp key (c.args.doc + 1)) (tree_pairs m c.args.roots.documents) in
    let run = c.way_of-way.ensures.way.run in
    let one = last_has (λ (k : ℕ). k < 2 ^ 32) c.way_of-way.result.pairs ps
    (All-seek (λ p. p.0 < 2 ^ 32) (λ key. nat_cmp key (c.args.doc + 1)) (tree_pairs m c.args.roots.documents)
    (all_numbers (tree_pairs m c.args.roots.documents) c.requires.documents_are.map_is.pairs))
    (let some = c.if-way-eq0.false in omega arith) run.few in
    let below : c.way_of-way.result.last < 2 ^ 32 = subst (λ (k : ℕ). k < 2 ^ 32) (sym run.last_is) one in
    omega arith

pub returns-clause-passes : goal.returns-clause-passes
returns-clause-passes g c =
    let bits = g.row.OFFSET_BITS in
    let m = g.F.Frozen.records c.args.frozen.now in
    let count = c.way_of-way.result.pairs in
    let last = c.way_of-way.result.last in
    let run = subst (λ (v : ℕ). IsRun (IsWayApart bits v nat_cmp by_number m c.args.roots.documents) (seek (λ key. nat_cmp key (c.args.doc + 1)) (tree_pairs m c.args.roots.documents)) count last) c.victim.ensures
    c.way_of-way.ensures.way.run in
    map_nodes_pass bits c.args.plan.now.victim c.args.plan.now.place m (trees_of_roots c.args.field.now c.args.roots) count last (let some = c.if-way-eq0.false in omega arith) c.args.doc c.requires run

pub returns-clause-few : goal.returns-clause-few
returns-clause-few g c = c.way_of-way.ensures.few

pub returns-clause-same : goal.returns-clause-same
returns-clause-same g c = c.way_of-way.ensures.same
