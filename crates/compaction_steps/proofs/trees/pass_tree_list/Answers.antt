use Rattle.std.proofs.Common.{◌+◌, ◌<◌, ◌^◌, ℕ, nat_cmp, refl, sym, subst, arith}
use Rattle.compaction_moves.specs.Cleared.{trees_of_roots}
use Rattle.tree_read.specs.Pairs.{seek}
use Rattle.tree_read.specs.Trees.{by_number, tree_pairs}
use Rattle.enum_dictionary.proofs.BehindLemmas.{All-seek}
use Rattle.attr_compaction.proofs.NextLemmas.{unit_all}
use Rattle.attr_compaction.specs.declared.plan.PlanKey.{PlanKey}
use Rattle.compaction_steps.specs.Passes.{Passes}
use Rattle.compaction_steps.specs.Sights.{IsRun}
use Rattle.compaction_steps.specs.Ways.{IsWayApart}
use Rattle.compaction_steps.proofs.RunLemmas.{last_has}
use Rattle.compaction_steps.proofs.TreeKeys.{list_numbers, list_tree, tree_pass}
use Rattle.compaction_steps.proofs.trees.pass_tree_list.Goals as goal

pub returns-then-most-eq0-clause-same : goal.returns-then-most-eq0-clause-same
returns-then-most-eq0-clause-same g c = refl

pub root_of-root-requires : goal.root_of-root-requires
root_of-root-requires g c = (omega arith, c.requires.plain)

pub overflow_add-doc : goal.overflow_add-doc
overflow_add-doc g c = omega (arith, c.ranges.doc.fits)

pub way_of-way-requires : goal.way_of-way-requires
way_of-way-requires g c =
    let bits = g.row.OFFSET_BITS in
    let m = g.F.Frozen.records c.args.frozen.now in
    let a = trees_of_roots c.args.field.now c.args.roots in (
      omega arith,
      (
        list_tree bits c.args.plan.now.victim c.args.plan.now.place m a c.args.value.now c.args.doc c.args.list c.root_of-root.result c.requires.can c.requires.list c.requires.plain c.requires.odd
            c.root_of-root.ensures,
        (unit_all (tree_pairs m c.root_of-root.result), (let some = c.if-most-eq0.false in omega arith)),
      ),
    )

pub returns-then-way-eq0-clause-same : goal.returns-then-way-eq0-clause-same
returns-then-way-eq0-clause-same g c = c.way_of-way.ensures.same

pub overflow_cast-way : goal.overflow_cast-way
overflow_cast-way g c =
    let bits = g.row.OFFSET_BITS in
    let m = g.F.Frozen.records c.args.frozen.now in
    let a = trees_of_roots c.args.field.now c.args.roots in
    let root = c.root_of-root.result in
    let ps = seek (λ key. nat_cmp key (c.args.doc + 1)) (tree_pairs m root) in
    let run = c.way_of-way.ensures.way.run in
    let one = last_has (λ (k : ℕ). k < 2 ^ 32) c.way_of-way.result.pairs ps
    (All-seek (λ p. p.0 < 2 ^ 32) (λ key. nat_cmp key (c.args.doc + 1)) (tree_pairs m root)
    (list_numbers bits c.args.plan.now.victim c.args.plan.now.place m a c.args.value.now c.args.doc c.args.list root c.requires.can c.requires.list c.requires.plain c.requires.odd c.root_of-root.ensures))
    (let some = c.if-way-eq0.false in omega arith) run.few in
    let below : c.way_of-way.result.last < 2 ^ 32 = subst (λ (k : ℕ). k < 2 ^ 32) (sym run.last_is) one in
    omega arith

pub returns-in-Some-clause-passes : goal.returns-in-Some-clause-passes
returns-in-Some-clause-passes g c =
    let bits = g.row.OFFSET_BITS in
    let m = g.F.Frozen.records c.args.frozen.now in
    let a = trees_of_roots c.args.field.now c.args.roots in
    let at = c.args.plan.now.place in
    let victim = c.args.plan.now.victim in
    let root = c.root_of-root.result in
    let count = c.way_of-way.result.pairs in
    let last = c.way_of-way.result.last in
    let run = subst (λ (v : ℕ). IsRun (IsWayApart bits v nat_cmp by_number m root) (seek (λ key. nat_cmp key (c.args.doc + 1)) (tree_pairs m root)) count last) c.victim-victim.ensures
    c.way_of-way.ensures.way.run in
    subst (λ (k : PlanKey). Passes bits victim at m a k count) (sym c.in-Some.ensures)
    (tree_pass bits victim at m a c.args.value.now c.args.doc c.args.list root c.requires.can c.requires.list c.requires.plain c.requires.odd c.root_of-root.ensures
    count last (let some = c.if-way-eq0.false in omega arith) run)

pub returns-in-Some-clause-few : goal.returns-in-Some-clause-few
returns-in-Some-clause-few g c = c.way_of-way.ensures.few

pub returns-in-Some-clause-same : goal.returns-in-Some-clause-same
returns-in-Some-clause-same g c = c.way_of-way.ensures.same

pub returns-in-None-clause-same : goal.returns-in-None-clause-same
returns-in-None-clause-same g c = c.way_of-way.ensures.same
