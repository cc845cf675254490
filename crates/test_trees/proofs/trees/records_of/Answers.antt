use Rattle.std.proofs.Common.{◌≡◌, ◌<◌, sym, subst, ◌∙◌, arith}
use Rattle.tree_read.proofs.TreeLemmas.{IsNode-form}
use Rattle.tree_read.specs.Trees.{IsNode, root_level, root_least}
use Rattle.test_trees.proofs.NodeLemmas.{top-is}
use Rattle.test_trees.proofs.trees.records_of.Goals as goal

pub read_head-level-requires : goal.read_head-level-requires
read_head-level-requires g c =
    let m = g.F.Frozen.records c.args.frozen.now in
    let root = c.args.root in
    let some : 0 < root = omega arith in
    let size = (IsNode-form m (root_least (root_level m root)) (root_level m root) root (c.requires some)).size in
    omega arith

pub add_below-requires : goal.add_below-requires
add_below-requires g c =
    let records = g.F.Frozen.records in
    let m = records c.args.frozen.now in
    let root = c.args.root in
    let some : 0 < root = omega arith in
    let node = c.requires some in
    let form = IsNode-form m (root_least (root_level m root)) (root_level m root) root node in
    let level = c.read_head-level.result.level in
    let is : level ≡ root_level m root = c.read_head-level.ensures.level ∙ form.at_level in
    (omega arith, subst (λ f. IsNode (records f) 1 level root) (sym c.read_head-level.ensures.same) (top-is m root level is node))
