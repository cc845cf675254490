use Rattle.std.proofs.Common.{◌≡◌, ◌<◌, [], ◌∙◌, arith}
use Rattle.tree_read.specs.Nodes.{count_of}
use Rattle.tree_read.proofs.TreeLemmas.{root_count}
use Rattle.tree_read.proofs.PlaceLemmas.{leads-root, step-size, root-few}
use Rattle.tree_read.proofs.finding.total.Goals as goal

pub word-requires : goal.word-requires
word-requires g c =
    let m = g.F.Frozen.records c.args.frozen.now in
    let root = c.args.root in
    let some : 0 < root = omega arith in
    let size = step-size m root [] root (leads-root m root some (c.requires.tree some)) in
    omega arith

pub overflow_cast-result : goal.overflow_cast-result
overflow_cast-result g c =
    let m = g.F.Frozen.records c.args.frozen.now in
    let root = c.args.root in
    let some : 0 < root = omega arith in
    let few = root-few m root some (c.requires.tree some) in
    let is : c.word.result ≡ count_of (m root) = c.word.ensures.value in
    omega arith

pub returns-then-valid-clause-count : goal.returns-then-valid-clause-count
returns-then-valid-clause-count g c =
    let m = g.F.Frozen.records c.args.frozen.now in
    let root = c.args.root in
    let some : 0 < root = omega arith in
    c.word.ensures.value ∙ root_count m root some (c.requires.tree some)
