use Rattle.std.proofs.Common.{◌≡◌, ◌<◌, [], ◌∷◌, true, sym, subst, ◌∙◌, arith}
use Rattle.store_api.specs.Parts.{Owns, entries}
use Rattle.tree_read.proofs.TreeLemmas.{IsNode-form}
use Rattle.tree_read.specs.Trees.{nodes_below, tree_nodes, IsNode, root_level, root_least}
use Rattle.frozen_btree.specs.Changes.{DropsEntries}
use Rattle.frozen_btree.proofs.BuildTreeLemmas.{top-nodes, top-node, top-owns, drop-others}
use Rattle.frozen_btree.proofs.build_drops.drop_tree.Goals as goal

pub read_head-level-requires : goal.read_head-level-requires
read_head-level-requires g c =
    let ledger = g.S.Store.ledger in
    let records = g.S.Frozen.records in
    let s = c.args.store.now in
    let m = records s in
    let root = c.args.root in
    let some : 0 < root = omega arith in
    let node = c.requires.tree some in
    let form = IsNode-form m (root_least (root_level m root)) (root_level m root) root node in
    let size = form.size in
    omega arith

pub drop_below-requires : goal.drop_below-requires
drop_below-requires g c =
    let ledger = g.S.Store.ledger in
    let records = g.S.Frozen.records in
    let s = c.args.store.now in
    let m = records s in
    let root = c.args.root in
    let some : 0 < root = omega arith in
    let node = c.requires.tree some in
    let form = IsNode-form m (root_least (root_level m root)) (root_level m root) root node in
    let level = c.read_head-level.result.level in
    let same = c.read_head-level.ensures.same in
    let is : level ≡ root_level m root = c.read_head-level.ensures.level ∙ form.at_level in (
      omega arith,
      (
        subst (λ f. (ledger f).unit ≡ true) (sym same) c.requires.unit,
        (
          subst (λ f. IsNode (records f) 1 level root) (sym same) (top-node m root level some is node),
          subst (λ f. Owns (ledger f) (records f) (entries (nodes_below (records f) level root) ∷ [])) (sym same) (top-owns m root level some is (ledger s) c.requires.owns),
        ),
      ),
    )

pub returns-then-valid-clause-turns : goal.returns-then-valid-clause-turns
returns-then-valid-clause-turns g c =
    let ledger = g.S.Store.ledger in
    let records = g.S.Frozen.records in
    let s = c.args.store.now in
    let m = records s in
    let root = c.args.root in
    let some : 0 < root = omega arith in
    let node = c.requires.tree some in
    let form = IsNode-form m (root_least (root_level m root)) (root_level m root) root node in
    let level = c.read_head-level.result.level in
    let same = c.read_head-level.ensures.same in
    let is : level ≡ root_level m root = c.read_head-level.ensures.level ∙ form.at_level in
    let u = c.drop_below.new.store in
    let drops : DropsEntries (ledger s) (ledger u) m (records u) (tree_nodes m root) =
    subst (DropsEntries (ledger s) (ledger u) m (records u)) (top-nodes m root level some is)
    (subst (λ f. DropsEntries (ledger f) (ledger u) (records f) (records u) (nodes_below (records f) level root)) same c.drop_below.ensures) in
    record { kept = drops.turns.kept; balance = drops.turns.balance }

pub returns-then-valid-clause-others : goal.returns-then-valid-clause-others
returns-then-valid-clause-others g c =
    let ledger = g.S.Store.ledger in
    let records = g.S.Frozen.records in
    let s = c.args.store.now in
    let m = records s in
    let root = c.args.root in
    let some : 0 < root = omega arith in
    let node = c.requires.tree some in
    let form = IsNode-form m (root_least (root_level m root)) (root_level m root) root node in
    let level = c.read_head-level.result.level in
    let same = c.read_head-level.ensures.same in
    let is : level ≡ root_level m root = c.read_head-level.ensures.level ∙ form.at_level in
    let u = c.drop_below.new.store in
    let drops : DropsEntries (ledger s) (ledger u) m (records u) (tree_nodes m root) =
    subst (DropsEntries (ledger s) (ledger u) m (records u)) (top-nodes m root level some is)
    (subst (λ f. DropsEntries (ledger f) (ledger u) (records f) (records u) (nodes_below (records f) level root)) same c.drop_below.ensures) in
    drop-others (ledger s) (ledger u) m (records u) root c.requires.tree drops

pub returns-then-valid-clause-none_made : goal.returns-then-valid-clause-none_made
returns-then-valid-clause-none_made g c =
    let ledger = g.S.Store.ledger in
    let records = g.S.Frozen.records in
    let s = c.args.store.now in
    let m = records s in
    let root = c.args.root in
    let some : 0 < root = omega arith in
    let node = c.requires.tree some in
    let form = IsNode-form m (root_least (root_level m root)) (root_level m root) root node in
    let level = c.read_head-level.result.level in
    let same = c.read_head-level.ensures.same in
    let is : level ≡ root_level m root = c.read_head-level.ensures.level ∙ form.at_level in
    let u = c.drop_below.new.store in
    let drops : DropsEntries (ledger s) (ledger u) m (records u) (tree_nodes m root) =
    subst (DropsEntries (ledger s) (ledger u) m (records u)) (top-nodes m root level some is)
    (subst (λ f. DropsEntries (ledger f) (ledger u) (records f) (records u) (nodes_below (records f) level root)) same c.drop_below.ensures) in
    drops.none_made

pub returns-then-valid-clause-may : goal.returns-then-valid-clause-may
returns-then-valid-clause-may g c =
    let ledger = g.S.Store.ledger in
    let records = g.S.Frozen.records in
    let s = c.args.store.now in
    let m = records s in
    let root = c.args.root in
    let some : 0 < root = omega arith in
    let node = c.requires.tree some in
    let form = IsNode-form m (root_least (root_level m root)) (root_level m root) root node in
    let level = c.read_head-level.result.level in
    let same = c.read_head-level.ensures.same in
    let is : level ≡ root_level m root = c.read_head-level.ensures.level ∙ form.at_level in
    let u = c.drop_below.new.store in
    let drops : DropsEntries (ledger s) (ledger u) m (records u) (tree_nodes m root) =
    subst (DropsEntries (ledger s) (ledger u) m (records u)) (top-nodes m root level some is)
    (subst (λ f. DropsEntries (ledger f) (ledger u) (records f) (records u) (nodes_below (records f) level root)) same c.drop_below.ensures) in
    drops.may
