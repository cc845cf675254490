use Rattle.std.proofs.Common.{rules, ◌≡◌, ◌-◌, ◌<◌, ◌≤◌, ◌^◌, ℕ, suc, List, length, get_or, sym, ap, subst, ◌∙◌, arith}
use Rattle.tree_read.specs.Nodes.{node_values, used_of}
use Rattle.tree_read.specs.Trees.{IsNode}
use Rattle.tree_read.proofs.ReadLemmas.{node-size, node-room}
use Rattle.test_trees.proofs.NodeLemmas.{child-is}
use Rattle.test_trees.proofs.trees.+add_below.Goals as goal

pub read_words-requires : goal.read_words-requires
read_words-requires g κ c = (omega arith, node-size (g.F.Frozen.records c.args.frozen.now) 1 c.args.level c.args.node c.requires)

pub read_node-slots-requires : goal.read_node-slots-requires
read_node-slots-requires g κ c =
    let records = g.F.Frozen.records in
    let m = records c.args.frozen.now in
    let node = c.args.node in
    let same = c.read_words.ensures.same in (
      omega arith,
      (
        subst (λ f. length (records f node) ≡ 34) (sym same) (node-size m 1 c.args.level node c.requires),
        subst (λ f. used_of (records f node) ≤ 16) (sym same) (node-room m 1 c.args.level node c.requires),
      ),
    )

pub overflow_cast-child : goal.overflow_cast-child
overflow_cast-child g κ c =
    let records = g.F.Frozen.records in
    let s = c.args.frozen.now in
    let m = records s in
    let node = c.args.node in
    let l = c.args.level - 1 in
    let up : c.args.level ≡ suc l = (let other = c.if-level-eq0.false in omega arith) in
    let is : IsNode m 1 (suc l) node = subst (λ k. IsNode m 1 k node) up c.requires in
    let vs = node_values (m node) in
    let items : c.as_slice-child-items.result.now ≡ vs =
    c.as_slice-child-items.ensures.value ∙ c.read_node-slots.ensures.values
    ∙ ap (λ f. node_values (records f node)) c.read_words.ensures.same in
    let i = c.loop-child.child-index in
    let q = get_or vs i 0 in
    let low : i < length vs = subst (λ (xs : List ℕ). i < length xs) items c.loop-child-test.true in
    let size = node-size m 1 l q (child-is m l node i is low) in
    let small : q < 2 ^ 32 = g.met.F.Frozen.references s q (omega arith) in
    let same : get_or c.as_slice-child-items.result.now i 0 ≡ q = ap (λ (xs : List ℕ). get_or xs i 0) items in
    omega arith

pub add_below-requires : goal.add_below-requires
add_below-requires g κ c =
    let records = g.F.Frozen.records in
    let s = c.args.frozen.now in
    let m = records s in
    let node = c.args.node in
    let l = c.args.level - 1 in
    let up : c.args.level ≡ suc l = (let other = c.if-level-eq0.false in omega arith) in
    let is : IsNode m 1 (suc l) node = subst (λ k. IsNode m 1 k node) up c.requires in
    let vs = node_values (m node) in
    let items : c.as_slice-child-items.result.now ≡ vs =
    c.as_slice-child-items.ensures.value ∙ c.read_node-slots.ensures.values
    ∙ ap (λ f. node_values (records f node)) c.read_words.ensures.same in
    let i = c.loop-child.child-index in
    let q = get_or vs i 0 in
    let low : i < length vs = subst (λ (xs : List ℕ). i < length xs) items c.loop-child-test.true in
    let child = child-is m l node i is low in
    let ref = c.from_raw-below.result in
    let ref_is : ref ≡ q = c.from_raw-below.ensures ∙ ap (λ (xs : List ℕ). get_or xs i 0) items in
    λ κs h. (
      omega arith,
      (
        search rules,
        (
          h,
          (
            omega arith,
            subst (λ f. IsNode (records f) 1 l ref) (sym c.loop-child.invariant) (subst (IsNode m 1 l) (sym ref_is) child),
          ),
        ),
      ),
    )
