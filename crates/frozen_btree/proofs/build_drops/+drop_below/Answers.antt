use Rattle.std.proofs.Common.{rules, ◌≡◌, ◌-◌, ◌<◌, ◌≤◌, ◌^◌, ℕ, suc, List, [], ◌∷◌, length, get_or, sym, ap, subst, ◌∙◌, arith}
use Rattle.store_api.specs.Parts.{Owns, entries}
use Rattle.tree_read.specs.Nodes.{node_values}
use Rattle.tree_read.specs.Trees.{nodes_below, IsNode}
use Rattle.tree_read.proofs.ReadLemmas.{node-size, node-room}
use Rattle.frozen_btree.specs.Changes.{DropsEntries}
use Rattle.frozen_btree.proofs.DropLemmas.{drops-none, drops-more}
use Rattle.frozen_btree.proofs.BuildTreeLemmas.{leaf-nodes, leaf-used, child-is, child-owns, child-dropped, node-used, node-dropped}
use Rattle.frozen_btree.proofs.build_drops.+drop_below.Goals as goal

pub drop_entry-requires : goal.drop_entry-requires
drop_entry-requires g κ c =
    let ledger = g.S.Store.ledger in
    let records = g.S.Frozen.records in
    let s = c.args.store.now in
    let m = records s in
    let node = c.args.node in
    let level = c.args.level in
    let flat : level ≡ 0 = c.if-level-eq0.true in
    let owns = subst (λ l. Owns (ledger s) m (entries (nodes_below m l node) ∷ [])) flat c.requires.owns in
    let used = leaf-used (ledger s) m node owns in
    (omega arith, (c.requires.unit, used))

pub returns-then-level-eq0 : goal.returns-then-level-eq0
returns-then-level-eq0 g κ c =
    let ledger = g.S.Store.ledger in
    let records = g.S.Frozen.records in
    let s = c.args.store.now in
    let m = records s in
    let node = c.args.node in
    let level = c.args.level in
    let flat : level ≡ 0 = c.if-level-eq0.true in
    let owns = subst (λ l. Owns (ledger s) m (entries (nodes_below m l node) ∷ [])) flat c.requires.owns in
    let used = leaf-used (ledger s) m node owns in
    let u = c.drop_entry.new.self in
    let one : DropsEntries (ledger s) (ledger u) m (records u) (node ∷ []) =
    drops-more (ledger s) (ledger s) (ledger u) m m (records u) [] node (drops-none (ledger s) m) used (λ r some. (g.met.S.Store.recorded s r).1 some) c.drop_entry.ensures.drops c.drop_entry.ensures.may in
    subst (λ k. DropsEntries (ledger s) (ledger u) m (records u) (nodes_below m k node)) (sym flat) (subst (DropsEntries (ledger s) (ledger u) m (records u)) (sym (leaf-nodes m node)) one)

pub read_node-slots-requires : goal.read_node-slots-requires
read_node-slots-requires g κ c =
    let ledger = g.S.Store.ledger in
    let records = g.S.Frozen.records in
    let s = c.args.store.now in
    let m = records s in
    let node = c.args.node in
    let level = c.args.level in
    (omega arith, (node-size m 1 level node c.requires.node, node-room m 1 level node c.requires.node))

pub loop-child-init : goal.loop-child-init
loop-child-init g κ c =
    let ledger = g.S.Store.ledger in
    let records = g.S.Frozen.records in
    let s = c.args.store.now in
    let m = records s in
    let node = c.args.node in
    let level = c.args.level in
    subst (λ f. DropsEntries (ledger s) (ledger f) m (records f) []) (sym c.read_node-slots.ensures.same) (drops-none (ledger s) m)

pub overflow_cast-child : goal.overflow_cast-child
overflow_cast-child g κ c =
    let ledger = g.S.Store.ledger in
    let records = g.S.Frozen.records in
    let s = c.args.store.now in
    let m = records s in
    let node = c.args.node in
    let level = c.args.level in
    let l = level - 1 in
    let up : level ≡ suc l = (let other = c.if-level-eq0.false in omega arith) in
    let is : IsNode m 1 (suc l) node = subst (λ k. IsNode m 1 k node) up c.requires.node in
    let owns : Owns (ledger s) m (entries (nodes_below m (suc l) node) ∷ []) = subst (λ k. Owns (ledger s) m (entries (nodes_below m k node) ∷ [])) up c.requires.owns in
    let vs = node_values (m node) in
    let items : c.as_slice-child-items.result.now ≡ vs = c.as_slice-child-items.ensures.value ∙ c.read_node-slots.ensures.values in
    let i = c.loop-child.child-index in
    let t = c.loop-child.store in
    let n = records t in
    let before = c.loop-child.invariant in
    let q = get_or vs i 0 in
    let low : i < length vs = subst (λ (xs : List ℕ). i < length xs) items c.loop-child-test.true in
    let child = child-is (ledger s) m l node is owns (ledger t) n i low before in
    let size = node-size n 1 l q child in
    let small : q < 2 ^ 32 = g.met.S.Frozen.references t q (omega arith) in
    let same : get_or c.as_slice-child-items.result.now i 0 ≡ q = ap (λ (xs : List ℕ). get_or xs i 0) items in
    omega arith

pub drop_below-requires : goal.drop_below-requires
drop_below-requires g κ c =
    let ledger = g.S.Store.ledger in
    let records = g.S.Frozen.records in
    let s = c.args.store.now in
    let m = records s in
    let node = c.args.node in
    let level = c.args.level in
    let l = level - 1 in
    let up : level ≡ suc l = (let other = c.if-level-eq0.false in omega arith) in
    let is : IsNode m 1 (suc l) node = subst (λ k. IsNode m 1 k node) up c.requires.node in
    let owns : Owns (ledger s) m (entries (nodes_below m (suc l) node) ∷ []) = subst (λ k. Owns (ledger s) m (entries (nodes_below m k node) ∷ [])) up c.requires.owns in
    let vs = node_values (m node) in
    let items : c.as_slice-child-items.result.now ≡ vs = c.as_slice-child-items.ensures.value ∙ c.read_node-slots.ensures.values in
    let i = c.loop-child.child-index in
    let t = c.loop-child.store in
    let n = records t in
    let before = c.loop-child.invariant in
    let q = get_or vs i 0 in
    let low : i < length vs = subst (λ (xs : List ℕ). i < length xs) items c.loop-child-test.true in
    let child = child-is (ledger s) m l node is owns (ledger t) n i low before in
    let ref = c.from_raw.result in
    let ref_is : ref ≡ q = c.from_raw.ensures ∙ ap (λ (xs : List ℕ). get_or xs i 0) items in
    let owned = child-owns (ledger s) m l node is owns (ledger t) n i low before in
    λ κs h. (
      omega arith,
      (
        search rules,
        (
          h.0,
          (
            h.1.0,
            (
              h.1.1,
              (
                omega arith,
                (
                  before.may.unit ∙ c.requires.unit,
                  (
                    subst (IsNode n 1 l) (sym ref_is) child,
                    subst (λ r. Owns (ledger t) n (entries (nodes_below n l r) ∷ [])) (sym ref_is) owned,
                  ),
                ),
              ),
            ),
          ),
        ),
      ),
    )

pub loop-child-preserved : goal.loop-child-preserved
loop-child-preserved g κ c =
    let ledger = g.S.Store.ledger in
    let records = g.S.Frozen.records in
    let s = c.args.store.now in
    let m = records s in
    let node = c.args.node in
    let level = c.args.level in
    let l = level - 1 in
    let up : level ≡ suc l = (let other = c.if-level-eq0.false in omega arith) in
    let is : IsNode m 1 (suc l) node = subst (λ k. IsNode m 1 k node) up c.requires.node in
    let owns : Owns (ledger s) m (entries (nodes_below m (suc l) node) ∷ []) = subst (λ k. Owns (ledger s) m (entries (nodes_below m k node) ∷ [])) up c.requires.owns in
    let vs = node_values (m node) in
    let items : c.as_slice-child-items.result.now ≡ vs = c.as_slice-child-items.ensures.value ∙ c.read_node-slots.ensures.values in
    let i = c.loop-child.child-index in
    let t = c.loop-child.store in
    let n = records t in
    let before = c.loop-child.invariant in
    let q = get_or vs i 0 in
    let low : i < length vs = subst (λ (xs : List ℕ). i < length xs) items c.loop-child-test.true in
    let child = child-is (ledger s) m l node is owns (ledger t) n i low before in
    let ref = c.from_raw.result in
    let ref_is : ref ≡ q = c.from_raw.ensures ∙ ap (λ (xs : List ℕ). get_or xs i 0) items in
    let u = c.drop_below.new.store in
    child-dropped (ledger s) m l node is owns (ledger t) n i low before (ledger u) (records u)
    (subst (λ r. DropsEntries (ledger t) (ledger u) n (records u) (nodes_below n l r)) ref_is c.drop_below.ensures)

pub drop_entry-requires-2 : goal.drop_entry-requires-2
drop_entry-requires-2 g κ c =
    let ledger = g.S.Store.ledger in
    let records = g.S.Frozen.records in
    let s = c.args.store.now in
    let m = records s in
    let node = c.args.node in
    let level = c.args.level in
    let l = level - 1 in
    let up : level ≡ suc l = (let other = c.if-level-eq0.false in omega arith) in
    let is : IsNode m 1 (suc l) node = subst (λ k. IsNode m 1 k node) up c.requires.node in
    let owns : Owns (ledger s) m (entries (nodes_below m (suc l) node) ∷ []) = subst (λ k. Owns (ledger s) m (entries (nodes_below m k node) ∷ [])) up c.requires.owns in
    let vs = node_values (m node) in
    let items : c.as_slice-child-items.result.now ≡ vs = c.as_slice-child-items.ensures.value ∙ c.read_node-slots.ensures.values in
    let i = c.loop-child.child-index in
    let t = c.loop-child.store in
    let n = records t in
    let before = c.loop-child.invariant in
    let q = get_or vs i 0 in
    let past : length vs ≤ i = subst (λ (xs : List ℕ). length xs ≤ i) items c.loop-child-test.false in
    let used = node-used (ledger s) m l node is owns (ledger t) n i past before in
    (omega arith, (before.may.unit ∙ c.requires.unit, used))

pub returns : goal.returns
returns g κ c =
    let ledger = g.S.Store.ledger in
    let records = g.S.Frozen.records in
    let s = c.args.store.now in
    let m = records s in
    let node = c.args.node in
    let level = c.args.level in
    let l = level - 1 in
    let up : level ≡ suc l = (let other = c.if-level-eq0.false in omega arith) in
    let is : IsNode m 1 (suc l) node = subst (λ k. IsNode m 1 k node) up c.requires.node in
    let owns : Owns (ledger s) m (entries (nodes_below m (suc l) node) ∷ []) = subst (λ k. Owns (ledger s) m (entries (nodes_below m k node) ∷ [])) up c.requires.owns in
    let vs = node_values (m node) in
    let items : c.as_slice-child-items.result.now ≡ vs = c.as_slice-child-items.ensures.value ∙ c.read_node-slots.ensures.values in
    let i = c.loop-child.child-index in
    let t = c.loop-child.store in
    let n = records t in
    let before = c.loop-child.invariant in
    let q = get_or vs i 0 in
    let past : length vs ≤ i = subst (λ (xs : List ℕ). length xs ≤ i) items c.loop-child-test.false in
    let used = node-used (ledger s) m l node is owns (ledger t) n i past before in
    let u = c.drop_entry-2.new.self in
    let one : DropsEntries (ledger t) (ledger u) n (records u) (node ∷ []) =
    drops-more (ledger t) (ledger t) (ledger u) n n (records u) [] node (drops-none (ledger t) n) used (λ r some. (g.met.S.Store.recorded t r).1 some) c.drop_entry-2.ensures.drops c.drop_entry-2.ensures.may in
    subst (λ k. DropsEntries (ledger s) (ledger u) m (records u) (nodes_below m k node)) (sym up)
    (node-dropped (ledger s) m l node is owns (ledger t) n i past before (ledger u) (records u) one)
