use Rattle.std.proofs.Common.{◌≡◌, ◌+◌, ◌-◌, ◌≤◌, ℕ, suc, List, get_or, refl, sym, ap, subst, ◌∙◌, arith}
use Rattle.std.specs.Prelude.{IsSome, slice_index_or}
use Rattle.tree_read.specs.Nodes.{level_of, node_keys, node_values}
use Rattle.tree_read.specs.Trees.{pairs_below, IsNode}
use Rattle.tree_read.specs.Keys.{seen_by, Ascends, AllReadable}
use Rattle.tree_read.specs.Pairs.{lookup}
use Rattle.tree_read.proofs.ChildLemmas.{keys-length, IsNode-lower, get_or-node_values}
use Rattle.tree_read.proofs.ReadLemmas.{node-size, node-room}
use Rattle.frozen_btree.proofs.StepLemmas.{at-low, at-node, at-ascends, at-all, at-step}
use Rattle.frozen_btree.proofs.remove_below.step_down.Goals as goal

pub visit-place-requires : goal.visit-place-requires
visit-place-requires g c =
    let m = g.F.Frozen.records c.args.frozen.now in
    let node = c.args.node in
    (omega arith, (IsNode-lower m 2 1 (level_of (m node)) node (let e : 1 ≤ 2 = omega arith in e) c.requires.node, c.requires.readable))

pub overflow_add-place : goal.overflow_add-place
overflow_add-place g c =
    let m = g.F.Frozen.records c.args.frozen.now in
    let node = c.args.node in
    let level = level_of (m node) in
    let l = level - 1 in
    let k = g.K.KeyOrder in
    let s = k.sought c.args.key.now in
    let seen = seen_by k.read k.order s m in
    let inner = c.requires.inner in
    let up : level ≡ suc l = omega arith in
    let node_is = subst (λ n. IsNode m 2 n node) up c.requires.node in
    let ascends = subst (λ n. Ascends k.order k.read m (pairs_below m n node)) up c.requires.ascends in
    let there = subst (λ n. IsSome (lookup seen (pairs_below m n node))) up c.requires.there in
    let ks = node_keys (m node) in
    let vs = node_values (m node) in
    let i = c.visit-place.result.slot in
    let slot = c.visit-place.ensures.slot in
    let low = at-low k.order g.met.K.KeyOrder.total k.read s m l node node_is ascends there ks vs refl refl i slot in
    let used = keys-length m 2 level node c.requires.node in
    let room = node-room m 2 level node c.requires.node in
    omega arith

pub offset_bounds-words-place : goal.offset_bounds-words-place
offset_bounds-words-place g c =
    let m = g.F.Frozen.records c.args.frozen.now in
    let node = c.args.node in
    let level = level_of (m node) in
    let l = level - 1 in
    let k = g.K.KeyOrder in
    let s = k.sought c.args.key.now in
    let seen = seen_by k.read k.order s m in
    let inner = c.requires.inner in
    let up : level ≡ suc l = omega arith in
    let node_is = subst (λ n. IsNode m 2 n node) up c.requires.node in
    let ascends = subst (λ n. Ascends k.order k.read m (pairs_below m n node)) up c.requires.ascends in
    let there = subst (λ n. IsSome (lookup seen (pairs_below m n node))) up c.requires.there in
    let ks = node_keys (m node) in
    let vs = node_values (m node) in
    let i = c.visit-place.result.slot in
    let slot = c.visit-place.ensures.slot in
    let low = at-low k.order g.met.K.KeyOrder.total k.read s m l node node_is ascends there ks vs refl refl i slot in
    let used = keys-length m 2 level node c.requires.node in
    let room = node-room m 2 level node c.requires.node in
    omega arith

pub bounds-words-place : goal.bounds-words-place
bounds-words-place g c =
    let m = g.F.Frozen.records c.args.frozen.now in
    let node = c.args.node in
    let level = level_of (m node) in
    let l = level - 1 in
    let k = g.K.KeyOrder in
    let s = k.sought c.args.key.now in
    let seen = seen_by k.read k.order s m in
    let inner = c.requires.inner in
    let up : level ≡ suc l = omega arith in
    let node_is = subst (λ n. IsNode m 2 n node) up c.requires.node in
    let ascends = subst (λ n. Ascends k.order k.read m (pairs_below m n node)) up c.requires.ascends in
    let there = subst (λ n. IsSome (lookup seen (pairs_below m n node))) up c.requires.there in
    let ks = node_keys (m node) in
    let vs = node_values (m node) in
    let i = c.visit-place.result.slot in
    let slot = c.visit-place.ensures.slot in
    let low = at-low k.order g.met.K.KeyOrder.total k.read s m l node node_is ascends there ks vs refl refl i slot in
    let used = keys-length m 2 level node c.requires.node in
    let room = node-room m 2 level node c.requires.node in
    omega arith

pub overflow_cast-words : goal.overflow_cast-words
overflow_cast-words g c =
    let m = g.F.Frozen.records c.args.frozen.now in
    let node = c.args.node in
    let level = level_of (m node) in
    let l = level - 1 in
    let k = g.K.KeyOrder in
    let s = k.sought c.args.key.now in
    let seen = seen_by k.read k.order s m in
    let inner = c.requires.inner in
    let up : level ≡ suc l = omega arith in
    let node_is = subst (λ n. IsNode m 2 n node) up c.requires.node in
    let ascends = subst (λ n. Ascends k.order k.read m (pairs_below m n node)) up c.requires.ascends in
    let there = subst (λ n. IsSome (lookup seen (pairs_below m n node))) up c.requires.there in
    let ks = node_keys (m node) in
    let vs = node_values (m node) in
    let i = c.visit-place.result.slot in
    let slot = c.visit-place.ensures.slot in
    let low = at-low k.order g.met.K.KeyOrder.total k.read s m l node node_is ascends there ks vs refl refl i slot in
    let used = keys-length m 2 level node c.requires.node in
    let room = node-room m 2 level node c.requires.node in
    let words : c.visit-place.new.words ≡ m node = c.visit-place.ensures.words in
    let read : slice_index_or c.visit-place.new.words (18 + i) 0 ≡ get_or vs i 0 =
    ap (λ (ws : List ℕ). slice_index_or ws (18 + i) 0) words ∙ sym (get_or-node_values (m node) i (omega arith)) in
    let child = at-node k.order g.met.K.KeyOrder.total k.read s m l node node_is ascends there ks vs refl refl i slot in
    let size = node-size m 8 l (get_or vs i 0) child in
    let small = g.met.F.Frozen.references c.args.frozen.now (get_or vs i 0) (omega arith) in
    omega arith

pub returns-clause-step : goal.returns-clause-step
returns-clause-step g c =
    let m = g.F.Frozen.records c.args.frozen.now in
    let node = c.args.node in
    let level = level_of (m node) in
    let l = level - 1 in
    let k = g.K.KeyOrder in
    let s = k.sought c.args.key.now in
    let seen = seen_by k.read k.order s m in
    let inner = c.requires.inner in
    let up : level ≡ suc l = omega arith in
    let node_is = subst (λ n. IsNode m 2 n node) up c.requires.node in
    let ascends = subst (λ n. Ascends k.order k.read m (pairs_below m n node)) up c.requires.ascends in
    let there = subst (λ n. IsSome (lookup seen (pairs_below m n node))) up c.requires.there in
    let ks = node_keys (m node) in
    let vs = node_values (m node) in
    let i = c.visit-place.result.slot in
    let slot = c.visit-place.ensures.slot in
    let low = at-low k.order g.met.K.KeyOrder.total k.read s m l node node_is ascends there ks vs refl refl i slot in
    let used = keys-length m 2 level node c.requires.node in
    let room = node-room m 2 level node c.requires.node in
    let words : c.visit-place.new.words ≡ m node = c.visit-place.ensures.words in
    let read : slice_index_or c.visit-place.new.words (18 + i) 0 ≡ get_or vs i 0 =
    ap (λ (ws : List ℕ). slice_index_or ws (18 + i) 0) words ∙ sym (get_or-node_values (m node) i (omega arith)) in
    at-step k.order g.met.K.KeyOrder.total k.read s m l node node_is ascends there ks vs refl refl i slot c.from_raw-child.result (c.from_raw-child.ensures ∙ read)

pub returns-clause-ascends : goal.returns-clause-ascends
returns-clause-ascends g c =
    let m = g.F.Frozen.records c.args.frozen.now in
    let node = c.args.node in
    let level = level_of (m node) in
    let l = level - 1 in
    let k = g.K.KeyOrder in
    let s = k.sought c.args.key.now in
    let seen = seen_by k.read k.order s m in
    let inner = c.requires.inner in
    let up : level ≡ suc l = omega arith in
    let node_is = subst (λ n. IsNode m 2 n node) up c.requires.node in
    let ascends = subst (λ n. Ascends k.order k.read m (pairs_below m n node)) up c.requires.ascends in
    let there = subst (λ n. IsSome (lookup seen (pairs_below m n node))) up c.requires.there in
    let ks = node_keys (m node) in
    let vs = node_values (m node) in
    let i = c.visit-place.result.slot in
    let slot = c.visit-place.ensures.slot in
    let low = at-low k.order g.met.K.KeyOrder.total k.read s m l node node_is ascends there ks vs refl refl i slot in
    let used = keys-length m 2 level node c.requires.node in
    let room = node-room m 2 level node c.requires.node in
    let words : c.visit-place.new.words ≡ m node = c.visit-place.ensures.words in
    let read : slice_index_or c.visit-place.new.words (18 + i) 0 ≡ get_or vs i 0 =
    ap (λ (ws : List ℕ). slice_index_or ws (18 + i) 0) words ∙ sym (get_or-node_values (m node) i (omega arith)) in
    subst (λ (r : ℕ). Ascends k.order k.read m (pairs_below m l r)) (sym (c.from_raw-child.ensures ∙ read))
    (at-ascends k.order g.met.K.KeyOrder.total k.read s m l node node_is ascends there ks vs refl refl i slot)

pub returns-clause-readable : goal.returns-clause-readable
returns-clause-readable g c =
    let m = g.F.Frozen.records c.args.frozen.now in
    let node = c.args.node in
    let level = level_of (m node) in
    let l = level - 1 in
    let k = g.K.KeyOrder in
    let s = k.sought c.args.key.now in
    let seen = seen_by k.read k.order s m in
    let inner = c.requires.inner in
    let up : level ≡ suc l = omega arith in
    let node_is = subst (λ n. IsNode m 2 n node) up c.requires.node in
    let ascends = subst (λ n. Ascends k.order k.read m (pairs_below m n node)) up c.requires.ascends in
    let there = subst (λ n. IsSome (lookup seen (pairs_below m n node))) up c.requires.there in
    let ks = node_keys (m node) in
    let vs = node_values (m node) in
    let i = c.visit-place.result.slot in
    let slot = c.visit-place.ensures.slot in
    let low = at-low k.order g.met.K.KeyOrder.total k.read s m l node node_is ascends there ks vs refl refl i slot in
    let used = keys-length m 2 level node c.requires.node in
    let room = node-room m 2 level node c.requires.node in
    let words : c.visit-place.new.words ≡ m node = c.visit-place.ensures.words in
    let read : slice_index_or c.visit-place.new.words (18 + i) 0 ≡ get_or vs i 0 =
    ap (λ (ws : List ℕ). slice_index_or ws (18 + i) 0) words ∙ sym (get_or-node_values (m node) i (omega arith)) in
    let readable = subst (λ n. AllReadable k.can_read m (pairs_below m n node)) up c.requires.readable in
    subst (λ (r : ℕ). AllReadable k.can_read m (pairs_below m l r)) (sym (c.from_raw-child.ensures ∙ read))
    (at-all k.order g.met.K.KeyOrder.total k.read s m l node node_is ascends there ks vs refl refl i slot (λ (p : ℕ × ℕ). k.can_read m p.0) readable)
