use Rattle.std.proofs.Common.{rules, ◌≡◌, ◌+◌, ℕ, suc, ◌-◌, ◌<◌, ◌≤◌, List, [], ◌∷◌, ◌++◌, length, true, refl, sym, ap, subst, ◌∙◌, arith, ◌^◌, length-append}
use Rattle.std.specs.Prelude.{IsSome}
use Rattle.tree_read.specs.Nodes.{level_of, count_of, node_keys, node_values, IsNodeForm}
use Rattle.tree_read.specs.Trees.{pairs_below, IsNode, root_least}
use Rattle.tree_read.proofs.TreeLemmas.{IsNode-form, IsNode-count}
use Rattle.tree_read.specs.Keys.{seen_by, Ascends, AllReadable}
use Rattle.tree_read.specs.Pairs.{lookup}
use Rattle.tree_read.proofs.PairLemmas.{length-take_out}
use Rattle.tree_read.specs.Slots.{slot_pairs, IsInHand}
use Rattle.tree_read.proofs.CountLemmas.{leaf_count}
use Rattle.tree_read.proofs.SlotLemmas.{hand-leaf}
use Rattle.tree_read.proofs.ReadLemmas.{node-level}
use Rattle.tree_read.proofs.RootLemmas.{root_least-few}
use Rattle.tree_read.proofs.ChildLemmas.{IsNode-lower}
use Rattle.frozen_nodes.specs.Words.{AreWords}
use Rattle.frozen_nodes.proofs.MakeWordLemmas.{words-level}
use Rattle.frozen_btree.proofs.RemoveLemmas.{removes-leaf, removes-over, over-out, over-few, over-least, over-hand}
use Rattle.frozen_btree.specs.Removes.{Removes, PutsBack, IsStep, spliced}
use Rattle.frozen_nodes.proofs.MakesLemmas.{makes-more, makes-then, refuses-exit}
use Rattle.frozen_nodes.proofs.Results.{on_err}
use Rattle.store_api.specs.Calls.{Refuses}
use Rattle.frozen_nodes.specs.Makes.{MakesNodes}
use Rattle.frozen_btree.proofs.remove_below.+remove_below.Goals as goal

pub returns-then-level-eq0-clause-removes : goal.returns-then-level-eq0-clause-removes
returns-then-level-eq0-clause-removes g t c =
    let records = g.S.Frozen.records in
    let ledger = g.S.Store.ledger in
    let m = records c.args.store.now in
    let node = c.args.node in
    let before = c.args.replaced.now.items in
    let k = g.K.KeyOrder in
    let seen = seen_by k.read k.order (k.sought c.args.key.now) m in
    let leaf = c.remove_in_leaf.ensures in
    let f = c.remove_in_leaf.new.frozen in
    let ks = node_keys c.remove_in_leaf.new.words in
    let vs = node_values c.remove_in_leaf.new.words in
    let pushed : c.push.new.self.items ≡ before ++ (node ∷ []) = c.push.ensures.items ∙ ap (λ (r : ℕ). before ++ (r ∷ [])) c.raw.ensures in
    subst (λ u. Removes seen (ledger c.args.store.now) (ledger u) m (records u) c.args.level node before c.push.new.self.items ks vs) (sym leaf.same)
    (subst (λ n. Removes seen (ledger c.args.store.now) (ledger c.args.store.now) m m n node before c.push.new.self.items ks vs) (sym c.if-level-eq0.true)
    (removes-leaf seen (ledger c.args.store.now) m node before c.push.new.self.items ks vs leaf.words.even leaf.pairs leaf.size pushed))

pub returns-then-level-eq0-clause-words : goal.returns-then-level-eq0-clause-words
returns-then-level-eq0-clause-words g t c =
    let leaf = c.remove_in_leaf.ensures in
    let n = g.S.Frozen.records c.remove_in_leaf.new.frozen in
    let new = c.remove_in_leaf.new.words in
    let ks = node_keys new in
    let vs = node_values new in
    let count : length ks ≡ length (slot_pairs n 0 ks vs) = leaf_count n ks vs 0 refl (hand-leaf n ks vs leaf.words.even) in
    subst (λ j. AreWords j (length (slot_pairs n j ks vs)) ks vs new) (sym c.if-level-eq0.true)
    (subst (λ u. AreWords 0 u ks vs new) count leaf.words)

pub step_down-step-requires : goal.step_down-step-requires
step_down-step-requires g t c = (
  omega arith,
  (
    omega arith,
    (
      (let records = g.S.Frozen.records in
          let m = records c.args.store.now in
          let node = c.args.node in
          let level = c.args.level in
          let at = node-level m (root_least level) level node c.requires.node in
          let l = level - 1 in
          let some = c.if-level-eq0.false in
          let up : level ≡ suc l = omega arith in
          omega arith),
      (
        (let records = g.S.Frozen.records in
            let m = records c.args.store.now in
            let node = c.args.node in
            let level = c.args.level in
            let at = node-level m (root_least level) level node c.requires.node in
            let l = level - 1 in
            let some = c.if-level-eq0.false in
            let up : level ≡ suc l = omega arith in
            subst (λ n. IsNode m 2 n node) (sym at) (subst (λ n. IsNode m n level node) (ap root_least up) c.requires.node)),
        (
          (let records = g.S.Frozen.records in
              let m = records c.args.store.now in
              let node = c.args.node in
              let level = c.args.level in
              let at = node-level m (root_least level) level node c.requires.node in
              subst (λ n. Ascends g.K.KeyOrder.order g.K.KeyOrder.read m (pairs_below m n node)) (sym at) c.requires.ascends),
          (
            (let records = g.S.Frozen.records in
                let m = records c.args.store.now in
                let node = c.args.node in
                let level = c.args.level in
                let at = node-level m (root_least level) level node c.requires.node in
                subst (λ n. AllReadable g.K.KeyOrder.can_read m (pairs_below m n node)) (sym at) c.requires.readable),
            ((let records = g.S.Frozen.records in
                let m = records c.args.store.now in
                let node = c.args.node in
                let level = c.args.level in
                let at = node-level m (root_least level) level node c.requires.node in
                let k = g.K.KeyOrder in
                subst (λ n. IsSome (lookup (seen_by k.read k.order (k.sought c.args.key.now) m) (pairs_below m n node))) (sym at) c.requires.there)),
          ),
        ),
      ),
    ),
  ),
)

pub remove_below-requires : goal.remove_below-requires
remove_below-requires g t c =
    let records = g.S.Frozen.records in
    let m = records c.args.store.now in
    let node = c.args.node in
    let level = c.args.level in
    let at = node-level m (root_least level) level node c.requires.node in
    let l = level - 1 in
    let some = c.if-level-eq0.false in
    let up : level ≡ suc l = omega arith in
    let k = g.K.KeyOrder in
    let s = k.sought c.args.key.now in
    let seen = seen_by k.read k.order s m in
    let ks = node_keys (m node) in
    let vs = node_values (m node) in
    let place = c.step_down-step.result.place in
    let child = c.step_down-step.result.child in
    let same = c.step_down-step.ensures.same in
    let down : level_of (m node) - 1 ≡ l = ap (λ n. n - 1) at in
    let step = subst (λ n. IsStep seen m n node ks vs place child) down c.step_down-step.ensures.step in
    let low = c.requires.low in
    let room = c.requires.room in
    let size = c.push.ensures.len in
    let few : root_least l ≤ 8 = root_least-few l in
    let ascends = subst (λ n. Ascends k.order k.read m (pairs_below m n child)) down c.step_down-step.ensures.ascends in
    let readable = subst (λ n. AllReadable k.can_read m (pairs_below m n child)) down c.step_down-step.ensures.readable in
    let sub = step.child_node in
    λ κs h. (
      omega arith,
      (
        search rules,
        (
          h.0,
          (
            h.1.0,
            (
              h.1.1.0,
              (
                h.1.1.1.0,
                (
                  h.1.1.1.1,
                  (
                    omega arith,
                    (
                      subst (λ f. (g.S.Store.ledger f).unit ≡ true) (sym same) c.requires.unit,
                      (
                        omega arith,
                        (
                          subst (λ f. IsNode (records f) (root_least l) l child) (sym same) (IsNode-lower m 8 (root_least l) l child few sub),
                          (
                            subst (λ f. Ascends k.order k.read (records f) (pairs_below (records f) l child)) (sym same) ascends,
                            (
                              subst (λ f. AllReadable k.can_read (records f) (pairs_below (records f) l child)) (sym same) readable,
                              (
                                subst (λ f. IsSome (lookup (seen_by k.read k.order s (records f)) (pairs_below (records f) l child))) (sym same) step.there,
                                (
                                    omega arith),
                              ),
                            ),
                          ),
                        ),
                      ),
                    ),
                  ),
                ),
              ),
            ),
          ),
        ),
      ),
    )

pub put_child-requires-clause-unit : goal.put_child-requires-clause-unit
put_child-requires-clause-unit g t c =
    let records = g.S.Frozen.records in
    let ledger = g.S.Store.ledger in
    let m = records c.args.store.now in
    let node = c.args.node in
    let level = c.args.level in
    let at = node-level m (root_least level) level node c.requires.node in
    let l = level - 1 in
    let some = c.if-level-eq0.false in
    let up : level ≡ suc l = omega arith in
    let k = g.K.KeyOrder in
    let s = k.sought c.args.key.now in
    let seen = seen_by k.read k.order s m in
    let ks = node_keys (m node) in
    let vs = node_values (m node) in
    let w = c.step_down-step.new.words in
    let words : w ≡ m node = c.step_down-step.ensures.words in
    let place = c.step_down-step.result.place in
    let child = c.step_down-step.result.child in
    let same = c.step_down-step.ensures.same in
    let down : level_of (m node) - 1 ≡ l = ap (λ n. n - 1) at in
    let step = subst (λ n. IsStep seen m n node ks vs place child) down c.step_down-step.ensures.step in
    let old = ledger c.args.store.now in
    let mid = ledger c.remove_below.new.store in
    let n = records c.remove_below.new.store in
    let below = c.remove_below.new.words in
    let ck = node_keys below in
    let cv = node_values below in
    let before = c.args.replaced.now.items in
    let middle = c.remove_below.new.replaced.items in
    let pushed : c.push.new.self.items ≡ before ++ (node ∷ []) = c.push.ensures.items ∙ ap (λ (r : ℕ). before ++ (r ∷ [])) c.raw.ensures in
    let removes = subst (λ xs. Removes seen old mid m n l child xs middle ck cv) pushed
    (subst (λ f. Removes (seen_by k.read k.order s (records f)) (ledger f) mid (records f) n l child c.push.new.self.items middle ck cv) same c.in_ok-remove_below.ensures.removes) in
    let there = subst (λ j. IsSome (lookup seen (pairs_below m j node))) up c.requires.there in
    let count = length (slot_pairs n l ck cv) in
    let are : AreWords l count ck cv below = c.in_ok-remove_below.ensures.words in
    let level_is : level_of below ≡ l = words-level l count ck cv below are in
    let moved : (P : ℕ → List ℕ → List ℕ → Type 0) → P l ks vs → P (level_of below) (node_keys w) (node_values w) =
    λ P h. subst (λ j. P j (node_keys w) (node_values w)) (sym level_is) (subst (λ ws. P l (node_keys ws) (node_values ws)) (sym words) h) in
    removes.makes.may.unit ∙ c.requires.unit

pub put_child-requires-clause-low : goal.put_child-requires-clause-low
put_child-requires-clause-low g t c =
    let records = g.S.Frozen.records in
    let ledger = g.S.Store.ledger in
    let m = records c.args.store.now in
    let node = c.args.node in
    let level = c.args.level in
    let at = node-level m (root_least level) level node c.requires.node in
    let l = level - 1 in
    let some = c.if-level-eq0.false in
    let up : level ≡ suc l = omega arith in
    let k = g.K.KeyOrder in
    let s = k.sought c.args.key.now in
    let seen = seen_by k.read k.order s m in
    let ks = node_keys (m node) in
    let vs = node_values (m node) in
    let w = c.step_down-step.new.words in
    let words : w ≡ m node = c.step_down-step.ensures.words in
    let place = c.step_down-step.result.place in
    let child = c.step_down-step.result.child in
    let same = c.step_down-step.ensures.same in
    let down : level_of (m node) - 1 ≡ l = ap (λ n. n - 1) at in
    let step = subst (λ n. IsStep seen m n node ks vs place child) down c.step_down-step.ensures.step in
    let old = ledger c.args.store.now in
    let mid = ledger c.remove_below.new.store in
    let n = records c.remove_below.new.store in
    let below = c.remove_below.new.words in
    let ck = node_keys below in
    let cv = node_values below in
    let before = c.args.replaced.now.items in
    let middle = c.remove_below.new.replaced.items in
    let pushed : c.push.new.self.items ≡ before ++ (node ∷ []) = c.push.ensures.items ∙ ap (λ (r : ℕ). before ++ (r ∷ [])) c.raw.ensures in
    let removes = subst (λ xs. Removes seen old mid m n l child xs middle ck cv) pushed
    (subst (λ f. Removes (seen_by k.read k.order s (records f)) (ledger f) mid (records f) n l child c.push.new.self.items middle ck cv) same c.in_ok-remove_below.ensures.removes) in
    let there = subst (λ j. IsSome (lookup seen (pairs_below m j node))) up c.requires.there in
    let count = length (slot_pairs n l ck cv) in
    let are : AreWords l count ck cv below = c.in_ok-remove_below.ensures.words in
    let level_is : level_of below ≡ l = words-level l count ck cv below are in
    let moved : (P : ℕ → List ℕ → List ℕ → Type 0) → P l ks vs → P (level_of below) (node_keys w) (node_values w) =
    λ P h. subst (λ j. P j (node_keys w) (node_values w)) (sym level_is) (subst (λ ws. P l (node_keys ws) (node_values ws)) (sym words) h) in
    let most = c.requires.low in
    omega arith

pub put_child-requires-clause-upper : goal.put_child-requires-clause-upper
put_child-requires-clause-upper g t c =
    let records = g.S.Frozen.records in
    let ledger = g.S.Store.ledger in
    let m = records c.args.store.now in
    let node = c.args.node in
    let level = c.args.level in
    let at = node-level m (root_least level) level node c.requires.node in
    let l = level - 1 in
    let some = c.if-level-eq0.false in
    let up : level ≡ suc l = omega arith in
    let k = g.K.KeyOrder in
    let s = k.sought c.args.key.now in
    let seen = seen_by k.read k.order s m in
    let ks = node_keys (m node) in
    let vs = node_values (m node) in
    let w = c.step_down-step.new.words in
    let words : w ≡ m node = c.step_down-step.ensures.words in
    let place = c.step_down-step.result.place in
    let child = c.step_down-step.result.child in
    let same = c.step_down-step.ensures.same in
    let down : level_of (m node) - 1 ≡ l = ap (λ n. n - 1) at in
    let step = subst (λ n. IsStep seen m n node ks vs place child) down c.step_down-step.ensures.step in
    let old = ledger c.args.store.now in
    let mid = ledger c.remove_below.new.store in
    let n = records c.remove_below.new.store in
    let below = c.remove_below.new.words in
    let ck = node_keys below in
    let cv = node_values below in
    let before = c.args.replaced.now.items in
    let middle = c.remove_below.new.replaced.items in
    let pushed : c.push.new.self.items ≡ before ++ (node ∷ []) = c.push.ensures.items ∙ ap (λ (r : ℕ). before ++ (r ∷ [])) c.raw.ensures in
    let removes = subst (λ xs. Removes seen old mid m n l child xs middle ck cv) pushed
    (subst (λ f. Removes (seen_by k.read k.order s (records f)) (ledger f) mid (records f) n l child c.push.new.self.items middle ck cv) same c.in_ok-remove_below.ensures.removes) in
    let there = subst (λ j. IsSome (lookup seen (pairs_below m j node))) up c.requires.there in
    let count = length (slot_pairs n l ck cv) in
    let are : AreWords l count ck cv below = c.in_ok-remove_below.ensures.words in
    let level_is : level_of below ≡ l = words-level l count ck cv below are in
    let moved : (P : ℕ → List ℕ → List ℕ → Type 0) → P l ks vs → P (level_of below) (node_keys w) (node_values w) =
    λ P h. subst (λ j. P j (node_keys w) (node_values w)) (sym level_is) (subst (λ ws. P l (node_keys ws) (node_values ws)) (sym words) h) in
    let level_now : level_of w ≡ level_of (m node) = ap level_of words in
    omega arith

pub put_child-requires-clause-form : goal.put_child-requires-clause-form
put_child-requires-clause-form g t c =
    let records = g.S.Frozen.records in
    let ledger = g.S.Store.ledger in
    let m = records c.args.store.now in
    let node = c.args.node in
    let level = c.args.level in
    let at = node-level m (root_least level) level node c.requires.node in
    let l = level - 1 in
    let some = c.if-level-eq0.false in
    let up : level ≡ suc l = omega arith in
    let k = g.K.KeyOrder in
    let s = k.sought c.args.key.now in
    let seen = seen_by k.read k.order s m in
    let ks = node_keys (m node) in
    let vs = node_values (m node) in
    let w = c.step_down-step.new.words in
    let words : w ≡ m node = c.step_down-step.ensures.words in
    let place = c.step_down-step.result.place in
    let child = c.step_down-step.result.child in
    let same = c.step_down-step.ensures.same in
    let down : level_of (m node) - 1 ≡ l = ap (λ n. n - 1) at in
    let step = subst (λ n. IsStep seen m n node ks vs place child) down c.step_down-step.ensures.step in
    let old = ledger c.args.store.now in
    let mid = ledger c.remove_below.new.store in
    let n = records c.remove_below.new.store in
    let below = c.remove_below.new.words in
    let ck = node_keys below in
    let cv = node_values below in
    let before = c.args.replaced.now.items in
    let middle = c.remove_below.new.replaced.items in
    let pushed : c.push.new.self.items ≡ before ++ (node ∷ []) = c.push.ensures.items ∙ ap (λ (r : ℕ). before ++ (r ∷ [])) c.raw.ensures in
    let removes = subst (λ xs. Removes seen old mid m n l child xs middle ck cv) pushed
    (subst (λ f. Removes (seen_by k.read k.order s (records f)) (ledger f) mid (records f) n l child c.push.new.self.items middle ck cv) same c.in_ok-remove_below.ensures.removes) in
    let there = subst (λ j. IsSome (lookup seen (pairs_below m j node))) up c.requires.there in
    let count = length (slot_pairs n l ck cv) in
    let are : AreWords l count ck cv below = c.in_ok-remove_below.ensures.words in
    let level_is : level_of below ≡ l = words-level l count ck cv below are in
    let moved : (P : ℕ → List ℕ → List ℕ → Type 0) → P l ks vs → P (level_of below) (node_keys w) (node_values w) =
    λ P h. subst (λ j. P j (node_keys w) (node_values w)) (sym level_is) (subst (λ ws. P l (node_keys ws) (node_values ws)) (sym words) h) in
    let is : IsNode m 2 level node = subst (λ j. IsNode m j level node) (ap root_least up) c.requires.node in
    subst (λ ws. IsNodeForm (level_of ws) 2 ws) (sym words) (subst (λ j. IsNodeForm j 2 (m node)) (sym at) (IsNode-form m 2 level node is))

pub put_child-requires-clause-parent : goal.put_child-requires-clause-parent
put_child-requires-clause-parent g t c =
    let records = g.S.Frozen.records in
    let ledger = g.S.Store.ledger in
    let m = records c.args.store.now in
    let node = c.args.node in
    let level = c.args.level in
    let at = node-level m (root_least level) level node c.requires.node in
    let l = level - 1 in
    let some = c.if-level-eq0.false in
    let up : level ≡ suc l = omega arith in
    let k = g.K.KeyOrder in
    let s = k.sought c.args.key.now in
    let seen = seen_by k.read k.order s m in
    let ks = node_keys (m node) in
    let vs = node_values (m node) in
    let w = c.step_down-step.new.words in
    let words : w ≡ m node = c.step_down-step.ensures.words in
    let place = c.step_down-step.result.place in
    let child = c.step_down-step.result.child in
    let same = c.step_down-step.ensures.same in
    let down : level_of (m node) - 1 ≡ l = ap (λ n. n - 1) at in
    let step = subst (λ n. IsStep seen m n node ks vs place child) down c.step_down-step.ensures.step in
    let old = ledger c.args.store.now in
    let mid = ledger c.remove_below.new.store in
    let n = records c.remove_below.new.store in
    let below = c.remove_below.new.words in
    let ck = node_keys below in
    let cv = node_values below in
    let before = c.args.replaced.now.items in
    let middle = c.remove_below.new.replaced.items in
    let pushed : c.push.new.self.items ≡ before ++ (node ∷ []) = c.push.ensures.items ∙ ap (λ (r : ℕ). before ++ (r ∷ [])) c.raw.ensures in
    let removes = subst (λ xs. Removes seen old mid m n l child xs middle ck cv) pushed
    (subst (λ f. Removes (seen_by k.read k.order s (records f)) (ledger f) mid (records f) n l child c.push.new.self.items middle ck cv) same c.in_ok-remove_below.ensures.removes) in
    let there = subst (λ j. IsSome (lookup seen (pairs_below m j node))) up c.requires.there in
    let count = length (slot_pairs n l ck cv) in
    let are : AreWords l count ck cv below = c.in_ok-remove_below.ensures.words in
    let level_is : level_of below ≡ l = words-level l count ck cv below are in
    let moved : (P : ℕ → List ℕ → List ℕ → Type 0) → P l ks vs → P (level_of below) (node_keys w) (node_values w) =
    λ P h. subst (λ j. P j (node_keys w) (node_values w)) (sym level_is) (subst (λ ws. P l (node_keys ws) (node_values ws)) (sym words) h) in
    moved (λ j xs ys. IsInHand n (suc j) xs ys) (over-hand seen old mid m n l node ks vs place child step before middle ck cv removes)

pub put_child-requires-clause-place : goal.put_child-requires-clause-place
put_child-requires-clause-place g t c =
    let records = g.S.Frozen.records in
    let ledger = g.S.Store.ledger in
    let m = records c.args.store.now in
    let node = c.args.node in
    let level = c.args.level in
    let at = node-level m (root_least level) level node c.requires.node in
    let l = level - 1 in
    let some = c.if-level-eq0.false in
    let up : level ≡ suc l = omega arith in
    let k = g.K.KeyOrder in
    let s = k.sought c.args.key.now in
    let seen = seen_by k.read k.order s m in
    let ks = node_keys (m node) in
    let vs = node_values (m node) in
    let w = c.step_down-step.new.words in
    let words : w ≡ m node = c.step_down-step.ensures.words in
    let place = c.step_down-step.result.place in
    let child = c.step_down-step.result.child in
    let same = c.step_down-step.ensures.same in
    let down : level_of (m node) - 1 ≡ l = ap (λ n. n - 1) at in
    let step = subst (λ n. IsStep seen m n node ks vs place child) down c.step_down-step.ensures.step in
    let old = ledger c.args.store.now in
    let mid = ledger c.remove_below.new.store in
    let n = records c.remove_below.new.store in
    let below = c.remove_below.new.words in
    let ck = node_keys below in
    let cv = node_values below in
    let before = c.args.replaced.now.items in
    let middle = c.remove_below.new.replaced.items in
    let pushed : c.push.new.self.items ≡ before ++ (node ∷ []) = c.push.ensures.items ∙ ap (λ (r : ℕ). before ++ (r ∷ [])) c.raw.ensures in
    let removes = subst (λ xs. Removes seen old mid m n l child xs middle ck cv) pushed
    (subst (λ f. Removes (seen_by k.read k.order s (records f)) (ledger f) mid (records f) n l child c.push.new.self.items middle ck cv) same c.in_ok-remove_below.ensures.removes) in
    let there = subst (λ j. IsSome (lookup seen (pairs_below m j node))) up c.requires.there in
    let count = length (slot_pairs n l ck cv) in
    let are : AreWords l count ck cv below = c.in_ok-remove_below.ensures.words in
    let level_is : level_of below ≡ l = words-level l count ck cv below are in
    let moved : (P : ℕ → List ℕ → List ℕ → Type 0) → P l ks vs → P (level_of below) (node_keys w) (node_values w) =
    λ P h. subst (λ j. P j (node_keys w) (node_values w)) (sym level_is) (subst (λ ws. P l (node_keys ws) (node_values ws)) (sym words) h) in
    moved (λ j xs ys. place < length xs) step.within

pub put_child-requires-clause-hand : goal.put_child-requires-clause-hand
put_child-requires-clause-hand g t c =
    let records = g.S.Frozen.records in
    let ledger = g.S.Store.ledger in
    let m = records c.args.store.now in
    let node = c.args.node in
    let level = c.args.level in
    let at = node-level m (root_least level) level node c.requires.node in
    let l = level - 1 in
    let some = c.if-level-eq0.false in
    let up : level ≡ suc l = omega arith in
    let k = g.K.KeyOrder in
    let s = k.sought c.args.key.now in
    let seen = seen_by k.read k.order s m in
    let ks = node_keys (m node) in
    let vs = node_values (m node) in
    let w = c.step_down-step.new.words in
    let words : w ≡ m node = c.step_down-step.ensures.words in
    let place = c.step_down-step.result.place in
    let child = c.step_down-step.result.child in
    let same = c.step_down-step.ensures.same in
    let down : level_of (m node) - 1 ≡ l = ap (λ n. n - 1) at in
    let step = subst (λ n. IsStep seen m n node ks vs place child) down c.step_down-step.ensures.step in
    let old = ledger c.args.store.now in
    let mid = ledger c.remove_below.new.store in
    let n = records c.remove_below.new.store in
    let below = c.remove_below.new.words in
    let ck = node_keys below in
    let cv = node_values below in
    let before = c.args.replaced.now.items in
    let middle = c.remove_below.new.replaced.items in
    let pushed : c.push.new.self.items ≡ before ++ (node ∷ []) = c.push.ensures.items ∙ ap (λ (r : ℕ). before ++ (r ∷ [])) c.raw.ensures in
    let removes = subst (λ xs. Removes seen old mid m n l child xs middle ck cv) pushed
    (subst (λ f. Removes (seen_by k.read k.order s (records f)) (ledger f) mid (records f) n l child c.push.new.self.items middle ck cv) same c.in_ok-remove_below.ensures.removes) in
    let there = subst (λ j. IsSome (lookup seen (pairs_below m j node))) up c.requires.there in
    let count = length (slot_pairs n l ck cv) in
    let are : AreWords l count ck cv below = c.in_ok-remove_below.ensures.words in
    let level_is : level_of below ≡ l = words-level l count ck cv below are in
    let moved : (P : ℕ → List ℕ → List ℕ → Type 0) → P l ks vs → P (level_of below) (node_keys w) (node_values w) =
    λ P h. subst (λ j. P j (node_keys w) (node_values w)) (sym level_is) (subst (λ ws. P l (node_keys ws) (node_values ws)) (sym words) h) in
    subst (λ j. IsInHand n j ck cv) (sym level_is) removes.hand

pub put_child-requires-clause-least : goal.put_child-requires-clause-least
put_child-requires-clause-least g t c =
    let records = g.S.Frozen.records in
    let ledger = g.S.Store.ledger in
    let m = records c.args.store.now in
    let node = c.args.node in
    let level = c.args.level in
    let at = node-level m (root_least level) level node c.requires.node in
    let l = level - 1 in
    let some = c.if-level-eq0.false in
    let up : level ≡ suc l = omega arith in
    let k = g.K.KeyOrder in
    let s = k.sought c.args.key.now in
    let seen = seen_by k.read k.order s m in
    let ks = node_keys (m node) in
    let vs = node_values (m node) in
    let w = c.step_down-step.new.words in
    let words : w ≡ m node = c.step_down-step.ensures.words in
    let place = c.step_down-step.result.place in
    let child = c.step_down-step.result.child in
    let same = c.step_down-step.ensures.same in
    let down : level_of (m node) - 1 ≡ l = ap (λ n. n - 1) at in
    let step = subst (λ n. IsStep seen m n node ks vs place child) down c.step_down-step.ensures.step in
    let old = ledger c.args.store.now in
    let mid = ledger c.remove_below.new.store in
    let n = records c.remove_below.new.store in
    let below = c.remove_below.new.words in
    let ck = node_keys below in
    let cv = node_values below in
    let before = c.args.replaced.now.items in
    let middle = c.remove_below.new.replaced.items in
    let pushed : c.push.new.self.items ≡ before ++ (node ∷ []) = c.push.ensures.items ∙ ap (λ (r : ℕ). before ++ (r ∷ [])) c.raw.ensures in
    let removes = subst (λ xs. Removes seen old mid m n l child xs middle ck cv) pushed
    (subst (λ f. Removes (seen_by k.read k.order s (records f)) (ledger f) mid (records f) n l child c.push.new.self.items middle ck cv) same c.in_ok-remove_below.ensures.removes) in
    let there = subst (λ j. IsSome (lookup seen (pairs_below m j node))) up c.requires.there in
    let count = length (slot_pairs n l ck cv) in
    let are : AreWords l count ck cv below = c.in_ok-remove_below.ensures.words in
    let level_is : level_of below ≡ l = words-level l count ck cv below are in
    let moved : (P : ℕ → List ℕ → List ℕ → Type 0) → P l ks vs → P (level_of below) (node_keys w) (node_values w) =
    λ P h. subst (λ j. P j (node_keys w) (node_values w)) (sym level_is) (subst (λ ws. P l (node_keys ws) (node_values ws)) (sym words) h) in
    over-least seen old mid m n l node ks vs place child step before middle ck cv removes

pub put_child-requires-clause-child_words : goal.put_child-requires-clause-child_words
put_child-requires-clause-child_words g t c =
    let records = g.S.Frozen.records in
    let ledger = g.S.Store.ledger in
    let m = records c.args.store.now in
    let node = c.args.node in
    let level = c.args.level in
    let at = node-level m (root_least level) level node c.requires.node in
    let l = level - 1 in
    let some = c.if-level-eq0.false in
    let up : level ≡ suc l = omega arith in
    let k = g.K.KeyOrder in
    let s = k.sought c.args.key.now in
    let seen = seen_by k.read k.order s m in
    let ks = node_keys (m node) in
    let vs = node_values (m node) in
    let w = c.step_down-step.new.words in
    let words : w ≡ m node = c.step_down-step.ensures.words in
    let place = c.step_down-step.result.place in
    let child = c.step_down-step.result.child in
    let same = c.step_down-step.ensures.same in
    let down : level_of (m node) - 1 ≡ l = ap (λ n. n - 1) at in
    let step = subst (λ n. IsStep seen m n node ks vs place child) down c.step_down-step.ensures.step in
    let old = ledger c.args.store.now in
    let mid = ledger c.remove_below.new.store in
    let n = records c.remove_below.new.store in
    let below = c.remove_below.new.words in
    let ck = node_keys below in
    let cv = node_values below in
    let before = c.args.replaced.now.items in
    let middle = c.remove_below.new.replaced.items in
    let pushed : c.push.new.self.items ≡ before ++ (node ∷ []) = c.push.ensures.items ∙ ap (λ (r : ℕ). before ++ (r ∷ [])) c.raw.ensures in
    let removes = subst (λ xs. Removes seen old mid m n l child xs middle ck cv) pushed
    (subst (λ f. Removes (seen_by k.read k.order s (records f)) (ledger f) mid (records f) n l child c.push.new.self.items middle ck cv) same c.in_ok-remove_below.ensures.removes) in
    let there = subst (λ j. IsSome (lookup seen (pairs_below m j node))) up c.requires.there in
    let count = length (slot_pairs n l ck cv) in
    let are : AreWords l count ck cv below = c.in_ok-remove_below.ensures.words in
    let level_is : level_of below ≡ l = words-level l count ck cv below are in
    let moved : (P : ℕ → List ℕ → List ℕ → Type 0) → P l ks vs → P (level_of below) (node_keys w) (node_values w) =
    λ P h. subst (λ j. P j (node_keys w) (node_values w)) (sym level_is) (subst (λ ws. P l (node_keys ws) (node_values ws)) (sym words) h) in
    subst (λ j. AreWords j (length (slot_pairs n j ck cv)) ck cv below) (sym level_is) are

pub put_child-requires-clause-few : goal.put_child-requires-clause-few
put_child-requires-clause-few g t c =
    let records = g.S.Frozen.records in
    let ledger = g.S.Store.ledger in
    let m = records c.args.store.now in
    let node = c.args.node in
    let level = c.args.level in
    let at = node-level m (root_least level) level node c.requires.node in
    let l = level - 1 in
    let some = c.if-level-eq0.false in
    let up : level ≡ suc l = omega arith in
    let k = g.K.KeyOrder in
    let s = k.sought c.args.key.now in
    let seen = seen_by k.read k.order s m in
    let ks = node_keys (m node) in
    let vs = node_values (m node) in
    let w = c.step_down-step.new.words in
    let words : w ≡ m node = c.step_down-step.ensures.words in
    let place = c.step_down-step.result.place in
    let child = c.step_down-step.result.child in
    let same = c.step_down-step.ensures.same in
    let down : level_of (m node) - 1 ≡ l = ap (λ n. n - 1) at in
    let step = subst (λ n. IsStep seen m n node ks vs place child) down c.step_down-step.ensures.step in
    let old = ledger c.args.store.now in
    let mid = ledger c.remove_below.new.store in
    let n = records c.remove_below.new.store in
    let below = c.remove_below.new.words in
    let ck = node_keys below in
    let cv = node_values below in
    let before = c.args.replaced.now.items in
    let middle = c.remove_below.new.replaced.items in
    let pushed : c.push.new.self.items ≡ before ++ (node ∷ []) = c.push.ensures.items ∙ ap (λ (r : ℕ). before ++ (r ∷ [])) c.raw.ensures in
    let removes = subst (λ xs. Removes seen old mid m n l child xs middle ck cv) pushed
    (subst (λ f. Removes (seen_by k.read k.order s (records f)) (ledger f) mid (records f) n l child c.push.new.self.items middle ck cv) same c.in_ok-remove_below.ensures.removes) in
    let there = subst (λ j. IsSome (lookup seen (pairs_below m j node))) up c.requires.there in
    let count = length (slot_pairs n l ck cv) in
    let are : AreWords l count ck cv below = c.in_ok-remove_below.ensures.words in
    let level_is : level_of below ≡ l = words-level l count ck cv below are in
    let moved : (P : ℕ → List ℕ → List ℕ → Type 0) → P l ks vs → P (level_of below) (node_keys w) (node_values w) =
    λ P h. subst (λ j. P j (node_keys w) (node_values w)) (sym level_is) (subst (λ ws. P l (node_keys ws) (node_values ws)) (sym words) h) in
    moved (λ j xs ys. length (spliced n j place xs ys (slot_pairs n j ck cv)) < 2 ^ 32) (over-few seen old mid m n l node ks vs place child step before middle ck cv removes there)

pub put_child-requires-clause-counted : goal.put_child-requires-clause-counted
put_child-requires-clause-counted g t c =
    let records = g.S.Frozen.records in
    let ledger = g.S.Store.ledger in
    let m = records c.args.store.now in
    let node = c.args.node in
    let level = c.args.level in
    let at = node-level m (root_least level) level node c.requires.node in
    let l = level - 1 in
    let some = c.if-level-eq0.false in
    let up : level ≡ suc l = omega arith in
    let k = g.K.KeyOrder in
    let s = k.sought c.args.key.now in
    let seen = seen_by k.read k.order s m in
    let ks = node_keys (m node) in
    let vs = node_values (m node) in
    let w = c.step_down-step.new.words in
    let words : w ≡ m node = c.step_down-step.ensures.words in
    let place = c.step_down-step.result.place in
    let child = c.step_down-step.result.child in
    let same = c.step_down-step.ensures.same in
    let down : level_of (m node) - 1 ≡ l = ap (λ n. n - 1) at in
    let step = subst (λ n. IsStep seen m n node ks vs place child) down c.step_down-step.ensures.step in
    let old = ledger c.args.store.now in
    let mid = ledger c.remove_below.new.store in
    let n = records c.remove_below.new.store in
    let below = c.remove_below.new.words in
    let ck = node_keys below in
    let cv = node_values below in
    let before = c.args.replaced.now.items in
    let middle = c.remove_below.new.replaced.items in
    let pushed : c.push.new.self.items ≡ before ++ (node ∷ []) = c.push.ensures.items ∙ ap (λ (r : ℕ). before ++ (r ∷ [])) c.raw.ensures in
    let removes = subst (λ xs. Removes seen old mid m n l child xs middle ck cv) pushed
    (subst (λ f. Removes (seen_by k.read k.order s (records f)) (ledger f) mid (records f) n l child c.push.new.self.items middle ck cv) same c.in_ok-remove_below.ensures.removes) in
    let there = subst (λ j. IsSome (lookup seen (pairs_below m j node))) up c.requires.there in
    let count = length (slot_pairs n l ck cv) in
    let are : AreWords l count ck cv below = c.in_ok-remove_below.ensures.words in
    let level_is : level_of below ≡ l = words-level l count ck cv below are in
    let moved : (P : ℕ → List ℕ → List ℕ → Type 0) → P l ks vs → P (level_of below) (node_keys w) (node_values w) =
    λ P h. subst (λ j. P j (node_keys w) (node_values w)) (sym level_is) (subst (λ ws. P l (node_keys ws) (node_values ws)) (sym words) h) in
    let is : IsNode m 2 level node = subst (λ j. IsNode m j level node) (ap root_least up) c.requires.node in
    let counted : count_of (m node) ≡ length (pairs_below m (suc l) node) = IsNode-count m 2 level node is ∙ ap (λ j. length (pairs_below m j node)) up in
    let one : suc (length (spliced n l place ks vs (slot_pairs n l ck cv))) ≡ length (pairs_below m (suc l) node) =
    ap (λ ps. suc (length ps)) (over-out seen old mid m n l node ks vs place child step before middle ck cv removes) ∙ length-take_out seen (pairs_below m (suc l) node) there in
    let all : count_of (m node) ≡ suc (length (spliced n l place ks vs (slot_pairs n l ck cv))) = counted ∙ sym one in
    ap count_of words ∙ moved (λ j xs ys. count_of (m node) ≡ suc (length (spliced n j place xs ys (slot_pairs n j ck cv)))) all

pub put_child-requires-clause-room_replaced : goal.put_child-requires-clause-room_replaced
put_child-requires-clause-room_replaced g t c =
    let records = g.S.Frozen.records in
    let ledger = g.S.Store.ledger in
    let m = records c.args.store.now in
    let node = c.args.node in
    let level = c.args.level in
    let at = node-level m (root_least level) level node c.requires.node in
    let l = level - 1 in
    let some = c.if-level-eq0.false in
    let up : level ≡ suc l = omega arith in
    let k = g.K.KeyOrder in
    let s = k.sought c.args.key.now in
    let seen = seen_by k.read k.order s m in
    let ks = node_keys (m node) in
    let vs = node_values (m node) in
    let w = c.step_down-step.new.words in
    let words : w ≡ m node = c.step_down-step.ensures.words in
    let place = c.step_down-step.result.place in
    let child = c.step_down-step.result.child in
    let same = c.step_down-step.ensures.same in
    let down : level_of (m node) - 1 ≡ l = ap (λ n. n - 1) at in
    let step = subst (λ n. IsStep seen m n node ks vs place child) down c.step_down-step.ensures.step in
    let old = ledger c.args.store.now in
    let mid = ledger c.remove_below.new.store in
    let n = records c.remove_below.new.store in
    let below = c.remove_below.new.words in
    let ck = node_keys below in
    let cv = node_values below in
    let before = c.args.replaced.now.items in
    let middle = c.remove_below.new.replaced.items in
    let pushed : c.push.new.self.items ≡ before ++ (node ∷ []) = c.push.ensures.items ∙ ap (λ (r : ℕ). before ++ (r ∷ [])) c.raw.ensures in
    let removes = subst (λ xs. Removes seen old mid m n l child xs middle ck cv) pushed
    (subst (λ f. Removes (seen_by k.read k.order s (records f)) (ledger f) mid (records f) n l child c.push.new.self.items middle ck cv) same c.in_ok-remove_below.ensures.removes) in
    let there = subst (λ j. IsSome (lookup seen (pairs_below m j node))) up c.requires.there in
    let count = length (slot_pairs n l ck cv) in
    let are : AreWords l count ck cv below = c.in_ok-remove_below.ensures.words in
    let level_is : level_of below ≡ l = words-level l count ck cv below are in
    let moved : (P : ℕ → List ℕ → List ℕ → Type 0) → P l ks vs → P (level_of below) (node_keys w) (node_values w) =
    λ P h. subst (λ j. P j (node_keys w) (node_values w)) (sym level_is) (subst (λ ws. P l (node_keys ws) (node_values ws)) (sym words) h) in
    let path = removes.path in
    let more = length-append before (node ∷ []) in
    let room = c.requires.room in
    omega arith

pub returns-clause-removes : goal.returns-clause-removes
returns-clause-removes g t c =
    let records = g.S.Frozen.records in
    let ledger = g.S.Store.ledger in
    let m = records c.args.store.now in
    let node = c.args.node in
    let level = c.args.level in
    let at = node-level m (root_least level) level node c.requires.node in
    let l = level - 1 in
    let some = c.if-level-eq0.false in
    let up : level ≡ suc l = omega arith in
    let k = g.K.KeyOrder in
    let s = k.sought c.args.key.now in
    let seen = seen_by k.read k.order s m in
    let ks = node_keys (m node) in
    let vs = node_values (m node) in
    let w = c.step_down-step.new.words in
    let words : w ≡ m node = c.step_down-step.ensures.words in
    let place = c.step_down-step.result.place in
    let child = c.step_down-step.result.child in
    let same = c.step_down-step.ensures.same in
    let down : level_of (m node) - 1 ≡ l = ap (λ n. n - 1) at in
    let step = subst (λ n. IsStep seen m n node ks vs place child) down c.step_down-step.ensures.step in
    let old = ledger c.args.store.now in
    let mid = ledger c.remove_below.new.store in
    let n = records c.remove_below.new.store in
    let below = c.remove_below.new.words in
    let ck = node_keys below in
    let cv = node_values below in
    let before = c.args.replaced.now.items in
    let middle = c.remove_below.new.replaced.items in
    let pushed : c.push.new.self.items ≡ before ++ (node ∷ []) = c.push.ensures.items ∙ ap (λ (r : ℕ). before ++ (r ∷ [])) c.raw.ensures in
    let removes = subst (λ xs. Removes seen old mid m n l child xs middle ck cv) pushed
    (subst (λ f. Removes (seen_by k.read k.order s (records f)) (ledger f) mid (records f) n l child c.push.new.self.items middle ck cv) same c.in_ok-remove_below.ensures.removes) in
    let there = subst (λ j. IsSome (lookup seen (pairs_below m j node))) up c.requires.there in
    let count = length (slot_pairs n l ck cv) in
    let are : AreWords l count ck cv below = c.in_ok-remove_below.ensures.words in
    let level_is : level_of below ≡ l = words-level l count ck cv below are in
    let moved : (P : ℕ → List ℕ → List ℕ → Type 0) → P l ks vs → P (level_of below) (node_keys w) (node_values w) =
    λ P h. subst (λ j. P j (node_keys w) (node_values w)) (sym level_is) (subst (λ ws. P l (node_keys ws) (node_values ws)) (sym words) h) in
    let new = ledger c.put_child.new.store in
    let o = records c.put_child.new.store in
    let last = c.put_child.new.words in
    let after = c.put_child.new.replaced.items in
    let puts : PutsBack mid new n o (level_of below) place (node_keys w) (node_values w) ck cv middle after (node_keys last) (node_values last) = c.in_ok-put_child.ensures.puts in
    subst (λ j. Removes seen old new m o j node before after (node_keys last) (node_values last)) (sym up)
    (removes-over seen old mid m n l node ks vs place child step before middle ck cv removes new o after (node_keys last) (node_values last)
    (subst (λ j. PutsBack mid new n o j place ks vs ck cv middle after (node_keys last) (node_values last)) level_is
    (subst (λ ws. PutsBack mid new n o (level_of below) place (node_keys ws) (node_values ws) ck cv middle after (node_keys last) (node_values last)) words puts)))

pub returns-clause-words : goal.returns-clause-words
returns-clause-words g t c =
    let records = g.S.Frozen.records in
    let ledger = g.S.Store.ledger in
    let m = records c.args.store.now in
    let node = c.args.node in
    let level = c.args.level in
    let at = node-level m (root_least level) level node c.requires.node in
    let l = level - 1 in
    let some = c.if-level-eq0.false in
    let up : level ≡ suc l = omega arith in
    let k = g.K.KeyOrder in
    let s = k.sought c.args.key.now in
    let seen = seen_by k.read k.order s m in
    let ks = node_keys (m node) in
    let vs = node_values (m node) in
    let w = c.step_down-step.new.words in
    let words : w ≡ m node = c.step_down-step.ensures.words in
    let place = c.step_down-step.result.place in
    let child = c.step_down-step.result.child in
    let same = c.step_down-step.ensures.same in
    let down : level_of (m node) - 1 ≡ l = ap (λ n. n - 1) at in
    let step = subst (λ n. IsStep seen m n node ks vs place child) down c.step_down-step.ensures.step in
    let old = ledger c.args.store.now in
    let mid = ledger c.remove_below.new.store in
    let n = records c.remove_below.new.store in
    let below = c.remove_below.new.words in
    let ck = node_keys below in
    let cv = node_values below in
    let before = c.args.replaced.now.items in
    let middle = c.remove_below.new.replaced.items in
    let pushed : c.push.new.self.items ≡ before ++ (node ∷ []) = c.push.ensures.items ∙ ap (λ (r : ℕ). before ++ (r ∷ [])) c.raw.ensures in
    let removes = subst (λ xs. Removes seen old mid m n l child xs middle ck cv) pushed
    (subst (λ f. Removes (seen_by k.read k.order s (records f)) (ledger f) mid (records f) n l child c.push.new.self.items middle ck cv) same c.in_ok-remove_below.ensures.removes) in
    let there = subst (λ j. IsSome (lookup seen (pairs_below m j node))) up c.requires.there in
    let count = length (slot_pairs n l ck cv) in
    let are : AreWords l count ck cv below = c.in_ok-remove_below.ensures.words in
    let level_is : level_of below ≡ l = words-level l count ck cv below are in
    let moved : (P : ℕ → List ℕ → List ℕ → Type 0) → P l ks vs → P (level_of below) (node_keys w) (node_values w) =
    λ P h. subst (λ j. P j (node_keys w) (node_values w)) (sym level_is) (subst (λ ws. P l (node_keys ws) (node_values ws)) (sym words) h) in
    let new = ledger c.put_child.new.store in
    let o = records c.put_child.new.store in
    let last = c.put_child.new.words in
    let after = c.put_child.new.replaced.items in
    let level_now : level_of w ≡ level = ap level_of words ∙ at in
    subst (λ j. AreWords j (length (slot_pairs o j (node_keys last) (node_values last))) (node_keys last) (node_values last) last) level_now c.in_ok-put_child.ensures.words

pub returns-in_err-put_child-clause-refused : goal.returns-in_err-put_child-clause-refused
returns-in_err-put_child-clause-refused g t c =
    let records = g.S.Frozen.records in
    let ledger = g.S.Store.ledger in
    let m = records c.args.store.now in
    let node = c.args.node in
    let level = c.args.level in
    let at = node-level m (root_least level) level node c.requires.node in
    let l = level - 1 in
    let some = c.if-level-eq0.false in
    let up : level ≡ suc l = omega arith in
    let k = g.K.KeyOrder in
    let s = k.sought c.args.key.now in
    let seen = seen_by k.read k.order s m in
    let ks = node_keys (m node) in
    let vs = node_values (m node) in
    let w = c.step_down-step.new.words in
    let words : w ≡ m node = c.step_down-step.ensures.words in
    let place = c.step_down-step.result.place in
    let child = c.step_down-step.result.child in
    let same = c.step_down-step.ensures.same in
    let down : level_of (m node) - 1 ≡ l = ap (λ n. n - 1) at in
    let step = subst (λ n. IsStep seen m n node ks vs place child) down c.step_down-step.ensures.step in
    let old = ledger c.args.store.now in
    let mid = ledger c.remove_below.new.store in
    let n = records c.remove_below.new.store in
    let below = c.remove_below.new.words in
    let ck = node_keys below in
    let cv = node_values below in
    let before = c.args.replaced.now.items in
    let middle = c.remove_below.new.replaced.items in
    let pushed : c.push.new.self.items ≡ before ++ (node ∷ []) = c.push.ensures.items ∙ ap (λ (r : ℕ). before ++ (r ∷ [])) c.raw.ensures in
    let removes = subst (λ xs. Removes seen old mid m n l child xs middle ck cv) pushed
    (subst (λ f. Removes (seen_by k.read k.order s (records f)) (ledger f) mid (records f) n l child c.push.new.self.items middle ck cv) same c.in_ok-remove_below.ensures.removes) in
    let there = subst (λ j. IsSome (lookup seen (pairs_below m j node))) up c.requires.there in
    let count = length (slot_pairs n l ck cv) in
    let are : AreWords l count ck cv below = c.in_ok-remove_below.ensures.words in
    let level_is : level_of below ≡ l = words-level l count ck cv below are in
    let moved : (P : ℕ → List ℕ → List ℕ → Type 0) → P l ks vs → P (level_of below) (node_keys w) (node_values w) =
    λ P h. subst (λ j. P j (node_keys w) (node_values w)) (sym level_is) (subst (λ ws. P l (node_keys ws) (node_values ws)) (sym words) h) in
    let new = ledger c.put_child.new.store in
    let o = records c.put_child.new.store in
    let last = c.put_child.new.words in
    let after = c.put_child.new.replaced.items in
    let one = removes.one in
    on_err c.from_residual-in_err-put_child.result (makes-then old mid new m n o (l + removes.extra) 1 (suc level) (omega arith) removes.makes c.in_err-put_child.ensures.refused)

pub returns-in_err-remove_below-clause-refused : goal.returns-in_err-remove_below-clause-refused
returns-in_err-remove_below-clause-refused g t c =
    let ledger = g.S.Store.ledger in
    let records = g.S.Frozen.records in
    let s = c.args.store.now in
    let u = c.remove_below.new.store in
    let l = c.args.level - 1 in
    let other = c.if-level-eq0.false in
    on_err c.from_residual.result (makes-more (ledger s) (ledger u) (records s) (records u) (suc l) (suc c.args.level) (omega arith)
    (subst (λ f. MakesNodes (ledger f) (ledger u) (records f) (records u) (suc l)) c.step_down-step.ensures.same c.in_err-remove_below.ensures.refused))

pub returns-in_err-remove_below-clause-refuses : goal.returns-in_err-remove_below-clause-refuses
returns-in_err-remove_below-clause-refuses g t c =
    let ledger = g.S.Store.ledger in
    refuses-exit (ledger c.args.store.now) (ledger c.remove_below.new.store) 34 c.from_residual.result c.in_err-remove_below.field-0.0 c.from_residual.ensures.1
    (subst (λ f. Refuses (ledger f) (ledger c.remove_below.new.store) 34 c.in_err-remove_below.field-0.0) c.step_down-step.ensures.same c.in_err-remove_below.ensures.refuses)
