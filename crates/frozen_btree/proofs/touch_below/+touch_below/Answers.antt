use Rattle.std.proofs.Common.{rules, ◌≡◌, ◌≢◌, ◌<◌, ◌≤◌, ◌+◌, ◌-◌, ◌++◌, ℕ, suc, [], ◌∷◌, length, get_or, set, true, refl, sym, ap, subst, ◌∙◌, arith}
use Rattle.std.proofs.lemmas.Result.{IfOk-weaker}
use Rattle.entry_ref.specs.References.{buffer_of}
use Rattle.tree_read.specs.Nodes.{level_of, node_values}
use Rattle.tree_read.specs.Trees.{pairs_below, IsNode}
use Rattle.tree_read.proofs.TreeLemmas.{IsNode-form}
use Rattle.tree_read.specs.Keys.{seen_by, AllReadable}
use Rattle.frozen_nodes.specs.Makes.{MakesNodes}
use Rattle.frozen_nodes.proofs.MakesLemmas.{makes-more, makes-then}
use Rattle.frozen_btree.proofs.MakeRootLemmas.{ref_some}
use Rattle.tree_read.proofs.ChildLemmas.{IsNode-lower, keys-length}
use Rattle.tree_read.proofs.ReadLemmas.{node-even, inner-pairs}
use Rattle.tree_read.proofs.PairLemmas.{All-child}
use Rattle.frozen_btree.specs.Touches.{CopiesNode, Touches}
use Rattle.frozen_btree.proofs.CopyLemmas.{child-node}
use Rattle.frozen_btree.proofs.TouchLemmas.{node-stays, node-anew, way-apart}
use Rattle.frozen_btree.proofs.PathLemmas.{path-leaf}
use Rattle.frozen_btree.proofs.Results.{one_answer, no_error}
use Rattle.frozen_btree.specs.Paths.{NoneIn, path_below}
use Rattle.frozen_btree.proofs.touch_below.+touch_below.Goals.{else-raw-step-via-then-raw-step+else-buffer, else-raw-step-via-else-raw-step}
use Rattle.frozen_btree.proofs.touch_below.+touch_below.Goals as goal

pub step_at-step-requires : goal.step_at-step-requires
step_at-step-requires g t c =
    let ledger = g.S.Store.ledger in
    let records = g.S.Frozen.records in
    let s = c.args.store.now in
    let m = records s in
    let node = c.args.node in
    let l = c.args.level - 1 in
    let up : c.args.level ≡ suc l = (let other = c.if-level-eq0.false in omega arith) in
    let is : IsNode m 1 (suc l) node = subst (λ k. IsNode m 1 k node) up c.requires.node in
    let at : level_of (m node) ≡ suc l = (IsNode-form m 1 (suc l) node is).at_level in
    let level : c.args.level ≡ level_of (m node) = up ∙ sym at in (
      omega arith,
      (
        omega arith,
        (
          subst (λ k. IsNode m 1 k node) level c.requires.node,
          subst (λ k. AllReadable g.K.KeyOrder.can_read m (pairs_below m k node)) level c.requires.readable,
        ),
      ),
    )

pub touch_below-requires : goal.touch_below-requires
touch_below-requires g t c =
    let ledger = g.S.Store.ledger in
    let records = g.S.Frozen.records in
    let s = c.args.store.now in
    let m = records s in
    let node = c.args.node in
    let l = c.args.level - 1 in
    let up : c.args.level ≡ suc l = (let other = c.if-level-eq0.false in omega arith) in
    let is : IsNode m 1 (suc l) node = subst (λ k. IsNode m 1 k node) up c.requires.node in
    let key = g.K.KeyOrder in
    let seen = seen_by key.read key.order (key.sought c.args.key.now) m in
    let even = node-even m 1 (suc l) node is in
    let step = c.step_at-step.ensures in
    let i = c.step_at-step.result.slot in
    let vs = node_values (m node) in
    let within = step.place.within in
    let low : i < length vs = omega arith in
    let q = c.from_raw-child.result in
    let child : q ≡ get_or vs i 0 = c.from_raw-child.ensures ∙ step.child in
    let back = sym step.same in
    let is_child = child-node m 1 l node i is low in
    let size = (IsNode-form m 8 l (get_or vs i 0) is_child).size in
    let some_child : 0 < get_or vs i 0 = ref_some g.row.OFFSET_BITS (get_or vs i 0) (g.met.S.Store.placed s (get_or vs i 0) (omega arith)).entry.first in
    let lower : IsNode m 1 l (get_or vs i 0) = IsNode-lower m 8 1 l (get_or vs i 0) (let e : 1 ≤ 8 = omega arith in e) is_child in
    let readable : AllReadable key.can_read m (pairs_below m (suc l) node) = subst (λ k. AllReadable key.can_read m (pairs_below m k node)) up c.requires.readable in
    let below : AllReadable key.can_read m (pairs_below m l (get_or vs i 0)) =
    All-child (λ (p : ℕ × ℕ). key.can_read m p.0) (pairs_below m l) vs i low (subst (AllReadable key.can_read m) (inner-pairs m l node) readable) in
    let room = c.requires.room in
    λ κs h. (
      omega arith,
      (
        search rules,
        (
          h.0,
          (
            h.1.0,
            (
              h.1.1.0,
              (
                h.1.1.1.0,
                (
                  h.1.1.1.1,
                  (
                    omega arith,
                    (
                      subst (λ f. (ledger f).unit ≡ true) back c.requires.unit,
                      (
                        subst (λ f. (ledger f).sealed c.args.buffer ≡ true) back c.requires.sealed,
                        (
                          omega arith,
                          (
                            subst (λ f. IsNode (records f) 1 l q) back (subst (λ r. IsNode m 1 l r) (sym child) lower),
                            (
                              subst (λ f. AllReadable key.can_read (records f) (pairs_below (records f) l q)) back
                                  (subst (λ r. AllReadable key.can_read m (pairs_below m l r)) (sym child) below),
                              omega arith,
                            ),
                          ),
                        ),
                      ),
                    ),
                  ),
                ),
              ),
            ),
          ),
        ),
      ),
    )

pub returns-in_err-next-clause-makes : goal.returns-in_err-next-clause-makes
returns-in_err-next-clause-makes g t c =
    let ledger = g.S.Store.ledger in
    let records = g.S.Frozen.records in
    let s = c.args.store.now in
    let m = records s in
    let node = c.args.node in
    let l = c.args.level - 1 in
    let up : c.args.level ≡ suc l = (let other = c.if-level-eq0.false in omega arith) in
    let is : IsNode m 1 (suc l) node = subst (λ k. IsNode m 1 k node) up c.requires.node in
    let t = c.touch_below.new.store in
    let n = records t in
    let makes : MakesNodes (ledger s) (ledger t) m n (suc l) =
    subst (λ f. MakesNodes (ledger f) (ledger t) (records f) n (suc l)) c.step_at-step.ensures.same c.touch_below.ensures.makes in
    makes-more (ledger s) (ledger t) m n (suc l) (suc c.args.level) (omega arith) makes

pub returns-then-buffer-clause-touches : goal.returns-then-buffer-clause-touches
returns-then-buffer-clause-touches g t c =
    let ledger = g.S.Store.ledger in
    let records = g.S.Frozen.records in
    let s = c.args.store.now in
    let m = records s in
    let node = c.args.node in
    let l = c.args.level - 1 in
    let up : c.args.level ≡ suc l = (let other = c.if-level-eq0.false in omega arith) in
    let is : IsNode m 1 (suc l) node = subst (λ k. IsNode m 1 k node) up c.requires.node in
    let key = g.K.KeyOrder in
    let seen = seen_by key.read key.order (key.sought c.args.key.now) m in
    let even = node-even m 1 (suc l) node is in
    let step = c.step_at-step.ensures in
    let i = c.step_at-step.result.slot in
    let vs = node_values (m node) in
    let within = step.place.within in
    let low : i < length vs = omega arith in
    let q = c.from_raw-child.result in
    let child : q ≡ get_or vs i 0 = c.from_raw-child.ensures ∙ step.child in
    let t = c.touch_below.new.store in
    let n = records t in
    let makes : MakesNodes (ledger s) (ledger t) m n (suc l) =
    subst (λ f. MakesNodes (ledger f) (ledger t) (records f) n (suc l)) c.step_at-step.ensures.same c.touch_below.ensures.makes in
    let bits = g.row.OFFSET_BITS in
    let buffer = c.args.buffer in
    let before = c.args.replaced.now.items in
    let between = c.touch_below.new.replaced.items in
    let next = c.in_ok-next.next in
    let x0 : Touches bits buffer seen (ledger s) (ledger t) m n l q next before between =
    subst (λ f. Touches bits buffer (seen_by key.read key.order (key.sought c.args.key.now) (records f)) (ledger f) (ledger t) (records f) n l q next before between)
    step.same c.in_ok-next.ensures.touches in
    let x : Touches bits buffer seen (ledger s) (ledger t) m n l (get_or vs i 0) next before between =
    subst (λ r. Touches bits buffer seen (ledger s) (ledger t) m n l r next before between) child x0 in
    let same : next ≡ get_or vs i 0 = sym c.raw.ensures ∙ c.if-raw-step.true ∙ step.child in
    let apart : buffer_of bits node ≢ buffer = (λ e. let at = c.buffer.ensures.value in let other = c.if-buffer.true in absurd (omega arith)) in
    subst (λ k. Touches bits buffer seen (ledger s) (ledger t) m n k node node before between) (sym up)
    (node-stays bits buffer seen node before c.requires.some (ledger s) (ledger t) m n l i next between is even step.place makes.keeps x same apart)

pub returns-then-buffer-clause-makes : goal.returns-then-buffer-clause-makes
returns-then-buffer-clause-makes g t c =
    let ledger = g.S.Store.ledger in
    let records = g.S.Frozen.records in
    let s = c.args.store.now in
    let m = records s in
    let node = c.args.node in
    let l = c.args.level - 1 in
    let up : c.args.level ≡ suc l = (let other = c.if-level-eq0.false in omega arith) in
    let is : IsNode m 1 (suc l) node = subst (λ k. IsNode m 1 k node) up c.requires.node in
    let t = c.touch_below.new.store in
    let n = records t in
    let makes : MakesNodes (ledger s) (ledger t) m n (suc l) =
    subst (λ f. MakesNodes (ledger f) (ledger t) (records f) n (suc l)) c.step_at-step.ensures.same c.touch_below.ensures.makes in
    makes-more (ledger s) (ledger t) m n (suc l) (suc c.args.level) (omega arith) makes

pub copy_with-requires : goal.copy_with-requires
copy_with-requires g t c =
    let ledger = g.S.Store.ledger in
    let records = g.S.Frozen.records in
    let s = c.args.store.now in
    let m = records s in
    let node = c.args.node in
    let l = c.args.level - 1 in
    let up : c.args.level ≡ suc l = (let other = c.if-level-eq0.false in omega arith) in
    let is : IsNode m 1 (suc l) node = subst (λ k. IsNode m 1 k node) up c.requires.node in
    let key = g.K.KeyOrder in
    let seen = seen_by key.read key.order (key.sought c.args.key.now) m in
    let even = node-even m 1 (suc l) node is in
    let step = c.step_at-step.ensures in
    let i = c.step_at-step.result.slot in
    let vs = node_values (m node) in
    let within = step.place.within in
    let low : i < length vs = omega arith in
    let q = c.from_raw-child.result in
    let child : q ≡ get_or vs i 0 = c.from_raw-child.ensures ∙ step.child in
    let t = c.touch_below.new.store in
    let n = records t in
    let makes : MakesNodes (ledger s) (ledger t) m n (suc l) =
    subst (λ f. MakesNodes (ledger f) (ledger t) (records f) n (suc l)) c.step_at-step.ensures.same c.touch_below.ensures.makes in
    let form = IsNode-form m 1 (suc l) node is in
    let some : 0 < length (m node) = (let size = form.size in omega arith) in
    let used = keys-length m 1 (suc l) node is in
    let room = form.room in (
      omega arith,
      (
        makes.may.unit ∙ c.requires.unit,
        (
          ap length (makes.keeps node some) ∙ form.size,
          omega arith,
        ),
      ),
    )

pub returns-clause-touches : goal.returns-clause-touches
returns-clause-touches g t c =
    let ledger = g.S.Store.ledger in
    let records = g.S.Frozen.records in
    let s = c.args.store.now in
    let m = records s in
    let node = c.args.node in
    let l = c.args.level - 1 in
    let up : c.args.level ≡ suc l = (let other = c.if-level-eq0.false in omega arith) in
    let is : IsNode m 1 (suc l) node = subst (λ k. IsNode m 1 k node) up c.requires.node in
    let key = g.K.KeyOrder in
    let seen = seen_by key.read key.order (key.sought c.args.key.now) m in
    let even = node-even m 1 (suc l) node is in
    let step = c.step_at-step.ensures in
    let i = c.step_at-step.result.slot in
    let vs = node_values (m node) in
    let within = step.place.within in
    let low : i < length vs = omega arith in
    let q = c.from_raw-child.result in
    let child : q ≡ get_or vs i 0 = c.from_raw-child.ensures ∙ step.child in
    let t = c.touch_below.new.store in
    let n = records t in
    let makes : MakesNodes (ledger s) (ledger t) m n (suc l) =
    subst (λ f. MakesNodes (ledger f) (ledger t) (records f) n (suc l)) c.step_at-step.ensures.same c.touch_below.ensures.makes in
    let bits = g.row.OFFSET_BITS in
    let buffer = c.args.buffer in
    let before = c.args.replaced.now.items in
    let between = c.touch_below.new.replaced.items in
    let next = c.in_ok-next.next in
    let x0 : Touches bits buffer seen (ledger s) (ledger t) m n l q next before between =
    subst (λ f. Touches bits buffer (seen_by key.read key.order (key.sought c.args.key.now) (records f)) (ledger f) (ledger t) (records f) n l q next before between)
    step.same c.in_ok-next.ensures.touches in
    let x : Touches bits buffer seen (ledger s) (ledger t) m n l (get_or vs i 0) next before between =
    subst (λ r. Touches bits buffer seen (ledger s) (ledger t) m n l r next before between) child x0 in
    let u = c.copy_with.new.store in
    let o = records u in
    let form = IsNode-form m 1 (suc l) node is in
    let some : 0 < length (m node) = (let size = form.size in omega arith) in
    let after = c.push.new.self.items in
    let after_is : after ≡ between ++ node ∷ [] = c.push.ensures.items ∙ ap (λ r. between ++ (r ∷ [])) c.raw-2.ensures in
    let other : c.from.result ≡ next = c.from.ensures ∙ c.raw-3.ensures in
    IfOk-weaker c.copy_with.result _ _ (λ ref made.
    let y : CopiesNode bits (ledger t) (ledger u) n o (set (n node) (18 + i) next) ref =
    subst (λ v. CopiesNode bits (ledger t) (ledger u) n o (set (n node) (18 + i) v) ref) other made in
    let copies : CopiesNode bits (ledger t) (ledger u) n o (set (m node) (18 + i) next) ref =
    subst (λ ws. CopiesNode bits (ledger t) (ledger u) n o (set ws (18 + i) next) ref) (makes.keeps node some) y in
    subst (λ k. Touches bits buffer seen (ledger s) (ledger u) m o k node ref before after) (sym up)
    (node-anew bits buffer seen node before c.requires.some (ledger s) (ledger t) m n l i next between is even step.place makes.keeps x (ledger u) o ref after c.requires.sealed makes.may after_is copies))
    c.copy_with.ensures.copies

pub returns-clause-makes : goal.returns-clause-makes
returns-clause-makes g t c =
    let ledger = g.S.Store.ledger in
    let records = g.S.Frozen.records in
    let s = c.args.store.now in
    let m = records s in
    let node = c.args.node in
    let l = c.args.level - 1 in
    let up : c.args.level ≡ suc l = (let other = c.if-level-eq0.false in omega arith) in
    let is : IsNode m 1 (suc l) node = subst (λ k. IsNode m 1 k node) up c.requires.node in
    let t = c.touch_below.new.store in
    let n = records t in
    let makes : MakesNodes (ledger s) (ledger t) m n (suc l) =
    subst (λ f. MakesNodes (ledger f) (ledger t) (records f) n (suc l)) c.step_at-step.ensures.same c.touch_below.ensures.makes in
    let u = c.copy_with.new.store in
    makes-then (ledger s) (ledger t) (ledger u) m n (records u) (suc l) 1 (suc c.args.level) (omega arith) makes c.copy_with.ensures.nodes

pub returns-then-level-eq0-clause-still : goal.returns-then-level-eq0-clause-still
returns-then-level-eq0-clause-still g t c =
    let key = g.K.KeyOrder in
    let m = g.S.Frozen.records c.args.store.now in
    let seen = seen_by key.read key.order (key.sought c.args.key.now) m in
    let bits = g.row.OFFSET_BITS in
    let buffer = c.args.buffer in
    λ none.
    let leaf : NoneIn bits buffer (c.args.node ∷ []) =
    subst (NoneIn bits buffer) (path-leaf m seen c.args.node) (subst (λ k. NoneIn bits buffer (path_below m seen k c.args.node)) c.if-level-eq0.true none) in
    c.touch_leaf.ensures.still leaf.0

pub returns-in_err-next-clause-still : goal.returns-in_err-next-clause-still
returns-in_err-next-clause-still g t c =
    let records = g.S.Frozen.records in
    let s = c.args.store.now in
    let m = records s in
    let node = c.args.node in
    let l = c.args.level - 1 in
    let up : c.args.level ≡ suc l = (let other = c.if-level-eq0.false in omega arith) in
    let is : IsNode m 1 (suc l) node = subst (λ k. IsNode m 1 k node) up c.requires.node in
    let key = g.K.KeyOrder in
    let seen = seen_by key.read key.order (key.sought c.args.key.now) m in
    let even = node-even m 1 (suc l) node is in
    let step = c.step_at-step.ensures in
    let i = c.step_at-step.result.slot in
    let vs = node_values (m node) in
    let q = c.from_raw-child.result in
    let child : q ≡ get_or vs i 0 = c.from_raw-child.ensures ∙ step.child in
    let bits = g.row.OFFSET_BITS in
    let buffer = c.args.buffer in
    λ none.
    let apart = way-apart bits buffer m seen l node i even step.place (subst (λ k. NoneIn bits buffer (path_below m seen k node)) up none) in
    let below : NoneIn bits buffer (path_below m seen l q) = subst (λ r. NoneIn bits buffer (path_below m seen l r)) (sym child) apart.1 in
    let told = c.touch_below.ensures.still (subst (λ f. NoneIn bits buffer (path_below (records f) (seen_by key.read key.order (key.sought c.args.key.now) (records f)) l q)) (sym step.same) below) in
    no_error c.touch_below.result q _ told.0 c.in_err-next.was

pub returns-then-buffer-clause-still : goal.returns-then-buffer-clause-still
returns-then-buffer-clause-still g t c =
    let records = g.S.Frozen.records in
    let s = c.args.store.now in
    let m = records s in
    let node = c.args.node in
    let l = c.args.level - 1 in
    let up : c.args.level ≡ suc l = (let other = c.if-level-eq0.false in omega arith) in
    let is : IsNode m 1 (suc l) node = subst (λ k. IsNode m 1 k node) up c.requires.node in
    let key = g.K.KeyOrder in
    let seen = seen_by key.read key.order (key.sought c.args.key.now) m in
    let even = node-even m 1 (suc l) node is in
    let step = c.step_at-step.ensures in
    let i = c.step_at-step.result.slot in
    let vs = node_values (m node) in
    let q = c.from_raw-child.result in
    let child : q ≡ get_or vs i 0 = c.from_raw-child.ensures ∙ step.child in
    let bits = g.row.OFFSET_BITS in
    let buffer = c.args.buffer in
    λ none.
    let apart = way-apart bits buffer m seen l node i even step.place (subst (λ k. NoneIn bits buffer (path_below m seen k node)) up none) in
    let below : NoneIn bits buffer (path_below m seen l q) = subst (λ r. NoneIn bits buffer (path_below m seen l r)) (sym child) apart.1 in
    let told = c.touch_below.ensures.still (subst (λ f. NoneIn bits buffer (path_below (records f) (seen_by key.read key.order (key.sought c.args.key.now) (records f)) l q)) (sym step.same) below) in
    (refl, (told.1.0 ∙ step.same, told.1.1))

pub returns-clause-still : goal.returns-clause-still
returns-clause-still g t c =
    let records = g.S.Frozen.records in
    let s = c.args.store.now in
    let m = records s in
    let node = c.args.node in
    let l = c.args.level - 1 in
    let up : c.args.level ≡ suc l = (let other = c.if-level-eq0.false in omega arith) in
    let is : IsNode m 1 (suc l) node = subst (λ k. IsNode m 1 k node) up c.requires.node in
    let key = g.K.KeyOrder in
    let seen = seen_by key.read key.order (key.sought c.args.key.now) m in
    let even = node-even m 1 (suc l) node is in
    let step = c.step_at-step.ensures in
    let i = c.step_at-step.result.slot in
    let vs = node_values (m node) in
    let q = c.from_raw-child.result in
    let child : q ≡ get_or vs i 0 = c.from_raw-child.ensures ∙ step.child in
    let bits = g.row.OFFSET_BITS in
    let buffer = c.args.buffer in
    λ none.
    let apart = way-apart bits buffer m seen l node i even step.place (subst (λ k. NoneIn bits buffer (path_below m seen k node)) up none) in
    let below : NoneIn bits buffer (path_below m seen l q) = subst (λ r. NoneIn bits buffer (path_below m seen l r)) (sym child) apart.1 in
    let told = c.touch_below.ensures.still (subst (λ f. NoneIn bits buffer (path_below (records f) (seen_by key.read key.order (key.sought c.args.key.now) (records f)) l q)) (sym step.same) below) in
    let same : c.in_ok-next.next ≡ q = one_answer c.touch_below.result c.in_ok-next.next q c.in_ok-next.was told.0 in
    elim c.else-raw-step.branch [
      | else-raw-step-via-then-raw-step+else-buffer w ↦
          (let at = w.buffer.ensures.value in let lies = w.if-buffer.false in absurd (apart.0 (omega arith)))
      | else-raw-step-via-else-raw-step w ↦
          (let raw : c.raw.result ≡ c.in_ok-next.next = c.raw.ensures in
          let from : q ≡ c.step_at-step.result.child = c.from_raw-child.ensures in
          absurd (w.if-raw-step.false (raw ∙ same ∙ from)))
    ]
