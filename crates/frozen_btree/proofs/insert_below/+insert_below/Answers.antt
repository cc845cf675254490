use Rattle.std.proofs.Common.{rules, ◌≡◌, ◌<◌, ◌≤◌, ◌-◌, ◌++◌, ℕ, suc, List, [], ◌∷◌, length, get_or, slice_index, take, drop, ◌*◌, true, refl, sym, ap, subst, ◌∙◌, arith, ◌+◌, ◌^◌, IfErr}
use Rattle.std.specs.Prelude.{slice_index_or}
use Rattle.std.proofs.lemmas.Result.{IfOk-weaker}
use Rattle.entry_ref.specs.Records.{Records}
use Rattle.tree_read.specs.Nodes.{level_of, used_of, count_of, node_keys, node_values, IsNodeForm}
use Rattle.tree_read.specs.Trees.{pairs_below, IsNode}
use Rattle.tree_read.proofs.TreeLemmas.{IsNode-form}
use Rattle.store_api.specs.Calls.{Refuses}
use Rattle.tree_read.proofs.ChildLemmas.{keys-length, IsNode-lower, get_or-node_values}
use Rattle.tree_read.proofs.ReadLemmas.{node-even}
use Rattle.tree_read.specs.Keys.{seen_by, Ascends, AllReadable}
use Rattle.tree_read.specs.Pairs.{put}
use Rattle.tree_read.specs.NodePlaces.{IsPlace}
use Rattle.frozen_nodes.specs.Makes.{MakesNodes}
use Rattle.frozen_nodes.proofs.MakesLemmas.{makes-more, makes-then, refuses-if}
use Rattle.tree_read.specs.Slots.{slot_pairs, IsInHand}
use Rattle.frozen_btree.specs.Inserts.{Inserts}
use Rattle.frozen_nodes.specs.Parts.{MakesParts, part_keys, part_nodes}
use Rattle.frozen_nodes.specs.declared.parts.Parts.{Parts}
use Rattle.frozen_btree.proofs.BelowLemmas.{child-node, child-all, child-ascends, child-few, child-count, parts-there, over-hand, over-few, over-counted, over-inserts}
use Rattle.frozen_btree.proofs.insert_below.+insert_below.Goals as goal

pub visit_inner-place-requires : goal.visit_inner-place-requires
visit_inner-place-requires g t c =
    let m = g.S.Frozen.records c.args.store.now in
    let node = c.args.node in
    let at = (IsNode-form m 1 c.args.level node c.requires.node).at_level in (
      omega arith,
      (
        subst (λ k. IsNode m 1 k node) (sym at) c.requires.node,
        subst (λ k. AllReadable g.K.KeyOrder.can_read m (pairs_below m k node)) (sym at) c.requires.readable,
      ),
    )

pub overflow_add-place : goal.overflow_add-place
overflow_add-place g t c =
    let s = c.args.store.now in
    let m = g.S.Frozen.records s in
    let node = c.args.node in
    let l = c.args.level - 1 in
    let up : c.args.level ≡ suc l = (let other = c.if-level-eq0.false in omega arith) in
    let is : IsNode m 1 (suc l) node = subst (λ k. IsNode m 1 k node) up c.requires.node in
    let form = IsNode-form m 1 (suc l) node is in
    let ks = node_keys (m node) in
    let vs = node_values (m node) in
    let even = node-even m 1 (suc l) node is in
    let used = keys-length m 1 (suc l) node is in
    let key = g.K.KeyOrder in
    let sought = key.sought c.args.key.now in
    let seen = seen_by key.read key.order sought m in
    let i = c.visit_inner-place.result in
    let w = c.visit_inner-place.new.words in
    let words : w ≡ m node = c.visit_inner-place.ensures.words in
    let place : IsPlace seen ks i = c.visit_inner-place.ensures.place in
    let within = place.within in
    let low : i < length vs = omega arith in
    let room = form.room in
    omega arith

pub offset_bounds-words-place : goal.offset_bounds-words-place
offset_bounds-words-place g t c =
    let s = c.args.store.now in
    let m = g.S.Frozen.records s in
    let node = c.args.node in
    let l = c.args.level - 1 in
    let up : c.args.level ≡ suc l = (let other = c.if-level-eq0.false in omega arith) in
    let is : IsNode m 1 (suc l) node = subst (λ k. IsNode m 1 k node) up c.requires.node in
    let form = IsNode-form m 1 (suc l) node is in
    let ks = node_keys (m node) in
    let vs = node_values (m node) in
    let even = node-even m 1 (suc l) node is in
    let used = keys-length m 1 (suc l) node is in
    let key = g.K.KeyOrder in
    let sought = key.sought c.args.key.now in
    let seen = seen_by key.read key.order sought m in
    let i = c.visit_inner-place.result in
    let w = c.visit_inner-place.new.words in
    let words : w ≡ m node = c.visit_inner-place.ensures.words in
    let place : IsPlace seen ks i = c.visit_inner-place.ensures.place in
    let within = place.within in
    let low : i < length vs = omega arith in
    let room = form.room in
    omega arith

pub bounds-words-place : goal.bounds-words-place
bounds-words-place g t c =
    let s = c.args.store.now in
    let m = g.S.Frozen.records s in
    let node = c.args.node in
    let l = c.args.level - 1 in
    let up : c.args.level ≡ suc l = (let other = c.if-level-eq0.false in omega arith) in
    let is : IsNode m 1 (suc l) node = subst (λ k. IsNode m 1 k node) up c.requires.node in
    let form = IsNode-form m 1 (suc l) node is in
    let ks = node_keys (m node) in
    let vs = node_values (m node) in
    let even = node-even m 1 (suc l) node is in
    let used = keys-length m 1 (suc l) node is in
    let key = g.K.KeyOrder in
    let sought = key.sought c.args.key.now in
    let seen = seen_by key.read key.order sought m in
    let i = c.visit_inner-place.result in
    let w = c.visit_inner-place.new.words in
    let words : w ≡ m node = c.visit_inner-place.ensures.words in
    let place : IsPlace seen ks i = c.visit_inner-place.ensures.place in
    let within = place.within in
    let low : i < length vs = omega arith in
    let room = form.room in
    omega arith

pub overflow_cast-words : goal.overflow_cast-words
overflow_cast-words g t c =
    let s = c.args.store.now in
    let m = g.S.Frozen.records s in
    let node = c.args.node in
    let l = c.args.level - 1 in
    let up : c.args.level ≡ suc l = (let other = c.if-level-eq0.false in omega arith) in
    let is : IsNode m 1 (suc l) node = subst (λ k. IsNode m 1 k node) up c.requires.node in
    let form = IsNode-form m 1 (suc l) node is in
    let ks = node_keys (m node) in
    let vs = node_values (m node) in
    let even = node-even m 1 (suc l) node is in
    let used = keys-length m 1 (suc l) node is in
    let key = g.K.KeyOrder in
    let sought = key.sought c.args.key.now in
    let seen = seen_by key.read key.order sought m in
    let i = c.visit_inner-place.result in
    let w = c.visit_inner-place.new.words in
    let words : w ≡ m node = c.visit_inner-place.ensures.words in
    let place : IsPlace seen ks i = c.visit_inner-place.ensures.place in
    let within = place.within in
    let low : i < length vs = omega arith in
    let room = form.room in
    let read : slice_index_or w (18 + i) 0 ≡ get_or vs i 0 = ap (λ (ws : List ℕ). slice_index_or ws (18 + i) 0) words ∙ sym (get_or-node_values (m node) i (omega arith)) in
    let size : length (m (get_or vs i 0)) ≡ 34 = (IsNode-form m 8 l (get_or vs i 0) (child-node m 1 l node i is low)).size in
    let small : get_or vs i 0 < 2 ^ 32 = g.met.S.Frozen.references s (get_or vs i 0) (omega arith) in
    omega arith

pub word-before-requires : goal.word-before-requires
word-before-requires g t c =
    let s = c.args.store.now in
    let m = g.S.Frozen.records s in
    let node = c.args.node in
    let l = c.args.level - 1 in
    let up : c.args.level ≡ suc l = (let other = c.if-level-eq0.false in omega arith) in
    let is : IsNode m 1 (suc l) node = subst (λ k. IsNode m 1 k node) up c.requires.node in
    let form = IsNode-form m 1 (suc l) node is in
    let ks = node_keys (m node) in
    let vs = node_values (m node) in
    let even = node-even m 1 (suc l) node is in
    let used = keys-length m 1 (suc l) node is in
    let key = g.K.KeyOrder in
    let sought = key.sought c.args.key.now in
    let seen = seen_by key.read key.order sought m in
    let i = c.visit_inner-place.result in
    let w = c.visit_inner-place.new.words in
    let words : w ≡ m node = c.visit_inner-place.ensures.words in
    let place : IsPlace seen ks i = c.visit_inner-place.ensures.place in
    let within = place.within in
    let low : i < length vs = omega arith in
    let room = form.room in
    let read : slice_index_or w (18 + i) 0 ≡ get_or vs i 0 = ap (λ (ws : List ℕ). slice_index_or ws (18 + i) 0) words ∙ sym (get_or-node_values (m node) i (omega arith)) in
    let size : length (m (get_or vs i 0)) ≡ 34 = (IsNode-form m 8 l (get_or vs i 0) (child-node m 1 l node i is low)).size in
    let q = c.from_raw-child.result in
    let child : q ≡ get_or vs i 0 = c.from_raw-child.ensures ∙ read in
    (omega arith, subst (λ f. 1 < length (g.S.Frozen.records f q)) (sym c.visit_inner-place.ensures.same) (subst (λ r. 1 < length (m r)) (sym child) (omega arith)))

pub insert_below-requires : goal.insert_below-requires
insert_below-requires g t c =
    let s = c.args.store.now in
    let m = g.S.Frozen.records s in
    let node = c.args.node in
    let l = c.args.level - 1 in
    let up : c.args.level ≡ suc l = (let other = c.if-level-eq0.false in omega arith) in
    let is : IsNode m 1 (suc l) node = subst (λ k. IsNode m 1 k node) up c.requires.node in
    let form = IsNode-form m 1 (suc l) node is in
    let ks = node_keys (m node) in
    let vs = node_values (m node) in
    let even = node-even m 1 (suc l) node is in
    let used = keys-length m 1 (suc l) node is in
    let key = g.K.KeyOrder in
    let sought = key.sought c.args.key.now in
    let seen = seen_by key.read key.order sought m in
    let i = c.visit_inner-place.result in
    let w = c.visit_inner-place.new.words in
    let words : w ≡ m node = c.visit_inner-place.ensures.words in
    let place : IsPlace seen ks i = c.visit_inner-place.ensures.place in
    let within = place.within in
    let low : i < length vs = omega arith in
    let room = form.room in
    let read : slice_index_or w (18 + i) 0 ≡ get_or vs i 0 = ap (λ (ws : List ℕ). slice_index_or ws (18 + i) 0) words ∙ sym (get_or-node_values (m node) i (omega arith)) in
    let size : length (m (get_or vs i 0)) ≡ 34 = (IsNode-form m 8 l (get_or vs i 0) (child-node m 1 l node i is low)).size in
    let q = c.from_raw-child.result in
    let child : q ≡ get_or vs i 0 = c.from_raw-child.ensures ∙ read in
    let same : c.word-before.new.self ≡ s = c.word-before.ensures.same ∙ c.visit_inner-place.ensures.same in
    let before_is : c.word-before.result ≡ count_of (m (get_or vs i 0)) =
    c.word-before.ensures.value ∙ ap (λ f. slice_index (g.S.Frozen.records f q) 1) c.visit_inner-place.ensures.same ∙ ap (λ r. slice_index (m r) 1) child in
    let count_is : slice_index_or w 1 0 ≡ count_of (m node) = ap (λ (ws : List ℕ). slice_index_or ws 1 0) words in
    let readable : AllReadable key.can_read m (pairs_below m (suc l) node) = subst (λ k. AllReadable key.can_read m (pairs_below m k node)) up c.requires.readable in
    let ascends : Ascends key.order key.read m (pairs_below m (suc l) node) = subst (λ k. Ascends key.order key.read m (pairs_below m k node)) up c.requires.ascends in
    let most : length (pairs_below m (suc l) node) + 1 < 2 ^ 32 = subst (λ k. length (pairs_below m k node) + 1 < 2 ^ 32) up c.requires.few in
    let fewer = child-few m 1 l node i is low in
    let here : length (pairs_below m l (get_or vs i 0)) + 1 < 2 ^ 32 = omega arith in
    let lower = IsNode-lower m 8 1 l (get_or vs i 0) (let e : 1 ≤ 8 = omega arith in e) (child-node m 1 l node i is low) in
    let size = c.push.ensures.len in
    let room = c.requires.room in
    let at_most = c.requires.low in
    λ κs h. (
      omega arith,
      (
        search rules,
        (
          h.0,
          (
            h.1.0,
            (
              h.1.1.0,
              (
                h.1.1.1.0,
                (
                  h.1.1.1.1,
                  (
                    omega arith,
                    (
                      subst (λ f. (g.S.Store.ledger f).unit ≡ true) (sym same) c.requires.unit,
                      (
                        omega arith,
                        (
                          subst (λ f. IsNode (g.S.Frozen.records f) 1 l q) (sym same) (subst (λ r. IsNode m 1 l r) (sym child) lower),
                          (
                            subst (λ f. Ascends key.order key.read (g.S.Frozen.records f) (pairs_below (g.S.Frozen.records f) l q)) (sym same)
                                (subst (λ r. Ascends key.order key.read m (pairs_below m l r)) (sym child) (child-ascends m 1 l node i is low key.order key.read ascends)),
                            (
                              subst (λ f. AllReadable key.can_read (g.S.Frozen.records f) (pairs_below (g.S.Frozen.records f) l q)) (sym same)
                                  (subst (λ r. AllReadable key.can_read m (pairs_below m l r)) (sym child) (child-all m 1 l node i is low (λ (p : ℕ × ℕ). key.can_read m p.0) readable)),
                              (
                                subst (λ f. length (pairs_below (g.S.Frozen.records f) l q) + 1 < 2 ^ 32) (sym same) (subst (λ r. length (pairs_below m l r) + 1 < 2 ^ 32) (sym child) here),
                                (
                                    omega arith),
                              ),
                            ),
                          ),
                        ),
                      ),
                    ),
                  ),
                ),
              ),
            ),
          ),
        ),
      ),
    )

pub returns-in_err-parts-clause-makes : goal.returns-in_err-parts-clause-makes
returns-in_err-parts-clause-makes g t c =
    let ledger = g.S.Store.ledger in
    let records = g.S.Frozen.records in
    let s = c.args.store.now in
    let m = records s in
    let l = c.args.level - 1 in
    let up : c.args.level ≡ suc l = (let other = c.if-level-eq0.false in omega arith) in
    let same = c.word-before.ensures.same ∙ c.visit_inner-place.ensures.same in
    let t = c.insert_below.new.store in
    let makes : MakesNodes (ledger s) (ledger t) m (records t) (2 * suc l) = subst (λ f. MakesNodes (ledger f) (ledger t) (records f) (records t) (2 * suc l)) same c.insert_below.ensures.makes in
    makes-more (ledger s) (ledger t) m (records t) (2 * suc l) (2 * suc c.args.level) (omega arith) makes

pub overflow_sub-pairs : goal.overflow_sub-pairs
overflow_sub-pairs g t c =
    let s = c.args.store.now in
    let m = g.S.Frozen.records s in
    let node = c.args.node in
    let l = c.args.level - 1 in
    let up : c.args.level ≡ suc l = (let other = c.if-level-eq0.false in omega arith) in
    let is : IsNode m 1 (suc l) node = subst (λ k. IsNode m 1 k node) up c.requires.node in
    let form = IsNode-form m 1 (suc l) node is in
    let ks = node_keys (m node) in
    let vs = node_values (m node) in
    let even = node-even m 1 (suc l) node is in
    let used = keys-length m 1 (suc l) node is in
    let key = g.K.KeyOrder in
    let sought = key.sought c.args.key.now in
    let seen = seen_by key.read key.order sought m in
    let i = c.visit_inner-place.result in
    let w = c.visit_inner-place.new.words in
    let words : w ≡ m node = c.visit_inner-place.ensures.words in
    let place : IsPlace seen ks i = c.visit_inner-place.ensures.place in
    let within = place.within in
    let low : i < length vs = omega arith in
    let room = form.room in
    let read : slice_index_or w (18 + i) 0 ≡ get_or vs i 0 = ap (λ (ws : List ℕ). slice_index_or ws (18 + i) 0) words ∙ sym (get_or-node_values (m node) i (omega arith)) in
    let size : length (m (get_or vs i 0)) ≡ 34 = (IsNode-form m 8 l (get_or vs i 0) (child-node m 1 l node i is low)).size in
    let q = c.from_raw-child.result in
    let child : q ≡ get_or vs i 0 = c.from_raw-child.ensures ∙ read in
    let same : c.word-before.new.self ≡ s = c.word-before.ensures.same ∙ c.visit_inner-place.ensures.same in
    let before_is : c.word-before.result ≡ count_of (m (get_or vs i 0)) =
    c.word-before.ensures.value ∙ ap (λ f. slice_index (g.S.Frozen.records f q) 1) c.visit_inner-place.ensures.same ∙ ap (λ r. slice_index (m r) 1) child in
    let count_is : slice_index_or w 1 0 ≡ count_of (m node) = ap (λ (ws : List ℕ). slice_index_or ws 1 0) words in
    let fewer = child-count m 1 l node i is low in
    omega arith

pub count_parts-requires-clause-there : goal.count_parts-requires-clause-there
count_parts-requires-clause-there g t c =
    let s = c.args.store.now in
    let m = g.S.Frozen.records s in
    let node = c.args.node in
    let l = c.args.level - 1 in
    let up : c.args.level ≡ suc l = (let other = c.if-level-eq0.false in omega arith) in
    let is : IsNode m 1 (suc l) node = subst (λ k. IsNode m 1 k node) up c.requires.node in
    let form = IsNode-form m 1 (suc l) node is in
    let ks = node_keys (m node) in
    let vs = node_values (m node) in
    let even = node-even m 1 (suc l) node is in
    let used = keys-length m 1 (suc l) node is in
    let key = g.K.KeyOrder in
    let sought = key.sought c.args.key.now in
    let seen = seen_by key.read key.order sought m in
    let i = c.visit_inner-place.result in
    let w = c.visit_inner-place.new.words in
    let words : w ≡ m node = c.visit_inner-place.ensures.words in
    let place : IsPlace seen ks i = c.visit_inner-place.ensures.place in
    let within = place.within in
    let low : i < length vs = omega arith in
    let room = form.room in
    let read : slice_index_or w (18 + i) 0 ≡ get_or vs i 0 = ap (λ (ws : List ℕ). slice_index_or ws (18 + i) 0) words ∙ sym (get_or-node_values (m node) i (omega arith)) in
    let size : length (m (get_or vs i 0)) ≡ 34 = (IsNode-form m 8 l (get_or vs i 0) (child-node m 1 l node i is low)).size in
    let q = c.from_raw-child.result in
    let child : q ≡ get_or vs i 0 = c.from_raw-child.ensures ∙ read in
    let same : c.word-before.new.self ≡ s = c.word-before.ensures.same ∙ c.visit_inner-place.ensures.same in
    let before_is : c.word-before.result ≡ count_of (m (get_or vs i 0)) =
    c.word-before.ensures.value ∙ ap (λ f. slice_index (g.S.Frozen.records f q) 1) c.visit_inner-place.ensures.same ∙ ap (λ r. slice_index (m r) 1) child in
    let count_is : slice_index_or w 1 0 ≡ count_of (m node) = ap (λ (ws : List ℕ). slice_index_or ws 1 0) words in
    let pair : ℕ × ℕ = (c.args.word, c.args.value) in
    let t = c.insert_below.new.store in
    let n = g.S.Frozen.records t in
    let old = g.S.Store.ledger s in
    let mid = g.S.Store.ledger t in
    let before = c.args.replaced.now.items in
    let after = c.insert_below.new.replaced.items in
    let ps = c.in_ok-parts.parts in
    let pushed : c.push.new.self.items ≡ before ++ node ∷ [] = c.push.ensures.items ∙ ap (λ x. before ++ (x ∷ [])) c.raw.ensures in
    let x0 : Inserts seen pair old mid m n l q c.push.new.self.items after ps =
    subst (λ f. Inserts (seen_by key.read key.order sought (g.S.Frozen.records f)) pair (g.S.Store.ledger f) mid (g.S.Frozen.records f) n l q c.push.new.self.items after ps) same c.in_ok-parts.ensures.inserts in
    let x1 : Inserts seen pair old mid m n l (get_or vs i 0) c.push.new.self.items after ps = subst (λ r. Inserts seen pair old mid m n l r c.push.new.self.items after ps) child x0 in
    let x : Inserts seen pair old mid m n l (get_or vs i 0) (before ++ node ∷ []) after ps = subst (λ xs. Inserts seen pair old mid m n l (get_or vs i 0) xs after ps) pushed x1 in
    let makes : MakesNodes old mid m n (2 * suc l) = subst (λ f. MakesNodes (g.S.Store.ledger f) mid (g.S.Frozen.records f) n (2 * suc l)) same c.insert_below.ensures.makes in
    let ascends : Ascends key.order key.read m (pairs_below m (suc l) node) = subst (λ k. Ascends key.order key.read m (pairs_below m k node)) up c.requires.ascends in
    let few : length (pairs_below m (suc l) node) + 1 < 2 ^ 32 = subst (λ k. length (pairs_below m k node) + 1 < 2 ^ 32) up c.requires.few in
    let total = g.met.K.KeyOrder.total in
    let keys = take i ks ++ (part_keys ps ++ drop (suc i) ks) in
    let values = take i vs ++ (part_nodes ps ++ drop (suc i) vs) in
    parts-there n (used_of (m (get_or vs i 0))) l ps (put seen pair (pairs_below m l (get_or vs i 0))) x.parts_are

pub count_parts-requires-clause-few : goal.count_parts-requires-clause-few
count_parts-requires-clause-few g t c =
    let s = c.args.store.now in
    let m = g.S.Frozen.records s in
    let node = c.args.node in
    let l = c.args.level - 1 in
    let up : c.args.level ≡ suc l = (let other = c.if-level-eq0.false in omega arith) in
    let is : IsNode m 1 (suc l) node = subst (λ k. IsNode m 1 k node) up c.requires.node in
    let form = IsNode-form m 1 (suc l) node is in
    let ks = node_keys (m node) in
    let vs = node_values (m node) in
    let even = node-even m 1 (suc l) node is in
    let used = keys-length m 1 (suc l) node is in
    let key = g.K.KeyOrder in
    let sought = key.sought c.args.key.now in
    let seen = seen_by key.read key.order sought m in
    let i = c.visit_inner-place.result in
    let w = c.visit_inner-place.new.words in
    let words : w ≡ m node = c.visit_inner-place.ensures.words in
    let place : IsPlace seen ks i = c.visit_inner-place.ensures.place in
    let within = place.within in
    let low : i < length vs = omega arith in
    let room = form.room in
    let read : slice_index_or w (18 + i) 0 ≡ get_or vs i 0 = ap (λ (ws : List ℕ). slice_index_or ws (18 + i) 0) words ∙ sym (get_or-node_values (m node) i (omega arith)) in
    let size : length (m (get_or vs i 0)) ≡ 34 = (IsNode-form m 8 l (get_or vs i 0) (child-node m 1 l node i is low)).size in
    let q = c.from_raw-child.result in
    let child : q ≡ get_or vs i 0 = c.from_raw-child.ensures ∙ read in
    let same : c.word-before.new.self ≡ s = c.word-before.ensures.same ∙ c.visit_inner-place.ensures.same in
    let before_is : c.word-before.result ≡ count_of (m (get_or vs i 0)) =
    c.word-before.ensures.value ∙ ap (λ f. slice_index (g.S.Frozen.records f q) 1) c.visit_inner-place.ensures.same ∙ ap (λ r. slice_index (m r) 1) child in
    let count_is : slice_index_or w 1 0 ≡ count_of (m node) = ap (λ (ws : List ℕ). slice_index_or ws 1 0) words in
    let pair : ℕ × ℕ = (c.args.word, c.args.value) in
    let t = c.insert_below.new.store in
    let n = g.S.Frozen.records t in
    let old = g.S.Store.ledger s in
    let mid = g.S.Store.ledger t in
    let before = c.args.replaced.now.items in
    let after = c.insert_below.new.replaced.items in
    let ps = c.in_ok-parts.parts in
    let pushed : c.push.new.self.items ≡ before ++ node ∷ [] = c.push.ensures.items ∙ ap (λ x. before ++ (x ∷ [])) c.raw.ensures in
    let x0 : Inserts seen pair old mid m n l q c.push.new.self.items after ps =
    subst (λ f. Inserts (seen_by key.read key.order sought (g.S.Frozen.records f)) pair (g.S.Store.ledger f) mid (g.S.Frozen.records f) n l q c.push.new.self.items after ps) same c.in_ok-parts.ensures.inserts in
    let x1 : Inserts seen pair old mid m n l (get_or vs i 0) c.push.new.self.items after ps = subst (λ r. Inserts seen pair old mid m n l r c.push.new.self.items after ps) child x0 in
    let x : Inserts seen pair old mid m n l (get_or vs i 0) (before ++ node ∷ []) after ps = subst (λ xs. Inserts seen pair old mid m n l (get_or vs i 0) xs after ps) pushed x1 in
    let makes : MakesNodes old mid m n (2 * suc l) = subst (λ f. MakesNodes (g.S.Store.ledger f) mid (g.S.Frozen.records f) n (2 * suc l)) same c.insert_below.ensures.makes in
    let ascends : Ascends key.order key.read m (pairs_below m (suc l) node) = subst (λ k. Ascends key.order key.read m (pairs_below m k node)) up c.requires.ascends in
    let few : length (pairs_below m (suc l) node) + 1 < 2 ^ 32 = subst (λ k. length (pairs_below m k node) + 1 < 2 ^ 32) up c.requires.few in
    let total = g.met.K.KeyOrder.total in
    let keys = take i ks ++ (part_keys ps ++ drop (suc i) ks) in
    let values = take i vs ++ (part_nodes ps ++ drop (suc i) vs) in
    let counted = over-counted key.order total key.read sought m n 1 l node i pair is place ascends makes.keeps ps x.parts_are keys values refl refl in
    let small = over-few key.order total key.read sought m n 1 l node i pair is place ascends makes.keeps ps x.parts_are keys values refl refl few in
    omega arith

pub overflow_add-pairs : goal.overflow_add-pairs
overflow_add-pairs g t c =
    let s = c.args.store.now in
    let m = g.S.Frozen.records s in
    let node = c.args.node in
    let l = c.args.level - 1 in
    let up : c.args.level ≡ suc l = (let other = c.if-level-eq0.false in omega arith) in
    let is : IsNode m 1 (suc l) node = subst (λ k. IsNode m 1 k node) up c.requires.node in
    let form = IsNode-form m 1 (suc l) node is in
    let ks = node_keys (m node) in
    let vs = node_values (m node) in
    let even = node-even m 1 (suc l) node is in
    let used = keys-length m 1 (suc l) node is in
    let key = g.K.KeyOrder in
    let sought = key.sought c.args.key.now in
    let seen = seen_by key.read key.order sought m in
    let i = c.visit_inner-place.result in
    let w = c.visit_inner-place.new.words in
    let words : w ≡ m node = c.visit_inner-place.ensures.words in
    let place : IsPlace seen ks i = c.visit_inner-place.ensures.place in
    let within = place.within in
    let low : i < length vs = omega arith in
    let room = form.room in
    let read : slice_index_or w (18 + i) 0 ≡ get_or vs i 0 = ap (λ (ws : List ℕ). slice_index_or ws (18 + i) 0) words ∙ sym (get_or-node_values (m node) i (omega arith)) in
    let size : length (m (get_or vs i 0)) ≡ 34 = (IsNode-form m 8 l (get_or vs i 0) (child-node m 1 l node i is low)).size in
    let q = c.from_raw-child.result in
    let child : q ≡ get_or vs i 0 = c.from_raw-child.ensures ∙ read in
    let same : c.word-before.new.self ≡ s = c.word-before.ensures.same ∙ c.visit_inner-place.ensures.same in
    let before_is : c.word-before.result ≡ count_of (m (get_or vs i 0)) =
    c.word-before.ensures.value ∙ ap (λ f. slice_index (g.S.Frozen.records f q) 1) c.visit_inner-place.ensures.same ∙ ap (λ r. slice_index (m r) 1) child in
    let count_is : slice_index_or w 1 0 ≡ count_of (m node) = ap (λ (ws : List ℕ). slice_index_or ws 1 0) words in
    let pair : ℕ × ℕ = (c.args.word, c.args.value) in
    let t = c.insert_below.new.store in
    let n = g.S.Frozen.records t in
    let old = g.S.Store.ledger s in
    let mid = g.S.Store.ledger t in
    let before = c.args.replaced.now.items in
    let after = c.insert_below.new.replaced.items in
    let ps = c.in_ok-parts.parts in
    let pushed : c.push.new.self.items ≡ before ++ node ∷ [] = c.push.ensures.items ∙ ap (λ x. before ++ (x ∷ [])) c.raw.ensures in
    let x0 : Inserts seen pair old mid m n l q c.push.new.self.items after ps =
    subst (λ f. Inserts (seen_by key.read key.order sought (g.S.Frozen.records f)) pair (g.S.Store.ledger f) mid (g.S.Frozen.records f) n l q c.push.new.self.items after ps) same c.in_ok-parts.ensures.inserts in
    let x1 : Inserts seen pair old mid m n l (get_or vs i 0) c.push.new.self.items after ps = subst (λ r. Inserts seen pair old mid m n l r c.push.new.self.items after ps) child x0 in
    let x : Inserts seen pair old mid m n l (get_or vs i 0) (before ++ node ∷ []) after ps = subst (λ xs. Inserts seen pair old mid m n l (get_or vs i 0) xs after ps) pushed x1 in
    let makes : MakesNodes old mid m n (2 * suc l) = subst (λ f. MakesNodes (g.S.Store.ledger f) mid (g.S.Frozen.records f) n (2 * suc l)) same c.insert_below.ensures.makes in
    let ascends : Ascends key.order key.read m (pairs_below m (suc l) node) = subst (λ k. Ascends key.order key.read m (pairs_below m k node)) up c.requires.ascends in
    let few : length (pairs_below m (suc l) node) + 1 < 2 ^ 32 = subst (λ k. length (pairs_below m k node) + 1 < 2 ^ 32) up c.requires.few in
    let total = g.met.K.KeyOrder.total in
    let keys = take i ks ++ (part_keys ps ++ drop (suc i) ks) in
    let values = take i vs ++ (part_nodes ps ++ drop (suc i) vs) in
    let counted = over-counted key.order total key.read sought m n 1 l node i pair is place ascends makes.keeps ps x.parts_are keys values refl refl in
    let small = over-few key.order total key.read sought m n 1 l node i pair is place ascends makes.keeps ps x.parts_are keys values refl refl few in
    let count = c.count_parts.ensures.count in
    let most = form.few in
    omega arith

pub put_parts-requires-clause-unit : goal.put_parts-requires-clause-unit
put_parts-requires-clause-unit g t c =
    let s = c.args.store.now in
    let m = g.S.Frozen.records s in
    let node = c.args.node in
    let l = c.args.level - 1 in
    let up : c.args.level ≡ suc l = (let other = c.if-level-eq0.false in omega arith) in
    let is : IsNode m 1 (suc l) node = subst (λ k. IsNode m 1 k node) up c.requires.node in
    let form = IsNode-form m 1 (suc l) node is in
    let ks = node_keys (m node) in
    let vs = node_values (m node) in
    let even = node-even m 1 (suc l) node is in
    let used = keys-length m 1 (suc l) node is in
    let key = g.K.KeyOrder in
    let sought = key.sought c.args.key.now in
    let seen = seen_by key.read key.order sought m in
    let i = c.visit_inner-place.result in
    let w = c.visit_inner-place.new.words in
    let words : w ≡ m node = c.visit_inner-place.ensures.words in
    let place : IsPlace seen ks i = c.visit_inner-place.ensures.place in
    let within = place.within in
    let low : i < length vs = omega arith in
    let room = form.room in
    let read : slice_index_or w (18 + i) 0 ≡ get_or vs i 0 = ap (λ (ws : List ℕ). slice_index_or ws (18 + i) 0) words ∙ sym (get_or-node_values (m node) i (omega arith)) in
    let size : length (m (get_or vs i 0)) ≡ 34 = (IsNode-form m 8 l (get_or vs i 0) (child-node m 1 l node i is low)).size in
    let q = c.from_raw-child.result in
    let child : q ≡ get_or vs i 0 = c.from_raw-child.ensures ∙ read in
    let same : c.word-before.new.self ≡ s = c.word-before.ensures.same ∙ c.visit_inner-place.ensures.same in
    let before_is : c.word-before.result ≡ count_of (m (get_or vs i 0)) =
    c.word-before.ensures.value ∙ ap (λ f. slice_index (g.S.Frozen.records f q) 1) c.visit_inner-place.ensures.same ∙ ap (λ r. slice_index (m r) 1) child in
    let count_is : slice_index_or w 1 0 ≡ count_of (m node) = ap (λ (ws : List ℕ). slice_index_or ws 1 0) words in
    let pair : ℕ × ℕ = (c.args.word, c.args.value) in
    let t = c.insert_below.new.store in
    let n = g.S.Frozen.records t in
    let old = g.S.Store.ledger s in
    let mid = g.S.Store.ledger t in
    let before = c.args.replaced.now.items in
    let after = c.insert_below.new.replaced.items in
    let ps = c.in_ok-parts.parts in
    let pushed : c.push.new.self.items ≡ before ++ node ∷ [] = c.push.ensures.items ∙ ap (λ x. before ++ (x ∷ [])) c.raw.ensures in
    let x0 : Inserts seen pair old mid m n l q c.push.new.self.items after ps =
    subst (λ f. Inserts (seen_by key.read key.order sought (g.S.Frozen.records f)) pair (g.S.Store.ledger f) mid (g.S.Frozen.records f) n l q c.push.new.self.items after ps) same c.in_ok-parts.ensures.inserts in
    let x1 : Inserts seen pair old mid m n l (get_or vs i 0) c.push.new.self.items after ps = subst (λ r. Inserts seen pair old mid m n l r c.push.new.self.items after ps) child x0 in
    let x : Inserts seen pair old mid m n l (get_or vs i 0) (before ++ node ∷ []) after ps = subst (λ xs. Inserts seen pair old mid m n l (get_or vs i 0) xs after ps) pushed x1 in
    let makes : MakesNodes old mid m n (2 * suc l) = subst (λ f. MakesNodes (g.S.Store.ledger f) mid (g.S.Frozen.records f) n (2 * suc l)) same c.insert_below.ensures.makes in
    let ascends : Ascends key.order key.read m (pairs_below m (suc l) node) = subst (λ k. Ascends key.order key.read m (pairs_below m k node)) up c.requires.ascends in
    let few : length (pairs_below m (suc l) node) + 1 < 2 ^ 32 = subst (λ k. length (pairs_below m k node) + 1 < 2 ^ 32) up c.requires.few in
    let total = g.met.K.KeyOrder.total in
    let keys = take i ks ++ (part_keys ps ++ drop (suc i) ks) in
    let values = take i vs ++ (part_nodes ps ++ drop (suc i) vs) in
    subst (λ f. (g.S.Store.ledger f).unit ≡ true) (sym c.count_parts.ensures.same) (makes.may.unit ∙ c.requires.unit)

pub put_parts-requires-clause-form : goal.put_parts-requires-clause-form
put_parts-requires-clause-form g t c =
    let s = c.args.store.now in
    let m = g.S.Frozen.records s in
    let node = c.args.node in
    let l = c.args.level - 1 in
    let up : c.args.level ≡ suc l = (let other = c.if-level-eq0.false in omega arith) in
    let is : IsNode m 1 (suc l) node = subst (λ k. IsNode m 1 k node) up c.requires.node in
    let form = IsNode-form m 1 (suc l) node is in
    let ks = node_keys (m node) in
    let vs = node_values (m node) in
    let even = node-even m 1 (suc l) node is in
    let used = keys-length m 1 (suc l) node is in
    let key = g.K.KeyOrder in
    let sought = key.sought c.args.key.now in
    let seen = seen_by key.read key.order sought m in
    let i = c.visit_inner-place.result in
    let w = c.visit_inner-place.new.words in
    let words : w ≡ m node = c.visit_inner-place.ensures.words in
    let place : IsPlace seen ks i = c.visit_inner-place.ensures.place in
    let within = place.within in
    let low : i < length vs = omega arith in
    let room = form.room in
    subst (λ ws. IsNodeForm (level_of ws) 1 ws) (sym words) (subst (λ k. IsNodeForm k 1 (m node)) (sym form.at_level) form)

pub put_parts-requires-clause-low : goal.put_parts-requires-clause-low
put_parts-requires-clause-low g t c =
    let s = c.args.store.now in
    let m = g.S.Frozen.records s in
    let node = c.args.node in
    let l = c.args.level - 1 in
    let up : c.args.level ≡ suc l = (let other = c.if-level-eq0.false in omega arith) in
    let is : IsNode m 1 (suc l) node = subst (λ k. IsNode m 1 k node) up c.requires.node in
    let form = IsNode-form m 1 (suc l) node is in
    let ks = node_keys (m node) in
    let vs = node_values (m node) in
    let even = node-even m 1 (suc l) node is in
    let used = keys-length m 1 (suc l) node is in
    let key = g.K.KeyOrder in
    let sought = key.sought c.args.key.now in
    let seen = seen_by key.read key.order sought m in
    let i = c.visit_inner-place.result in
    let w = c.visit_inner-place.new.words in
    let words : w ≡ m node = c.visit_inner-place.ensures.words in
    let place : IsPlace seen ks i = c.visit_inner-place.ensures.place in
    let within = place.within in
    let low : i < length vs = omega arith in
    let room = form.room in
    let at = form.at_level in
    let level : level_of w ≡ level_of (m node) = ap level_of words in
    let most = c.requires.low in
    omega arith

pub put_parts-requires-clause-place : goal.put_parts-requires-clause-place
put_parts-requires-clause-place g t c =
    let s = c.args.store.now in
    let m = g.S.Frozen.records s in
    let node = c.args.node in
    let l = c.args.level - 1 in
    let up : c.args.level ≡ suc l = (let other = c.if-level-eq0.false in omega arith) in
    let is : IsNode m 1 (suc l) node = subst (λ k. IsNode m 1 k node) up c.requires.node in
    let form = IsNode-form m 1 (suc l) node is in
    let ks = node_keys (m node) in
    let vs = node_values (m node) in
    let even = node-even m 1 (suc l) node is in
    let used = keys-length m 1 (suc l) node is in
    let key = g.K.KeyOrder in
    let sought = key.sought c.args.key.now in
    let seen = seen_by key.read key.order sought m in
    let i = c.visit_inner-place.result in
    let w = c.visit_inner-place.new.words in
    let words : w ≡ m node = c.visit_inner-place.ensures.words in
    let place : IsPlace seen ks i = c.visit_inner-place.ensures.place in
    let within = place.within in
    let low : i < length vs = omega arith in
    let room = form.room in
    let size : used_of w ≡ used_of (m node) = ap used_of words in
    omega arith

pub put_parts-requires-clause-hand : goal.put_parts-requires-clause-hand
put_parts-requires-clause-hand g t c =
    let s = c.args.store.now in
    let m = g.S.Frozen.records s in
    let node = c.args.node in
    let l = c.args.level - 1 in
    let up : c.args.level ≡ suc l = (let other = c.if-level-eq0.false in omega arith) in
    let is : IsNode m 1 (suc l) node = subst (λ k. IsNode m 1 k node) up c.requires.node in
    let form = IsNode-form m 1 (suc l) node is in
    let ks = node_keys (m node) in
    let vs = node_values (m node) in
    let even = node-even m 1 (suc l) node is in
    let used = keys-length m 1 (suc l) node is in
    let key = g.K.KeyOrder in
    let sought = key.sought c.args.key.now in
    let seen = seen_by key.read key.order sought m in
    let i = c.visit_inner-place.result in
    let w = c.visit_inner-place.new.words in
    let words : w ≡ m node = c.visit_inner-place.ensures.words in
    let place : IsPlace seen ks i = c.visit_inner-place.ensures.place in
    let within = place.within in
    let low : i < length vs = omega arith in
    let room = form.room in
    let read : slice_index_or w (18 + i) 0 ≡ get_or vs i 0 = ap (λ (ws : List ℕ). slice_index_or ws (18 + i) 0) words ∙ sym (get_or-node_values (m node) i (omega arith)) in
    let size : length (m (get_or vs i 0)) ≡ 34 = (IsNode-form m 8 l (get_or vs i 0) (child-node m 1 l node i is low)).size in
    let q = c.from_raw-child.result in
    let child : q ≡ get_or vs i 0 = c.from_raw-child.ensures ∙ read in
    let same : c.word-before.new.self ≡ s = c.word-before.ensures.same ∙ c.visit_inner-place.ensures.same in
    let before_is : c.word-before.result ≡ count_of (m (get_or vs i 0)) =
    c.word-before.ensures.value ∙ ap (λ f. slice_index (g.S.Frozen.records f q) 1) c.visit_inner-place.ensures.same ∙ ap (λ r. slice_index (m r) 1) child in
    let count_is : slice_index_or w 1 0 ≡ count_of (m node) = ap (λ (ws : List ℕ). slice_index_or ws 1 0) words in
    let pair : ℕ × ℕ = (c.args.word, c.args.value) in
    let t = c.insert_below.new.store in
    let n = g.S.Frozen.records t in
    let old = g.S.Store.ledger s in
    let mid = g.S.Store.ledger t in
    let before = c.args.replaced.now.items in
    let after = c.insert_below.new.replaced.items in
    let ps = c.in_ok-parts.parts in
    let pushed : c.push.new.self.items ≡ before ++ node ∷ [] = c.push.ensures.items ∙ ap (λ x. before ++ (x ∷ [])) c.raw.ensures in
    let x0 : Inserts seen pair old mid m n l q c.push.new.self.items after ps =
    subst (λ f. Inserts (seen_by key.read key.order sought (g.S.Frozen.records f)) pair (g.S.Store.ledger f) mid (g.S.Frozen.records f) n l q c.push.new.self.items after ps) same c.in_ok-parts.ensures.inserts in
    let x1 : Inserts seen pair old mid m n l (get_or vs i 0) c.push.new.self.items after ps = subst (λ r. Inserts seen pair old mid m n l r c.push.new.self.items after ps) child x0 in
    let x : Inserts seen pair old mid m n l (get_or vs i 0) (before ++ node ∷ []) after ps = subst (λ xs. Inserts seen pair old mid m n l (get_or vs i 0) xs after ps) pushed x1 in
    let makes : MakesNodes old mid m n (2 * suc l) = subst (λ f. MakesNodes (g.S.Store.ledger f) mid (g.S.Frozen.records f) n (2 * suc l)) same c.insert_below.ensures.makes in
    let ascends : Ascends key.order key.read m (pairs_below m (suc l) node) = subst (λ k. Ascends key.order key.read m (pairs_below m k node)) up c.requires.ascends in
    let few : length (pairs_below m (suc l) node) + 1 < 2 ^ 32 = subst (λ k. length (pairs_below m k node) + 1 < 2 ^ 32) up c.requires.few in
    let total = g.met.K.KeyOrder.total in
    let keys = take i ks ++ (part_keys ps ++ drop (suc i) ks) in
    let values = take i vs ++ (part_nodes ps ++ drop (suc i) vs) in
    let u = c.count_parts.new.frozen in
    let stays : u ≡ t = c.count_parts.ensures.same in
    let moved : (P : Records → ℕ → List ℕ → List ℕ → Type 0) → P n (suc l) keys values
    → P (g.S.Frozen.records u) (level_of w) (take i (node_keys w) ++ (part_keys ps ++ drop (suc i) (node_keys w))) (take i (node_values w) ++ (part_nodes ps ++ drop (suc i) (node_values w))) =
    λ P h. subst (λ f. P (g.S.Frozen.records f) (level_of w) (take i (node_keys w) ++ (part_keys ps ++ drop (suc i) (node_keys w))) (take i (node_values w) ++ (part_nodes ps ++ drop (suc i) (node_values w)))) (sym stays)
    (subst (λ ws. P n (level_of ws) (take i (node_keys ws) ++ (part_keys ps ++ drop (suc i) (node_keys ws))) (take i (node_values ws) ++ (part_nodes ps ++ drop (suc i) (node_values ws)))) (sym words)
    (subst (λ k. P n k keys values) (sym form.at_level) h)) in
    moved IsInHand (over-hand key.order total key.read sought m n 1 l node i pair is place ascends makes.keeps ps x.parts_are keys values refl refl)

pub put_parts-requires-clause-few : goal.put_parts-requires-clause-few
put_parts-requires-clause-few g t c =
    let s = c.args.store.now in
    let m = g.S.Frozen.records s in
    let node = c.args.node in
    let l = c.args.level - 1 in
    let up : c.args.level ≡ suc l = (let other = c.if-level-eq0.false in omega arith) in
    let is : IsNode m 1 (suc l) node = subst (λ k. IsNode m 1 k node) up c.requires.node in
    let form = IsNode-form m 1 (suc l) node is in
    let ks = node_keys (m node) in
    let vs = node_values (m node) in
    let even = node-even m 1 (suc l) node is in
    let used = keys-length m 1 (suc l) node is in
    let key = g.K.KeyOrder in
    let sought = key.sought c.args.key.now in
    let seen = seen_by key.read key.order sought m in
    let i = c.visit_inner-place.result in
    let w = c.visit_inner-place.new.words in
    let words : w ≡ m node = c.visit_inner-place.ensures.words in
    let place : IsPlace seen ks i = c.visit_inner-place.ensures.place in
    let within = place.within in
    let low : i < length vs = omega arith in
    let room = form.room in
    let read : slice_index_or w (18 + i) 0 ≡ get_or vs i 0 = ap (λ (ws : List ℕ). slice_index_or ws (18 + i) 0) words ∙ sym (get_or-node_values (m node) i (omega arith)) in
    let size : length (m (get_or vs i 0)) ≡ 34 = (IsNode-form m 8 l (get_or vs i 0) (child-node m 1 l node i is low)).size in
    let q = c.from_raw-child.result in
    let child : q ≡ get_or vs i 0 = c.from_raw-child.ensures ∙ read in
    let same : c.word-before.new.self ≡ s = c.word-before.ensures.same ∙ c.visit_inner-place.ensures.same in
    let before_is : c.word-before.result ≡ count_of (m (get_or vs i 0)) =
    c.word-before.ensures.value ∙ ap (λ f. slice_index (g.S.Frozen.records f q) 1) c.visit_inner-place.ensures.same ∙ ap (λ r. slice_index (m r) 1) child in
    let count_is : slice_index_or w 1 0 ≡ count_of (m node) = ap (λ (ws : List ℕ). slice_index_or ws 1 0) words in
    let pair : ℕ × ℕ = (c.args.word, c.args.value) in
    let t = c.insert_below.new.store in
    let n = g.S.Frozen.records t in
    let old = g.S.Store.ledger s in
    let mid = g.S.Store.ledger t in
    let before = c.args.replaced.now.items in
    let after = c.insert_below.new.replaced.items in
    let ps = c.in_ok-parts.parts in
    let pushed : c.push.new.self.items ≡ before ++ node ∷ [] = c.push.ensures.items ∙ ap (λ x. before ++ (x ∷ [])) c.raw.ensures in
    let x0 : Inserts seen pair old mid m n l q c.push.new.self.items after ps =
    subst (λ f. Inserts (seen_by key.read key.order sought (g.S.Frozen.records f)) pair (g.S.Store.ledger f) mid (g.S.Frozen.records f) n l q c.push.new.self.items after ps) same c.in_ok-parts.ensures.inserts in
    let x1 : Inserts seen pair old mid m n l (get_or vs i 0) c.push.new.self.items after ps = subst (λ r. Inserts seen pair old mid m n l r c.push.new.self.items after ps) child x0 in
    let x : Inserts seen pair old mid m n l (get_or vs i 0) (before ++ node ∷ []) after ps = subst (λ xs. Inserts seen pair old mid m n l (get_or vs i 0) xs after ps) pushed x1 in
    let makes : MakesNodes old mid m n (2 * suc l) = subst (λ f. MakesNodes (g.S.Store.ledger f) mid (g.S.Frozen.records f) n (2 * suc l)) same c.insert_below.ensures.makes in
    let ascends : Ascends key.order key.read m (pairs_below m (suc l) node) = subst (λ k. Ascends key.order key.read m (pairs_below m k node)) up c.requires.ascends in
    let few : length (pairs_below m (suc l) node) + 1 < 2 ^ 32 = subst (λ k. length (pairs_below m k node) + 1 < 2 ^ 32) up c.requires.few in
    let total = g.met.K.KeyOrder.total in
    let keys = take i ks ++ (part_keys ps ++ drop (suc i) ks) in
    let values = take i vs ++ (part_nodes ps ++ drop (suc i) vs) in
    let u = c.count_parts.new.frozen in
    let stays : u ≡ t = c.count_parts.ensures.same in
    let moved : (P : Records → ℕ → List ℕ → List ℕ → Type 0) → P n (suc l) keys values
    → P (g.S.Frozen.records u) (level_of w) (take i (node_keys w) ++ (part_keys ps ++ drop (suc i) (node_keys w))) (take i (node_values w) ++ (part_nodes ps ++ drop (suc i) (node_values w))) =
    λ P h. subst (λ f. P (g.S.Frozen.records f) (level_of w) (take i (node_keys w) ++ (part_keys ps ++ drop (suc i) (node_keys w))) (take i (node_values w) ++ (part_nodes ps ++ drop (suc i) (node_values w)))) (sym stays)
    (subst (λ ws. P n (level_of ws) (take i (node_keys ws) ++ (part_keys ps ++ drop (suc i) (node_keys ws))) (take i (node_values ws) ++ (part_nodes ps ++ drop (suc i) (node_values ws)))) (sym words)
    (subst (λ k. P n k keys values) (sym form.at_level) h)) in
    moved (λ o k xs ys. length (slot_pairs o k xs ys) < 2 ^ 32) (over-few key.order total key.read sought m n 1 l node i pair is place ascends makes.keeps ps x.parts_are keys values refl refl few)

pub put_parts-requires-clause-counted : goal.put_parts-requires-clause-counted
put_parts-requires-clause-counted g t c =
    let s = c.args.store.now in
    let m = g.S.Frozen.records s in
    let node = c.args.node in
    let l = c.args.level - 1 in
    let up : c.args.level ≡ suc l = (let other = c.if-level-eq0.false in omega arith) in
    let is : IsNode m 1 (suc l) node = subst (λ k. IsNode m 1 k node) up c.requires.node in
    let form = IsNode-form m 1 (suc l) node is in
    let ks = node_keys (m node) in
    let vs = node_values (m node) in
    let even = node-even m 1 (suc l) node is in
    let used = keys-length m 1 (suc l) node is in
    let key = g.K.KeyOrder in
    let sought = key.sought c.args.key.now in
    let seen = seen_by key.read key.order sought m in
    let i = c.visit_inner-place.result in
    let w = c.visit_inner-place.new.words in
    let words : w ≡ m node = c.visit_inner-place.ensures.words in
    let place : IsPlace seen ks i = c.visit_inner-place.ensures.place in
    let within = place.within in
    let low : i < length vs = omega arith in
    let room = form.room in
    let read : slice_index_or w (18 + i) 0 ≡ get_or vs i 0 = ap (λ (ws : List ℕ). slice_index_or ws (18 + i) 0) words ∙ sym (get_or-node_values (m node) i (omega arith)) in
    let size : length (m (get_or vs i 0)) ≡ 34 = (IsNode-form m 8 l (get_or vs i 0) (child-node m 1 l node i is low)).size in
    let q = c.from_raw-child.result in
    let child : q ≡ get_or vs i 0 = c.from_raw-child.ensures ∙ read in
    let same : c.word-before.new.self ≡ s = c.word-before.ensures.same ∙ c.visit_inner-place.ensures.same in
    let before_is : c.word-before.result ≡ count_of (m (get_or vs i 0)) =
    c.word-before.ensures.value ∙ ap (λ f. slice_index (g.S.Frozen.records f q) 1) c.visit_inner-place.ensures.same ∙ ap (λ r. slice_index (m r) 1) child in
    let count_is : slice_index_or w 1 0 ≡ count_of (m node) = ap (λ (ws : List ℕ). slice_index_or ws 1 0) words in
    let pair : ℕ × ℕ = (c.args.word, c.args.value) in
    let t = c.insert_below.new.store in
    let n = g.S.Frozen.records t in
    let old = g.S.Store.ledger s in
    let mid = g.S.Store.ledger t in
    let before = c.args.replaced.now.items in
    let after = c.insert_below.new.replaced.items in
    let ps = c.in_ok-parts.parts in
    let pushed : c.push.new.self.items ≡ before ++ node ∷ [] = c.push.ensures.items ∙ ap (λ x. before ++ (x ∷ [])) c.raw.ensures in
    let x0 : Inserts seen pair old mid m n l q c.push.new.self.items after ps =
    subst (λ f. Inserts (seen_by key.read key.order sought (g.S.Frozen.records f)) pair (g.S.Store.ledger f) mid (g.S.Frozen.records f) n l q c.push.new.self.items after ps) same c.in_ok-parts.ensures.inserts in
    let x1 : Inserts seen pair old mid m n l (get_or vs i 0) c.push.new.self.items after ps = subst (λ r. Inserts seen pair old mid m n l r c.push.new.self.items after ps) child x0 in
    let x : Inserts seen pair old mid m n l (get_or vs i 0) (before ++ node ∷ []) after ps = subst (λ xs. Inserts seen pair old mid m n l (get_or vs i 0) xs after ps) pushed x1 in
    let makes : MakesNodes old mid m n (2 * suc l) = subst (λ f. MakesNodes (g.S.Store.ledger f) mid (g.S.Frozen.records f) n (2 * suc l)) same c.insert_below.ensures.makes in
    let ascends : Ascends key.order key.read m (pairs_below m (suc l) node) = subst (λ k. Ascends key.order key.read m (pairs_below m k node)) up c.requires.ascends in
    let few : length (pairs_below m (suc l) node) + 1 < 2 ^ 32 = subst (λ k. length (pairs_below m k node) + 1 < 2 ^ 32) up c.requires.few in
    let total = g.met.K.KeyOrder.total in
    let keys = take i ks ++ (part_keys ps ++ drop (suc i) ks) in
    let values = take i vs ++ (part_nodes ps ++ drop (suc i) vs) in
    let u = c.count_parts.new.frozen in
    let stays : u ≡ t = c.count_parts.ensures.same in
    let moved : (P : Records → ℕ → List ℕ → List ℕ → Type 0) → P n (suc l) keys values
    → P (g.S.Frozen.records u) (level_of w) (take i (node_keys w) ++ (part_keys ps ++ drop (suc i) (node_keys w))) (take i (node_values w) ++ (part_nodes ps ++ drop (suc i) (node_values w))) =
    λ P h. subst (λ f. P (g.S.Frozen.records f) (level_of w) (take i (node_keys w) ++ (part_keys ps ++ drop (suc i) (node_keys w))) (take i (node_values w) ++ (part_nodes ps ++ drop (suc i) (node_values w)))) (sym stays)
    (subst (λ ws. P n (level_of ws) (take i (node_keys ws) ++ (part_keys ps ++ drop (suc i) (node_keys ws))) (take i (node_values ws) ++ (part_nodes ps ++ drop (suc i) (node_values ws)))) (sym words)
    (subst (λ k. P n k keys values) (sym form.at_level) h)) in
    let counted = over-counted key.order total key.read sought m n 1 l node i pair is place ascends makes.keeps ps x.parts_are keys values refl refl in
    let count = c.count_parts.ensures.count in
    let all : slice_index_or w 1 0 - c.word-before.result + c.count_parts.result ≡ length (slot_pairs n (suc l) keys values) = omega arith in
    moved (λ o k xs ys. slice_index_or w 1 0 - c.word-before.result + c.count_parts.result ≡ length (slot_pairs o k xs ys)) all

pub returns-clause-inserts : goal.returns-clause-inserts
returns-clause-inserts g t c =
    let s = c.args.store.now in
    let m = g.S.Frozen.records s in
    let node = c.args.node in
    let l = c.args.level - 1 in
    let up : c.args.level ≡ suc l = (let other = c.if-level-eq0.false in omega arith) in
    let is : IsNode m 1 (suc l) node = subst (λ k. IsNode m 1 k node) up c.requires.node in
    let form = IsNode-form m 1 (suc l) node is in
    let ks = node_keys (m node) in
    let vs = node_values (m node) in
    let even = node-even m 1 (suc l) node is in
    let used = keys-length m 1 (suc l) node is in
    let key = g.K.KeyOrder in
    let sought = key.sought c.args.key.now in
    let seen = seen_by key.read key.order sought m in
    let i = c.visit_inner-place.result in
    let w = c.visit_inner-place.new.words in
    let words : w ≡ m node = c.visit_inner-place.ensures.words in
    let place : IsPlace seen ks i = c.visit_inner-place.ensures.place in
    let within = place.within in
    let low : i < length vs = omega arith in
    let room = form.room in
    let read : slice_index_or w (18 + i) 0 ≡ get_or vs i 0 = ap (λ (ws : List ℕ). slice_index_or ws (18 + i) 0) words ∙ sym (get_or-node_values (m node) i (omega arith)) in
    let size : length (m (get_or vs i 0)) ≡ 34 = (IsNode-form m 8 l (get_or vs i 0) (child-node m 1 l node i is low)).size in
    let q = c.from_raw-child.result in
    let child : q ≡ get_or vs i 0 = c.from_raw-child.ensures ∙ read in
    let same : c.word-before.new.self ≡ s = c.word-before.ensures.same ∙ c.visit_inner-place.ensures.same in
    let before_is : c.word-before.result ≡ count_of (m (get_or vs i 0)) =
    c.word-before.ensures.value ∙ ap (λ f. slice_index (g.S.Frozen.records f q) 1) c.visit_inner-place.ensures.same ∙ ap (λ r. slice_index (m r) 1) child in
    let count_is : slice_index_or w 1 0 ≡ count_of (m node) = ap (λ (ws : List ℕ). slice_index_or ws 1 0) words in
    let pair : ℕ × ℕ = (c.args.word, c.args.value) in
    let t = c.insert_below.new.store in
    let n = g.S.Frozen.records t in
    let old = g.S.Store.ledger s in
    let mid = g.S.Store.ledger t in
    let before = c.args.replaced.now.items in
    let after = c.insert_below.new.replaced.items in
    let ps = c.in_ok-parts.parts in
    let pushed : c.push.new.self.items ≡ before ++ node ∷ [] = c.push.ensures.items ∙ ap (λ x. before ++ (x ∷ [])) c.raw.ensures in
    let x0 : Inserts seen pair old mid m n l q c.push.new.self.items after ps =
    subst (λ f. Inserts (seen_by key.read key.order sought (g.S.Frozen.records f)) pair (g.S.Store.ledger f) mid (g.S.Frozen.records f) n l q c.push.new.self.items after ps) same c.in_ok-parts.ensures.inserts in
    let x1 : Inserts seen pair old mid m n l (get_or vs i 0) c.push.new.self.items after ps = subst (λ r. Inserts seen pair old mid m n l r c.push.new.self.items after ps) child x0 in
    let x : Inserts seen pair old mid m n l (get_or vs i 0) (before ++ node ∷ []) after ps = subst (λ xs. Inserts seen pair old mid m n l (get_or vs i 0) xs after ps) pushed x1 in
    let makes : MakesNodes old mid m n (2 * suc l) = subst (λ f. MakesNodes (g.S.Store.ledger f) mid (g.S.Frozen.records f) n (2 * suc l)) same c.insert_below.ensures.makes in
    let ascends : Ascends key.order key.read m (pairs_below m (suc l) node) = subst (λ k. Ascends key.order key.read m (pairs_below m k node)) up c.requires.ascends in
    let few : length (pairs_below m (suc l) node) + 1 < 2 ^ 32 = subst (λ k. length (pairs_below m k node) + 1 < 2 ^ 32) up c.requires.few in
    let total = g.met.K.KeyOrder.total in
    let keys = take i ks ++ (part_keys ps ++ drop (suc i) ks) in
    let values = take i vs ++ (part_nodes ps ++ drop (suc i) vs) in
    let u = c.count_parts.new.frozen in
    let stays : u ≡ t = c.count_parts.ensures.same in
    let v = c.put_parts.new.store in
    let back : (P : Parts → Records → ℕ → List ℕ → List ℕ → Type 0) (made : Parts)
    → P made (g.S.Frozen.records u) (level_of w) (take i (node_keys w) ++ (part_keys ps ++ drop (suc i) (node_keys w))) (take i (node_values w) ++ (part_nodes ps ++ drop (suc i) (node_values w)))
    → P made n (suc l) keys values =
    λ P made h. subst (λ k. P made n k keys values) form.at_level
    (subst (λ ws. P made n (level_of ws) (take i (node_keys ws) ++ (part_keys ps ++ drop (suc i) (node_keys ws))) (take i (node_values ws) ++ (part_nodes ps ++ drop (suc i) (node_values ws)))) words
    (subst (λ f. P made (g.S.Frozen.records f) (level_of w) (take i (node_keys w) ++ (part_keys ps ++ drop (suc i) (node_keys w))) (take i (node_values w) ++ (part_nodes ps ++ drop (suc i) (node_values w)))) stays h)) in
    let ledger = g.S.Store.ledger in
    IfOk-weaker c.put_parts.result _ _ (λ made y.
    let y1 : MakesParts (ledger u) (ledger v) n (g.S.Frozen.records v) (suc l) keys values made =
    back (λ made o k xs ys. MakesParts (ledger u) (ledger v) o (g.S.Frozen.records v) k xs ys made) made y in
    let y2 : MakesParts mid (ledger v) n (g.S.Frozen.records v) (suc l) keys values made =
    subst (λ f. MakesParts (ledger f) (ledger v) n (g.S.Frozen.records v) (suc l) keys values made) stays y1 in
    subst (λ k. Inserts seen pair old (ledger v) m (g.S.Frozen.records v) k node before after made) (sym up)
    (over-inserts key.order total key.read sought m n 1 l node i pair is place ascends makes.keeps ps x.parts_are keys values refl refl old mid (ledger v) (g.S.Frozen.records v) before after made x y2))
    c.put_parts.ensures.parts

pub returns-clause-makes : goal.returns-clause-makes
returns-clause-makes g t c =
    let ledger = g.S.Store.ledger in
    let records = g.S.Frozen.records in
    let s = c.args.store.now in
    let m = records s in
    let l = c.args.level - 1 in
    let up : c.args.level ≡ suc l = (let other = c.if-level-eq0.false in omega arith) in
    let same = c.word-before.ensures.same ∙ c.visit_inner-place.ensures.same in
    let t = c.insert_below.new.store in
    let makes : MakesNodes (ledger s) (ledger t) m (records t) (2 * suc l) = subst (λ f. MakesNodes (ledger f) (ledger t) (records f) (records t) (2 * suc l)) same c.insert_below.ensures.makes in
    let v = c.put_parts.new.store in
    let stays = c.count_parts.ensures.same in
    makes-then (ledger s) (ledger t) (ledger v) m (records t) (records v) (2 * suc l) 2 (2 * suc c.args.level) (omega arith) makes
    (subst (λ f. MakesNodes (ledger f) (ledger v) (records f) (records v) 2) stays c.put_parts.ensures.makes)

pub returns-clause-refuses : goal.returns-clause-refuses
returns-clause-refuses g t c =
    let ledger = g.S.Store.ledger in
    let records = g.S.Frozen.records in
    let s = c.args.store.now in
    let m = records s in
    let l = c.args.level - 1 in
    let up : c.args.level ≡ suc l = (let other = c.if-level-eq0.false in omega arith) in
    let same = c.word-before.ensures.same ∙ c.visit_inner-place.ensures.same in
    let t = c.insert_below.new.store in
    let makes : MakesNodes (ledger s) (ledger t) m (records t) (2 * suc l) = subst (λ f. MakesNodes (ledger f) (ledger t) (records f) (records t) (2 * suc l)) same c.insert_below.ensures.makes in
    let v = c.put_parts.new.store in
    let stays = c.count_parts.ensures.same in
    refuses-if (ledger s) (ledger t) (ledger v) 34 c.put_parts.result makes.may
    (subst (λ f. IfErr c.put_parts.result (Refuses (ledger f) (ledger v) 34)) stays c.put_parts.ensures.refuses)
