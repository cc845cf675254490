use Rattle.std.proofs.Common.{rules, ◌≡◌, ◌≢◌, ℕ, ◌+◌, ◌-◌, ◌<◌, ◌≤◌, ◌^◌, suc, Bool, List, get_or, min, refl, sym, ap, subst, ◌∙◌, arith}
use Rattle.std.specs.declared.cmp.Ordering.TheVariants.{Equal, Greater}
use Rattle.std.specs.declared.cmp.Ordering.{Ordering}
use Rattle.entry_ref.specs.References.{buffer_of}
use Rattle.entry_ref.specs.Records.{word_at}
use Rattle.tree_read.specs.Nodes.{level_of, used_of, node_keys}
use Rattle.tree_read.specs.Trees.{pairs_below, IsNode}
use Rattle.tree_read.specs.Keys.{Ascends, AllReadable, seen_by}
use Rattle.tree_read.specs.NodePlaces.{IsSlot}
use Rattle.tree_read.proofs.ChildLemmas.{IsNode-lower, child-node, child-all, child-ascends, keys-length}
use Rattle.tree_read.proofs.ReadLemmas.{node-level, node-room, node-size}
use Rattle.compaction_steps.specs.Ways.{IsWay, IsWayBelow}
use Rattle.compaction_steps.proofs.WayLemmas.{way_leaf, way_none, way_over}
use Rattle.compaction_steps.proofs.ways.+way_below.Goals as goal

pub buffer-requires : goal.buffer-requires
buffer-requires g t c = omega arith

pub returns-then-buffer-clause-way : goal.returns-then-buffer-clause-way
returns-then-buffer-clause-way g t c =
    let key = g.K.KeyOrder in
    let m = g.F.Frozen.records c.args.frozen.now in
    let P = IsWayBelow g.row.OFFSET_BITS c.args.buffer key.order key.read m c.args.level c.args.node in
    let seen = seen_by key.read key.order (key.sought c.args.key.now) m in
    let ps = pairs_below m c.args.level c.args.node in
    subst (λ (n : ℕ). IsWay P seen ps n c.no_way.result.last c.no_way.result.found) (sym c.no_way.ensures.pairs)
    (subst (λ (k : ℕ). IsWay P seen ps 0 k c.no_way.result.found) (sym c.no_way.ensures.last)
    (subst (λ (b : Bool). IsWay P seen ps 0 0 b) (sym c.no_way.ensures.found) (way_none P seen ps)))

pub returns-then-buffer-clause-few : goal.returns-then-buffer-clause-few
returns-then-buffer-clause-few g t c = let none = c.no_way.ensures.pairs in omega arith

pub returns-then-buffer-clause-same : goal.returns-then-buffer-clause-same
returns-then-buffer-clause-same g t c = refl

pub visit-spot-requires : goal.visit-spot-requires
visit-spot-requires g t c =
    let records = g.F.Frozen.records in
    let key = g.K.KeyOrder in
    let total = g.met.K.KeyOrder.total in
    let m = records c.args.frozen.now in
    let node = c.args.node in
    let level = c.args.level in
    let s = key.sought c.args.key.now in
    let is = c.requires.node in
    let at_level : level_of (m node) ≡ level = node-level m 1 level node is in
    let most = node-room m 1 level node is in
    (omega arith, (subst (λ l. IsNode m 1 l node) (sym at_level) is, subst (λ l. AllReadable key.can_read m (pairs_below m l node)) (sym at_level) c.requires.readable))

pub slice_bounds-used_in-end : goal.slice_bounds-used_in-end
slice_bounds-used_in-end g t c = search rules

pub used_in-requires : goal.used_in-requires
used_in-requires g t c = let long = c.visit-spot.array_long in omega arith

pub returns-then-spot-used_in-clause-way : goal.returns-then-spot-used_in-clause-way
returns-then-spot-used_in-clause-way g t c =
    let key = g.K.KeyOrder in
    let m = g.F.Frozen.records c.args.frozen.now in
    let P = IsWayBelow g.row.OFFSET_BITS c.args.buffer key.order key.read m c.args.level c.args.node in
    let seen = seen_by key.read key.order (key.sought c.args.key.now) m in
    let ps = pairs_below m c.args.level c.args.node in
    subst (λ (n : ℕ). IsWay P seen ps n c.no_way-then-spot-used_in.result.last c.no_way-then-spot-used_in.result.found) (sym c.no_way-then-spot-used_in.ensures.pairs)
    (subst (λ (k : ℕ). IsWay P seen ps 0 k c.no_way-then-spot-used_in.result.found) (sym c.no_way-then-spot-used_in.ensures.last)
    (subst (λ (b : Bool). IsWay P seen ps 0 0 b) (sym c.no_way-then-spot-used_in.ensures.found) (way_none P seen ps)))

pub returns-then-spot-used_in-clause-few : goal.returns-then-spot-used_in-clause-few
returns-then-spot-used_in-clause-few g t c = let none = c.no_way-then-spot-used_in.ensures.pairs in omega arith

pub returns-then-spot-used_in-clause-same : goal.returns-then-spot-used_in-clause-same
returns-then-spot-used_in-clause-same g t c = c.visit-spot.ensures.same

pub rest_of-requires-clause-slot : goal.rest_of-requires-clause-slot
rest_of-requires-clause-slot g t c =
    let records = g.F.Frozen.records in
    let key = g.K.KeyOrder in
    let total = g.met.K.KeyOrder.total in
    let m = records c.args.frozen.now in
    let node = c.args.node in
    let level = c.args.level in
    let s = key.sought c.args.key.now in
    let is = c.requires.node in
    let at_level : level_of (m node) ≡ level = node-level m 1 level node is in
    let most = node-room m 1 level node is in
    let seen = seen_by key.read key.order s m in
    let slot = c.visit-spot.result.slot in
    let at : IsSlot seen (node_keys (m node)) slot = c.visit-spot.ensures.slot in
    let within = at.within in
    let size = keys-length m 1 level node is in
    let used = c.used_in.ensures ∙ ap used_of c.visit-spot.ensures.words in
    let same : c.visit-spot.new.frozen ≡ c.args.frozen.now = c.visit-spot.ensures.same in
    let low : slot < used_of (m node) = (let test = c.if-spot-used_in.false in omega arith) in
    subst (λ (ws : List ℕ). slot < used_of ws) (sym c.visit-spot.ensures.words) low

pub rest_of-requires-clause-room : goal.rest_of-requires-clause-room
rest_of-requires-clause-room g t c =
    let records = g.F.Frozen.records in
    let key = g.K.KeyOrder in
    let total = g.met.K.KeyOrder.total in
    let m = records c.args.frozen.now in
    let node = c.args.node in
    let level = c.args.level in
    let s = key.sought c.args.key.now in
    let is = c.requires.node in
    let at_level : level_of (m node) ≡ level = node-level m 1 level node is in
    let most = node-room m 1 level node is in
    subst (λ (ws : List ℕ). used_of ws ≤ 16) (sym c.visit-spot.ensures.words) most

pub rest_of-requires-clause-some : goal.rest_of-requires-clause-some
rest_of-requires-clause-some g t c = c.requires.some

pub returns-then-level-eq0-clause-way : goal.returns-then-level-eq0-clause-way
returns-then-level-eq0-clause-way g t c =
    let records = g.F.Frozen.records in
    let key = g.K.KeyOrder in
    let total = g.met.K.KeyOrder.total in
    let m = records c.args.frozen.now in
    let node = c.args.node in
    let level = c.args.level in
    let s = key.sought c.args.key.now in
    let is = c.requires.node in
    let at_level : level_of (m node) ≡ level = node-level m 1 level node is in
    let most = node-room m 1 level node is in
    let seen = seen_by key.read key.order s m in
    let slot = c.visit-spot.result.slot in
    let at : IsSlot seen (node_keys (m node)) slot = c.visit-spot.ensures.slot in
    let within = at.within in
    let size = keys-length m 1 level node is in
    let used = c.used_in.ensures ∙ ap used_of c.visit-spot.ensures.words in
    let same : c.visit-spot.new.frozen ≡ c.args.frozen.now = c.visit-spot.ensures.same in
    let low : slot < used_of (m node) = (let test = c.if-spot-used_in.false in omega arith) in
    let zeroth : level ≡ 0 = c.if-level-eq0.true in
    let leaf : IsNode m 1 0 node = subst (λ (l : ℕ). IsNode m 1 l node) zeroth is in
    let apart : buffer_of g.row.OFFSET_BITS node ≢ c.args.buffer = (λ e. c.if-buffer.false (c.buffer.ensures.value ∙ e)) in
    let pairs = c.rest_of.ensures.pairs ∙ ap (λ (ws : List ℕ). min (used_of ws - slot) c.args.most) c.visit-spot.ensures.words in
    let some = c.requires.some in
    subst (λ (l : ℕ). IsWay (IsWayBelow g.row.OFFSET_BITS c.args.buffer key.order key.read m l node) seen (pairs_below m l node) c.rest_of.result.pairs c.rest_of.result.last c.rest_of.result.found) (sym zeroth)
    (way_leaf key.order total key.read s g.row.OFFSET_BITS c.args.buffer m node slot leaf apart at low c.rest_of.result.pairs c.rest_of.result.last c.rest_of.result.found (omega arith) (omega arith)
    (c.rest_of.ensures.last ∙ ap (λ (ws : List ℕ). get_or ws (1 + slot + c.rest_of.result.pairs) 0) c.visit-spot.ensures.words)
    (λ e. (c.visit-spot.ensures.found (sym c.rest_of.ensures.found ∙ e)).equal)
    (λ e same_key. greater_equal (seen (get_or (node_keys (m node)) slot 0)) ((c.visit-spot.ensures.lacking (sym c.rest_of.ensures.found ∙ e)).above (omega arith)) same_key))
  where
    greater_equal : (o : Ordering) → o ≡ Greater → o ≡ Equal → ⊥
    greater_equal o a b = grind (arith, a, b)

pub returns-then-level-eq0-clause-few : goal.returns-then-level-eq0-clause-few
returns-then-level-eq0-clause-few g t c = let pairs = c.rest_of.ensures.pairs in omega arith

pub returns-then-level-eq0-clause-same : goal.returns-then-level-eq0-clause-same
returns-then-level-eq0-clause-same g t c = c.visit-spot.ensures.same

pub overflow_add-spot : goal.overflow_add-spot
overflow_add-spot g t c =
    let records = g.F.Frozen.records in
    let key = g.K.KeyOrder in
    let total = g.met.K.KeyOrder.total in
    let m = records c.args.frozen.now in
    let node = c.args.node in
    let level = c.args.level in
    let s = key.sought c.args.key.now in
    let is = c.requires.node in
    let at_level : level_of (m node) ≡ level = node-level m 1 level node is in
    let most = node-room m 1 level node is in
    let seen = seen_by key.read key.order s m in
    let slot = c.visit-spot.result.slot in
    let at : IsSlot seen (node_keys (m node)) slot = c.visit-spot.ensures.slot in
    let within = at.within in
    let size = keys-length m 1 level node is in
    let used = c.used_in.ensures ∙ ap used_of c.visit-spot.ensures.words in
    let same : c.visit-spot.new.frozen ≡ c.args.frozen.now = c.visit-spot.ensures.same in
    let low : slot < used_of (m node) = (let test = c.if-spot-used_in.false in omega arith) in
    omega arith

pub offset_bounds-words-spot : goal.offset_bounds-words-spot
offset_bounds-words-spot g t c =
    let records = g.F.Frozen.records in
    let key = g.K.KeyOrder in
    let total = g.met.K.KeyOrder.total in
    let m = records c.args.frozen.now in
    let node = c.args.node in
    let level = c.args.level in
    let s = key.sought c.args.key.now in
    let is = c.requires.node in
    let at_level : level_of (m node) ≡ level = node-level m 1 level node is in
    let most = node-room m 1 level node is in
    let seen = seen_by key.read key.order s m in
    let slot = c.visit-spot.result.slot in
    let at : IsSlot seen (node_keys (m node)) slot = c.visit-spot.ensures.slot in
    let within = at.within in
    let size = keys-length m 1 level node is in
    let used = c.used_in.ensures ∙ ap used_of c.visit-spot.ensures.words in
    let same : c.visit-spot.new.frozen ≡ c.args.frozen.now = c.visit-spot.ensures.same in
    let low : slot < used_of (m node) = (let test = c.if-spot-used_in.false in omega arith) in
    omega arith

pub bounds-words-spot : goal.bounds-words-spot
bounds-words-spot g t c =
    let records = g.F.Frozen.records in
    let key = g.K.KeyOrder in
    let total = g.met.K.KeyOrder.total in
    let m = records c.args.frozen.now in
    let node = c.args.node in
    let level = c.args.level in
    let s = key.sought c.args.key.now in
    let is = c.requires.node in
    let at_level : level_of (m node) ≡ level = node-level m 1 level node is in
    let most = node-room m 1 level node is in
    let seen = seen_by key.read key.order s m in
    let slot = c.visit-spot.result.slot in
    let at : IsSlot seen (node_keys (m node)) slot = c.visit-spot.ensures.slot in
    let within = at.within in
    let size = keys-length m 1 level node is in
    let used = c.used_in.ensures ∙ ap used_of c.visit-spot.ensures.words in
    let same : c.visit-spot.new.frozen ≡ c.args.frozen.now = c.visit-spot.ensures.same in
    let low : slot < used_of (m node) = (let test = c.if-spot-used_in.false in omega arith) in
    omega arith

pub overflow_cast-words : goal.overflow_cast-words
overflow_cast-words g t c =
    let records = g.F.Frozen.records in
    let key = g.K.KeyOrder in
    let total = g.met.K.KeyOrder.total in
    let m = records c.args.frozen.now in
    let node = c.args.node in
    let level = c.args.level in
    let s = key.sought c.args.key.now in
    let is = c.requires.node in
    let at_level : level_of (m node) ≡ level = node-level m 1 level node is in
    let most = node-room m 1 level node is in
    let seen = seen_by key.read key.order s m in
    let slot = c.visit-spot.result.slot in
    let at : IsSlot seen (node_keys (m node)) slot = c.visit-spot.ensures.slot in
    let within = at.within in
    let size = keys-length m 1 level node is in
    let used = c.used_in.ensures ∙ ap used_of c.visit-spot.ensures.words in
    let same : c.visit-spot.new.frozen ≡ c.args.frozen.now = c.visit-spot.ensures.same in
    let low : slot < used_of (m node) = (let test = c.if-spot-used_in.false in omega arith) in
    let wide = node-size m 1 level node is in
    let q = word_at m node (18 + slot) in
    let is_q : get_or c.visit-spot.new.words (18 + slot) 0 ≡ q = ap (λ (ws : List ℕ). get_or ws (18 + slot) 0) c.visit-spot.ensures.words in
    let l = level - 1 in
    let above : level ≡ suc l = (let test = c.if-level-eq0.false in omega arith) in
    let child : IsNode m 8 l q = child-node m 1 level l node above is slot low in
    let size_q = node-size m 8 l q child in
    let small : q < 2 ^ 32 = g.met.F.Frozen.references c.args.frozen.now q (omega arith) in
    omega arith

pub from_raw-child-requires : goal.from_raw-child-requires
from_raw-child-requires g t c = omega arith

pub overflow_sub-level : goal.overflow_sub-level
overflow_sub-level g t c = let test = c.if-level-eq0.false in omega arith

pub way_below-requires : goal.way_below-requires
way_below-requires g t c =
    let records = g.F.Frozen.records in
    let key = g.K.KeyOrder in
    let total = g.met.K.KeyOrder.total in
    let m = records c.args.frozen.now in
    let node = c.args.node in
    let level = c.args.level in
    let s = key.sought c.args.key.now in
    let is = c.requires.node in
    let at_level : level_of (m node) ≡ level = node-level m 1 level node is in
    let most = node-room m 1 level node is in
    let seen = seen_by key.read key.order s m in
    let slot = c.visit-spot.result.slot in
    let at : IsSlot seen (node_keys (m node)) slot = c.visit-spot.ensures.slot in
    let within = at.within in
    let size = keys-length m 1 level node is in
    let used = c.used_in.ensures ∙ ap used_of c.visit-spot.ensures.words in
    let same : c.visit-spot.new.frozen ≡ c.args.frozen.now = c.visit-spot.ensures.same in
    let low : slot < used_of (m node) = (let test = c.if-spot-used_in.false in omega arith) in
    let wide = node-size m 1 level node is in
    let q = word_at m node (18 + slot) in
    let is_q : get_or c.visit-spot.new.words (18 + slot) 0 ≡ q = ap (λ (ws : List ℕ). get_or ws (18 + slot) 0) c.visit-spot.ensures.words in
    let l = level - 1 in
    let above : level ≡ suc l = (let test = c.if-level-eq0.false in omega arith) in
    let child : IsNode m 8 l q = child-node m 1 level l node above is slot low in
    let ref = c.from_raw-child.result in
    let ref_is : ref ≡ q = c.from_raw-child.ensures ∙ is_q in
    let lower = IsNode-lower m 8 1 l q (let e : 1 ≤ 8 = omega arith in e) child in
    let up = child-ascends m 1 level l node above is key.order (key.read m) c.requires.ascends slot low in
    let can = child-all m 1 level l node above is (λ p. key.can_read m p.0) c.requires.readable slot low in
    let put : (P : ℕ → Type 0) → P q → P ref = λ P h. subst P (sym ref_is) h in
    λ κs h. (
      omega arith,
      (
        search rules,
        (
          h.0,
          (
            h.1.0,
            (
              h.1.1,
              (
                omega arith,
                (
                  subst (λ (f : g.row.F.Denot). IsNode (records f) 1 l ref) (sym same) (put (IsNode m 1 l) lower),
                  (
                    subst (λ (f : g.row.F.Denot). Ascends key.order key.read (records f) (pairs_below (records f) l ref)) (sym same) (put (λ r. Ascends key.order key.read m (pairs_below m l r)) up),
                    (subst (λ (f : g.row.F.Denot). AllReadable key.can_read (records f) (pairs_below (records f) l ref)) (sym same) (put (λ r. AllReadable key.can_read m (pairs_below m l r)) can), c.requires.some),
                  ),
                ),
              ),
            ),
          ),
        ),
      ),
    )

pub returns-clause-way : goal.returns-clause-way
returns-clause-way g t c =
    let records = g.F.Frozen.records in
    let key = g.K.KeyOrder in
    let total = g.met.K.KeyOrder.total in
    let m = records c.args.frozen.now in
    let node = c.args.node in
    let level = c.args.level in
    let s = key.sought c.args.key.now in
    let is = c.requires.node in
    let at_level : level_of (m node) ≡ level = node-level m 1 level node is in
    let most = node-room m 1 level node is in
    let seen = seen_by key.read key.order s m in
    let slot = c.visit-spot.result.slot in
    let at : IsSlot seen (node_keys (m node)) slot = c.visit-spot.ensures.slot in
    let within = at.within in
    let size = keys-length m 1 level node is in
    let used = c.used_in.ensures ∙ ap used_of c.visit-spot.ensures.words in
    let same : c.visit-spot.new.frozen ≡ c.args.frozen.now = c.visit-spot.ensures.same in
    let low : slot < used_of (m node) = (let test = c.if-spot-used_in.false in omega arith) in
    let wide = node-size m 1 level node is in
    let q = word_at m node (18 + slot) in
    let is_q : get_or c.visit-spot.new.words (18 + slot) 0 ≡ q = ap (λ (ws : List ℕ). get_or ws (18 + slot) 0) c.visit-spot.ensures.words in
    let l = level - 1 in
    let above : level ≡ suc l = (let test = c.if-level-eq0.false in omega arith) in
    let child : IsNode m 8 l q = child-node m 1 level l node above is slot low in
    let ref = c.from_raw-child.result in
    let ref_is : ref ≡ q = c.from_raw-child.ensures ∙ is_q in
    let apart : buffer_of g.row.OFFSET_BITS node ≢ c.args.buffer = (λ e. c.if-buffer.false (c.buffer.ensures.value ∙ e)) in
    let here : IsNode m 1 (suc l) node = subst (λ (k : ℕ). IsNode m 1 k node) above is in
    let up : Ascends key.order key.read m (pairs_below m (suc l) node) = subst (λ (k : ℕ). Ascends key.order key.read m (pairs_below m k node)) above c.requires.ascends in
    let count = c.way_below.result.pairs in
    let last = c.way_below.result.last in
    let found = c.way_below.result.found in
    let way : IsWay (IsWayBelow g.row.OFFSET_BITS c.args.buffer key.order key.read m l ref) seen (pairs_below m l ref) count last found =
    subst (λ (f : g.row.F.Denot). IsWay (IsWayBelow g.row.OFFSET_BITS c.args.buffer key.order key.read (records f) l ref) (seen_by key.read key.order s (records f)) (pairs_below (records f) l ref) count last found)
    same c.way_below.ensures.way in
    subst (λ (k : ℕ). IsWay (IsWayBelow g.row.OFFSET_BITS c.args.buffer key.order key.read m k node) seen (pairs_below m k node) count last found) (sym above)
    (way_over key.order total key.read s g.row.OFFSET_BITS c.args.buffer m l node slot ref here apart at low up ref_is count last found way)

pub returns-clause-few : goal.returns-clause-few
returns-clause-few g t c = c.way_below.ensures.few

pub returns-clause-same : goal.returns-clause-same
returns-clause-same g t c = c.way_below.ensures.same ∙ c.visit-spot.ensures.same
