use Rattle.std.proofs.Common.{◌≡◌, ◌+◌, ◌-◌, ◌<◌, ◌≤◌, ◌^◌, get_or, sym, ap, subst, ◌∙◌, arith, []}
use Rattle.entry_ref.specs.Records.{word_at}
use Rattle.tree_read.specs.Nodes.{level_of, used_of, node_keys}
use Rattle.tree_read.specs.Trees.{pairs_below, tree_pairs, IsNode}
use Rattle.tree_read.specs.Keys.{AllReadable, seen_by}
use Rattle.tree_read.specs.SearchPlaces.{CursorPlace}
use Rattle.tree_read.specs.NodePlaces.{IsSlot}
use Rattle.tree_read.proofs.PlaceLemmas.{leads-node, leads-root, leads-length, child-level, pairs_from-none, step-room, step-child}
use Rattle.tree_read.proofs.SeekLemmas.{IsFirstSlot, first-words, Sought, root-readable, sought-root, sought-past, sought-node, sought-readable, sought-child, sought-leaf}
use Rattle.tree_read.proofs.cursor.Cursor.seek.Goals as goal

pub visit-spot-requires : goal.visit-spot-requires
visit-spot-requires g c =
    let records = g.F.Frozen.records in
    let key = g.K.KeyOrder in
    let total = g.met.K.KeyOrder.total in
    let m = records c.args.frozen.now in
    let root = c.args.root in
    let s = key.sought c.args.key.now in
    let some : 0 < root = omega arith in
    let tree = c.requires.tree.node some in
    (omega arith, (leads-node m root [] root (leads-root m root some tree), root-readable key.order total (key.read m) s m (key.can_read m) root some tree c.requires.tree.ascends c.requires.readable))

pub returns-then-spot-cursor-clause-pairs : goal.returns-then-spot-cursor-clause-pairs
returns-then-spot-cursor-clause-pairs g c =
    let records = g.F.Frozen.records in
    let key = g.K.KeyOrder in
    let total = g.met.K.KeyOrder.total in
    let m = records c.args.frozen.now in
    let root = c.args.root in
    let s = key.sought c.args.key.now in
    let some : 0 < root = omega arith in
    let tree = c.requires.tree.node some in
    let slot = c.visit-spot.result.slot in
    let used = ap used_of c.visit-spot.ensures.words in
    let first : IsFirstSlot (seen_by key.read key.order s m) (m root) slot =
    first-words (seen_by key.read key.order s m) m 1 (level_of (m root)) root slot (leads-node m root [] root (leads-root m root some tree)) c.visit-spot.ensures.slot in
    let fresh = c.cursor.view_is ∙ c.at_end_of-cursor.ensures in
    let past : used_of (m root) ≤ slot = (let test = c.if-spot-cursor.true in omega arith) in
    let none : c.cursor.inside.used ≡ 0 = ap (λ (p : CursorPlace). p.used) fresh in
    pairs_from-none m (record { root = c.cursor.inside.root; path = c.cursor.inside.path; leaf = c.cursor.inside.leaf; slot = c.cursor.inside.slot; used = c.cursor.inside.used; words = c.visit-spot.new.words })
    (omega arith)
    ∙ sym (sought-past key.order total (key.read m) s m (key.can_read m) root some tree c.requires.tree.ascends c.requires.readable slot first past)

pub loop-cursor-init : goal.loop-cursor-init
loop-cursor-init g c =
    let records = g.F.Frozen.records in
    let key = g.K.KeyOrder in
    let total = g.met.K.KeyOrder.total in
    let m = records c.args.frozen.now in
    let root = c.args.root in
    let s = key.sought c.args.key.now in
    let some : 0 < root = omega arith in
    let tree = c.requires.tree.node some in
    let slot = c.visit-spot.result.slot in
    let used = ap used_of c.visit-spot.ensures.words in
    let first : IsFirstSlot (seen_by key.read key.order s m) (m root) slot =
    first-words (seen_by key.read key.order s m) m 1 (level_of (m root)) root slot (leads-node m root [] root (leads-root m root some tree)) c.visit-spot.ensures.slot in
    let fresh = c.cursor.view_is ∙ c.at_end_of-cursor.ensures in
    let low : slot < used_of (m root) = (let within = first.within in let test = c.if-spot-cursor.false in omega arith) in
    let sought = sought-root key.order total (key.read m) s m (key.can_read m) root some tree c.requires.tree.ascends c.requires.readable slot first low in
    record {
      same = c.visit-spot.ensures.same;
      root = ap (λ (p : CursorPlace). p.root) fresh;
      words = c.visit-spot.ensures.words;
      sought = subst (λ p. Sought key.order total (key.read m) s m (key.can_read m) (tree_pairs m root) root p root slot) (sym (ap (λ (p : CursorPlace). p.path) fresh)) sought;
    }

pub push-requires : goal.push-requires
push-requires g c =
    let records = g.F.Frozen.records in
    let key = g.K.KeyOrder in
    let total = g.met.K.KeyOrder.total in
    let m = records c.args.frozen.now in
    let root = c.args.root in
    let s = key.sought c.args.key.now in
    let whole = tree_pairs m root in
    let it = c.loop-cursor.invariant in
    let leads = it.sought.leads in
    let path = c.loop-cursor.cursor-inside.path in
    let node = c.loop-cursor.node in
    let slot = c.loop-cursor.spot.slot in
    let most = leads-length m root path node leads in
    omega arith

pub bounds-cursor-inside-spot : goal.bounds-cursor-inside-spot
bounds-cursor-inside-spot g c =
    let records = g.F.Frozen.records in
    let key = g.K.KeyOrder in
    let total = g.met.K.KeyOrder.total in
    let m = records c.args.frozen.now in
    let root = c.args.root in
    let s = key.sought c.args.key.now in
    let whole = tree_pairs m root in
    let it = c.loop-cursor.invariant in
    let leads = it.sought.leads in
    let path = c.loop-cursor.cursor-inside.path in
    let node = c.loop-cursor.node in
    let slot = c.loop-cursor.spot.slot in
    let most = step-room m root path node leads in
    let low = it.sought.low in
    omega arith

pub overflow_cast-cursor-inside : goal.overflow_cast-cursor-inside
overflow_cast-cursor-inside g c =
    let records = g.F.Frozen.records in
    let key = g.K.KeyOrder in
    let total = g.met.K.KeyOrder.total in
    let m = records c.args.frozen.now in
    let root = c.args.root in
    let s = key.sought c.args.key.now in
    let whole = tree_pairs m root in
    let it = c.loop-cursor.invariant in
    let leads = it.sought.leads in
    let path = c.loop-cursor.cursor-inside.path in
    let node = c.loop-cursor.node in
    let slot = c.loop-cursor.spot.slot in
    let was = ap level_of it.words in
    let above : 0 < level_of (m node) = (let test = c.loop-cursor-test.true in omega arith) in
    let q = word_at m node (18 + slot) in
    let small : q < 2 ^ 32 = g.met.F.Frozen.references c.args.frozen.now q (step-child m root path node slot leads above it.sought.low) in
    let is : get_or c.loop-cursor.cursor-inside.words (18 + slot) 0 ≡ q = ap (λ ws. get_or ws (18 + slot) 0) it.words in
    omega arith

pub visit-spot-requires-in-loop-cursor : goal.visit-spot-requires-in-loop-cursor
visit-spot-requires-in-loop-cursor g c =
    let records = g.F.Frozen.records in
    let key = g.K.KeyOrder in
    let total = g.met.K.KeyOrder.total in
    let m = records c.args.frozen.now in
    let root = c.args.root in
    let s = key.sought c.args.key.now in
    let whole = tree_pairs m root in
    let it = c.loop-cursor.invariant in
    let leads = it.sought.leads in
    let path = c.loop-cursor.cursor-inside.path in
    let node = c.loop-cursor.node in
    let slot = c.loop-cursor.spot.slot in
    let was = ap level_of it.words in
    let above : 0 < level_of (m node) = (let test = c.loop-cursor-test.true in omega arith) in
    let q = c.from_raw-node.result in
    let child : q ≡ word_at m node (18 + slot) = c.from_raw-node.ensures ∙ ap (λ ws. get_or ws (18 + slot) 0) it.words in (
      omega arith,
      (
        subst (λ (f : g.row.F.Denot). IsNode (records f) 1 (level_of (records f q)) q) (sym it.same) (sought-node key.order total (key.read m) s m (key.can_read m) whole root path node slot it.sought above q child),
        subst (λ (f : g.row.F.Denot). AllReadable key.can_read (records f) (pairs_below (records f) (level_of (records f q)) q)) (sym it.same)
            (sought-readable key.order total (key.read m) s m (key.can_read m) whole root path node slot it.sought above q child),
      ),
    )

pub loop-cursor-smaller : goal.loop-cursor-smaller
loop-cursor-smaller g c =
    let records = g.F.Frozen.records in
    let key = g.K.KeyOrder in
    let total = g.met.K.KeyOrder.total in
    let m = records c.args.frozen.now in
    let root = c.args.root in
    let s = key.sought c.args.key.now in
    let whole = tree_pairs m root in
    let it = c.loop-cursor.invariant in
    let leads = it.sought.leads in
    let path = c.loop-cursor.cursor-inside.path in
    let node = c.loop-cursor.node in
    let slot = c.loop-cursor.spot.slot in
    let was = ap level_of it.words in
    let above : 0 < level_of (m node) = (let test = c.loop-cursor-test.true in omega arith) in
    let q = c.from_raw-node.result in
    let child : q ≡ word_at m node (18 + slot) = c.from_raw-node.ensures ∙ ap (λ ws. get_or ws (18 + slot) 0) it.words in
    let below : level_of (m q) ≡ level_of (m node) - 1 = child-level m root path node slot q leads above it.sought.low child in
    let now : level_of c.visit-spot-in-loop-cursor.new.words ≡ level_of (m q) = ap level_of (c.visit-spot-in-loop-cursor.ensures.words ∙ ap (λ (f : g.row.F.Denot). records f q) it.same) in
    let less : level_of c.visit-spot-in-loop-cursor.new.words < level_of c.loop-cursor.cursor-inside.words = omega arith in
    less

pub loop-cursor-preserved : goal.loop-cursor-preserved
loop-cursor-preserved g c =
    let records = g.F.Frozen.records in
    let key = g.K.KeyOrder in
    let total = g.met.K.KeyOrder.total in
    let m = records c.args.frozen.now in
    let root = c.args.root in
    let s = key.sought c.args.key.now in
    let whole = tree_pairs m root in
    let it = c.loop-cursor.invariant in
    let leads = it.sought.leads in
    let path = c.loop-cursor.cursor-inside.path in
    let node = c.loop-cursor.node in
    let slot = c.loop-cursor.spot.slot in
    let was = ap level_of it.words in
    let above : 0 < level_of (m node) = (let test = c.loop-cursor-test.true in omega arith) in
    let q = c.from_raw-node.result in
    let child : q ≡ word_at m node (18 + slot) = c.from_raw-node.ensures ∙ ap (λ ws. get_or ws (18 + slot) 0) it.words in
    let next = c.visit-spot-in-loop-cursor in
    let first : IsFirstSlot (seen_by key.read key.order s m) (m q) next.result.slot =
    first-words (seen_by key.read key.order s m) m 1 (level_of (m q)) q next.result.slot (sought-node key.order total (key.read m) s m (key.can_read m) whole root path node slot it.sought above q child)
    (subst (λ (f : g.row.F.Denot). IsSlot (seen_by key.read key.order s (records f)) (node_keys (records f q)) next.result.slot) it.same next.ensures.slot) in
    record {
      same = next.ensures.same ∙ it.same;
      root = it.root;
      words = next.ensures.words ∙ ap (λ (f : g.row.F.Denot). records f q) it.same;
      sought = subst (λ p. Sought key.order total (key.read m) s m (key.can_read m) whole root p q next.result.slot) (sym c.push.ensures)
          (sought-child key.order total (key.read m) s m (key.can_read m) whole root path node slot it.sought above q child next.result.slot first);
    }

pub invariant_of-cursor-2 : goal.invariant_of-cursor-2
invariant_of-cursor-2 g c =
    let records = g.F.Frozen.records in
    let key = g.K.KeyOrder in
    let total = g.met.K.KeyOrder.total in
    let m = records c.args.frozen.now in
    let root = c.args.root in
    let s = key.sought c.args.key.now in
    let whole = tree_pairs m root in
    let it = c.loop-cursor.invariant in
    let leads = it.sought.leads in
    let path = c.loop-cursor.cursor-inside.path in
    let node = c.loop-cursor.node in
    let slot = c.loop-cursor.spot.slot in
    let used = ap used_of it.words in
    let most = step-room m root path node leads in
    omega arith

pub returns-clause-pairs : goal.returns-clause-pairs
returns-clause-pairs g c =
    let records = g.F.Frozen.records in
    let key = g.K.KeyOrder in
    let total = g.met.K.KeyOrder.total in
    let m = records c.args.frozen.now in
    let root = c.args.root in
    let s = key.sought c.args.key.now in
    let whole = tree_pairs m root in
    let it = c.loop-cursor.invariant in
    let leads = it.sought.leads in
    let path = c.loop-cursor.cursor-inside.path in
    let node = c.loop-cursor.node in
    let slot = c.loop-cursor.spot.slot in
    let was = ap level_of it.words in
    let flat : level_of (m node) ≡ 0 = (let test = c.loop-cursor-test.false in omega arith) in
    sought-leaf key.order total (key.read m) s m (key.can_read m) whole root path node slot it.sought flat (used_of c.loop-cursor.cursor-inside.words) c.loop-cursor.cursor-inside.words (ap used_of it.words)
