use Rattle.std.proofs.Common.{◌<◌, length, rules, ◌≡◌, ◌-◌, ◌+◌, ◌^◌, ℕ, List, suc, refl, take, arith, sym, ap, subst, ◌∙◌}
use Rattle.std.specs.List.{flat_map}
use Rattle.std.specs.Map.{keys_of}
use Rattle.entry_ref.specs.Records.{HasWord, word_at}
use Rattle.tree_read.specs.Nodes.{used_of, node_values}
use Rattle.tree_read.specs.Trees.{pairs_below}
use Rattle.tree_read.proofs.ReadLemmas.{node-size, node-room}
use Rattle.tree_read.proofs.SearchKeyLemmas.{child-asks, slot-some, keys-more, keys-past}
use Rattle.tree_read.proofs.keys.+take_below.Goals as goal
use Rattle.tree_read.proofs.keys.+take_below.Goals.{then-below-eq0+in_ok-take_leaf, else-below-eq0+in_ok-take_below}

pub start_of-start-requires : goal.start_of-start-requires
start_of-start-requires g t c =
    let size = node-size (g.F.Frozen.records c.args.frozen.now) 1 (suc c.args.below) c.args.node c.requires.node in
    (omega arith, (omega (arith, size), size))

pub read_used-slot-end-requires : goal.read_used-slot-end-requires
read_used-slot-end-requires g t c =
    let size = node-size (g.F.Frozen.records c.args.frozen.now) 1 (suc c.args.below) c.args.node c.requires.node in (
      omega arith,
      subst (λ (f : g.row.F.Denot). (length (g.F.Frozen.records f c.args.node) ≡ 34) × (c.start_of-start.result ≡ g.F.Frozen.begins f c.args.node))
          (sym c.start_of-start.ensures.same) (size, c.start_of-start.ensures.start),
    )

pub word_from-stored-requires : goal.word_from-stored-requires
word_from-stored-requires g t c =
    let records = g.F.Frozen.records in
    let m = records c.args.frozen.now in
    let node = c.args.node in
    let slot = c.loop-slot.slot in
    let below = c.args.below in
    let it = c.loop-slot.invariant in
    let used = c.read_used-slot-end.ensures.used ∙ ap (λ (f : g.row.F.Denot). used_of (records f node)) c.start_of-start.ensures.same in
    let low : slot < used_of (m node) = subst (λ (n : ℕ). slot < n) used c.loop-slot-test.true in
    let size = node-size m 1 (suc below) node c.requires.node in
    let room = node-room m 1 (suc below) node c.requires.node in (
      omega arith,
      subst (λ (f : g.row.F.Denot). HasWord (records f) node (18 + slot) × (c.start_of-start.result ≡ g.F.Frozen.begins f node))
          (sym it.same) (omega (arith, size, room, low), c.start_of-start.ensures.start),
    )

pub overflow_cast-stored : goal.overflow_cast-stored
overflow_cast-stored g t c =
    let records = g.F.Frozen.records in
    let m = records c.args.frozen.now in
    let node = c.args.node in
    let slot = c.loop-slot.slot in
    let below = c.args.below in
    let it = c.loop-slot.invariant in
    let used = c.read_used-slot-end.ensures.used ∙ ap (λ (f : g.row.F.Denot). used_of (records f node)) c.start_of-start.ensures.same in
    let low : slot < used_of (m node) = subst (λ (n : ℕ). slot < n) used c.loop-slot-test.true in
    let stored : c.word_from-stored.result ≡ word_at m node (18 + slot) =
    c.word_from-stored.ensures.value ∙ ap (λ (f : g.row.F.Denot). word_at (records f) node (18 + slot)) it.same in
    let q = word_at m node (18 + slot) in
    let small : q < 2 ^ 32 = g.met.F.Frozen.references c.args.frozen.now q (slot-some m (suc below) below node refl c.requires.node slot low) in
    omega arith

pub take_leaf-requires : goal.take_leaf-requires
take_leaf-requires g t c =
    let records = g.F.Frozen.records in
    let m = records c.args.frozen.now in
    let node = c.args.node in
    let slot = c.loop-slot.slot in
    let below = c.args.below in
    let it = c.loop-slot.invariant in
    let used = c.read_used-slot-end.ensures.used ∙ ap (λ (f : g.row.F.Denot). used_of (records f node)) c.start_of-start.ensures.same in
    let low : slot < used_of (m node) = subst (λ (n : ℕ). slot < n) used c.loop-slot-test.true in
    let stored : c.word_from-stored.result ≡ word_at m node (18 + slot) =
    c.word_from-stored.ensures.value ∙ ap (λ (f : g.row.F.Denot). word_at (records f) node (18 + slot)) it.same in
    let child : c.from_raw-child.result ≡ word_at m node (18 + slot) = c.from_raw-child.ensures ∙ stored in
    let same = c.word_from-stored.ensures.same ∙ it.same in (
      omega arith,
      child-asks records m c.word_from-stored.new.self (ap records same) g.T.TakesKeys.can_take below 0 c.if-below-eq0.true node slot c.from_raw-child.result
          child low c.requires.node c.requires.keys,
    )

pub take_below-requires : goal.take_below-requires
take_below-requires g t c κs within =
    let records = g.F.Frozen.records in
    let m = records c.args.frozen.now in
    let node = c.args.node in
    let slot = c.loop-slot.slot in
    let below = c.args.below in
    let it = c.loop-slot.invariant in
    let used = c.read_used-slot-end.ensures.used ∙ ap (λ (f : g.row.F.Denot). used_of (records f node)) c.start_of-start.ensures.same in
    let low : slot < used_of (m node) = subst (λ (n : ℕ). slot < n) used c.loop-slot-test.true in
    let stored : c.word_from-stored.result ≡ word_at m node (18 + slot) =
    c.word_from-stored.ensures.value ∙ ap (λ (f : g.row.F.Denot). word_at (records f) node (18 + slot)) it.same in
    let child : c.from_raw-child.result ≡ word_at m node (18 + slot) = c.from_raw-child.ensures ∙ stored in
    let same = c.word_from-stored.ensures.same ∙ it.same in
    let some : below ≡ suc (below - 1) = (let test = c.if-below-eq0.false in omega arith) in (
      omega (arith, some, c.decreases),
      (
        search rules,
        (
          within.0,
          (
            within.1,
            (
              omega arith,
              child-asks records m c.word_from-stored.new.self (ap records same) g.T.TakesKeys.can_take below (suc (below - 1)) some node slot
                  c.from_raw-child.result child low c.requires.node c.requires.keys,
            ),
          ),
        ),
      ),
    )

pub loop-slot-preserved : goal.loop-slot-preserved
loop-slot-preserved g t c =
    let records = g.F.Frozen.records in
    let m = records c.args.frozen.now in
    let node = c.args.node in
    let slot = c.loop-slot.slot in
    let below = c.args.below in
    let it = c.loop-slot.invariant in
    let used = c.read_used-slot-end.ensures.used ∙ ap (λ (f : g.row.F.Denot). used_of (records f node)) c.start_of-start.ensures.same in
    let low : slot < used_of (m node) = subst (λ (n : ℕ). slot < n) used c.loop-slot-test.true in
    let stored : c.word_from-stored.result ≡ word_at m node (18 + slot) =
    c.word_from-stored.ensures.value ∙ ap (λ (f : g.row.F.Denot). word_at (records f) node (18 + slot)) it.same in
    let child : c.from_raw-child.result ≡ word_at m node (18 + slot) = c.from_raw-child.ensures ∙ stored in
    let same = c.word_from-stored.ensures.same ∙ it.same in
    let more : (l : ℕ) → below ≡ l → (b : g.row.T.Denot)
    → g.T.TakesKeys.takes c.loop-slot.taker (keys_of (pairs_below (records c.word_from-stored.new.self) l c.from_raw-child.result)) b
    → g.T.TakesKeys.takes c.args.taker.now (keys_of (flat_map (pairs_below m below) (take (slot + 1) (node_values (m node))))) b =
    λ l is b taken.
    subst (λ (ks : List ℕ). g.T.TakesKeys.takes c.args.taker.now ks b)
    (sym (keys-more m (suc below) below node refl c.requires.node slot (slot + 1) (omega arith) low))
    (g.met.T.TakesKeys.joins c.args.taker.now c.loop-slot.taker b _ _ it.takes
    (subst (λ (ks : List ℕ). g.T.TakesKeys.takes c.loop-slot.taker ks b)
    (ap (λ (f : g.row.F.Denot). keys_of (pairs_below (records f) l c.from_raw-child.result)) same ∙ ap (λ (q : ℕ). keys_of (pairs_below m l q)) child
    ∙ ap (λ (k : ℕ). keys_of (pairs_below m k (word_at m node (18 + slot)))) (sym is)) taken)) in
    elim c.if-below-eq0.branch [
      | then-below-eq0+in_ok-take_leaf w ↦
          record {
            same = w.frozen-is ∙ (w.take_leaf.ensures.same ∙ same);
            takes = subst (λ (b : g.row.T.Denot). g.T.TakesKeys.takes c.args.taker.now
                (keys_of (flat_map (pairs_below m below) (take (slot + 1) (node_values (m node))))) b) (sym w.taker-is)
                (more 0 w.if-below-eq0.true w.take_leaf.new.taker w.in_ok-take_leaf.ensures.takes);
          }
      | else-below-eq0+in_ok-take_below w ↦
          record {
            same = w.frozen-is ∙ (w.take_below.ensures.same ∙ same);
            takes = subst (λ (b : g.row.T.Denot). g.T.TakesKeys.takes c.args.taker.now
                (keys_of (flat_map (pairs_below m below) (take (slot + 1) (node_values (m node))))) b) (sym w.taker-is)
                (more (suc (below - 1)) (let test = w.if-below-eq0.false in omega arith) w.take_below.new.taker w.in_ok-take_below.ensures.takes);
          }
    ]

pub returns-clause-takes : goal.returns-clause-takes
returns-clause-takes g t c =
    let records = g.F.Frozen.records in
    let m = records c.args.frozen.now in
    let node = c.args.node in
    let slot = c.loop-slot.slot in
    let below = c.args.below in
    let it = c.loop-slot.invariant in
    let used = c.read_used-slot-end.ensures.used ∙ ap (λ (f : g.row.F.Denot). used_of (records f node)) c.start_of-start.ensures.same in
    subst (λ (ks : List ℕ). g.T.TakesKeys.takes c.args.taker.now ks c.loop-slot.taker)
    (keys-past m (suc below) below node refl c.requires.node slot (let test = c.loop-slot-test.false in omega arith)) it.takes
