use Rattle.std.proofs.Common.{◌<◌, ◌≡◌, ◌+◌, ◌≤◌, ◌++◌, ◌∷◌, [], ℕ, List, length, take, arith, sym, ap, subst, ◌∙◌}
use Rattle.std.proofs.lemmas.List.{take_all, take_more}
use Rattle.entry_ref.specs.Records.{HasWord, word_at}
use Rattle.tree_read.specs.Nodes.{used_of, node_keys}
use Rattle.tree_read.proofs.ChildLemmas.{get_or-node_keys, keys-length, slot-key}
use Rattle.tree_read.proofs.ReadLemmas.{node-size, node-room}
use Rattle.tree_read.proofs.SearchKeyLemmas.{leaf-keys}
use Rattle.tree_read.proofs.keys.take_leaf.Goals as goal

pub start_of-start-requires : goal.start_of-start-requires
start_of-start-requires g c =
    let size = node-size (g.F.Frozen.records c.args.frozen.now) 1 0 c.args.leaf c.requires.node in
    (omega arith, (omega (arith, size), size))

pub read_used-slot-end-requires : goal.read_used-slot-end-requires
read_used-slot-end-requires g c =
    let size = node-size (g.F.Frozen.records c.args.frozen.now) 1 0 c.args.leaf c.requires.node in (
      omega arith,
      subst (λ (f : g.row.F.Denot). (length (g.F.Frozen.records f c.args.leaf) ≡ 34) × (c.start_of-start.result ≡ g.F.Frozen.begins f c.args.leaf))
          (sym c.start_of-start.ensures.same) (size, c.start_of-start.ensures.start),
    )

pub word_from-key-requires : goal.word_from-key-requires
word_from-key-requires g c =
    let records = g.F.Frozen.records in
    let m = records c.args.frozen.now in
    let leaf = c.args.leaf in
    let slot = c.loop-slot.slot in
    let size = node-size m 1 0 leaf c.requires.node in
    let room = node-room m 1 0 leaf c.requires.node in
    let used = c.read_used-slot-end.ensures.used ∙ ap (λ (f : g.row.F.Denot). used_of (records f leaf)) c.start_of-start.ensures.same in
    let low : slot < used_of (m leaf) = subst (λ (n : ℕ). slot < n) used c.loop-slot-test.true in (
      omega arith,
      subst (λ (f : g.row.F.Denot). HasWord (records f) leaf (2 + slot) × (c.start_of-start.result ≡ g.F.Frozen.begins f leaf))
          (sym c.loop-slot.invariant.same) (omega (arith, size, room, low), c.start_of-start.ensures.start),
    )

pub take-requires : goal.take-requires
take-requires g c =
    let records = g.F.Frozen.records in
    let m = records c.args.frozen.now in
    let leaf = c.args.leaf in
    let slot = c.loop-slot.slot in
    let used = c.read_used-slot-end.ensures.used ∙ ap (λ (f : g.row.F.Denot). used_of (records f leaf)) c.start_of-start.ensures.same in
    let low : slot < used_of (m leaf) = subst (λ (n : ℕ). slot < n) used c.loop-slot-test.true in
    let key = c.word_from-key.ensures.value ∙ ap (λ (f : g.row.F.Denot). word_at (records f) leaf (2 + slot)) c.loop-slot.invariant.same in
    subst g.T.TakesKeys.can_take (sym key) (slot-key g.T.TakesKeys.can_take m 1 0 leaf slot c.requires.node c.requires.keys low)

pub loop-slot-preserved : goal.loop-slot-preserved
loop-slot-preserved g c =
    let records = g.F.Frozen.records in
    let m = records c.args.frozen.now in
    let leaf = c.args.leaf in
    let slot = c.loop-slot.slot in
    let it = c.loop-slot.invariant in
    let keys = node_keys (m leaf) in
    let used = c.read_used-slot-end.ensures.used ∙ ap (λ (f : g.row.F.Denot). used_of (records f leaf)) c.start_of-start.ensures.same in
    let low : slot < used_of (m leaf) = subst (λ (n : ℕ). slot < n) used c.loop-slot-test.true in
    let key = c.word_from-key.ensures.value ∙ ap (λ (f : g.row.F.Denot). word_at (records f) leaf (2 + slot)) it.same in
    let inside : slot < length keys = (let size = keys-length m 1 0 leaf c.requires.node in omega (arith, size, low)) in
    let more : take (slot + 1) keys ≡ take slot keys ++ (c.word_from-key.result ∷ []) =
    take_more keys slot 0 inside ∙ ap (λ (k : ℕ). take slot keys ++ (k ∷ [])) (get_or-node_keys (m leaf) slot low ∙ sym key) in
    record {
      same = c.word_from-key.ensures.same ∙ it.same;
      takes = subst (λ (ks : List ℕ). g.T.TakesKeys.takes c.args.taker.now ks c.take.new.self) (sym more)
          (g.met.T.TakesKeys.joins c.args.taker.now c.loop-slot.taker c.take.new.self _ _ it.takes c.in_ok-take.ensures);
    }

pub returns-clause-takes : goal.returns-clause-takes
returns-clause-takes g c =
    let records = g.F.Frozen.records in
    let m = records c.args.frozen.now in
    let leaf = c.args.leaf in
    let slot = c.loop-slot.slot in
    let used = c.read_used-slot-end.ensures.used ∙ ap (λ (f : g.row.F.Denot). used_of (records f leaf)) c.start_of-start.ensures.same in
    let high : length (node_keys (m leaf)) ≤ slot =
    (let size = keys-length m 1 0 leaf c.requires.node in let test = c.loop-slot-test.false in omega arith) in
    subst (λ (ks : List ℕ). g.T.TakesKeys.takes c.args.taker.now ks c.loop-slot.taker)
    (take_all slot (node_keys (m leaf)) high ∙ sym (leaf-keys m leaf c.requires.node)) c.loop-slot.invariant.takes
