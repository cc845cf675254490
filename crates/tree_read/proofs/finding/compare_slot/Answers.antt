use Rattle.std.proofs.Common.{◌≡◌, ◌+◌, ◌<◌, sym, ap, subst, ◌∙◌, arith}
use Rattle.entry_ref.specs.Records.{word_at}
use Rattle.tree_read.specs.Nodes.{level_of, used_of}
use Rattle.tree_read.specs.Keys.{seen_by}
use Rattle.tree_read.proofs.ChildLemmas.{keys-length, slot-key, get_or-node_keys}
use Rattle.tree_read.proofs.ReadLemmas.{node-room, node-size}
use Rattle.tree_read.proofs.finding.compare_slot.Goals as goal

pub word_from-stored-requires : goal.word_from-stored-requires
word_from-stored-requires g c =
    let m = g.F.Frozen.records c.args.frozen.now in
    let node = c.args.node in
    let size = keys-length m 1 (level_of (m node)) node c.requires.node in
    let room = node-room m 1 (level_of (m node)) node c.requires.node in
    let asked = c.requires.slot in
    let wide = node-size m 1 (level_of (m node)) node c.requires.node in
    (omega arith, (omega (arith, wide, size, room, asked), c.requires.start))

pub compare-requires : goal.compare-requires
compare-requires g c =
    let records = g.F.Frozen.records in
    let can = g.K.KeyOrder.can_read in
    let m = records c.args.frozen.now in
    let node = c.args.node in
    let slot = c.args.slot in
    let size = keys-length m 1 (level_of (m node)) node c.requires.node in
    let asked = c.requires.slot in
    let low : slot < used_of (m node) = omega arith in
    let stored : c.word_from-stored.result ≡ word_at m node (2 + slot) = c.word_from-stored.ensures.value in
    let key : can m (word_at m node (2 + slot)) = slot-key (can m) m 1 (level_of (m node)) node slot c.requires.node c.requires.readable low in
    subst (λ (f : g.row.F.Denot). can (records f) c.word_from-stored.result) (sym c.word_from-stored.ensures.same) (subst (can m) (sym stored) key)

pub returns-clause-answer : goal.returns-clause-answer
returns-clause-answer g c =
    let records = g.F.Frozen.records in
    let key = g.K.KeyOrder in
    let m = records c.args.frozen.now in
    let node = c.args.node in
    let slot = c.args.slot in
    let size = keys-length m 1 (level_of (m node)) node c.requires.node in
    let asked = c.requires.slot in
    let low : slot < used_of (m node) = omega arith in
    let sought = key.sought c.args.key.now in
    let stored : c.word_from-stored.result ≡ word_at m node (2 + slot) = c.word_from-stored.ensures.value in
    c.compare.ensures.answer
    ∙ ap (λ (f : g.row.F.Denot). seen_by key.read key.order sought (records f) c.word_from-stored.result) c.word_from-stored.ensures.same
    ∙ ap (seen_by key.read key.order sought m) (stored ∙ sym (get_or-node_keys (m node) slot low))
