use Rattle.std.proofs.Common.{subst, sym, ◌≤◌, arith}
use Rattle.std.specs.List.{AllByRecursion}
use Rattle.tree_read.specs.Nodes.{level_of, used_of}
use Rattle.tree_read.proofs.ReadLemmas.{node-size, node-room, node-keys-all}
use Rattle.tree_read.proofs.node_search.visit.Goals as goal

pub read_words-requires : goal.read_words-requires
read_words-requires g c =
    let m = g.F.Frozen.records c.args.frozen.now in
    (omega arith, node-size m 1 (level_of (m c.args.node)) c.args.node c.requires.node)

pub keys_in-requires-clause-room : goal.keys_in-requires-clause-room
keys_in-requires-clause-room g c =
    let m = g.F.Frozen.records c.args.frozen.now in
    subst (λ ws. used_of ws ≤ 16) (sym c.read_words.ensures.words) (node-room m 1 (level_of (m c.args.node)) c.args.node c.requires.node)

pub first_slot-requires : goal.first_slot-requires
first_slot-requires g c =
    let m = g.F.Frozen.records c.args.frozen.now in
    let can = g.K.KeyOrder.can_read m in
    let all = node-keys-all m 1 (level_of (m c.args.node)) c.args.node c.requires.node can c.requires.readable in
    subst (λ (f : g.row.F.Denot). AllByRecursion (g.K.KeyOrder.can_read (g.F.Frozen.records f)) c.keys_in.result.now) (sym c.read_words.ensures.same)
    (rw c.keys_in.ensures (rw c.read_words.ensures.words all))
