use Rattle.std.proofs.Common.{◌≡◌, [], ◌∷◌, ◌++◌, length, take, get_or, refl, sym, ap, subst, ◌∙◌, arith}
use Rattle.std.proofs.lemmas.List.{take_more, take_all}
use Rattle.frozen_btree.proofs.DropLemmas.{drops-none, drops-more, next_used}
use Rattle.frozen_btree.specs.Changes.{DropsEntries}
use Rattle.frozen_btree.proofs.make_drops.drop_nodes.Goals as goal

pub loop-node-init : goal.loop-node-init
loop-node-init g c = record { drops = drops-none (g.S.Store.ledger c.args.store.now) (g.S.Frozen.records c.args.store.now); none = λ none. refl }

pub drop_entry-requires : goal.drop_entry-requires
drop_entry-requires g c =
    let before = c.loop-node.invariant.drops in (
      omega arith,
      (
        before.may.unit ∙ c.requires.unit,
        next_used (g.S.Store.ledger c.args.store.now) (g.S.Store.ledger c.loop-node.store) (g.S.Frozen.records c.args.store.now) (g.S.Frozen.records c.loop-node.store)
            c.args.nodes.now c.loop-node.node-index c.from_raw.result c.requires.owns c.loop-node-test.true c.from_raw.ensures before,
      ),
    )

pub loop-node-preserved : goal.loop-node-preserved
loop-node-preserved g c =
    let ledger = g.S.Store.ledger in
    let records = g.S.Frozen.records in
    let i = c.loop-node.node-index in
    let q = c.from_raw.result in
    let at : q ≡ get_or c.args.nodes.now i 0 = c.from_raw.ensures in
    let before = c.loop-node.invariant.drops in
    let used = next_used (ledger c.args.store.now) (ledger c.loop-node.store) (records c.args.store.now) (records c.loop-node.store) c.args.nodes.now i q c.requires.owns c.loop-node-test.true at before in
    let more = drops-more (ledger c.args.store.now) (ledger c.loop-node.store) (ledger c.drop_entry.new.self) (records c.args.store.now) (records c.loop-node.store) (records c.drop_entry.new.self)
    (take i c.args.nodes.now) q before used (λ r some. (g.met.S.Store.recorded c.loop-node.store r).1 some) c.drop_entry.ensures.drops c.drop_entry.ensures.may in
    let low = c.loop-node-test.true in
    record {
      drops =
          subst (DropsEntries (ledger c.args.store.now) (ledger c.drop_entry.new.self) (records c.args.store.now) (records c.drop_entry.new.self))
          (ap (λ r. take i c.args.nodes.now ++ r ∷ []) at ∙ sym (take_more c.args.nodes.now i 0 low)) more;
      none = λ none. let size = ap length none in absurd (omega arith);
    }

pub returns-clause-drops : goal.returns-clause-drops
returns-clause-drops g c =
    subst (DropsEntries (g.S.Store.ledger c.args.store.now) (g.S.Store.ledger c.loop-node.store) (g.S.Frozen.records c.args.store.now) (g.S.Frozen.records c.loop-node.store))
    (take_all c.loop-node.node-index c.args.nodes.now (omega arith)) c.loop-node.invariant.drops
