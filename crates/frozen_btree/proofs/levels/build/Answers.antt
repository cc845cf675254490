use Rattle.std.proofs.Common.{◌<◌, ◌≤◌, length, arith}
use Rattle.std.specs.List.{zip}
use Rattle.std.proofs.lemmas.Result.{IfOk-weaker}
use Rattle.tree_read.specs.Slots.{slot_pairs}
use Rattle.tree_read.proofs.SlotLemmas.{hand-leaf}
use Rattle.tree_read.proofs.OrderKeyLemmas.{keyed-from, others_kept}
use Rattle.frozen_btree.proofs.BuildLemmas.{built-pairs, built-turns, built-owns}
use Rattle.frozen_btree.proofs.levels.build.Goals as goal

pub build_over-requires : goal.build_over-requires
build_over-requires g c =
    let m = g.S.Frozen.records c.args.store.now in
    let ks = c.args.keys.now in
    let vs = c.args.values.now in
    let some : 0 < 0 → 0 < length ks = (λ above. absurd (omega arith)) in
    let few : 0 < 0 → length (slot_pairs m 0 ks vs) ≤ 31580640 = (λ above. absurd (omega arith)) in
    (omega arith, (c.requires.unit, (omega arith, (hand-leaf m ks vs c.requires.even, (some, few)))))

pub returns-clause-keyed : goal.returns-clause-keyed
returns-clause-keyed g c =
    let ledger = g.S.Store.ledger in
    let records = g.S.Frozen.records in
    let s = c.args.store.now in
    let m = records s in
    let ks = c.args.keys.now in
    let vs = c.args.values.now in
    let t = c.build_over.new.store in
    let keeps = c.build_over.ensures.makes.keeps in
    let k = g.K.KeyOrder in
    IfOk-weaker c.build_over.result _ _ (λ root builds.
    keyed-from k.order k.can_read k.read k.reads_from g.met.K.KeyOrder.stays g.met.K.KeyOrder.steady m (records t) (others_kept m (records t) keeps) root (zip ks vs) builds.node
    (built-pairs (ledger s) (ledger t) m (records t) ks vs root builds keeps (g.met.S.Store.recorded s)) c.requires.readable c.requires.apart c.requires.ascends)
    c.build_over.ensures.builds

pub returns-clause-pairs : goal.returns-clause-pairs
returns-clause-pairs g c =
    let ledger = g.S.Store.ledger in
    let records = g.S.Frozen.records in
    let s = c.args.store.now in
    let m = records s in
    let ks = c.args.keys.now in
    let vs = c.args.values.now in
    let t = c.build_over.new.store in
    let keeps = c.build_over.ensures.makes.keeps in
    IfOk-weaker c.build_over.result _ _ (λ root builds. built-pairs (ledger s) (ledger t) m (records t) ks vs root builds keeps (g.met.S.Store.recorded s)) c.build_over.ensures.builds

pub returns-clause-owns : goal.returns-clause-owns
returns-clause-owns g c =
    let ledger = g.S.Store.ledger in
    let records = g.S.Frozen.records in
    let s = c.args.store.now in
    let m = records s in
    let ks = c.args.keys.now in
    let vs = c.args.values.now in
    let t = c.build_over.new.store in
    let keeps = c.build_over.ensures.makes.keeps in
    IfOk-weaker c.build_over.result _ _ (λ root builds. built-owns (ledger s) (ledger t) m (records t) ks vs root builds keeps (g.met.S.Store.recorded s)) c.build_over.ensures.builds

pub returns-clause-turns : goal.returns-clause-turns
returns-clause-turns g c =
    let ledger = g.S.Store.ledger in
    let records = g.S.Frozen.records in
    let s = c.args.store.now in
    let m = records s in
    let ks = c.args.keys.now in
    let vs = c.args.values.now in
    let t = c.build_over.new.store in
    let keeps = c.build_over.ensures.makes.keeps in
    IfOk-weaker c.build_over.result _ _ (λ root builds. built-turns (ledger s) (ledger t) m (records t) ks vs root builds keeps (g.met.S.Store.recorded s)) c.build_over.ensures.builds

pub returns-clause-stay : goal.returns-clause-stay
returns-clause-stay g c =
    c.build_over.ensures.makes.keeps

pub returns-clause-counts : goal.returns-clause-counts
returns-clause-counts g c =
    c.build_over.ensures.makes.counts

pub returns-clause-may : goal.returns-clause-may
returns-clause-may g c =
    c.build_over.ensures.makes.may
