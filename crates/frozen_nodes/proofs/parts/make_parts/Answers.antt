use Rattle.std.proofs.Common.{◌≡◌, length, arith}
use Rattle.frozen_nodes.proofs.MakesLemmas.{makes-then}
use Rattle.frozen_nodes.proofs.PartsLemmas.{IsSplit, first-hand, first-few, second-hand, second-few, two_made}
use Rattle.frozen_nodes.proofs.parts.make_parts.Goals as goal

pub make_part-requires-2-clause-hand : goal.make_part-requires-2-clause-hand
make_part-requires-2-clause-hand g c =
    let m = g.S.Frozen.records c.args.store.now in
    let slots = c.args.slots.now in
    let left = c.split-rest.new.slots in
    let rest = c.split-rest.result in
    let e = c.split-rest.ensures in
    let split : IsSplit slots.level slots.keys.items slots.values.items left.level left.keys.items left.values.items rest.level rest.keys.items rest.values.items =
    record { first_level = e.level_left; first_keys = e.keys_left; first_values = e.values_left; second_level = e.level; second_keys = e.keys; second_values = e.values } in
    first-hand m slots.level slots.keys.items slots.values.items left.level left.keys.items left.values.items rest.level rest.keys.items rest.values.items split c.requires.hand

pub make_part-requires-2-clause-few : goal.make_part-requires-2-clause-few
make_part-requires-2-clause-few g c =
    let m = g.S.Frozen.records c.args.store.now in
    let slots = c.args.slots.now in
    let left = c.split-rest.new.slots in
    let rest = c.split-rest.result in
    let e = c.split-rest.ensures in
    let split : IsSplit slots.level slots.keys.items slots.values.items left.level left.keys.items left.values.items rest.level rest.keys.items rest.values.items =
    record { first_level = e.level_left; first_keys = e.keys_left; first_values = e.values_left; second_level = e.level; second_keys = e.keys; second_values = e.values } in
    first-few m slots.level slots.keys.items slots.values.items left.level left.keys.items left.values.items rest.level rest.keys.items rest.values.items split c.requires.hand c.requires.few

pub make_part-requires-3-clause-hand : goal.make_part-requires-3-clause-hand
make_part-requires-3-clause-hand g c =
    let m = g.S.Frozen.records c.args.store.now in
    let slots = c.args.slots.now in
    let left = c.split-rest.new.slots in
    let rest = c.split-rest.result in
    let e = c.split-rest.ensures in
    let split : IsSplit slots.level slots.keys.items slots.values.items left.level left.keys.items left.values.items rest.level rest.keys.items rest.values.items =
    record { first_level = e.level_left; first_keys = e.keys_left; first_values = e.values_left; second_level = e.level; second_keys = e.keys; second_values = e.values } in
    second-hand m slots.level slots.keys.items slots.values.items left.level left.keys.items left.values.items rest.level rest.keys.items rest.values.items split c.requires.hand
    (g.S.Frozen.records c.make_part-2.new.store) c.in_ok-first.ensures.makes.node.makes.keeps

pub make_part-requires-3-clause-few : goal.make_part-requires-3-clause-few
make_part-requires-3-clause-few g c =
    let m = g.S.Frozen.records c.args.store.now in
    let slots = c.args.slots.now in
    let left = c.split-rest.new.slots in
    let rest = c.split-rest.result in
    let e = c.split-rest.ensures in
    let split : IsSplit slots.level slots.keys.items slots.values.items left.level left.keys.items left.values.items rest.level rest.keys.items rest.values.items =
    record { first_level = e.level_left; first_keys = e.keys_left; first_values = e.values_left; second_level = e.level; second_keys = e.keys; second_values = e.values } in
    second-few m slots.level slots.keys.items slots.values.items left.level left.keys.items left.values.items rest.level rest.keys.items rest.values.items split c.requires.hand
    (g.S.Frozen.records c.make_part-2.new.store) c.in_ok-first.ensures.makes.node.makes.keeps c.requires.few

pub returns-clause-parts : goal.returns-clause-parts
returns-clause-parts g c =
    let m = g.S.Frozen.records c.args.store.now in
    let slots = c.args.slots.now in
    let left = c.split-rest.new.slots in
    let rest = c.split-rest.result in
    let e = c.split-rest.ensures in
    let split : IsSplit slots.level slots.keys.items slots.values.items left.level left.keys.items left.values.items rest.level rest.keys.items rest.values.items =
    record { first_level = e.level_left; first_keys = e.keys_left; first_values = e.values_left; second_level = e.level; second_keys = e.keys; second_values = e.values } in
    let fits = c.requires.fits in
    let more = c.if-len-le-MOST_SLOTS.false in
    let size : c.len.result ≡ length slots.keys.items = c.len.ensures.value in
    let full : length slots.keys.items ≡ 17 = omega arith in
    two_made m slots.level slots.keys.items slots.values.items left.level left.keys.items left.values.items rest.level rest.keys.items rest.values.items split c.requires.hand
    (g.S.Store.ledger c.args.store.now) (g.S.Store.ledger c.make_part-2.new.store) (g.S.Store.ledger c.make_part-3.new.store)
    (g.S.Frozen.records c.make_part-2.new.store) (g.S.Frozen.records c.make_part-3.new.store) c.in_ok-first.first c.in_ok-second.second full
    c.in_ok-first.ensures.makes c.in_ok-second.ensures.makes

pub returns-in_err-second-clause-makes : goal.returns-in_err-second-clause-makes
returns-in_err-second-clause-makes g c =
    let ledger = g.S.Store.ledger in
    let records = g.S.Frozen.records in
    let s = c.args.store.now in
    let t = c.make_part-2.new.store in
    let u = c.make_part-3.new.store in
    makes-then (ledger s) (ledger t) (ledger u) (records s) (records t) (records u) 1 1 2 (omega arith) c.make_part-2.ensures.nodes c.make_part-3.ensures.nodes

pub returns-clause-makes : goal.returns-clause-makes
returns-clause-makes g c =
    let ledger = g.S.Store.ledger in
    let records = g.S.Frozen.records in
    let s = c.args.store.now in
    let t = c.make_part-2.new.store in
    let u = c.make_part-3.new.store in
    makes-then (ledger s) (ledger t) (ledger u) (records s) (records t) (records u) 1 1 2 (omega arith) c.make_part-2.ensures.nodes c.make_part-3.ensures.nodes
