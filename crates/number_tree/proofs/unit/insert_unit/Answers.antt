use Rattle.std.proofs.Common.{rules, arith, ◌+◌, ◌*◌, ap, subst, ◌∙◌}
use Rattle.tree_read.specs.Trees.{tree_pairs}
use Rattle.tree_read.specs.Pairs.{put}
use Rattle.frozen_btree.specs.Changes.{levels}
use Rattle.frozen_btree.specs.Makes.{CountsNodes}
use Rattle.number_tree.specs.Maps.{beside_number}
use Rattle.number_tree.proofs.HoldLemmas.{number_keyed, begun_owns, begun_tree, ends_last, ends_sizes, is_refusal, holds_next, pairs_next, left_same, holds_still}
use Rattle.number_tree.proofs.unit.insert_unit.Goals as goal

pub insert-requires : goal.insert-requires
insert-requires g c =
    let ledger = g.S.Store.ledger in
    let records = g.S.Frozen.records in
    let s = c.args.store.now in
    let b = c.begin.new.self in
    let owns = begun_owns (ledger s) (ledger b) (ledger b) (ledger b) (records s) (records b) (records b) c.args.root c.requires c.begin.ensures.ledger c.begin.ensures.records in
    let is = begun_tree (ledger s) (ledger b) (ledger b) (ledger b) (records s) (records b) (records b) c.args.root c.requires c.begin.ensures.ledger c.begin.ensures.records in
    (omega arith, (ap (λ l. l.unit) c.begin.ensures.ledger, (number_keyed (records b) c.args.root is, (record { readable = tt; apart = tt; equal = search rules }, owns))))

pub returns-in-Ok-clause-holds : goal.returns-in-Ok-clause-holds
returns-in-Ok-clause-holds g c =
    let ledger = g.S.Store.ledger in
    let records = g.S.Frozen.records in
    let s = c.args.store.now in
    let b = c.begin.new.self in
    let t = c.insert.new.store in
    let u = c.accept.new.self in
    holds_next (ledger s) (ledger b) (ledger t) (ledger u) (records s) (records b) (records u) c.args.root c.requires c.begin.ensures.ledger c.begin.ensures.records c.insert.ensures.may
    (records t) c.in-Ok.next c.in-Ok.ensures.turns c.accept.ensures c.in-Ok.ensures.keyed.tree

pub returns-in-Ok-clause-pairs : goal.returns-in-Ok-clause-pairs
returns-in-Ok-clause-pairs g c =
    let ledger = g.S.Store.ledger in
    let records = g.S.Frozen.records in
    let s = c.args.store.now in
    let b = c.begin.new.self in
    let t = c.insert.new.store in
    let u = c.accept.new.self in
    pairs_next (ledger s) (ledger b) (ledger t) (ledger u) (records s) (records b) (records u) c.args.root c.requires c.begin.ensures.ledger c.begin.ensures.records c.insert.ensures.may
    (records t) c.in-Ok.next c.in-Ok.ensures.turns c.accept.ensures
    ∙ c.in-Ok.ensures.pairs ∙ ap (λ m. put (beside_number c.args.key) (c.args.key, c.args.value) (tree_pairs m c.args.root)) c.begin.ensures.records

pub returns-in-Ok-clause-commits : goal.returns-in-Ok-clause-commits
returns-in-Ok-clause-commits g c =
    let ledger = g.S.Store.ledger in
    let records = g.S.Frozen.records in
    let s = c.args.store.now in
    let b = c.begin.new.self in
    let t = c.insert.new.store in
    let u = c.accept.new.self in
    ends_last (ledger s) (ledger b) (ledger t) (ledger u) (records s) (records b) (records u) c.args.root c.requires c.begin.ensures.ledger c.begin.ensures.records c.insert.ensures.may c.accept.ensures.work

pub returns-in-Ok-clause-sizes : goal.returns-in-Ok-clause-sizes
returns-in-Ok-clause-sizes g c =
    let ledger = g.S.Store.ledger in
    let records = g.S.Frozen.records in
    let s = c.args.store.now in
    let b = c.begin.new.self in
    let t = c.insert.new.store in
    let u = c.accept.new.self in
    ends_sizes (ledger s) (ledger b) (ledger t) (ledger u) (records s) (records b) (records u) c.args.root c.requires c.begin.ensures.ledger c.begin.ensures.records c.insert.ensures.may c.accept.ensures.work

pub returns-in-Err-clause-commits : goal.returns-in-Err-clause-commits
returns-in-Err-clause-commits g c =
    let ledger = g.S.Store.ledger in
    let records = g.S.Frozen.records in
    let s = c.args.store.now in
    let b = c.begin.new.self in
    let t = c.insert.new.store in
    let u = c.undo.new.self in
    ends_last (ledger s) (ledger b) (ledger t) (ledger u) (records s) (records b) (records u) c.args.root c.requires c.begin.ensures.ledger c.begin.ensures.records c.insert.ensures.may c.undo.ensures.work

pub returns-in-Err-clause-sizes : goal.returns-in-Err-clause-sizes
returns-in-Err-clause-sizes g c =
    let ledger = g.S.Store.ledger in
    let records = g.S.Frozen.records in
    let s = c.args.store.now in
    let b = c.begin.new.self in
    let t = c.insert.new.store in
    let u = c.undo.new.self in
    ends_sizes (ledger s) (ledger b) (ledger t) (ledger u) (records s) (records b) (records u) c.args.root c.requires c.begin.ensures.ledger c.begin.ensures.records c.insert.ensures.may c.undo.ensures.work

pub returns-in-Err-clause-still : goal.returns-in-Err-clause-still
returns-in-Err-clause-still g c =
    let ledger = g.S.Store.ledger in
    let records = g.S.Frozen.records in
    let s = c.args.store.now in
    let b = c.begin.new.self in
    let t = c.insert.new.store in
    let u = c.undo.new.self in
    holds_still (ledger s) (ledger b) (ledger t) (ledger u) (records s) (records b) (records u) c.args.root c.requires c.begin.ensures.ledger c.begin.ensures.records c.insert.ensures.may
    (g.met.S.Store.settled s c.requires.unit) c.undo.ensures

pub returns-in-Err-clause-left : goal.returns-in-Err-clause-left
returns-in-Err-clause-left g c =
    let ledger = g.S.Store.ledger in
    let records = g.S.Frozen.records in
    let s = c.args.store.now in
    let b = c.begin.new.self in
    let t = c.insert.new.store in
    let u = c.undo.new.self in
    left_same (ledger s) (ledger b) (ledger t) (ledger u) (records s) (records b) (records u) c.args.root c.requires c.begin.ensures.ledger c.begin.ensures.records c.insert.ensures.may
    (g.met.S.Store.settled s c.requires.unit) c.undo.ensures

pub returns-in-Err-clause-refused : goal.returns-in-Err-clause-refused
returns-in-Err-clause-refused g c =
    let ledger = g.S.Store.ledger in
    let records = g.S.Frozen.records in
    let s = c.args.store.now in
    let b = c.begin.new.self in
    let t = c.insert.new.store in
    let u = c.undo.new.self in
    let counts : CountsNodes (ledger b) (ledger t) (2 * levels (records s) c.args.root + 1) = subst (λ f. CountsNodes (ledger b) (ledger t) (2 * levels f c.args.root + 1)) c.begin.ensures.records c.insert.ensures.counts in
    is_refusal (ledger s) (ledger b) (ledger t) (ledger u) (records s) (records b) (records u) c.args.root c.requires c.begin.ensures.ledger c.begin.ensures.records c.insert.ensures.may
    (2 * levels (records s) c.args.root + 1) _ counts c.in-Err.ensures.refuses c.undo.ensures
