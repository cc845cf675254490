use Rattle.std.proofs.Common.{◌≡◌, arith, ap}
use Rattle.frozen_btree.proofs.UsedLemmas.{node_used}
use Rattle.frozen_btree.proofs.MakesLemmas.{counts-none}
use Rattle.store_api.proofs.May.{may_do-same}
use Rattle.frozen_btree.specs.Changes.{levels}
use Rattle.frozen_btree.proofs.Results.{is_valid, not_valid, on_err}
use Rattle.attr_types.specs.Value.{type_of}
use Rattle.attr_types.specs.declared.kind.ValueType.TheVariants as types
use Rattle.enum_dictionary.proofs.DictionaryLemmas.{dictionary_keyed, of_type}
use Rattle.compaction_moves.proofs.IndexNodeLemmas.{nodes_moved_by, nodes_owned, nodes_unmoved}
use Rattle.compaction_moves.proofs.index_nodes.move_nodes.Goals as goal

pub returns-then-not-valid-clause-moves : goal.returns-then-not-valid-clause-moves
returns-then-not-valid-clause-moves g c =
    let a = g.S.Store.ledger c.args.store.now in
    let m = g.S.Frozen.records c.args.store.now in
    let root = c.args.root in
    nodes_unmoved g.row.OFFSET_BITS c.args.buffer c.args.value.now a m root c.requires.index c.requires.owns (not_valid c.valid.result root c.valid.ensures.1 c.if-not-valid.true)

pub returns-then-not-valid-clause-counts : goal.returns-then-not-valid-clause-counts
returns-then-not-valid-clause-counts g c = counts-none (g.S.Store.ledger c.args.store.now) (levels (g.S.Frozen.records c.args.store.now) c.args.root)

pub returns-then-not-valid-clause-may : goal.returns-then-not-valid-clause-may
returns-then-not-valid-clause-may g c = may_do-same (g.S.Store.ledger c.args.store.now)

pub touch-requires : goal.touch-requires
touch-requires g c =
    let a = g.S.Store.ledger c.args.store.now in
    let m = g.S.Frozen.records c.args.store.now in
    let value = c.args.value.now in
    let is : type_of value ≡ types.Long = ap type_of c.in-Long.is in
    let keyed = dictionary_keyed types.Long m c.args.root (of_type types.Long m c.args.root value is c.requires.index.dictionary_is) in
    let owned = nodes_owned g.row.OFFSET_BITS c.args.buffer types.Long value c.new.result is c.new.ensures a a m m c.args.root c.requires.index c.requires.owns in
    (omega arith, (c.requires.unit, (c.requires.sealed, (keyed, owned))))

pub touch-requires-in-Text : goal.touch-requires-in-Text
touch-requires-in-Text g c =
    let a = g.S.Store.ledger c.args.store.now in
    let m = g.S.Frozen.records c.args.store.now in
    let value = c.args.value.now in
    let is : type_of value ≡ types.Text = ap type_of c.in-Text.is in
    let keyed = dictionary_keyed types.Text m c.args.root (of_type types.Text m c.args.root value is c.requires.index.dictionary_is) in
    let owned = nodes_owned g.row.OFFSET_BITS c.args.buffer types.Text value c.new-in-Text.result is c.new-in-Text.ensures a a m m c.args.root c.requires.index c.requires.owns in
    (omega arith, (c.requires.unit, (c.requires.sealed, (keyed, owned))))

pub returns-in-Long-clause-moves : goal.returns-in-Long-clause-moves
returns-in-Long-clause-moves g c =
    let ledger = g.S.Store.ledger in
    let records = g.S.Frozen.records in
    let s = c.args.store.now in
    let t = c.touch.new.store in
    let is : type_of c.args.value.now ≡ types.Long = ap type_of c.in-Long.is in
    let it = c.touch.ensures in
    nodes_moved_by g.row.OFFSET_BITS c.args.buffer types.Long c.args.value.now c.new.result is c.new.ensures (ledger s) (ledger t) (records s) (records t) c.args.root
    c.requires.index c.requires.owns c.touch.result it.keyed it.pairs it.apart it.turns

pub returns-in-Text-clause-moves : goal.returns-in-Text-clause-moves
returns-in-Text-clause-moves g c =
    let ledger = g.S.Store.ledger in
    let records = g.S.Frozen.records in
    let s = c.args.store.now in
    let t = c.touch-in-Text.new.store in
    let is : type_of c.args.value.now ≡ types.Text = ap type_of c.in-Text.is in
    let it = c.touch-in-Text.ensures in
    nodes_moved_by g.row.OFFSET_BITS c.args.buffer types.Text c.args.value.now c.new-in-Text.result is c.new-in-Text.ensures (ledger s) (ledger t) (records s) (records t) c.args.root
    c.requires.index c.requires.owns c.touch-in-Text.result it.keyed it.pairs it.apart it.turns

pub returns-in-Long-clause-used : goal.returns-in-Long-clause-used
returns-in-Long-clause-used g c =
    let a = g.S.Store.ledger c.args.store.now in
    let m = g.S.Frozen.records c.args.store.now in
    let root = c.args.root in
    let value = c.args.value.now in
    let is : type_of value ≡ types.Long = ap type_of c.in-Long.is in
    let owned = nodes_owned g.row.OFFSET_BITS c.args.buffer types.Long value c.new.result is c.new.ensures a a m m root c.requires.index c.requires.owns in
    on_err c.touch.result (node_used a m root c.requires.index.dictionary_is.tree_is.node (is_valid c.valid.result root c.valid.ensures.0 c.if-not-valid.false) owned)

pub returns-in-Text-clause-used : goal.returns-in-Text-clause-used
returns-in-Text-clause-used g c =
    let a = g.S.Store.ledger c.args.store.now in
    let m = g.S.Frozen.records c.args.store.now in
    let root = c.args.root in
    let value = c.args.value.now in
    let is : type_of value ≡ types.Text = ap type_of c.in-Text.is in
    let owned = nodes_owned g.row.OFFSET_BITS c.args.buffer types.Text value c.new-in-Text.result is c.new-in-Text.ensures a a m m root c.requires.index c.requires.owns in
    on_err c.touch-in-Text.result (node_used a m root c.requires.index.dictionary_is.tree_is.node (is_valid c.valid.result root c.valid.ensures.0 c.if-not-valid.false) owned)
