use Rattle.std.proofs.Common.{◌≡◌, arith, ap}
use Rattle.tree_read.specs.Trees.{tree_pairs}
use Rattle.attr_types.specs.Value.{type_of}
use Rattle.attr_types.specs.declared.kind.ValueType.TheVariants as types
use Rattle.enum_dictionary.proofs.DictionaryLemmas.{dictionary_keyed, of_type, value_there_by, made_out}
use Rattle.enum_dictionary.proofs.changing.remove.Goals as goal

pub remove-requires-in-Text : goal.remove-requires-in-Text
remove-requires-in-Text g c =
    let m = g.S.Frozen.records c.args.store.now in
    let value = c.args.value.now in
    let is : type_of value ≡ types.Text = ap type_of c.in-Text.is in
    let keyed = dictionary_keyed types.Text m c.args.root (of_type types.Text m c.args.root value is c.requires.dictionary) in
    let there = value_there_by types.Text m value c.new-in-Text.result (tree_pairs m c.args.root) is c.new-in-Text.ensures c.requires.there in
    (omega arith, (c.requires.unit, (keyed, (there, c.requires.owns))))

pub returns-in-Long-clause-makes : goal.returns-in-Long-clause-makes
returns-in-Long-clause-makes g c =
    let ledger = g.S.Store.ledger in
    let records = g.S.Frozen.records in
    let s = c.args.store.now in
    let t = c.remove.new.store in
    let is : type_of c.args.value.now ≡ types.Long = ap type_of c.in-Long.is in
    let it = c.remove.ensures in
    made_out types.Long c.args.value.now c.new.result is c.new.ensures (ledger s) (ledger t) (records s) (records t) c.args.root c.remove.result
    it.keyed it.owns it.turns it.pairs

pub returns-in-Text-clause-makes : goal.returns-in-Text-clause-makes
returns-in-Text-clause-makes g c =
    let ledger = g.S.Store.ledger in
    let records = g.S.Frozen.records in
    let s = c.args.store.now in
    let t = c.remove-in-Text.new.store in
    let is : type_of c.args.value.now ≡ types.Text = ap type_of c.in-Text.is in
    let it = c.remove-in-Text.ensures in
    made_out types.Text c.args.value.now c.new-in-Text.result is c.new-in-Text.ensures (ledger s) (ledger t) (records s) (records t) c.args.root c.remove-in-Text.result
    it.keyed it.owns it.turns it.pairs
