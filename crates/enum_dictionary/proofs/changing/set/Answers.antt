use Rattle.std.proofs.Common.{◌≡◌, arith, ap}
use Rattle.attr_types.specs.Value.{type_of}
use Rattle.attr_types.specs.declared.kind.ValueType.TheVariants as types
use Rattle.enum_dictionary.proofs.DictionaryLemmas.{dictionary_keyed, of_type, value_word, made_put}
use Rattle.enum_dictionary.proofs.changing.set.Goals as goal

pub insert-requires-in-Text : goal.insert-requires-in-Text
insert-requires-in-Text g c =
    let m = g.S.Frozen.records c.args.store.now in
    let value = c.args.value.now in
    let is : type_of value ≡ types.Text = ap type_of c.in-Text.is in
    let keyed = dictionary_keyed types.Text m c.args.root (of_type types.Text m c.args.root value is c.requires.dictionary) in
    let word = value_word types.Text m value c.new-in-Text.result c.args.value_ref c.raw-word.result is c.new-in-Text.ensures c.raw-word.ensures c.requires.record c.requires.reads in
    (omega arith, (c.requires.unit, (keyed, (word, c.requires.owns))))

pub returns-in-Long-clause-makes : goal.returns-in-Long-clause-makes
returns-in-Long-clause-makes g c =
    let ledger = g.S.Store.ledger in
    let records = g.S.Frozen.records in
    let s = c.args.store.now in
    let t = c.insert.new.store in
    let is : type_of c.args.value.now ≡ types.Long = ap type_of c.in-Long.is in
    let it = c.insert.ensures in
    made_put types.Long c.args.value.now c.new.result is c.new.ensures (ledger s) (ledger t) (records s) (records t) c.args.root c.insert.result
    it.keyed it.owns it.turns c.raw-word.result c.args.value_ref c.args.posting c.raw-word.ensures it.pairs

pub returns-in-Text-clause-makes : goal.returns-in-Text-clause-makes
returns-in-Text-clause-makes g c =
    let ledger = g.S.Store.ledger in
    let records = g.S.Frozen.records in
    let s = c.args.store.now in
    let t = c.insert-in-Text.new.store in
    let is : type_of c.args.value.now ≡ types.Text = ap type_of c.in-Text.is in
    let it = c.insert-in-Text.ensures in
    made_put types.Text c.args.value.now c.new-in-Text.result is c.new-in-Text.ensures (ledger s) (ledger t) (records s) (records t) c.args.root c.insert-in-Text.result
    it.keyed it.owns it.turns c.raw-word.result c.args.value_ref c.args.posting c.raw-word.ensures it.pairs
