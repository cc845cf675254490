use Rattle.std.proofs.Common.{◌≡◌, arith, ap}
use Rattle.attr_types.specs.Value.{type_of}
use Rattle.attr_types.specs.declared.kind.ValueType.TheVariants as types
use Rattle.enum_dictionary.proofs.DictionaryLemmas.{of_type}
use Rattle.compaction_steps.proofs.nodes.value_way.Goals as goal

pub way_of-requires-in-Text : goal.way_of-requires-in-Text
way_of-requires-in-Text g c =
    let is : type_of c.args.value.now ≡ types.Text = ap type_of c.in-Text.is in
    let dictionary = of_type types.Text (g.F.Frozen.records c.args.frozen.now) c.args.root c.args.value.now is c.requires.dictionary in
    (omega arith, (dictionary.tree_is, (dictionary.keys, c.requires.some)))
