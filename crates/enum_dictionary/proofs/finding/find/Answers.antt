use Rattle.std.proofs.Common.{arith, sym}
use Rattle.attr_types.specs.Value.{type_of}
use Rattle.tree_read.specs.Trees.{tree_pairs}
use Rattle.unique_store.proofs.RecordLemmas.{value_there}
use Rattle.enum_dictionary.specs.Dictionaries.{beside_value}
use Rattle.enum_dictionary.proofs.DictionaryLemmas.{found_key}
use Rattle.enum_dictionary.proofs.finding.find.Goals as goal

pub overflow_cast-key : goal.overflow_cast-key
overflow_cast-key g c =
    let frozen = c.args.frozen.now in
    let m = g.F.Frozen.records frozen in
    let value = c.args.value.now in
    let key = c.in-Some.key in
    let is = found_key (type_of value) m (beside_value value m) (tree_pairs m c.args.root) c.requires.keys (key, c.in-Some.posting) (sym c.in-Some.ensures.pair) in
    let below = g.met.F.Frozen.references frozen key (omega (arith, value_there (type_of value) (m key) is)) in
    omega arith
