use Rattle.std.proofs.Common.{Some, true≢false, refl, sym, ◌∙◌, arith}
use Rattle.std.proofs.lemmas.Bool.{eqb-true, eqb-false}
use Rattle.tree_read.specs.Pairs.{lookup_pair}
use Rattle.tree_read.specs.Trees.{tree_pairs}
use Rattle.enum_dictionary.specs.Dictionaries.{beside_value}
use Rattle.value_index.proofs.StepLemmas.{entry_found, entry_none}
use Rattle.compaction_moves.proofs.IndexKeyLemmas.{found_apart, key_of, none_apart}
use Rattle.compaction_steps.proofs.key.value_lies.Goals as goal

pub find-requires : goal.find-requires
find-requires g c = (omega arith, (omega arith, c.requires.index.dictionary_is))

pub buffer-requires : goal.buffer-requires
buffer-requires g c = omega arith

pub returns-in-Some-clause-apart : goal.returns-in-Some-clause-apart
returns-in-Some-clause-apart g c =
    let bits = g.row.OFFSET_BITS in
    let m = g.F.Frozen.records c.args.frozen.now in
    let value = c.args.value.now in
    let root = c.args.dictionary in
    let entry = c.in-Some.entry in
    let found = entry_found bits (lookup_pair (beside_value value m) (tree_pairs m root)) entry entry.posting (sym c.in-Some.is ∙ c.find.ensures.entry) refl in
    λ differs. found_apart bits c.args.buffer value m root entry.key entry.posting found
    (λ e. eqb-false c.buffer.result c.args.buffer differs (c.buffer.ensures.value ∙ e))

pub returns-in-Some-clause-lies : goal.returns-in-Some-clause-lies
returns-in-Some-clause-lies g c =
    let bits = g.row.OFFSET_BITS in
    let m = g.F.Frozen.records c.args.frozen.now in
    let value = c.args.value.now in
    let root = c.args.dictionary in
    let entry = c.in-Some.entry in
    let found = entry_found bits (lookup_pair (beside_value value m) (tree_pairs m root)) entry entry.posting (sym c.in-Some.is ∙ c.find.ensures.entry) refl in
    λ same. record {
      ref = entry.key;
      at = key_of value m root (Some (entry.key, entry.posting)) found;
      lies = sym c.buffer.ensures.value ∙ eqb-true c.buffer.result c.args.buffer same;
    }

pub returns-in-Some-clause-same : goal.returns-in-Some-clause-same
returns-in-Some-clause-same g c = c.find.ensures.same

pub returns-in-None-clause-apart : goal.returns-in-None-clause-apart
returns-in-None-clause-apart g c =
    let bits = g.row.OFFSET_BITS in
    let m = g.F.Frozen.records c.args.frozen.now in
    let value = c.args.value.now in
    let root = c.args.dictionary in
    λ differs. none_apart bits c.args.buffer value m root (entry_none bits (lookup_pair (beside_value value m) (tree_pairs m root)) (sym c.in-None.is ∙ c.find.ensures.entry))

pub returns-in-None-clause-lies : goal.returns-in-None-clause-lies
returns-in-None-clause-lies g c = λ same. absurd (true≢false (sym same))

pub returns-in-None-clause-same : goal.returns-in-None-clause-same
returns-in-None-clause-same g c = c.find.ensures.same
