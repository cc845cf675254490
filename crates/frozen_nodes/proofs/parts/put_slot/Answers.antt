use Rattle.std.proofs.Common.{◌<◌, ◌≤◌, length, insert, subst, arith}
use Rattle.tree_read.specs.Nodes.{level_of, count_of, node_keys, node_values}
use Rattle.frozen_nodes.specs.Words.{AreWords}
use Rattle.frozen_nodes.proofs.MakeWordLemmas.{form-words, words-used, put-size}
use Rattle.frozen_nodes.proofs.HandLemmas.{hand-size}
use Rattle.frozen_nodes.proofs.parts.put_slot.Goals as goal

pub make_one-requires-clause-some : goal.make_one-requires-clause-some
make_one-requires-clause-some g c =
    let words = c.args.words.now in
    let level = level_of words in
    let i = c.args.slot in
    let size = hand-size level words c.requires.form in
    let asked = c.requires.slot in
    let test = c.if-used_in-lt-MOST_SLOTS.true in
    let is = c.used_in.ensures in
    let low : i ≤ length (node_keys words) = omega arith in
    let room : length (node_keys words) < 16 = omega arith in
    let are = c.add_slot.ensures level (count_of words) (node_keys words) (node_values words) (form-words level 1 words c.requires.form) low room in
    let used = words-used level c.args.pairs _ _ c.add_slot.new.words are in
    let more = put-size (node_keys words) i c.args.key low in
    omega arith

pub make_one-requires-clause-fits : goal.make_one-requires-clause-fits
make_one-requires-clause-fits g c =
    let words = c.args.words.now in
    let level = level_of words in
    let i = c.args.slot in
    let size = hand-size level words c.requires.form in
    let asked = c.requires.slot in
    let test = c.if-used_in-lt-MOST_SLOTS.true in
    let is = c.used_in.ensures in
    let low : i ≤ length (node_keys words) = omega arith in
    let room : length (node_keys words) < 16 = omega arith in
    let are = c.add_slot.ensures level (count_of words) (node_keys words) (node_values words) (form-words level 1 words c.requires.form) low room in
    let used = words-used level c.args.pairs _ _ c.add_slot.new.words are in
    let few = are.few in
    omega arith

pub returns-then-used_in-lt-MOST_SLOTS-clause-parts : goal.returns-then-used_in-lt-MOST_SLOTS-clause-parts
returns-then-used_in-lt-MOST_SLOTS-clause-parts g c =
    let words = c.args.words.now in
    let level = level_of words in
    let i = c.args.slot in
    let size = hand-size level words c.requires.form in
    let asked = c.requires.slot in
    let test = c.if-used_in-lt-MOST_SLOTS.true in
    let is = c.used_in.ensures in
    let low : i ≤ length (node_keys words) = omega arith in
    let room : length (node_keys words) < 16 = omega arith in
    let keys = insert (node_keys words) i c.args.key in
    let values = insert (node_values words) i c.args.value in
    let are = c.add_slot.ensures level (count_of words) (node_keys words) (node_values words) (form-words level 1 words c.requires.form) low room in
    let more = put-size (node_keys words) i c.args.key low in
    c.make_one.ensures.parts level keys values (subst (λ n. AreWords level n keys values c.add_slot.new.words) c.requires.counted are) c.requires.hand (omega arith) c.requires.few
