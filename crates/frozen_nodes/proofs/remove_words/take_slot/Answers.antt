use Rattle.std.proofs.Common.{◌-◌, ◌∷◌, ◌++◌, List, ℕ, take, drop, slice_index, ap, ◌∙◌}
use Rattle.frozen_nodes.proofs.MakeWordLemmas.{words-size}
use Rattle.frozen_nodes.proofs.RemoveWordLemmas.{taken, words-taken, words-rest, words-mid}
use Rattle.frozen_nodes.proofs.remove_words.take_slot.Goals as goal

pub returns : goal.returns
returns c level count keys values are low =
    let words = c.args.words.now in
    let i = c.args.slot in
    let head = slice_index words 0 - 1 in
    let pairs = c.args.pairs in
    let size = words-size level count keys values words are in
    words-taken level count pairs keys values words _ i are low
    (words-rest words head pairs c.take_both.new.words size
    ∙ ap (λ xs. head ∷ pairs ∷ xs)
    (c.take_both.ensures ∙ ap (λ (xs : List ℕ). taken i (take 16 xs) ++ taken i (drop 16 xs)) (words-mid words head pairs size)))
