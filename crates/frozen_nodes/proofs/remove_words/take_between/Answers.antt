use Rattle.std.proofs.Common.{◌≡◌, ◌+◌, ◌-◌, suc, take, drop, ◌∙◌, append_assoc, arith}
use Rattle.frozen_nodes.proofs.RemoveWordLemmas.{words-moved}
use Rattle.frozen_nodes.proofs.remove_words.take_between.Goals as goal

pub returns : goal.returns
returns c =
    let words = c.args.words.now in
    let i = c.args.slot in
    let next : i + 1 ≡ suc i = omega arith in
    words-moved words c.copy_within.new.self i (i + 1) next c.requires.size c.requires.slot
    (c.copy_within.ensures.after ∙ append_assoc (take i words) (take (16 - (i + 1)) (drop (i + 1) words)) (drop (i + (16 - (i + 1))) words))
