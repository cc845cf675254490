use Rattle.std.proofs.Common.{◌+◌, ◌*◌, ◌∷◌, ◌++◌, List, ℕ, ap, ◌∙◌}
use Rattle.tree_read.specs.Nodes.{slot_words}
use Rattle.frozen_nodes.proofs.RemoveWordLemmas.{words-rest, words-written}
use Rattle.frozen_nodes.proofs.remove_words.write_slots.Goals as goal

pub returns : goal.returns
returns c =
    let words = c.args.words.now in
    let slots = c.args.slots.now in
    let keys = slots.keys.items in
    let values = slots.values.items in
    let pairs = c.args.pairs in
    let head = slots.level * 256 + c.len.result in
    words-written slots.level pairs keys values _ c.requires.even c.requires.few
    (words-rest words head pairs c.write_both.new.words c.told-words
    ∙ ap (λ (xs : List ℕ). head ∷ pairs ∷ xs)
    (c.write_both.ensures ∙ ap (λ (xs : List ℕ). slot_words xs ++ slot_words c.deref-2.result.now) c.deref.ensures.0 ∙ ap (λ (xs : List ℕ). slot_words keys ++ slot_words xs) c.deref-2.ensures.0)
    ∙ ap (λ n. (slots.level * 256 + n) ∷ pairs ∷ (slot_words keys ++ slot_words values)) c.len.ensures.value)
