use Rattle.std.proofs.Common.{◌<◌, ◌/◌, ◌||◌, ℕ, length, get_or, nat_eq, arith, refl, ap, ◌∙◌}
use Rattle.index_model.proofs.BitLemmas.{insert_words}
use Rattle.index_model.specs.Sets.{in_words}
use Rattle.query_eval.proofs.kept.mark.Goals as goal

pub returns : goal.returns
returns c = λ is other.
    let words = c.args.words.now in
    let number = c.number-number.result in
    let within : number / 64 < length words = (let test = c.if-place-words.false in omega arith) in
    insert_words words number other (get_or words (number / 64) 0) within refl
    ∙ ap (λ (n : ℕ). in_words words other || nat_eq other n) c.number-number.ensures.number
