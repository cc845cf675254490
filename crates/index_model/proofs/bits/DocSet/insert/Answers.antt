use Rattle.std.proofs.Common.{◌≤◌, ◌/◌, ℕ, List, arith, ap, subst, sym, ◌∙◌, length-set, ◌||◌, nat_eq}
use Rattle.std.proofs.lemmas.Bool.{ne_eqb, or_from}
use Rattle.std.proofs.lemmas.List.{get_or_read}
use Rattle.index_model.proofs.BitLemmas.{insert_words}
use Rattle.index_model.proofs.bits.DocSet.insert.Goals as goal
use Rattle.index_model.specs.Sets.{in_words}

pub invariant_of-self : goal.invariant_of-self
invariant_of-self c = (c.reach.ensures.size, c.reach.ensures.same 0 ∙ c.self.invariant.1)

pub invariant_of-self-2 : goal.invariant_of-self-2
invariant_of-self-2 c =
    let words = c.reach.new.words.items in
    let number = c.number-number.result in
    let within = c.in_ok-reach.ensures.there in (
      subst (λ (n : ℕ). n ≤ 16384) (sym (length-set words (number / 64) _)) c.reach.ensures.size,
      insert_words words number 0 c.index_mut.result.now within (get_or_read _ _ _ within c.index_mut.ensures.value 0)
          ∙ or_from _ _ (c.reach.ensures.same 0 ∙ c.self.invariant.1) (ne_eqb 0 number (λ e. omega (arith, e, c.number-number.ensures.first))),
    )

pub returns : goal.returns
returns c = λ other.
    let words = c.reach.new.words.items in
    let number = c.number-number.result in
    let within = c.in_ok-reach.ensures.there in
    insert_words words number other c.index_mut.result.now within (get_or_read _ _ _ within c.index_mut.ensures.value 0)
    ∙ ap (λ (n : ℕ). in_words words other || nat_eq other n) c.number-number.ensures.number
    ∙ ap (λ b. b || nat_eq other c.args.doc) (c.reach.ensures.same other)
    ∙ ap (λ (ws : List ℕ). in_words ws other || nat_eq other c.args.doc) c.self.view_is
