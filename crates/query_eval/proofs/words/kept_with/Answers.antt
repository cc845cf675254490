use Rattle.std.proofs.Common.{◌≡◌, ℕ, ℤ, Bool, true, false, ◌&&◌, List, refl, ap, ◌∙◌}
use Rattle.std.specs.Map.{keys_of}
use Rattle.index_model.specs.Sets.{has}
use Rattle.query_eval.proofs.words.kept_with.Goals as goal

never : (a : Bool) → false ≡ (a && false)
never true = refl
never false = refl

pub returns-in-None-clause-kept : goal.returns-in-None-clause-kept
returns-in-None-clause-kept g c = λ doc.
    ap (λ (xs : List ℕ). has xs doc) c.new.ensures ∙ never (has c.args.docs.now doc)
    ∙ ap (λ (ps : List (ℕ × ℤ)). has c.args.docs.now doc && has (keys_of ps) doc) c.in-None.ensures.list
