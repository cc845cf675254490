use Rattle.std.proofs.Common.{◌≡◌, ◌∙◌, ap, List, ℕ, [], Option, Some, None, Bor, refl}
use Rattle.std.specs.Prelude.{option_map, unwrap_or}
use Rattle.std.proofs.lemmas.Result.{IfOk-weaker}
use Rattle.clap.specs.Matches.{found_of}
use Rattle.clap.proofs.WalkLemmas.{first_value-rows}
use Rattle.command_line.proofs.options.text_in.Goals as goal

-- the text behind a reference, or none
behind : (o : Option (Bor (List ℕ))) (other : Bor (List ℕ)) (t : Option (List ℕ))
    → option_map (λ s. s.now) o ≡ t → other.now ≡ [] → (unwrap_or o other).now ≡ unwrap_or t []
behind None other t e empty = empty ∙ ap (λ (o : Option (List ℕ)). unwrap_or o []) e
behind (Some s) other t e empty = ap (λ (o : Option (List ℕ)). unwrap_or o []) e

pub returns : goal.returns
returns c =
    let text = c.get_str.ensures ∙ first_value-rows (found_of c.args.matches.now) c.args.name.now in
    IfOk-weaker c.from_str.result _ _
    (λ s h. h ∙ ap (λ (b : Bor (List ℕ)). b.now) c.unwrap_or.ensures
    ∙ behind c.get_str.result _ _ text refl) c.from_str.ensures.ok
