use Rattle.std.proofs.Common.{◌∙◌, ap, List, ℕ, [], Option}
use Rattle.std.specs.Prelude.{unwrap_or}
use Rattle.std.proofs.lemmas.Result.{IfOk-weaker}
use Rattle.clap.specs.Matches.{found_of}
use Rattle.clap.proofs.WalkLemmas.{raw_values-rows}
use Rattle.command_line.proofs.options.texts_in.Goals as goal

pub returns-in-Some : goal.returns-in-Some
returns-in-Some c =
    let all = c.in-Some.ensures ∙ raw_values-rows (found_of c.args.matches.now) c.args.name.now in
    IfOk-weaker c.copied.result _ _
    (λ v h. h ∙ ap (λ (o : Option (List (List ℕ))). unwrap_or o []) all) c.copied.ensures

pub returns-in-None : goal.returns-in-None
returns-in-None c =
    let all = c.in-None.ensures ∙ raw_values-rows (found_of c.args.matches.now) c.args.name.now in
    rw c.new.ensures.items (ap (λ (o : Option (List (List ℕ))). unwrap_or o []) all)
