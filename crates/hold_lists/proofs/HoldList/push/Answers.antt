use Rattle.std.proofs.Common.{◌≡◌, ℕ, ◌-◌, ◌≤◌, List, [], ◌∷◌, ◌++◌, length, ap, ap₂, ◌∙◌, arith}
use Rattle.std.proofs.lemmas.List.{length_push}
use Rattle.hold_lists.proofs.HeldLemmas.{held-push}
use Rattle.hold_lists.specs.Held.{HeldEntry, HeldList, untagged}
use Rattle.hold_lists.specs.Runs.{held_of, tagged_count}
use Rattle.hold_lists.proofs.HoldList.push.Goals as goal

pub returns : goal.returns
returns g c =
    let make : List HeldEntry → ℕ → HeldList = λ held room. record { held = held; room = room } in
    let runs = c.self.inside.runs.items in
    let entries = c.self.inside.entries.items in
    let kept = c.self.invariant in
    let fits : tagged_count runs ≤ length entries = omega (arith, kept.counted, kept.within) in
    let held = ap (held_of runs) c.push_back_reserved.ensures.items ∙ held-push runs entries c.args.entry fits
    ∙ ap (λ (list : HeldList). list.held ++ untagged c.args.entry ∷ []) c.self.view_is in
    let room : c.self.inside.most - length c.push_back_reserved.new.self.items ≡ c.args.self.now.room - 1 =
    omega (arith, ap length c.push_back_reserved.ensures.items, length_push entries c.args.entry, ap (λ (list : HeldList). list.room) c.self.view_is) in
    ap₂ make held room
