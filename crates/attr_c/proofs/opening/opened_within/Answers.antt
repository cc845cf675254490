use Rattle.std.proofs.Common.{if◌then◌else◌, ◌≡◌, Bool, false, nat_eq, sym, ap, ◌∙◌, arith}
use Rattle.std.proofs.lemmas.Bool.Decides.{nat_tests}
use Rattle.std.proofs.lemmas.Result.{IfOk-weaker}
use Rattle.attr_c.proofs.opening.opened_within.Goals as goal

pub returns-else-sizes-eq0-clause-bits : goal.returns-else-sizes-eq0-clause-bits
returns-else-sizes-eq0-clause-bits c =
    let some = c.if-sizes-eq0.false in
    let test : nat_eq c.args.sizes.now.wide 0 ≡ false = grind (arith, nat_tests) in
    IfOk-weaker c.wide_open.result _ _ (λ o is. is ∙ sym (ap (λ (b : Bool). if b then 22 else 19) test)) c.wide_open.ensures.bits
