use Rattle.std.proofs.Common.{◌∙◌, ap, map, arith}
use Rattle.std.proofs.lemmas.Bool.Decides.{nat_tests}
use Rattle.attr_c.proofs.AttributesLemmas.{other_parts}
use Rattle.attr_c.proofs.attributes.field_in.Goals.{in_default-via-then-as_slice-lt3, in_default-via-else-as_slice-lt3+else-this-lt4}
use Rattle.attr_c.proofs.attributes.field_in.Goals as goal

pub returns : goal.returns
returns c =
    let parts = ap (map (λ t. t.now)) c.as_slice.ensures.value ∙ c.in_ok-parts.ensures in
    elim c.in_default.branch [
      | in_default-via-then-as_slice-lt3 w ↦ other_parts c.args.before.now c.args.text.now c.as_slice.result.now parts (λ three. grind (arith, nat_tests))
      | in_default-via-else-as_slice-lt3+else-this-lt4 w ↦ other_parts c.args.before.now c.args.text.now c.as_slice.result.now parts (λ three. grind (arith, nat_tests))
    ]
