use Rattle.std.proofs.Common.{◌≤◌, ◌+◌, ap, sym, subst, map, length, arith}
use Rattle.std.specs.List.{AllByRecursion}
use Rattle.command_line.specs.Also.{EndsBefore, piece_of}
use Rattle.command_line.proofs.PieceLemmas.{ends_weaker}
use Rattle.command_line.proofs.also.fields_of.Goals as goal

pub cut-requires-clause-small : goal.cut-requires-clause-small
cut-requires-clause-small c =
    let bytes = c.in-Some.text.bytes in
    let same = ap length c.as_str.ensures.value in
    omega (arith, same, bytes.ok.0, bytes.ok.1, bytes.small)

pub fields_from-requires : goal.fields_from-requires
fields_from-requires c =
    let bytes = c.in-Some.text.bytes in
    let same = ap length c.as_str.ensures.value in
    let short : 0 + length c.as_str.result.now ≤ 18446744073709551614 = omega (arith, same, bytes.ok.0, bytes.ok.1, bytes.small) in
    ends_weaker _ 18446744073709551614 _ short
    (subst (λ ps. AllByRecursion (EndsBefore (0 + length c.as_str.result.now)) (map piece_of ps)) (sym c.as_slice.ensures.value)
    c.in_ok-parts-in-Some.ensures.ends)
