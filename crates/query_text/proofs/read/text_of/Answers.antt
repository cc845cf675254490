use Rattle.std.proofs.Common.{◌≡◌, ◌∙◌, true, ◌&&◌, Some, None, cond, length, nat_le, sym, ap, ap₂, arith}
use Rattle.std.specs.Str.{is_utf8}
use Rattle.std.proofs.lemmas.Str.{is_utf8-from_IsUtf8, IsUtf8-from_is_utf8}
use Rattle.std.proofs.lemmas.Bool.{false_from_ne_true}
use Rattle.std.proofs.lemmas.Bool.Decides.{nat_tests}
use Rattle.query_text.proofs.read.text_of.Goals as goal

pub returns-in_ok-from_str-in-Ok : goal.returns-in_ok-from_str-in-Ok
returns-in_ok-from_str-in-Ok c =
    let bytes = c.args.bytes.now in
    let short : nat_le (length bytes) 1024 ≡ true = grind (arith, nat_tests) in
    ap₂ (λ a b. cond (a && b) (Some bytes) None) short (is_utf8-from_IsUtf8 bytes c.in-Ok.ensures.cases.1)
    ∙ ap Some (sym c.in-Ok.ensures.cases.0) ∙ ap Some (sym c.in_ok-from_str-in-Ok.ensures)

pub returns-in-Err : goal.returns-in-Err
returns-in-Err c =
    let bytes = c.args.bytes.now in
    let short : nat_le (length bytes) 1024 ≡ true = grind (arith, nat_tests) in
    ap₂ (λ a b. cond (a && b) (Some bytes) None) short
    (false_from_ne_true (is_utf8 bytes) (λ e. c.in-Err.ensures.cases.0 (IsUtf8-from_is_utf8 bytes e)))
