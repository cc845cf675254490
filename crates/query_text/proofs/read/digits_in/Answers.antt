use Rattle.std.proofs.Common.{rules, ◌≡◌, ◌∙◌, ◌<◌, ◌≤◌, ◌+◌, ◌-◌, ◌*◌, sym, ap, ap₂, refl, length, drop, get_or}
use Rattle.query_text.specs.Modes.{capped}
use Rattle.query_text.specs.Reading.{digits_front}
use Rattle.query_text.proofs.ReadingLemmas.{digits_front-more, digits_front-stop, digits_front-end}
use Rattle.query_text.proofs.read.digits_in.Goals as goal

pub returns-then-not-is_digit : goal.returns-then-not-is_digit
returns-then-not-is_digit c =
    let inside : c.loop-i.i < length c.args.bytes.now = search rules in
    sym (digits_front-stop c.loop-i.size c.args.bytes.now c.loop-i.i _ inside refl (sym c.is_digit.ensures ∙ c.if-not-is_digit.true)) ∙ c.loop-i.invariant

pub loop-i-preserved : goal.loop-i-preserved
loop-i-preserved c =
    let inside : c.loop-i.i < length c.args.bytes.now = search rules in
    let grown : c.saturating_add-size.result ≡ capped (capped (c.loop-i.size * 10) + (get_or c.args.bytes.now c.loop-i.i 0 - 48)) =
    c.saturating_add-size.ensures ∙ ap₂ (λ a b. capped (a + b)) c.saturating_mul.ensures c.from.ensures in
    ap (λ size. digits_front size (drop (c.loop-i.i + 1) c.args.bytes.now)) grown
    ∙ sym (digits_front-more c.loop-i.size c.args.bytes.now c.loop-i.i _ inside refl (sym c.is_digit.ensures ∙ c.if-not-is_digit.false))
    ∙ c.loop-i.invariant

pub returns : goal.returns
returns c =
    let past : length c.args.bytes.now ≤ c.loop-i.i = search rules in
    sym (digits_front-end c.loop-i.size c.args.bytes.now c.loop-i.i past) ∙ c.loop-i.invariant
