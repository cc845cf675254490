use Rattle.std.proofs.Common.{◌∙◌, ◌++◌, ◌≤◌, sym, ap, subst, string_bytes}
use Rattle.std.specs.Fmt.{decimal}
use Rattle.attr_run.proofs.MadeLemmas.{short_text}
use Rattle.attr_run.proofs.value.text_by.Goals as goal

pub new-requires : goal.new-requires
new-requires c = subst (λ n. n ≤ 1024) (sym c.write.new.self.bytes.ok.0)
    (short_text (string_bytes c.write.new.self) c.args.number
    (c.in_ok-write.ensures.bytes ∙ ap (λ b. b ++ decimal c.args.number) c.in_ok-text.ensures.ok) c.ranges.number.fits)
