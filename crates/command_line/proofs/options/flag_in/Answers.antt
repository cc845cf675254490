use Rattle.std.proofs.Common.{◌∙◌, ap, inl, inr, Some, refl}
use Rattle.clap.specs.Matches.{found_of}
use Rattle.clap.proofs.WalkLemmas.{one_text-rows}
use Rattle.command_line.proofs.options.flag_in.Goals as goal

pub returns : goal.returns
returns c =
    let text = c.requires in
    let one = one_text-rows (found_of c.args.matches.now) c.args.name.now ∙ text.2 in
    elim text.3 [
      | inl is ↦ rw (c.get_flag.ensures.value (one ∙ ap Some is), text.1, is) refl
      | inr is ↦ rw (c.get_flag.ensures.other (one ∙ ap Some is), text.1, is) refl
    ]
