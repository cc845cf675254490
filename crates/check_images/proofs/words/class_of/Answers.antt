use Rattle.std.proofs.Common.{◌<◌, get_or, nat_le, ◌∙◌, arith}
use Rattle.list_lemmas.proofs.Places.{find-drop_next}
use Rattle.image_format.specs.Words.{classes}
use Rattle.list_lemmas.proofs.Tests.{too_many}
use Rattle.check_images.proofs.words.class_of.Goals as goal

pub loop-width-preserved : goal.loop-width-preserved
loop-width-preserved c =
    let i = c.loop-width.width-index in
    let low : i < 10 = omega arith in
    find-drop_next (nat_le c.args.count) classes i 0 low (too_many c.args.count (get_or classes i 0) (omega arith)) ∙ c.loop-width.invariant
