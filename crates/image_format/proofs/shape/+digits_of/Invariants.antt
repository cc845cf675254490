use Rattle.std.proofs.Common.{length}
use Rattle.image_format.proofs.shape.+digits_of.Given as goal

-- proposed from what the function passes where it calls itself
abbrev pub decreases-digits_of : goal.decreases-digits_of
decreases-digits_of l = length l.fields.now
