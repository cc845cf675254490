use Rattle.std.proofs.Common.{length}
use Rattle.check_images.proofs.image.+check_attributes.Given as goal

-- proposed from what the function passes where it calls itself
abbrev pub decreases-check_attributes : goal.decreases-check_attributes
decreases-check_attributes l = length l.fields.now
