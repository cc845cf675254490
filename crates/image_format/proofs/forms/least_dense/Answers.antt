use Rattle.std.proofs.Common.{max, ap, ◌∙◌}
use Rattle.image_format.proofs.FormLemmas.{least_is}
use Rattle.image_format.proofs.forms.least_dense.Goals as goal

pub returns : goal.returns
returns g c = least_is g.args.documents g.max.result c (g.max.ensures ∙ ap (λ k. max k 128) g.div_ceil.ensures)
