use Rattle.std.proofs.Common.{◌∙◌, ap}
use Rattle.gen_core.specs.declared.views.Sizes.{Sizes}
use Rattle.attr_c.proofs.open_exports.put_last.Goals as goal

pub returns-clause-bits : goal.returns-clause-bits
returns-clause-bits g c =
    let post = c.args.waiting.reader.stands.post in
    ap (λ (z : Sizes). z.offset_bits) post.same_sizes ∙ post.same_bits
