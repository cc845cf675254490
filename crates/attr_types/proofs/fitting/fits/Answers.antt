use Rattle.std.proofs.Common.{Bool, ◌↔◌, sym, subst, ap, ◌∙◌}
use Rattle.std.specs.Bool.{IsTrue}
use Rattle.attr_types.proofs.FitLemmas.{op_decides}
use Rattle.attr_types.proofs.fitting.fits.Goals as goal
use Rattle.attr_types.specs.Fitting.{op_fits}
use Rattle.attr_types.specs.Lawful.{IsDocNumber, OpFits}

pub returns : goal.returns
returns c =
    let fields = c.args.fields.now in
    let op = c.args.op.now in
    let is_doc = subst IsDocNumber c.doc-doc.ensures.doc (c.doc-doc.ensures.first, c.doc-doc.ensures.last) in
    subst (λ (told : Bool). IsTrue told ↔ OpFits fields op) (sym (c.does_op_fit.ensures ∙ ap (λ fs. op_fits fs op) c.as_slice.ensures)) (op_decides fields op is_doc)
