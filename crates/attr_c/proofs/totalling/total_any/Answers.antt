use Rattle.std.proofs.Common.{w32, sym, subst, ◌∙◌}
use Rattle.std.proofs.lemmas.Int.{to_z-of_z}
use Rattle.attr_c.specs.Copies.{documents_of}
use Rattle.attr_c.specs.Seats.{kept_view}
use Rattle.attr_c.specs.Sorting.{TotalsAnswer}
use Rattle.attr_c.specs.declared.seat.AnyKept.{AnyKept}
use Rattle.attr_c.proofs.totalling.total_any.Goals as goal

pub returns-in-Narrow-clause-totals : goal.returns-in-Narrow-clause-totals
returns-in-Narrow-clause-totals c = λ ok.
    subst (λ (k : AnyKept). TotalsAnswer (kept_view k) (documents_of c.args.answer.now) c.args.field c.total_of.new.totals c.total_of.new.told)
    (sym c.in-Narrow.is) (c.total_of.ensures.totals (sym (to_z-of_z w32 c.total_of.result (record { sfits = c.total_of.type_inv })) ∙ ok))

pub returns-in-Wide-clause-totals : goal.returns-in-Wide-clause-totals
returns-in-Wide-clause-totals c = λ ok.
    subst (λ (k : AnyKept). TotalsAnswer (kept_view k) (documents_of c.args.answer.now) c.args.field c.total_of-in-Wide.new.totals c.total_of-in-Wide.new.told)
    (sym c.in-Wide.is) (c.total_of-in-Wide.ensures.totals (sym (to_z-of_z w32 c.total_of-in-Wide.result (record { sfits = c.total_of-in-Wide.type_inv })) ∙ ok))
