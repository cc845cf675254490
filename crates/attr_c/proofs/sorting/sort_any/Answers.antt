use Rattle.std.proofs.Common.{w32, sym, subst, ◌∙◌}
use Rattle.std.proofs.lemmas.Int.{to_z-of_z}
use Rattle.attr_c.specs.Copies.{documents_of}
use Rattle.attr_c.specs.Seats.{kept_view}
use Rattle.attr_c.specs.Sorting.{SortsAnswer}
use Rattle.attr_c.specs.declared.seat.AnyKept.{AnyKept}
use Rattle.attr_c.proofs.sorting.sort_any.Goals as goal

pub returns-in-Narrow-clause-sorts : goal.returns-in-Narrow-clause-sorts
returns-in-Narrow-clause-sorts c = λ ok.
    subst (λ (k : AnyKept). SortsAnswer (kept_view k) (documents_of c.args.answer.now) c.args.field c.args.descending c.args.first c.args.into.now c.sort_of.new.into c.sort_of.new.told)
    (sym c.in-Narrow.is) (c.sort_of.ensures.sorts (sym (to_z-of_z w32 c.sort_of.result (record { sfits = c.sort_of.type_inv })) ∙ ok))

pub returns-in-Wide-clause-sorts : goal.returns-in-Wide-clause-sorts
returns-in-Wide-clause-sorts c = λ ok.
    subst (λ (k : AnyKept). SortsAnswer (kept_view k) (documents_of c.args.answer.now) c.args.field c.args.descending c.args.first c.args.into.now c.sort_of-in-Wide.new.into c.sort_of-in-Wide.new.told)
    (sym c.in-Wide.is) (c.sort_of-in-Wide.ensures.sorts (sym (to_z-of_z w32 c.sort_of-in-Wide.result (record { sfits = c.sort_of-in-Wide.type_inv })) ∙ ok))
