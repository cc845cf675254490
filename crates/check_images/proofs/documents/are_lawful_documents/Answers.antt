use Rattle.std.proofs.Common.{ℕ, List, subst}
use Rattle.attr_types.specs.Lawful.{IsDocNumber, IsLawfulItems}
use Rattle.attr_types.specs.declared.items.Item.{Item}
use Rattle.check_images.proofs.ValueLemmas.{all_more}
use Rattle.check_images.proofs.documents.are_lawful_documents.Goals as goal

pub loop-number-preserved : goal.loop-number-preserved
loop-number-preserved c =
    all_more (λ (e : ℕ × List Item). IsDocNumber e.0 × IsLawfulItems c.args.kind e.1) c.args.column.now c.loop-number.number-index c.loop-number-item.result c.loop-number-test.true c.loop-number-item.is
    c.loop-number.invariant
    (c.is_document.ensures.0 c.if-not-is_document.false, subst (IsLawfulItems c.args.kind) c.as_slice.ensures (c.are_lawful.ensures.0 c.if-not-are_lawful.false))
