use Rattle.std.proofs.Common.{ℕ, List, take}
use Rattle.std.specs.List.{AllByRecursion}
use Rattle.attr_types.specs.Lawful.{IsDocNumber, IsLawfulItems}
use Rattle.attr_types.specs.declared.items.Item.{Item}
use Rattle.check_images.proofs.documents.are_lawful_documents.Given as goal

abbrev pub invariant-loop-number : goal.invariant-loop-number
invariant-loop-number l = AllByRecursion (λ (e : ℕ × List Item). IsDocNumber e.0 × IsLawfulItems l.kind e.1) (take l.number-index l.column)
