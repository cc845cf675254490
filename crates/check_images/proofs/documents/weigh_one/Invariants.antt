use Rattle.std.proofs.Common.{take}
use Rattle.attr_types.specs.Lawful.{HaveWeightOne}
use Rattle.check_images.proofs.documents.weigh_one.Given as goal

abbrev pub invariant-loop-item : goal.invariant-loop-item
invariant-loop-item l = HaveWeightOne (take l.item-index l.items)
