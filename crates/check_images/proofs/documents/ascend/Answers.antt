use Rattle.std.proofs.Common.{Bool, ◌↔◌, sym, subst}
use Rattle.std.specs.Bool.{IsTrue}
use Rattle.attr_types.specs.Lawful.{AscendByValue}
use Rattle.attr_types.specs.Value.{values_of}
use Rattle.attr_types.proofs.FitLemmas.{ascends_then, then_ascends}
use Rattle.check_images.proofs.documents.ascend.Goals as goal

pub returns : goal.returns
returns c =
    subst (λ (told : Bool). IsTrue told ↔ AscendByValue c.args.items.now) (sym c.rise.ensures)
    (ascends_then (values_of c.args.items.now), then_ascends (values_of c.args.items.now))
