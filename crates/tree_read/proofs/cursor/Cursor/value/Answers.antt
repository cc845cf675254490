use Rattle.std.proofs.Common.{◌+◌, ap, ◌∙◌, get_or}
use Rattle.tree_read.specs.SearchPlaces.{CursorPlace}
use Rattle.tree_read.proofs.PlaceLemmas.{pair-value}
use Rattle.tree_read.proofs.cursor.Cursor.value.Goals as goal

pub returns : goal.returns
returns g c m is = ap (λ (p : CursorPlace). get_or p.words (18 + p.slot) 0) c.self.view_is ∙ pair-value m c.args.self.now is c.requires
