use Rattle.std.proofs.Common.{◌≡◌, None, sym, ap, ◌∙◌}
use Rattle.tree_read.specs.Pairs.{lookup}
use Rattle.tree_read.proofs.PairLemmas.{take_out-none}
use Rattle.number_tree.specs.Maps.{MapView, beside_number}
use Rattle.number_tree.proofs.HoldLemmas.{none_of}
use Rattle.number_tree.proofs.number_tree.NumberTree.remove.Goals as goal

pub returns-then-is_none-clause-pairs : goal.returns-then-is_none-clause-pairs
returns-then-is_none-clause-pairs g c =
    let none : lookup (beside_number c.args.key) c.args.self.now.pairs ≡ None = sym c.get.ensures.value ∙ none_of c.get.result c.if-is_none.ensures in
    ap (λ (v : MapView _). v.pairs) c.get.ensures.same ∙ sym (take_out-none (beside_number c.args.key) c.args.self.now.pairs none)
