use Rattle.std.proofs.Common.{ℕ, List, sym, subst}
use Rattle.index_model.proofs.DocLemmas.{sorted_holds}
use Rattle.index_model.proofs.gathered.sorted_list.Goals as goal
use Rattle.index_model.specs.Sets.{has, Holds}

pub returns : goal.returns
returns c =
    subst (λ (docs : List ℕ). Holds docs (has c.args.docs.items)) (sym c.from_vec-2.ensures)
    (sorted_holds _ c.sort_unstable.new.self.items _ c.sort_unstable.ensures.permutation c.sort_unstable.ensures.sorted c.dedup.ensures.filtered)
