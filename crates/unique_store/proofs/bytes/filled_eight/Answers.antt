use Rattle.std.proofs.Common.{◌++◌, ◌∙◌, ℕ, List, length, drop, replicate, ap}
use Rattle.unique_store.proofs.ByteLemmas.{eight_of_few}
use Rattle.unique_store.proofs.bytes.filled_eight.Goals as goal

pub returns : goal.returns
returns c =
    ap (λ (xs : List ℕ). xs ++ drop (length c.args.bytes.now) (replicate 8 0)) c.copy_from_slice.ensures.after
    ∙ eight_of_few c.args.bytes.now c.requires
