use Rattle.std.proofs.Common.{◌∷◌, [], ◌++◌, List, subst}
use Rattle.std.proofs.lemmas.Result.{err_from_is_err_and}
use Rattle.check_images.specs.Keys.{PairsAscend}
use Rattle.check_images.specs.Refutations.{Refutes}
use Rattle.entry_ref.specs.Maps.{seen}
use Rattle.check_images.proofs.pairs.add_pair.Goals as goal

pub returns-in_err-check_order-clause-exact : goal.returns-in_err-check_order-clause-exact
returns-in_err-check_order-clause-exact c =
    let m = seen c.args.records.now in
    let p = err_from_is_err_and c.from_residual.result c.from_residual.ensures.1 in
    rw (p.1, p.2)
    (subst (λ (ps : List (_)). Refutes (PairsAscend c.args.keys m (ps ++ (c.args.key, c.args.value) ∷ [])) c.in_err-check_order.field-0.0) c.deref.ensures.value (c.in_err-check_order.ensures.exact c.args.value))
