use Rattle.std.proofs.Common.{ℕ, List, sym, subst}
use Rattle.std.proofs.lemmas.Result.{IfOk-weaker}
use Rattle.std.specs.List.Sorted.{IsStrictlyIncreasing}
use Rattle.attr_types.proofs.HitLemmas.{hits_ascend}
use Rattle.attr_types.specs.Query.{tree_of}
use Rattle.plain_model.proofs.table.PlainTable.hits.Goals as goal

pub returns-clause-ascend : goal.returns-clause-ascend
returns-clause-ascend c =
    let inside = c.self.inside in
    IfOk-weaker c.scan.result _ _
    (λ docs is. subst (λ (xs : List ℕ). IsStrictlyIncreasing xs) (sym is)
    (hits_ascend (tree_of c.args.query.now) inside.fields inside.documents.entries c.self.invariant.0))
    c.scan.ensures
