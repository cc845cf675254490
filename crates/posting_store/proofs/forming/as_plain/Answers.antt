use Rattle.std.proofs.Common.{false, sym, subst, ◌∙◌}
use Rattle.std.specs.Prelude.{IfErr}
use Rattle.store_api.specs.Calls.{RefusesOf}
use Rattle.store_api.specs.Units.{MakesWithin}
use Rattle.posting_store.specs.Lists.{list_at, is_vector}
use Rattle.posting_store.specs.Changes.{form_most, IsFormWidth}
use Rattle.posting_store.proofs.ChangeLemmas.{counts_none}
use Rattle.posting_store.proofs.RuleLemmas.{makes_same}
use Rattle.posting_store.proofs.forming.as_plain.Goals as goal

pub returns-then-is_vector-clause-counts : goal.returns-then-is_vector-clause-counts
returns-then-is_vector-clause-counts g c =
    let a = g.S.Store.ledger c.args.store.now in
    let b = g.S.Store.ledger c.vector_to_tree.new.store in
    subst (λ v. MakesWithin a b (form_most v false (list_at (g.S.Frozen.records c.args.store.now) c.args.list)))
    (sym (sym c.is_vector.ensures.vector ∙ c.if-is_vector.true)) c.vector_to_tree.ensures.counts

pub returns-then-is_vector-clause-refuses : goal.returns-then-is_vector-clause-refuses
returns-then-is_vector-clause-refuses g c =
    let a = g.S.Store.ledger c.args.store.now in
    let b = g.S.Store.ledger c.vector_to_tree.new.store in
    subst (λ v. IfErr c.vector_to_tree.result (RefusesOf (IsFormWidth v false) a b))
    (sym (sym c.is_vector.ensures.vector ∙ c.if-is_vector.true)) c.vector_to_tree.ensures.refuses

pub returns-clause-makes : goal.returns-clause-makes
returns-clause-makes g c =
    makes_same (g.S.Store.ledger c.args.store.now) (g.S.Frozen.records c.args.store.now) c.args.list false c.requires.list
    (sym c.is_vector.ensures.vector ∙ c.if-is_vector.false) c.requires.owns

pub returns-clause-counts : goal.returns-clause-counts
returns-clause-counts g c = counts_none (g.S.Store.ledger c.args.store.now) (form_most (is_vector c.args.list) false (list_at (g.S.Frozen.records c.args.store.now) c.args.list))

pub vector_to_tree-requires-clause-vector : goal.vector_to_tree-requires-clause-vector
vector_to_tree-requires-clause-vector g c = sym c.is_vector.ensures.vector ∙ c.if-is_vector.true
