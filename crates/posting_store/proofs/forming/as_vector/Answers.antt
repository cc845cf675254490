use Rattle.std.proofs.Common.{true, sym, subst, ◌∙◌}
use Rattle.std.specs.Prelude.{IfErr}
use Rattle.store_api.specs.Calls.{RefusesOf}
use Rattle.store_api.specs.Units.{MakesWithin}
use Rattle.posting_store.specs.Lists.{list_at, is_vector}
use Rattle.posting_store.specs.Changes.{form_most, IsFormWidth}
use Rattle.posting_store.proofs.ChangeLemmas.{counts_none}
use Rattle.posting_store.proofs.RuleLemmas.{makes_same}
use Rattle.posting_store.proofs.forming.as_vector.Goals as goal

pub returns-then-is_vector-clause-makes : goal.returns-then-is_vector-clause-makes
returns-then-is_vector-clause-makes g c =
    makes_same (g.S.Store.ledger c.args.store.now) (g.S.Frozen.records c.args.store.now) c.args.list true c.requires.list
    (sym c.is_vector.ensures.vector ∙ c.if-is_vector.true) c.requires.owns

pub returns-then-is_vector-clause-counts : goal.returns-then-is_vector-clause-counts
returns-then-is_vector-clause-counts g c = counts_none (g.S.Store.ledger c.args.store.now) (form_most (is_vector c.args.list) true (list_at (g.S.Frozen.records c.args.store.now) c.args.list))

pub returns-clause-counts : goal.returns-clause-counts
returns-clause-counts g c =
    let a = g.S.Store.ledger c.args.store.now in
    let b = g.S.Store.ledger c.tree_to_vector.new.store in
    subst (λ v. MakesWithin a b (form_most v true (list_at (g.S.Frozen.records c.args.store.now) c.args.list)))
    (sym (sym c.is_vector.ensures.vector ∙ c.if-is_vector.false)) c.tree_to_vector.ensures.counts

pub returns-clause-refuses : goal.returns-clause-refuses
returns-clause-refuses g c =
    let a = g.S.Store.ledger c.args.store.now in
    let b = g.S.Store.ledger c.tree_to_vector.new.store in
    subst (λ v. IfErr c.tree_to_vector.result (RefusesOf (IsFormWidth v true) a b))
    (sym (sym c.is_vector.ensures.vector ∙ c.if-is_vector.false)) c.tree_to_vector.ensures.refuses

pub tree_to_vector-requires-clause-plain : goal.tree_to_vector-requires-clause-plain
tree_to_vector-requires-clause-plain g c = c.is_vector.ensures.plain c.if-is_vector.false
