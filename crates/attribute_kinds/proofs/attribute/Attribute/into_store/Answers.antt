use Rattle.std.proofs.Common.{refl, sym, ap, subst, ◌∙◌}
use Rattle.image_format.specs.Shapes.{shape_of, types_of}
use Rattle.attribute_kinds.specs.Calls.{HasCommit}
use Rattle.attribute_kinds.specs.Views.{AttributeView}
use Rattle.attribute_kinds.proofs.attribute.Attribute.into_store.Goals as goal

pub returns-clause-store : goal.returns-clause-store
returns-clause-store g c = ap (λ (v : AttributeView g.row.S.Denot). v.store) c.self.view_is

pub returns-clause-shape : goal.returns-clause-shape
returns-clause-shape g c =
    sym (g.met.S.Store.shaped c.self.inside.store)
    ∙ c.self.invariant.stands.shape
    ∙ ap (λ (v : AttributeView g.row.S.Denot). shape_of (types_of v.fields)) c.self.view_is

pub returns-clause-root : goal.returns-clause-root
returns-clause-root g c = ap (λ (v : AttributeView g.row.S.Denot). v.root) c.self.view_is

pub returns-clause-number : goal.returns-clause-number
returns-clause-number g c = c.self.invariant.stands.last.number

pub returns-clause-operations : goal.returns-clause-operations
returns-clause-operations g c = ap (λ (v : AttributeView g.row.S.Denot). v.committed_operations) c.self.view_is

pub returns-clause-commit : goal.returns-clause-commit
returns-clause-commit g c =
    let inside = c.self.inside in
    subst (λ (v : AttributeView g.row.S.Denot). HasCommit (g.S.Store.ledger inside.store) v.fields inside.last.root v.committed v.committed_operations) c.self.view_is
    (record { root_is = c.self.invariant.stands.last.root_is; lawful = c.self.invariant.stands.last.lawful; table_is = refl; operations_are = c.self.invariant.stands.last.operations_are })
