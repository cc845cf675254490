use Rattle.std.proofs.Common.{◌≡◌, sym, ap, subst, ◌∙◌, rules}
use Rattle.entry_ref.specs.Images.{words_at}
use Rattle.arena_api.specs.Works.{WorkView, last_image}
use Rattle.image_format.specs.Images.{IsLawfulImage, operations_at, table_of}
use Rattle.image_format.specs.Shapes.{shape_of, types_of}
use Rattle.attribute_kinds.specs.Views.{AttributeView}
use Rattle.attribute_kinds.proofs.Taking.{lawful_taken, operations_taken, table_taken}
use Rattle.attribute_kinds.proofs.attribute.Attribute+OFFSET_BITS+EntryStore+OFFSET_BITS+W.into_work.Goals as goal

pub into_work-requires : goal.into_work-requires
into_work-requires g c = search rules

pub returns-clause-knows : goal.returns-clause-knows
returns-clause-knows g c = c.into_work.ensures.knows ∙ ap (λ (v : AttributeView _). g.W.Work.knows v.store.work) c.self.view_is

pub returns-clause-shape : goal.returns-clause-shape
returns-clause-shape g c = c.into_work.ensures.shape ∙ c.self.invariant.stands.shape ∙ ap (λ (v : AttributeView _). shape_of (types_of v.fields)) c.self.view_is

pub returns-clause-root : goal.returns-clause-root
returns-clause-root g c = ap (λ (v : AttributeView _). v.root) c.self.view_is

pub returns-clause-commit : goal.returns-clause-commit
returns-clause-commit g c = c.self.invariant.stands.last.number ∙ sym (ap (λ (w : WorkView _). w.commits.last) c.into_work.ensures.knows)

pub returns-clause-operations : goal.returns-clause-operations
returns-clause-operations g c = ap (λ (v : AttributeView _). v.committed_operations) c.self.view_is

pub returns-clause-lawful : goal.returns-clause-lawful
returns-clause-lawful g c =
    let inside = c.self.inside in
    let shape = shape_of (types_of inside.fields) in
    let records = g.W.Frozen.records c.into_work.result in
    let lawful = subst (λ (w : WorkView _). IsLawfulImage shape (words_at (last_image w.commits)) inside.last.root) (sym c.into_work.ensures.knows) c.self.invariant.stands.last.lawful in
    subst (λ (v : AttributeView _). IsLawfulImage (shape_of (types_of v.fields)) records v.root) c.self.view_is
    (lawful_taken shape (words_at (last_image (g.W.Work.knows c.into_work.result).commits)) records (g.met.W.Work.last c.into_work.result) inside.last.root lawful)

pub returns-clause-table : goal.returns-clause-table
returns-clause-table g c =
    let inside = c.self.inside in
    let shape = shape_of (types_of inside.fields) in
    let records = g.W.Frozen.records c.into_work.result in
    let lawful = subst (λ (w : WorkView _). IsLawfulImage shape (words_at (last_image w.commits)) inside.last.root) (sym c.into_work.ensures.knows) c.self.invariant.stands.last.lawful in
    subst (λ (v : AttributeView _). table_of (shape_of (types_of v.fields)) records v.root ≡ v.committed) c.self.view_is
    (table_taken shape (words_at (last_image (g.W.Work.knows c.into_work.result).commits)) records (g.met.W.Work.last c.into_work.result) inside.last.root lawful
    ∙ ap (λ (w : WorkView _). table_of shape (words_at (last_image w.commits)) inside.last.root) c.into_work.ensures.knows)

pub returns-clause-published : goal.returns-clause-published
returns-clause-published g c =
    let inside = c.self.inside in
    let shape = shape_of (types_of inside.fields) in
    let records = g.W.Frozen.records c.into_work.result in
    let lawful = subst (λ (w : WorkView _). IsLawfulImage shape (words_at (last_image w.commits)) inside.last.root) (sym c.into_work.ensures.knows) c.self.invariant.stands.last.lawful in
    subst (λ (v : AttributeView _). operations_at records v.root ≡ v.committed_operations) c.self.view_is
    (operations_taken shape (words_at (last_image (g.W.Work.knows c.into_work.result).commits)) records (g.met.W.Work.last c.into_work.result) inside.last.root lawful
    ∙ ap (λ (w : WorkView _). operations_at (words_at (last_image w.commits)) inside.last.root) c.into_work.ensures.knows
    ∙ c.self.invariant.stands.last.operations_are)
