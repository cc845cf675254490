use Rattle.std.proofs.Common.{sym, ap, subst, ◌∙◌, rules}
use Rattle.entry_ref.specs.Images.{words_at}
use Rattle.arena_api.specs.Works.{WorkView, last_image}
use Rattle.image_format.specs.Images.{IsLawfulImage, operations_at, table_of}
use Rattle.image_format.specs.Shapes.{shape_of, types_of}
use Rattle.attribute_kinds.proofs.Taking.{lawful_taken, operations_taken, table_taken}
use Rattle.attribute_kinds.proofs.attribute.committed_work.Goals as goal

pub into_work-requires : goal.into_work-requires
into_work-requires g c = search rules

pub returns-clause-knows : goal.returns-clause-knows
returns-clause-knows g c = c.into_work.ensures.knows

pub returns-clause-shape : goal.returns-clause-shape
returns-clause-shape g c = c.into_work.ensures.shape

pub returns-clause-image : goal.returns-clause-image
returns-clause-image g c =
    let shape = shape_of (types_of c.args.fields.now) in
    let lawful = subst (λ (w : WorkView _). IsLawfulImage shape (words_at (last_image w.commits)) c.args.root) (sym c.into_work.ensures.knows) c.requires.lawful in
    lawful_taken shape (words_at (last_image (g.W.Work.knows c.into_work.result).commits)) (g.W.Frozen.records c.into_work.result) (g.met.W.Work.last c.into_work.result) c.args.root lawful

pub returns-clause-table : goal.returns-clause-table
returns-clause-table g c =
    let shape = shape_of (types_of c.args.fields.now) in
    let lawful = subst (λ (w : WorkView _). IsLawfulImage shape (words_at (last_image w.commits)) c.args.root) (sym c.into_work.ensures.knows) c.requires.lawful in
    table_taken shape (words_at (last_image (g.W.Work.knows c.into_work.result).commits)) (g.W.Frozen.records c.into_work.result) (g.met.W.Work.last c.into_work.result) c.args.root lawful
    ∙ ap (λ (w : WorkView _). table_of shape (words_at (last_image w.commits)) c.args.root) c.into_work.ensures.knows

pub returns-clause-published : goal.returns-clause-published
returns-clause-published g c =
    let shape = shape_of (types_of c.args.fields.now) in
    let lawful = subst (λ (w : WorkView _). IsLawfulImage shape (words_at (last_image w.commits)) c.args.root) (sym c.into_work.ensures.knows) c.requires.lawful in
    operations_taken shape (words_at (last_image (g.W.Work.knows c.into_work.result).commits)) (g.W.Frozen.records c.into_work.result) (g.met.W.Work.last c.into_work.result) c.args.root lawful
    ∙ ap (λ (w : WorkView _). operations_at (words_at (last_image w.commits)) c.args.root) c.into_work.ensures.knows
