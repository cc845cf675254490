use Rattle.std.proofs.Common.{◌≡◌, ◌∙◌, sym, subst, Some}
use Rattle.std.specs.Option.{option_and_then}
use Rattle.attr_types.specs.Table.{updated, to_update, document_at}
use Rattle.attr_types.specs.declared.op.Op.TheVariants.{Update}
use Rattle.plain_model.proofs.TableSteps.{after_update, fits_within, after_keeps}
use Rattle.plain_model.proofs.table.PlainTable.update.Goals as goal
use Rattle.plain_model.specs.Plain.{Plain}

pub invariant_of-self-in-Some : goal.invariant_of-self-in-Some
invariant_of-self-in-Some c =
    let inside = c.self.inside in
    let table = inside.documents.entries in
    let op = Update c.args.doc c.args.create c.args.change in
    let found = subst (λ (p : Plain). option_and_then (updated p.fields c.args.change) (to_update p.fields c.args.create (document_at p.table c.args.doc)) ≡ Some c.in-Some.new)
    (sym c.self.view_is) (sym c.in_ok-new.ensures ∙ c.in-Some.is) in
    let is = after_update inside.fields table c.args.doc c.args.create c.args.change c.in-Some.new found in
    after_keeps inside.fields table c.insert.new.self.entries op (fits_within c.args.self.now _ op c.self.view_is c.requires) c.self.invariant
    (c.in_ok-insert-in-Some.ensures.entries ∙ sym is)
