use Rattle.std.proofs.Common.{sym, subst}
use Rattle.attr_types.proofs.TableLemmas.{sound-without}
use Rattle.attr_types.specs.Lawful.{IsLawfulTable, DocumentsHaveType, OpFits}
use Rattle.attr_types.specs.Table.{Table}
use Rattle.attr_types.specs.declared.op.Op.{Op}
use Rattle.attr_types.specs.declared.op.Op.TheVariants.{Put}
use Rattle.plain_model.proofs.TableSteps.{fits_within, after_keeps}
use Rattle.plain_model.proofs.table.PlainTable.apply.Goals as goal

pub invariant_of-self-in-Put : goal.invariant_of-self-in-Put
invariant_of-self-in-Put c =
    let inside = c.self.inside in
    let op = Put c.in-Put.doc c.in-Put.items in
    let fits = subst (λ (o : Op). OpFits inside.fields o) c.in-Put.is (fits_within c.args.self.now _ c.args.op c.self.view_is c.requires) in
    after_keeps inside.fields inside.documents.entries c.insert.new.self.entries op fits c.self.invariant
    c.in_ok-insert-in-Put.ensures.entries

pub invariant_of-self-after-remove : goal.invariant_of-self-after-remove
invariant_of-self-after-remove c =
    let inside = c.self-in-Remove.inside in
    subst (λ (t : Table). IsLawfulTable inside.fields t × DocumentsHaveType inside.fields t) (sym c.remove.ensures.entries)
    (sound-without inside.fields inside.documents.entries c.in-Remove.doc c.self-in-Remove.invariant)
