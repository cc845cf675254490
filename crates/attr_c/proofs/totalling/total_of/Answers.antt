use Rattle.std.proofs.Common.{◌<◌, List, length, sym, ap, subst, ◌∙◌, arith}
use Rattle.attr_types.specs.declared.field.Field.{Field}
use Rattle.result_model.specs.Totals.{totals}
use Rattle.result_model.specs.declared.totals.Totals.{Totals}
use Rattle.attr_c.specs.Copies.{documents_of}
use Rattle.attr_c.specs.Kept.{table_in, KeptView}
use Rattle.attr_c.specs.Sorting.{TellsTotals}
use Rattle.attr_c.proofs.totalling.total_of.Goals as goal

pub returns-in-Ok-clause-totals : goal.returns-in-Ok-clause-totals
returns-in-Ok-clause-totals g c = λ ok.
    let tells = c.tell_commit.ensures.tells in
    let found = c.in-Ok.ensures.totals ∙ ap (λ (k : KeptView). totals c.args.field (documents_of c.args.answer.now) (table_in k)) c.tell_commit.ensures.same in
    record {
      within = subst (λ (fields : List Field). c.args.field < length fields) c.fields.ensures.fields (omega (arith, c.if-field-len.false, c.len.ensures));
      totals_are = subst (λ (t : Totals). TellsTotals t c.told_totals.result) found c.told_totals.ensures;
      tells = record { commit = tells.commit; operations = tells.operations };
      count = sym c.told_totals.ensures.count;
    }
