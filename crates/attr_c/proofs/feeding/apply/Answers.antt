use Rattle.std.proofs.Common.{Ok, refl, ◌∙◌, ap}
use Rattle.attr_c.proofs.ApplyingLemmas.{applies_one}
use Rattle.attr_c.proofs.EndLemmas.{refused_by}
use Rattle.attr_c.proofs.feeding.apply.Goals as goal

pub returns-in-Err-clause-why : goal.returns-in-Err-clause-why
returns-in-Err-clause-why g c =
    let e = c.in-Err.ensures in
    refused_by g.S.Store.ledger g.S.Frozen.records c.args.inner.now.attribute c.apply.new.self c.args.op.now c.in-Err.error e.left e.keeps e.entries e.counts e.refused e.widths e.spares e.room

pub returns-in-Ok-clause-done : goal.returns-in-Ok-clause-done
returns-in-Ok-clause-done g c =
    let e = c.in-Ok.ensures in
    applies_one g.S.Store.ledger _ c.args.inner.now.attribute c.apply.new.self c.args.op.now refl
    (record {
      table = e.table;
      operations = e.operations;
      makes = e.counts;
      skips = λ skipped. e.skips (ap Ok (e.applied ∙ skipped));
      keeps = e.keeps;
      rest = record { fields = e.fields; dense = e.dense; root = e.root; committed = e.committed; published = e.published; plan = e.plan };
    })
