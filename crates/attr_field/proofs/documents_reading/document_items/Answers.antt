use Rattle.std.proofs.Common.{None, Some, sym, ap, subst, ◌∙◌, arith}
use Rattle.image_format.specs.Documents.{items_at, AreItemRecords}
use Rattle.attr_field.proofs.ReadLemmas.{found_records, found_items}
use Rattle.attr_field.proofs.documents_reading.document_items.Goals as goal

pub read_items-requires : goal.read_items-requires
read_items-requires g c =
    let records = g.F.Frozen.records in
    let found = sym c.get.ensures.items ∙ c.in-Some.is in (
      omega arith,
      subst (λ (f : g.row.F.Denot). AreItemRecords c.args.kind c.args.value_type (records f) c.in-Some.reference) (sym c.get.ensures.same)
          (found_records c.args.kind c.args.value_type (records c.args.frozen.now) c.args.root c.args.doc c.requires c.in-Some.reference found),
    )

pub returns-in_ok-read_items-in-Some-clause-items : goal.returns-in_ok-read_items-in-Some-clause-items
returns-in_ok-read_items-in-Some-clause-items g c =
    let records = g.F.Frozen.records in
    let found = sym c.get.ensures.items ∙ c.in-Some.is in
    ap Some (c.in_ok-read_items-in-Some.ensures.items ∙ ap (λ (f : g.row.F.Denot). items_at c.args.kind c.args.value_type (records f) c.in-Some.reference) c.get.ensures.same)
    ∙ found_items c.args.kind c.args.value_type (records c.args.frozen.now) c.args.root c.args.doc c.requires (Some c.in-Some.reference) found

pub returns-in-None-clause-items : goal.returns-in-None-clause-items
returns-in-None-clause-items g c =
    let records = g.F.Frozen.records in
    let found = sym c.get.ensures.items ∙ c.in-None.is in
    found_items c.args.kind c.args.value_type (records c.args.frozen.now) c.args.root c.args.doc c.requires None found
