use Rattle.std.proofs.Common.{ℕ, List, [], Option, None, Some, sym, ap, subst, ◌∙◌}
use Rattle.std.specs.Option.{unwrap_or}
use Rattle.attr_types.specs.declared.items.Item.{Item}
use Rattle.image_format.specs.Documents.{items_at, AreItemRecords}
use Rattle.attr_field.proofs.ReadLemmas.{found_records, found_items}
use Rattle.query_results.proofs.items.next_reference.Goals as goal

pub returns-in-Some-clause-records : goal.returns-in-Some-clause-records
returns-in-Some-clause-records g c =
    let a = c.args.attribute.now in
    let found = sym c.find.ensures.reference ∙ c.in-Some.is in
    found_records a.kind a.value_type (g.F.Frozen.records c.args.frozen.now) a.documents c.args.doc c.requires.documents c.in-Some.reference found

pub returns-in-Some-clause-items : goal.returns-in-Some-clause-items
returns-in-Some-clause-items g c =
    let a = c.args.attribute.now in
    let found = sym c.find.ensures.reference ∙ c.in-Some.is in
    ap (λ (o : Option (List Item)). unwrap_or o [])
    (found_items a.kind a.value_type (g.F.Frozen.records c.args.frozen.now) a.documents c.args.doc c.requires.documents (Some c.in-Some.reference) found)

pub returns-in-None-clause-records : goal.returns-in-None-clause-records
returns-in-None-clause-records g c =
    let a = c.args.attribute.now in
    subst (λ (r : ℕ). AreItemRecords a.kind a.value_type (g.F.Frozen.records c.args.frozen.now) r) (sym c.from_raw.ensures) (tt, tt)

pub returns-in-None-clause-items : goal.returns-in-None-clause-items
returns-in-None-clause-items g c =
    let a = c.args.attribute.now in
    let found = sym c.find.ensures.reference ∙ c.in-None.is in
    ap (λ (r : ℕ). items_at a.kind a.value_type (g.F.Frozen.records c.args.frozen.now) r) c.from_raw.ensures
    ∙ ap (λ (o : Option (List Item)). unwrap_or o [])
    (found_items a.kind a.value_type (g.F.Frozen.records c.args.frozen.now) a.documents c.args.doc c.requires.documents None found)
