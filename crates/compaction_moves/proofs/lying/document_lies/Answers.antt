use Rattle.std.proofs.Common.{ℕ, Option, sym, ap, subst, ◌∙◌, arith}
use Rattle.std.specs.Prelude.{unwrap_or}
use Rattle.image_format.specs.Documents.{AreItemRecords}
use Rattle.attr_field.proofs.ReadLemmas.{found_records}
use Rattle.compaction_moves.specs.DocumentMoves.{AreItemsApart}
use Rattle.compaction_moves.proofs.lying.document_lies.Goals as goal

pub items_lie-requires : goal.items_lie-requires
items_lie-requires g c =
    let records = g.F.Frozen.records in
    let found = sym c.get.ensures.items ∙ c.in-Some.is in (
      omega arith,
      subst (λ (f : g.row.F.Denot). AreItemRecords c.args.kind c.args.value_type (records f) c.in-Some.reference) (sym c.get.ensures.same)
          (found_records c.args.kind c.args.value_type (records c.args.frozen.now) c.args.root c.args.doc c.requires c.in-Some.reference found),
    )

pub returns-in-Some-clause-lies : goal.returns-in-Some-clause-lies
returns-in-Some-clause-lies g c told apart =
    let records = g.F.Frozen.records in
    let at = ap (λ (f : Option ℕ). unwrap_or f 0) (sym c.get.ensures.items ∙ c.in-Some.is) in
    c.items_lie.ensures.lies told
    (subst (λ (f : g.row.F.Denot). AreItemsApart g.row.OFFSET_BITS c.args.buffer c.args.kind (records f) c.in-Some.reference) (sym c.get.ensures.same)
    (subst (AreItemsApart g.row.OFFSET_BITS c.args.buffer c.args.kind (records c.args.frozen.now)) at apart))

pub returns-in-Some-clause-away : goal.returns-in-Some-clause-away
returns-in-Some-clause-away g c none =
    let records = g.F.Frozen.records in
    let at = ap (λ (f : Option ℕ). unwrap_or f 0) (sym c.get.ensures.items ∙ c.in-Some.is) in
    subst (AreItemsApart g.row.OFFSET_BITS c.args.buffer c.args.kind (records c.args.frozen.now)) (sym at)
    (subst (λ (f : g.row.F.Denot). AreItemsApart g.row.OFFSET_BITS c.args.buffer c.args.kind (records f) c.in-Some.reference) c.get.ensures.same
    (c.items_lie.ensures.away none))

pub returns-in-None-clause-away : goal.returns-in-None-clause-away
returns-in-None-clause-away g c none =
    let m = g.F.Frozen.records c.args.frozen.now in
    let gone = sym c.get.ensures.items ∙ c.in-None.is in
    subst (λ (f : Option ℕ). AreItemsApart g.row.OFFSET_BITS c.args.buffer c.args.kind m (unwrap_or f 0)) (sym gone) (record { own = tt; refer = tt })
