use Rattle.std.proofs.Common.{◌≡◌, sym, subst, ◌∙◌, arith}
use Rattle.std.specs.Prelude.{IfOk}
use Rattle.compaction_moves.specs.Cleared.{trees_of_roots}
use Rattle.attr_compaction.specs.declared.plan.PlanKey.TheVariants.{Doc}
use Rattle.compaction_moves.specs.Steps.{CanMove, Moved}
use Rattle.compaction_moves.proofs.MoveLemmas.{at_phase, document_last, numbered}
use Rattle.compaction_moves.proofs.field_moving.move_by_document.Goals as goal

pub new-doc-requires-clause-first : goal.new-doc-requires-clause-first
new-doc-requires-clause-first g c =
    let bits = g.row.OFFSET_BITS in
    let plan = c.args.plan.now in
    let a = trees_of_roots c.args.field.now c.args.roots in
    let old = g.S.Store.ledger c.args.store.now in
    let m = g.S.Frozen.records c.args.store.now in
    (numbered bits plan a old m plan.place.stage.phase c.args.number c.requires.below c.requires.can).0

pub new-doc-requires-clause-last : goal.new-doc-requires-clause-last
new-doc-requires-clause-last g c =
    let bits = g.row.OFFSET_BITS in
    let plan = c.args.plan.now in
    let a = trees_of_roots c.args.field.now c.args.roots in
    let old = g.S.Store.ledger c.args.store.now in
    let m = g.S.Frozen.records c.args.store.now in
    (numbered bits plan a old m plan.place.stage.phase c.args.number c.requires.below c.requires.can).1

pub move_document_items-requires : goal.move_document_items-requires
move_document_items-requires g c =
    let bits = g.row.OFFSET_BITS in
    let plan = c.args.plan.now in
    let a = trees_of_roots c.args.field.now c.args.roots in
    let old = g.S.Store.ledger c.args.store.now in
    let m = g.S.Frozen.records c.args.store.now in
    let phase = plan.place.stage.phase in (
      omega arith,
      subst (λ d. CanMove bits old m a plan 1 (Doc d)) (sym c.new-doc.ensures)
          (at_phase bits plan a old m phase 1 (Doc c.args.number) (sym c.phase.ensures.phase ∙ c.if-phase-eq-DOCUMENTS.true) c.requires.can),
    )

pub move_map_nodes-requires : goal.move_map_nodes-requires
move_map_nodes-requires g c =
    let bits = g.row.OFFSET_BITS in
    let plan = c.args.plan.now in
    let a = trees_of_roots c.args.field.now c.args.roots in
    let old = g.S.Store.ledger c.args.store.now in
    let m = g.S.Frozen.records c.args.store.now in
    let phase = plan.place.stage.phase in
    let other : phase ≡ 1 → ⊥ = (λ e. let is = c.phase.ensures.phase in let not = c.if-phase-eq-DOCUMENTS.false in absurd (omega arith)) in
    (omega arith, subst (λ d. CanMove bits old m a plan 3 (Doc d)) (sym c.new-doc.ensures) (document_last bits plan a old m phase c.args.number c.requires.below other c.requires.can))

pub returns-then-phase-eq-DOCUMENTS-clause-moved : goal.returns-then-phase-eq-DOCUMENTS-clause-moved
returns-then-phase-eq-DOCUMENTS-clause-moved g c =
    let bits = g.row.OFFSET_BITS in
    let plan = c.args.plan.now in
    let a = trees_of_roots c.args.field.now c.args.roots in
    let old = g.S.Store.ledger c.args.store.now in
    let m = g.S.Frozen.records c.args.store.now in
    let new = g.S.Store.ledger c.move_document_items.new.store in
    let n = g.S.Frozen.records c.move_document_items.new.store in
    subst (λ d. IfOk c.move_document_items.result (λ next. Moved bits plan (Doc d) old new m n a (trees_of_roots c.args.field.now next))) c.new-doc.ensures c.move_document_items.ensures.moved

pub returns-clause-moved : goal.returns-clause-moved
returns-clause-moved g c =
    let bits = g.row.OFFSET_BITS in
    let plan = c.args.plan.now in
    let a = trees_of_roots c.args.field.now c.args.roots in
    let old = g.S.Store.ledger c.args.store.now in
    let m = g.S.Frozen.records c.args.store.now in
    let new = g.S.Store.ledger c.move_map_nodes.new.store in
    let n = g.S.Frozen.records c.move_map_nodes.new.store in
    subst (λ d. IfOk c.move_map_nodes.result (λ next. Moved bits plan (Doc d) old new m n a (trees_of_roots c.args.field.now next))) c.new-doc.ensures c.move_map_nodes.ensures.moved

pub returns-then-phase-eq-DOCUMENTS-clause-counts : goal.returns-then-phase-eq-DOCUMENTS-clause-counts
returns-then-phase-eq-DOCUMENTS-clause-counts g c = c.move_document_items.ensures.counts

pub returns-clause-counts : goal.returns-clause-counts
returns-clause-counts g c = c.move_map_nodes.ensures.counts

pub returns-then-phase-eq-DOCUMENTS-clause-refuses : goal.returns-then-phase-eq-DOCUMENTS-clause-refuses
returns-then-phase-eq-DOCUMENTS-clause-refuses g c = c.move_document_items.ensures.refuses

pub returns-clause-refuses : goal.returns-clause-refuses
returns-clause-refuses g c = c.move_map_nodes.ensures.refuses

pub returns-then-phase-eq-DOCUMENTS-clause-may : goal.returns-then-phase-eq-DOCUMENTS-clause-may
returns-then-phase-eq-DOCUMENTS-clause-may g c = c.move_document_items.ensures.may

pub returns-clause-may : goal.returns-clause-may
returns-clause-may g c = c.move_map_nodes.ensures.may
