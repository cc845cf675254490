use Rattle.std.proofs.Common.{◌≡◌, sym, ◌∙◌, arith}
use Rattle.compaction_moves.specs.Cleared.{trees_of_roots}
use Rattle.attr_compaction.specs.declared.plan.PlanKey.TheVariants.{Value}
use Rattle.compaction_moves.proofs.MoveLemmas.{at_phase, value_last}
use Rattle.compaction_moves.proofs.field_moving.move_by_value.Goals as goal

pub move_value_key-requires : goal.move_value_key-requires
move_value_key-requires g c =
    let bits = g.row.OFFSET_BITS in
    let plan = c.args.plan.now in
    let a = trees_of_roots c.args.field.now c.args.roots in
    let old = g.S.Store.ledger c.args.store.now in
    let m = g.S.Frozen.records c.args.store.now in
    let phase = plan.place.stage.phase in
    (omega arith, at_phase bits plan a old m phase 0 (Value c.args.value.now) (sym c.phase.ensures.phase ∙ c.if-phase-eq-KEYS.true) c.requires.can)

pub move_value_nodes-requires : goal.move_value_nodes-requires
move_value_nodes-requires g c =
    let bits = g.row.OFFSET_BITS in
    let plan = c.args.plan.now in
    let a = trees_of_roots c.args.field.now c.args.roots in
    let old = g.S.Store.ledger c.args.store.now in
    let m = g.S.Frozen.records c.args.store.now in
    let phase = plan.place.stage.phase in
    let other : phase ≡ 0 → ⊥ = (λ e. let is = c.phase.ensures.phase in let not = c.if-phase-eq-KEYS.false in absurd (omega arith)) in
    (omega arith, value_last bits plan a old m phase c.args.value.now c.requires.below other c.requires.can)

pub returns-then-phase-eq-KEYS-clause-moved : goal.returns-then-phase-eq-KEYS-clause-moved
returns-then-phase-eq-KEYS-clause-moved g c = c.move_value_key.ensures.moved

pub returns-clause-moved : goal.returns-clause-moved
returns-clause-moved g c = c.move_value_nodes.ensures.moved

pub returns-then-phase-eq-KEYS-clause-counts : goal.returns-then-phase-eq-KEYS-clause-counts
returns-then-phase-eq-KEYS-clause-counts g c = c.move_value_key.ensures.counts

pub returns-clause-counts : goal.returns-clause-counts
returns-clause-counts g c = c.move_value_nodes.ensures.counts

pub returns-then-phase-eq-KEYS-clause-refuses : goal.returns-then-phase-eq-KEYS-clause-refuses
returns-then-phase-eq-KEYS-clause-refuses g c = c.move_value_key.ensures.refuses

pub returns-clause-refuses : goal.returns-clause-refuses
returns-clause-refuses g c = c.move_value_nodes.ensures.refuses

pub returns-then-phase-eq-KEYS-clause-may : goal.returns-then-phase-eq-KEYS-clause-may
returns-then-phase-eq-KEYS-clause-may g c = c.move_value_key.ensures.may

pub returns-clause-may : goal.returns-clause-may
returns-clause-may g c = c.move_value_nodes.ensures.may
