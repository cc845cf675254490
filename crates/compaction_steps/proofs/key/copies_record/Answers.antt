use Rattle.std.proofs.Common.{◌≡◌, ℕ, true≢false, refl, sym, ap, subst, ◌∙◌, arith}
use Rattle.attr_types.specs.Value.{type_of}
use Rattle.attr_types.specs.declared.kind.ValueType.{ValueType}
use Rattle.attr_compaction.specs.PhaseKeys.{HasType}
use Rattle.attr_compaction.specs.Places.{has_key}
use Rattle.attr_compaction.specs.declared.plan.TheConstants.{KEYS}
use Rattle.attr_operations.specs.Fields.{trees_of_field}
use Rattle.value_index.specs.Indexes.{IsIndex}
use Rattle.compaction_steps.specs.Units.{HasRecordIn}
use Rattle.compaction_steps.proofs.CopyLemmas.{copies_apart, copies_elsewhere, copies_no_value}
use Rattle.compaction_steps.proofs.key.copies_record.Goals as goal

pub returns-then-phase-ne-KEYS-clause-none : goal.returns-then-phase-ne-KEYS-clause-none
returns-then-phase-ne-KEYS-clause-none g c =
    let a = trees_of_field c.args.field.now c.args.own in
    let plan = c.args.plan.now in
    let other : plan.place.stage.phase ≡ KEYS → ⊥ = (λ e. let is = c.phase.ensures.phase in let differs = c.if-phase-ne-KEYS.true in absurd (omega arith)) in
    λ done. copies_elsewhere g.row.OFFSET_BITS (g.F.Frozen.records c.args.frozen.now) a plan c.args.key.now other

pub returns-then-phase-ne-KEYS-clause-one : goal.returns-then-phase-ne-KEYS-clause-one
returns-then-phase-ne-KEYS-clause-one g c = λ same. absurd (true≢false (sym same))

pub returns-then-phase-ne-KEYS-clause-same : goal.returns-then-phase-ne-KEYS-clause-same
returns-then-phase-ne-KEYS-clause-same g c = refl

pub returns-in-Start-clause-none : goal.returns-in-Start-clause-none
returns-in-Start-clause-none g c =
    let a = trees_of_field c.args.field.now c.args.own in
    λ done. copies_no_value g.row.OFFSET_BITS (g.F.Frozen.records c.args.frozen.now) a c.args.plan.now c.args.key.now (ap (has_key KEYS) c.in-Start.is)

pub returns-in-Start-clause-one : goal.returns-in-Start-clause-one
returns-in-Start-clause-one g c = λ same. absurd (true≢false (sym same))

pub returns-in-Start-clause-same : goal.returns-in-Start-clause-same
returns-in-Start-clause-same g c = refl

pub value_lies-requires : goal.value_lies-requires
value_lies-requires g c =
    let m = g.F.Frozen.records c.args.frozen.now in
    let typed : type_of c.in-Value.value ≡ c.args.field.now.value = subst (HasType c.args.field.now.value) c.in-Value.is c.requires.typed in
    (omega arith, subst (λ (t : ValueType). IsIndex t m c.args.own.dictionary) (sym typed) c.requires.field.index_is)

pub returns-in-Value-clause-none : goal.returns-in-Value-clause-none
returns-in-Value-clause-none g c =
    let bits = g.row.OFFSET_BITS in
    let m = g.F.Frozen.records c.args.frozen.now in
    let a = trees_of_field c.args.field.now c.args.own in
    let plan = c.args.plan.now in
    λ done. copies_apart bits m a plan c.args.key.now c.in-Value.value c.in-Value.is
    (λ ref there lies. c.value_lies.ensures.apart done ref there (lies ∙ sym c.victim.ensures))

pub returns-in-Value-clause-one : goal.returns-in-Value-clause-one
returns-in-Value-clause-one g c =
    let m = g.F.Frozen.records c.args.frozen.now in
    let plan = c.args.plan.now in
    let phase : plan.place.stage.phase ≡ KEYS = (let is = c.phase.ensures.phase in let same = c.if-phase-ne-KEYS.false in omega arith) in
    λ done. record {
      phase_is = phase;
      value = c.in-Value.value;
      key_is = c.in-Value.is;
      record_in = subst (λ (b : ℕ). HasRecordIn g.row.OFFSET_BITS b c.in-Value.value m c.args.own.dictionary) c.victim.ensures (c.value_lies.ensures.lies done);
    }

pub returns-in-Value-clause-same : goal.returns-in-Value-clause-same
returns-in-Value-clause-same g c = c.value_lies.ensures.same

pub returns-in-Doc-clause-none : goal.returns-in-Doc-clause-none
returns-in-Doc-clause-none g c =
    let a = trees_of_field c.args.field.now c.args.own in
    λ done. copies_no_value g.row.OFFSET_BITS (g.F.Frozen.records c.args.frozen.now) a c.args.plan.now c.args.key.now (ap (has_key KEYS) c.in-Doc.is)

pub returns-in-Doc-clause-one : goal.returns-in-Doc-clause-one
returns-in-Doc-clause-one g c = λ same. absurd (true≢false (sym same))

pub returns-in-Doc-clause-same : goal.returns-in-Doc-clause-same
returns-in-Doc-clause-same g c = refl

pub returns-in-Pair-clause-none : goal.returns-in-Pair-clause-none
returns-in-Pair-clause-none g c =
    let a = trees_of_field c.args.field.now c.args.own in
    λ done. copies_no_value g.row.OFFSET_BITS (g.F.Frozen.records c.args.frozen.now) a c.args.plan.now c.args.key.now (ap (has_key KEYS) c.in-Pair.is)

pub returns-in-Pair-clause-one : goal.returns-in-Pair-clause-one
returns-in-Pair-clause-one g c = λ same. absurd (true≢false (sym same))

pub returns-in-Pair-clause-same : goal.returns-in-Pair-clause-same
returns-in-Pair-clause-same g c = refl
