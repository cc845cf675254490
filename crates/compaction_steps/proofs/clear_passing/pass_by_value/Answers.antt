use Rattle.std.proofs.Common.{refl, sym, ◌∙◌, arith}
use Rattle.compaction_steps.proofs.ClearPassLemmas.{at_phase}
use Rattle.compaction_steps.proofs.clear_passing.pass_by_value.Goals as goal

pub pass_values-requires : goal.pass_values-requires
pass_values-requires g c = (omega arith, at_phase c.requires (sym c.phase.ensures.phase ∙ c.if-phase-eq-KEYS.true))

pub returns-then-phase-eq-KEYS-clause-passes : goal.returns-then-phase-eq-KEYS-clause-passes
returns-then-phase-eq-KEYS-clause-passes g c = c.pass_values.ensures.passes

pub returns-then-phase-eq-KEYS-clause-few : goal.returns-then-phase-eq-KEYS-clause-few
returns-then-phase-eq-KEYS-clause-few g c = c.pass_values.ensures.few

pub returns-then-phase-eq-KEYS-clause-same : goal.returns-then-phase-eq-KEYS-clause-same
returns-then-phase-eq-KEYS-clause-same g c = c.pass_values.ensures.same

pub pass_value_nodes-requires : goal.pass_value_nodes-requires
pass_value_nodes-requires g c = (omega arith, at_phase c.requires (sym c.phase-2.ensures.phase ∙ c.if-phase-eq-NODES.true))

pub returns-then-phase-eq-NODES-clause-passes : goal.returns-then-phase-eq-NODES-clause-passes
returns-then-phase-eq-NODES-clause-passes g c = c.pass_value_nodes.ensures.passes

pub returns-then-phase-eq-NODES-clause-few : goal.returns-then-phase-eq-NODES-clause-few
returns-then-phase-eq-NODES-clause-few g c = c.pass_value_nodes.ensures.few

pub returns-then-phase-eq-NODES-clause-same : goal.returns-then-phase-eq-NODES-clause-same
returns-then-phase-eq-NODES-clause-same g c = c.pass_value_nodes.ensures.same

pub returns-clause-same : goal.returns-clause-same
returns-clause-same g c = refl
