use Rattle.std.proofs.Common.{refl, sym, ◌∙◌, arith}
use Rattle.compaction_steps.proofs.ClearPassLemmas.{at_phase}
use Rattle.compaction_steps.proofs.clear_passing.pass_by_document.Goals as goal

pub pass_documents-requires : goal.pass_documents-requires
pass_documents-requires g c = (omega arith, at_phase c.requires (sym c.phase.ensures.phase ∙ c.if-phase-eq-DOCUMENTS.true))

pub returns-then-phase-eq-DOCUMENTS-clause-passes : goal.returns-then-phase-eq-DOCUMENTS-clause-passes
returns-then-phase-eq-DOCUMENTS-clause-passes g c = c.pass_documents.ensures.passes

pub returns-then-phase-eq-DOCUMENTS-clause-few : goal.returns-then-phase-eq-DOCUMENTS-clause-few
returns-then-phase-eq-DOCUMENTS-clause-few g c = c.pass_documents.ensures.few

pub returns-then-phase-eq-DOCUMENTS-clause-same : goal.returns-then-phase-eq-DOCUMENTS-clause-same
returns-then-phase-eq-DOCUMENTS-clause-same g c = c.pass_documents.ensures.same

pub pass_map_nodes-requires : goal.pass_map_nodes-requires
pass_map_nodes-requires g c = (omega arith, at_phase c.requires (sym c.phase-2.ensures.phase ∙ c.if-phase-eq-NODES.true))

pub returns-then-phase-eq-NODES-clause-passes : goal.returns-then-phase-eq-NODES-clause-passes
returns-then-phase-eq-NODES-clause-passes g c = c.pass_map_nodes.ensures.passes

pub returns-then-phase-eq-NODES-clause-few : goal.returns-then-phase-eq-NODES-clause-few
returns-then-phase-eq-NODES-clause-few g c = c.pass_map_nodes.ensures.few

pub returns-then-phase-eq-NODES-clause-same : goal.returns-then-phase-eq-NODES-clause-same
returns-then-phase-eq-NODES-clause-same g c = c.pass_map_nodes.ensures.same

pub returns-clause-same : goal.returns-clause-same
returns-clause-same g c = refl
