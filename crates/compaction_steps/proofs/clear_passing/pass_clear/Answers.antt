use Rattle.std.proofs.Common.{refl, sym, subst, ◌∙◌, arith}
use Rattle.attr_compaction.specs.declared.plan.PlanKey.{PlanKey}
use Rattle.attr_compaction.specs.PhaseKeys.{HasType}
use Rattle.compaction_steps.proofs.clear_passing.pass_clear.Goals as goal

pub returns-in-Start-clause-same : goal.returns-in-Start-clause-same
returns-in-Start-clause-same g c = refl

pub pass_by_value-requires : goal.pass_by_value-requires
pass_by_value-requires g c =
    let key = sym c.key.ensures.key ∙ c.in-Value.is in (
      omega arith,
      record {
        phase_is = refl;
        key_is = key;
        documents_are = c.requires.field.documents_are;
        index_is = c.requires.field.index_is;
        typed = subst (λ (k : PlanKey). HasType c.args.field.now.value k) key c.requires.typed;
        cleared = c.requires.cleared;
      },
    )

pub returns-in-Value-clause-passes : goal.returns-in-Value-clause-passes
returns-in-Value-clause-passes g c = c.pass_by_value.ensures.passes

pub returns-in-Value-clause-few : goal.returns-in-Value-clause-few
returns-in-Value-clause-few g c = c.pass_by_value.ensures.few

pub returns-in-Value-clause-same : goal.returns-in-Value-clause-same
returns-in-Value-clause-same g c = c.pass_by_value.ensures.same

pub pass_by_document-requires : goal.pass_by_document-requires
pass_by_document-requires g c =
    let key = sym c.key.ensures.key ∙ c.in-Doc.is in (
      omega arith,
      record {
        phase_is = refl;
        key_is = key;
        documents_are = c.requires.field.documents_are;
        index_is = c.requires.field.index_is;
        typed = tt;
        cleared = c.requires.cleared;
      },
    )

pub returns-in-Doc-clause-passes : goal.returns-in-Doc-clause-passes
returns-in-Doc-clause-passes g c = c.pass_by_document.ensures.passes

pub returns-in-Doc-clause-few : goal.returns-in-Doc-clause-few
returns-in-Doc-clause-few g c = c.pass_by_document.ensures.few

pub returns-in-Doc-clause-same : goal.returns-in-Doc-clause-same
returns-in-Doc-clause-same g c = c.pass_by_document.ensures.same

pub returns-then-phase-ne-LISTS-clause-same : goal.returns-then-phase-ne-LISTS-clause-same
returns-then-phase-ne-LISTS-clause-same g c = refl

pub pass_lists-requires : goal.pass_lists-requires
pass_lists-requires g c =
    let key = sym c.key.ensures.key ∙ c.in-Pair.is in (
      omega arith,
      record {
        phase_is = sym c.phase.ensures.phase ∙ c.if-phase-ne-LISTS.false;
        key_is = key;
        documents_are = c.requires.field.documents_are;
        index_is = c.requires.field.index_is;
        typed = subst (λ (k : PlanKey). HasType c.args.field.now.value k) key c.requires.typed;
        cleared = c.requires.cleared;
      },
    )

pub returns-else-phase-ne-LISTS-clause-passes : goal.returns-else-phase-ne-LISTS-clause-passes
returns-else-phase-ne-LISTS-clause-passes g c = c.pass_lists.ensures.passes

pub returns-else-phase-ne-LISTS-clause-few : goal.returns-else-phase-ne-LISTS-clause-few
returns-else-phase-ne-LISTS-clause-few g c = c.pass_lists.ensures.few

pub returns-else-phase-ne-LISTS-clause-same : goal.returns-else-phase-ne-LISTS-clause-same
returns-else-phase-ne-LISTS-clause-same g c = c.pass_lists.ensures.same
