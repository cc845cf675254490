use Rattle.std.proofs.Common.{rules, ◌≡◌, List, Some, inl, inr, refl, sym, subst}
use Rattle.attr_types.specs.declared.field.Field.{Field}
use Rattle.attribute_kinds.specs.Compacting.{CompactsTo}
use Rattle.attribute_kinds.specs.Counts.{HasNoVectors}
use Rattle.attribute_kinds.specs.declared.answers.Compacted.{Compacted}
use Rattle.attribute_kinds.specs.declared.answers.Compacted.TheVariants.{Moved}
use Rattle.compaction_steps.specs.Counts.{MakesKeys}
use Rattle.attr_c.proofs.GivingUpLemmas.{ends_unsealed, keeps_over, makes_over}
use Rattle.attr_c.specs.Compacting.{StopsStep}
use Rattle.attr_c.specs.declared.stop.Stop.{Stop}
use Rattle.attr_c.proofs.writing.compact.Goals as goal

pub returns-in-Ok-Moved-default-None-clause-idle : goal.returns-in-Ok-Moved-default-None-clause-idle
returns-in-Ok-Moved-default-None-clause-idle g c = λ idle. let no = c.in-Ok-Moved-default-None.ensures.idle idle in cc

pub returns-in-Ok-Moved-default-Some-clause-idle : goal.returns-in-Ok-Moved-default-Some-clause-idle
returns-in-Ok-Moved-default-Some-clause-idle g c = λ idle. let no = c.in-Ok-Moved-default-Some.ensures.idle idle in cc

pub returns-in-Ok-Finished-clause-idle : goal.returns-in-Ok-Finished-clause-idle
returns-in-Ok-Finished-clause-idle g c = λ idle. let no = c.in-Ok-Finished.ensures.idle idle in cc

pub returns-in-Err-clause-idle : goal.returns-in-Err-clause-idle
returns-in-Err-clause-idle g c = λ idle. let no = c.in-Err.ensures.idle idle in cc

pub returns-in-Ok-Moved-default-Some-clause-why : goal.returns-in-Ok-Moved-default-Some-clause-why
returns-in-Ok-Moved-default-Some-clause-why g c =
    let ledger = g.S.Store.ledger in
    let records = g.S.Frozen.records in
    let old = c.args.inner.now.attribute in
    let step = c.compact_step.new.self in
    let new = c.stop_of.new.attribute in
    let moved = c.in-Ok-Moved-default-Some in
    let is : moved.field-0 ≡ Moved moved.keys (Some moved.error) = search rules in
    let went = subst (λ (m : Compacted). CompactsTo g.row.OFFSET_BITS ledger records old step c.args.keys m) is moved.ensures.steps in
    subst (λ (stop : Stop). StopsStep g.row.OFFSET_BITS ledger records old new c.args.keys c.in-Ok-Moved-default-Some.keys stop) (sym c.stop_of.ensures.is)
    (record { step = step; refused = inr went; ends = c.stop_of.ensures.ends })

pub returns-in-Ok-Moved-default-Some-clause-keeps : goal.returns-in-Ok-Moved-default-Some-clause-keeps
returns-in-Ok-Moved-default-Some-clause-keeps g c =
    let ledger = g.S.Store.ledger in
    let records = g.S.Frozen.records in
    let old = c.args.inner.now.attribute in
    let step = c.compact_step.new.self in
    let new = c.stop_of.new.attribute in
    keeps_over (ledger old.store) (ledger step.store) (ledger new.store) (ends_unsealed ledger records step new c.in-Ok-Moved-default-Some.error c.stop_of.ensures.ends) c.in-Ok-Moved-default-Some.ensures.keeps

pub returns-in-Ok-Moved-default-Some-clause-makes : goal.returns-in-Ok-Moved-default-Some-clause-makes
returns-in-Ok-Moved-default-Some-clause-makes g c =
    let ledger = g.S.Store.ledger in
    let records = g.S.Frozen.records in
    let old = c.args.inner.now.attribute in
    let step = c.compact_step.new.self in
    let new = c.stop_of.new.attribute in
    let same : old.fields ≡ c.args.inner.now.fields = search rules in
    subst (λ (fields : List Field). MakesKeys (HasNoVectors old.dense old.table) fields old.table (ledger old.store) (ledger new.store) c.args.keys) same
    (makes_over (ledger old.store) (ledger step.store) (ledger new.store) (ends_unsealed ledger records step new c.in-Ok-Moved-default-Some.error c.stop_of.ensures.ends) _ _ _ _ c.in-Ok-Moved-default-Some.ensures.makes)

pub returns-in-Err-clause-why : goal.returns-in-Err-clause-why
returns-in-Err-clause-why g c =
    let ledger = g.S.Store.ledger in
    let records = g.S.Frozen.records in
    let old = c.args.inner.now.attribute in
    let step = c.compact_step.new.self in
    let new = c.stop_of-in-Err.new.attribute in
    subst (λ (stop : Stop). StopsStep g.row.OFFSET_BITS ledger records old new c.args.keys 0 stop) (sym c.stop_of-in-Err.ensures.is)
    (record { step = step; refused = inl (c.in-Err.ensures.refuses, refl); ends = c.stop_of-in-Err.ensures.ends })

pub returns-in-Err-clause-keeps : goal.returns-in-Err-clause-keeps
returns-in-Err-clause-keeps g c =
    let ledger = g.S.Store.ledger in
    let records = g.S.Frozen.records in
    let old = c.args.inner.now.attribute in
    let step = c.compact_step.new.self in
    let new = c.stop_of-in-Err.new.attribute in
    keeps_over (ledger old.store) (ledger step.store) (ledger new.store) (ends_unsealed ledger records step new c.in-Err.error c.stop_of-in-Err.ensures.ends) c.in-Err.ensures.keeps

pub returns-in-Err-clause-makes : goal.returns-in-Err-clause-makes
returns-in-Err-clause-makes g c =
    let ledger = g.S.Store.ledger in
    let records = g.S.Frozen.records in
    let old = c.args.inner.now.attribute in
    let step = c.compact_step.new.self in
    let new = c.stop_of-in-Err.new.attribute in
    let same : old.fields ≡ c.args.inner.now.fields = search rules in
    subst (λ (fields : List Field). MakesKeys (HasNoVectors old.dense old.table) fields old.table (ledger old.store) (ledger new.store) c.args.keys) same
    (makes_over (ledger old.store) (ledger step.store) (ledger new.store) (ends_unsealed ledger records step new c.in-Err.error c.stop_of-in-Err.ensures.ends) _ _ _ _ c.in-Err.ensures.makes)
