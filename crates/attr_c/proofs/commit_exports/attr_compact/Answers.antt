use Rattle.std.proofs.Common.{◌≡◌, ℤ, sym, ap, subst, ◌∙◌, rules, w32, to_z, of_z}
use Rattle.std.proofs.lemmas.Int.{to_z-of_z}
use Rattle.attr_c.proofs.EndLemmas.{stopped_as, tells_as}
use Rattle.attr_c.specs.Compacting.{CompactsOpen, IsIdleOpen, StepsAs, StopsStepOpen}
use Rattle.attribute_kinds.specs.Calls.{KeepsStoreBut}
use Rattle.attribute_kinds.specs.Counts.{HasNoVectors}
use Rattle.compaction_steps.specs.Counts.{MakesKeys}
use Rattle.attr_c.specs.Engines.{open_counts, open_dense, open_fields, open_table, KeepsAttributes}
use Rattle.attr_c.specs.Stores.{open_ledger}
use Rattle.attr_c.specs.Stops.{Stopped}
use Rattle.attr_c.specs.declared.state.AnyOpen.{AnyOpen}
use Rattle.attr_c.specs.declared.state.AnyOpen.TheVariants.{Narrow, Wide}
use Rattle.attr_c.specs.Telling.{with_keys, with_step}
use Rattle.attr_c.proofs.commit_exports.attr_compact.Goals as goal

pub returns-in-Narrow-clause-steps : goal.returns-in-Narrow-clause-steps
returns-in-Narrow-clause-steps c = λ zero.
    let is : c.args.at.now.value.inner ≡ Narrow c.in-Narrow.inner = search rules in
    let ok = sym (to_z-of_z w32 c.compact_told.result (record { sfits = c.compact_told.type_inv })) ∙ zero in
    subst (λ (o : AnyOpen). StepsAs (CompactsOpen o (Narrow c.compact_told.new.inner) c.args.keys) c.compact_told.new.told) (sym is) (c.compact_told.ensures.steps ok)

pub returns-in-Wide-clause-steps : goal.returns-in-Wide-clause-steps
returns-in-Wide-clause-steps c = λ zero.
    let is : c.args.at.now.value.inner ≡ Wide c.in-Wide.inner = search rules in
    let ok = sym (to_z-of_z w32 c.compact_told-in-Wide.result (record { sfits = c.compact_told-in-Wide.type_inv })) ∙ zero in
    subst (λ (o : AnyOpen). StepsAs (CompactsOpen o (Wide c.compact_told-in-Wide.new.inner) c.args.keys) c.compact_told-in-Wide.new.told) (sym is) (c.compact_told-in-Wide.ensures.steps ok)

pub returns-in-Narrow-clause-store : goal.returns-in-Narrow-clause-store
returns-in-Narrow-clause-store c =
    let is : c.args.at.now.value.inner ≡ Narrow c.in-Narrow.inner = search rules in
    subst (λ (o : AnyOpen). KeepsStoreBut (open_ledger o) (open_ledger (Narrow c.compact_told.new.inner))) (sym is) c.compact_told.ensures.keeps

pub returns-in-Wide-clause-store : goal.returns-in-Wide-clause-store
returns-in-Wide-clause-store c =
    let is : c.args.at.now.value.inner ≡ Wide c.in-Wide.inner = search rules in
    subst (λ (o : AnyOpen). KeepsStoreBut (open_ledger o) (open_ledger (Wide c.compact_told-in-Wide.new.inner))) (sym is) c.compact_told-in-Wide.ensures.keeps

pub returns-in-Narrow-clause-stopped : goal.returns-in-Narrow-clause-stopped
returns-in-Narrow-clause-stopped c = λ not.
    let is : c.args.at.now.value.inner ≡ Narrow c.in-Narrow.inner = search rules in
    let now = c.compact_told.new.inner in
    let told = c.compact_told.new.told in
    let code = to_z-of_z w32 c.compact_told.result (record { sfits = c.compact_told.type_inv }) in
    let end = to_z w32 (of_z w32 c.compact_told.result) in
    subst
    (λ (o : AnyOpen). Stopped (StopsStepOpen o (Narrow now) c.args.keys told.keys) (open_counts o) now.counts told end)
    (sym is) (stopped_as _ _ _ _ _ _ code (c.compact_told.ensures.stopped (λ zero. not (ap (λ (z : ℤ). to_z w32 (of_z w32 z)) zero))))

pub returns-in-Narrow-clause-idle : goal.returns-in-Narrow-clause-idle
returns-in-Narrow-clause-idle c = λ idle.
    let is : c.args.at.now.value.inner ≡ Narrow c.in-Narrow.inner = search rules in
    let code = to_z-of_z w32 c.compact_told.result (record { sfits = c.compact_told.type_inv }) in
    let stays = c.compact_told.ensures.idle (subst (λ (o : AnyOpen). IsIdleOpen o) is idle) in
    (code ∙ stays.0, subst (λ (o : AnyOpen). KeepsAttributes o (Narrow c.compact_told.new.inner)) (sym is) stays.1, stays.2)

pub returns-in-Narrow-clause-makes : goal.returns-in-Narrow-clause-makes
returns-in-Narrow-clause-makes c =
    let is : c.args.at.now.value.inner ≡ Narrow c.in-Narrow.inner = search rules in
    let now = open_ledger (Narrow c.compact_told.new.inner) in
    subst (λ (o : AnyOpen). MakesKeys (HasNoVectors (open_dense o) (open_table o)) (open_fields o) (open_table o) (open_ledger o) now c.args.keys) (sym is)
    c.compact_told.ensures.makes

pub returns-in-Narrow-clause-tells : goal.returns-in-Narrow-clause-tells
returns-in-Narrow-clause-tells c =
    let code = to_z-of_z w32 c.compact_told.result (record { sfits = c.compact_told.type_inv }) in
    tells_as (λ new old. with_step new old) (λ new old. with_keys new old) _ _ c.compact_told.new.told c.compact_told.result _ c.no_told.ensures code c.compact_told.ensures.tells

pub returns-in-Wide-clause-stopped : goal.returns-in-Wide-clause-stopped
returns-in-Wide-clause-stopped c = λ not.
    let is : c.args.at.now.value.inner ≡ Wide c.in-Wide.inner = search rules in
    let now = c.compact_told-in-Wide.new.inner in
    let told = c.compact_told-in-Wide.new.told in
    let code = to_z-of_z w32 c.compact_told-in-Wide.result (record { sfits = c.compact_told-in-Wide.type_inv }) in
    let end = to_z w32 (of_z w32 c.compact_told-in-Wide.result) in
    subst
    (λ (o : AnyOpen). Stopped (StopsStepOpen o (Wide now) c.args.keys told.keys) (open_counts o) now.counts told end)
    (sym is) (stopped_as _ _ _ _ _ _ code (c.compact_told-in-Wide.ensures.stopped (λ zero. not (ap (λ (z : ℤ). to_z w32 (of_z w32 z)) zero))))

pub returns-in-Wide-clause-idle : goal.returns-in-Wide-clause-idle
returns-in-Wide-clause-idle c = λ idle.
    let is : c.args.at.now.value.inner ≡ Wide c.in-Wide.inner = search rules in
    let code = to_z-of_z w32 c.compact_told-in-Wide.result (record { sfits = c.compact_told-in-Wide.type_inv }) in
    let stays = c.compact_told-in-Wide.ensures.idle (subst (λ (o : AnyOpen). IsIdleOpen o) is idle) in
    (code ∙ stays.0, subst (λ (o : AnyOpen). KeepsAttributes o (Wide c.compact_told-in-Wide.new.inner)) (sym is) stays.1, stays.2)

pub returns-in-Wide-clause-makes : goal.returns-in-Wide-clause-makes
returns-in-Wide-clause-makes c =
    let is : c.args.at.now.value.inner ≡ Wide c.in-Wide.inner = search rules in
    let now = open_ledger (Wide c.compact_told-in-Wide.new.inner) in
    subst (λ (o : AnyOpen). MakesKeys (HasNoVectors (open_dense o) (open_table o)) (open_fields o) (open_table o) (open_ledger o) now c.args.keys) (sym is)
    c.compact_told-in-Wide.ensures.makes

pub returns-in-Wide-clause-tells : goal.returns-in-Wide-clause-tells
returns-in-Wide-clause-tells c =
    let code = to_z-of_z w32 c.compact_told-in-Wide.result (record { sfits = c.compact_told-in-Wide.type_inv }) in
    tells_as (λ new old. with_step new old) (λ new old. with_keys new old) _ _ c.compact_told-in-Wide.new.told c.compact_told-in-Wide.result _ c.no_told.ensures code c.compact_told-in-Wide.ensures.tells
