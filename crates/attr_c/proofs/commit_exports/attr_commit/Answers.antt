use Rattle.std.proofs.Common.{◌≡◌, ◌+◌, ◌*◌, length, ℤ, sym, ap, subst, ◌∙◌, rules, w32, to_z, of_z}
use Rattle.std.proofs.lemmas.Int.{to_z-of_z}
use Rattle.array_store.specs.Adding.{MakesOneOf}
use Rattle.image_format.specs.Words.{class_of}
use Rattle.attr_c.specs.Engines.{open_fields, open_operations, open_table, open_counts, LeavesOpen}
use Rattle.attr_c.specs.declared.state.AnyOpen.{AnyOpen}
use Rattle.attr_c.specs.declared.state.AnyOpen.TheVariants.{Narrow, Wide}
use Rattle.attr_c.proofs.EndLemmas.{stopped_as, tells_as}
use Rattle.attr_c.specs.Stores.{open_ledger}
use Rattle.attr_c.specs.Stops.{Stopped, StopsCommit}
use Rattle.attr_c.specs.Telling.{with_committed}
use Rattle.attr_c.proofs.commit_exports.attr_commit.Goals as goal

pub returns-in-Narrow-clause-committed : goal.returns-in-Narrow-clause-committed
returns-in-Narrow-clause-committed c = λ zero.
    let is : c.args.at.now.value.inner ≡ Narrow c.in-Narrow.inner = search rules in
    let ok = sym (to_z-of_z w32 c.commit_told.result (record { sfits = c.commit_told.type_inv })) ∙ zero in
    subst (λ (o : AnyOpen). c.commit_told.new.inner.attribute.committed ≡ open_table o) (sym is) (c.commit_told.ensures.committed ok)

pub returns-in-Narrow-clause-published : goal.returns-in-Narrow-clause-published
returns-in-Narrow-clause-published c = λ zero.
    let is : c.args.at.now.value.inner ≡ Narrow c.in-Narrow.inner = search rules in
    let ok = sym (to_z-of_z w32 c.commit_told.result (record { sfits = c.commit_told.type_inv })) ∙ zero in
    subst (λ (o : AnyOpen). c.commit_told.new.inner.attribute.committed_operations ≡ open_operations o) (sym is) (c.commit_told.ensures.published ok)

pub returns-in-Narrow-clause-told : goal.returns-in-Narrow-clause-told
returns-in-Narrow-clause-told c = λ zero.
    let is : c.args.at.now.value.inner ≡ Narrow c.in-Narrow.inner = search rules in
    let ok = sym (to_z-of_z w32 c.commit_told.result (record { sfits = c.commit_told.type_inv })) ∙ zero in
    subst (λ (o : AnyOpen). c.commit_told.new.told.operations ≡ open_operations o) (sym is) (c.commit_told.ensures.told ok)

pub returns-in-Wide-clause-committed : goal.returns-in-Wide-clause-committed
returns-in-Wide-clause-committed c = λ zero.
    let is : c.args.at.now.value.inner ≡ Wide c.in-Wide.inner = search rules in
    let ok = sym (to_z-of_z w32 c.commit_told-in-Wide.result (record { sfits = c.commit_told-in-Wide.type_inv })) ∙ zero in
    subst (λ (o : AnyOpen). c.commit_told-in-Wide.new.inner.attribute.committed ≡ open_table o) (sym is) (c.commit_told-in-Wide.ensures.committed ok)

pub returns-in-Wide-clause-published : goal.returns-in-Wide-clause-published
returns-in-Wide-clause-published c = λ zero.
    let is : c.args.at.now.value.inner ≡ Wide c.in-Wide.inner = search rules in
    let ok = sym (to_z-of_z w32 c.commit_told-in-Wide.result (record { sfits = c.commit_told-in-Wide.type_inv })) ∙ zero in
    subst (λ (o : AnyOpen). c.commit_told-in-Wide.new.inner.attribute.committed_operations ≡ open_operations o) (sym is) (c.commit_told-in-Wide.ensures.published ok)

pub returns-in-Wide-clause-told : goal.returns-in-Wide-clause-told
returns-in-Wide-clause-told c = λ zero.
    let is : c.args.at.now.value.inner ≡ Wide c.in-Wide.inner = search rules in
    let ok = sym (to_z-of_z w32 c.commit_told-in-Wide.result (record { sfits = c.commit_told-in-Wide.type_inv })) ∙ zero in
    subst (λ (o : AnyOpen). c.commit_told-in-Wide.new.told.operations ≡ open_operations o) (sym is) (c.commit_told-in-Wide.ensures.told ok)

pub returns-in-Narrow-clause-stopped : goal.returns-in-Narrow-clause-stopped
returns-in-Narrow-clause-stopped c = λ not.
    let is : c.args.at.now.value.inner ≡ Narrow c.in-Narrow.inner = search rules in
    let now = c.commit_told.new.inner in
    let told = c.commit_told.new.told in
    let code = to_z-of_z w32 c.commit_told.result (record { sfits = c.commit_told.type_inv }) in
    subst (λ (o : AnyOpen). Stopped (StopsCommit (open_fields o) (open_ledger o) (open_ledger (Narrow now))) (open_counts o) now.counts told (to_z w32 (of_z w32 c.commit_told.result))) (sym is)
    (stopped_as _ _ _ _ _ _ code (c.commit_told.ensures.stopped (λ zero. not (ap (λ (z : ℤ). to_z w32 (of_z w32 z)) zero))))

pub returns-in-Wide-clause-stopped : goal.returns-in-Wide-clause-stopped
returns-in-Wide-clause-stopped c = λ not.
    let is : c.args.at.now.value.inner ≡ Wide c.in-Wide.inner = search rules in
    let now = c.commit_told-in-Wide.new.inner in
    let told = c.commit_told-in-Wide.new.told in
    let code = to_z-of_z w32 c.commit_told-in-Wide.result (record { sfits = c.commit_told-in-Wide.type_inv }) in
    subst (λ (o : AnyOpen). Stopped (StopsCommit (open_fields o) (open_ledger o) (open_ledger (Wide now))) (open_counts o) now.counts told (to_z w32 (of_z w32 c.commit_told-in-Wide.result))) (sym is)
    (stopped_as _ _ _ _ _ _ code (c.commit_told-in-Wide.ensures.stopped (λ zero. not (ap (λ (z : ℤ). to_z w32 (of_z w32 z)) zero))))

pub returns-in-Narrow-clause-left : goal.returns-in-Narrow-clause-left
returns-in-Narrow-clause-left c = λ not.
    let is : c.args.at.now.value.inner ≡ Narrow c.in-Narrow.inner = search rules in
    subst (λ (o : AnyOpen). LeavesOpen o (Narrow c.commit_told.new.inner)) (sym is) (c.commit_told.ensures.left (λ zero. not (ap (λ (z : ℤ). to_z w32 (of_z w32 z)) zero)))

pub returns-in-Narrow-clause-spent : goal.returns-in-Narrow-clause-spent
returns-in-Narrow-clause-spent c = λ last.
    let is : c.args.at.now.value.inner ≡ Narrow c.in-Narrow.inner = search rules in
    to_z-of_z w32 c.commit_told.result (record { sfits = c.commit_told.type_inv })
    ∙ c.commit_told.ensures.spent (subst (λ (o : AnyOpen). (open_ledger o).work.commits.last ≡ (open_ledger o).work.sizes.commits) is last)

pub returns-in-Narrow-clause-makes : goal.returns-in-Narrow-clause-makes
returns-in-Narrow-clause-makes c =
    let is : c.args.at.now.value.inner ≡ Narrow c.in-Narrow.inner = search rules in
    let now = open_ledger (Narrow c.commit_told.new.inner) in
    subst (λ (o : AnyOpen). MakesOneOf (class_of (1 + 2 * length (open_fields o))) (open_ledger o) now) (sym is) c.commit_told.ensures.makes

pub returns-in-Narrow-clause-tells : goal.returns-in-Narrow-clause-tells
returns-in-Narrow-clause-tells c =
    let code = to_z-of_z w32 c.commit_told.result (record { sfits = c.commit_told.type_inv }) in
    tells_as (λ new old. with_committed new old) (λ new old. old) _ _ c.commit_told.new.told c.commit_told.result _ c.no_told.ensures code c.commit_told.ensures.tells

pub returns-in-Wide-clause-left : goal.returns-in-Wide-clause-left
returns-in-Wide-clause-left c = λ not.
    let is : c.args.at.now.value.inner ≡ Wide c.in-Wide.inner = search rules in
    subst (λ (o : AnyOpen). LeavesOpen o (Wide c.commit_told-in-Wide.new.inner)) (sym is) (c.commit_told-in-Wide.ensures.left (λ zero. not (ap (λ (z : ℤ). to_z w32 (of_z w32 z)) zero)))

pub returns-in-Wide-clause-spent : goal.returns-in-Wide-clause-spent
returns-in-Wide-clause-spent c = λ last.
    let is : c.args.at.now.value.inner ≡ Wide c.in-Wide.inner = search rules in
    to_z-of_z w32 c.commit_told-in-Wide.result (record { sfits = c.commit_told-in-Wide.type_inv })
    ∙ c.commit_told-in-Wide.ensures.spent (subst (λ (o : AnyOpen). (open_ledger o).work.commits.last ≡ (open_ledger o).work.sizes.commits) is last)

pub returns-in-Wide-clause-makes : goal.returns-in-Wide-clause-makes
returns-in-Wide-clause-makes c =
    let is : c.args.at.now.value.inner ≡ Wide c.in-Wide.inner = search rules in
    let now = open_ledger (Wide c.commit_told-in-Wide.new.inner) in
    subst (λ (o : AnyOpen). MakesOneOf (class_of (1 + 2 * length (open_fields o))) (open_ledger o) now) (sym is) c.commit_told-in-Wide.ensures.makes

pub returns-in-Wide-clause-tells : goal.returns-in-Wide-clause-tells
returns-in-Wide-clause-tells c =
    let code = to_z-of_z w32 c.commit_told-in-Wide.result (record { sfits = c.commit_told-in-Wide.type_inv }) in
    tells_as (λ new old. with_committed new old) (λ new old. old) _ _ c.commit_told-in-Wide.new.told c.commit_told-in-Wide.result _ c.no_told.ensures code c.commit_told-in-Wide.ensures.tells
