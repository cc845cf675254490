use Rattle.std.proofs.Common.{ℤ, ap, sym, ◌∙◌, w32, to_z, of_z, refl, subst}
use Rattle.std.proofs.lemmas.Int.{to_z-of_z}
use Rattle.attr_c.proofs.EndLemmas.{code_of_stop, on_err_of, on_ok_of, stopped_as, stopped_of, tells_over}
use Rattle.attr_c.specs.Stops.{StopsCommit}
use Rattle.attr_c.specs.Telling.{with_committed, TellsBy}
use Rattle.attr_c.proofs.commit_exports.commit_told.Goals as goal

pub returns-clause-committed : goal.returns-clause-committed
returns-clause-committed g c = λ zero. on_ok_of c.commit-came.result (c.ended.ensures.ok (sym (to_z-of_z w32 c.ended.result (record { sfits = c.ended.type_inv })) ∙ zero)) c.commit-came.ensures.committed

pub returns-clause-published : goal.returns-clause-published
returns-clause-published g c = λ zero. on_ok_of c.commit-came.result (c.ended.ensures.ok (sym (to_z-of_z w32 c.ended.result (record { sfits = c.ended.type_inv })) ∙ zero)) c.commit-came.ensures.published

pub returns-clause-left : goal.returns-clause-left
returns-clause-left g c = λ not. on_err_of c.commit-came.result (c.ended.ensures.other (λ zero. not (ap (λ (z : ℤ). to_z w32 (of_z w32 z)) zero))) c.commit-came.ensures.left

pub returns-clause-told : goal.returns-clause-told
returns-clause-told g c = λ zero.
    c.ended.ensures.operations
    ∙ on_ok_of c.commit-came.result (c.ended.ensures.ok (sym (to_z-of_z w32 c.ended.result (record { sfits = c.ended.type_inv })) ∙ zero)) c.commit-came.ensures.counts

pub returns-clause-table : goal.returns-clause-table
returns-clause-table g c = c.commit-came.ensures.table

pub returns-clause-operations : goal.returns-clause-operations
returns-clause-operations g c = c.commit-came.ensures.operations

pub returns-clause-fields : goal.returns-clause-fields
returns-clause-fields g c = c.commit-came.ensures.fields

pub returns-clause-dense : goal.returns-clause-dense
returns-clause-dense g c = c.commit-came.ensures.dense

pub returns-clause-home : goal.returns-clause-home
returns-clause-home g c = c.commit-came.ensures.home

pub returns-clause-stopped : goal.returns-clause-stopped
returns-clause-stopped g c = λ not.
    let ledger = g.S.Store.ledger in
    let was = c.args.inner.now in
    let now = c.commit-came.new.inner in
    let code = to_z-of_z w32 c.ended.result (record { sfits = c.ended.type_inv }) in
    let failed = c.ended.ensures.other (λ zero. not (ap (λ (z : ℤ). to_z w32 (of_z w32 z)) zero)) in
    stopped_as _ _ _ _ _ _ code
    (stopped_of (StopsCommit was.fields (ledger was.attribute.store) (ledger now.attribute.store)) c.commit-came.result was.counts _ c.ended.new.counts c.ended.new.told c.ended.result
    (on_err_of c.commit-came.result failed c.commit-came.ensures.still) failed c.commit-came.ensures.why c.ended.ensures.ends)

pub returns-clause-spent : goal.returns-clause-spent
returns-clause-spent g c = λ last.
    to_z-of_z w32 c.ended.result (record { sfits = c.ended.type_inv })
    ∙ code_of_stop c.commit-came.result _ _ _ _ c.ended.result (c.commit-came.ensures.spent last) c.ended.ensures.ends

pub returns-clause-trees : goal.returns-clause-trees
returns-clause-trees g c = c.commit-came.ensures.trees

pub returns-clause-plan : goal.returns-clause-plan
returns-clause-plan g c = c.commit-came.ensures.plan

pub returns-clause-makes : goal.returns-clause-makes
returns-clause-makes g c = c.commit-came.ensures.makes

pub returns-clause-tells : goal.returns-clause-tells
returns-clause-tells g c =
    let old = c.args.told.now in
    let new = c.ended.new.told in
    let code = to_z-of_z w32 c.ended.result (record { sfits = c.ended.type_inv }) in
    subst (λ (z : ℤ). TellsBy (with_committed new old) (old) new z) (sym code)
    (tells_over (λ t. with_committed t old) (λ t. old) (λ a b. refl) (c.commit-came.new.told) new c.ended.result
    (λ zero. on_ok_of c.commit-came.result (c.ended.ensures.ok zero) c.commit-came.ensures.tells)
    (λ not. on_err_of c.commit-came.result (c.ended.ensures.other not) c.commit-came.ensures.tells_none)
    c.ended.ensures.tells)
