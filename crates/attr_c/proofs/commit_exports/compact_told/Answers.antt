use Rattle.std.proofs.Common.{ℕ, ℤ, ap, sym, subst, ◌∙◌, w32, to_z, of_z, refl}
use Rattle.std.proofs.lemmas.Int.{to_z-of_z}
use Rattle.attr_c.proofs.EndLemmas.{on_err_of, on_ok_of, stopped_as, stopped_of, tells_over}
use Rattle.attr_c.specs.Compacting.{StopsStep}
use Rattle.attr_c.specs.Stops.{Stopped}
use Rattle.attr_c.specs.Telling.{with_keys, with_step, TellsBy}
use Rattle.attr_c.proofs.commit_exports.compact_told.Goals as goal

pub returns-clause-steps : goal.returns-clause-steps
returns-clause-steps g c = λ zero.
    let ok = c.ended.ensures.ok (sym (to_z-of_z w32 c.ended.result (record { sfits = c.ended.type_inv })) ∙ zero) in
    let same = c.ended.ensures.same (sym (to_z-of_z w32 c.ended.result (record { sfits = c.ended.type_inv })) ∙ zero) in
    rw (same.1) (on_ok_of c.compact-came.result ok c.compact-came.ensures.steps)

pub returns-clause-stopped : goal.returns-clause-stopped
returns-clause-stopped g c = λ not.
    let was = c.args.inner.now in
    let now = c.compact-came.new.inner in
    let told = c.ended.new.told in
    let code = to_z-of_z w32 c.ended.result (record { sfits = c.ended.type_inv }) in
    let failed = c.ended.ensures.other (λ zero. not (ap (λ (z : ℤ). to_z w32 (of_z w32 z)) zero)) in
    subst (λ (n : ℕ). Stopped (StopsStep g.row.OFFSET_BITS g.S.Store.ledger g.S.Frozen.records was.attribute now.attribute c.args.keys n) was.counts c.ended.new.counts told (to_z w32 (of_z w32 c.ended.result))) (sym c.ended.ensures.keys)
    (stopped_as _ _ _ _ _ _ code
    (stopped_of (StopsStep g.row.OFFSET_BITS g.S.Store.ledger g.S.Frozen.records was.attribute now.attribute c.args.keys c.compact-came.new.told.keys) c.compact-came.result was.counts _ c.ended.new.counts told c.ended.result c.compact-came.ensures.counts failed
    c.compact-came.ensures.why c.ended.ensures.ends))

pub returns-clause-keeps : goal.returns-clause-keeps
returns-clause-keeps g c = c.compact-came.ensures.keeps

pub returns-clause-makes : goal.returns-clause-makes
returns-clause-makes g c = c.compact-came.ensures.makes

pub returns-clause-tells : goal.returns-clause-tells
returns-clause-tells g c =
    let old = c.args.told.now in
    let new = c.ended.new.told in
    let code = to_z-of_z w32 c.ended.result (record { sfits = c.ended.type_inv }) in
    subst (λ (z : ℤ). TellsBy (with_step new old) (with_keys new old) new z) (sym code)
    (tells_over (λ t. with_step t old) (λ t. with_keys t old) (λ a b. refl) (c.compact-came.new.told) new c.ended.result
    (λ zero. on_ok_of c.compact-came.result (c.ended.ensures.ok zero) c.compact-came.ensures.tells)
    (λ not. on_err_of c.compact-came.result (c.ended.ensures.other not) c.compact-came.ensures.tells_keys)
    c.ended.ensures.tells)

pub returns-clause-idle : goal.returns-clause-idle
returns-clause-idle g c = λ idle.
    let stays = c.compact-came.ensures.idle idle in
    let zero = on_ok_of c.compact-came.result stays.0 c.ended.ensures.fine in
    let same = c.ended.ensures.same zero in
    (to_z-of_z w32 c.ended.result (record { sfits = c.ended.type_inv }) ∙ zero, stays.1, rw (same.1) stays.2)
