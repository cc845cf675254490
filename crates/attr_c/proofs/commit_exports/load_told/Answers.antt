use Rattle.std.proofs.Common.{◌-◌, ℕ, ℤ, ap, sym, subst, ◌∙◌, w32, to_z, of_z, refl}
use Rattle.std.proofs.lemmas.Int.{to_z-of_z}
use Rattle.attr_c.proofs.EndLemmas.{on_err_of, on_ok_of, place_as, stopped_as, stopped_of, tells_over}
use Rattle.attr_c.specs.Applying.{Applies}
use Rattle.attr_c.specs.Loading.{AreFirstOf, ArePuts, IsNextLoaded, StopsLoad}
use Rattle.attr_c.specs.Stops.{Stopped, StopsOperation}
use Rattle.attr_c.specs.Telling.{with_count, with_place, TellsBy}
use Rattle.attr_c.specs.declared.told.Told.{Told}
use Rattle.attr_c.proofs.commit_exports.load_told.Goals as goal

pub returns-clause-whole : goal.returns-clause-whole
returns-clause-whole g c = λ zero. on_ok_of c.load-came.result (c.ended.ensures.ok (sym (to_z-of_z w32 c.ended.result (record { sfits = c.ended.type_inv })) ∙ zero)) c.load-came.ensures.whole

pub returns-clause-front : goal.returns-clause-front
returns-clause-front g c = λ not. on_err_of c.load-came.result (c.ended.ensures.other (λ zero. not (ap (λ (z : ℤ). to_z w32 (of_z w32 z)) zero))) c.load-came.ensures.front

pub returns-clause-commit : goal.returns-clause-commit
returns-clause-commit g c = c.load-came.ensures.commit

pub returns-clause-fields : goal.returns-clause-fields
returns-clause-fields g c = c.load-came.ensures.fields

pub returns-clause-dense : goal.returns-clause-dense
returns-clause-dense g c = c.load-came.ensures.dense

pub returns-clause-keeps : goal.returns-clause-keeps
returns-clause-keeps g c = c.load-came.ensures.keeps

pub returns-clause-stopped : goal.returns-clause-stopped
returns-clause-stopped g c = λ not.
    let was = c.args.inner.now in
    let now = c.load-came.new.inner in
    let told = c.ended.new.told in
    let bytes = c.args.bytes.now in
    let which = ArePuts (AreFirstOf was.fields bytes) in
    let done = Applies g.S.Store.ledger which was.attribute now.attribute in
    let next = IsNextLoaded bytes was.attribute.operations now.attribute.operations in
    let why = StopsOperation g.S.Store.ledger g.S.Frozen.records which next was.attribute now.attribute in
    let code = to_z-of_z w32 c.ended.result (record { sfits = c.ended.type_inv }) in
    let failed = c.ended.ensures.other (λ zero. not (ap (λ (z : ℤ). to_z w32 (of_z w32 z)) zero)) in
    subst (λ (n : ℕ). Stopped (StopsLoad was.fields bytes n done why) was.counts c.ended.new.counts told (to_z w32 (of_z w32 c.ended.result))) (sym c.ended.ensures.place)
    (stopped_as _ _ _ _ _ _ code
    (stopped_of (StopsLoad was.fields bytes c.load-came.new.told.place done why) c.load-came.result was.counts _ c.ended.new.counts told c.ended.result c.load-came.ensures.counts failed
    c.load-came.ensures.why c.ended.ensures.ends))

pub returns-clause-tells : goal.returns-clause-tells
returns-clause-tells g c =
    let old = c.args.told.now in
    let new = c.ended.new.told in
    let count = c.operations.result - c.operations-before.result in
    let code = to_z-of_z w32 c.ended.result (record { sfits = c.ended.type_inv }) in
    subst (λ (z : ℤ). TellsBy (with_count new old) (with_place new (with_count new old)) new z) (sym code)
    (tells_over (λ t. with_count t old) (λ t. with_place t (with_count t old)) (λ a b. refl) (record c.load-came.new.told { operations = count }) new c.ended.result
    (λ zero. ap (λ (t : Told). record t { operations = count }) (on_ok_of c.load-came.result (c.ended.ensures.ok zero) c.load-came.ensures.tells))
    (λ not. ap (λ (t : Told). record t { operations = count }) c.load-came.ensures.tells_place)
    c.ended.ensures.tells)

pub returns-clause-place : goal.returns-clause-place
returns-clause-place g c = λ not.
    c.ended.ensures.place
    ∙ place_as c.load-came.result c.args.told.now c.load-came.new.told _ _ c.ended.new.told c.ended.result c.load-came.ensures.tells c.load-came.ensures.place c.ended.ensures.ends
    (λ bad. not (ap (λ (z : ℤ). to_z w32 (of_z w32 z)) bad))

pub returns-clause-done : goal.returns-clause-done
returns-clause-done g c = λ zero. on_ok_of c.load-came.result (c.ended.ensures.ok (sym (to_z-of_z w32 c.ended.result (record { sfits = c.ended.type_inv })) ∙ zero)) c.load-came.ensures.done

pub returns-clause-plan : goal.returns-clause-plan
returns-clause-plan g c = c.load-came.ensures.plan
