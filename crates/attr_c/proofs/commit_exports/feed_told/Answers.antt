use Rattle.std.proofs.Common.{◌-◌, ℤ, drop, ap, sym, ◌∙◌, w32, to_z, of_z, ℕ, subst, refl}
use Rattle.std.proofs.lemmas.Int.{to_z-of_z}
use Rattle.attr_c.proofs.EndLemmas.{on_err_of, on_ok_of, feed_stops, stopped_as, stopped_of, tells_over}
use Rattle.attr_c.specs.Applying.{Applies}
use Rattle.attr_c.specs.Stops.{LineOr, Stopped, StopsOperation}
use Rattle.attr_c.specs.Feeding.{IsFirstOp, IsSaidBefore, StopsFeed}
use Rattle.attr_c.specs.Holds.{with_skipped}
use Rattle.attr_c.specs.Telling.{with_fed, with_line, TellsBy}
use Rattle.attr_c.specs.declared.told.Told.{Told}
use Rattle.attr_c.proofs.commit_exports.feed_told.Goals as goal

pub returns-clause-whole : goal.returns-clause-whole
returns-clause-whole g c = λ zero.
    rw (c.ended.ensures.skipped) (on_ok_of c.feed-came.result (c.ended.ensures.ok (sym (to_z-of_z w32 c.ended.result (record { sfits = c.ended.type_inv })) ∙ zero)) c.feed-came.ensures.whole)

pub returns-clause-front : goal.returns-clause-front
returns-clause-front g c = λ not.
    rw (c.ended.ensures.line, c.ended.ensures.place, c.ended.ensures.skipped)
    (on_err_of c.feed-came.result (c.ended.ensures.other (λ zero. not (ap (λ (z : ℤ). to_z w32 (of_z w32 z)) zero))) c.feed-came.ensures.front)

pub returns-clause-next : goal.returns-clause-next
returns-clause-next g c = λ not.
    rw (c.ended.ensures.place, c.ended.ensures.next)
    (on_err_of c.feed-came.result (c.ended.ensures.other (λ zero. not (ap (λ (z : ℤ). to_z w32 (of_z w32 z)) zero))) c.feed-came.ensures.next)

pub returns-clause-stopped : goal.returns-clause-stopped
returns-clause-stopped g c = λ not.
    let was = c.args.inner.now in
    let fed = c.feed-came.new.inner in
    let told = c.ended.new.told in
    let bytes = c.args.bytes.now in
    let first = c.feed-came.new.told in
    let ledger = g.S.Store.ledger in
    let records = g.S.Frozen.records in
    let why = λ (place : ℕ).
    LineOr (Applies ledger (IsSaidBefore was.fields bytes (drop place bytes)) was.attribute fed.attribute)
    (StopsOperation ledger records (IsSaidBefore was.fields bytes (drop place bytes)) (IsFirstOp was.fields (drop place bytes)) was.attribute fed.attribute) in
    let cause = λ (line place : ℕ). StopsFeed was.fields bytes line (drop place bytes) (why place) in
    let code = to_z-of_z w32 c.ended.result (record { sfits = c.ended.type_inv }) in
    let failed = c.ended.ensures.other (λ zero. not (ap (λ (z : ℤ). to_z w32 (of_z w32 z)) zero)) in
    let same = ap (λ (n : ℕ). with_skipped n fed.counts) (c.from.ensures ∙ sym c.ended.ensures.skipped) ∙ ap (with_skipped told.skipped) c.feed-came.ensures.counts in
    let stops = feed_stops c.feed-came.result was.fields bytes first.line (drop first.place bytes) (why first.place) c.feed-came.ensures.refused c.feed-came.ensures.why in
    let end = to_z w32 (of_z w32 c.ended.result) in
    subst (λ (n : ℕ). Stopped (cause n told.place) (with_skipped told.skipped was.counts) c.ended.new.counts told end) (sym c.ended.ensures.line)
    (subst (λ (n : ℕ). Stopped (cause first.line n) (with_skipped told.skipped was.counts) c.ended.new.counts told end) (sym c.ended.ensures.place)
    (stopped_as _ _ _ _ _ _ code (stopped_of (cause first.line first.place) c.feed-came.result _ _ c.ended.new.counts told c.ended.result same failed stops c.ended.ensures.ends)))

pub returns-clause-tells : goal.returns-clause-tells
returns-clause-tells g c =
    let old = c.args.told.now in
    let new = c.ended.new.told in
    let count = c.operations.result - c.operations-before.result in
    let code = to_z-of_z w32 c.ended.result (record { sfits = c.ended.type_inv }) in
    subst (λ (z : ℤ). TellsBy (with_fed new old) (with_line new (with_fed new old)) new z) (sym code)
    (tells_over (λ t. with_fed t old) (λ t. with_line t (with_fed t old)) (λ a b. refl) (record c.feed-came.new.told { operations = count }) new c.ended.result
    (λ zero. ap (λ (t : Told). record t { operations = count }) (on_ok_of c.feed-came.result (c.ended.ensures.ok zero) c.feed-came.ensures.tells))
    (λ not. ap (λ (t : Told). record t { operations = count }) (on_err_of c.feed-came.result (c.ended.ensures.other not) c.feed-came.ensures.tells_line))
    c.ended.ensures.tells)

pub returns-clause-done : goal.returns-clause-done
returns-clause-done g c = λ zero. on_ok_of c.feed-came.result (c.ended.ensures.ok (sym (to_z-of_z w32 c.ended.result (record { sfits = c.ended.type_inv })) ∙ zero)) c.feed-came.ensures.done
