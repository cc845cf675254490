use Rattle.std.proofs.Common.{◌≡◌, ℤ, Ok, drop, sym, ap, subst, rules, w32, to_z, of_z, ◌∙◌}
use Rattle.attribute_kinds.specs.Calls.{KeepsStore}
use Rattle.attr_c.specs.Stores.{open_ledger}
use Rattle.attr_c.specs.Engines.{open_fields, open_operations, open_table, open_counts, AppliesOpen, StopsOpen}
use Rattle.attr_c.specs.Feeding.{FedTo, IsFirstOp, IsSaidBefore, StopsFeed}
use Rattle.feed_reader.specs.Feed.{feed_of}
use Rattle.attr_c.specs.declared.state.AnyOpen.{AnyOpen}
use Rattle.attr_c.specs.declared.state.AnyOpen.TheVariants.{Narrow, Wide}
use Rattle.attr_c.proofs.EndLemmas.{stopped_as, tells_as}
use Rattle.std.proofs.lemmas.Int.{to_z-of_z}
use Rattle.attr_c.specs.Stops.{LineOr, Stopped}
use Rattle.attr_c.specs.Holds.{with_skipped}
use Rattle.attr_c.specs.Telling.{with_fed, with_line}
use Rattle.attr_c.proofs.commit_exports.attr_feed.Goals as goal

pub returns-in-Narrow-clause-front : goal.returns-in-Narrow-clause-front
returns-in-Narrow-clause-front c = λ not.
    let is : c.args.at.now.value.inner ≡ Narrow c.in-Narrow.inner = search rules in
    let bytes = c.args.bytes.now in
    let told = c.feed_told.new.told in
    let now = c.feed_told.new.inner.attribute in
    subst (λ (o : AnyOpen). FedTo (open_fields o) bytes told.line (drop told.place bytes) (open_table o) now.table (open_operations o) now.operations told.skipped) (sym is)
    (c.feed_told.ensures.front (λ zero. not (ap (λ (z : ℤ). to_z w32 (of_z w32 z)) zero)))

pub returns-in-Wide-clause-front : goal.returns-in-Wide-clause-front
returns-in-Wide-clause-front c = λ not.
    let is : c.args.at.now.value.inner ≡ Wide c.in-Wide.inner = search rules in
    let bytes = c.args.bytes.now in
    let told = c.feed_told-in-Wide.new.told in
    let now = c.feed_told-in-Wide.new.inner.attribute in
    subst (λ (o : AnyOpen). FedTo (open_fields o) bytes told.line (drop told.place bytes) (open_table o) now.table (open_operations o) now.operations told.skipped) (sym is)
    (c.feed_told-in-Wide.ensures.front (λ zero. not (ap (λ (z : ℤ). to_z w32 (of_z w32 z)) zero)))

pub returns-in-Narrow-clause-next : goal.returns-in-Narrow-clause-next
returns-in-Narrow-clause-next c = λ not. c.feed_told.ensures.next (λ zero. not (ap (λ (z : ℤ). to_z w32 (of_z w32 z)) zero))

pub returns-in-Wide-clause-next : goal.returns-in-Wide-clause-next
returns-in-Wide-clause-next c = λ not. c.feed_told-in-Wide.ensures.next (λ zero. not (ap (λ (z : ℤ). to_z w32 (of_z w32 z)) zero))

pub returns-in-Narrow-clause-store : goal.returns-in-Narrow-clause-store
returns-in-Narrow-clause-store c =
    let is : c.args.at.now.value.inner ≡ Narrow c.in-Narrow.inner = search rules in
    subst (λ (o : AnyOpen). KeepsStore (open_ledger o) (open_ledger (Narrow c.feed_told.new.inner))) (sym is) c.feed_told.ensures.keeps

pub returns-in-Wide-clause-store : goal.returns-in-Wide-clause-store
returns-in-Wide-clause-store c =
    let is : c.args.at.now.value.inner ≡ Wide c.in-Wide.inner = search rules in
    subst (λ (o : AnyOpen). KeepsStore (open_ledger o) (open_ledger (Wide c.feed_told-in-Wide.new.inner))) (sym is) c.feed_told-in-Wide.ensures.keeps

pub returns-in-Narrow-clause-done : goal.returns-in-Narrow-clause-done
returns-in-Narrow-clause-done c = λ zero.
    let is : c.args.at.now.value.inner ≡ Narrow c.in-Narrow.inner = search rules in
    let ok = sym (to_z-of_z w32 c.feed_told.result (record { sfits = c.feed_told.type_inv })) ∙ zero in
    subst (λ (o : AnyOpen). AppliesOpen (λ ops. feed_of (open_fields o) c.args.bytes.now ≡ Ok ops) o (Narrow c.feed_told.new.inner)) (sym is) (c.feed_told.ensures.done ok)

pub returns-in-Narrow-clause-stopped : goal.returns-in-Narrow-clause-stopped
returns-in-Narrow-clause-stopped c = λ not.
    let is : c.args.at.now.value.inner ≡ Narrow c.in-Narrow.inner = search rules in
    let now = c.feed_told.new.inner in
    let told = c.feed_told.new.told in
    let bytes = c.args.bytes.now in
    let rest = drop told.place bytes in
    let code = to_z-of_z w32 c.feed_told.result (record { sfits = c.feed_told.type_inv }) in
    let end = to_z w32 (of_z w32 c.feed_told.result) in
    subst
    (λ (o : AnyOpen). Stopped
    (StopsFeed (open_fields o) bytes told.line rest
    (LineOr (AppliesOpen (IsSaidBefore (open_fields o) bytes rest) o (Narrow now)) (StopsOpen (IsSaidBefore (open_fields o) bytes rest) (IsFirstOp (open_fields o) rest) o (Narrow now))))
    (with_skipped told.skipped (open_counts o)) now.counts told end)
    (sym is) (stopped_as _ _ _ _ _ _ code (c.feed_told.ensures.stopped (λ zero. not (ap (λ (z : ℤ). to_z w32 (of_z w32 z)) zero))))

pub returns-in-Narrow-clause-tells : goal.returns-in-Narrow-clause-tells
returns-in-Narrow-clause-tells c =
    let code = to_z-of_z w32 c.feed_told.result (record { sfits = c.feed_told.type_inv }) in
    tells_as (λ new old. with_fed new old) (λ new old. with_line new (with_fed new old)) _ _ c.feed_told.new.told c.feed_told.result _ c.no_told.ensures code c.feed_told.ensures.tells

pub returns-in-Wide-clause-done : goal.returns-in-Wide-clause-done
returns-in-Wide-clause-done c = λ zero.
    let is : c.args.at.now.value.inner ≡ Wide c.in-Wide.inner = search rules in
    let ok = sym (to_z-of_z w32 c.feed_told-in-Wide.result (record { sfits = c.feed_told-in-Wide.type_inv })) ∙ zero in
    subst (λ (o : AnyOpen). AppliesOpen (λ ops. feed_of (open_fields o) c.args.bytes.now ≡ Ok ops) o (Wide c.feed_told-in-Wide.new.inner)) (sym is) (c.feed_told-in-Wide.ensures.done ok)

pub returns-in-Wide-clause-stopped : goal.returns-in-Wide-clause-stopped
returns-in-Wide-clause-stopped c = λ not.
    let is : c.args.at.now.value.inner ≡ Wide c.in-Wide.inner = search rules in
    let now = c.feed_told-in-Wide.new.inner in
    let told = c.feed_told-in-Wide.new.told in
    let bytes = c.args.bytes.now in
    let rest = drop told.place bytes in
    let code = to_z-of_z w32 c.feed_told-in-Wide.result (record { sfits = c.feed_told-in-Wide.type_inv }) in
    let end = to_z w32 (of_z w32 c.feed_told-in-Wide.result) in
    subst
    (λ (o : AnyOpen). Stopped
    (StopsFeed (open_fields o) bytes told.line rest
    (LineOr (AppliesOpen (IsSaidBefore (open_fields o) bytes rest) o (Wide now)) (StopsOpen (IsSaidBefore (open_fields o) bytes rest) (IsFirstOp (open_fields o) rest) o (Wide now))))
    (with_skipped told.skipped (open_counts o)) now.counts told end)
    (sym is) (stopped_as _ _ _ _ _ _ code (c.feed_told-in-Wide.ensures.stopped (λ zero. not (ap (λ (z : ℤ). to_z w32 (of_z w32 z)) zero))))

pub returns-in-Wide-clause-tells : goal.returns-in-Wide-clause-tells
returns-in-Wide-clause-tells c =
    let code = to_z-of_z w32 c.feed_told-in-Wide.result (record { sfits = c.feed_told-in-Wide.type_inv }) in
    tells_as (λ new old. with_fed new old) (λ new old. with_line new (with_fed new old)) _ _ c.feed_told-in-Wide.new.told c.feed_told-in-Wide.result _ c.no_told.ensures code c.feed_told-in-Wide.ensures.tells
