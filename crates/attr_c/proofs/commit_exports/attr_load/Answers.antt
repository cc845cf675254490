use Rattle.std.proofs.Common.{◌≡◌, ℤ, sym, ap, subst, rules, w32, to_z, of_z, ◌∙◌}
use Rattle.attribute_kinds.specs.Calls.{KeepsStore}
use Rattle.attr_c.specs.Stores.{open_ledger}
use Rattle.attr_c.specs.Engines.{open_fields, open_operations, open_table, open_counts, AppliesOpen, StopsOpen}
use Rattle.attr_c.specs.Loading.{AreAllOf, AreFirstOf, ArePuts, IsNextLoaded, LoadsFront, StopsLoad}
use Rattle.attr_c.specs.declared.told.Told.{Told}
use Rattle.attr_c.specs.declared.state.AnyOpen.{AnyOpen}
use Rattle.attr_c.specs.declared.state.AnyOpen.TheVariants.{Narrow, Wide}
use Rattle.attr_c.proofs.EndLemmas.{stopped_as, tells_as}
use Rattle.std.proofs.lemmas.Int.{to_z-of_z}
use Rattle.attr_c.specs.Stops.{Stopped}
use Rattle.attr_c.specs.Telling.{with_count, with_place}
use Rattle.attr_c.proofs.commit_exports.attr_load.Goals as goal

pub returns-in-Narrow-clause-front : goal.returns-in-Narrow-clause-front
returns-in-Narrow-clause-front c = λ not.
    let is : c.args.at.now.value.inner ≡ Narrow c.in-Narrow.inner = search rules in
    let bytes = c.args.bytes.now in
    let now = c.load_told.new.inner.attribute in
    subst (λ (o : AnyOpen). LoadsFront (open_fields o) bytes (open_table o) now.table (open_operations o) now.operations) (sym is)
    (c.load_told.ensures.front (λ zero. not (ap (λ (z : ℤ). to_z w32 (of_z w32 z)) zero)))

pub returns-in-Wide-clause-front : goal.returns-in-Wide-clause-front
returns-in-Wide-clause-front c = λ not.
    let is : c.args.at.now.value.inner ≡ Wide c.in-Wide.inner = search rules in
    let bytes = c.args.bytes.now in
    let now = c.load_told-in-Wide.new.inner.attribute in
    subst (λ (o : AnyOpen). LoadsFront (open_fields o) bytes (open_table o) now.table (open_operations o) now.operations) (sym is)
    (c.load_told-in-Wide.ensures.front (λ zero. not (ap (λ (z : ℤ). to_z w32 (of_z w32 z)) zero)))

pub returns-in-Narrow-clause-store : goal.returns-in-Narrow-clause-store
returns-in-Narrow-clause-store c =
    let is : c.args.at.now.value.inner ≡ Narrow c.in-Narrow.inner = search rules in
    subst (λ (o : AnyOpen). KeepsStore (open_ledger o) (open_ledger (Narrow c.load_told.new.inner))) (sym is) c.load_told.ensures.keeps

pub returns-in-Wide-clause-store : goal.returns-in-Wide-clause-store
returns-in-Wide-clause-store c =
    let is : c.args.at.now.value.inner ≡ Wide c.in-Wide.inner = search rules in
    subst (λ (o : AnyOpen). KeepsStore (open_ledger o) (open_ledger (Wide c.load_told-in-Wide.new.inner))) (sym is) c.load_told-in-Wide.ensures.keeps

pub returns-in-Narrow-clause-place : goal.returns-in-Narrow-clause-place
returns-in-Narrow-clause-place c = λ not. c.load_told.ensures.place (λ bad. not (ap (λ (z : ℤ). to_z w32 (of_z w32 z)) bad)) ∙ ap (λ (t : Told). t.place) c.no_told.ensures

pub returns-in-Wide-clause-place : goal.returns-in-Wide-clause-place
returns-in-Wide-clause-place c = λ not. c.load_told-in-Wide.ensures.place (λ bad. not (ap (λ (z : ℤ). to_z w32 (of_z w32 z)) bad)) ∙ ap (λ (t : Told). t.place) c.no_told.ensures

pub returns-in-Narrow-clause-done : goal.returns-in-Narrow-clause-done
returns-in-Narrow-clause-done c = λ zero.
    let is : c.args.at.now.value.inner ≡ Narrow c.in-Narrow.inner = search rules in
    let ok = sym (to_z-of_z w32 c.load_told.result (record { sfits = c.load_told.type_inv })) ∙ zero in
    subst (λ (o : AnyOpen). AppliesOpen (ArePuts (AreAllOf c.args.bytes.now)) o (Narrow c.load_told.new.inner)) (sym is) (c.load_told.ensures.done ok)

pub returns-in-Narrow-clause-stopped : goal.returns-in-Narrow-clause-stopped
returns-in-Narrow-clause-stopped c = λ not.
    let is : c.args.at.now.value.inner ≡ Narrow c.in-Narrow.inner = search rules in
    let now = c.load_told.new.inner in
    let told = c.load_told.new.told in
    let bytes = c.args.bytes.now in
    let code = to_z-of_z w32 c.load_told.result (record { sfits = c.load_told.type_inv }) in
    let end = to_z w32 (of_z w32 c.load_told.result) in
    subst
    (λ (o : AnyOpen). Stopped
    (StopsLoad (open_fields o) bytes told.place (AppliesOpen (ArePuts (AreFirstOf (open_fields o) bytes)) o (Narrow now))
    (StopsOpen (ArePuts (AreFirstOf (open_fields o) bytes)) (IsNextLoaded bytes (open_operations o) now.attribute.operations) o (Narrow now)))
    (open_counts o) now.counts told end)
    (sym is) (stopped_as _ _ _ _ _ _ code (c.load_told.ensures.stopped (λ zero. not (ap (λ (z : ℤ). to_z w32 (of_z w32 z)) zero))))

pub returns-in-Narrow-clause-tells : goal.returns-in-Narrow-clause-tells
returns-in-Narrow-clause-tells c =
    let code = to_z-of_z w32 c.load_told.result (record { sfits = c.load_told.type_inv }) in
    tells_as (λ new old. with_count new old) (λ new old. with_place new (with_count new old)) _ _ c.load_told.new.told c.load_told.result _ c.no_told.ensures code c.load_told.ensures.tells

pub returns-in-Wide-clause-done : goal.returns-in-Wide-clause-done
returns-in-Wide-clause-done c = λ zero.
    let is : c.args.at.now.value.inner ≡ Wide c.in-Wide.inner = search rules in
    let ok = sym (to_z-of_z w32 c.load_told-in-Wide.result (record { sfits = c.load_told-in-Wide.type_inv })) ∙ zero in
    subst (λ (o : AnyOpen). AppliesOpen (ArePuts (AreAllOf c.args.bytes.now)) o (Wide c.load_told-in-Wide.new.inner)) (sym is) (c.load_told-in-Wide.ensures.done ok)

pub returns-in-Wide-clause-stopped : goal.returns-in-Wide-clause-stopped
returns-in-Wide-clause-stopped c = λ not.
    let is : c.args.at.now.value.inner ≡ Wide c.in-Wide.inner = search rules in
    let now = c.load_told-in-Wide.new.inner in
    let told = c.load_told-in-Wide.new.told in
    let bytes = c.args.bytes.now in
    let code = to_z-of_z w32 c.load_told-in-Wide.result (record { sfits = c.load_told-in-Wide.type_inv }) in
    let end = to_z w32 (of_z w32 c.load_told-in-Wide.result) in
    subst
    (λ (o : AnyOpen). Stopped
    (StopsLoad (open_fields o) bytes told.place (AppliesOpen (ArePuts (AreFirstOf (open_fields o) bytes)) o (Wide now))
    (StopsOpen (ArePuts (AreFirstOf (open_fields o) bytes)) (IsNextLoaded bytes (open_operations o) now.attribute.operations) o (Wide now)))
    (open_counts o) now.counts told end)
    (sym is) (stopped_as _ _ _ _ _ _ code (c.load_told-in-Wide.ensures.stopped (λ zero. not (ap (λ (z : ℤ). to_z w32 (of_z w32 z)) zero))))

pub returns-in-Wide-clause-tells : goal.returns-in-Wide-clause-tells
returns-in-Wide-clause-tells c =
    let code = to_z-of_z w32 c.load_told-in-Wide.result (record { sfits = c.load_told-in-Wide.type_inv }) in
    tells_as (λ new old. with_count new old) (λ new old. with_place new (with_count new old)) _ _ c.load_told-in-Wide.new.told c.load_told-in-Wide.result _ c.no_told.ensures code c.load_told-in-Wide.ensures.tells
