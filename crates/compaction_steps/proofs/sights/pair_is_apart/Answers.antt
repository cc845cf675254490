use Rattle.std.proofs.Common.{refl, sym, subst, arith}
use Rattle.image_format.specs.Values.{IsValueRecord}
use Rattle.unique_store.proofs.RecordLemmas.{value_there}
use Rattle.compaction_steps.specs.Sights.{HasItemRecords, StandsApart, IsPairOf}
use Rattle.compaction_steps.specs.declared.sights.Sight.{Sight}
use Rattle.compaction_steps.proofs.sights.pair_is_apart.Goals as goal

pub is_apart-requires : goal.is_apart-requires
is_apart-requires g c =
    let m = g.F.Frozen.records c.args.frozen.now in
    let is : IsValueRecord c.args.value_type (m c.args.key) = subst (λ (s : Sight). IsPairOf c.args.kind c.args.value_type m s (c.args.key, c.args.word)) c.in-Key.is c.requires.pair in
    let below = g.met.F.Frozen.references c.args.frozen.now c.args.key (omega (arith, value_there c.args.value_type (m c.args.key) is)) in
    omega arith

pub items_are_apart-requires-clause-few : goal.items_are_apart-requires-clause-few
items_are_apart-requires-clause-few g c =
    let m = g.F.Frozen.records c.args.frozen.now in
    let is : HasItemRecords c.args.kind c.args.value_type m (c.args.key, c.args.word) =
    subst (λ (s : Sight). IsPairOf c.args.kind c.args.value_type m s (c.args.key, c.args.word)) c.in-Items.is c.requires.pair in
    is.few

pub items_are_apart-requires-clause-records : goal.items_are_apart-requires-clause-records
items_are_apart-requires-clause-records g c =
    let m = g.F.Frozen.records c.args.frozen.now in
    let is : HasItemRecords c.args.kind c.args.value_type m (c.args.key, c.args.word) =
    subst (λ (s : Sight). IsPairOf c.args.kind c.args.value_type m s (c.args.key, c.args.word)) c.in-Items.is c.requires.pair in
    is.records

pub returns-in-Key-clause-apart : goal.returns-in-Key-clause-apart
returns-in-Key-clause-apart g c told =
    subst (λ (s : Sight). StandsApart g.row.OFFSET_BITS c.args.buffer c.args.kind (g.F.Frozen.records c.args.frozen.now) s (c.args.key, c.args.word)) (sym c.in-Key.is) (c.is_apart.ensures told)

pub returns-in-Key-clause-same : goal.returns-in-Key-clause-same
returns-in-Key-clause-same g c = refl

pub returns-in-Items-clause-apart : goal.returns-in-Items-clause-apart
returns-in-Items-clause-apart g c told =
    subst (λ (s : Sight). StandsApart g.row.OFFSET_BITS c.args.buffer c.args.kind (g.F.Frozen.records c.args.frozen.now) s (c.args.key, c.args.word)) (sym c.in-Items.is)
    (c.items_are_apart.ensures.apart told)

pub returns-in-Items-clause-same : goal.returns-in-Items-clause-same
returns-in-Items-clause-same g c = c.items_are_apart.ensures.same

pub returns-in-List-clause-apart : goal.returns-in-List-clause-apart
returns-in-List-clause-apart g c told =
    subst (λ (s : Sight). StandsApart g.row.OFFSET_BITS c.args.buffer c.args.kind (g.F.Frozen.records c.args.frozen.now) s (c.args.key, c.args.word)) (sym c.in-List.is) (c.list_is_apart.ensures told)

pub returns-in-List-clause-same : goal.returns-in-List-clause-same
returns-in-List-clause-same g c = refl
