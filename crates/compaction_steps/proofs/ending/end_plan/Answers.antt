use Rattle.std.proofs.Common.{◌≢◌, ℕ, ◌+◌, ◌≤◌, Some, sym, ap, subst, ◌∙◌}
use Rattle.entry_ref.specs.References.{buffer_of}
use Rattle.entry_ref.specs.Records.{Records, Among}
use Rattle.store_api.specs.Ledgers.{Ledger}
use Rattle.image_format.specs.Tables.{attributes_reach}
use Rattle.attr_operations.specs.Fields.{HoldsAttributes, trees_of}
use Rattle.compaction_steps.proofs.OpenLemmas.{holds_finished}
use Rattle.compaction_steps.proofs.ending.end_plan.Goals as goal

pub finish-requires-clause-sealed : goal.finish-requires-clause-sealed
finish-requires-clause-sealed g c = ap (g.S.Store.ledger c.args.store.now).sealed c.victim-victim.ensures ∙ c.requires.under_way.sealed

pub finish-requires-clause-none : goal.finish-requires-clause-none
finish-requires-clause-none g c = c.requires.under_way.unfinished

pub returns-clause-buffer : goal.returns-clause-buffer
returns-clause-buffer g c = c.victim-victim.ensures

pub returns-clause-ledger : goal.returns-clause-ledger
returns-clause-ledger g c = c.finish.ensures.ledger ∙ ap (λ (v : ℕ). record (g.S.Store.ledger c.args.store.now) { finished = Some v }) c.victim-victim.ensures

pub returns-clause-records : goal.returns-clause-records
returns-clause-records g c = c.finish.ensures.records

pub returns-clause-apart : goal.returns-clause-apart
returns-clause-apart g c =
    let trees = trees_of c.args.fields.now c.args.roots.now in
    let few = subst (λ (f : ℕ). f ≤ c.args.plan.now.place.stage.field + 1) c.requires.under_way.all (c.requires.last.last c.requires.over) in
    subst (λ (f : Records). (r : ℕ) → Among r (attributes_reach f trees) → buffer_of g.row.OFFSET_BITS r ≢ c.args.plan.now.victim) (sym c.finish.ensures.records)
    (c.stage_law.ensures.last g.row.OFFSET_BITS c.args.plan.now.victim c.args.plan.now.place (g.S.Frozen.records c.args.store.now) trees c.requires.holds.are_fields.each c.requires.over few
    c.requires.under_way.cleared)

pub returns-clause-holds : goal.returns-clause-holds
returns-clause-holds g c =
    let ledger = g.S.Store.ledger in
    let records = g.S.Frozen.records in
    let old = c.args.store.now in
    let fields = c.args.fields.now in
    let trees = trees_of fields c.args.roots.now in
    let victim = c.args.plan.now.victim in
    let few = subst (λ (f : ℕ). f ≤ c.args.plan.now.place.stage.field + 1) c.requires.under_way.all (c.requires.last.last c.requires.over) in
    let apart = c.stage_law.ensures.last g.row.OFFSET_BITS victim c.args.plan.now.place (records old) trees c.requires.holds.are_fields.each c.requires.over few c.requires.under_way.cleared in
    subst (λ (f : Records). HoldsAttributes g.row.OFFSET_BITS (ledger c.finish.new.self) f fields trees c.args.root) (sym c.finish.ensures.records)
    (subst (λ (l : Ledger _). HoldsAttributes g.row.OFFSET_BITS l (records old) fields trees c.args.root)
    (sym (c.finish.ensures.ledger ∙ ap (λ (v : ℕ). record (ledger old) { finished = Some v }) c.victim-victim.ensures))
    (holds_finished g.row.OFFSET_BITS c.args.root (ledger old) (records old) fields trees victim apart c.requires.holds))
