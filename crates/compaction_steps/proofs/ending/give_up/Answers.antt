use Rattle.std.proofs.Common.{inl, inr, refl, sym, subst, ◌∙◌}
use Rattle.entry_ref.specs.Records.{Records}
use Rattle.attr_operations.specs.Fields.{HoldsAttributes, trees_of}
use Rattle.store_api.specs.Calls.{CanUnseal, Unseals}
use Rattle.compaction_steps.proofs.OpenLemmas.{can_unseal, holds_unsealed}
use Rattle.compaction_steps.proofs.ending.give_up.Goals as goal

pub same-plan : goal.same-plan
same-plan g c = refl

pub returns-then-has_copied-clause-ends : goal.returns-then-has_copied-clause-ends
returns-then-has_copied-clause-ends g c = inl (record { plan_is = refl; copied = sym c.has_copied.ensures ∙ c.if-has_copied.true; store_is = refl })

pub returns-then-has_copied-clause-records : goal.returns-then-has_copied-clause-records
returns-then-has_copied-clause-records g c = refl

pub returns-then-has_copied-clause-holds : goal.returns-then-has_copied-clause-holds
returns-then-has_copied-clause-holds g c = c.requires.holds

pub unseal-requires : goal.unseal-requires
unseal-requires g c =
    let ledger = g.S.Store.ledger c.args.store.now in
    subst (CanUnseal g.row.OFFSET_BITS ledger) (sym c.victim.ensures)
    (can_unseal g.row.OFFSET_BITS c.args.root ledger (g.S.Frozen.records c.args.store.now) c.args.fields.now (trees_of c.args.fields.now c.args.roots.now) c.args.plan
    c.requires.holds c.requires.under_way (sym c.has_copied.ensures ∙ c.if-has_copied.false))

pub returns-clause-ends : goal.returns-clause-ends
returns-clause-ends g c =
    let ledger = g.S.Store.ledger in
    inr (record {
      gone = refl;
      uncopied = sym c.has_copied.ensures ∙ c.if-has_copied.false;
      unseals = subst (Unseals (ledger c.args.store.now) (ledger c.unseal.new.self)) c.victim.ensures c.unseal.ensures.unseals;
    })

pub returns-clause-records : goal.returns-clause-records
returns-clause-records g c = c.unseal.ensures.records

pub returns-clause-holds : goal.returns-clause-holds
returns-clause-holds g c =
    let ledger = g.S.Store.ledger in
    let records = g.S.Frozen.records in
    let fields = c.args.fields.now in
    let trees = trees_of fields c.args.roots.now in
    subst (λ (f : Records). HoldsAttributes g.row.OFFSET_BITS (ledger c.unseal.new.self) f fields trees c.args.root) (sym c.unseal.ensures.records)
    (holds_unsealed g.row.OFFSET_BITS c.args.root (ledger c.args.store.now) (records c.args.store.now) fields trees c.args.plan c.requires.holds c.requires.under_way
    (sym c.has_copied.ensures ∙ c.if-has_copied.false) (ledger c.unseal.new.self) (subst (Unseals (ledger c.args.store.now) (ledger c.unseal.new.self)) c.victim.ensures c.unseal.ensures.unseals))
