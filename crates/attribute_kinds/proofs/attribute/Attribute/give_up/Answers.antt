use Rattle.std.proofs.Common.{List, Option, true≢false, sym, ap, subst, ◌∙◌, arith}
use Rattle.std.specs.Option.{IfSome}
use Rattle.attr_compaction.specs.Places.{PlanView}
use Rattle.attr_field.specs.declared.roots.FieldRoots.{FieldRoots}
use Rattle.attr_types.specs.declared.field.Field.{Field}
use Rattle.attr_operations.specs.Fields.{HoldsAttributes, trees_of}
use Rattle.compaction_steps.specs.Units.{IsUnderWay}
use Rattle.attribute_kinds.specs.GivingUp.{GivesUp, KeepsPlan}
use Rattle.attribute_kinds.specs.Standing.{IsAttribute}
use Rattle.attribute_kinds.specs.Views.{AttributeView}
use Rattle.attribute_kinds.proofs.CompactLemmas.{seen}
use Rattle.attribute_kinds.proofs.GivingUpLemmas.{attribute_ends, gives_told, keeps_none, keeps_told, left_told}
use Rattle.attribute_kinds.proofs.attribute.Attribute.give_up.Goals as goal

pub invariant_of-self : goal.invariant_of-self
invariant_of-self g c =
    let inside = c.self.inside in
    let none = sym c.take.ensures.value ∙ c.in_default.is ∙ sym c.take.ensures.after in
    subst (λ (o : Option PlanView). IsAttribute inside.dense (g.S.Store.ledger inside.store) (g.S.Frozen.records inside.store) inside.fields inside.roots.items inside.last.root inside.last.commit
    inside.last.operations o inside.waits) none c.self.invariant

pub returns-in_default-clause-gives : goal.returns-in_default-clause-gives
returns-in_default-clause-gives g c = λ is. absurd (true≢false (sym is))

pub returns-in_default-clause-keeps : goal.returns-in_default-clause-keeps
returns-in_default-clause-keeps g c =
    let ledger = g.S.Store.ledger in
    let records = g.S.Frozen.records in
    let inside = c.self.inside in
    let old = inside.store in
    let fields = inside.fields in
    let trees = trees_of fields inside.roots.items in
    λ is. subst (λ (v : AttributeView g.row.S.Denot). KeepsPlan ledger v
    (seen g.row.OFFSET_BITS ledger records fields inside.dense inside.operations inside.last.root inside.last.operations old trees c.take.new.self)) c.self.view_is
    (keeps_none g.row.OFFSET_BITS ledger records fields inside.dense inside.operations inside.last.root inside.last.operations old trees inside.plan c.take.new.self
    (sym c.take.ensures.value ∙ c.in_default.is) c.take.ensures.after)

pub returns-in_default-clause-records : goal.returns-in_default-clause-records
returns-in_default-clause-records g c = ap (λ (v : AttributeView g.row.S.Denot). g.S.Frozen.records v.store) c.self.view_is

pub returns-in_default-clause-left : goal.returns-in_default-clause-left
returns-in_default-clause-left g c =
    let inside = c.self.inside in
    ap (λ (v : AttributeView g.row.S.Denot). record v { store = inside.store; plan = c.take.new.self }) c.self.view_is

pub give_up-after-requires : goal.give_up-after-requires
give_up-after-requires g c =
    let ledger = g.S.Store.ledger in
    let records = g.S.Frozen.records in
    let inside = c.self.inside in
    let old = inside.store in
    let fields = inside.fields in
    let trees = trees_of fields inside.roots.items in
    let fs = sym c.as_slice.ensures in
    let rs = sym c.deref.ensures.value in
    let was = sym c.take.ensures.value ∙ c.in-Some.is in (
      omega arith,
      (
        omega arith,
        (
          subst (λ (xs : List Field). HoldsAttributes g.row.OFFSET_BITS (ledger old) (records old) xs (trees_of xs c.deref.result.now) inside.last.root) fs
              (subst (λ (xs : List (FieldRoots g.row.OFFSET_BITS)). HoldsAttributes g.row.OFFSET_BITS (ledger old) (records old) fields (trees_of fields xs) inside.last.root) rs
              c.self.invariant.stands.holds),
          subst (λ (xs : List Field). IsUnderWay g.row.OFFSET_BITS inside.last.root (ledger old) (records old) (trees_of xs c.deref.result.now) c.in-Some.plan) fs
              (subst (λ (xs : List (FieldRoots g.row.OFFSET_BITS)). IsUnderWay g.row.OFFSET_BITS inside.last.root (ledger old) (records old) (trees_of fields xs) c.in-Some.plan) rs
              (subst (λ (o : Option PlanView). IfSome o (IsUnderWay g.row.OFFSET_BITS inside.last.root (ledger old) (records old) trees)) was c.self.invariant.plan_is)),
        ),
      ),
    )

pub invariant_of-self-2 : goal.invariant_of-self-2
invariant_of-self-2 g c =
    let ledger = g.S.Store.ledger in
    let records = g.S.Frozen.records in
    let inside = c.self.inside in
    let old = inside.store in
    let fields = inside.fields in
    let new = c.give_up-after.new.store in
    let was = sym c.take.ensures.value ∙ c.in-Some.is in
    let holds1 = subst (λ (xs : List Field). HoldsAttributes g.row.OFFSET_BITS (ledger new) (records new) xs (trees_of xs c.deref.result.now) inside.last.root) c.as_slice.ensures
    c.give_up-after.ensures.holds in
    let holds = subst (λ (xs : List (FieldRoots g.row.OFFSET_BITS)). HoldsAttributes g.row.OFFSET_BITS (ledger new) (records new) fields (trees_of fields xs) inside.last.root) c.deref.ensures.value holds1 in
    attribute_ends g.row.OFFSET_BITS ledger records fields inside.dense inside.operations inside.last.root inside.last.operations old new c.in-Some.plan inside.plan c.give_up-after.result was
    c.give_up-after.ensures.ends inside.roots.items inside.last.commit inside.waits c.give_up-after.ensures.records holds c.self.invariant

pub returns-clause-gives : goal.returns-clause-gives
returns-clause-gives g c =
    let ledger = g.S.Store.ledger in
    let records = g.S.Frozen.records in
    let inside = c.self.inside in
    let old = inside.store in
    let fields = inside.fields in
    let trees = trees_of fields inside.roots.items in
    let new = c.give_up-after.new.store in
    let was = sym c.take.ensures.value ∙ c.in-Some.is in
    λ is. subst (λ (v : AttributeView g.row.S.Denot). GivesUp ledger v
    (seen g.row.OFFSET_BITS ledger records fields inside.dense inside.operations inside.last.root inside.last.operations new trees c.give_up-after.result)) c.self.view_is
    (gives_told g.row.OFFSET_BITS ledger records fields inside.dense inside.operations inside.last.root inside.last.operations old new c.in-Some.plan inside.plan c.give_up-after.result was
    c.give_up-after.ensures.ends trees c.is_none-gone.result c.is_none-gone.ensures is)

pub returns-clause-keeps : goal.returns-clause-keeps
returns-clause-keeps g c =
    let ledger = g.S.Store.ledger in
    let records = g.S.Frozen.records in
    let inside = c.self.inside in
    let old = inside.store in
    let fields = inside.fields in
    let trees = trees_of fields inside.roots.items in
    let new = c.give_up-after.new.store in
    let was = sym c.take.ensures.value ∙ c.in-Some.is in
    λ is. subst (λ (v : AttributeView g.row.S.Denot). KeepsPlan ledger v
    (seen g.row.OFFSET_BITS ledger records fields inside.dense inside.operations inside.last.root inside.last.operations new trees c.give_up-after.result)) c.self.view_is
    (keeps_told g.row.OFFSET_BITS ledger records fields inside.dense inside.operations inside.last.root inside.last.operations old new c.in-Some.plan inside.plan c.give_up-after.result was
    c.give_up-after.ensures.ends trees c.is_none-gone.result c.is_none-gone.ensures is)

pub returns-clause-records : goal.returns-clause-records
returns-clause-records g c = c.give_up-after.ensures.records ∙ ap (λ (v : AttributeView g.row.S.Denot). g.S.Frozen.records v.store) c.self.view_is

pub returns-clause-left : goal.returns-clause-left
returns-clause-left g c =
    let ledger = g.S.Store.ledger in
    let records = g.S.Frozen.records in
    let inside = c.self.inside in
    let old = inside.store in
    let fields = inside.fields in
    let trees = trees_of fields inside.roots.items in
    let new = c.give_up-after.new.store in
    let was = sym c.take.ensures.value ∙ c.in-Some.is in
    left_told g.row.OFFSET_BITS ledger records fields inside.dense inside.operations inside.last.root inside.last.operations old new c.in-Some.plan inside.plan c.give_up-after.result was
    c.give_up-after.ensures.ends trees c.give_up-after.ensures.records
    ∙ ap (λ (v : AttributeView g.row.S.Denot). record v { store = new; plan = c.give_up-after.result }) c.self.view_is
