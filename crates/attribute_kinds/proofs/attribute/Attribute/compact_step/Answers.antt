use Rattle.std.proofs.Common.{◌≡◌, ◌≤◌, List, Option, length, refl, inl, sym, ap, subst, ◌∙◌, arith}
use Rattle.std.proofs.lemmas.List.{with_items_is}
use Rattle.std.specs.Prelude.{IfErr, IfOk}
use Rattle.std.specs.Option.{IfSome}
use Rattle.std.specs.Vec.{with_items}
use Rattle.entry_ref.specs.Images.{words_at}
use Rattle.entry_ref.specs.declared.images.Image.{Image}
use Rattle.attr_compaction.specs.Places.{PlanView}
use Rattle.attr_field.specs.declared.roots.FieldRoots.{FieldRoots}
use Rattle.image_format.specs.Images.{table_of}
use Rattle.image_format.specs.Shapes.{shape_of, types_of}
use Rattle.attr_types.specs.declared.field.Field.{Field}
use Rattle.attr_types.specs.declared.field.TheConstants.{MOST_FIELDS}
use Rattle.attr_operations.proofs.StepLemmas.{keeps_same}
use Rattle.attr_operations.specs.Fields.{HaveForms, HoldsAttributes, KeepForms, trees_of}
use Rattle.compaction_steps.specs.Units.{ArePlain, IsUnderWay}
use Rattle.attr_operations.specs.Views.{table_at}
use Rattle.compaction_steps.proofs.KeyCounts.{keys_none, keys_plain}
use Rattle.compaction_steps.proofs.PlainLemmas.{plain_by}
use Rattle.compaction_steps.specs.Counts.{MakesKeys}
use Rattle.compaction_steps.specs.Compactions.{Compacts, KeepsStoreBut}
use Rattle.compaction_steps.specs.Walks.{HasLastField}
use Rattle.attribute_kinds.specs.Counts.{HasNoVectors}
use Rattle.attribute_kinds.specs.Compacting.{CompactsTo, IsIdle, RefusesStep}
use Rattle.attribute_kinds.specs.Standing.{IsAttribute}
use Rattle.attribute_kinds.specs.Views.{AttributeView}
use Rattle.attribute_kinds.proofs.CompactLemmas.{attribute_told, idle_told, keeps_told, refuses_told, seen, steps_told, table_told}
use Rattle.attribute_kinds.proofs.PlanLemmas.{none_finished, none_waits}
use Rattle.attribute_kinds.proofs.attribute.Attribute.compact_step.Goals as goal

pub same-self : goal.same-self
same-self g c = refl

pub returns-then-self-clause-steps : goal.returns-then-self-clause-steps
returns-then-self-clause-steps g c =
    let inside = c.self.inside in
    let ledger = g.S.Store.ledger in
    let waits = sym c.if-self.true ∙ c.self.invariant.waits_is in
    let none = none_waits g.row.OFFSET_BITS inside.last.root (ledger inside.store) (g.S.Frozen.records inside.store) (trees_of inside.fields inside.roots.items) inside.plan c.self.invariant.plan_is waits in
    record {
      idle = subst (λ (v : AttributeView g.row.S.Denot). IsIdle g.row.OFFSET_BITS (ledger v.store) v.plan) c.self.view_is (record { none = none; why = inl (sym waits) });
      same = refl;
    }

pub returns-then-self-clause-idle : goal.returns-then-self-clause-idle
returns-then-self-clause-idle g c = λ idle. refl

pub returns-then-self-clause-keeps : goal.returns-then-self-clause-keeps
returns-then-self-clause-keeps g c = keeps_same (g.S.Store.ledger c.args.self.now.store)

pub returns-then-self-clause-table : goal.returns-then-self-clause-table
returns-then-self-clause-table g c = refl

pub returns-then-self-clause-operations : goal.returns-then-self-clause-operations
returns-then-self-clause-operations g c = refl

pub returns-then-self-clause-fields : goal.returns-then-self-clause-fields
returns-then-self-clause-fields g c = refl

pub returns-then-self-clause-root : goal.returns-then-self-clause-root
returns-then-self-clause-root g c = refl

pub returns-then-self-clause-committed : goal.returns-then-self-clause-committed
returns-then-self-clause-committed g c = refl

pub returns-then-self-clause-published : goal.returns-then-self-clause-published
returns-then-self-clause-published g c = refl

pub compact-plan-requires : goal.compact-plan-requires
compact-plan-requires g c =
    let ledger = g.S.Store.ledger in
    let records = g.S.Frozen.records in
    let inside = c.self.inside in
    let old = inside.store in
    let fields = inside.fields in
    let trees = trees_of fields inside.roots.items in
    let fs = sym c.as_slice.ensures in
    let rs = sym c.deref_mut.ensures.value in
    let stands = c.self.invariant.stands in (
      omega arith,
      (
        omega arith,
        (
          ap length c.deref_mut.ensures.value ∙ stands.sized ∙ sym (ap length c.as_slice.ensures),
          (
            subst (λ (xs : List Field). length xs ≤ MOST_FIELDS) fs stands.few,
            (
              subst (λ (xs : List Field). HoldsAttributes g.row.OFFSET_BITS (ledger old) (records old) xs (trees_of xs c.deref_mut.result.now) inside.last.root) fs
                  (subst (λ (xs : List (FieldRoots g.row.OFFSET_BITS)). HoldsAttributes g.row.OFFSET_BITS (ledger old) (records old) fields (trees_of fields xs) inside.last.root) rs stands.holds),
              (
                subst (λ (o : Option PlanView). IfSome o (IsUnderWay g.row.OFFSET_BITS inside.last.root (ledger old) (records old) (trees_of c.as_slice.result.now c.deref_mut.result.now))) (sym c.take-before.ensures.value)
                    (subst (λ (xs : List Field). IfSome inside.plan (IsUnderWay g.row.OFFSET_BITS inside.last.root (ledger old) (records old) (trees_of xs c.deref_mut.result.now))) fs
                    (subst (λ (xs : List (FieldRoots g.row.OFFSET_BITS)). IfSome inside.plan (IsUnderWay g.row.OFFSET_BITS inside.last.root (ledger old) (records old) (trees_of fields xs))) rs c.self.invariant.plan_is)),
                (
                  subst (λ (o : Option PlanView). IfSome o HasLastField) (sym c.take-before.ensures.value) c.self.invariant.last_is,
                  none_finished (ledger old).finished (sym c.if-self.false ∙ c.self.invariant.waits_is),
                ),
              ),
            ),
          ),
        ),
      ),
    )

pub invariant_of-self : goal.invariant_of-self
invariant_of-self g c =
    let ledger = g.S.Store.ledger in
    let records = g.S.Frozen.records in
    let inside = c.self.inside in
    let old = inside.store in
    let new = c.compact-plan.new.store in
    let fields = inside.fields in
    let others = (with_items inside.roots c.compact-plan.new.roots).items in
    let sized = c.compact-plan.ensures.sized ∙ ap length c.as_slice.ensures in
    let rs : others ≡ c.compact-plan.new.roots = with_items_is inside.roots c.compact-plan.new.roots (sized ∙ sym c.self.invariant.stands.sized ∙ sym inside.roots.ok.0) in
    let trees = trees_of fields inside.roots.items in
    let next = trees_of fields others in
    let unfinished = none_finished (ledger old).finished (sym c.if-self.false ∙ c.self.invariant.waits_is) in
    let made1 = subst (λ (fs : List Field). Compacts g.row.OFFSET_BITS inside.last.root (ledger old) (ledger new) (records old) (records new) fs (trees_of fs c.deref_mut.result.now)
    (trees_of fs c.compact-plan.new.roots) c.take-before.result c.compact-plan.result.0 (new ≡ old) c.args.keys c.compact-plan.result.1)
    c.as_slice.ensures c.compact-plan.ensures.compacts in
    let made2 = subst (λ (xs : List (FieldRoots g.row.OFFSET_BITS)). Compacts g.row.OFFSET_BITS inside.last.root (ledger old) (ledger new) (records old) (records new) fields (trees_of fields xs)
    (trees_of fields c.compact-plan.new.roots) c.take-before.result c.compact-plan.result.0 (new ≡ old) c.args.keys c.compact-plan.result.1)
    c.deref_mut.ensures.value made1 in
    let made3 = subst (λ (o : Option PlanView). Compacts g.row.OFFSET_BITS inside.last.root (ledger old) (ledger new) (records old) (records new) fields trees
    (trees_of fields c.compact-plan.new.roots) o c.compact-plan.result.0 (new ≡ old) c.args.keys c.compact-plan.result.1)
    c.take-before.ensures.value made2 in
    let made = subst (λ (xs : List (FieldRoots g.row.OFFSET_BITS)). Compacts g.row.OFFSET_BITS inside.last.root (ledger old) (ledger new) (records old) (records new) fields trees
    (trees_of fields xs) inside.plan c.compact-plan.result.0 (new ≡ old) c.args.keys c.compact-plan.result.1)
    (sym rs) made3 in
    let forms1 = subst (λ (fs : List Field). KeepForms (records old) (records new) (trees_of fs c.deref_mut.result.now) (trees_of fs c.compact-plan.new.roots)) c.as_slice.ensures c.compact-plan.ensures.forms in
    let forms = subst (λ (xs : List (FieldRoots g.row.OFFSET_BITS)). KeepForms (records old) (records new) (trees_of fields xs) (trees_of fields c.compact-plan.new.roots)) c.deref_mut.ensures.value forms1 in
    subst (λ w. IsAttribute inside.dense (ledger new) (records new) fields others inside.last.root inside.last.commit inside.last.operations c.compact-plan.result.0 w) (sym c.has_finished-self-inside.ensures)
    (attribute_told g.row.OFFSET_BITS ledger records fields inside.dense inside.operations inside.last.root inside.last.operations old new inside.roots.items others inside.plan c.compact-plan.result.0 c.args.keys
    inside.last.commit
    c.compact-plan.result.1 c.self.invariant.stands unfinished
    (ap length rs ∙ sized) made
    (subst (λ (xs : List (FieldRoots g.row.OFFSET_BITS)). HaveForms inside.dense (records new) (trees_of fields xs)) (sym rs)
    (forms inside.dense c.self.invariant.forms)))

pub returns-clause-steps : goal.returns-clause-steps
returns-clause-steps g c =
    let ledger = g.S.Store.ledger in
    let records = g.S.Frozen.records in
    let inside = c.self.inside in
    let old = inside.store in
    let new = c.compact-plan.new.store in
    let fields = inside.fields in
    let others = (with_items inside.roots c.compact-plan.new.roots).items in
    let sized = c.compact-plan.ensures.sized ∙ ap length c.as_slice.ensures in
    let rs : others ≡ c.compact-plan.new.roots = with_items_is inside.roots c.compact-plan.new.roots (sized ∙ sym c.self.invariant.stands.sized ∙ sym inside.roots.ok.0) in
    let trees = trees_of fields inside.roots.items in
    let next = trees_of fields others in
    let unfinished = none_finished (ledger old).finished (sym c.if-self.false ∙ c.self.invariant.waits_is) in
    let made1 = subst (λ (fs : List Field). Compacts g.row.OFFSET_BITS inside.last.root (ledger old) (ledger new) (records old) (records new) fs (trees_of fs c.deref_mut.result.now)
    (trees_of fs c.compact-plan.new.roots) c.take-before.result c.compact-plan.result.0 (new ≡ old) c.args.keys c.compact-plan.result.1)
    c.as_slice.ensures c.compact-plan.ensures.compacts in
    let made2 = subst (λ (xs : List (FieldRoots g.row.OFFSET_BITS)). Compacts g.row.OFFSET_BITS inside.last.root (ledger old) (ledger new) (records old) (records new) fields (trees_of fields xs)
    (trees_of fields c.compact-plan.new.roots) c.take-before.result c.compact-plan.result.0 (new ≡ old) c.args.keys c.compact-plan.result.1)
    c.deref_mut.ensures.value made1 in
    let made3 = subst (λ (o : Option PlanView). Compacts g.row.OFFSET_BITS inside.last.root (ledger old) (ledger new) (records old) (records new) fields trees
    (trees_of fields c.compact-plan.new.roots) o c.compact-plan.result.0 (new ≡ old) c.args.keys c.compact-plan.result.1)
    c.take-before.ensures.value made2 in
    let made = subst (λ (xs : List (FieldRoots g.row.OFFSET_BITS)). Compacts g.row.OFFSET_BITS inside.last.root (ledger old) (ledger new) (records old) (records new) fields trees
    (trees_of fields xs) inside.plan c.compact-plan.result.0 (new ≡ old) c.args.keys c.compact-plan.result.1)
    (sym rs) made3 in
    subst (λ (v : AttributeView g.row.S.Denot). IfOk c.told.result
    (CompactsTo g.row.OFFSET_BITS ledger records v (seen g.row.OFFSET_BITS ledger records fields inside.dense inside.operations inside.last.root inside.last.operations new next c.compact-plan.result.0) c.args.keys))
    c.self.view_is
    (subst (λ r. IfOk r (CompactsTo g.row.OFFSET_BITS ledger records (seen g.row.OFFSET_BITS ledger records fields inside.dense inside.operations inside.last.root inside.last.operations old trees inside.plan)
    (seen g.row.OFFSET_BITS ledger records fields inside.dense inside.operations inside.last.root inside.last.operations new next c.compact-plan.result.0) c.args.keys)) (sym c.told.ensures)
    (steps_told g.row.OFFSET_BITS ledger records fields inside.dense inside.operations inside.last.root inside.last.operations old new trees next inside.plan c.compact-plan.result.0 c.args.keys
    c.compact-plan.result.1 made))

pub returns-clause-refuses : goal.returns-clause-refuses
returns-clause-refuses g c =
    let ledger = g.S.Store.ledger in
    let records = g.S.Frozen.records in
    let inside = c.self.inside in
    let old = inside.store in
    let new = c.compact-plan.new.store in
    let fields = inside.fields in
    let others = (with_items inside.roots c.compact-plan.new.roots).items in
    let sized = c.compact-plan.ensures.sized ∙ ap length c.as_slice.ensures in
    let rs : others ≡ c.compact-plan.new.roots = with_items_is inside.roots c.compact-plan.new.roots (sized ∙ sym c.self.invariant.stands.sized ∙ sym inside.roots.ok.0) in
    let trees = trees_of fields inside.roots.items in
    let next = trees_of fields others in
    let unfinished = none_finished (ledger old).finished (sym c.if-self.false ∙ c.self.invariant.waits_is) in
    let made1 = subst (λ (fs : List Field). Compacts g.row.OFFSET_BITS inside.last.root (ledger old) (ledger new) (records old) (records new) fs (trees_of fs c.deref_mut.result.now)
    (trees_of fs c.compact-plan.new.roots) c.take-before.result c.compact-plan.result.0 (new ≡ old) c.args.keys c.compact-plan.result.1)
    c.as_slice.ensures c.compact-plan.ensures.compacts in
    let made2 = subst (λ (xs : List (FieldRoots g.row.OFFSET_BITS)). Compacts g.row.OFFSET_BITS inside.last.root (ledger old) (ledger new) (records old) (records new) fields (trees_of fields xs)
    (trees_of fields c.compact-plan.new.roots) c.take-before.result c.compact-plan.result.0 (new ≡ old) c.args.keys c.compact-plan.result.1)
    c.deref_mut.ensures.value made1 in
    let made3 = subst (λ (o : Option PlanView). Compacts g.row.OFFSET_BITS inside.last.root (ledger old) (ledger new) (records old) (records new) fields trees
    (trees_of fields c.compact-plan.new.roots) o c.compact-plan.result.0 (new ≡ old) c.args.keys c.compact-plan.result.1)
    c.take-before.ensures.value made2 in
    let made = subst (λ (xs : List (FieldRoots g.row.OFFSET_BITS)). Compacts g.row.OFFSET_BITS inside.last.root (ledger old) (ledger new) (records old) (records new) fields trees
    (trees_of fields xs) inside.plan c.compact-plan.result.0 (new ≡ old) c.args.keys c.compact-plan.result.1)
    (sym rs) made3 in
    subst (λ (v : AttributeView g.row.S.Denot). IfErr c.told.result
    (RefusesStep g.row.OFFSET_BITS ledger records v (seen g.row.OFFSET_BITS ledger records fields inside.dense inside.operations inside.last.root inside.last.operations new next c.compact-plan.result.0))) c.self.view_is
    (subst (λ r. IfErr r (RefusesStep g.row.OFFSET_BITS ledger records (seen g.row.OFFSET_BITS ledger records fields inside.dense inside.operations inside.last.root inside.last.operations old trees inside.plan)
    (seen g.row.OFFSET_BITS ledger records fields inside.dense inside.operations inside.last.root inside.last.operations new next c.compact-plan.result.0))) (sym c.told.ensures)
    (refuses_told g.row.OFFSET_BITS ledger records fields inside.dense inside.operations inside.last.root inside.last.operations old new trees next inside.plan c.compact-plan.result.0 c.args.keys
    c.compact-plan.result.1 made))

pub returns-clause-idle : goal.returns-clause-idle
returns-clause-idle g c =
    let ledger = g.S.Store.ledger in
    let records = g.S.Frozen.records in
    let inside = c.self.inside in
    let old = inside.store in
    let new = c.compact-plan.new.store in
    let fields = inside.fields in
    let others = (with_items inside.roots c.compact-plan.new.roots).items in
    let sized = c.compact-plan.ensures.sized ∙ ap length c.as_slice.ensures in
    let rs : others ≡ c.compact-plan.new.roots = with_items_is inside.roots c.compact-plan.new.roots (sized ∙ sym c.self.invariant.stands.sized ∙ sym inside.roots.ok.0) in
    let trees = trees_of fields inside.roots.items in
    let next = trees_of fields others in
    let unfinished = none_finished (ledger old).finished (sym c.if-self.false ∙ c.self.invariant.waits_is) in
    let made1 = subst (λ (fs : List Field). Compacts g.row.OFFSET_BITS inside.last.root (ledger old) (ledger new) (records old) (records new) fs (trees_of fs c.deref_mut.result.now)
    (trees_of fs c.compact-plan.new.roots) c.take-before.result c.compact-plan.result.0 (new ≡ old) c.args.keys c.compact-plan.result.1)
    c.as_slice.ensures c.compact-plan.ensures.compacts in
    let made2 = subst (λ (xs : List (FieldRoots g.row.OFFSET_BITS)). Compacts g.row.OFFSET_BITS inside.last.root (ledger old) (ledger new) (records old) (records new) fields (trees_of fields xs)
    (trees_of fields c.compact-plan.new.roots) c.take-before.result c.compact-plan.result.0 (new ≡ old) c.args.keys c.compact-plan.result.1)
    c.deref_mut.ensures.value made1 in
    let made3 = subst (λ (o : Option PlanView). Compacts g.row.OFFSET_BITS inside.last.root (ledger old) (ledger new) (records old) (records new) fields trees
    (trees_of fields c.compact-plan.new.roots) o c.compact-plan.result.0 (new ≡ old) c.args.keys c.compact-plan.result.1)
    c.take-before.ensures.value made2 in
    let made = subst (λ (xs : List (FieldRoots g.row.OFFSET_BITS)). Compacts g.row.OFFSET_BITS inside.last.root (ledger old) (ledger new) (records old) (records new) fields trees
    (trees_of fields xs) inside.plan c.compact-plan.result.0 (new ≡ old) c.args.keys c.compact-plan.result.1)
    (sym rs) made3 in
    λ idle. c.told.ensures ∙ idle_told g.row.OFFSET_BITS ledger records fields inside.dense inside.operations inside.last.root inside.last.operations old new trees next inside.plan c.compact-plan.result.0 c.args.keys
    c.compact-plan.result.1 made unfinished
    (subst (λ (v : AttributeView g.row.S.Denot). IsIdle g.row.OFFSET_BITS (ledger v.store) v.plan) (sym c.self.view_is) idle)

pub returns-clause-keeps : goal.returns-clause-keeps
returns-clause-keeps g c =
    let ledger = g.S.Store.ledger in
    let records = g.S.Frozen.records in
    let inside = c.self.inside in
    let old = inside.store in
    let new = c.compact-plan.new.store in
    let fields = inside.fields in
    let others = (with_items inside.roots c.compact-plan.new.roots).items in
    let sized = c.compact-plan.ensures.sized ∙ ap length c.as_slice.ensures in
    let rs : others ≡ c.compact-plan.new.roots = with_items_is inside.roots c.compact-plan.new.roots (sized ∙ sym c.self.invariant.stands.sized ∙ sym inside.roots.ok.0) in
    let trees = trees_of fields inside.roots.items in
    let next = trees_of fields others in
    let unfinished = none_finished (ledger old).finished (sym c.if-self.false ∙ c.self.invariant.waits_is) in
    let made1 = subst (λ (fs : List Field). Compacts g.row.OFFSET_BITS inside.last.root (ledger old) (ledger new) (records old) (records new) fs (trees_of fs c.deref_mut.result.now)
    (trees_of fs c.compact-plan.new.roots) c.take-before.result c.compact-plan.result.0 (new ≡ old) c.args.keys c.compact-plan.result.1)
    c.as_slice.ensures c.compact-plan.ensures.compacts in
    let made2 = subst (λ (xs : List (FieldRoots g.row.OFFSET_BITS)). Compacts g.row.OFFSET_BITS inside.last.root (ledger old) (ledger new) (records old) (records new) fields (trees_of fields xs)
    (trees_of fields c.compact-plan.new.roots) c.take-before.result c.compact-plan.result.0 (new ≡ old) c.args.keys c.compact-plan.result.1)
    c.deref_mut.ensures.value made1 in
    let made3 = subst (λ (o : Option PlanView). Compacts g.row.OFFSET_BITS inside.last.root (ledger old) (ledger new) (records old) (records new) fields trees
    (trees_of fields c.compact-plan.new.roots) o c.compact-plan.result.0 (new ≡ old) c.args.keys c.compact-plan.result.1)
    c.take-before.ensures.value made2 in
    let made = subst (λ (xs : List (FieldRoots g.row.OFFSET_BITS)). Compacts g.row.OFFSET_BITS inside.last.root (ledger old) (ledger new) (records old) (records new) fields trees
    (trees_of fields xs) inside.plan c.compact-plan.result.0 (new ≡ old) c.args.keys c.compact-plan.result.1)
    (sym rs) made3 in
    subst (λ (v : AttributeView g.row.S.Denot). KeepsStoreBut (ledger v.store) (ledger new)) c.self.view_is
    (keeps_told g.row.OFFSET_BITS ledger records fields inside.dense inside.operations inside.last.root inside.last.operations old new trees next inside.plan c.compact-plan.result.0 c.args.keys
    c.compact-plan.result.1 made)

pub returns-clause-table : goal.returns-clause-table
returns-clause-table g c =
    let ledger = g.S.Store.ledger in
    let records = g.S.Frozen.records in
    let inside = c.self.inside in
    let old = inside.store in
    let new = c.compact-plan.new.store in
    let fields = inside.fields in
    let others = (with_items inside.roots c.compact-plan.new.roots).items in
    let sized = c.compact-plan.ensures.sized ∙ ap length c.as_slice.ensures in
    let rs : others ≡ c.compact-plan.new.roots = with_items_is inside.roots c.compact-plan.new.roots (sized ∙ sym c.self.invariant.stands.sized ∙ sym inside.roots.ok.0) in
    let trees = trees_of fields inside.roots.items in
    let next = trees_of fields others in
    let unfinished = none_finished (ledger old).finished (sym c.if-self.false ∙ c.self.invariant.waits_is) in
    let made1 = subst (λ (fs : List Field). Compacts g.row.OFFSET_BITS inside.last.root (ledger old) (ledger new) (records old) (records new) fs (trees_of fs c.deref_mut.result.now)
    (trees_of fs c.compact-plan.new.roots) c.take-before.result c.compact-plan.result.0 (new ≡ old) c.args.keys c.compact-plan.result.1)
    c.as_slice.ensures c.compact-plan.ensures.compacts in
    let made2 = subst (λ (xs : List (FieldRoots g.row.OFFSET_BITS)). Compacts g.row.OFFSET_BITS inside.last.root (ledger old) (ledger new) (records old) (records new) fields (trees_of fields xs)
    (trees_of fields c.compact-plan.new.roots) c.take-before.result c.compact-plan.result.0 (new ≡ old) c.args.keys c.compact-plan.result.1)
    c.deref_mut.ensures.value made1 in
    let made3 = subst (λ (o : Option PlanView). Compacts g.row.OFFSET_BITS inside.last.root (ledger old) (ledger new) (records old) (records new) fields trees
    (trees_of fields c.compact-plan.new.roots) o c.compact-plan.result.0 (new ≡ old) c.args.keys c.compact-plan.result.1)
    c.take-before.ensures.value made2 in
    let made = subst (λ (xs : List (FieldRoots g.row.OFFSET_BITS)). Compacts g.row.OFFSET_BITS inside.last.root (ledger old) (ledger new) (records old) (records new) fields trees
    (trees_of fields xs) inside.plan c.compact-plan.result.0 (new ≡ old) c.args.keys c.compact-plan.result.1)
    (sym rs) made3 in
    table_told g.row.OFFSET_BITS ledger records fields inside.dense inside.operations inside.last.root inside.last.operations old new trees next inside.plan c.compact-plan.result.0 c.args.keys c.compact-plan.result.1
    made
    ∙ ap (λ (v : AttributeView g.row.S.Denot). v.table) c.self.view_is

pub returns-clause-operations : goal.returns-clause-operations
returns-clause-operations g c = ap (λ (v : AttributeView g.row.S.Denot). v.operations) c.self.view_is

pub returns-clause-fields : goal.returns-clause-fields
returns-clause-fields g c = ap (λ (v : AttributeView g.row.S.Denot). v.fields) c.self.view_is

pub returns-clause-root : goal.returns-clause-root
returns-clause-root g c = ap (λ (v : AttributeView g.row.S.Denot). v.root) c.self.view_is

pub returns-clause-published : goal.returns-clause-published
returns-clause-published g c = ap (λ (v : AttributeView g.row.S.Denot). v.committed_operations) c.self.view_is

pub returns-clause-committed : goal.returns-clause-committed
returns-clause-committed g c =
    let ledger = g.S.Store.ledger in
    let records = g.S.Frozen.records in
    let inside = c.self.inside in
    let old = inside.store in
    let new = c.compact-plan.new.store in
    let fields = inside.fields in
    let others = (with_items inside.roots c.compact-plan.new.roots).items in
    let sized = c.compact-plan.ensures.sized ∙ ap length c.as_slice.ensures in
    let rs : others ≡ c.compact-plan.new.roots = with_items_is inside.roots c.compact-plan.new.roots (sized ∙ sym c.self.invariant.stands.sized ∙ sym inside.roots.ok.0) in
    let trees = trees_of fields inside.roots.items in
    let next = trees_of fields others in
    let unfinished = none_finished (ledger old).finished (sym c.if-self.false ∙ c.self.invariant.waits_is) in
    let made1 = subst (λ (fs : List Field). Compacts g.row.OFFSET_BITS inside.last.root (ledger old) (ledger new) (records old) (records new) fs (trees_of fs c.deref_mut.result.now)
    (trees_of fs c.compact-plan.new.roots) c.take-before.result c.compact-plan.result.0 (new ≡ old) c.args.keys c.compact-plan.result.1)
    c.as_slice.ensures c.compact-plan.ensures.compacts in
    let made2 = subst (λ (xs : List (FieldRoots g.row.OFFSET_BITS)). Compacts g.row.OFFSET_BITS inside.last.root (ledger old) (ledger new) (records old) (records new) fields (trees_of fields xs)
    (trees_of fields c.compact-plan.new.roots) c.take-before.result c.compact-plan.result.0 (new ≡ old) c.args.keys c.compact-plan.result.1)
    c.deref_mut.ensures.value made1 in
    let made3 = subst (λ (o : Option PlanView). Compacts g.row.OFFSET_BITS inside.last.root (ledger old) (ledger new) (records old) (records new) fields trees
    (trees_of fields c.compact-plan.new.roots) o c.compact-plan.result.0 (new ≡ old) c.args.keys c.compact-plan.result.1)
    c.take-before.ensures.value made2 in
    let made = subst (λ (xs : List (FieldRoots g.row.OFFSET_BITS)). Compacts g.row.OFFSET_BITS inside.last.root (ledger old) (ledger new) (records old) (records new) fields trees
    (trees_of fields xs) inside.plan c.compact-plan.result.0 (new ≡ old) c.args.keys c.compact-plan.result.1)
    (sym rs) made3 in
    let keeps = keeps_told g.row.OFFSET_BITS ledger records fields inside.dense inside.operations inside.last.root inside.last.operations old new trees next inside.plan c.compact-plan.result.0 c.args.keys
    c.compact-plan.result.1
    made in
    ap (λ (i : Image). table_of (shape_of (types_of fields)) (words_at i) inside.last.root) keeps.commits.image ∙ ap (λ (v : AttributeView g.row.S.Denot). v.committed) c.self.view_is

pub returns-then-self-clause-makes : goal.returns-then-self-clause-makes
returns-then-self-clause-makes g c = keys_none c.args.self.now.fields c.args.self.now.table (g.S.Store.ledger c.args.self.now.store) c.args.keys

pub returns-clause-makes : goal.returns-clause-makes
returns-clause-makes g c =
    let ledger = g.S.Store.ledger in
    let records = g.S.Frozen.records in
    let inside = c.self.inside in
    let old = inside.store in
    let new = c.compact-plan.new.store in
    let fields = inside.fields in
    let trees = trees_of fields inside.roots.items in
    let first = subst (λ (fs : List Field). MakesKeys (ArePlain (records old) (trees_of fs c.deref_mut.result.now)) fs (table_at (records old) (trees_of fs c.deref_mut.result.now)) (ledger old) (ledger new) c.args.keys)
    c.as_slice.ensures c.compact-plan.ensures.counts in
    let made = subst (λ (xs : List (FieldRoots g.row.OFFSET_BITS)). MakesKeys (ArePlain (records old) (trees_of fields xs)) fields (table_at (records old) (trees_of fields xs)) (ledger old) (ledger new) c.args.keys)
    c.deref_mut.ensures.value first in
    let plain = keys_plain fields (table_at (records old) trees) (ledger old) (ledger new) c.args.keys
    (plain_by inside.dense (records old) fields trees c.self.invariant.stands.holds.are_fields c.self.invariant.forms) made in
    subst (λ (v : AttributeView g.row.S.Denot). MakesKeys (HasNoVectors v.dense v.table) v.fields v.table (ledger v.store) (ledger new) c.args.keys) c.self.view_is plain

pub returns-then-self-clause-dense : goal.returns-then-self-clause-dense
returns-then-self-clause-dense g c = refl

pub returns-clause-dense : goal.returns-clause-dense
returns-clause-dense g c = ap (λ (v : AttributeView g.row.S.Denot). v.dense) c.self.view_is
