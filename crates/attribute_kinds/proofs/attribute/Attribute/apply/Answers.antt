use Rattle.std.proofs.Common.{◌≡◌, ◌+◌, Option, Result, Ok, length, sym, ap, ap₂, subst, ◌∙◌, arith}
use Rattle.std.specs.Prelude.{is_some, IfOk, Vec}
use Rattle.std.specs.Option.{IfSome}
use Rattle.std.specs.declared.alloc.Global.{Global}
use Rattle.entry_ref.specs.Images.{words_at}
use Rattle.entry_ref.specs.declared.images.Image.{Image}
use Rattle.arena_api.specs.Works.{last_image}
use Rattle.image_format.specs.Images.{table_of}
use Rattle.image_format.specs.Shapes.{shape_of, types_of}
use Rattle.attr_types.specs.Lawful.{OpFits}
use Rattle.attr_types.specs.Table.{after_op}
use Rattle.attr_operations.specs.Calls.{KeepsStore, LeavesEntries}
use Rattle.attribute_kinds.specs.Calls.{RefusesOperation, applied_to}
use Rattle.attr_operations.specs.Counts.{MakesOperation, SparesOperation}
use Rattle.attr_operations.specs.Widths.{IsFullAmong, IsOperationWidth}
use Rattle.attribute_kinds.specs.Counts.{LacksBuffers, NamesWidth, SparesOf}
use Rattle.attr_field.specs.declared.roots.FieldRoots.{FieldRoots}
use Rattle.store_api.specs.declared.store.StoreError.{StoreError}
use Rattle.attr_operations.specs.Fields.{AreFields, HaveForms, OwnsFields, trees_of}
use Rattle.attr_operations.specs.Steps.{Stepped}
use Rattle.attr_operations.specs.Views.{table_at}
use Rattle.attribute_kinds.specs.Views.{AttributeView}
use Rattle.attribute_kinds.proofs.ApplyLemmas.{changed_not, refused_not, refuses_operation, table_made, table_skipped, applied_made, applied_skipped}
use Rattle.attr_operations.proofs.Holding.{holds_owns}
use Rattle.attribute_kinds.proofs.StandLemmas.{stands_turned, stands_left}
use Rattle.attr_operations.proofs.Columns.{trees_sound}
use Rattle.attr_operations.proofs.FieldSteps.{laws_of}
use Rattle.attribute_kinds.proofs.RoomLemmas.{lacks_buffers, names_width, spares_operation}
use Rattle.attr_operations.proofs.StepLemmas.{leaves_same}
use Rattle.compaction_steps.specs.Units.{IsUnderWay}
use Rattle.attribute_kinds.proofs.PlanLemmas.{if_some_map, under_stepped}
use Rattle.compaction_steps.proofs.TurnLemmas.{left_way}
use Rattle.attribute_kinds.proofs.attribute.Attribute.apply.Goals as goal

pub step-requires : goal.step-requires
step-requires g c =
    let ledger = g.S.Store.ledger in
    let records = g.S.Frozen.records in
    let inside = c.self.inside in
    let old = inside.store in
    let fields = inside.fields in
    let trees = trees_of fields inside.roots.items in
    let holds = c.self.invariant.stands.holds in
    let fs = sym c.as_slice.ensures in
    let rs = sym c.deref.ensures.value in (
      omega arith,
      (
        holds.unit,
        (
          ap length c.deref.ensures.value ∙ c.self.invariant.stands.sized ∙ sym (ap length c.as_slice.ensures),
          (
            subst (λ xs. AreFields (records old) xs (trees_of xs c.deref.result.now)) fs (subst (λ xs. AreFields (records old) fields (trees_of fields xs)) rs holds.are_fields),
            (
              subst (λ xs. HaveForms inside.dense (records old) (trees_of xs c.deref.result.now)) fs (subst (λ xs. HaveForms inside.dense (records old) (trees_of fields xs)) rs c.self.invariant.forms),
              (
                subst (λ xs. OwnsFields (ledger old) (records old) (trees_of xs c.deref.result.now)) fs
                    (subst (λ xs. OwnsFields (ledger old) (records old) (trees_of fields xs)) rs (holds_owns g.row.OFFSET_BITS (ledger old) (records old) fields trees inside.last.root holds)),
                subst (λ xs. OpFits xs c.args.op.now) fs (subst (λ (v : AttributeView g.row.S.Denot). OpFits v.fields c.args.op.now) (sym c.self.view_is) c.requires.fits),
              ),
            ),
          ),
        ),
      ),
    )

pub overflow_add-self : goal.overflow_add-self
overflow_add-self g c =
    let same : c.self.inside.operations ≡ c.args.self.now.operations = ap (λ (v : AttributeView g.row.S.Denot). v.operations) c.self.view_is in
    let room = c.requires.room in omega arith

pub invariant_of-self : goal.invariant_of-self
invariant_of-self g c =
    let ledger = g.S.Store.ledger in
    let records = g.S.Frozen.records in
    let inside = c.self.inside in
    let old = inside.store in
    let new = c.step.new.store in
    let fields = inside.fields in
    let trees = trees_of fields inside.roots.items in
    let first = subst (λ rs. Stepped c.as_slice.result.now (ledger old) (ledger new) (records old) (records new) (trees_of c.as_slice.result.now rs) c.args.op.now (new ≡ old) c.step.result)
    c.deref.ensures.value c.step.ensures.steps in
    let steps = subst (λ fs. Stepped fs (ledger old) (ledger new) (records old) (records new) (trees_of fs inside.roots.items) c.args.op.now (new ≡ old) c.step.result) c.as_slice.ensures first in
    let is = subst (λ r. Stepped fields (ledger old) (ledger new) (records old) (records new) trees c.args.op.now (new ≡ old) r) (c.in-Ok-Some.is ∙ ap Ok c.in-Ok-Some.field-0-is) steps in
    let now = stands_turned (ledger old) (ledger new) (records old) (records new) fields inside.roots.items c.in-Ok-Some.roots.items inside.last.root inside.last.commit inside.last.operations c.self.invariant.stands
    c.step.ensures.keeps is.sized is.steps.are_fields is.steps.turns is.steps.refer is.steps.unsealed
    (laws_of c.field_law.ensures.stays c.field_law.ensures.lawful c.field_law.ensures.keys) c.field_law.ensures.reaches (record { bits_are = g.met.S.Store.sized old; sealed = g.met.S.Store.finished old }) in
    let next = trees_of fields c.in-Ok-Some.roots.items in
    let settled = (g.met.S.Store.settled old c.self.invariant.stands.holds.unit).back in
    let forms1 = subst (λ fs. IfOk c.step.result (λ made. IfSome made (λ (next : Vec (FieldRoots g.row.OFFSET_BITS) Global). HaveForms inside.dense (records new) (trees_of fs next.items)))) c.as_slice.ensures
    c.step.ensures.forms in
    let forms = subst (λ (r : Result (Option (Vec (FieldRoots g.row.OFFSET_BITS) Global)) StoreError). IfOk r (λ made. IfSome made
    (λ (next : Vec (FieldRoots g.row.OFFSET_BITS) Global). HaveForms inside.dense (records new) (trees_of fields next.items))))
    (c.in-Ok-Some.is ∙ ap Ok c.in-Ok-Some.field-0-is) forms1 in
    record {
      stands = now;
      forms = forms;
      plan_is = if_some_map (IsUnderWay g.row.OFFSET_BITS inside.last.root (ledger old) (records old) trees) (IsUnderWay g.row.OFFSET_BITS inside.last.root (ledger new) (records new) next) inside.plan
          (λ plan under. under_stepped g.row.OFFSET_BITS (ledger old) (ledger new) (records old) (records new) fields trees next c.args.op.now inside.last.root plan c.step_law.ensures settled (g.met.S.Store.sized old)
          c.self.invariant.stands.holds now.holds c.step.ensures.keeps is.steps under) c.self.invariant.plan_is;
      last_is = c.self.invariant.last_is;
      waits_is = c.self.invariant.waits_is ∙ ap is_some (sym c.step.ensures.keeps.finished);
    }

pub overflow_add-self-in-Ok-None : goal.overflow_add-self-in-Ok-None
overflow_add-self-in-Ok-None g c =
    let same : c.self.inside.operations ≡ c.args.self.now.operations = ap (λ (v : AttributeView g.row.S.Denot). v.operations) c.self.view_is in
    let room = c.requires.room in omega arith

pub invariant_of-self-in-Ok-None : goal.invariant_of-self-in-Ok-None
invariant_of-self-in-Ok-None g c =
    let ledger = g.S.Store.ledger in
    let records = g.S.Frozen.records in
    let inside = c.self.inside in
    let old = inside.store in
    let new = c.step.new.store in
    let fields = inside.fields in
    let trees = trees_of fields inside.roots.items in
    let first = subst (λ rs. Stepped c.as_slice.result.now (ledger old) (ledger new) (records old) (records new) (trees_of c.as_slice.result.now rs) c.args.op.now (new ≡ old) c.step.result)
    c.deref.ensures.value c.step.ensures.steps in
    let steps = subst (λ fs. Stepped fs (ledger old) (ledger new) (records old) (records new) (trees_of fs inside.roots.items) c.args.op.now (new ≡ old) c.step.result) c.as_slice.ensures first in
    let is = subst (λ r. Stepped fields (ledger old) (ledger new) (records old) (records new) trees c.args.op.now (new ≡ old) r) (c.in-Ok-None.is ∙ ap Ok c.in-Ok-None.field-0-is) steps in
    record {
      stands = stands_left (ledger old) (ledger new) (records old)
          (records new) fields inside.roots.items inside.roots.items inside.last.root inside.last.commit inside.last.operations c.self.invariant.stands c.step.ensures.keeps
          (subst (λ s. LeavesEntries (ledger old) (ledger s) (records old) (records s)) (sym is.store_is) (leaves_same (ledger old) (records old)));
      forms = subst (λ s. HaveForms inside.dense (records s) trees) (sym is.store_is) c.self.invariant.forms;
      plan_is = if_some_map (IsUnderWay g.row.OFFSET_BITS inside.last.root (ledger old) (records old) trees) (IsUnderWay g.row.OFFSET_BITS inside.last.root (ledger new) (records new) trees) inside.plan
          (λ plan under. left_way g.row.OFFSET_BITS inside.last.root (ledger old) (ledger new) (records old) (records new) trees plan under
          (subst (λ s. LeavesEntries (ledger old) (ledger s) (records old) (records s)) (sym is.store_is) (leaves_same (ledger old) (records old))) c.step.ensures.keeps) c.self.invariant.plan_is;
      last_is = c.self.invariant.last_is;
      waits_is = c.self.invariant.waits_is ∙ ap is_some (sym c.step.ensures.keeps.finished);
    }

pub invariant_of-self-in-Err : goal.invariant_of-self-in-Err
invariant_of-self-in-Err g c =
    let ledger = g.S.Store.ledger in
    let records = g.S.Frozen.records in
    let inside = c.self.inside in
    let old = inside.store in
    let new = c.step.new.store in
    let fields = inside.fields in
    let trees = trees_of fields inside.roots.items in
    let first = subst (λ rs. Stepped c.as_slice.result.now (ledger old) (ledger new) (records old) (records new) (trees_of c.as_slice.result.now rs) c.args.op.now (new ≡ old) c.step.result)
    c.deref.ensures.value c.step.ensures.steps in
    let steps = subst (λ fs. Stepped fs (ledger old) (ledger new) (records old) (records new) (trees_of fs inside.roots.items) c.args.op.now (new ≡ old) c.step.result) c.as_slice.ensures first in
    let is = subst (λ r. Stepped fields (ledger old) (ledger new) (records old) (records new) trees c.args.op.now (new ≡ old) r) (c.in-Err.is) steps in
    record {
      stands = stands_left (ledger old) (ledger new) (records old)
          (records new) fields inside.roots.items inside.roots.items inside.last.root inside.last.commit inside.last.operations c.self.invariant.stands c.step.ensures.keeps is.left;
      forms = subst (λ f. HaveForms inside.dense f trees) (sym is.left.records) c.self.invariant.forms;
      plan_is = if_some_map (IsUnderWay g.row.OFFSET_BITS inside.last.root (ledger old) (records old) trees) (IsUnderWay g.row.OFFSET_BITS inside.last.root (ledger new) (records new) trees) inside.plan
          (λ plan under. left_way g.row.OFFSET_BITS inside.last.root (ledger old) (ledger new) (records old) (records new) trees plan under is.left c.step.ensures.keeps) c.self.invariant.plan_is;
      last_is = c.self.invariant.last_is;
      waits_is = c.self.invariant.waits_is ∙ ap is_some (sym c.step.ensures.keeps.finished);
    }

pub returns-in-Ok-Some-clause-table : goal.returns-in-Ok-Some-clause-table
returns-in-Ok-Some-clause-table g c =
    let ledger = g.S.Store.ledger in
    let records = g.S.Frozen.records in
    let inside = c.self.inside in
    let old = inside.store in
    let new = c.step.new.store in
    let fields = inside.fields in
    let trees = trees_of fields inside.roots.items in
    let first = subst (λ rs. Stepped c.as_slice.result.now (ledger old) (ledger new) (records old) (records new) (trees_of c.as_slice.result.now rs) c.args.op.now (new ≡ old) c.step.result)
    c.deref.ensures.value c.step.ensures.steps in
    let steps = subst (λ fs. Stepped fs (ledger old) (ledger new) (records old) (records new) (trees_of fs inside.roots.items) c.args.op.now (new ≡ old) c.step.result) c.as_slice.ensures first in
    let is = subst (λ r. Stepped fields (ledger old) (ledger new) (records old) (records new) trees c.args.op.now (new ≡ old) r) (c.in-Ok-Some.is ∙ ap Ok c.in-Ok-Some.field-0-is) steps in
    table_made fields (table_at (records old) trees) c.args.op.now (table_at (records new) (trees_of fields c.in-Ok-Some.roots.items)) is.steps.step_is
    ∙ ap (λ (v : AttributeView g.row.S.Denot). after_op v.fields v.table c.args.op.now) c.self.view_is

pub returns-in-Ok-Some-clause-applied : goal.returns-in-Ok-Some-clause-applied
returns-in-Ok-Some-clause-applied g c =
    let ledger = g.S.Store.ledger in
    let records = g.S.Frozen.records in
    let inside = c.self.inside in
    let old = inside.store in
    let new = c.step.new.store in
    let fields = inside.fields in
    let trees = trees_of fields inside.roots.items in
    let first = subst (λ rs. Stepped c.as_slice.result.now (ledger old) (ledger new) (records old) (records new) (trees_of c.as_slice.result.now rs) c.args.op.now (new ≡ old) c.step.result)
    c.deref.ensures.value c.step.ensures.steps in
    let steps = subst (λ fs. Stepped fs (ledger old) (ledger new) (records old) (records new) (trees_of fs inside.roots.items) c.args.op.now (new ≡ old) c.step.result) c.as_slice.ensures first in
    let is = subst (λ r. Stepped fields (ledger old) (ledger new) (records old) (records new) trees c.args.op.now (new ≡ old) r) (c.in-Ok-Some.is ∙ ap Ok c.in-Ok-Some.field-0-is) steps in
    applied_made fields (table_at (records old) trees) c.args.op.now (table_at (records new) (trees_of fields c.in-Ok-Some.roots.items)) is.steps.step_is
    ∙ ap (λ (v : AttributeView g.row.S.Denot). applied_to v.fields v.table c.args.op.now) c.self.view_is

pub returns-in-Ok-Some-clause-operations : goal.returns-in-Ok-Some-clause-operations
returns-in-Ok-Some-clause-operations g c =
    ap (λ (v : AttributeView g.row.S.Denot). v.operations + 1) c.self.view_is

pub returns-in-Ok-Some-clause-skips : goal.returns-in-Ok-Some-clause-skips
returns-in-Ok-Some-clause-skips g c =
    λ e. changed_not e

pub returns-in-Ok-Some-clause-keeps : goal.returns-in-Ok-Some-clause-keeps
returns-in-Ok-Some-clause-keeps g c =
    let ledger = g.S.Store.ledger in
    let records = g.S.Frozen.records in
    let inside = c.self.inside in
    let old = inside.store in
    let new = c.step.new.store in
    let fields = inside.fields in
    let trees = trees_of fields inside.roots.items in
    subst (λ (v : AttributeView g.row.S.Denot). KeepsStore (ledger v.store) (ledger new)) c.self.view_is c.step.ensures.keeps

pub returns-in-Ok-Some-clause-fields : goal.returns-in-Ok-Some-clause-fields
returns-in-Ok-Some-clause-fields g c =
    ap (λ (v : AttributeView g.row.S.Denot). v.fields) c.self.view_is

pub returns-in-Ok-Some-clause-root : goal.returns-in-Ok-Some-clause-root
returns-in-Ok-Some-clause-root g c =
    ap (λ (v : AttributeView g.row.S.Denot). v.root) c.self.view_is

pub returns-in-Ok-Some-clause-committed : goal.returns-in-Ok-Some-clause-committed
returns-in-Ok-Some-clause-committed g c =
    let ledger = g.S.Store.ledger in
    let records = g.S.Frozen.records in
    let inside = c.self.inside in
    let old = inside.store in
    let new = c.step.new.store in
    let fields = inside.fields in
    let trees = trees_of fields inside.roots.items in
    ap (λ (i : Image). table_of (shape_of (types_of fields)) (words_at i) inside.last.root) c.step.ensures.keeps.commits.image ∙ ap (λ (v : AttributeView g.row.S.Denot). v.committed) c.self.view_is

pub returns-in-Ok-Some-clause-published : goal.returns-in-Ok-Some-clause-published
returns-in-Ok-Some-clause-published g c =
    ap (λ (v : AttributeView g.row.S.Denot). v.committed_operations) c.self.view_is

pub returns-in-Ok-None-clause-table : goal.returns-in-Ok-None-clause-table
returns-in-Ok-None-clause-table g c =
    let ledger = g.S.Store.ledger in
    let records = g.S.Frozen.records in
    let inside = c.self.inside in
    let old = inside.store in
    let new = c.step.new.store in
    let fields = inside.fields in
    let trees = trees_of fields inside.roots.items in
    let first = subst (λ rs. Stepped c.as_slice.result.now (ledger old) (ledger new) (records old) (records new) (trees_of c.as_slice.result.now rs) c.args.op.now (new ≡ old) c.step.result)
    c.deref.ensures.value c.step.ensures.steps in
    let steps = subst (λ fs. Stepped fs (ledger old) (ledger new) (records old) (records new) (trees_of fs inside.roots.items) c.args.op.now (new ≡ old) c.step.result) c.as_slice.ensures first in
    let is = subst (λ r. Stepped fields (ledger old) (ledger new) (records old) (records new) trees c.args.op.now (new ≡ old) r) (c.in-Ok-None.is ∙ ap Ok c.in-Ok-None.field-0-is) steps in
    ap (λ s. table_at (records s) trees) is.store_is ∙ table_skipped fields (table_at (records old) trees) c.args.op.now is.step_is
    ∙ ap (λ (v : AttributeView g.row.S.Denot). after_op v.fields v.table c.args.op.now) c.self.view_is

pub returns-in-Ok-None-clause-applied : goal.returns-in-Ok-None-clause-applied
returns-in-Ok-None-clause-applied g c =
    let ledger = g.S.Store.ledger in
    let records = g.S.Frozen.records in
    let inside = c.self.inside in
    let old = inside.store in
    let new = c.step.new.store in
    let fields = inside.fields in
    let trees = trees_of fields inside.roots.items in
    let first = subst (λ rs. Stepped c.as_slice.result.now (ledger old) (ledger new) (records old) (records new) (trees_of c.as_slice.result.now rs) c.args.op.now (new ≡ old) c.step.result)
    c.deref.ensures.value c.step.ensures.steps in
    let steps = subst (λ fs. Stepped fs (ledger old) (ledger new) (records old) (records new) (trees_of fs inside.roots.items) c.args.op.now (new ≡ old) c.step.result) c.as_slice.ensures first in
    let is = subst (λ r. Stepped fields (ledger old) (ledger new) (records old) (records new) trees c.args.op.now (new ≡ old) r) (c.in-Ok-None.is ∙ ap Ok c.in-Ok-None.field-0-is) steps in
    applied_skipped fields (table_at (records old) trees) c.args.op.now is.step_is ∙ ap (λ (v : AttributeView g.row.S.Denot). applied_to v.fields v.table c.args.op.now) c.self.view_is

pub returns-in-Ok-None-clause-operations : goal.returns-in-Ok-None-clause-operations
returns-in-Ok-None-clause-operations g c =
    ap (λ (v : AttributeView g.row.S.Denot). v.operations + 1) c.self.view_is

pub returns-in-Ok-None-clause-skips : goal.returns-in-Ok-None-clause-skips
returns-in-Ok-None-clause-skips g c =
    let ledger = g.S.Store.ledger in
    let records = g.S.Frozen.records in
    let inside = c.self.inside in
    let old = inside.store in
    let new = c.step.new.store in
    let fields = inside.fields in
    let trees = trees_of fields inside.roots.items in
    let first = subst (λ rs. Stepped c.as_slice.result.now (ledger old) (ledger new) (records old) (records new) (trees_of c.as_slice.result.now rs) c.args.op.now (new ≡ old) c.step.result)
    c.deref.ensures.value c.step.ensures.steps in
    let steps = subst (λ fs. Stepped fs (ledger old) (ledger new) (records old) (records new) (trees_of fs inside.roots.items) c.args.op.now (new ≡ old) c.step.result) c.as_slice.ensures first in
    let is = subst (λ r. Stepped fields (ledger old) (ledger new) (records old) (records new) trees c.args.op.now (new ≡ old) r) (c.in-Ok-None.is ∙ ap Ok c.in-Ok-None.field-0-is) steps in
    let seen : g.row.S.Denot → AttributeView g.row.S.Denot = λ s. record {
      store = s;
      fields = fields;
      dense = inside.dense;
      trees = trees;
      table = table_at (records s) trees;
      operations = inside.operations + 1;
      root = inside.last.root;
      committed = table_of (shape_of (types_of fields)) (words_at (last_image (ledger s).work.commits)) inside.last.root;
      committed_operations = inside.last.operations;
      plan = inside.plan;
    } in
    λ e. ap seen is.store_is ∙ ap (λ (v : AttributeView g.row.S.Denot). record v { operations = v.operations + 1 }) c.self.view_is

pub returns-in-Ok-None-clause-keeps : goal.returns-in-Ok-None-clause-keeps
returns-in-Ok-None-clause-keeps g c =
    let ledger = g.S.Store.ledger in
    let records = g.S.Frozen.records in
    let inside = c.self.inside in
    let old = inside.store in
    let new = c.step.new.store in
    let fields = inside.fields in
    let trees = trees_of fields inside.roots.items in
    subst (λ (v : AttributeView g.row.S.Denot). KeepsStore (ledger v.store) (ledger new)) c.self.view_is c.step.ensures.keeps

pub returns-in-Ok-None-clause-fields : goal.returns-in-Ok-None-clause-fields
returns-in-Ok-None-clause-fields g c =
    ap (λ (v : AttributeView g.row.S.Denot). v.fields) c.self.view_is

pub returns-in-Ok-None-clause-root : goal.returns-in-Ok-None-clause-root
returns-in-Ok-None-clause-root g c =
    ap (λ (v : AttributeView g.row.S.Denot). v.root) c.self.view_is

pub returns-in-Ok-None-clause-committed : goal.returns-in-Ok-None-clause-committed
returns-in-Ok-None-clause-committed g c =
    let ledger = g.S.Store.ledger in
    let records = g.S.Frozen.records in
    let inside = c.self.inside in
    let old = inside.store in
    let new = c.step.new.store in
    let fields = inside.fields in
    let trees = trees_of fields inside.roots.items in
    ap (λ (i : Image). table_of (shape_of (types_of fields)) (words_at i) inside.last.root) c.step.ensures.keeps.commits.image ∙ ap (λ (v : AttributeView g.row.S.Denot). v.committed) c.self.view_is

pub returns-in-Ok-None-clause-published : goal.returns-in-Ok-None-clause-published
returns-in-Ok-None-clause-published g c =
    ap (λ (v : AttributeView g.row.S.Denot). v.committed_operations) c.self.view_is

pub returns-in-Err-clause-skips : goal.returns-in-Err-clause-skips
returns-in-Err-clause-skips g c =
    λ e. refused_not c.refusal.result e

pub returns-in-Err-clause-left : goal.returns-in-Err-clause-left
returns-in-Err-clause-left g c =
    let ledger = g.S.Store.ledger in
    let records = g.S.Frozen.records in
    let inside = c.self.inside in
    let old = inside.store in
    let new = c.step.new.store in
    let fields = inside.fields in
    let trees = trees_of fields inside.roots.items in
    let first = subst (λ rs. Stepped c.as_slice.result.now (ledger old) (ledger new) (records old) (records new) (trees_of c.as_slice.result.now rs) c.args.op.now (new ≡ old) c.step.result)
    c.deref.ensures.value c.step.ensures.steps in
    let steps = subst (λ fs. Stepped fs (ledger old) (ledger new) (records old) (records new) (trees_of fs inside.roots.items) c.args.op.now (new ≡ old) c.step.result) c.as_slice.ensures first in
    let is = subst (λ r. Stepped fields (ledger old) (ledger new) (records old) (records new) trees c.args.op.now (new ≡ old) r) (c.in-Err.is) steps in
    let tables : table_at (records new) trees ≡ table_at (records old) trees = ap (λ f. table_at f trees) is.left.records in
    let commits = ap (λ (i : Image). table_of (shape_of (types_of fields)) (words_at i) inside.last.root) c.step.ensures.keeps.commits.image in
    let seen : _ → _ → AttributeView g.row.S.Denot = λ t k. record {
      store = new;
      fields = fields;
      dense = inside.dense;
      trees = trees;
      table = t;
      operations = inside.operations;
      root = inside.last.root;
      committed = k;
      committed_operations = inside.last.operations;
      plan = inside.plan;
    } in
    ap₂ seen tables commits ∙ ap (λ (v : AttributeView g.row.S.Denot). record v { store = new }) c.self.view_is

pub returns-in-Err-clause-entries : goal.returns-in-Err-clause-entries
returns-in-Err-clause-entries g c =
    let ledger = g.S.Store.ledger in
    let records = g.S.Frozen.records in
    let inside = c.self.inside in
    let old = inside.store in
    let new = c.step.new.store in
    let fields = inside.fields in
    let trees = trees_of fields inside.roots.items in
    let first = subst (λ rs. Stepped c.as_slice.result.now (ledger old) (ledger new) (records old) (records new) (trees_of c.as_slice.result.now rs) c.args.op.now (new ≡ old) c.step.result)
    c.deref.ensures.value c.step.ensures.steps in
    let steps = subst (λ fs. Stepped fs (ledger old) (ledger new) (records old) (records new) (trees_of fs inside.roots.items) c.args.op.now (new ≡ old) c.step.result) c.as_slice.ensures first in
    let is = subst (λ r. Stepped fields (ledger old) (ledger new) (records old) (records new) trees c.args.op.now (new ≡ old) r) (c.in-Err.is) steps in
    subst (λ (v : AttributeView g.row.S.Denot). LeavesEntries (ledger v.store) (ledger new) (records v.store) (records new)) c.self.view_is is.left

pub returns-in-Err-clause-refused : goal.returns-in-Err-clause-refused
returns-in-Err-clause-refused g c =
    let ledger = g.S.Store.ledger in
    let records = g.S.Frozen.records in
    let inside = c.self.inside in
    let old = inside.store in
    let new = c.step.new.store in
    let fields = inside.fields in
    let trees = trees_of fields inside.roots.items in
    let first = subst (λ rs. Stepped c.as_slice.result.now (ledger old) (ledger new) (records old) (records new) (trees_of c.as_slice.result.now rs) c.args.op.now (new ≡ old) c.step.result)
    c.deref.ensures.value c.step.ensures.steps in
    let steps = subst (λ fs. Stepped fs (ledger old) (ledger new) (records old) (records new) (trees_of fs inside.roots.items) c.args.op.now (new ≡ old) c.step.result) c.as_slice.ensures first in
    let is = subst (λ r. Stepped fields (ledger old) (ledger new) (records old) (records new) trees c.args.op.now (new ≡ old) r) (c.in-Err.is) steps in
    subst (λ (v : AttributeView g.row.S.Denot). RefusesOperation (ledger v.store) (ledger new) c.refusal.result) c.self.view_is
    (subst (λ a. RefusesOperation (ledger old) (ledger new) a) (sym c.refusal.ensures) (refuses_operation (ledger old) (ledger new) c.in-Err.error is.refused))

pub returns-in-Err-clause-keeps : goal.returns-in-Err-clause-keeps
returns-in-Err-clause-keeps g c =
    let ledger = g.S.Store.ledger in
    let records = g.S.Frozen.records in
    let inside = c.self.inside in
    let old = inside.store in
    let new = c.step.new.store in
    let fields = inside.fields in
    let trees = trees_of fields inside.roots.items in
    subst (λ (v : AttributeView g.row.S.Denot). KeepsStore (ledger v.store) (ledger new)) c.self.view_is c.step.ensures.keeps

pub returns-in-Err-clause-fields : goal.returns-in-Err-clause-fields
returns-in-Err-clause-fields g c =
    ap (λ (v : AttributeView g.row.S.Denot). v.fields) c.self.view_is

pub returns-in-Err-clause-root : goal.returns-in-Err-clause-root
returns-in-Err-clause-root g c =
    ap (λ (v : AttributeView g.row.S.Denot). v.root) c.self.view_is

pub returns-in-Err-clause-committed : goal.returns-in-Err-clause-committed
returns-in-Err-clause-committed g c =
    let ledger = g.S.Store.ledger in
    let records = g.S.Frozen.records in
    let inside = c.self.inside in
    let old = inside.store in
    let new = c.step.new.store in
    let fields = inside.fields in
    let trees = trees_of fields inside.roots.items in
    ap (λ (i : Image). table_of (shape_of (types_of fields)) (words_at i) inside.last.root) c.step.ensures.keeps.commits.image ∙ ap (λ (v : AttributeView g.row.S.Denot). v.committed) c.self.view_is

pub returns-in-Err-clause-published : goal.returns-in-Err-clause-published
returns-in-Err-clause-published g c =
    ap (λ (v : AttributeView g.row.S.Denot). v.committed_operations) c.self.view_is

pub returns-in-Ok-Some-clause-counts : goal.returns-in-Ok-Some-clause-counts
returns-in-Ok-Some-clause-counts g c =
    let ledger = g.S.Store.ledger in
    let records = g.S.Frozen.records in
    let inside = c.self.inside in
    let old = inside.store in
    let new = c.step.new.store in
    let fields = inside.fields in
    let trees = trees_of fields inside.roots.items in
    let op = c.args.op.now in
    let made = subst (λ fs. MakesOperation inside.dense (ledger old) (ledger new) fs (table_at (records old) (trees_of fs inside.roots.items)) op) c.as_slice.ensures
    (subst (λ rs. MakesOperation inside.dense (ledger old) (ledger new) c.as_slice.result.now (table_at (records old) (trees_of c.as_slice.result.now rs)) op) c.deref.ensures.value c.step.ensures.counts) in
    subst (λ (v : AttributeView g.row.S.Denot). MakesOperation v.dense (ledger v.store) (ledger new) v.fields v.table op) c.self.view_is made

pub returns-in-Ok-None-clause-counts : goal.returns-in-Ok-None-clause-counts
returns-in-Ok-None-clause-counts g c =
    let ledger = g.S.Store.ledger in
    let records = g.S.Frozen.records in
    let inside = c.self.inside in
    let old = inside.store in
    let new = c.step.new.store in
    let fields = inside.fields in
    let trees = trees_of fields inside.roots.items in
    let op = c.args.op.now in
    let made = subst (λ fs. MakesOperation inside.dense (ledger old) (ledger new) fs (table_at (records old) (trees_of fs inside.roots.items)) op) c.as_slice.ensures
    (subst (λ rs. MakesOperation inside.dense (ledger old) (ledger new) c.as_slice.result.now (table_at (records old) (trees_of c.as_slice.result.now rs)) op) c.deref.ensures.value c.step.ensures.counts) in
    subst (λ (v : AttributeView g.row.S.Denot). MakesOperation v.dense (ledger v.store) (ledger new) v.fields v.table op) c.self.view_is made

pub returns-in-Err-clause-counts : goal.returns-in-Err-clause-counts
returns-in-Err-clause-counts g c =
    let ledger = g.S.Store.ledger in
    let records = g.S.Frozen.records in
    let inside = c.self.inside in
    let old = inside.store in
    let new = c.step.new.store in
    let fields = inside.fields in
    let trees = trees_of fields inside.roots.items in
    let op = c.args.op.now in
    let made = subst (λ fs. MakesOperation inside.dense (ledger old) (ledger new) fs (table_at (records old) (trees_of fs inside.roots.items)) op) c.as_slice.ensures
    (subst (λ rs. MakesOperation inside.dense (ledger old) (ledger new) c.as_slice.result.now (table_at (records old) (trees_of c.as_slice.result.now rs)) op) c.deref.ensures.value c.step.ensures.counts) in
    subst (λ (v : AttributeView g.row.S.Denot). MakesOperation v.dense (ledger v.store) (ledger new) v.fields v.table op) c.self.view_is made

pub returns-in-Err-clause-spares : goal.returns-in-Err-clause-spares
returns-in-Err-clause-spares g c =
    let ledger = g.S.Store.ledger in
    let records = g.S.Frozen.records in
    let inside = c.self.inside in
    let old = inside.store in
    let new = c.step.new.store in
    let fields = inside.fields in
    let trees = trees_of fields inside.roots.items in
    let op = c.args.op.now in
    let few = subst (λ fs. SparesOperation inside.dense (ledger new) fs (table_at (records old) (trees_of fs inside.roots.items)) op c.in-Err.error) c.as_slice.ensures
    (subst (λ rs. SparesOperation inside.dense (ledger new) c.as_slice.result.now (table_at (records old) (trees_of c.as_slice.result.now rs)) op c.in-Err.error) c.deref.ensures.value c.in-Err.ensures.spares) in
    let spares = spares_operation inside.dense (ledger new) fields (table_at (records old) trees) op c.in-Err.error few in
    subst (λ (v : AttributeView g.row.S.Denot). SparesOf v.dense (ledger new) v.fields v.table op c.refusal.result) c.self.view_is
    (subst (λ a. SparesOf inside.dense (ledger new) fields (table_at (records old) trees) op a) (sym c.refusal.ensures) spares)

pub returns-in-Err-clause-widths : goal.returns-in-Err-clause-widths
returns-in-Err-clause-widths g c =
    let records = g.S.Frozen.records in
    let inside = c.self.inside in
    let old = inside.store in
    let fields = inside.fields in
    let trees = trees_of fields inside.roots.items in
    let op = c.args.op.now in
    let full = subst (λ fs. IsFullAmong (IsOperationWidth inside.dense fs (table_at (records old) (trees_of fs inside.roots.items)) op) c.in-Err.error) c.as_slice.ensures
    (subst (λ rs. IsFullAmong (IsOperationWidth inside.dense c.as_slice.result.now (table_at (records old) (trees_of c.as_slice.result.now rs)) op) c.in-Err.error) c.deref.ensures.value c.in-Err.ensures.widths) in
    subst (λ (v : AttributeView g.row.S.Denot). NamesWidth v.dense v.fields v.table op c.refusal.result) c.self.view_is
    (subst (λ a. NamesWidth inside.dense fields (table_at (records old) trees) op a) (sym c.refusal.ensures) (names_width inside.dense fields (table_at (records old) trees) op c.in-Err.error full))

pub returns-in-Err-clause-room : goal.returns-in-Err-clause-room
returns-in-Err-clause-room g c =
    let ledger = g.S.Store.ledger in
    let records = g.S.Frozen.records in
    let inside = c.self.inside in
    let old = inside.store in
    let new = c.step.new.store in
    let fields = inside.fields in
    let trees = trees_of fields inside.roots.items in
    let op = c.args.op.now in
    let made = subst (λ fs. MakesOperation inside.dense (ledger old) (ledger new) fs (table_at (records old) (trees_of fs inside.roots.items)) op) c.as_slice.ensures
    (subst (λ rs. MakesOperation inside.dense (ledger old) (ledger new) c.as_slice.result.now (table_at (records old) (trees_of c.as_slice.result.now rs)) op) c.deref.ensures.value c.step.ensures.counts) in
    let first = subst (λ rs. Stepped c.as_slice.result.now (ledger old) (ledger new) (records old) (records new) (trees_of c.as_slice.result.now rs) op (new ≡ old) c.step.result)
    c.deref.ensures.value c.step.ensures.steps in
    let steps = subst (λ fs. Stepped fs (ledger old) (ledger new) (records old) (records new) (trees_of fs inside.roots.items) op (new ≡ old) c.step.result) c.as_slice.ensures first in
    let is = subst (λ r. Stepped fields (ledger old) (ledger new) (records old) (records new) trees op (new ≡ old) r) (c.in-Err.is) steps in
    let sound = trees_sound (records old) (laws_of c.field_law.ensures.stays c.field_law.ensures.lawful c.field_law.ensures.keys) fields inside.roots.items c.self.invariant.stands.sized
    c.self.invariant.stands.holds.are_fields in
    let fits = subst (λ (v : AttributeView g.row.S.Denot). OpFits v.fields op) (sym c.self.view_is) c.requires.fits in
    let lacks = lacks_buffers inside.dense (ledger old) (ledger new) fields (table_at (records old) trees) op c.in-Err.error sound fits (g.met.S.Store.counted old) (g.met.S.Store.counted new)
    (g.met.S.Store.limits old).some_words c.step.ensures.keeps is.refused made in
    subst (λ (v : AttributeView g.row.S.Denot). LacksBuffers v.dense (ledger v.store) v.fields v.table op c.refusal.result) c.self.view_is
    (subst (λ a. LacksBuffers inside.dense (ledger old) fields (table_at (records old) trees) op a) (sym c.refusal.ensures) lacks)

pub returns-in-Ok-Some-clause-plan : goal.returns-in-Ok-Some-clause-plan
returns-in-Ok-Some-clause-plan g c =
    ap (λ (v : AttributeView g.row.S.Denot). v.plan) c.self.view_is

pub returns-in-Ok-None-clause-plan : goal.returns-in-Ok-None-clause-plan
returns-in-Ok-None-clause-plan g c =
    ap (λ (v : AttributeView g.row.S.Denot). v.plan) c.self.view_is

pub returns-in-Err-clause-plan : goal.returns-in-Err-clause-plan
returns-in-Err-clause-plan g c =
    ap (λ (v : AttributeView g.row.S.Denot). v.plan) c.self.view_is

pub returns-in-Ok-Some-clause-dense : goal.returns-in-Ok-Some-clause-dense
returns-in-Ok-Some-clause-dense g c = ap (λ (v : AttributeView g.row.S.Denot). v.dense) c.self.view_is

pub returns-in-Ok-None-clause-dense : goal.returns-in-Ok-None-clause-dense
returns-in-Ok-None-clause-dense g c = ap (λ (v : AttributeView g.row.S.Denot). v.dense) c.self.view_is

pub returns-in-Err-clause-dense : goal.returns-in-Err-clause-dense
returns-in-Err-clause-dense g c = ap (λ (v : AttributeView g.row.S.Denot). v.dense) c.self.view_is
