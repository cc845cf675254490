use Rattle.std.proofs.Common.{◌≡◌, ◌+◌, ◌*◌, ◌<◌, ◌≤◌, length, refl, sym, ap, ap₂, subst, ◌∙◌, arith}
use Rattle.std.specs.Prelude.{is_some}
use Rattle.entry_ref.specs.Images.{words_at}
use Rattle.entry_ref.specs.declared.images.Image.{Image}
use Rattle.arena_api.specs.Calls.{told_after}
use Rattle.arena_api.specs.Works.{last_image}
use Rattle.image_format.specs.Images.{table_of}
use Rattle.image_format.specs.Shapes.{shape_of, types_of}
use Rattle.image_format.specs.Words.{class_of}
use Rattle.attr_types.specs.declared.field.TheConstants.{MOST_FIELDS}
use Rattle.attr_operations.specs.Calls.{KeepsStore, LeavesEntries}
use Rattle.attribute_kinds.specs.Calls.{CommitsImage, IsForRoot, HasNoCommitLeft, RefusesCommit}
use Rattle.attr_operations.specs.Commits.{CommitsAttributes, IsForWidth}
use Rattle.attr_operations.proofs.Referring.{forms_stay}
use Rattle.attr_operations.specs.Fields.{HaveForms, HoldsAttributes, trees_of}
use Rattle.attr_operations.specs.Views.{table_at}
use Rattle.attribute_kinds.specs.Views.{AttributeView}
use Rattle.attribute_kinds.proofs.CommitViews.{for_root, image_committed, refuses_commit, spent_same, stands_committed, table_committed}
use Rattle.array_store.specs.Adding.{MakesOneOf}
use Rattle.attr_field.proofs.DocumentsCountLemmas.{one-none}
use Rattle.attribute_kinds.proofs.StandLemmas.{stands_left}
use Rattle.attr_operations.proofs.StepLemmas.{keeps_same, leaves_same}
use Rattle.compaction_steps.specs.Units.{IsUnderWay}
use Rattle.attribute_kinds.proofs.PlanLemmas.{if_some_map, under_committed}
use Rattle.compaction_steps.proofs.TurnLemmas.{left_way}
use Rattle.attribute_kinds.proofs.attribute.Attribute.commit.Goals as goal

pub same-self : goal.same-self
same-self g c =
    refl

pub returns-then-commits_left-eq0-clause-table : goal.returns-then-commits_left-eq0-clause-table
returns-then-commits_left-eq0-clause-table g c =
    refl

pub returns-then-commits_left-eq0-clause-operations : goal.returns-then-commits_left-eq0-clause-operations
returns-then-commits_left-eq0-clause-operations g c =
    refl

pub returns-then-commits_left-eq0-clause-fields : goal.returns-then-commits_left-eq0-clause-fields
returns-then-commits_left-eq0-clause-fields g c =
    refl

pub returns-then-commits_left-eq0-clause-left : goal.returns-then-commits_left-eq0-clause-left
returns-then-commits_left-eq0-clause-left g c =
    refl

pub returns-then-commits_left-eq0-clause-entries : goal.returns-then-commits_left-eq0-clause-entries
returns-then-commits_left-eq0-clause-entries g c =
    leaves_same (g.S.Store.ledger c.args.self.now.store) (g.S.Frozen.records c.args.self.now.store)

pub returns-then-commits_left-eq0-clause-keeps : goal.returns-then-commits_left-eq0-clause-keeps
returns-then-commits_left-eq0-clause-keeps g c =
    keeps_same (g.S.Store.ledger c.args.self.now.store)

pub returns-then-commits_left-eq0-clause-refused : goal.returns-then-commits_left-eq0-clause-refused
returns-then-commits_left-eq0-clause-refused g c =
    let ledger = g.S.Store.ledger in
    let records = g.S.Frozen.records in
    let inside = c.self.inside in
    let old = inside.store in
    let fields = inside.fields in
    subst (λ (v : AttributeView g.row.S.Denot). HasNoCommitLeft (ledger v.store) inside.last.commit) c.self.view_is
    (record {
      last = (let none = c.if-commits_left-eq0.true in let is = c.commits_left.ensures in let few = (g.met.S.Store.order old).limit in omega arith);
      number = c.self.invariant.stands.last.number;
    })

pub returns-then-commits_left-eq0-clause-spent : goal.returns-then-commits_left-eq0-clause-spent
returns-then-commits_left-eq0-clause-spent g c =
    let ledger = g.S.Store.ledger in
    let records = g.S.Frozen.records in
    let inside = c.self.inside in
    let old = inside.store in
    let fields = inside.fields in
    λ e. spent_same inside.last.commit (ledger c.args.self.now.store).work.commits.last (c.self.invariant.stands.last.number ∙ ap (λ (v : AttributeView g.row.S.Denot). (ledger v.store).work.commits.last) c.self.view_is)

pub commit_attributes-requires : goal.commit_attributes-requires
commit_attributes-requires g c =
    let ledger = g.S.Store.ledger in
    let records = g.S.Frozen.records in
    let inside = c.self.inside in
    let old = inside.store in
    let fields = inside.fields in
    let room : (ledger inside.store).work.commits.last < (ledger inside.store).work.sizes.commits = (let no = c.if-commits_left-eq0.false in let is = c.commits_left.ensures in omega arith) in (
      omega arith,
      (
        omega arith,
        (
          ap length c.deref.ensures.value ∙ c.self.invariant.stands.sized ∙ sym (ap length c.as_slice-fields.ensures),
          (
            subst (λ fs. length fs ≤ MOST_FIELDS) (sym c.as_slice-fields.ensures) c.self.invariant.stands.few,
            (
              c.self.invariant.stands.shape ∙ sym (ap (λ fs. shape_of (types_of fs)) c.as_slice-fields.ensures),
              (
                subst (λ fs. HoldsAttributes g.row.OFFSET_BITS (ledger old) (records old) fs (trees_of fs c.deref.result.now) inside.last.root) (sym c.as_slice-fields.ensures)
                    (subst (λ rs. HoldsAttributes g.row.OFFSET_BITS (ledger old) (records old) fields (trees_of fields rs) inside.last.root) (sym c.deref.ensures.value) c.self.invariant.stands.holds),
                room,
              ),
            ),
          ),
        ),
      ),
    )

pub invariant_of-self : goal.invariant_of-self
invariant_of-self g c =
    let ledger = g.S.Store.ledger in
    let records = g.S.Frozen.records in
    let inside = c.self.inside in
    let old = inside.store in
    let fields = inside.fields in
    let new = c.commit_attributes.new.store in
    let trees = trees_of fields inside.roots.items in
    let first = subst (λ rs. CommitsAttributes g.row.OFFSET_BITS c.as_slice-fields.result.now (trees_of c.as_slice-fields.result.now rs) inside.operations (ledger old) (ledger new) (records old)
    (records new) c.in-Ok.made.0 c.in-Ok.made.1)
    c.deref.ensures.value c.in-Ok.ensures.commits in
    let made = subst (λ fs. CommitsAttributes g.row.OFFSET_BITS fs (trees_of fs inside.roots.items) inside.operations (ledger old) (ledger new) (records old) (records new) c.in-Ok.made.0 c.in-Ok.made.1)
    c.as_slice-fields.ensures first in
    record {
      stands = stands_committed (ledger old) (ledger new) (records old) (records new) fields inside.roots.items inside.operations inside.last.root inside.last.commit inside.last.operations c.in-Ok.made.0 c.in-Ok.made.1
          c.self.invariant.stands made;
      forms = forms_stay c.field_law.ensures.form inside.dense (records old) (records new) trees made.stay c.self.invariant.forms;
      plan_is = if_some_map (IsUnderWay g.row.OFFSET_BITS inside.last.root (ledger old) (records old) trees) (IsUnderWay g.row.OFFSET_BITS c.in-Ok.made.0 (ledger new) (records new) trees) inside.plan
          (λ plan under. under_committed g.row.OFFSET_BITS (ledger old) (ledger new) (records old)
          (records new) fields trees inside.operations inside.last.root c.in-Ok.made.0 c.in-Ok.made.1 plan c.same_law.ensures.all c.self.invariant.stands.holds made c.in-Ok.ensures.turns under) c.self.invariant.plan_is;
      last_is = c.self.invariant.last_is;
      waits_is = ap is_some (sym made.stores.finished);
    }

pub invariant_of-self-in-Err : goal.invariant_of-self-in-Err
invariant_of-self-in-Err g c =
    let ledger = g.S.Store.ledger in
    let records = g.S.Frozen.records in
    let inside = c.self.inside in
    let old = inside.store in
    let fields = inside.fields in
    let new = c.commit_attributes.new.store in
    let trees = trees_of fields inside.roots.items in
    record {
      stands = stands_left (ledger old) (ledger new) (records old)
          (records new) fields inside.roots.items inside.roots.items inside.last.root inside.last.commit inside.last.operations c.self.invariant.stands c.in-Err.ensures.keeps c.in-Err.ensures.left;
      forms = subst (λ f. HaveForms inside.dense f trees) (sym c.in-Err.ensures.left.records) c.self.invariant.forms;
      plan_is = if_some_map (IsUnderWay g.row.OFFSET_BITS inside.last.root (ledger old) (records old) trees) (IsUnderWay g.row.OFFSET_BITS inside.last.root (ledger new) (records new) trees) inside.plan
          (λ plan under. left_way g.row.OFFSET_BITS inside.last.root (ledger old) (ledger new) (records old) (records new) trees plan under c.in-Err.ensures.left c.in-Err.ensures.keeps) c.self.invariant.plan_is;
      last_is = c.self.invariant.last_is;
      waits_is = c.self.invariant.waits_is ∙ ap is_some (sym c.in-Err.ensures.keeps.finished);
    }

pub returns-in-Ok-clause-commits : goal.returns-in-Ok-clause-commits
returns-in-Ok-clause-commits g c =
    let ledger = g.S.Store.ledger in
    let records = g.S.Frozen.records in
    let inside = c.self.inside in
    let old = inside.store in
    let fields = inside.fields in
    let new = c.commit_attributes.new.store in
    let trees = trees_of fields inside.roots.items in
    let first = subst (λ rs. CommitsAttributes g.row.OFFSET_BITS c.as_slice-fields.result.now (trees_of c.as_slice-fields.result.now rs) inside.operations (ledger old) (ledger new) (records old)
    (records new) c.in-Ok.made.0 c.in-Ok.made.1)
    c.deref.ensures.value c.in-Ok.ensures.commits in
    let made = subst (λ fs. CommitsAttributes g.row.OFFSET_BITS fs (trees_of fs inside.roots.items) inside.operations (ledger old) (ledger new) (records old) (records new) c.in-Ok.made.0 c.in-Ok.made.1)
    c.as_slice-fields.ensures first in
    subst (λ (v : AttributeView g.row.S.Denot). CommitsImage g.row.OFFSET_BITS (ledger v.store) (ledger new) (last_image (ledger new).work.commits)
    (record { commit = c.in-Ok.made.1.commit; operations = inside.operations; advance = c.in-Ok.made.1.advance; oldest = c.in-Ok.made.1.oldest })) c.self.view_is
    (image_committed (ledger old) (ledger new) (records old) (records new) fields inside.roots.items inside.operations inside.last.root inside.last.commit inside.last.operations c.in-Ok.made.0 c.in-Ok.made.1
    c.self.invariant.stands made)

pub returns-in-Ok-clause-number : goal.returns-in-Ok-clause-number
returns-in-Ok-clause-number g c =
    let ledger = g.S.Store.ledger in
    let records = g.S.Frozen.records in
    let inside = c.self.inside in
    let old = inside.store in
    let fields = inside.fields in
    let new = c.commit_attributes.new.store in
    let trees = trees_of fields inside.roots.items in
    let first = subst (λ rs. CommitsAttributes g.row.OFFSET_BITS c.as_slice-fields.result.now (trees_of c.as_slice-fields.result.now rs) inside.operations (ledger old) (ledger new) (records old)
    (records new) c.in-Ok.made.0 c.in-Ok.made.1)
    c.deref.ensures.value c.in-Ok.ensures.commits in
    let made = subst (λ fs. CommitsAttributes g.row.OFFSET_BITS fs (trees_of fs inside.roots.items) inside.operations (ledger old) (ledger new) (records old) (records new) c.in-Ok.made.0 c.in-Ok.made.1)
    c.as_slice-fields.ensures first in
    made.number ∙ ap (λ (v : AttributeView g.row.S.Denot). (ledger v.store).work.commits.last + 1) c.self.view_is

pub returns-in-Ok-clause-counts : goal.returns-in-Ok-clause-counts
returns-in-Ok-clause-counts g c =
    ap (λ (v : AttributeView g.row.S.Denot). v.operations) c.self.view_is

pub returns-in-Ok-clause-committed : goal.returns-in-Ok-clause-committed
returns-in-Ok-clause-committed g c =
    let ledger = g.S.Store.ledger in
    let records = g.S.Frozen.records in
    let inside = c.self.inside in
    let old = inside.store in
    let fields = inside.fields in
    let new = c.commit_attributes.new.store in
    let trees = trees_of fields inside.roots.items in
    let first = subst (λ rs. CommitsAttributes g.row.OFFSET_BITS c.as_slice-fields.result.now (trees_of c.as_slice-fields.result.now rs) inside.operations (ledger old) (ledger new) (records old)
    (records new) c.in-Ok.made.0 c.in-Ok.made.1)
    c.deref.ensures.value c.in-Ok.ensures.commits in
    let made = subst (λ fs. CommitsAttributes g.row.OFFSET_BITS fs (trees_of fs inside.roots.items) inside.operations (ledger old) (ledger new) (records old) (records new) c.in-Ok.made.0 c.in-Ok.made.1)
    c.as_slice-fields.ensures first in
    table_committed (ledger old) (ledger new) (records old) (records new) fields inside.roots.items inside.operations inside.last.root inside.last.commit inside.last.operations c.in-Ok.made.0 c.in-Ok.made.1
    c.self.invariant.stands made ∙ ap (λ (v : AttributeView g.row.S.Denot). v.table) c.self.view_is

pub returns-in-Ok-clause-published : goal.returns-in-Ok-clause-published
returns-in-Ok-clause-published g c =
    ap (λ (v : AttributeView g.row.S.Denot). v.operations) c.self.view_is

pub returns-in-Ok-clause-told : goal.returns-in-Ok-clause-told
returns-in-Ok-clause-told g c =
    let ledger = g.S.Store.ledger in
    let records = g.S.Frozen.records in
    let inside = c.self.inside in
    let old = inside.store in
    let fields = inside.fields in
    let new = c.commit_attributes.new.store in
    let trees = trees_of fields inside.roots.items in
    let first = subst (λ rs. CommitsAttributes g.row.OFFSET_BITS c.as_slice-fields.result.now (trees_of c.as_slice-fields.result.now rs) inside.operations (ledger old) (ledger new) (records old)
    (records new) c.in-Ok.made.0 c.in-Ok.made.1)
    c.deref.ensures.value c.in-Ok.ensures.commits in
    let made = subst (λ fs. CommitsAttributes g.row.OFFSET_BITS fs (trees_of fs inside.roots.items) inside.operations (ledger old) (ledger new) (records old) (records new) c.in-Ok.made.0 c.in-Ok.made.1)
    c.as_slice-fields.ensures first in
    made.told ∙ ap (λ (v : AttributeView g.row.S.Denot). told_after (ledger v.store).work.told (last_image (ledger new).work.commits)) c.self.view_is

pub returns-in-Ok-clause-table : goal.returns-in-Ok-clause-table
returns-in-Ok-clause-table g c =
    let ledger = g.S.Store.ledger in
    let records = g.S.Frozen.records in
    let inside = c.self.inside in
    let old = inside.store in
    let fields = inside.fields in
    let new = c.commit_attributes.new.store in
    let trees = trees_of fields inside.roots.items in
    let first = subst (λ rs. CommitsAttributes g.row.OFFSET_BITS c.as_slice-fields.result.now (trees_of c.as_slice-fields.result.now rs) inside.operations (ledger old) (ledger new) (records old)
    (records new) c.in-Ok.made.0 c.in-Ok.made.1)
    c.deref.ensures.value c.in-Ok.ensures.commits in
    let made = subst (λ fs. CommitsAttributes g.row.OFFSET_BITS fs (trees_of fs inside.roots.items) inside.operations (ledger old) (ledger new) (records old) (records new) c.in-Ok.made.0 c.in-Ok.made.1)
    c.as_slice-fields.ensures first in
    made.same ∙ ap (λ (v : AttributeView g.row.S.Denot). v.table) c.self.view_is

pub returns-in-Ok-clause-operations : goal.returns-in-Ok-clause-operations
returns-in-Ok-clause-operations g c =
    ap (λ (v : AttributeView g.row.S.Denot). v.operations) c.self.view_is

pub returns-in-Ok-clause-fields : goal.returns-in-Ok-clause-fields
returns-in-Ok-clause-fields g c =
    ap (λ (v : AttributeView g.row.S.Denot). v.fields) c.self.view_is

pub returns-in-Ok-clause-spent : goal.returns-in-Ok-clause-spent
returns-in-Ok-clause-spent g c =
    let ledger = g.S.Store.ledger in
    let records = g.S.Frozen.records in
    let inside = c.self.inside in
    let old = inside.store in
    let fields = inside.fields in
    let room : (ledger inside.store).work.commits.last < (ledger inside.store).work.sizes.commits = (let no = c.if-commits_left-eq0.false in let is = c.commits_left.ensures in omega arith) in
    λ e. (
    let last = ap (λ (v : AttributeView g.row.S.Denot). (ledger v.store).work.commits.last) c.self.view_is in
    let sizes = ap (λ (v : AttributeView g.row.S.Denot). (ledger v.store).work.sizes.commits) c.self.view_is in
    absurd (omega arith)
    )

pub returns-in-Err-clause-table : goal.returns-in-Err-clause-table
returns-in-Err-clause-table g c =
    let ledger = g.S.Store.ledger in
    let records = g.S.Frozen.records in
    let inside = c.self.inside in
    let old = inside.store in
    let fields = inside.fields in
    let new = c.commit_attributes.new.store in
    let trees = trees_of fields inside.roots.items in
    let tables : table_at (records new) trees ≡ table_at (records old) trees = ap (λ f. table_at f trees) c.in-Err.ensures.left.records in
    tables ∙ ap (λ (v : AttributeView g.row.S.Denot). v.table) c.self.view_is

pub returns-in-Err-clause-operations : goal.returns-in-Err-clause-operations
returns-in-Err-clause-operations g c =
    ap (λ (v : AttributeView g.row.S.Denot). v.operations) c.self.view_is

pub returns-in-Err-clause-fields : goal.returns-in-Err-clause-fields
returns-in-Err-clause-fields g c =
    ap (λ (v : AttributeView g.row.S.Denot). v.fields) c.self.view_is

pub returns-in-Err-clause-left : goal.returns-in-Err-clause-left
returns-in-Err-clause-left g c =
    let ledger = g.S.Store.ledger in
    let records = g.S.Frozen.records in
    let inside = c.self.inside in
    let old = inside.store in
    let fields = inside.fields in
    let new = c.commit_attributes.new.store in
    let trees = trees_of fields inside.roots.items in
    let tables : table_at (records new) trees ≡ table_at (records old) trees = ap (λ f. table_at f trees) c.in-Err.ensures.left.records in
    let commits = ap (λ (i : Image). table_of (shape_of (types_of fields)) (words_at i) inside.last.root) c.in-Err.ensures.keeps.commits.image in
    let seen : _ → _ → AttributeView g.row.S.Denot = λ t k. record {
      store = new;
      fields = fields;
      dense = inside.dense;
      trees = trees;
      table = t;
      operations = inside.operations;
      root = inside.last.root;
      committed = k;
      committed_operations = inside.last.operations;
      plan = inside.plan;
    } in
    ap₂ seen tables commits ∙ ap (λ (v : AttributeView g.row.S.Denot). record v { store = new }) c.self.view_is

pub returns-in-Err-clause-entries : goal.returns-in-Err-clause-entries
returns-in-Err-clause-entries g c =
    let ledger = g.S.Store.ledger in
    let records = g.S.Frozen.records in
    let inside = c.self.inside in
    let old = inside.store in
    let fields = inside.fields in
    let new = c.commit_attributes.new.store in
    let trees = trees_of fields inside.roots.items in
    subst (λ (v : AttributeView g.row.S.Denot). LeavesEntries (ledger v.store) (ledger new) (records v.store) (records new)) c.self.view_is c.in-Err.ensures.left

pub returns-in-Err-clause-keeps : goal.returns-in-Err-clause-keeps
returns-in-Err-clause-keeps g c =
    let ledger = g.S.Store.ledger in
    let records = g.S.Frozen.records in
    let inside = c.self.inside in
    let old = inside.store in
    let fields = inside.fields in
    let new = c.commit_attributes.new.store in
    let trees = trees_of fields inside.roots.items in
    subst (λ (v : AttributeView g.row.S.Denot). KeepsStore (ledger v.store) (ledger new)) c.self.view_is c.in-Err.ensures.keeps

pub returns-in-Err-clause-refused : goal.returns-in-Err-clause-refused
returns-in-Err-clause-refused g c =
    let ledger = g.S.Store.ledger in
    let records = g.S.Frozen.records in
    let inside = c.self.inside in
    let old = inside.store in
    let fields = inside.fields in
    let new = c.commit_attributes.new.store in
    let trees = trees_of fields inside.roots.items in
    let room : (ledger inside.store).work.commits.last < (ledger inside.store).work.sizes.commits = (let no = c.if-commits_left-eq0.false in let is = c.commits_left.ensures in omega arith) in
    subst (λ (v : AttributeView g.row.S.Denot). RefusesCommit (ledger v.store) (ledger new) c.refusal.result) c.self.view_is
    (subst (λ e. RefusesCommit (ledger old) (ledger new) e) (sym c.refusal.ensures) (refuses_commit (ledger old) (ledger new) c.in-Err.error room c.in-Err.ensures.refused))

pub returns-in-Err-clause-width : goal.returns-in-Err-clause-width
returns-in-Err-clause-width g c =
    let width = subst (λ fs. IsForWidth (class_of (1 + 2 * length fs)) c.in-Err.error) c.as_slice-fields.ensures c.in-Err.ensures.width in
    subst (λ (v : AttributeView g.row.S.Denot). IsForRoot v.fields c.refusal.result) c.self.view_is
    (subst (λ e. IsForRoot c.self.inside.fields e) (sym c.refusal.ensures) (for_root c.self.inside.fields c.in-Err.error width))

pub returns-in-Err-clause-spent : goal.returns-in-Err-clause-spent
returns-in-Err-clause-spent g c =
    let ledger = g.S.Store.ledger in
    let records = g.S.Frozen.records in
    let inside = c.self.inside in
    let old = inside.store in
    let fields = inside.fields in
    let room : (ledger inside.store).work.commits.last < (ledger inside.store).work.sizes.commits = (let no = c.if-commits_left-eq0.false in let is = c.commits_left.ensures in omega arith) in
    λ e. (
    let last = ap (λ (v : AttributeView g.row.S.Denot). (ledger v.store).work.commits.last) c.self.view_is in
    let sizes = ap (λ (v : AttributeView g.row.S.Denot). (ledger v.store).work.sizes.commits) c.self.view_is in
    absurd (omega arith)
    )

pub returns-then-commits_left-eq0-clause-plan : goal.returns-then-commits_left-eq0-clause-plan
returns-then-commits_left-eq0-clause-plan g c =
    refl

pub returns-in-Ok-clause-plan : goal.returns-in-Ok-clause-plan
returns-in-Ok-clause-plan g c =
    ap (λ (v : AttributeView g.row.S.Denot). v.plan) c.self.view_is

pub returns-in-Err-clause-plan : goal.returns-in-Err-clause-plan
returns-in-Err-clause-plan g c =
    ap (λ (v : AttributeView g.row.S.Denot). v.plan) c.self.view_is

pub returns-then-commits_left-eq0-clause-makes : goal.returns-then-commits_left-eq0-clause-makes
returns-then-commits_left-eq0-clause-makes g c = one-none (g.S.Store.ledger c.args.self.now.store) (class_of (1 + 2 * length c.args.self.now.fields))

pub returns-then-commits_left-eq0-clause-trees : goal.returns-then-commits_left-eq0-clause-trees
returns-then-commits_left-eq0-clause-trees g c = refl

pub returns-in-Ok-clause-makes : goal.returns-in-Ok-clause-makes
returns-in-Ok-clause-makes g c =
    let ledger = g.S.Store.ledger in
    let new = ledger c.commit_attributes.new.store in
    subst (λ (v : AttributeView g.row.S.Denot). MakesOneOf (class_of (1 + 2 * length v.fields)) (ledger v.store) new) c.self.view_is
    (subst (λ fs. MakesOneOf (class_of (1 + 2 * length fs)) (ledger c.self.inside.store) new) c.as_slice-fields.ensures c.commit_attributes.ensures.counts)

pub returns-in-Ok-clause-trees : goal.returns-in-Ok-clause-trees
returns-in-Ok-clause-trees g c = ap (λ (v : AttributeView g.row.S.Denot). v.trees) c.self.view_is

pub returns-in-Err-clause-makes : goal.returns-in-Err-clause-makes
returns-in-Err-clause-makes g c =
    let ledger = g.S.Store.ledger in
    let new = ledger c.commit_attributes.new.store in
    subst (λ (v : AttributeView g.row.S.Denot). MakesOneOf (class_of (1 + 2 * length v.fields)) (ledger v.store) new) c.self.view_is
    (subst (λ fs. MakesOneOf (class_of (1 + 2 * length fs)) (ledger c.self.inside.store) new) c.as_slice-fields.ensures c.commit_attributes.ensures.counts)

pub returns-in-Err-clause-trees : goal.returns-in-Err-clause-trees
returns-in-Err-clause-trees g c = ap (λ (v : AttributeView g.row.S.Denot). v.trees) c.self.view_is

pub returns-then-commits_left-eq0-clause-dense : goal.returns-then-commits_left-eq0-clause-dense
returns-then-commits_left-eq0-clause-dense g c = refl

pub returns-in-Ok-clause-dense : goal.returns-in-Ok-clause-dense
returns-in-Ok-clause-dense g c = ap (λ (v : AttributeView g.row.S.Denot). v.dense) c.self.view_is

pub returns-in-Err-clause-dense : goal.returns-in-Err-clause-dense
returns-in-Err-clause-dense g c = ap (λ (v : AttributeView g.row.S.Denot). v.dense) c.self.view_is
