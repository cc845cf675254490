-- What callers see of a step of a compaction.
use Rattle.std.proofs.Common.{◌≡◌, Bool, ℕ, ◌≤◌, List, length, Option, None, Some, Result, Ok, Err, inl, inr, refl, sym, ap, subst, ◌∙◌, true≢false}
use Rattle.std.specs.Prelude.{is_some, IfErr, IfOk}
use Rattle.std.specs.Option.{option_map, IfSome}
use Rattle.entry_ref.specs.Images.{words_at}
use Rattle.entry_ref.specs.Records.{Records}
use Rattle.entry_ref.specs.declared.images.Image.{Image}
use Rattle.arena_api.specs.Works.{last_image}
use Rattle.store_api.specs.Ledgers.{Ledger}
use Rattle.store_api.specs.declared.store.StoreError.{StoreError}
use Rattle.store_api.specs.declared.store.StoreError.TheVariants as errors
use Rattle.attr_compaction.specs.Places.{PlanView}
use Rattle.attr_field.specs.declared.roots.FieldRoots.{FieldRoots}
use Rattle.image_format.specs.Images.{IsLawfulImage, operations_at, table_of}
use Rattle.image_format.specs.Shapes.{shape_of, types_of}
use Rattle.image_format.specs.Tables.{AttributeTrees}
use Rattle.attr_types.specs.declared.field.Field.{Field}
use Rattle.attr_operations.proofs.StepLemmas.{keeps_same}
use Rattle.attr_operations.specs.Fields.{HaveForms, HoldsAttributes, trees_of}
use Rattle.attr_operations.specs.Views.{table_at}
use Rattle.compaction_steps.specs.Units.{IsUnderWay}
use Rattle.compaction_steps.specs.Compactions.{Compacts, IsUnderPlan, KeepsStoreBut}
use Rattle.compaction_steps.specs.Walks.{HasLastField, RefusesNext}
use Rattle.compaction_steps.specs.Walks as walks
use Rattle.compaction_steps.specs.declared.stepping.Step.{Step}
use Rattle.compaction_steps.specs.declared.stepping.Step.TheVariants as steps
use Rattle.attribute_kinds.specs.Compacting.{CompactsTo, IsIdle, RefusesKey, RefusesStep, Stops}
use Rattle.attribute_kinds.specs.Refusals.{has_finished, refusal_of_store, told_of}
use Rattle.attribute_kinds.specs.Standing.{IsAttribute, IsLast, StandsAttribute}
use Rattle.attribute_kinds.specs.Views.{AttributeView}
use Rattle.attribute_kinds.specs.declared.answers.Compacted.TheVariants.{Idle}

refuses_key : {H : Type 0} (old new : Ledger H) (error : StoreError) → RefusesNext old new error → RefusesKey old new (refusal_of_store error)
refuses_key old new (errors.Full width active held oldest) refused = record { room = refused.why; spare = refused.spare; buffer = refused.active }
refuses_key old new errors.Memory refused = tt

no_victim : {H : Type 0} (bits fields : ℕ) (old new : Ledger H) (before : Option PlanView) (plan : PlanView) → IsIdle bits old before → old.finished ≡ None → IsUnderPlan bits fields old new before plan → ⊥
no_victim bits fields old new before plan idle unfinished under = elim idle.why [
  | inl some ↦ true≢false (sym some ∙ ap is_some unfinished)
  | inr none ↦ none.none plan.victim (subst (λ (o : Option PlanView). IsUnderPlan bits fields old new o plan) idle.none under).victim.candidate
]

module _ {S H : Type 0} (bits : ℕ) (ledger : S → Ledger H) (records : S → Records) (fields : List Field) (dense : Bool) (operations root published : ℕ) where
  abbrev pub seen : S → List AttributeTrees → Option PlanView → AttributeView S
  seen s trees plan = record {
    store = s;
    fields = fields;
    dense = dense;
    trees = trees;
    table = table_at (records s) trees;
    operations = operations;
    root = root;
    committed = table_of (shape_of (types_of fields)) (words_at (last_image (ledger s).work.commits)) root;
    committed_operations = published;
    plan = plan;
  }

  module _ (old new : S) (trees next : List AttributeTrees) (before after : Option PlanView) (keys : ℕ) where
    abbrev Made : Result Step StoreError → Type 0
    Made r = Compacts bits root (ledger old) (ledger new) (records old) (records new) fields trees next before after (new ≡ old) keys r

    stops_told : (moved : ℕ) (stop : Option StoreError) → walks.Stops (ledger old) (ledger new) keys moved stop
        → Stops bits ledger records (seen old trees before) (seen new next after) keys moved (option_map refusal_of_store stop)
    stops_told moved None stops = stops
    stops_told moved (Some error) stops = record { some = stops.some; few = stops.few; refused = refuses_key (ledger old) (ledger new) error stops.refused }

    pub steps_told : (r : Result Step StoreError) → Made r → IfOk (told_of r) (CompactsTo bits ledger records (seen old trees before) (seen new next after) keys)
    steps_told (Ok steps.Idle) made = record {
      idle = record { none = made.none.none; why = inr made.none.why };
      same = λ i. seen (made.none.store_is i) (made.trees_are i) ((made.gone ∙ sym made.none.none) i);
    }
    steps_told (Ok (steps.Moved moved stop)) made = (
      record {
        plan = made.0.plan;
        plan_is = made.0.plan_is;
        at = record { under = made.0.went.under; rises = made.0.went.rises };
        count = made.0.went.count;
        unfinished = made.0.under_way.unfinished;
      },
      stops_told moved stop made.1,
    )
    steps_told (Ok (steps.Finished buffer)) made = record {
      plan = made.plan;
      at = record { under = made.went.under; rises = made.went.rises };
      few = subst (λ (k : ℕ). k ≤ keys) (sym made.went.count) made.few;
      over = made.over;
      victim = made.victim;
      gone = made.gone;
      finished = made.finished;
      apart = made.apart;
    }
    steps_told (Err error) made = tt

    pub refuses_told : (r : Result Step StoreError) → Made r → IfErr (told_of r) (RefusesStep bits ledger records (seen old trees before) (seen new next after))
    refuses_told (Ok steps.Idle) made = tt
    refuses_told (Ok (steps.Moved moved stop)) made = tt
    refuses_told (Ok (steps.Finished buffer)) made = tt
    refuses_told (Err error) made = record {
      goes = record {
        plan = made.goes.plan;
        plan_is = made.goes.plan_is;
        at = record { under = made.goes.went.under; rises = made.goes.went.rises };
        count = made.goes.went.count;
        unfinished = made.goes.under_way.unfinished;
      };
      refused = refuses_key (ledger old) (ledger new) error made.refused;
      entries = made.left;
      trees_are = made.trees_are;
    }

    pub idle_told : (r : Result Step StoreError) → Made r → (ledger old).finished ≡ None → IsIdle bits (ledger old) before → told_of r ≡ Ok Idle
    idle_told (Ok steps.Idle) made unfinished idle = refl
    idle_told (Ok (steps.Moved moved stop)) made unfinished idle =
        absurd (no_victim bits (length fields) (ledger old) (ledger new) before made.0.plan idle unfinished made.0.went.under)
    idle_told (Ok (steps.Finished buffer)) made unfinished idle =
        absurd (no_victim bits (length fields) (ledger old) (ledger new) before made.plan idle unfinished made.went.under)
    idle_told (Err error) made unfinished idle =
        absurd (no_victim bits (length fields) (ledger old) (ledger new) before made.goes.plan idle unfinished made.goes.went.under)

    pub keeps_told : (r : Result Step StoreError) → Made r → KeepsStoreBut (ledger old) (ledger new)
    keeps_told (Ok steps.Idle) made = subst (λ s. KeepsStoreBut (ledger old) (ledger s)) (sym made.none.store_is) (keeps_same (ledger old))
    keeps_told (Ok (steps.Moved moved stop)) made = made.0.went.keeps
    keeps_told (Ok (steps.Finished buffer)) made = made.went.keeps
    keeps_told (Err error) made = made.goes.went.keeps

    pub table_told : (r : Result Step StoreError) → Made r → table_at (records new) next ≡ table_at (records old) trees
    table_told (Ok steps.Idle) made = λ i. table_at (records (made.none.store_is i)) (made.trees_are i)
    table_told (Ok (steps.Moved moved stop)) made = made.0.went.table
    table_told (Ok (steps.Finished buffer)) made = made.went.table
    table_told (Err error) made = made.goes.went.table

    holds_told : (r : Result Step StoreError) → Made r → HoldsAttributes bits (ledger old) (records old) fields trees root → HoldsAttributes bits (ledger new) (records new) fields next root
    holds_told (Ok steps.Idle) made holds =
        subst (λ (ts : List AttributeTrees). HoldsAttributes bits (ledger new) (records new) fields ts root) (sym made.trees_are)
        (subst (λ s. HoldsAttributes bits (ledger s) (records s) fields trees root) (sym made.none.store_is) holds)
    holds_told (Ok (steps.Moved moved stop)) made holds = made.0.went.holds
    holds_told (Ok (steps.Finished buffer)) made holds = made.went.holds
    holds_told (Err error) made holds = made.goes.went.holds

    abbrev IsPlanned : Option PlanView → Type 0
    IsPlanned o = IfSome o (IsUnderWay bits root (ledger new) (records new) next) × IfSome o HasLastField

    planned_told : (r : Result Step StoreError) → Made r → (ledger old).finished ≡ None → IsPlanned after × (has_finished r ≡ is_some (ledger new).finished)
    planned_told (Ok steps.Idle) made unfinished = (
      subst IsPlanned (sym made.gone) (tt, tt),
      sym (ap is_some (ap (λ s. (ledger s).finished) made.none.store_is ∙ unfinished)),
    )
    planned_told (Ok (steps.Moved moved stop)) made unfinished =
        (subst IsPlanned (sym made.0.plan_is) (made.0.under_way, made.0.last), sym (ap is_some made.0.under_way.unfinished))
    planned_told (Ok (steps.Finished buffer)) made unfinished = (subst IsPlanned (sym made.gone) (tt, tt), sym (ap is_some made.finished))
    planned_told (Err error) made unfinished =
        (subst IsPlanned (sym made.goes.plan_is) (made.goes.under_way, made.goes.last), sym (ap is_some made.goes.under_way.unfinished))

    last_but : (commit : ℕ) → KeepsStoreBut (ledger old) (ledger new) → IsLast (ledger old) fields root commit published → IsLast (ledger new) fields root commit published
    last_but commit keeps last =
        let same : last_image (ledger new).work.commits ≡ last_image (ledger old).work.commits = keeps.commits.image in
        record {
          root_is = ap (λ (i : Image). i.root) same ∙ last.root_is;
          lawful = subst (λ (i : Image). IsLawfulImage (shape_of (types_of fields)) (words_at i) root) (sym same) last.lawful;
          operations_are = ap (λ (i : Image). operations_at (words_at i) root) same ∙ last.operations_are;
          number = last.number ∙ sym keeps.commits.last;
        }

  pub attribute_told : (old new : S) (roots others : List (FieldRoots bits)) (before after : Option PlanView) (keys commit : ℕ) (r : Result Step StoreError)
      → StandsAttribute (ledger old) (records old) fields roots root commit published → (ledger old).finished ≡ None → length others ≡ length fields
      → Compacts bits root (ledger old) (ledger new) (records old) (records new) fields (trees_of fields roots) (trees_of fields others) before after (new ≡ old) keys r
      → HaveForms dense (records new) (trees_of fields others) → IsAttribute dense (ledger new) (records new) fields others root commit published after (has_finished r)
  attribute_told old new roots others before after keys commit r stands unfinished sized made forms =
      let trees = trees_of fields roots in
      let next = trees_of fields others in
      let keeps = keeps_told old new trees next before after keys r made in
      let planned = planned_told old new trees next before after keys r made unfinished in
      record {
        stands = record {
          sized = sized;
          few = stands.few;
          shape = keeps.shape ∙ stands.shape;
          holds = holds_told old new trees next before after keys r made stands.holds;
          last = last_but old new trees next before after keys commit keeps stands.last;
        };
        forms = forms;
        plan_is = planned.0.0;
        last_is = planned.0.1;
        waits_is = planned.1;
      }
