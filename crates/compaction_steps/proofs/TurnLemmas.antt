-- The ends of a turn: nothing was done, a phase is over, a key was refused or moved.
use Rattle.std.proofs.Common.{◌≡◌, ℕ, ◌<◌, Bool, ◌||◌, cond, List, length, set, get_or, Option, None, Some, Less, refl, sym, ap, subst, ◌∙◌, arith, inr, ◌⊎◌}
use Rattle.std.proofs.lemmas.Option.{slice_get_read}
use Rattle.std.specs.Prelude.{slice_get, unwrap_or}
use Rattle.std.specs.List.{AllByRecursion}
use Rattle.std.specs.Option.{IfSome, option_and_then}
use Rattle.list_lemmas.proofs.Each.{AllByRecursion-slice_get}
use Rattle.entry_ref.specs.Records.{Records}
use Rattle.store_api.specs.Ledgers.{Ledger}
use Rattle.store_api.specs.Parts.{count_in, uses}
use Rattle.store_api.proofs.Uses.{back_uses, uses-same}
use Rattle.compaction_moves.specs.Cleared.{IsCleared}
use Rattle.compaction_steps.specs.StepsLaws.{PhaseEndLeavesCleared}
use Rattle.attr_compaction.proofs.PlaceLemmas.{not_start}
use Rattle.attr_compaction.specs.Places.{next_stage, place_after, place_cmp, IsPast, PlanPlace, PlanView}
use Rattle.attr_compaction.specs.declared.plan.PlanKey.{PlanKey}
use Rattle.attr_compaction.specs.declared.plan.PlanKey.TheVariants.{Start}
use Rattle.attr_compaction.specs.declared.plan.TheConstants.{PHASES}
use Rattle.attr_field.specs.declared.roots.FieldRoots.{FieldRoots}
use Rattle.image_format.specs.Tables.{AttributeTrees}
use Rattle.attr_types.specs.declared.field.Field.{Field}
use Rattle.attr_compaction.specs.PhaseKeys.{key_past, HasType}
use Rattle.attr_operations.specs.Calls.{KeepsStore, LeavesEntries}
use Rattle.attr_operations.specs.Fields.{HoldsAttributes, IsFieldAt, parts_of, trees_of, trees_of_field}
use Rattle.attr_operations.specs.Views.{table_at}
use Rattle.attr_operations.proofs.Holding.{holds_left}
use Rattle.attr_operations.proofs.TreeLists.{tree_get, tree_set, trees_length}
use Rattle.compaction_steps.specs.Units.{keys_at, next_at, plan_at, turn_of, CompactsTo, GoesOn, IsUnderWay, KeepKeys}
use Rattle.compaction_steps.proofs.KeyLemmas.{next_fits, same_keys}

-- ---- the plan
pub next_is : (m : Records) (trees : List AttributeTrees) (at : PlanPlace) (a : AttributeTrees) (next : Option PlanKey) → slice_get trees at.stage.field ≡ Some a
    → next ≡ key_past at.key (keys_at m a at.stage.phase) → next_at m trees at ≡ next
next_is m trees at a next here is = ap (λ (o : Option AttributeTrees). option_and_then (λ (b : AttributeTrees). key_past at.key (keys_at m b at.stage.phase)) o) here ∙ sym is

pub goes_on : (m : Records) (trees : List AttributeTrees) (old new : PlanView) (next : Option PlanKey) → next_at m trees old.place ≡ next → new.victim ≡ old.victim → new.fields ≡ old.fields
    → new.place ≡ place_after old.fields old.place (unwrap_or next Start) → place_cmp old.place new.place ≡ Less → GoesOn old new (next_at m trees old.place) (turn_of next)
goes_on m trees old new next is victim fields place rises = record {
  turn_is = sym (ap turn_of is);
  victim = victim;
  fields = fields;
  place = place ∙ sym (ap (λ (o : Option PlanKey). place_after old.fields old.place (unwrap_or o Start)) is);
  rises = rises;
}

pub plan_is : (new : PlanView) (victim fields : ℕ) (place : PlanPlace) (copied : Bool) → new.victim ≡ victim → new.fields ≡ fields → new.place ≡ place → new.copied ≡ copied
    → record { victim = victim; fields = fields; place = place; copied = copied } ≡ new
plan_is new victim fields place copied v f p c =
    ap (λ (x : ℕ). record { victim = x; fields = fields; place = place; copied = copied }) (sym v)
    ∙ ap (λ (x : ℕ). record { victim = new.victim; fields = x; place = place; copied = copied }) (sym f)
    ∙ ap (λ (x : PlanPlace). record { victim = new.victim; fields = new.fields; place = x; copied = copied }) (sym p)
    ∙ ap (λ (x : Bool). record { victim = new.victim; fields = new.fields; place = new.place; copied = x }) (sym c)

pub place_is : (fields : ℕ) (at : PlanPlace) (key : PlanKey) → IsPast at key → place_after fields at key ≡ record { stage = at.stage; key = key }
place_is fields at key past =
    ap (λ (over : Bool). record { stage = cond over (next_stage fields at.stage) at.stage; key = key }) (not_start at.stage.phase key past.of_phase)

-- ---- a phase is over
typed_start : (o : Option AttributeTrees) → IfSome o (λ a. HasType a.type Start)
typed_start None = tt
typed_start (Some a) = tt

pub over_way : PhaseEndLeavesCleared → {H : Type 0} (bits root : ℕ) (ledger : Ledger H) (m : Records) (trees : List AttributeTrees) (plan new : PlanView) (a : AttributeTrees) → IsUnderWay bits root ledger m trees plan
    → AllByRecursion (IsFieldAt m) trees → plan.place.stage.phase < PHASES → slice_get trees plan.place.stage.field ≡ Some a
    → None ≡ key_past plan.place.key (keys_at m a plan.place.stage.phase)
    → new.victim ≡ plan.victim → new.fields ≡ plan.fields → new.place ≡ place_after plan.fields plan.place Start → new.copied ≡ plan.copied → IsUnderWay bits root ledger m trees new
over_way ends bits root ledger m trees plan new a way each few at none victim fields place copied =
    subst (λ (p : PlanView). IsUnderWay bits root ledger m trees p) (plan_is new plan.victim plan.fields (place_after plan.fields plan.place Start) new.copied victim fields place refl) (record {
      sealed = way.sealed;
      unfinished = way.unfinished;
      all = way.all;
      typed = typed_start (slice_get trees (place_after plan.fields plan.place Start).stage.field);
      cleared = subst (λ (n : ℕ). IsCleared bits plan.victim (place_after n plan.place Start) m trees) (sym way.all)
          (ends bits plan.victim plan.place m trees a each few at (sym none) way.cleared);
      whole = λ fresh. way.whole (sym copied ∙ fresh);
    })

-- ---- a key was refused
left_uses : {H : Type 0} (old new : Ledger H) (m n : Records) → LeavesEntries old new m n → (r : ℕ) → uses new r ≡ uses old r
left_uses old new m n left r = uses-same old new r (back_uses (old.status r) (new.status r) (left.status r))

pub left_way : {H : Type 0} (bits root : ℕ) (old new : Ledger H) (m o : Records) (trees : List AttributeTrees) (plan : PlanView) → IsUnderWay bits root old m trees plan → LeavesEntries old new m o
    → KeepsStore old new → IsUnderWay bits root new o trees plan
left_way bits root old new m o trees plan way left keeps = record {
  sealed = ap (λ (s : ℕ → Bool). s plan.victim) keeps.sealed ∙ way.sealed;
  unfinished = keeps.finished ∙ way.unfinished;
  all = way.all;
  typed = way.typed;
  cleared = subst (λ (f : Records). IsCleared bits plan.victim plan.place f trees) (sym left.records) way.cleared;
  whole = λ fresh. let was = way.whole fresh in record {
    owned = λ r lies.
        let most = was.owned r lies in
        let count = ap (λ (f : Records). count_in r f (parts_of trees)) left.records in
        let same = left_uses old new m o left r in
        omega arith;
    none_left = λ r gone. was.none_left r (keeps.left r gone);
  };
}

pub left_all : {H : Type 0} (bits : ℕ) (old new : Ledger H) (m o : Records) (fields : List Field) (trees : List AttributeTrees) (root : ℕ) (plan : PlanView)
    → HoldsAttributes bits old m fields trees root → IsUnderWay bits root old m trees plan → LeavesEntries old new m o → KeepsStore old new → CompactsTo bits new m o fields trees trees root plan
left_all bits old new m o fields trees root plan holds way left keeps = record {
  holds = holds_left bits old new m o fields trees root holds left keeps;
  under_way = left_way bits root old new m o trees plan way left keeps;
  table = ap (λ (f : Records). table_at f trees) left.records;
  keys = subst (λ (f : Records). KeepKeys m f trees trees) (sym left.records) (same_keys m trees);
}

-- ---- a key was moved
pub moved_way : {H : Type 0} (bits : ℕ) (ledger : Ledger H) (m o : Records) (fields : List Field) (trees next : List AttributeTrees) (root : ℕ) (plan new : PlanView) (copies : Bool) (key : PlanKey)
    → CompactsTo bits ledger m o fields trees next root (plan_at plan copies key) → IsPast plan.place key → new.victim ≡ plan.victim → new.fields ≡ plan.fields
    → new.place ≡ place_after plan.fields plan.place key → new.copied ≡ (copies || plan.copied) → CompactsTo bits ledger m o fields trees next root new
moved_way bits ledger m o fields trees next root plan new copies key all past victim fields_are place copied =
    subst (λ (p : PlanView). CompactsTo bits ledger m o fields trees next root p)
    (plan_is new plan.victim plan.fields (record { stage = plan.place.stage; key = key }) (copies || plan.copied) victim fields_are (place ∙ place_is plan.fields plan.place key past) copied) all

pub past_next : (m : Records) (a : AttributeTrees) (at : PlanPlace) (key : PlanKey) → at.stage.phase < PHASES → Some key ≡ key_past at.key (keys_at m a at.stage.phase) → (key ≡ Start) ⊎ IsPast at key
past_next m a at key few next = inr (next_fits m a at key few (sym next)).1

-- ---- the attribute of the plan's place
pub record AtPlace {bits : ℕ} (m : Records) (fields : List Field) (roots : List (FieldRoots bits)) (plan : PlanView) (i : ℕ) (field : Field) (own : FieldRoots bits) : Type 0 where
  pub at_field : slice_get fields i ≡ Some field
  pub at : slice_get (trees_of fields roots) plan.place.stage.field ≡ Some (trees_of_field field own)
  pub is_field : IsFieldAt m (trees_of_field field own)
  pub typed : HasType field.value plan.place.key

module _ {bits : ℕ} {H : Type 0} (ledger : Ledger H) (m : Records) (fields : List Field) (roots : List (FieldRoots bits)) (root : ℕ) (plan : PlanView) (i : ℕ) where
  pub below_fields : IsUnderWay bits root ledger m (trees_of fields roots) plan → length roots ≡ length fields → i < plan.fields → i < length fields
  below_fields way sized below = let all = way.all in let same = trees_length fields roots sized in omega arith

  module _ (holds : HoldsAttributes bits ledger m fields (trees_of fields roots) root) (way : IsUnderWay bits root ledger m (trees_of fields roots) plan) (sized : length roots ≡ length fields)
      (place : i ≡ plan.place.stage.field) (below : i < plan.fields) (field : Field) (own : FieldRoots bits) (read : field ≡ get_or fields i field) (had : own ≡ get_or roots i own) where
    field_there : slice_get fields i ≡ Some field
    field_there = slice_get_read fields (length fields) i field refl (below_fields way sized below) read

    here : slice_get (trees_of fields roots) plan.place.stage.field ≡ Some (trees_of_field field own)
    here = subst (λ (j : ℕ). slice_get (trees_of fields roots) j ≡ Some (trees_of_field field own)) place
        (tree_get fields roots i field own field_there (slice_get_read roots (length fields) i own (sym sized) (below_fields way sized below) had))

    pub at_place : AtPlace m fields roots plan i field own
    at_place = record {
      at_field = field_there;
      at = here;
      is_field = AllByRecursion-slice_get (IsFieldAt m) (trees_of fields roots) plan.place.stage.field (trees_of_field field own) holds.are_fields.each here;
      typed = subst (λ (o : Option AttributeTrees). IfSome o (λ a. HasType a.type plan.place.key)) here way.typed;
    }

pub moved_roots : {bits : ℕ} {H : Type 0} (ledger : Ledger H) (m o : Records) (fields : List Field) (roots : List (FieldRoots bits)) (trees : List AttributeTrees) (root : ℕ) (plan : PlanView)
    (i place : ℕ) (field : Field) (next : FieldRoots bits) → i ≡ place → slice_get fields i ≡ Some field
    → CompactsTo bits ledger m o fields trees (set (trees_of fields roots) place (trees_of_field field next)) root plan
    → CompactsTo bits ledger m o fields trees (trees_of fields (set roots i next)) root plan
moved_roots {bits} ledger m o fields roots trees root plan i place field next same there all =
    subst (λ (ts : List AttributeTrees). CompactsTo bits ledger m o fields trees ts root plan) (sym (tree_set fields roots i field next there))
    (subst (λ (j : ℕ). CompactsTo bits ledger m o fields trees (set (trees_of fields roots) j (trees_of_field field next)) root plan) (sym same) all)
