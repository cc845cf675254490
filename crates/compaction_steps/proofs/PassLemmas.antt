-- Keys that are passed: the plan at the last of them, and how many they are.
use Rattle.std.proofs.Common.{◌≡◌, ◌≢◌, ℕ, ◌+◌, ◌-◌, ◌*◌, ◌<◌, List, [], ◌∷◌, length, Some, Less, Greater, is_lt, true≢false, inl, inr, refl, sym, ap, subst, ◌∙◌, arith}
use Rattle.std.proofs.lemmas.Bool.{cases_eq}
use Rattle.std.proofs.lemmas.Cmp.{tied_itself}
use Rattle.std.specs.Prelude.{slice_get}
use Rattle.std.specs.List.{AllByRecursion}
use Rattle.std.specs.List.Sorted.{IsStrictlySortedBy}
use Rattle.std.specs.Option.{IfSome}
use Rattle.std.specs.declared.cmp.Ordering.{Ordering}
use Rattle.std.specs.Ordering.{ordering_then}
use Rattle.list_lemmas.proofs.Options.{same_Some}
use Rattle.list_lemmas.proofs.Each.{AllByRecursion-slice_get}
use Rattle.entry_ref.specs.Records.{Records}
use Rattle.store_api.specs.Ledgers.{Ledger}
use Rattle.compaction_moves.specs.Cleared.{IsCleared, IsClearedField}
use Rattle.attr_compaction.proofs.PlaceLemmas.{key_total, place_total, stage_total}
use Rattle.attr_compaction.specs.Places.{key_cmp, place_after, place_cmp, IsPast, PlanPlace, PlanView}
use Rattle.attr_compaction.specs.declared.plan.PlanKey.{PlanKey}
use Rattle.attr_compaction.specs.declared.plan.Stage.{Stage}
use Rattle.attr_compaction.specs.declared.plan.TheConstants.{PHASES}
use Rattle.image_format.specs.Tables.{AttributeTrees}
use Rattle.attr_types.specs.declared.field.Field.{Field}
use Rattle.attr_operations.specs.Fields.{IsFieldAt}
use Rattle.compaction_steps.specs.Passes.{GoesThrough}
use Rattle.compaction_steps.specs.StepsLaws.{OthersStayCleared}
use Rattle.attr_compaction.proofs.CountLemmas.{next_more, same_between}
use Rattle.attr_compaction.proofs.StageLemmas.{under}
use Rattle.attr_compaction.specs.Counts.{keys_between}
use Rattle.attr_compaction.proofs.OrderLemmas.{phase_ascends}
use Rattle.attr_compaction.specs.PhaseKeys.{HasType}
use Rattle.compaction_steps.proofs.KeyLemmas.{keys_of_all, next_fits}
use Rattle.compaction_steps.proofs.TurnLemmas.{place_is, plan_is}
use Rattle.compaction_steps.proofs.WalkLemmas.{found_past, stages_left}
use Rattle.compaction_steps.specs.Units.{keys_at, IsUnderWay, PassesKeys}
use Rattle.compaction_steps.specs.Walks.{Visits}

abbrev at_key : PlanPlace → PlanKey → PlanPlace
at_key at key = record { stage = at.stage; key = key }

-- ---- the plan at the last of them
pub through_fits : (m : Records) (a : AttributeTrees) (at : PlanPlace) (passed : List PlanKey) (to : PlanKey) → at.stage.phase < PHASES → 0 < length passed
    → GoesThrough (keys_at m a at.stage.phase) at.key passed to → HasType a.type to × IsPast at to
through_fits m a at [] to few some through = absurd (omega arith)
through_fits m a at (key ∷ []) to few some through =
    let one = next_fits m a at key few through.0 in
    subst (λ (k : PlanKey). HasType a.type k × IsPast at k) (sym through.1) one
through_fits m a at (key ∷ k ∷ passed) to few some through =
    let one = next_fits m a at key few through.0 in
    let more = through_fits m a (at_key at key) (k ∷ passed) to few (omega arith) through.1 in
    (more.0, record { of_phase = more.1.of_phase; above = key_total.trans at.key key to one.1.above more.1.above })

pub passed_way : OthersStayCleared → {H : Type 0} (bits root : ℕ) (ledger : Ledger H) (m : Records) (trees : List AttributeTrees) (plan new : PlanView) (a : AttributeTrees) (key : PlanKey)
    → IsUnderWay bits root ledger m trees plan → AllByRecursion (IsFieldAt m) trees → slice_get trees plan.place.stage.field ≡ Some a → HasType a.type key × IsPast plan.place key
    → IsClearedField bits plan.victim (at_key plan.place key) plan.place.stage.field m a
    → new.victim ≡ plan.victim → new.fields ≡ plan.fields → new.place ≡ place_after plan.fields plan.place key → new.copied ≡ plan.copied → IsUnderWay bits root ledger m trees new
passed_way others bits root ledger m trees plan new a key way each at fits cleared victim fields place copied =
    subst (λ (p : PlanView). IsUnderWay bits root ledger m trees p)
    (plan_is new plan.victim plan.fields (at_key plan.place key) new.copied victim fields (place ∙ place_is plan.fields plan.place key fits.1) refl) (record {
      sealed = way.sealed;
      unfinished = way.unfinished;
      all = way.all;
      typed = subst (λ o. IfSome o (λ (b : AttributeTrees). HasType b.type key)) (sym at) fits.0;
      cleared = all;
      whole = λ fresh. way.whole (sym copied ∙ fresh);
    })
  where
    all : IsCleared bits plan.victim (at_key plan.place key) m trees
    all j c there = elim (cases_eq j plan.place.stage.field) [
      | inl e ↦ subst (λ (f : ℕ). IsClearedField bits plan.victim (at_key plan.place key) f m c) (sym e)
          (subst (λ (d : AttributeTrees). IsClearedField bits plan.victim (at_key plan.place key) plan.place.stage.field m d)
          (same_Some a c (sym at ∙ ap (slice_get trees) (sym e) ∙ there)) cleared)
      | inr apart ↦ others bits plan.victim j plan.place key m c (AllByRecursion-slice_get (IsFieldAt m) trees j c each there) (λ e. apart (sym e)) (way.cleared j c there)
    ]

-- the plan that went on to the last of them, and the one that stays
pub passes_some : (m : Records) (trees : List AttributeTrees) (plan new : PlanView) (a : AttributeTrees) (key : PlanKey) (passed : List PlanKey) (count : ℕ)
    → slice_get trees plan.place.stage.field ≡ Some a → IsPast plan.place key → length passed ≡ count → GoesThrough (keys_at m a plan.place.stage.phase) plan.place.key passed key
    → new.victim ≡ plan.victim → new.fields ≡ plan.fields → new.place ≡ place_after plan.fields plan.place key → PassesKeys m trees plan new count
passes_some m trees plan new a key passed count at past size through victim fields place =
    let is = place ∙ place_is plan.fields plan.place key past in
    record {
      victim = victim;
      fields = fields;
      stage = ap (λ (p : PlanPlace). p.stage) is;
      tree = a;
      at = at;
      passed = passed;
      count_is = size;
      through = subst (GoesThrough (keys_at m a plan.place.stage.phase) plan.place.key passed) (sym (ap (λ (p : PlanPlace). p.key) is)) through;
    }

pub passes_none : (m : Records) (trees : List AttributeTrees) (plan : PlanView) (a : AttributeTrees) → slice_get trees plan.place.stage.field ≡ Some a → PassesKeys m trees plan plan 0
passes_none m trees plan a at = record { victim = refl; fields = refl; stage = refl; tree = a; at = at; passed = []; count_is = refl; through = refl }

-- ---- how many they are
not_greater : {a : Ordering} → a ≡ Less → a ≢ Greater
not_greater less greater = true≢false (sym (ap is_lt less) ∙ ap is_lt greater)

above : (at : PlanPlace) (key : PlanKey) → key_cmp at.key key ≡ Less → place_cmp at (at_key at key) ≡ Less
above at key less = ap (λ (o : Ordering). ordering_then o (key_cmp at.key key)) (tied_itself stage_total at.stage) ∙ less

none_more : (n : ℕ) → n ≡ 0 + n
none_more n = omega arith

through_counts : (k : Records) (next : List AttributeTrees) (a : AttributeTrees) (from at : PlanPlace) (passed : List PlanKey) (to : PlanKey) → slice_get next at.stage.field ≡ Some a
    → IsStrictlySortedBy key_cmp (keys_at k a at.stage.phase) → at.stage.phase < PHASES → place_cmp from at ≢ Greater → GoesThrough (keys_at k a at.stage.phase) at.key passed to
    → (keys_between from (at_key at to) k next ≡ length passed + keys_between from at k next) × (place_cmp from (at_key at to) ≢ Greater)
through_counts k next a from at [] to there up few rises through = (
  ap (λ (y : PlanKey). keys_between from (at_key at y) k next) through ∙ none_more (keys_between from at k next),
  subst (λ (y : PlanKey). place_cmp from (at_key at y) ≢ Greater) (sym through) rises,
)
through_counts k next a from at (key ∷ passed) to there up few rises through =
    let less = found_past at.key key (keys_at k a at.stage.phase) through.0 in
    let now = not_greater (under place_total from at (at_key at key) rises (above at key less)) in
    let rest = through_counts k next a from (at_key at key) passed to there up few now through.1 in
    let one = next_more k next a from at key there up few rises through.0 in
    (omega (arith, rest.0, one), rest.1)

-- ---- a walk that passed them
module _ {H : Type 0} (bits root : ℕ) (fields : List Field) (old mid : Ledger H) (m k : Records) (trees next : List AttributeTrees) (from to at : PlanView) (visited count : ℕ)
    (visits : Visits bits root old mid m k fields trees next from to visited) (way : IsUnderWay bits root mid k next at) (few : to.place.stage.phase < PHASES)
    (passes : PassesKeys k next to at count) where
  same_place : at_key to.place at.place.key ≡ at.place
  same_place = ap (λ (s : Stage). record { stage = s; key = at.place.key }) (sym passes.stage)

  counts : (keys_between from.place at.place k next ≡ count + keys_between from.place to.place k next) × (place_cmp from.place at.place ≢ Greater)
  counts =
      let is = AllByRecursion-slice_get (IsFieldAt k) next to.place.stage.field passes.tree visits.holds.are_fields.each passes.at in
      let up = phase_ascends passes.tree.type k passes.tree.documents passes.tree.dictionary to.place.stage.phase is.documents_are.map_is is.index_is in
      let all = through_counts k next passes.tree from.place to.place passes.passed at.place.key passes.at up few visits.rises passes.through in
      subst (λ (p : PlanPlace). (keys_between from.place p k next ≡ count + keys_between from.place to.place k next) × (place_cmp from.place p ≢ Greater)) same_place
      (all.0 ∙ ap (λ (c : ℕ). c + keys_between from.place to.place k next) passes.count_is, all.1)

  counted : keys_between from.place at.place m trees ≡ visited + count
  counted =
      let more = sym (same_between m k trees next from.place at.place (keys_of_all m k trees next visits.keep)) ∙ counts.0 in
      let was = same_between m k trees next from.place to.place (keys_of_all m k trees next visits.keep) ∙ visits.count in
      omega (arith, more, was)

  pub visits_passed : Visits bits root old mid m k fields trees next from at (visited + count)
  visits_passed = record {
    holds = visits.holds;
    under_way = way;
    last = record { last = λ over. absurd (let e = ap (λ (s : Stage). s.phase) passes.stage in omega (arith, over, e, few)) };
    table = visits.table;
    keep = visits.keep;
    keeps = visits.keeps;
    victim = passes.victim ∙ visits.victim;
    all = passes.fields ∙ visits.all;
    rises = counts.1;
    count = counted;
  }

  -- as many stages are left
  pub left_passed : stages_left at ≡ stages_left to
  left_passed =
      ap (λ (f : ℕ). 4 * (f - at.place.stage.field) + (4 - at.place.stage.phase)) passes.fields
      ∙ ap (λ (s : Stage). 4 * (to.fields - s.field) + (4 - s.phase)) passes.stage
