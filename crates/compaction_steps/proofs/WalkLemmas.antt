-- What a turn adds to a walk.
use Rattle.std.proofs.Common.{◌≡◌, ◌≢◌, ℕ, zero, suc, ◌+◌, ◌-◌, ◌*◌, ◌<◌, ◌≤◌, Bool, true, false, cond, nat_eq, nat_lt, List, [], ◌∷◌, length, Option, None, Some, Less, Greater, is_lt, true≢false, refl, sym, ap, ap₂}
use Rattle.std.proofs.Common.{subst, ◌∙◌, arith}
use Rattle.std.proofs.lemmas.Bool.{eqb-true, eqb-false, ltb-true, ltb-false}
use Rattle.std.proofs.lemmas.Cmp.{tied_itself}
use Rattle.std.specs.Prelude.{slice_get, unwrap_or, Ok, Err}
use Rattle.std.specs.List.{AllByRecursion}
use Rattle.std.specs.Option.{option_and_then}
use Rattle.std.specs.Ordering.{is_gt}
use Rattle.list_lemmas.proofs.Options.{same_Some}
use Rattle.entry_ref.specs.Records.{Records}
use Rattle.store_api.proofs.May.{keeps_commits-then}
use Rattle.store_api.specs.Ledgers.{Ledger}
use Rattle.store_api.specs.declared.store.StoreError.{StoreError}
use Rattle.store_api.specs.declared.store.StoreError.TheVariants.{Full, Memory}
use Rattle.attr_compaction.proofs.PlaceLemmas.{place_total}
use Rattle.attr_compaction.specs.Places.{is_start, key_cmp, next_stage, place_after, place_cmp, PlanPlace, PlanView}
use Rattle.attr_compaction.specs.declared.plan.PlanKey.{PlanKey}
use Rattle.attr_compaction.specs.declared.plan.PlanKey.TheVariants.{Start, Value, Doc, Pair}
use Rattle.attr_compaction.specs.declared.plan.Stage.{Stage}
use Rattle.attr_compaction.specs.declared.plan.TheConstants.{KEYS, NODES, PHASES}
use Rattle.image_format.specs.Tables.{AttributeTrees}
use Rattle.attr_types.specs.declared.field.Field.{Field}
use Rattle.attr_operations.proofs.StepLemmas.{keeps_same}
use Rattle.attr_operations.specs.Calls.{KeepsStore, LeavesEntries, RefusesUnit}
use Rattle.attr_operations.specs.Fields.{HoldsAttributes, IsFieldAt}
use Rattle.attr_operations.specs.Views.{table_at}
use Rattle.compaction_steps.proofs.KeyLemmas.{one_keeps_then, keys_of_all, same_keys}
use Rattle.compaction_steps.specs.Units.{keys_at, next_at, GoesOn, IsUnderWay, KeepKeys}
use Rattle.compaction_steps.specs.declared.unit.Turn.{Turn}
use Rattle.compaction_steps.specs.declared.unit.Turn.TheVariants.{Moved, PhaseOver}
use Rattle.compaction_steps.specs.Walks.{HasLastField, RefusesNext, Visits, Walks}
use Rattle.compaction_steps.specs.declared.walk.Walk.TheVariants.{Visited}
use Rattle.attr_compaction.proofs.CountLemmas.{end_no_more, next_more, none_between, same_between}
use Rattle.attr_compaction.proofs.StageLemmas.{less_is, under}
use Rattle.attr_compaction.specs.Counts.{keys_between}
use Rattle.attr_compaction.proofs.OrderLemmas.{phase_ascends}
use Rattle.attr_compaction.specs.PhaseKeys.{key_past}

-- ---- what is kept
pub keeps_then : {H : Type 0} (a b c : Ledger H) → KeepsStore a b → KeepsStore b c → KeepsStore a c
keeps_then a b c one two = record {
  unit = two.unit ∙ one.unit;
  home = two.home ∙ one.home;
  shape = two.shape ∙ one.shape;
  sizes = two.sizes ∙ one.sizes;
  commits = keeps_commits-then a.work.commits b.work.commits c.work.commits one.commits two.commits;
  told = two.told ∙ one.told;
  readers = two.readers ∙ one.readers;
  stops = (let s = one.stops in let t = two.stops in omega arith);
  alone = λ none. two.alone (one.readers ∙ none) ∙ one.alone none;
  sealed = two.sealed ∙ one.sealed;
  finished = two.finished ∙ one.finished;
  left = λ r is. one.left r (two.left r is);
}

pub refused_since : {H : Type 0} (old mid new : Ledger H) (error : StoreError) → old.work.stops ≤ mid.work.stops → RefusesUnit mid new error → RefusesUnit old new error
refused_since old mid new (Full width active held oldest) fewer room = record {
  is_width_of = room.is_width_of;
  free = room.free;
  active_is = room.active_is;
  held_is = room.held_is;
  all = room.all;
  unread = room.unread;
  generation = room.generation;
  hold = room.hold;
  newest = room.newest;
  stopped = λ e. let s = room.stopped e in (s.0, s.1, (let more = s.2 in omega arith));
  made = room.made;
  found = room.found;
}
refused_since old mid new Memory fewer room = tt

keys_then : (m k n : Records) (trees next after : List AttributeTrees) → KeepKeys m k trees next → KeepKeys k n next after → KeepKeys m n trees after
keys_then m k n [] [] [] one two = tt
keys_then m k n (a ∷ trees) (b ∷ next) (d ∷ after) one two = (one_keeps_then m k n a b d one.0 two.0, keys_then m k n trees next after one.1 two.1)
keys_then m k n [] [] (d ∷ after) one two = absurd two
keys_then m k n [] (b ∷ next) after one two = absurd one
keys_then m k n (a ∷ trees) [] after one two = absurd one
keys_then m k n (a ∷ trees) (b ∷ next) [] one two = absurd two

-- ---- the last attribute
abbrev stage_by : Stage → Bool → Bool → Stage
stage_by s t u = cond t (record { field = s.field; phase = s.phase + 1 }) (cond u (record { field = s.field + 1; phase = KEYS }) (record { field = s.field; phase = PHASES }))

abbrev stage_to : ℕ → Stage → Bool → Stage
stage_to fields s t = cond t (next_stage fields s) s

last_stage : (fields : ℕ) (s : Stage) (t u : Bool) → nat_lt s.phase NODES ≡ t → nat_lt (s.field + 1) fields ≡ u
    → (stage_by s t u).phase ≡ PHASES
    → fields ≤ (stage_by s t u).field + 1
last_stage fields s true u et eu over = let low = ltb-true s.phase NODES et in absurd (omega arith)
last_stage fields s false true et eu over = absurd (omega arith)
last_stage fields s false false et eu over = let high = ltb-false (s.field + 1) fields eu in omega arith

last_by : (fields : ℕ) (s : Stage) (t : Bool) → s.phase < PHASES → (stage_to fields s t).phase ≡ PHASES → fields ≤ (stage_to fields s t).field + 1
last_by fields s true few over = last_stage fields s (nat_lt s.phase NODES) (nat_lt (s.field + 1) fields) refl refl over
last_by fields s false few over = absurd (omega arith)

last_after : (fields : ℕ) (at : PlanPlace) (done : PlanKey) → at.stage.phase < PHASES → (place_after fields at done).stage.phase ≡ PHASES
    → fields ≤ (place_after fields at done).stage.field + 1
last_after fields at done few = last_by fields at.stage (is_start done) few

-- ---- what is left to do, as a number that falls
abbrev pub stages_left : PlanView → ℕ
stages_left plan = 4 * (plan.fields - plan.place.stage.field) + (4 - plan.place.stage.phase)

left_stage : (fields : ℕ) (s : Stage) (t u : Bool) → nat_lt s.phase NODES ≡ t → nat_lt (s.field + 1) fields ≡ u → s.phase < PHASES → s.field < fields
    → 4 * (fields - (stage_by s t u).field)
    + (4 - (stage_by s t u).phase)
    < 4 * (fields - s.field) + (4 - s.phase)
left_stage fields s true u et eu few within = let low = ltb-true s.phase NODES et in omega arith
left_stage fields s false true et eu few within = let more = ltb-true (s.field + 1) fields eu in omega arith
left_stage fields s false false et eu few within = omega arith

pub left_over : (fields : ℕ) (s : Stage) → s.phase < PHASES → s.field < fields
    → 4 * (fields - (next_stage fields s).field) + (4 - (next_stage fields s).phase) < 4 * (fields - s.field) + (4 - s.phase)
left_over fields s few within = left_stage fields s (nat_lt s.phase NODES) (nat_lt (s.field + 1) fields) refl refl few within

-- ---- the keys that are counted
abbrev one_of : Option PlanKey → ℕ
one_of None = 0
one_of (Some key) = 1

pub not_start : (at key : PlanKey) → key_cmp at key ≡ Less → is_start key ≡ false
not_start Start Start less = absurd (true≢false (sym (ap is_lt less)))
not_start (Value v) Start less = absurd (true≢false (sym (ap is_lt less)))
not_start (Doc d) Start less = absurd (true≢false (sym (ap is_lt less)))
not_start (Pair v d) Start less = absurd (true≢false (sym (ap is_lt less)))
not_start at (Value v) less = refl
not_start at (Doc d) less = refl
not_start at (Pair v d) less = refl

found_by : (at x key : PlanKey) (keys : List PlanKey) (t : Bool) → (key_past at keys ≡ Some key → key_cmp at key ≡ Less) → is_lt (key_cmp at x) ≡ t
    → cond t (Some x) (key_past at keys) ≡ Some key → key_cmp at key ≡ Less
found_by at x key keys true rest is here = ap (key_cmp at) (sym (same_Some x key here)) ∙ less_is (key_cmp at x) is
found_by at x key keys false rest is later = rest later

pub found_past : (at key : PlanKey) (keys : List PlanKey) → key_past at keys ≡ Some key → key_cmp at key ≡ Less
found_past at key [] found = cc
found_past at key (x ∷ keys) found = found_by at x key keys (is_lt (key_cmp at x)) (found_past at key keys) refl found

get_some : (trees : List AttributeTrees) (i : ℕ) → i < length trees → slice_get trees i ≡ None → ⊥
get_some [] i below none = omega arith
get_some (a ∷ trees) zero below none = cc
get_some (a ∷ trees) (suc i) below none = get_some trees i (omega arith) none

all_get : (P : AttributeTrees → Type 0) (trees : List AttributeTrees) (i : ℕ) (a : AttributeTrees) → AllByRecursion P trees → slice_get trees i ≡ Some a → P a
all_get P [] i a all there = cc
all_get P (x ∷ trees) zero a all there = subst P (same_Some x a there) all.0
all_get P (x ∷ trees) (suc i) a all there = all_get P trees i a all.1 there

module _ (k : Records) (next : List AttributeTrees) (from at : PlanPlace) (each : AllByRecursion (IsFieldAt k) next) (within : at.stage.field < length next) (few : at.stage.phase < PHASES)
    (rises : place_cmp from at ≢ Greater) where
  abbrev Counts : Option PlanKey → Type 0
  Counts o = keys_between from (place_after (length next) at (unwrap_or o Start)) k next ≡ one_of o + keys_between from at k next

  at_key : (a : AttributeTrees) (key : PlanKey) → slice_get next at.stage.field ≡ Some a → key_past at.key (keys_at k a at.stage.phase) ≡ Some key → Counts (Some key)
  at_key a key there found =
      let is = all_get (IsFieldAt k) next at.stage.field a each there in
      let up = phase_ascends a.type k a.documents a.dictionary at.stage.phase is.documents_are.map_is is.index_is in
      ap (λ (t : Bool). keys_between from (record { stage = cond t (next_stage (length next) at.stage) at.stage; key = key }) k next)
      (not_start at.key key (found_past at.key key (keys_at k a at.stage.phase) found))
      ∙ next_more k next a from at key there up few rises found
      ∙ (let e : suc (keys_between from at k next) ≡ 1 + keys_between from at k next = omega arith in e)

  at_end : (a : AttributeTrees) → slice_get next at.stage.field ≡ Some a → key_past at.key (keys_at k a at.stage.phase) ≡ None → Counts None
  at_end a there none = end_no_more k next a from at there few none ∙ (let e : keys_between from at k next ≡ 0 + keys_between from at k next = omega arith in e)

  by_found : (a : AttributeTrees) (o : Option PlanKey) → slice_get next at.stage.field ≡ Some a → key_past at.key (keys_at k a at.stage.phase) ≡ o → Counts o
  by_found a None there none = at_end a there none
  by_found a (Some key) there found = at_key a key there found

  by_get : (s : Option AttributeTrees) (o : Option PlanKey) → slice_get next at.stage.field ≡ s → option_and_then (λ a. key_past at.key (keys_at k a at.stage.phase)) s ≡ o → Counts o
  by_get None o there is = absurd (get_some next at.stage.field within there)
  by_get (Some a) o there is = by_found a o there is

  turn_counts : (o : Option PlanKey) → next_at k next at ≡ o → Counts o
  turn_counts o is = by_get (slice_get next at.stage.field) o refl is

next_not_start : (k : Records) (next : List AttributeTrees) (at : PlanPlace) (key : PlanKey) → next_at k next at ≡ Some key → is_start key ≡ false
next_not_start k next at key is = by (slice_get next at.stage.field) is
  where
    by : (s : Option AttributeTrees) → option_and_then (λ a. key_past at.key (keys_at k a at.stage.phase)) s ≡ Some key → is_start key ≡ false
    by None no_key = cc
    by (Some a) found = not_start at.key key (found_past at.key key (keys_at k a at.stage.phase) found)

-- ---- a walk, turn by turn
module _ {H : Type 0} (bits root : ℕ) (fields : List Field) where
  pub visits_none : (old : Ledger H) (m : Records) (trees : List AttributeTrees) (plan : PlanView) → HoldsAttributes bits old m fields trees root → IsUnderWay bits root old m trees plan
      → HasLastField plan → Visits bits root old old m m fields trees trees plan plan 0
  visits_none old m trees plan holds under_way last = record {
    holds = holds;
    under_way = under_way;
    last = last;
    table = refl;
    keep = same_keys m trees;
    keeps = keeps_same old;
    victim = refl;
    all = refl;
    rises = λ past. true≢false (sym (ap is_gt past) ∙ ap is_gt (tied_itself place_total plan.place));
    count = none_between m trees plan.place;
  }

  module _ (old mid new : Ledger H) (m k n : Records) (trees next after : List AttributeTrees) (from to at : PlanView) (visited : ℕ)
      (visits : Visits bits root old mid m k fields trees next from to visited)
      (holds : HoldsAttributes bits new n fields after root) (under_way : IsUnderWay bits root new n after at) (table : table_at n after ≡ table_at k next) (keys : KeepKeys k n next after)
      (keeps : KeepsStore mid new) where
    -- a turn that was refused leaves the walk where it was
    pub visits_still : at ≡ to → Visits bits root old new m n fields trees after from at visited
    visits_still same = record {
      holds = holds;
      under_way = under_way;
      last = subst HasLastField (sym same) visits.last;
      table = table ∙ visits.table;
      keep = keys_then m k n trees next after visits.keep keys;
      keeps = keeps_then old mid new visits.keeps keeps;
      victim = ap (λ (p : PlanView). p.victim) same ∙ visits.victim;
      all = ap (λ (p : PlanView). p.fields) same ∙ visits.all;
      rises = subst (λ (p : PlanView). place_cmp from.place p.place ≢ Greater) (sym same) visits.rises;
      count = ap (λ (p : PlanView). keys_between from.place p.place m trees) same ∙ visits.count;
    }

    module _ (o : Option PlanKey) (turn : Turn) (few : to.place.stage.phase < PHASES) (within : to.place.stage.field < to.fields) (is : next_at k next to.place ≡ o) (goes : GoesOn to at o turn) where
      counted : keys_between from.place at.place m trees ≡ one_of o + visited
      counted =
          let there = subst (λ (f : ℕ). to.place.stage.field < f) visits.under_way.all within in
          let more = turn_counts k next from.place to.place visits.holds.are_fields.each there few visits.rises o is in
          ap (λ (p : PlanPlace). keys_between from.place p m trees) (goes.place ∙ ap (λ (f : ℕ). place_after f to.place (unwrap_or o Start)) visits.under_way.all)
          ∙ sym (same_between m k trees next from.place (place_after (length next) to.place (unwrap_or o Start)) (keys_of_all m k trees next visits.keep))
          ∙ more
          ∙ ap (λ (c : ℕ). one_of o + c) (same_between m k trees next from.place to.place (keys_of_all m k trees next visits.keep) ∙ visits.count)

      visits_more : Visits bits root old new m n fields trees after from at (one_of o + visited)
      visits_more = record {
        holds = holds;
        under_way = under_way;
        last = record {
          last = λ over. subst (λ (f : ℕ). f ≤ at.place.stage.field + 1) (sym goes.fields)
              (subst (λ (p : PlanPlace). to.fields ≤ p.stage.field + 1) (sym goes.place) (last_after to.fields to.place (unwrap_or o Start) few (sym (ap (λ (p : PlanPlace). p.stage.phase) goes.place) ∙ over)));
        };
        table = table ∙ visits.table;
        keep = keys_then m k n trees next after visits.keep keys;
        keeps = keeps_then old mid new visits.keeps keeps;
        victim = goes.victim ∙ visits.victim;
        all = goes.fields ∙ visits.all;
        rises = λ past. true≢false (ap is_lt (sym (under place_total from.place to.place at.place visits.rises goes.rises) ∙ past));
        count = counted;
      }

    pub visits_moved : to.place.stage.phase < PHASES → to.place.stage.field < to.fields → GoesOn to at (next_at k next to.place) Moved
        → Visits bits root old new m n fields trees after from at (visited + 1)
    visits_moved few within goes = by (next_at k next to.place) refl goes
      where
        by : (o : Option PlanKey) → next_at k next to.place ≡ o → GoesOn to at o Moved → Visits bits root old new m n fields trees after from at (visited + 1)
        by None is on = let e = on.turn_is in cc
        by (Some key) is on = subst (λ (c : ℕ). Visits bits root old new m n fields trees after from at c) (let e : 1 + visited ≡ visited + 1 = omega arith in e)
            (visits_more (Some key) Moved few within is on)

    pub visits_over : to.place.stage.phase < PHASES → to.place.stage.field < to.fields → GoesOn to at (next_at k next to.place) PhaseOver
        → Visits bits root old new m n fields trees after from at visited × (stages_left at < stages_left to)
    visits_over few within goes = by (next_at k next to.place) refl goes
      where
        by : (o : Option PlanKey) → next_at k next to.place ≡ o → GoesOn to at o PhaseOver
            → Visits bits root old new m n fields trees after from at visited × (stages_left at < stages_left to)
        by (Some key) is on = let e = on.turn_is in cc
        by None is on = (
          subst (λ (c : ℕ). Visits bits root old new m n fields trees after from at c) (let e : 0 + visited ≡ visited = omega arith in e) (visits_more None PhaseOver few within is on),
          subst (λ (f : ℕ). 4 * (f - at.place.stage.field) + (4 - at.place.stage.phase) < stages_left to) (sym on.fields)
              (subst (λ (p : PlanPlace). 4 * (to.fields - p.stage.field) + (4 - p.stage.phase) < stages_left to) (sym on.place) (left_over to.fields to.place.stage few within)),
        )

    -- within a phase as many are left
    pub left_moved : GoesOn to at (next_at k next to.place) Moved → stages_left at ≡ stages_left to
    left_moved goes = by (next_at k next to.place) refl goes
      where
        by : (o : Option PlanKey) → next_at k next to.place ≡ o → GoesOn to at o Moved → stages_left at ≡ stages_left to
        by None is on = let e = on.turn_is in cc
        by (Some key) is on =
            let same : at.place ≡ record { stage = to.place.stage; key = key } = on.place
            ∙ ap (λ (t : Bool). record { stage = stage_to to.fields to.place.stage t; key = key }) (next_not_start k next to.place key is) in
            ap₂ (λ (f : ℕ) (p : PlanPlace). 4 * (f - p.stage.field) + (4 - p.stage.phase)) on.fields same

-- ---- what a refusal is told as
module _ {H : Type 0} (bits root : ℕ) (old new : Ledger H) (m n : Records) (fields : List Field) (trees next : List AttributeTrees) (from to : PlanView) where
  pub refused_walks : (keys visited : ℕ) (error : StoreError) → visited < keys → Visits bits root old new m n fields trees next from to visited
      → (visited ≡ 0 → LeavesEntries old new m n × (next ≡ trees)) → RefusesNext old new error
      → Walks bits root old new m n fields trees next from to keys (cond (nat_eq visited 0) (Err error) (Ok (Visited visited (Some error))))
  refused_walks keys visited error few visits first refused = by (nat_eq visited 0) refl
    where
      by : (t : Bool) → nat_eq visited 0 ≡ t → Walks bits root old new m n fields trees next from to keys (cond t (Err error) (Ok (Visited visited (Some error))))
      by true e =
          let none = eqb-true visited 0 e in
          let left = first none in
          record { visits = subst (λ (c : ℕ). Visits bits root old new m n fields trees next from to c) none visits; left = left.0; trees_are = left.1; refused = refused }
      by false e = (visits, record { some = (let ne = eqb-false visited 0 e in omega arith); few = few; refused = refused })
