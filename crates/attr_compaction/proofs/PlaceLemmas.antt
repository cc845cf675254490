-- Keys and places are ordered, and the next place is above.
use Rattle.std.proofs.Common.{◌≡◌, ◌⊎◌, ℕ, ◌+◌, ◌<◌, ◌≤◌, Bool, true, false, cond, Less, Equal, Greater, is_eq, inl, inr, nat_lt, refl, sym, ap, subst, ◌∙◌, arith, true≢false}
use Rattle.std.proofs.lemmas.Cmp.{nat_cmp_total, on_total, then_total, tied_itself}
use Rattle.std.proofs.lemmas.Bool.{ltb-true}
use Rattle.std.proofs.lemmas.Map.Lookups.{exact_unsigned}
use Rattle.std.specs.Cmp.{nat_cmp_is, IsTotalOrder}
use Rattle.std.specs.declared.cmp.Ordering.{Ordering}
use Rattle.std.specs.Ordering.{nat_cmp, ordering_then}
use Rattle.attr_types.specs.ProofsForOrder.{value_cmp_exact, value_cmp_total}
use Rattle.attr_types.specs.Value.{value_cmp}
use Rattle.attr_compaction.specs.Laws.{KeysAreExact, NextIsAbove, PlacesAreOrdered}
use Rattle.attr_compaction.specs.Places.{doc_in, has_key, is_start, key_cmp, next_stage, place_after, place_cmp, rank_of, stage_cmp, value_in, HasKey, IsPast, IsPlanPlace, PlanPlace}
use Rattle.attr_compaction.specs.declared.plan.TheConstants.{KEYS, NODES, PHASES}
use Rattle.attr_compaction.specs.declared.plan.PlanKey.{PlanKey}
use Rattle.attr_compaction.specs.declared.plan.PlanKey.TheVariants.{Start, Value, Doc, Pair}
use Rattle.attr_compaction.specs.declared.plan.Stage.{Stage}

-- ---- total orders
pub key_total : IsTotalOrder key_cmp
key_total = then_total (on_total rank_of nat_cmp_total) (then_total (on_total value_in value_cmp_total) (on_total doc_in nat_cmp_total))

pub stage_total : IsTotalOrder stage_cmp
stage_total = then_total (on_total (λ (s : Stage). s.field) nat_cmp_total) (on_total (λ (s : Stage). s.phase) nat_cmp_total)

pub place_total : IsTotalOrder place_cmp
place_total = then_total (on_total (λ (a : PlanPlace). a.stage) stage_total) (on_total (λ (a : PlanPlace). a.key) key_total)

pub places_ordered : PlacesAreOrdered
places_ordered = (key_total, place_total)

-- ---- one order and then another
then_parts : (a b : Ordering) → ordering_then a b ≡ Equal → (a ≡ Equal) × (b ≡ Equal)
then_parts Less b h = absurd (true≢false (sym (ap is_eq h)))
then_parts Equal b h = (refl, h)
then_parts Greater b h = absurd (true≢false (sym (ap is_eq h)))

then_less : (a b : Ordering) → a ≡ Less → ordering_then a b ≡ Less
then_less a b e = ap (λ (o : Ordering). ordering_then o b) e

then_equal : (a b : Ordering) → a ≡ Equal → b ≡ Less → ordering_then a b ≡ Less
then_equal a b e f = ap (λ (o : Ordering). ordering_then o b) e ∙ f

-- ---- equal keys
parts_of : (a b : PlanKey) → key_cmp a b ≡ Equal → (rank_of a ≡ rank_of b) × (value_cmp (value_in a) (value_in b) ≡ Equal) × (doc_in a ≡ doc_in b)
parts_of a b h =
    let first = then_parts (nat_cmp (rank_of a) (rank_of b)) (ordering_then (value_cmp (value_in a) (value_in b)) (nat_cmp (doc_in a) (doc_in b))) h in
    let second = then_parts (value_cmp (value_in a) (value_in b)) (nat_cmp (doc_in a) (doc_in b)) first.1 in
    (exact_unsigned (rank_of a) (rank_of b) first.0, second.0, exact_unsigned (doc_in a) (doc_in b) second.1)

same_key : (a b : PlanKey) → rank_of a ≡ rank_of b → value_cmp (value_in a) (value_in b) ≡ Equal → doc_in a ≡ doc_in b → a ≡ b
same_key Start Start rank value doc = refl
same_key (Value a) (Value b) rank value doc = ap (λ v. Value v) (value_cmp_exact a b value)
same_key (Doc a) (Doc b) rank value doc = ap (λ (d : ℕ). Doc d) doc
same_key (Pair a d) (Pair b e) rank value doc = ap (λ v. Pair v d) (value_cmp_exact a b value) ∙ ap (λ (x : ℕ). Pair b x) doc
same_key Start (Value b) rank value doc = absurd (omega arith)
same_key Start (Doc b) rank value doc = absurd (omega arith)
same_key Start (Pair b e) rank value doc = absurd (omega arith)
same_key (Value a) Start rank value doc = absurd (omega arith)
same_key (Value a) (Doc b) rank value doc = absurd (omega arith)
same_key (Value a) (Pair b e) rank value doc = absurd (omega arith)
same_key (Doc a) Start rank value doc = absurd (omega arith)
same_key (Doc a) (Value b) rank value doc = absurd (omega arith)
same_key (Doc a) (Pair b e) rank value doc = absurd (omega arith)
same_key (Pair a d) Start rank value doc = absurd (omega arith)
same_key (Pair a d) (Value b) rank value doc = absurd (omega arith)
same_key (Pair a d) (Doc b) rank value doc = absurd (omega arith)

pub keys_exact : KeysAreExact
keys_exact a b h = let p = parts_of a b h in same_key a b p.0 p.1 p.2

-- ---- the next place
pub below : (a b : ℕ) → a < b → nat_cmp a b ≡ Less
below a b h = sym (nat_cmp_is a b Less h)

abbrev stage_by : ℕ → Stage → Bool → Bool → Stage
stage_by fields s t u = cond t (record { field = s.field; phase = s.phase + 1 })
    (cond u (record { field = s.field + 1; phase = KEYS }) (record { field = s.field; phase = PHASES }))

stage_above_by : (fields : ℕ) (s : Stage) (t u : Bool) → s.phase < PHASES → stage_cmp s (stage_by fields s t u) ≡ Less
stage_above_by fields s true u few =
    then_equal (nat_cmp s.field s.field) (nat_cmp s.phase (s.phase + 1)) (tied_itself nat_cmp_total s.field) (below s.phase (s.phase + 1) (omega arith))
stage_above_by fields s false true few =
    then_less (nat_cmp s.field (s.field + 1)) (nat_cmp s.phase KEYS) (below s.field (s.field + 1) (omega arith))
stage_above_by fields s false false few =
    then_equal (nat_cmp s.field s.field) (nat_cmp s.phase PHASES) (tied_itself nat_cmp_total s.field) (below s.phase PHASES few)

stage_above : (fields : ℕ) (s : Stage) → s.phase < PHASES → stage_cmp s (next_stage fields s) ≡ Less
stage_above fields s few = stage_above_by fields s (nat_lt s.phase NODES) (nat_lt (s.field + 1) fields) few

pub not_start : (phase : ℕ) (key : PlanKey) → has_key phase key ≡ true → is_start key ≡ false
not_start phase Start h = absurd (true≢false (sym h))
not_start phase (Value v) h = refl
not_start phase (Doc d) h = refl
not_start phase (Pair v d) h = refl

-- the place by the test of the key
abbrev after_by : ℕ → PlanPlace → PlanKey → Bool → PlanPlace
after_by fields at done over = record { stage = cond over (next_stage fields at.stage) at.stage; key = done }

above_over : (fields : ℕ) (at : PlanPlace) (done : PlanKey) → at.stage.phase < PHASES → place_cmp at (after_by fields at done true) ≡ Less
above_over fields at done few =
    then_less (stage_cmp at.stage (next_stage fields at.stage)) (key_cmp at.key done) (stage_above fields at.stage few)

above_key : (fields : ℕ) (at : PlanPlace) (done : PlanKey) → key_cmp at.key done ≡ Less → place_cmp at (after_by fields at done false) ≡ Less
above_key fields at done above =
    then_equal (stage_cmp at.stage at.stage) (key_cmp at.key done) (tied_itself stage_total at.stage) above

pub next_above : NextIsAbove
next_above fields at done few (inl e) =
    subst (λ (over : Bool). place_cmp at (after_by fields at done over) ≡ Less) (sym (ap is_start e)) (above_over fields at done few)
next_above fields at done few (inr past) =
    subst (λ (over : Bool). place_cmp at (after_by fields at done over) ≡ Less) (sym (not_start at.stage.phase done past.of_phase)) (above_key fields at done past.above)

-- ---- it is a place
stage_within_by : (fields : ℕ) (s : Stage) (t u : Bool) → nat_lt s.phase NODES ≡ t → nat_lt (s.field + 1) fields ≡ u → s.field < fields → s.phase < PHASES
    → ((stage_by fields s t u).field < fields) × ((stage_by fields s t u).phase ≤ PHASES)
stage_within_by fields s true u et eu field few = (field, omega arith)
stage_within_by fields s false true et eu field few = (ltb-true (s.field + 1) fields eu, omega arith)
stage_within_by fields s false false et eu field few = (field, omega arith)

no_key : (phase : ℕ) (key : PlanKey) → is_start key ≡ true → HasKey phase key
no_key phase key is = record { of_phase = λ no_start. absurd (true≢false (sym is ∙ no_start)) }

pub next_is_place : (fields : ℕ) (at : PlanPlace) (done : PlanKey) → IsPlanPlace fields at → at.stage.phase < PHASES → (done ≡ Start) ⊎ IsPast at done
    → IsPlanPlace fields (place_after fields at done)
next_is_place fields at done is few (inl e) =
    subst (λ (over : Bool). IsPlanPlace fields (after_by fields at done over)) (sym (ap is_start e)) (
    let w = stage_within_by fields at.stage (nat_lt at.stage.phase NODES) (nat_lt (at.stage.field + 1) fields) refl refl is.field few in
    record { field = w.0; phase = w.1; key = no_key (next_stage fields at.stage).phase done (ap is_start e) })
next_is_place fields at done is few (inr past) =
    subst (λ (over : Bool). IsPlanPlace fields (after_by fields at done over)) (sym (not_start at.stage.phase done past.of_phase))
    (record { field = is.field; phase = is.phase; key = record { of_phase = λ h. past.of_phase } })
