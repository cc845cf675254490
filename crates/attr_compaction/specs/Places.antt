-- The place of a compaction: an attribute, one of its phases, and the last visited key of the phase.
use Rattle.std.specs.Prelude.{◌≡◌, ℕ, pos, ◌+◌, ◌<◌, ◌≤◌, Bool, true, false, ◌||◌, nat_eq, nat_lt, if◌then◌else◌}
use Rattle.std.specs.declared.cmp.Ordering.{Ordering}
use Rattle.std.specs.declared.cmp.Ordering.TheVariants.{Less}
use Rattle.std.specs.Ordering.{nat_cmp, on, then_cmp}
use Rattle.attr_types.specs.Value.{value_cmp}
use Rattle.attr_types.specs.declared.value.Value.{Value as AnyValue}
use Rattle.attr_types.specs.declared.value.Value.TheVariants as values
use Rattle.attr_compaction.specs.declared.plan.TheConstants.{DOCUMENTS, KEYS, LISTS, NODES, PHASES}
use Rattle.attr_compaction.specs.declared.plan.PlanKey.{PlanKey}
use Rattle.attr_compaction.specs.declared.plan.PlanKey.TheVariants.{Start, Value, Doc, Pair}
use Rattle.attr_compaction.specs.declared.plan.Stage.{Stage}

-- ---- the order of keys: by their variant, then by the value and the document that they name
abbrev pub rank_of : PlanKey → ℕ
rank_of Start = 0
rank_of (Value value) = 1
rank_of (Doc doc) = 2
rank_of (Pair value doc) = 3

-- 0 if a key names no value
abbrev pub value_in : PlanKey → AnyValue
value_in Start = values.Long (pos 0)
value_in (Value value) = value
value_in (Doc doc) = values.Long (pos 0)
value_in (Pair value doc) = value

abbrev pub doc_in : PlanKey → ℕ
doc_in Start = 0
doc_in (Value value) = 0
doc_in (Doc doc) = doc
doc_in (Pair value doc) = doc

abbrev pub key_cmp : PlanKey → PlanKey → Ordering
key_cmp = then_cmp (on rank_of nat_cmp) (then_cmp (on value_in value_cmp) (on doc_in nat_cmp))

abbrev pub is_start : PlanKey → Bool
is_start Start = true
is_start (Value value) = false
is_start (Doc doc) = false
is_start (Pair value doc) = false

-- the keys of a phase: values; documents; documents in lists; or values and then documents
abbrev pub has_key : ℕ → PlanKey → Bool
has_key phase Start = false
has_key phase (Value value) = nat_eq phase KEYS || nat_eq phase NODES
has_key phase (Doc doc) = nat_eq phase DOCUMENTS || nat_eq phase NODES
has_key phase (Pair value doc) = nat_eq phase LISTS

-- ---- the order of places
pub record PlanPlace : Type 0 where
  pub stage : Stage
  pub key : PlanKey

-- a compaction of a buffer, over this many attributes, and whether old copies of visited keys may be left in the buffer
pub record PlanView : Type 0 where
  pub victim : ℕ
  pub fields : ℕ
  pub place : PlanPlace
  pub copied : Bool

abbrev pub stage_cmp : Stage → Stage → Ordering
stage_cmp = then_cmp (on (λ (s : Stage). s.field) nat_cmp) (on (λ (s : Stage). s.phase) nat_cmp)

abbrev pub place_cmp : PlanPlace → PlanPlace → Ordering
place_cmp = then_cmp (on (λ (a : PlanPlace). a.stage) stage_cmp) (on (λ (a : PlanPlace). a.key) key_cmp)

abbrev pub first_place : PlanPlace
first_place = record { stage = record { field = 0; phase = KEYS }; key = Start }

-- no key, or one of the phase
pub record HasKey (phase : ℕ) (key : PlanKey) : Type 0 where
  pub of_phase : is_start key ≡ false → has_key phase key ≡ true

pub record IsPlanPlace (fields : ℕ) (at : PlanPlace) : Type 0 where
  pub field : at.stage.field < fields
  pub phase : at.stage.phase ≤ PHASES
  pub key : HasKey at.stage.phase at.key

-- a key of the place's phase, after the place
pub record IsPast (at : PlanPlace) (key : PlanKey) : Type 0 where
  pub of_phase : has_key at.stage.phase key ≡ true
  pub above : key_cmp at.key key ≡ Less

-- the next phase; after the last phase, the first of the next attribute; after the last attribute, past all keys
abbrev pub next_stage : ℕ → Stage → Stage
next_stage fields stage =
    if nat_lt stage.phase NODES then record { field = stage.field; phase = stage.phase + 1 }
    else if nat_lt (stage.field + 1) fields then record { field = stage.field + 1; phase = KEYS }
    else record { field = stage.field; phase = PHASES }

-- the place after a visited key; `Start` means the end of the phase
abbrev pub place_after : ℕ → PlanPlace → PlanKey → PlanPlace
place_after fields at done =
    record { stage = (if is_start done then next_stage fields at.stage else at.stage); key = done }
