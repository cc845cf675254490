-- A compaction of attributes in progress, and the effect of one turn.
use Rattle.std.specs.Prelude.{◌≡◌, ◌≢◌, ℕ, ◌<◌, ◌≤◌, Bool, true, false, ◌||◌, List, ◌∷◌, length, slice_get, Option, None, Some, unwrap_or}
use Rattle.std.specs.List.{AllByRecursion, AllZip}
use Rattle.std.specs.Option.{IfSome, option_and_then}
use Rattle.std.specs.declared.cmp.Ordering.TheVariants.{Less}
use Rattle.entry_ref.specs.References.{buffer_of}
use Rattle.entry_ref.specs.Records.{Records}
use Rattle.arena_api.specs.Works.{active_width}
use Rattle.store_api.specs.Ledgers.{Ledger}
use Rattle.store_api.specs.Parts.{count_in, entries, uses}
use Rattle.store_api.specs.Statuses.{Status}
use Rattle.store_api.specs.declared.store.StoreError.{StoreError}
use Rattle.store_api.specs.declared.store.StoreError.TheVariants as errors
use Rattle.compaction_moves.specs.Cleared.{IsCleared}
use Rattle.attr_compaction.specs.Places.{place_after, place_cmp, PlanPlace, PlanView}
use Rattle.attr_compaction.specs.declared.plan.PlanKey.{PlanKey}
use Rattle.attr_compaction.specs.declared.plan.PlanKey.TheVariants.{Start, Value}
use Rattle.attr_compaction.specs.declared.plan.TheConstants.{KEYS}
use Rattle.attr_types.specs.declared.value.Value.{Value as AnyValue}
use Rattle.image_format.specs.Tables.{AttributeTrees}
use Rattle.attr_types.specs.declared.field.Field.{Field}
use Rattle.attr_compaction.specs.PhaseKeys.{key_past, phase_keys, HasType}
use Rattle.value_index.specs.Forms.{IsPlainIndex}
use Rattle.value_index.specs.Indexes.{key_at}
use Rattle.compaction_steps.specs.Passes.{GoesThrough}
use Rattle.array_store.specs.Roots.{root_entries}
use Rattle.attr_operations.specs.Fields.{parts_of, HoldsAttributes, IsOfFormAt}
use Rattle.attr_operations.specs.Views.{table_at}
use Rattle.compaction_steps.specs.declared.unit.Turn.{Turn}
use Rattle.compaction_steps.specs.declared.unit.Turn.TheVariants.{Moved, PhaseOver}

-- an attribute's keys of a phase
abbrev pub keys_at : Records → AttributeTrees → ℕ → List PlanKey
keys_at m a phase = phase_keys a.type m a.documents a.dictionary phase

-- the key to which a place moves: the first of its phase after it, or none if the phase is over
abbrev pub next_at : Records → List AttributeTrees → PlanPlace → Option PlanKey
next_at m trees at = option_and_then (λ a. key_past at.key (keys_at m a at.stage.phase)) (slice_get trees at.stage.field)

-- what is in use in a buffer belongs to the attributes or to the last root record, and no commit left an entry of it out
pub record OwnsBuffer {H : Type 0} (bits root : ℕ) (ledger : Ledger H) (m : Records) (trees : List AttributeTrees) (buffer : ℕ)
    : Type 0 where
  pub owned : (r : ℕ) → buffer_of bits r ≡ buffer → uses ledger r ≤ count_in r m (entries (root_entries root) ∷ parts_of trees)
  pub none_left : (r : ℕ) → ledger.status r ≡ Status.left → buffer_of bits r ≢ buffer

-- attributes are emptied out of a sealed buffer: what they reach of it is after the plan's place, whose key has its
-- attribute's type. While no record of a value was copied, nothing else is in use in it
pub record IsUnderWay {H : Type 0} (bits root : ℕ) (ledger : Ledger H) (m : Records) (trees : List AttributeTrees) (plan : PlanView)
    : Type 0 where
  pub sealed : ledger.sealed plan.victim ≡ true
  pub unfinished : ledger.finished ≡ None
  pub all : plan.fields ≡ length trees
  pub typed : IfSome (slice_get trees plan.place.stage.field) (λ a. HasType a.type plan.place.key)
  pub cleared : IsCleared bits plan.victim plan.place m trees
  pub whole : plan.copied ≡ false → OwnsBuffer bits root ledger m trees plan.victim

-- the result of a turn
abbrev pub turn_of : Option PlanKey → Turn
turn_of None = PhaseOver
turn_of (Some key) = Moved

-- the plan moved to the next key, or to the next phase if the phase had no further key
pub record GoesOn (old new : PlanView) (next : Option PlanKey) (turn : Turn) : Type 0 where
  pub turn_is : turn ≡ turn_of next
  pub victim : new.victim ≡ old.victim
  pub fields : new.fields ≡ old.fields
  pub place : new.place ≡ place_after old.fields old.place (unwrap_or next Start)
  pub rises : place_cmp old.place new.place ≡ Less

-- the plan moved over this many keys of its attribute's phase, each the next after the one before it
pub record PassesKeys (m : Records) (trees : List AttributeTrees) (old new : PlanView) (count : ℕ) : Type 0 where
  pub victim : new.victim ≡ old.victim
  pub fields : new.fields ≡ old.fields
  pub stage : new.place.stage ≡ old.place.stage
  pub tree : AttributeTrees
  pub at : slice_get trees old.place.stage.field ≡ Some tree
  pub passed : List PlanKey
  pub count_is : length passed ≡ count
  pub through : GoesThrough (keys_at m tree old.place.stage.phase) old.place.key passed new.place.key

-- an attribute has the same keys in each phase as another, and no list that is a bit vector if that one has none. It is
-- of the same form for the flag for bit vectors
pub record KeepsKeys (m n : Records) (a b : AttributeTrees) : Type 0 where
  pub keys : (phase : ℕ) → keys_at n b phase ≡ keys_at m a phase
  pub plain : IsPlainIndex m a.dictionary → IsPlainIndex n b.dictionary
  pub form : (dense : Bool) → IsOfFormAt dense m a → IsOfFormAt dense n b

-- so does each attribute
abbrev pub KeepKeys : Records → Records → List AttributeTrees → List AttributeTrees → Type 0
KeepKeys m n trees next = AllZip (KeepsKeys m n) trees next

-- no list of these attributes is a bit vector
abbrev pub ArePlain : Records → List AttributeTrees → Type 0
ArePlain m trees = AllByRecursion (λ a. IsPlainIndex m a.dictionary) trees

-- attributes replace others: their contents and their keys are the same, and everything up to the plan's place lies
-- elsewhere
pub record CompactsTo {H : Type 0} (bits : ℕ) (new : Ledger H) (m n : Records) (fields : List Field)
    (trees next : List AttributeTrees) (root : ℕ) (plan : PlanView) : Type 0 where
  pub holds : HoldsAttributes bits new n fields next root
  pub under_way : IsUnderWay bits root new n next plan
  pub table : table_at n next ≡ table_at m trees
  pub keys : KeepKeys m n trees next

-- the plan after a key of the place's phase is visited, whose old record may be in use still
abbrev pub plan_at : PlanView → Bool → PlanKey → PlanView
plan_at plan copies key = record {
  victim = plan.victim;
  fields = plan.fields;
  place = record { stage = plan.place.stage; key = key };
  copied = copies || plan.copied;
}

-- a value has a record, and it lies in the buffer
pub record HasRecordIn (bits buffer : ℕ) (value : AnyValue) (m : Records) (root : ℕ) : Type 0 where
  pub ref : ℕ
  pub at : key_at value m root ≡ Some ref
  pub lies : buffer_of bits ref ≡ buffer

-- the move of this key copies the record of a value: in the phase of the keys, the record lies in the victim
pub record CopiesOne (bits : ℕ) (m : Records) (a : AttributeTrees) (plan : PlanView) (key : PlanKey) : Type 0 where
  pub phase_is : plan.place.stage.phase ≡ KEYS
  pub value : AnyValue
  pub key_is : key ≡ Value value
  pub record_in : HasRecordIn bits plan.victim value m a.dictionary

-- a store that was full for a width has fewer spare entries of it than this
abbrev pub SparesBelow : {H : Type 0} → Ledger H → ℕ → StoreError → Type 0
SparesBelow new few (errors.Full width active held oldest) = (new.of_width width).spare < few
SparesBelow new few errors.Memory = Unit {0}

-- a buffer of entries of this width is active
pub record IsActiveWidth {H : Type 0} (ledger : Ledger H) (width : ℕ) : Type 0 where
  pub buffer : ℕ
  pub inside : buffer < ledger.work.sizes.buffers
  pub active : active_width (ledger.work.buffer buffer) ≡ width

-- a width for which a store was full has an active buffer
abbrev pub HasActive : {H : Type 0} → Ledger H → StoreError → Type 0
HasActive new (errors.Full width active held oldest) = IsActiveWidth new width
HasActive new errors.Memory = Unit {0}

-- if the phase was over, nothing else changed
abbrev pub LeavesAtEnd : Type 0 → Type 0 → Turn → Type 0
LeavesAtEnd store roots PhaseOver = store × roots
LeavesAtEnd store roots Moved = Unit {0}
