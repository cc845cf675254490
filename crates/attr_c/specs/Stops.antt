-- Why a call of the writer stops: its code, its cause, and what is told of a full store.
use Rattle.std.specs.Prelude.{◌≡◌, ◌-◌, ◌^◌, ℕ, ℤ, List}
use Rattle.attr_c.specs.Holds.{with_oldest}
use Rattle.attr_c.specs.Applying.{Applies, LeavesAttributes}
use Rattle.attr_c.specs.declared.codes.TheConstants.{MEMORY, FULL, COMMITS_SPENT, OPERATIONS_SPENT}
use Rattle.attr_c.specs.declared.codes.TheConstants.{NOT_JSON, NO_OPERATION, BAD_ID, BAD_VALUE, UNSUPPORTED, TOO_MANY_ITEMS}
use Rattle.attr_c.specs.declared.codes.TheConstants.{LINE_TOO_LONG, BAD_SAVE, OTHER_SAVE}
use Rattle.attr_c.specs.declared.state.Counts.{Counts}
use Rattle.attr_c.specs.declared.stop.Stop.{Stop}
use Rattle.attr_c.specs.declared.stop.Stop.TheVariants as stops
use Rattle.attr_c.specs.declared.told.Told.{Told}
use Rattle.attr_types.specs.declared.field.Field.{Field}
use Rattle.attr_types.specs.declared.op.Op.{Op}
use Rattle.attr_operations.specs.Counts.{MakesOperation}
use Rattle.attribute_kinds.specs.Calls.{IsForRoot, RefusesCommit, RefusesOperation}
use Rattle.attribute_kinds.specs.Counts.{LacksBuffers, NamesWidth, SparesOf}
use Rattle.attribute_kinds.specs.Views.{AttributeView}
use Rattle.attribute_kinds.specs.declared.answers.AttrError.{AttrError}
use Rattle.attribute_kinds.specs.declared.answers.AttrError.TheVariants as errors
use Rattle.feed_reader.specs.declared.error.FeedError.{FeedError}
use Rattle.feed_reader.specs.declared.error.FeedError.TheVariants as lines
use Rattle.entry_ref.specs.Records.{Records}
use Rattle.store_api.specs.Ledgers.{Ledger}

abbrev pub line_code : FeedError → ℤ
line_code (lines.NotJson line) = NOT_JSON
line_code (lines.NoOperation line) = NO_OPERATION
line_code (lines.BadId line) = BAD_ID
line_code (lines.BadValue line) = BAD_VALUE
line_code (lines.Unsupported line) = UNSUPPORTED
line_code (lines.TooManyItems line) = TOO_MANY_ITEMS
line_code lines.FeedTooLong = LINE_TOO_LONG
line_code lines.ReadFault = LINE_TOO_LONG
line_code lines.Memory = MEMORY

abbrev pub store_code : AttrError → ℤ
store_code (errors.Full width active held oldest) = FULL
store_code (errors.CommitsSpent commit) = COMMITS_SPENT
store_code errors.Memory = MEMORY

abbrev pub stop_code : Stop → ℤ
stop_code (stops.Line error) = line_code error
stop_code (stops.Store error) = store_code error
stop_code stops.Spent = OPERATIONS_SPENT
stop_code stops.Save = BAD_SAVE
stop_code stops.Other = OTHER_SAVE
stop_code stops.Memory = MEMORY

-- a full store notes for a monitor what readers hold; another stop notes nothing
abbrev pub noted_error : AttrError → Counts → Counts
noted_error (errors.Full width active held oldest) counts = with_oldest counts oldest
noted_error (errors.CommitsSpent commit) counts = counts
noted_error errors.Memory counts = counts

abbrev pub noted : Stop → Counts → Counts
noted (stops.Store error) counts = noted_error error counts
noted stop counts = counts

-- a full store: the width of the entry that had no room, the buffers, and what readers hold
pub record TellsFull (width active held : ℕ) (counts : Counts) (told : Told) : Type 0 where
  pub width_is : told.width ≡ width
  pub active_is : told.active ≡ active
  pub held_is : told.held ≡ held
  pub oldest_is : told.oldest ≡ counts.oldest
  pub is_held_is : told.is_held ≡ counts.is_held

abbrev pub TellsError : AttrError → Counts → Told → Type 0
TellsError (errors.Full width active held oldest) counts told = TellsFull width active held counts told
TellsError (errors.CommitsSpent commit) counts told = Unit {0}
TellsError errors.Memory counts told = Unit {0}

abbrev pub TellsStop : Stop → Counts → Told → Type 0
TellsStop (stops.Store error) counts told = TellsError error counts told
TellsStop stop counts told = Unit {0}

-- a stop, by its code and by what is counted and told
pub record EndsBy (stop : Stop) (before after : Counts) (told : Told) (code : ℤ) : Type 0 where
  pub code_is : code ≡ stop_code stop
  pub counts_are : after ≡ noted stop before
  pub tells : TellsStop stop after told

-- a call that stopped, with its cause
pub record Stopped (cause : Stop → Type 0) (before after : Counts) (told : Told) (code : ℤ) : Type 0 where
  pub stop : Stop
  pub is : cause stop
  pub ends : EndsBy stop before after told code

-- the store refused the next operation, after those that were applied before it, and left the attributes as they were: it
-- was full for a width that this operation may need, and had few spare entries of it
pub record RefusedOperation {S H : Type 0} (ledger : S → Ledger H) (records : S → Records) (which : List Op → Type 0)
    (next : Op → Type 0) (old now : AttributeView S) (error : AttrError) : Type 0 where
  pub op : Op
  pub is_next : next op
  pub before : AttributeView S
  pub so_far : Applies ledger which old before
  pub leaves : LeavesAttributes ledger records before now
  pub made : MakesOperation before.dense (ledger before.store) (ledger now.store) before.fields before.table op
  pub refused : RefusesOperation (ledger before.store) (ledger now.store) error
  pub width : NamesWidth before.dense before.fields before.table op error
  pub spares : SparesOf before.dense (ledger now.store) before.fields before.table op error
  pub room : LacksBuffers before.dense (ledger before.store) before.fields before.table op error

-- the greatest number of operations was reached before the next one
pub record SpentBefore (operations : ℕ) (next : Op → Type 0) : Type 0 where
  pub most : operations ≡ 2 ^ 32 - 1
  pub op : Op
  pub is_next : next op

-- why the next operation was not applied, after those that were: the store refused it, the greatest number of operations
-- was reached, or memory ran out
abbrev pub StopsOperation : {S H : Type 0} → (S → Ledger H) → (S → Records) → (List Op → Type 0) → (Op → Type 0)
    → AttributeView S → AttributeView S → Stop → Type 0
StopsOperation ledger records which next old now (stops.Store error) = RefusedOperation ledger records which next old now error
StopsOperation ledger records which next old now stops.Spent = SpentBefore now.operations next × Applies ledger which old now
StopsOperation ledger records which next old now stops.Memory = Applies ledger which old now
StopsOperation ledger records which next old now stop = ⊥

-- a line was refused, and this was applied before it, or its operation was not applied
abbrev pub LineOr : Type 0 → (Stop → Type 0) → Stop → Type 0
LineOr applied why (stops.Line error) = applied
LineOr applied why stop = why stop

-- the store refused a commit, for the width of the root record if it was full; nothing else stops it
abbrev pub StopsCommit : {H : Type 0} → List Field → Ledger H → Ledger H → Stop → Type 0
StopsCommit fields old new (stops.Store error) = RefusesCommit old new error × IsForRoot fields error
StopsCommit fields old new stop = ⊥
