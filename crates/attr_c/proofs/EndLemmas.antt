-- What a code says of the result that it stands for.
use Rattle.std.proofs.Common.{◌≡◌, ◌≢◌, ◌+◌, ◌++◌, ℕ, ℤ, pos, List, [], Result, Ok, Err, refl, sym, subst, ap, ◌∙◌, arith}
use Rattle.std.specs.Prelude.{IsOk, IsErr, IfErr, OnOk, OnErr}
use Rattle.attr_types.specs.declared.field.Field.{Field}
use Rattle.attr_types.specs.declared.op.Op.{Op}
use Rattle.attr_operations.specs.Calls.{LeavesEntries}
use Rattle.attr_operations.specs.Counts.{MakesOperation}
use Rattle.attribute_kinds.specs.Calls.{KeepsStore, RefusesOperation}
use Rattle.attribute_kinds.specs.Counts.{LacksBuffers, NamesWidth, SparesOf}
use Rattle.attribute_kinds.specs.Views.{AttributeView}
use Rattle.attribute_kinds.specs.declared.answers.AttrError.{AttrError}
use Rattle.attribute_kinds.specs.declared.answers.AttrError.TheVariants as errors
use Rattle.attr_c.specs.Feeding.{IfLine, RefusesLine, StopsFeed}
use Rattle.attr_c.specs.Loading.{RefusesSave, StopsLoad, TellsPlaceOf}
use Rattle.attr_c.specs.Applying.{Applies}
use Rattle.attr_c.proofs.ApplyingLemmas.{applies_none, applies_then}
use Rattle.attr_c.specs.Stops.{stop_code, EndsBy, LineOr, RefusedOperation, Stopped, StopsOperation}
use Rattle.attr_c.specs.Telling.{with_full, TellsBy}
use Rattle.attr_c.specs.declared.codes.TheConstants.{BAD_SAVE}
use Rattle.attr_c.specs.declared.state.Counts.{Counts}
use Rattle.attr_c.specs.declared.stop.Stop.{Stop}
use Rattle.attr_c.specs.declared.stop.Stop.TheVariants as stops
use Rattle.entry_ref.specs.Records.{Records}
use Rattle.store_api.specs.Ledgers.{Ledger}
use Rattle.attr_c.specs.declared.told.Told.{Told}

pub on_ok_of : {A E P : Type 0} (came : Result A E) → IsOk came → OnOk came P → P
on_ok_of (Ok x) is p = p
on_ok_of (Err e) is p = cc

pub on_err_of : {A E P : Type 0} (came : Result A E) → IsErr came → OnErr came P → P
on_err_of (Ok x) is p = cc
on_err_of (Err e) is p = p

pub on_ok_map : {A E P Q : Type 0} (came : Result A E) → (P → Q) → OnOk came P → OnOk came Q
on_ok_map (Ok x) on p = on p
on_ok_map (Err e) on p = tt

-- a stop, as it is told
pub stopped_of : {A : Type 0} (cause : Stop → Type 0) (came : Result A Stop) (before mid after : Counts) (told : Told) (code : ℤ) → mid ≡ before → IsErr came → IfErr came cause
    → IfErr came (λ stop. EndsBy stop mid after told code) → Stopped cause before after told code
stopped_of cause (Ok x) before mid after told code same is why ends = cc
stopped_of cause (Err stop) before mid after told code same is why ends =
    record { stop = stop; is = why; ends = subst (λ (b : Counts). EndsBy stop b after told code) same ends }

-- the same by an equal code
pub stopped_as : (cause : Stop → Type 0) (before after : Counts) (told : Told) (code end : ℤ) → end ≡ code → Stopped cause before after told code → Stopped cause before after told end
stopped_as cause before after told code end is stopped = subst (λ (z : ℤ). Stopped cause before after told z) (sym is) stopped

-- what was told before a call ended, with what its end tells
module _ (whole part : Told → Told) (blind : (a b : Told) → part (with_full a b) ≡ part b) (mid new : Told) (code : ℤ) where
  pub tells_over : (code ≡ pos 0 → mid ≡ whole mid) → (code ≢ pos 0 → mid ≡ part mid) → TellsBy mid mid new code → TellsBy (whole new) (part new) new code
  tells_over ok failed tells = record {
    whole_is = λ zero. (let same = tells.whole_is zero in same ∙ ok zero ∙ ap whole (sym same));
    full_is = λ not. (let same = tells.full_is not in same ∙ ap (with_full new) (failed not ∙ sym (blind new mid) ∙ ap part (sym same)));
    part_is = λ not other. (let same = tells.part_is not other in same ∙ failed not ∙ ap part (sym same));
  }

-- the same by an equal code, and over what was told at first
pub tells_as : (whole part : Told → Told → Told) (first base new : Told) (code end : ℤ) → first ≡ base → end ≡ code → TellsBy (whole new first) (part new first) new code
    → TellsBy (whole new base) (part new base) new end
tells_as whole part first base new code end same is tells =
    subst (λ (z : ℤ). TellsBy (whole new base) (part new base) new z) (sym is) (subst (λ (t : Told). TellsBy (whole new t) (part new t) new code) same tells)

pub place_left : (old new : Told) (stop : Stop) → new.place ≡ old.place → TellsPlaceOf old new stop
place_left old new (stops.Line error) same = same
place_left old new (stops.Store error) same = same
place_left old new stops.Spent same = same
place_left old new stops.Save same = tt
place_left old new stops.Other same = same
place_left old new stops.Memory same = same

place_by : (old new : Told) (stop : Stop) (before after : Counts) (told : Told) (code : ℤ) → TellsPlaceOf old new stop → EndsBy stop before after told code → code ≢ BAD_SAVE → new.place ≡ old.place
place_by old new (stops.Line error) before after told code place ends not = place
place_by old new (stops.Store error) before after told code place ends not = place
place_by old new stops.Spent before after told code place ends not = place
place_by old new stops.Save before after told code place ends not = absurd (not ends.code_is)
place_by old new stops.Other before after told code place ends not = place
place_by old new stops.Memory before after told code place ends not = place

-- another code than that of a save leaves the place
pub place_as : {A : Type 0} (came : Result A Stop) (old new : Told) (before after : Counts) (told : Told) (code : ℤ) → OnOk came (new ≡ old) → IfErr came (TellsPlaceOf old new)
    → IfErr came (λ stop. EndsBy stop before after told code) → code ≢ BAD_SAVE → new.place ≡ old.place
place_as (Ok x) old new before after told code same place ends not = ap (λ (t : Told). t.place) same
place_as (Err stop) old new before after told code same place ends not = place_by old new stop before after told code place ends not

pub feed_stops : {A : Type 0} (came : Result A Stop) (fields : List Field) (bytes : List ℕ) (number : ℕ) (rest : List ℕ) (why : Stop → Type 0)
    → IfErr came (IfLine (RefusesLine fields bytes number rest)) → IfErr came why → IfErr came (StopsFeed fields bytes number rest why)
feed_stops (Ok x) fields bytes number rest why line operation = tt
feed_stops (Err (stops.Line error)) fields bytes number rest why line operation = (line, operation)
feed_stops (Err (stops.Store error)) fields bytes number rest why line operation = operation
feed_stops (Err stops.Spent) fields bytes number rest why line operation = operation
feed_stops (Err stops.Save) fields bytes number rest why line operation = operation
feed_stops (Err stops.Other) fields bytes number rest why line operation = operation
feed_stops (Err stops.Memory) fields bytes number rest why line operation = operation

-- the code of a stop that is known
pub code_of_stop : {A : Type 0} (came : Result A Stop) (stop : Stop) (before after : Counts) (told : Told) (code : ℤ) → came ≡ Err stop → IfErr came (λ s. EndsBy s before after told code)
    → code ≡ stop_code stop
code_of_stop {A} came stop before after told code is ends = (subst (λ (r : Result A Stop). IfErr r (λ s. EndsBy s before after told code)) is ends).code_is

-- an operation that was not applied stops a feed and a load
module _ {S H : Type 0} (ledger : S → Ledger H) (records : S → Records) where
  -- the store refused an operation and left the attributes as they were
  pub refused_by : (old now : AttributeView S) (op : Op) (error : AttrError) → now ≡ record old { store = now.store } → KeepsStore (ledger old.store) (ledger now.store)
      → LeavesEntries (ledger old.store) (ledger now.store) (records old.store) (records now.store)
      → MakesOperation old.dense (ledger old.store) (ledger now.store) old.fields old.table op → RefusesOperation (ledger old.store) (ledger now.store) error
      → NamesWidth old.dense old.fields old.table op error → SparesOf old.dense (ledger now.store) old.fields old.table op error
      → LacksBuffers old.dense (ledger old.store) old.fields old.table op error
      → RefusedOperation ledger records (λ ops. ops ≡ []) (λ next. next ≡ op) old now error
  refused_by old now op error same keeps entries made refused width spares room = record {
    op = op;
    is_next = refl;
    before = old;
    so_far = applies_none ledger (λ ops. ops ≡ []) old refl;
    leaves = record { left = same; keeps = keeps; entries = entries };
    made = made;
    refused = refused;
    width = width;
    spares = spares;
    room = room;
  }

  -- after others of the same call
  module _ (first second whole : List Op → Type 0) (next other : Op → Type 0) (old mid now : AttributeView S)
      (joined : (xs ys : List Op) → first xs → second ys → whole (xs ++ ys)) (wider : (op : Op) → next op → other op) (done : Applies ledger first old mid) where
    on : Applies ledger second mid now → Applies ledger whole old now
    on more = applies_then ledger first second whole old mid now joined done more

    pub stops_since : (stop : Stop) → StopsOperation ledger records second next mid now stop → StopsOperation ledger records whole other old now stop
    stops_since (stops.Line error) why = absurd why
    stops_since (stops.Store error) why = record {
      op = why.op;
      is_next = wider why.op why.is_next;
      before = why.before;
      so_far = applies_then ledger first second whole old mid why.before joined done why.so_far;
      leaves = why.leaves;
      made = why.made;
      refused = why.refused;
      width = why.width;
      spares = why.spares;
      room = why.room;
    }
    stops_since stops.Spent why = (record { most = why.0.most; op = why.0.op; is_next = wider why.0.op why.0.is_next }, on why.1)
    stops_since stops.Save why = absurd why
    stops_since stops.Other why = absurd why
    stops_since stops.Memory why = on why

    pub line_since : (stop : Stop) → LineOr (Applies ledger second mid now) (StopsOperation ledger records second next mid now) stop
        → LineOr (Applies ledger whole old now) (StopsOperation ledger records whole other old now) stop
    line_since (stops.Line error) why = on why
    line_since (stops.Store error) why = stops_since (stops.Store error) why
    line_since stops.Spent why = stops_since stops.Spent why
    line_since stops.Save why = absurd why
    line_since stops.Other why = absurd why
    line_since stops.Memory why = on why

  module _ (which : List Op → Type 0) (next : Op → Type 0) (old now : AttributeView S) where
    pub stops_wider : (other : Op → Type 0) → ((op : Op) → next op → other op) → (stop : Stop) → StopsOperation ledger records which next old now stop
        → StopsOperation ledger records which other old now stop
    stops_wider other wider (stops.Line error) why = absurd why
    stops_wider other wider (stops.Store error) why = record {
      op = why.op;
      is_next = wider why.op why.is_next;
      before = why.before;
      so_far = why.so_far;
      leaves = why.leaves;
      made = why.made;
      refused = why.refused;
      width = why.width;
      spares = why.spares;
      room = why.room;
    }
    stops_wider other wider stops.Spent why = (record { most = why.0.most; op = why.0.op; is_next = wider why.0.op why.0.is_next }, why.1)
    stops_wider other wider stops.Save why = absurd why
    stops_wider other wider stops.Other why = absurd why
    stops_wider other wider stops.Memory why = why

    pub line_or : (applied : Type 0) (stop : Stop) → StopsOperation ledger records which next old now stop → LineOr applied (StopsOperation ledger records which next old now) stop
    line_or applied (stops.Line error) why = absurd why
    line_or applied (stops.Store error) why = why
    line_or applied stops.Spent why = why
    line_or applied stops.Save why = absurd why
    line_or applied stops.Other why = absurd why
    line_or applied stops.Memory why = why

    pub load_or : (fields : List Field) (bytes : List ℕ) (place : ℕ) (applied : Type 0) (stop : Stop) → StopsOperation ledger records which next old now stop
        → StopsLoad fields bytes place applied (StopsOperation ledger records which next old now) stop
    load_or fields bytes place applied (stops.Line error) why = absurd why
    load_or fields bytes place applied (stops.Store error) why = why
    load_or fields bytes place applied stops.Spent why = why
    load_or fields bytes place applied stops.Save why = absurd why
    load_or fields bytes place applied stops.Other why = absurd why
    load_or fields bytes place applied stops.Memory why = why

    pub save_or : (fields : List Field) (bytes : List ℕ) (place : ℕ) (stop : Stop) → Applies ledger which old now → RefusesSave bytes place stop
        → StopsLoad fields bytes place (Applies ledger which old now) (StopsOperation ledger records which next old now) stop
    save_or fields bytes place (stops.Line error) none why = absurd why
    save_or fields bytes place (stops.Store error) none why = absurd why
    save_or fields bytes place stops.Spent none why = absurd why
    save_or fields bytes place stops.Save none why = (why, none)
    save_or fields bytes place stops.Other none why = absurd why
    save_or fields bytes place stops.Memory none why = none
