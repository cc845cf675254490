-- What a reader's handle holds, as its callers see it, and what its calls say.
use Rattle.std.specs.Prelude.{◌≡◌, ◌≢◌, ℕ, Bool, true, false, List, [], ◌∷◌, ◌++◌, length}
use Rattle.std.specs.Prelude.{Option, Some, None, Ok}
use Rattle.gen_core.specs.Events.{released}
use Rattle.word_arena.specs.Ruled.{reader_of, seen_number}
use Rattle.attr_types.specs.Scores.{AskTree, answer_on, documents_in}
use Rattle.attr_types.specs.declared.items.Item.{Item}
use Rattle.query_text.specs.Asks.{ask_of}
use Rattle.attr_c.specs.Kept.{KeptView, IsGuardOf, operations_of, table_in}
use Rattle.attr_c.specs.Said.{said, items_of, save_of_table}
use Rattle.attr_c.specs.Stores.{open_bits}
use Rattle.attr_c.specs.declared.answer.Answer.{Answer}
use Rattle.attr_c.specs.declared.answer.Answer.TheVariants.{Hits}
use Rattle.attr_c.specs.declared.seat.AnyKept.{AnyKept}
use Rattle.attr_c.specs.declared.seat.AnyKept.TheVariants as kept
use Rattle.attr_c.specs.declared.seat.SeatState.{SeatState}
use Rattle.attr_c.specs.declared.seat.SeatState.TheVariants.{Free, Kept}
use Rattle.attr_c.specs.declared.seat.Seat.{Seat}
use Rattle.attr_c.specs.declared.state.AnyOpen.{AnyOpen}
use Rattle.attr_c.specs.declared.state.AnyOpen.TheVariants as opens
use Rattle.attr_c.specs.declared.state.AnyReader.{AnyReader}
use Rattle.attr_c.specs.declared.state.AnyReader.TheVariants as readers
use Rattle.attr_c.specs.declared.told.Answered.{Answered}

-- the attributes that a reader is asked of, the memory that it reads, and what it has seen
abbrev pub reader_view : AnyReader → KeptView
reader_view (readers.Narrow w) = record { fields = w.fields; home = w.reader.place.table_id; reader = reader_of w.reader.place.me.0 }
reader_view (readers.Wide w) = record { fields = w.fields; home = w.reader.place.table_id; reader = reader_of w.reader.place.me.0 }

abbrev pub kept_view : AnyKept → KeptView
kept_view (kept.Narrow k) = k
kept_view (kept.Wide k) = k

abbrev pub is_kept : SeatState → Bool
is_kept (Free r) = false
is_kept (Kept k) = true

-- no answer, no items, no save and no groups are kept
pub record KeepsNothing (seat : Seat) : Type 0 where
  pub no_answer : seat.answer ≡ Hits []
  pub no_items : seat.items ≡ []
  pub no_save : seat.saved.items ≡ []
  pub no_groups : seat.groups ≡ []

-- a seat without a reader, which keeps nothing
pub record IsEmptySeat (seat : Seat) : Type 0 where
  pub no_reader : seat.place ≡ None
  pub keeps : KeepsNothing seat

-- a guard that a reader took
pub record IsTaken (reader guard : KeptView) : Type 0 where
  pub fields : guard.fields ≡ reader.fields
  pub home : guard.home ≡ reader.home
  pub guard_is : IsGuardOf reader.reader guard.reader

-- the guard that a place has, or takes
abbrev pub TakesGuard : SeatState → KeptView → Type 0
TakesGuard (Free r) guard = IsTaken (reader_view r) guard
TakesGuard (Kept k) guard = guard ≡ kept_view k

-- the guard stays, or was given back
abbrev pub LeavesGuard : Bool → KeptView → SeatState → Type 0
LeavesGuard true guard (Kept k) = kept_view k ≡ guard
LeavesGuard true guard (Free r) = ⊥
LeavesGuard false guard (Free r) = reader_view r ≡ record guard { reader = released guard.reader }
LeavesGuard false guard (Kept k) = ⊥

-- which commit answers, and how many operations it has
pub record TellsCommit (guard : KeptView) (told : Answered) : Type 0 where
  pub commit : told.commit ≡ seen_number guard.reader
  pub operations : told.operations ≡ operations_of guard

-- what the table of a guard's commit answers to a text
pub record AnswersText (guard : KeptView) (text : List ℕ) (told : Answered) (answer : Answer) : Type 0 where
  pub ask : AskTree
  pub reads : ask_of guard.fields text ≡ Ok ask
  pub answer_is : said answer ≡ answer_on ask (table_in guard)
  pub tells : TellsCommit guard told
  pub count : told.count ≡ documents_in (said answer)

-- how many documents that answer has
pub record CountsText (guard : KeptView) (text : List ℕ) (told : Answered) : Type 0 where
  pub ask : AskTree
  pub reads : ask_of guard.fields text ≡ Ok ask
  pub count : told.count ≡ documents_in (answer_on ask (table_in guard))
  pub tells : TellsCommit guard told

-- the items of a document in the table of a guard's commit
pub record ReadsItems (guard : KeptView) (document field : ℕ) (told : Answered) (items : List Item) : Type 0 where
  pub items_are : items_of field document (table_in guard) ≡ Some items
  pub tells : TellsCommit guard told
  pub count : told.count ≡ length items

-- a save of the table of a guard's commit
pub record SavesTable (guard : KeptView) (told : Answered) (bytes : List ℕ) : Type 0 where
  pub bytes_are : bytes ≡ save_of_table guard.fields (operations_of guard) (table_in guard)
  pub tells : TellsCommit guard told
  pub count : told.count ≡ length bytes

-- the reader is under a guard, its own or one that it took, and it is told of which commit
abbrev pub HoldsGuard : Option SeatState → Option SeatState → Answered → Type 0
HoldsGuard (Some before) (Some (Kept k)) told = TakesGuard before (kept_view k) × TellsCommit (kept_view k) told
HoldsGuard (Some before) (Some (Free r)) told = ⊥
HoldsGuard (Some before) None told = ⊥
HoldsGuard None after told = ⊥

-- the reader is without a guard: it had none, or gave it back
abbrev pub Releases : SeatState → AnyReader → Type 0
Releases (Free r) after = after ≡ r
Releases (Kept k) after = LeavesGuard false (kept_view k) (Free after)

abbrev pub ReleasesGuard : Option SeatState → Option SeatState → Type 0
ReleasesGuard (Some before) (Some (Free r)) = Releases before r
ReleasesGuard (Some before) (Some (Kept k)) = ⊥
ReleasesGuard (Some before) None = ⊥
ReleasesGuard None after = ⊥

-- a call by one guard: the place's own, which stays, or one that was taken and given back
pub record ByGuard (before after : SeatState) (P : KeptView → Type 0) : Type 0 where
  pub guard : KeptView
  pub takes : TakesGuard before guard
  pub leaves : LeavesGuard (is_kept before) guard after
  pub is : P guard

abbrev pub ByGuardOf : Option SeatState → Option SeatState → (KeptView → Type 0) → Type 0
ByGuardOf (Some before) (Some after) P = ByGuard before after P
ByGuardOf (Some before) None P = ⊥
ByGuardOf None after P = ⊥

-- the last reader that was not given away leaves the others
abbrev pub TakesReader : AnyOpen → AnyOpen → AnyReader → Type 0
TakesReader (opens.Narrow old) (opens.Narrow new) (readers.Narrow reader) = old.pool.items ≡ new.pool.items ++ reader ∷ []
TakesReader (opens.Wide old) (opens.Wide new) (readers.Wide reader) = old.pool.items ≡ new.pool.items ++ reader ∷ []
TakesReader old new reader = ⊥

abbrev pub HasNoReader : AnyOpen → Type 0
HasNoReader (opens.Narrow old) = old.pool.items ≡ []
HasNoReader (opens.Wide old) = old.pool.items ≡ []

-- such a reader has a seat, without a guard
abbrev pub SeatsReader : AnyOpen → AnyOpen → Option SeatState → Type 0
SeatsReader old new (Some (Free reader)) = TakesReader old new reader
SeatsReader old new (Some (Kept reader)) = ⊥
SeatsReader old new None = ⊥

-- the seat that was written for C keeps nothing yet
abbrev pub OpensSeat : AnyOpen → AnyOpen → Option Seat → Type 0
OpensSeat old new (Some seat) = SeatsReader old new seat.place × KeepsNothing seat
OpensSeat old new None = ⊥

-- the reader of a seat, without a guard
abbrev pub IsReaderOf : Option SeatState → AnyReader → Type 0
IsReaderOf (Some place) reader = Releases place reader
IsReaderOf None reader = ⊥

-- the reader of a seat is now the last that was not given away; the others are before it, as they were
pub record TakesBack (old new : AnyOpen) (seat : Option SeatState) : Type 0 where
  pub reader : AnyReader
  pub is : IsReaderOf seat reader
  pub last : TakesReader new old reader

-- how many bits of a reference are for the place in a buffer
abbrev pub place_bits : SeatState → ℕ
place_bits (Free r) = (reader_view r).reader.sizes.offset_bits
place_bits (Kept k) = (kept_view k).reader.sizes.offset_bits

-- a reader with the references of this width
abbrev pub IsOwn : AnyOpen → Option SeatState → Type 0
IsOwn o (Some place) = place_bits place ≡ open_bits o
IsOwn o None = ⊥

-- a reader with the references of the other width
abbrev pub IsForeign : AnyOpen → SeatState → Type 0
IsForeign o place = place_bits place ≢ open_bits o
