-- What each step on the running words is: the next event of the single run of the core, by the same seat, on the same
-- word, with the same operation.
use Rattle.std.specs.Prelude.{◌≡◌, ◌≢◌, ℕ, List, [], ◌∷◌, ◌++◌, slice_index, Some}
use Rattle.atomic_table.specs.Table.{Me, Step}
use Rattle.entry_ref.specs.Records.{Records}
use Rattle.gen_core.specs.Good.{State}
use Rattle.gen_core.specs.Steps.{Operation, load, store, add, subtract, exchange, word_of, operation_of, seat_of, view_at}
use Rattle.gen_core.specs.declared.views.Event.{Event}
use Rattle.gen_core.specs.declared.views.Event.TheVariants.{StoreWidth, StoreWord, FindWord, HandOut, Publish, PutOnHold, FreeBuffer}
use Rattle.gen_core.specs.declared.views.Event.TheVariants.{Reopen, StoreNewest, Close}
use Rattle.gen_core.specs.declared.views.Event.TheVariants.{StopAtOldest, Probe, StopAtNewest, Morph, MeetLoad, LoadOwn, LoadNewest, Raise}
use Rattle.gen_core.specs.declared.views.Event.TheVariants.{Bounce, LoadRoot, LoadWord}
use Rattle.gen_core.specs.declared.views.Event.TheVariants.{Release}
use Rattle.gen_core.specs.Events.{Happens}
use Rattle.word_arena.specs.declared.rule.Watched.{Watched}
use Rattle.word_arena.specs.Watched.{noted_by, IsReached}
use Rattle.word_arena.specs.Ruled.{Slot, bare, told_hand_out, told_width, told_store, told_find, told_publish, told_load_root}
use Rattle.word_arena.specs.Ruled.{told_load_newest}
use Rattle.word_arena.specs.Ruled.{told_raise, told_bounce, told_release, told_load_word, told_load_own, told_meet_load}
use Rattle.word_arena.specs.WriterHolds.{told_reopen, told_store_newest, told_morph, told_probe, told_close, told_hold, told_free}

-- the operands of a step are those of an operation
abbrev pub HasOperands : Operation → Step Slot → Type 0
HasOperands load st = Unit {0}
HasOperands (store n) st = st.first ≡ n
HasOperands (add n) st = st.first ≡ n
HasOperands (subtract n) st = st.first ≡ n
HasOperands (exchange wanted new) st = (st.first ≡ wanted) × (st.second ≡ new)

-- the word that a step reports: a store reports the word that it stored
abbrev pub told_found : Operation → ℕ → ℕ
told_found load word = word
told_found (store n) word = n
told_found (add n) word = word
told_found (subtract n) word = word
told_found (exchange wanted new) word = word

module _ (reaches : ℕ → Records → ℕ → List ℕ) (lawful : ℕ → Records → ℕ → Type 0) where
  -- the run begins with what the seat has seen, and has exactly the steps of the seat that it noted. It leads to a
  -- state in which the seat has the view before. There the event happens, on the word of the step, and gives the seat
  -- the view after
  pub record IsEvent (event : Event) (st : Step Slot) (me : Me Slot Watched) (found : ℕ) (me' : Me Slot Watched) : Type 0 where
    pub between : List Event
    pub own : noted_by (seat_of event) (me.0.seen ++ between) ≡ me.0.mine
    pub before : State
    pub after : State
    pub reached : IsReached reaches lawful before.writer.sizes (me.0.seen ++ between) before
    pub happens : Happens reaches lawful before event after
    pub word : st.word ≡ word_of before event
    pub operands : HasOperands (operation_of before event) st
    pub found_is : found ≡ told_found (operation_of before event) (slice_index before.words st.word)
    pub sees : view_at before (seat_of event) ≡ Some me.0.view
    pub then_sees : view_at after (seat_of event) ≡ Some me'.0.view

  -- the event is the next of the run, and the seat notes it
  pub record IsStep (event : Event) (st : Step Slot) (me : Me Slot Watched) (found : ℕ) (me' : Me Slot Watched) : Type 0 where
    pub is : IsEvent event st me found me'
    pub seen : me'.0.seen ≡ (me.0.seen ++ is.between) ++ event ∷ []
    pub mine : me'.0.mine ≡ me.0.mine ++ event ∷ []

  -- a load that changes nothing is not noted
  pub record IsLook (event : Event) (st : Step Slot) (me : Me Slot Watched) (found : ℕ) (me' : Me Slot Watched) : Type 0 where
    pub is : IsEvent event st me found me'
    pub same : me' ≡ me

-- what a step tells: what is known of the view after it, and which event it was
pub record Told (T E : Type 0) : Type 0 where
  pub told : T
  pub event : E

module _ (reaches : ℕ → Records → ℕ → List ℕ) (lawful : ℕ → Records → ℕ → Type 0) where
  abbrev pub plays_hand_out : Step Slot → Me Slot Watched → ℕ → Me Slot Watched → Type 0
  plays_hand_out st me found me' = Told (told_hand_out st (bare me) found (bare me'))
      ((b : ℕ) × IsStep reaches lawful (HandOut b) st me found me')

  abbrev pub plays_width : Step Slot → Me Slot Watched → ℕ → Me Slot Watched → Type 0
  plays_width st me found me' = Told (told_width st (bare me) found (bare me')) ((b : ℕ)
      × IsStep reaches lawful (StoreWidth b st.first) st me found me')

  abbrev pub plays_store : Step Slot → Me Slot Watched → ℕ → Me Slot Watched → Type 0
  plays_store st me found me' = Told (told_store st (bare me) found (bare me'))
      (IsStep reaches lawful (StoreWord st.word st.first) st me found me')

  abbrev pub plays_find : Step Slot → Me Slot Watched → ℕ → Me Slot Watched → Type 0
  plays_find st me found me' = Told (told_find st (bare me) found (bare me')) (IsStep reaches lawful (FindWord st.word) st me found me')

  abbrev pub plays_publish : Step Slot → Me Slot Watched → ℕ → Me Slot Watched → Type 0
  plays_publish st me found me' = Told (told_publish reaches lawful st (bare me) found (bare me')) ((root : ℕ)
      × IsStep reaches lawful (Publish root) st me found me')

  abbrev pub plays_load_own : Step Slot → Me Slot Watched → ℕ → Me Slot Watched → Type 0
  plays_load_own st me found me' = Told (told_load_own st (bare me) found (bare me'))
      (IsLook reaches lawful (LoadOwn st.word) st me found me')

  abbrev pub plays_meet : Step Slot → Me Slot Watched → ℕ → Me Slot Watched → Type 0
  plays_meet st me found me' = Told (told_meet_load st (bare me) found (bare me')) (IsStep reaches lawful MeetLoad st me found me')

  abbrev pub plays_hold : Step Slot → Me Slot Watched → ℕ → Me Slot Watched → Type 0
  plays_hold st me found me' = Told (told_hold st (bare me) found (bare me'))
      ((b : ℕ) × IsStep reaches lawful (PutOnHold b) st me found me')

  abbrev pub plays_free : Step Slot → Me Slot Watched → ℕ → Me Slot Watched → Type 0
  plays_free st me found me' = Told (told_free st (bare me) found (bare me'))
      ((b : ℕ) × IsStep reaches lawful (FreeBuffer b) st me found me')

  abbrev pub plays_reopen : Step Slot → Me Slot Watched → ℕ → Me Slot Watched → Type 0
  plays_reopen st me found me' = Told (told_reopen st (bare me) found (bare me'))
      ((h : ℕ) × IsStep reaches lawful (Reopen h) st me found me')

  abbrev pub plays_store_newest : Step Slot → Me Slot Watched → ℕ → Me Slot Watched → Type 0
  plays_store_newest st me found me' = Told (told_store_newest st (bare me) found (bare me'))
      (IsStep reaches lawful StoreNewest st me found me')

  abbrev pub plays_morph : Step Slot → Me Slot Watched → ℕ → Me Slot Watched → Type 0
  plays_morph st me found me' = Told (told_morph st (bare me) found (bare me')) (IsStep reaches lawful Morph st me found me')

  -- if the hold was found unused it is closed, otherwise the writer records a stop
  pub record IsClose (st : Step Slot) (me : Me Slot Watched) (found : ℕ) (me' : Me Slot Watched) : Type 0 where
    pub hit : found ≡ 0 → IsStep reaches lawful Close st me found me'
    pub miss : found ≢ 0 → IsStep reaches lawful StopAtOldest st me found me'

  abbrev pub plays_close : Step Slot → Me Slot Watched → ℕ → Me Slot Watched → Type 0
  plays_close st me found me' = Told (told_close st (bare me) found (bare me')) (IsClose st me found me')

  pub record IsProbe (st : Step Slot) (me : Me Slot Watched) (found : ℕ) (me' : Me Slot Watched) : Type 0 where
    pub hit : found ≡ 0 → IsStep reaches lawful Probe st me found me'
    pub miss : found ≢ 0 → IsStep reaches lawful StopAtNewest st me found me'

  abbrev pub plays_probe : Step Slot → Me Slot Watched → ℕ → Me Slot Watched → Type 0
  plays_probe st me found me' = Told (told_probe st (bare me) found (bare me')) (IsProbe st me found me')

  -- a reader is named by its place j among the readers made
  abbrev pub plays_load_newest : Step Slot → Me Slot Watched → ℕ → Me Slot Watched → Type 0
  plays_load_newest st me found me' = Told (told_load_newest st (bare me) found (bare me')) ((j : ℕ)
      × IsStep reaches lawful (LoadNewest j) st me found me')

  abbrev pub plays_raise : Step Slot → Me Slot Watched → ℕ → Me Slot Watched → Type 0
  plays_raise st me found me' = Told (told_raise st (bare me) found (bare me')) ((j : ℕ) × IsStep reaches lawful (Raise j) st me found me')

  abbrev pub plays_bounce : Step Slot → Me Slot Watched → ℕ → Me Slot Watched → Type 0
  plays_bounce st me found me' = Told (told_bounce st (bare me) found (bare me'))
      ((j : ℕ) × IsStep reaches lawful (Bounce j) st me found me')

  abbrev pub plays_load_root : Step Slot → Me Slot Watched → ℕ → Me Slot Watched → Type 0
  plays_load_root st me found me' = Told (told_load_root reaches lawful st (bare me) found (bare me')) ((j : ℕ)
      × IsStep reaches lawful (LoadRoot j) st me found me')

  abbrev pub plays_load_word : Step Slot → Me Slot Watched → ℕ → Me Slot Watched → Type 0
  plays_load_word st me found me' = Told (told_load_word st (bare me) found (bare me')) ((j : ℕ)
      × IsLook reaches lawful (LoadWord j st.word) st me found me')

  abbrev pub plays_release : Step Slot → Me Slot Watched → ℕ → Me Slot Watched → Type 0
  plays_release st me found me' = Told (told_release st (bare me) found (bare me'))
      ((j : ℕ) × IsStep reaches lawful (Release j) st me found me')

  -- a load of the newest hold led from one view of the seat to the other
  pub record LoadsNewest (me me' : Me Slot Watched) : Type 0 where
    pub st : Step Slot
    pub found : ℕ
    pub j : ℕ
    pub event : IsStep reaches lawful (LoadNewest j) st me found me'

  -- a raise of the hold at which the seat aims found this count
  pub record RaiseFinds (me : Me Slot Watched) (found : ℕ) : Type 0 where
    pub st : Step Slot
    pub j : ℕ
    pub me' : Me Slot Watched
    pub event : IsStep reaches lawful (Raise j) st me found me'

  -- a raise found this count, after a load of the newest hold
  pub record TryFinds (me : Me Slot Watched) (found : ℕ) : Type 0 where
    pub aimed : Me Slot Watched
    pub loads : LoadsNewest me aimed
    pub raises : RaiseFinds aimed found
