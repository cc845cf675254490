-- The single run of the core, and what each seat has seen of it.
use Rattle.std.specs.Prelude.{if◌then◌else◌, ◌≡◌, ◌≢◌, ℕ, ◌≤◌, List, [], ◌∷◌, ◌++◌, map, length, nat_eq, Bool, false}
use mathlib.Core.Option.{some}
use lib.ListN.{get_elem?}
use Rattle.atomic_table.specs.Table.{State}
use Rattle.entry_ref.specs.Records.{Records}
use Rattle.gen_core.specs.declared.views.Sizes.{Sizes}
use Rattle.gen_core.specs.declared.views.WriterView.{WriterView}
use Rattle.gen_core.specs.declared.views.ReaderView.{ReaderView}
use Rattle.gen_core.specs.declared.views.View.TheVariants.{Reader}
use Rattle.gen_core.specs.declared.views.Event.{Event}
use Rattle.gen_core.specs.declared.views.Event.TheVariants.{Split, Join, LoadOwn, LoadWord}
use Rattle.gen_core.specs.Views.{spent}
use Rattle.gen_core.specs.Good.{State as CoreState, Good}
use Rattle.gen_core.specs.Steps.{seat_of}
use Rattle.gen_core.specs.Events.{Happen, opening}
use Rattle.word_arena.specs.declared.rule.Watched.{Watched}
use Rattle.word_arena.specs.Ruled.{Slot, views_of}

-- a step that seat k notes. A load of a buffer's word changes no view and is not noted; a split and a join involve
-- views that do not know the other seat
abbrev pub is_noted_by : ℕ → Event → Bool
is_noted_by k Split = false
is_noted_by k (Join j) = false
is_noted_by k (LoadOwn p) = false
is_noted_by k (LoadWord j p) = false
is_noted_by k e = nat_eq (seat_of e) k

-- the steps that one seat notes
abbrev pub noted_by : ℕ → List Event → List Event
noted_by k [] = []
noted_by k (e ∷ events) = if is_noted_by k e then e ∷ noted_by k events else noted_by k events

-- the list begins with what the seat has seen, and has exactly the steps that the seat took. A joined seat has the
-- same view for all, so nothing is said about it
pub record Fits (events : List Event) (k : ℕ) (x : Watched) : Type 0 where
  pub later : List Event
  pub begins : events ≡ x.seen ++ later
  pub own : x.view ≢ Reader spent → noted_by k events ≡ x.mine

pub record Watches (events : List Event) (seats : List Watched) : Type 0 where
  pub each : (k : ℕ) (x : Watched) → get_elem? seats k ≡ some x → Fits events k x
  pub none : (k : ℕ) → length seats ≤ k → noted_by k events ≡ []

-- a good state, to which these events led from the opening
pub record IsReached (reaches : ℕ → Records → ℕ → List ℕ) (lawful : ℕ → Records → ℕ → Type 0) (sizes : Sizes) (events : List Event)
    (s : CoreState) : Type 0 where
  pub run : Happen reaches lawful (opening sizes) events s
  pub good : Good reaches lawful s

-- one list of events, which led to the words and the views, and of which each seat has seen the first part
pub record OneRun (reaches : ℕ → Records → ℕ → List ℕ) (lawful : ℕ → Records → ℕ
    → Type 0) (sizes : Sizes) (t : State Slot Watched) : Type 0 where
  pub writer : WriterView
  pub readers : List ReaderView
  pub views : map (λ (x : Watched). x.view) t.views ≡ views_of writer readers
  pub same_sizes : writer.sizes ≡ sizes
  pub events : List Event
  pub reached : IsReached reaches lawful sizes events (record { words = t.words; writer = writer; readers = readers })
  pub watched : Watches events t.views
