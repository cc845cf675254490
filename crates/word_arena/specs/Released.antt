-- No buffer is handed out again while there is a guard from before its hold: a statement about the single run.
use Rattle.std.specs.Prelude.{◌≡◌, ◌≢◌, ℕ, List, ◌∷◌, ◌++◌, slice_get, Some, All}
use Rattle.entry_ref.specs.Records.{Records}
use Rattle.gen_core.specs.declared.views.Sizes.{Sizes}
use Rattle.gen_core.specs.declared.views.ReaderView.{ReaderView}
use Rattle.gen_core.specs.declared.views.Event.{Event}
use Rattle.gen_core.specs.declared.views.Event.TheVariants.{HandOut, PutOnHold, Release}
use Rattle.gen_core.specs.Views.{stands_on}
use Rattle.gen_core.specs.Good.{State}
use Rattle.gen_core.specs.Events.{Happen, opening}

module _ (reaches : ℕ → Records → ℕ → List ℕ) (lawful : ℕ → Records → ℕ → Type 0) (sizes : Sizes) where
  -- each reader that stood on a hold in this state released it in these events
  abbrev pub EachIsReleased : State → List Event → Type 0
  EachIsReleased s events =
      (j h : ℕ) (r : ReaderView) → slice_get s.readers j ≡ Some r → stands_on r.state ≡ Some h → All (λ e. e ≢ Release j) events → ⊥

  -- whenever the buffer was put on hold in these events, each reader that then stood on a hold has released it since
  abbrev pub IsReleased : List Event → ℕ → Type 0
  IsReleased events b =
      (early between : List Event) → events ≡ early ++ PutOnHold b ∷ between
      → (s : State) × Happen reaches lawful (opening sizes) early s × EachIsReleased s between

  -- between one list of events and a longer one the buffer is handed out, and no reader has a guard from before its
  -- hold
  pub record HandsOut (old new : List Event) (b : ℕ) : Type 0 where
    pub between : List Event
    pub later : List Event
    pub seen : new ≡ (old ++ between) ++ HandOut b ∷ later
    pub released : IsReleased (old ++ between) b

  -- the events are a run of the core in which every buffer is handed out in this way
  pub record IsWholeRun (events : List Event) : Type 0 where
    pub end : State
    pub run : Happen reaches lawful (opening sizes) events end
    pub released : (early later : List Event) (b : ℕ) → events ≡ early ++ HandOut b ∷ later → IsReleased early b
