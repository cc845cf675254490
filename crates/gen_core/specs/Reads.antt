-- What readers read in a list of events: at each load of the root, the number of the commit that is then the last.
use Rattle.std.specs.Prelude.{◌≡◌, ◌≢◌, ℕ, suc, List, [], ◌∷◌, map, reverse, slice_get, Some, All, Bool, false, nat_eq, if◌then◌else◌}
use Rattle.entry_ref.specs.declared.images.Image.{Image}
use Rattle.entry_ref.specs.Records.{Records}
use Rattle.gen_core.specs.declared.views.Sizes.{Sizes}
use Rattle.gen_core.specs.declared.views.Event.{Event}
use Rattle.gen_core.specs.declared.views.Event.TheVariants.{Publish, LoadRoot}
use Rattle.gen_core.specs.declared.views.ReaderState.TheVariants.{Spent}
use Rattle.gen_core.specs.declared.views.ReaderView.{ReaderView}
use Rattle.gen_core.specs.Good.{State}
use Rattle.gen_core.specs.Events.{Happen, opening}

-- the number of the last commit, after an event before which it was this one
abbrev pub last_after : ℕ → Event → ℕ
last_after last (Publish root) = suc last
last_after last e = last

-- reader j loads the root
abbrev pub is_read_by : ℕ → Event → Bool
is_read_by j (LoadRoot i) = nat_eq i j
is_read_by j e = false

-- the commits that reader j reads in these events, before which this commit was the last
abbrev pub reads_from : ℕ → ℕ → List Event → List ℕ
reads_from j last [] = []
reads_from j last (e ∷ events) =
    if is_read_by j e then last ∷ reads_from j (last_after last e) events else reads_from j (last_after last e) events

-- the commits that reader j read in a run, in order
abbrev pub reads_of : ℕ → List Event → List ℕ
reads_of j events = reads_from j 0 events

-- the commits that a reader saw, in order
abbrev pub commits_seen : ReaderView → List ℕ
commits_seen r = reverse (map (λ (c : ℕ × Image). c.0) r.saw)

-- each reader saw the commits that it read in these events, under its place among the readers made; so did each that was
-- joined since
pub record SawItsReads (events : List Event) (s : State) : Type 0 where
  pub readers : (j : ℕ) (r : ReaderView) → slice_get s.readers j ≡ Some r → r.state ≢ Spent
      → (r.number ≡ j) × (commits_seen r ≡ reads_of j events)
  pub taken : All (λ r. commits_seen r ≡ reads_of r.number events) s.writer.taken

module _ (reaches : ℕ → Records → ℕ → List ℕ) (lawful : ℕ → Records → ℕ → Type 0) where
  -- in every run, from its opening on
  abbrev pub SeesItsReads : Type 0
  SeesItsReads = (sizes : Sizes) (events : List Event) (s : State) → Happen reaches lawful (opening sizes) events s → SawItsReads events s
