-- The commits of a run, by their numbers.
use Rattle.std.specs.Prelude.{◌≡◌, ℕ, List, ◌++◌, slice_get, Some}
use Rattle.entry_ref.specs.declared.images.Image.{Image}
use Rattle.entry_ref.specs.Records.{Records}
use Rattle.gen_core.specs.declared.views.Sizes.{Sizes}
use Rattle.gen_core.specs.declared.views.Event.{Event}
use Rattle.gen_core.specs.Good.{State}
use Rattle.gen_core.specs.Events.{Happen, opening}

module _ (reaches : ℕ → Records → ℕ → List ℕ) (lawful : ℕ → Records → ℕ → Type 0) where
  -- these events are a run, in which the commit with this number has this image
  pub record IsCommitIn (sizes : Sizes) (events : List Event) (number : ℕ) (image : Image) : Type 0 where
    pub end : State
    pub run : Happen reaches lawful (opening sizes) events end
    pub commit : slice_get end.writer.commits number ≡ Some image

  -- a commit has the same image in a run and in each longer one
  abbrev pub CommitsAgree : Type 0
  CommitsAgree = (sizes : Sizes) (events later : List Event) (number : ℕ) (image other : Image)
      → IsCommitIn sizes events number image → IsCommitIn sizes (events ++ later) number other → image ≡ other
