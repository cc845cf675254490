-- What a seat's part of the single run says of commits and of reads.
use Rattle.std.specs.Prelude.{◌≡◌, ℕ, List, [], ◌∷◌, ◌++◌, slice_get, Some, All}
use mathlib.Core.Option.{some}
use lib.ListN.{get_elem?}
use Rattle.atomic_table.specs.Table.{State}
use Rattle.entry_ref.specs.declared.images.Image.{Image}
use Rattle.entry_ref.specs.Records.{Records}
use Rattle.gen_core.specs.declared.views.Sizes.{Sizes}
use Rattle.gen_core.specs.declared.views.Event.{Event}
use Rattle.gen_core.specs.declared.views.Event.TheVariants.{MeetLoad}
use Rattle.gen_core.specs.Reads.{reads_of, commits_seen}
use Rattle.gen_core.specs.Runs.{IsCommitIn}
use Rattle.word_arena.specs.declared.rule.Watched.{Watched}
use Rattle.word_arena.specs.Ruled.{Slot, writer_of, reader_of, seen_number, seen_image}
use Rattle.word_arena.specs.Watched.{OneRun}

-- the writer took one step in between, a load of the root
pub record LoadsRootOnce (old new : Watched) : Type 0 where
  pub between : List Event
  pub seen : new.seen ≡ (old.seen ++ between) ++ MeetLoad ∷ []
  pub mine : new.mine ≡ old.mine ++ MeetLoad ∷ []

-- each reader that the writer took in saw the commits that it read, by its number, in the run that the writer has seen
abbrev pub TookReads : Watched → Type 0
TookReads x = All (λ r. commits_seen r ≡ reads_of r.number x.seen) (writer_of x).taken

module _ (reaches : ℕ → Records → ℕ → List ℕ) (lawful : ℕ → Records → ℕ → Type 0) where
  -- the writer's commits are those of the run that it has seen, under their numbers
  abbrev pub KnowsCommits : Sizes → Watched → Type 0
  KnowsCommits sizes x =
      (number : ℕ) (image : Image) → slice_get (writer_of x).commits number ≡ Some image → IsCommitIn reaches lawful sizes x.seen number image

  -- the commit that a reader saw last is that of the run that it has seen, under its number
  abbrev pub GuardsCommit : Watched → Type 0
  GuardsCommit x = IsCommitIn reaches lawful (reader_of x).sizes x.seen (seen_number (reader_of x)) (seen_image (reader_of x))

  -- whatever two seats of one table have seen of the run, a number names one image in it
  abbrev pub SeatsAgree : Type 0
  SeatsAgree =
      (sizes : Sizes) (t : State Slot Watched) (i j : ℕ) (x y : Watched) (number : ℕ) (image other : Image) → OneRun reaches lawful sizes t
      → get_elem? t.views i ≡ some x → get_elem? t.views j ≡ some y → IsCommitIn reaches lawful sizes x.seen number image
      → IsCommitIn reaches lawful sizes y.seen number other → image ≡ other
