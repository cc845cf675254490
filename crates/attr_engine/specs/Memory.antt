-- The rounds of a run as reads of its memory: which loads of the root they are.
use Rattle.std.specs.Prelude.{◌≡◌, ℕ, ◌+◌, zero, suc, List, [], ◌∷◌, map, length}
use Rattle.atomic_table.specs.declared.badge.Badge.{Badge}
use Rattle.gen_core.specs.declared.views.Event.{Event}
use Rattle.gen_core.specs.Reads.{reads_of}
use Rattle.word_arena.specs.Released.{IsWholeRun}
use Rattle.word_arena.specs.Ruled.{writer_of}
use Rattle.word_arena.specs.Runs.{KnowsCommits}
use Rattle.word_arena.specs.declared.rule.Watched.{Watched}
use Rattle.image_format.specs.Images.{attr_reaches, IsLawfulImage}
use Rattle.attr_types.specs.declared.op.Op.{Op}
use Rattle.attr_loader.specs.Loading.{AreCommits, commit_point}
use Rattle.attr_report.specs.Run.{Run}

-- the commits that `count` readers read in these events, each in order, from the reader with this number on
abbrev pub reads_by : List Event → ℕ → ℕ → List (List ℕ)
reads_by events number zero = []
reads_by events number (suc count) = reads_of number events ∷ reads_by events (number + 1) count

-- these are the commits of the rounds of each reader of a run, by what the seat of its writer knew at the end: this one run of the
-- whole memory, whose commits have the tables of the operations, and in which reader k was the k-th that was made and read exactly these
pub record IsOfMemory (run : Run) (ops : List Op) (last : ℕ) (seat : Badge Watched) (commits : List (List ℕ)) : Type 0 where
  pub knew : Watched
  pub is : seat.views ≡ knew ∷ []
  pub whole : IsWholeRun attr_reaches IsLawfulImage (writer_of knew).sizes knew.seen
  pub tables : AreCommits run.fields run.batch ops last (writer_of knew).commits
  pub count : length (writer_of knew).commits ≡ last + 1
  pub named : KnowsCommits attr_reaches IsLawfulImage (writer_of knew).sizes knew
  pub reads : commits ≡ reads_by knew.seen 0 run.readers

-- the same by how many operations the commit of each round has; the last commit is of all that was loaded
pub record AreOfMemory (run : Run) (ops : List Op) (loaded : ℕ) (seat : Badge Watched) (rounds : List (List ℕ)) : Type 0 where
  pub last : ℕ
  pub point : loaded ≡ commit_point run.batch (length ops) last
  pub commits : List (List ℕ)
  pub memory : IsOfMemory run ops last seat commits
  pub points : rounds ≡ map (map (commit_point run.batch (length ops))) commits
