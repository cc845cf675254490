-- How the steps of a run change the writer, and the results of its readers' tasks.
use Rattle.std.specs.Prelude.{◌≡◌, ℕ, ◌+◌, ◌<◌, ◌≤◌, ◌^◌, Bool, true, false, ◌∷◌, List, [], length, is_some, IfSome, All, None, Vec}
use Rattle.std.specs.Global.{Global}
use Rattle.std.specs.List.Sorted.{IsNonDecreasing}
use Rattle.atomic_table.specs.Seated.{TableId}
use Rattle.entry_ref.specs.declared.images.Image.{Image}
use Rattle.entry_ref.specs.Images.{no_image}
use Rattle.entry_ref.specs.Records.{Records}
use Rattle.arena_api.specs.Calls.{IsFresh}
use Rattle.gen_core.specs.declared.views.ReaderView.{ReaderView}
use Rattle.gen_core.specs.declared.views.WriterView.{WriterView}
use Rattle.gen_core.specs.Views.{last_number}
use Rattle.gen_core.specs.declared.views.Event.{Event}
use Rattle.gen_core.specs.Reads.{reads_of, commits_seen}
use Rattle.word_arena.specs.Knows.{view_of}
use Rattle.word_arena.specs.Released.{IsWholeRun}
use Rattle.word_arena.specs.Ruled.{writer_of}
use Rattle.word_arena.specs.Runs.{KnowsCommits, TookReads}
use Rattle.word_arena.specs.declared.rule.Watched.{Watched}
use Rattle.image_format.specs.Images.{attr_reaches, IsLawfulImage}
use Rattle.image_format.specs.Shapes.{shape_of, types_of}
use Rattle.attr_types.specs.Scores.{AskTree}
use Rattle.attr_types.specs.Table.{skipped}
use Rattle.attr_types.specs.declared.field.Field.{Field}
use Rattle.attr_types.specs.declared.field.TheConstants.{MOST_FIELDS}
use Rattle.attr_types.specs.declared.op.Op.{Op}
use Rattle.attr_loader.specs.Loading.{AreCommits, EndsAt, commit_point}
use Rattle.attr_loader.specs.Room.{load_of}
use Rattle.attr_loader.specs.Runs.{IsOwed, IsSmall}
use Rattle.attr_loader.specs.declared.loaded.Loaded.{Loaded}
use Rattle.attr_rounds.specs.Rounds.{AreSeen, IsOfCommit, MakesRounds}
use Rattle.attr_rounds.specs.declared.rounds.Round.{Round}
use Rattle.attr_rounds.specs.declared.asked.Told.{Told}
use Rattle.attr_report.specs.Run.{Run}
use Rattle.attr_engine.specs.FullWriter.{IsFullWriter}
use Rattle.attr_engine.specs.Rounds.{operations_of, tells_of, commits_of, AreGuarded}

-- how many readers run beside the loading, and how many after it
abbrev pub parts : Bool → ℕ → ℕ × ℕ
parts true readers = (0, readers)
parts false readers = (readers, 0)

-- the writer has the same commits, work and buffers; it may have made readers and taken some in
abbrev pub KeepsWriter : WriterView → WriterView → Type 0
KeepsWriter w w' = w' ≡ record w { saw = w'.saw; taken = w'.taken; made = w'.made }

-- a writer that has committed nothing, of images of these attributes
pub record IsNewWriter (fields : List Field) (home : TableId) (w : WriterView) : Type 0 where
  pub some : 0 < length fields
  pub few : length fields ≤ MOST_FIELDS
  pub shape_is : w.sizes.shape ≡ shape_of (types_of fields)
  pub fresh : IsFresh (view_of home w)
  pub commits : w.commits ≡ no_image ∷ []
  pub limit : w.sizes.commit_limit ≡ 4294967295
  pub generations : w.sizes.generation_limit ≡ 281474976710655

-- how a loading changes a writer: its commits are those of the operations; if one ran out of space, it was refused, and the
-- buffers are counted
pub record LoadsInto (fields : List Field) (dense : Bool) (batch : ℕ) (ops : List Op) (old new : WriterView) (loaded : Loaded)
    : Type 0 where
  pub shape_is : new.sizes.shape ≡ old.sizes.shape
  pub last : ℕ
  pub commits : AreCommits fields batch ops last new.commits
  pub count : length new.commits ≡ last + 1
  pub point : loaded.operations ≡ commit_point batch (length ops) last
  pub skips : loaded.skipped ≡ skipped fields ops loaded.operations
  pub ends : EndsAt batch (length ops) old.sizes.buffers loaded.operations loaded.full
  pub full : IfSome loaded.full (IsFullWriter fields dense batch ops loaded.operations new)
  -- with one attribute, a full store is owed to what was made if bit vectors are not wanted, and the operations are not a
  -- small run; and without readers nothing is held
  pub owed : dense ≡ false → length fields ≡ 1
      → IfSome loaded.full (λ full. IsOwed (load_of old.sizes.buffers old.sizes.words fields batch ops) full.operation loaded.operations)
  pub small : length fields ≡ 1 → 8 ≤ old.sizes.buffers → IsSmall (load_of old.sizes.buffers old.sizes.words fields batch ops)
      → loaded.full ≡ None
  pub unheld : new.made ≡ 0 → IfSome loaded.full (λ full. full.held ≡ 0)

-- this holds of each, with its number, counted on from this one
abbrev pub AllFrom : {A : Type 0} → (ℕ → A → Type 0) → ℕ → List A → Type 0
AllFrom P number [] = Unit {0}
AllFrom P number (x ∷ xs) = P number x × AllFrom P (number + 1) xs

-- each reader that this writer took in saw the commits that it read in these events
abbrev pub AllRead : List Event → WriterView → Type 0
AllRead events w = All (λ r. commits_seen r ≡ reads_of r.number events) w.taken

-- a writer still has the readers that it took in
abbrev pub KeepsTaken : WriterView → WriterView → Type 0
KeepsTaken w w' = (events : List Event) → AllRead events w' → AllRead events w

-- the rounds of the readers from this number on, of a writer that took them in, are of the commits that each of them read
abbrev pub AreReadFrom : WriterView → ℕ → List (Vec (Round Told) Global) → Type 0
AreReadFrom w number rounds = (events : List Event) → AllRead events w → AllFrom (λ k r. commits_of r.items ≡ reads_of k events) number rounds

-- what a writer has seen is one run of the whole memory: it has the writer's commits by their numbers, and the reads of the
-- readers that the writer took in
pub record KnowsRun (x : Watched) : Type 0 where
  pub whole : IsWholeRun attr_reaches IsLawfulImage (writer_of x).sizes x.seen
  pub named : KnowsCommits attr_reaches IsLawfulImage (writer_of x).sizes x
  pub reads : TookReads x

-- a reader made by the writer, before any round
pub record IsReader (w : WriterView) (home : TableId) (r : ReaderView) (table : TableId) : Type 0 where
  pub same_sizes : r.sizes ≡ w.sizes
  pub seen_last : r.seen ≡ last_number w.commits
  pub nothing : r.saw ≡ []
  pub at_home : table ≡ home

-- a reader made by this writer, after this many rounds
pub record HasRead (counted : Bool) (asks : List AskTree) (w : WriterView) (home : TableId) (count : ℕ) (r : ReaderView) (table : TableId)
    (rounds : List (Round Told)) : Type 0 where
  pub start : ReaderView
  pub seat : TableId
  pub is : IsReader w home start seat
  pub makes : MakesRounds operations_of (tells_of counted asks) IsLawfulImage start r rounds
  pub made : length rounds ≡ count
  pub same : table ≡ seat

-- a reader after its rounds, which can be joined
pub record IsReading (counted : Bool) (asks : List AskTree) (shape : ℕ) (home : TableId) (r : ReaderView) (table : TableId)
    (rounds : List (Round Told)) : Type 0 where
  pub shape_is : r.sizes.shape ≡ shape
  pub are_seen : AreSeen operations_of (tells_of counted asks) IsLawfulImage r rounds
  pub all_seen : commits_of rounds ≡ commits_seen r
  pub at_home : table ≡ home

-- its rounds, after the reader is joined
pub record IsTakenFrom (counted : Bool) (asks : List AskTree) (shape : ℕ) (commits : List Image)
    (before after : List (Round Told)) : Type 0 where
  pub same : after ≡ before
  pub each : All (IsOfCommit operations_of (tells_of counted asks) shape commits) after

-- the rounds of a reader that had seen this commit: `count` of them, each at a commit; commits never fall, and none
-- is older than what the reader saw before
pub record AreRoundsOf (counted : Bool) (asks : List AskTree) (shape seen count : ℕ) (commits : List Image)
    (rounds : List (Round Told)) : Type 0 where
  pub made : length rounds ≡ count
  pub each : All (IsOfCommit operations_of (tells_of counted asks) shape commits) rounds
  pub forward : IsNonDecreasing (seen ∷ commits_of rounds)
  pub guarded : AreGuarded counted asks seen rounds

-- the answer of one more round, by a reader that has seen the last commit
pub record IsLastAnswer {A : Type 0} (operations : ℕ → Records → ℕ → ℕ) (answers : ℕ → Records → ℕ → A
    → Type 0) (w : WriterView) (answer : A) : Type 0 where
  pub round : Round A
  pub is : answer ≡ round.answer
  pub of_commit : IsOfCommit operations answers w.sizes.shape w.commits round
  pub later : last_number w.commits ≤ round.commit

-- what is asked in a run
pub record IsQuestionOf (run : Run) (fields : List Field) (counted : Bool) (asks : List AskTree) (count : ℕ) : Type 0 where
  pub fields_are : fields ≡ run.fields
  pub counted_is : counted ≡ is_some run.make
  pub asks_are : asks ≡ run.asks
  pub small : count < 2 ^ 63
