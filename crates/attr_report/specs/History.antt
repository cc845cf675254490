-- How the rounds of a run's readers relate to its commits.
use Rattle.std.specs.Prelude.{◌≡◌, ℕ, zero, suc, ◌+◌, ◌-◌, ◌*◌, ◌/◌, ◌%◌, ◌≤◌, ◌==◌, nat_le, ◌&&◌}
use Rattle.std.specs.Prelude.{◌||◌, Bool}
use Rattle.std.specs.Prelude.{IsTrue, if◌then◌else◌, IfSome, is_some}
use Rattle.std.specs.Prelude.{List, [], ◌∷◌, ◌++◌, filter, length, All, Option, Some, None}
use Rattle.std.specs.List.{flat_map, filter_map}
use Rattle.std.specs.List.Sorted.{IsNonDecreasing}
use Rattle.attr_types.specs.declared.op.Op.{Op}
use Rattle.attr_types.specs.Scores.{Answer}
use Rattle.attr_types.specs.Table.{IsCommitPoint}
use Rattle.attr_report.specs.Run.{Run, Progress, answers_of}

-- ---- what was loaded

-- all operations; or, if one ran out of space, those of the whole batches before it
abbrev pub IsLoaded : Run → ℕ → ℕ → Option ℕ → Type 0
IsLoaded run total loaded None = loaded ≡ total
IsLoaded run total loaded (Some operation) = (1 ≤ operation) × (operation ≤ total)
    × (loaded ≡ run.batch * ((operation - 1) / run.batch))

-- ---- the rounds

-- each reader has as many counts of operations as rounds were requested; each count is a loaded commit point, and
-- those of one reader never fall
pub record IsRounds (run : Run) (total : ℕ) (progress : Progress) : Type 0 where
  pub readers : length progress.rounds ≡ run.readers
  pub made : All (λ counts. length counts ≡ run.rounds) progress.rounds
  pub committed : All (All (λ n. IsCommitPoint run.batch total n × (n ≤ progress.loaded)))
      progress.rounds
  pub forward : All IsNonDecreasing progress.rounds

-- if the readers run after the loading, each round sees everything that was loaded
abbrev pub IsAfterwards : Run → Progress → Type 0
IsAfterwards run progress =
    IsTrue run.after → All (All (λ n. n ≡ progress.loaded)) progress.rounds

-- ---- the save

-- if a save was requested, the table is saved at a loaded commit point, and at everything loaded if the readers run
-- after the loading; otherwise it is not saved
abbrev pub IsSavedAt : Run → ℕ → ℕ → ℕ → Type 0
IsSavedAt run total loaded n = IsCommitPoint run.batch total n × (n ≤ loaded) × (IsTrue run.after → n ≡ loaded)

abbrev pub IsSaved : Run → ℕ → Progress → Type 0
IsSaved run total progress = (is_some progress.saved ≡ run.save)
    × IfSome progress.saved (IsSavedAt run total progress.loaded)

-- ---- the history

-- an event of a run: a commit of the first operations; or a round of a reader, with its number, at a number of
-- operations, with its answers
pub data RunEvent : Type 0 where
  Commit : (operations : ℕ) → RunEvent
  Round : (reader round operations : ℕ) → (answers : List Answer) → RunEvent

-- the numbers from 0 to n
unfoldable pub numbers_to : ℕ → List ℕ
numbers_to zero = 0 ∷ []
numbers_to (suc n) = numbers_to n ++ suc n ∷ []

-- whether n is a commit point: at most the total, and a multiple of the batch or the total itself
abbrev pub is_commit_point : ℕ → ℕ → ℕ → Bool
is_commit_point batch total n = nat_le n total && (n % batch == 0 || n == total)

-- the loaded commit points, ascending
unfoldable pub commit_points : Run → ℕ → ℕ → List ℕ
commit_points run total loaded = filter (is_commit_point run.batch total) (numbers_to loaded)

-- the rounds of a reader, from number `round` on, at a commit point
abbrev pub rounds_of_reader : Run → List Op → ℕ → ℕ → ℕ → List ℕ → List RunEvent
rounds_of_reader run ops point reader round [] = []
rounds_of_reader run ops point reader round (n ∷ counts) =
    (if n == point then Round reader round n (answers_of run ops n) ∷ [] else [])
    ++ rounds_of_reader run ops point reader (round + 1) counts

-- the rounds of the readers from number `reader` on, by reader and then by round
abbrev pub rounds_at : Run → List Op → ℕ → ℕ → List (List ℕ) → List RunEvent
rounds_at run ops point reader [] = []
rounds_at run ops point reader (counts ∷ rounds) =
    rounds_of_reader run ops point reader 1 counts ++ rounds_at run ops point (reader + 1) rounds

-- each commit, followed by the rounds at it
unfoldable pub history : Run → List Op → Progress → List RunEvent
history run ops progress =
    flat_map (λ point. Commit point ∷ rounds_at run ops point 1 progress.rounds)
    (commit_points run (length ops) progress.loaded)

-- ---- what is legal

-- the commits among events
abbrev pub commit_in : RunEvent → Option ℕ
commit_in (Commit n) = Some n
commit_in (Round reader round n answers) = None

-- a round of this reader, by its number and its count of operations
abbrev pub round_in : ℕ → RunEvent → Option (ℕ × ℕ)
round_in reader (Commit n) = None
round_in reader (Round other round n answers) = if other == reader then Some (round, n) else None

-- counts, each with the number of its round
abbrev pub numbered_from : ℕ → List ℕ → List (ℕ × ℕ)
numbered_from round [] = []
numbered_from round (n ∷ counts) = (round, n) ∷ numbered_from (round + 1) counts

-- the rounds of each reader, from number `reader` on, occur among the events once each and in order
abbrev pub AreRoundsInOrder : List RunEvent → ℕ → List (List ℕ) → Type 0
AreRoundsInOrder events reader [] = Unit {0}
AreRoundsInOrder events reader (counts ∷ rounds) =
    (filter_map (round_in reader) events ≡ numbered_from 1 counts)
    × AreRoundsInOrder events (reader + 1) rounds

-- each round is a round of one of the readers, is at the last commit before it, if any, and answers from the table of
-- that commit
abbrev pub AreInPlace : Run → List Op → ℕ → Option ℕ → List RunEvent → Type 0
AreInPlace run ops readers last [] = Unit {0}
AreInPlace run ops readers last (Commit n ∷ events) = AreInPlace run ops readers (Some n) events
AreInPlace run ops readers last (Round reader round n answers ∷ events) =
    (1 ≤ reader) × (reader ≤ readers) × (last ≡ Some n) × (answers ≡ answers_of run ops n)
    × AreInPlace run ops readers last events

-- a history of a run: its commits in order; the rounds of each reader in order and once each, each after its commit
-- and before the next one; and each answer that of the table at its place
pub record IsLegalHistory (run : Run) (ops : List Op) (progress : Progress) (events : List RunEvent)
    : Type 0 where
  pub commits : filter_map commit_in events ≡ commit_points run (length ops) progress.loaded
  pub in_order : AreRoundsInOrder events 1 progress.rounds
  pub in_place : AreInPlace run ops (length progress.rounds) None events
