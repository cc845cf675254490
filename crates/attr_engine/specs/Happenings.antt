-- What happened in a run: its commits, and the rounds of its readers with their answers.
use Rattle.std.specs.Prelude.{◌≡◌, ℕ, ◌+◌, ◌≤◌, ◌==◌, nat_le, if◌then◌else◌, ◌++◌, List, [], ◌∷◌, map, length, is_some, Option, Some, None, Vec}
use Rattle.std.specs.Global.{Global}
use Rattle.std.specs.List.{AllByRecursion, filter_map}
use Rattle.atomic_table.specs.declared.badge.Badge.{Badge}
use Rattle.gen_core.specs.declared.views.Event.{Event}
use Rattle.gen_core.specs.declared.views.Event.TheVariants.{Publish, LoadRoot}
use Rattle.word_arena.specs.declared.rule.Watched.{Watched}
use Rattle.attr_types.specs.declared.op.Op.{Op}
use Rattle.attr_loader.specs.Loading.{commit_point}
use Rattle.attr_rounds.specs.declared.rounds.Round.{Round}
use Rattle.attr_rounds.specs.declared.asked.Told.{Told}
use Rattle.attr_rounds.specs.Lines.{TellsTable}
use Rattle.attr_report.specs.Run.{Run, table_after}
use Rattle.attr_report.specs.History.{numbers_to}
use Rattle.attr_engine.specs.declared.run_result.RunResult.{RunResult}

-- a commit, with its number and its number of operations; or a round of a reader with its answers, both numbered from
-- 1
pub data Happening : Type 0 where
  Committed : (commit operations : ℕ) → Happening
  Answered : (reader number : ℕ) → (round : Round Told) → Happening

-- the commits among them
abbrev pub commit_of : Happening → Option (ℕ × ℕ)
commit_of (Committed commit operations) = Some (commit, operations)
commit_of (Answered reader number round) = None

-- a round of this reader, with its number
abbrev pub round_of : ℕ → Happening → Option (ℕ × Round Told)
round_of reader (Committed commit operations) = None
round_of reader (Answered other number round) = if other == reader then Some (number, round) else None

-- commits 0 to `last`, each with its operations
abbrev pub commits_to : Run → List Op → ℕ → List (ℕ × ℕ)
commits_to run ops last = map (λ k. (k, commit_point run.batch (length ops) k)) (numbers_to last)

-- rounds, each with its number
abbrev pub with_numbers : ℕ → List (Round Told) → List (ℕ × Round Told)
with_numbers number [] = []
with_numbers number (round ∷ rounds) = (number, round) ∷ with_numbers (number + 1) rounds

-- the rounds of each reader, from number `reader` on, happened once each and in order
abbrev pub AreInOrder : List Happening → ℕ → List (Vec (Round Told) Global) → Type 0
AreInOrder events reader [] = Unit {0}
AreInOrder events reader (rounds ∷ others) =
    (filter_map (round_of reader) events ≡ with_numbers 1 rounds.items) × AreInOrder events (reader + 1) others

-- each round is a round of one of the readers, comes after its own commit and before the next one, and has the
-- answers of that commit's table
abbrev pub AreAtCommits : Run → List Op → ℕ → Option (ℕ × ℕ) → List Happening → Type 0
AreAtCommits run ops readers last [] = Unit {0}
AreAtCommits run ops readers last (Committed commit operations ∷ events) =
    AreAtCommits run ops readers (Some (commit, operations)) events
AreAtCommits run ops readers last (Answered reader number round ∷ events) =
    (1 ≤ reader) × (reader ≤ readers) × (last ≡ Some (round.commit, round.operations))
    × TellsTable (is_some run.make) run.asks (table_after run ops round.operations) round.answer
    × AreAtCommits run ops readers last events

-- whose step a happening is: the writer's, or that of this reader
abbrev pub kind_of : Happening → Option ℕ
kind_of (Committed commit operations) = None
kind_of (Answered reader number round) = Some reader

-- the same of an event, if it is a publish or a load of the root by one of so many readers, which are counted from 1 here
abbrev pub told_step : ℕ → Event → Option (Option ℕ)
told_step readers (Publish root) = Some None
told_step readers (LoadRoot j) = if nat_le readers j then None else Some (Some (j + 1))
told_step readers e = None

-- after the empty commit, these are the publishes and the loads of the root in the one run of the memory, in its order, up to
-- the last commit of the run; after that come only publishes
pub record IsInRunOrder (readers : ℕ) (seat : Badge Watched) (events : List Happening) : Type 0 where
  pub knew : Watched
  pub is : seat.views ≡ knew ∷ []
  pub beyond : List (Option ℕ)
  pub only : AllByRecursion (λ kind. kind ≡ None) beyond
  pub order : map kind_of events ++ beyond ≡ None ∷ filter_map (told_step readers) knew.seen

-- a history of what a run came to: its commits up to the last, in order, and each round of each reader in its place, as they
-- happened in its memory
pub record HasHistory (run : Run) (ops : List Op) (run_result : RunResult) : Type 0 where
  pub last : ℕ
  pub loaded : run_result.loaded.operations ≡ commit_point run.batch (length ops) last
  pub events : List Happening
  pub commits : filter_map commit_of events ≡ commits_to run ops last
  pub in_order : AreInOrder events 1 run_result.rounds.items
  pub in_place : AreAtCommits run ops (length run_result.rounds.items) None events
  pub order : IsInRunOrder (length run_result.rounds.items) run_result.writer events
