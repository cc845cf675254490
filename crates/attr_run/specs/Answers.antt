-- When each answer of a call occurs, and what it leaves.
use Rattle.std.specs.Prelude.{◌≡◌, ◌≢◌, ℕ, ◌+◌, ◌≤◌, ◌⊎◌, false, List, [], length, Option, Some, None}
use Rattle.std.specs.Prelude.{Err, IsOkAnd}
use Rattle.std.specs.Io.KnownBytes.{IsAtEnd}
use Rattle.clap.specs.Walk.{Text}
use Rattle.attr_io.specs.Bytes.{AppendsFront, OfBytes}
use Rattle.attr_io.specs.Faults.{Rose}
use Rattle.attr_types.specs.declared.op.Op.{Op}
use Rattle.attr_types.specs.declared.error.QueryError.TheVariants as refusal
use Rattle.attr_engine.specs.FullStore.{load_in, readers_of, IsOwed, IsQuiet, IsSmall}
use Rattle.attr_engine.specs.FullWriter.{IsFullAtEnd}
use Rattle.attr_engine.specs.Memory.{AreOfMemory}
use Rattle.attr_report.specs.Run.{Run, Progress}
use Rattle.attr_report.specs.Report.{written}
use Rattle.attr_report.specs.History.{IsLoaded, IsRounds, IsAfterwards, IsSaved, IsLegalHistory, history}
use Rattle.attr_report.specs.declared.request.Make.{Make}
use Rattle.attr_run.specs.Run.{asked, ReadsFeed, task_of}
use Rattle.attr_run.specs.Texts.{answer_text}
use Rattle.attr_run.specs.declared.outcome.Outcome.{Outcome}
use Rattle.attr_run.specs.declared.outcome.Status.{Status}
use Rattle.attr_run.specs.declared.outcome.Status.TheVariants.{Done, Help, Usage, BadFeed}
use Rattle.attr_run.specs.declared.outcome.Status.TheVariants.{ReadFault, WriteFault, Full, Memory}
use Rattle.attr_run.specs.declared.outcome.UsageCause.TheVariants as usage
use Rattle.attr_run.specs.declared.outcome.FeedFault.{FeedFault}
use Rattle.attr_run.specs.declared.outcome.FeedFault.TheVariants as feed

-- ---- when an answer occurs

-- the progress of the run of an outcome
abbrev pub progress_of : Outcome → Progress
progress_of outcome =
    record { loaded = outcome.loaded; rounds = outcome.rounds; saved = outcome.saved }

-- an answer that ends a run, and the operation that ran out of space, if any
abbrev pub EndsRun : Status → Option ℕ → Type 0
EndsRun Done full = full ≡ None
EndsRun (Full operation active held) full = full ≡ Some operation
EndsRun _ full = ⊥

-- an answer if nothing is refused and nothing fails: the run is done, or it ran out of space
abbrev pub IsEnd : Status → Type 0
IsEnd Done = Unit {0}
IsEnd (Full operation active held) = Unit {0}
IsEnd _ = ⊥

-- the words and some bytes, which are those of the source if they are known, give a run and its operations with this
-- property
abbrev pub OfRun : List Text → Option (List ℕ) → (Run → List Op → Type 0) → Type 0
OfRun words left P = OfBytes left (λ bytes. IsOkAnd (task_of words bytes) (λ task. P task.run task.ops))

-- a small run with one attribute
abbrev pub IsSmallRun : Run → List Op → Type 0
IsSmallRun run ops = (length run.fields ≡ 1) × IsSmall (load_in run ops)

-- the feed is refused
abbrev pub IsRefusedFeed : Status → Type 0
IsRefusedFeed status = (fault : FeedFault) × (status ≡ BadFeed fault)

-- an answer occurs only if its cause holds; if the cause holds, the answer occurs, or a failed write or exhausted
-- memory instead
pub record ComesExactly (cause : Type 0) (expected status : Status) : Type 0 where
  pub only : status ≡ expected → cause
  pub always : cause → (status ≡ expected) ⊎ ((status ≡ WriteFault) ⊎ (status ≡ Memory))

-- the same for an answer that depends on the feed, which a failed read may also replace
pub record ComesExactlyOfFeed (cause : Type 0) (expected status : Status) : Type 0 where
  pub only : status ≡ expected → cause
  pub always : cause →
      (status ≡ expected) ⊎ ((status ≡ ReadFault) ⊎ ((status ≡ WriteFault) ⊎ (status ≡ Memory)))

-- why an answer before any run occurs, by the words, what the source has left, and its counts of faults before and
-- after
abbrev pub HasCause : List Text → Option (List ℕ) → ℕ → ℕ → Status → Type 0
HasCause words left before now Help = asked words ≡ Err Help
HasCause words left before now (Usage cause) = asked words ≡ Err (Usage cause)
HasCause words left before now (BadFeed fault) =
    ReadsFeed (asked words) × OfBytes left (λ bytes. task_of words bytes ≡ Err (BadFeed fault))
HasCause words left before now ReadFault = ReadsFeed (asked words) × Rose before now
HasCause words left before now _ = ⊥

-- an answer before any run, which has a text of its own
abbrev pub IsBeforeRun : Status → Type 0
IsBeforeRun Help = Unit {0}
IsBeforeRun (Usage cause) = Unit {0}
IsBeforeRun (BadFeed fault) = Unit {0}
IsBeforeRun ReadFault = Unit {0}
IsBeforeRun _ = ⊥

-- a refused query is not exhausted memory, and a faulty line has one of the six refusals of the feed's grammar
abbrev pub IsProper : Status → Type 0
IsProper (Usage (usage.Query number error)) = error ≢ refusal.Memory
IsProper (BadFeed (feed.Line line number)) = (1 ≤ number) × (number ≤ 6)
IsProper _ = Unit {0}

-- ---- what an answer leaves

-- no run began: nothing was loaded or saved, and no round was made
pub record HasNoRun (progress : Progress) : Type 0 where
  pub nothing_loaded : progress.loaded ≡ 0
  pub no_rounds : progress.rounds ≡ []
  pub nothing_saved : progress.saved ≡ None

-- the source of a run is read to its end; if the operations are made, it is not read
abbrev pub ReadsBy : Option Make → Option (List ℕ) → Option (List ℕ) → Type 0
ReadsBy None old new = IsAtEnd new
ReadsBy (Some make) old new = new ≡ old

abbrev pub ReadsAsAsked : Run → Option (List ℕ) → Option (List ℕ) → Type 0
ReadsAsAsked run old new = ReadsBy run.make old new

-- the progress of a run that ended in this way, and its text
pub record IsRunUntil (progress : Progress) (full : Option ℕ) (text : List ℕ) (run : Run)
    (ops : List Op) : Type 0 where
  pub all_loaded : IsLoaded run (length ops) progress.loaded full
  pub in_rounds : IsRounds run (length ops) progress
  pub afterwards : IsAfterwards run progress
  pub in_save : IsSaved run (length ops) progress
  pub legal : IsLegalHistory run ops progress (history run ops progress)
  pub is_written : text ≡ written run ops progress full

-- the same for a run that ran out of space at an operation: each of its buffers is in use, or held for readers
pub record IsFullRun (progress : Progress) (operation active held : ℕ) (text : List ℕ) (run : Run) (ops : List Op) : Type 0 where
  pub until : IsRunUntil progress (Some operation) text run ops
  pub room : active + held ≡ run.buffers
  pub owed : run.dense ≡ false → length run.fields ≡ 1 → IsOwed (load_in run ops) operation progress.loaded
  pub large : ¬ IsSmallRun run ops
  pub quiet : IsQuiet (readers_of run) → held ≡ 0

-- the text that is due for an answer, by the words, what the source has left, its counts of faults before and after,
-- and the progress of the run
abbrev pub IsDue : List Text → Option (List ℕ) → ℕ → ℕ → Status → Progress → List ℕ → Type 0
IsDue words left before now Done progress text =
    OfRun words left (IsRunUntil progress None text)
IsDue words left before now (Full operation active held) progress text =
    OfRun words left (IsFullRun progress operation active held text)
IsDue words left before now status progress text =
    HasCause words left before now status × HasNoRun progress × (text ≡ answer_text status)

-- a front of the text that was due for an answer was written, but not all of it
pub record WritesFront (words : List Text) (left : Option (List ℕ)) (before now : ℕ)
    (progress : Progress) (old new : Option (List ℕ)) : Type 0 where
  pub status : Status
  pub text : List ℕ
  pub proper : IsProper status
  pub due : IsDue words left before now status progress text
  pub front : AppendsFront old new text

-- if a run ran out of space at an operation, the attributes refused that operation, or the commit of the batch of which it is the
-- last, in the memory that the run's writer had: no buffer of it is free, and the report tells how many are in use and held
abbrev pub IsFullRunOf : List Text → Option (List ℕ) → Outcome → Type 0
IsFullRunOf words left outcome = (operation active held : ℕ) → outcome.status ≡ Full operation active held
    → OfRun words left (λ run ops. IsFullAtEnd run ops outcome.loaded outcome.writer
    (record { operation = operation; active = active; held = held }))

-- if a run ended, the rounds of each of its readers are at the commits that this reader read in the one run of the memory, in
-- the order of its reads
abbrev pub IsRunOfMemory : List Text → Option (List ℕ) → Outcome → Type 0
IsRunOfMemory words left outcome = (full : Option ℕ) → EndsRun outcome.status full
    → OfRun words left (λ run ops. AreOfMemory run ops outcome.loaded outcome.writer outcome.rounds)
