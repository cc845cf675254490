-- The results of the steps of a call, before its text is made and written.
use Rattle.std.specs.Prelude.{◌≡◌, ℕ, List, Option, Some, None, ◌⊎◌, Result, Ok, Err, IsOkAnd}
use Rattle.std.specs.Io.KnownBytes.{Appends, Keeps}
use Rattle.clap.specs.Walk.{Text}
use Rattle.attr_io.specs.Bytes.{OfBytes}
use Rattle.attr_io.specs.Faults.{Rose}
use Rattle.attr_types.specs.declared.field.Field.{Field}
use Rattle.command_line.specs.declared.reading.WordsError.{WordsError}
use Rattle.command_line.specs.declared.reading.WordsError.TheVariants as words
use Rattle.feed_reader.specs.declared.error.FeedError.{FeedError}
use Rattle.feed_reader.specs.declared.error.FeedError.TheVariants as feed_errors
use Rattle.attr_engine.specs.FullStore.{NoRoom}
use Rattle.attr_report.specs.Run.{Run, Progress}
use Rattle.attr_run.specs.Run.{asked, ops_in, fed}
use Rattle.attr_run.specs.Settings.{IsAskedBy}
use Rattle.attr_run.specs.Refusals.{AsksBadQuery}
use Rattle.attr_run.specs.Texts.{answer_text}
use Rattle.attr_run.specs.Answers.{OfRun, ReadsAsAsked, HasCause, HasNoRun, IsDue, IsProper}
use Rattle.attr_run.specs.Answers.{WritesFront}
use Rattle.attr_run.specs.declared.outcome.Status.{Status}
use Rattle.attr_run.specs.declared.outcome.Status.TheVariants.{Done, Help, Usage, BadFeed, ReadFault}
use Rattle.attr_run.specs.declared.outcome.Status.TheVariants.{WriteFault, Full, Memory}
use Rattle.attr_run.specs.declared.outcome.UsageCause.TheVariants as usage
use Rattle.attr_run.specs.declared.outcome.FeedFault.TheVariants as feed
use Rattle.attr_run.specs.declared.stop.Stop.{Stop}
use Rattle.attr_run.specs.declared.stop.Stop.TheVariants as stops

-- the result of a step is what was expected, or its refusal; after memory is exhausted nothing is claimed
abbrev pub Says : {A B : Type 0} → (A → B) → Result A Stop → Result B Status → Type 0
Says shown (Ok a) wanted = wanted ≡ Ok (shown a)
Says shown (Err (stops.Answer status)) wanted = wanted ≡ Err status
Says shown (Err stops.Memory) wanted = Unit {0}

-- the stop of a call for a refusal of the words
abbrev pub words_stop : WordsError → Stop
words_stop words.Help = stops.Answer Help
words_stop words.Refused = stops.Answer (Usage usage.Words)
words_stop words.Kind = stops.Answer (Usage usage.KindName)
words_stop words.Value = stops.Answer (Usage usage.ValueName)
words_stop (words.Size buffers each) = stops.Answer (Usage (usage.Size buffers each))
words_stop (words.Also place) = stops.Answer (Usage (usage.Also place))
words_stop words.Memory = stops.Memory

-- the stop of a call for a refusal of the feed
abbrev pub line_stop : ℕ → ℕ → Stop
line_stop line number = stops.Answer (BadFeed (feed.Line line number))

abbrev pub feed_stop : FeedError → Stop
feed_stop (feed_errors.NotJson line) = line_stop line 1
feed_stop (feed_errors.NoOperation line) = line_stop line 2
feed_stop (feed_errors.BadId line) = line_stop line 3
feed_stop (feed_errors.BadValue line) = line_stop line 4
feed_stop (feed_errors.Unsupported line) = line_stop line 5
feed_stop (feed_errors.TooManyItems line) = line_stop line 6
feed_stop feed_errors.FeedTooLong = stops.Answer (BadFeed feed.TooLong)
feed_stop feed_errors.ReadFault = stops.Answer ReadFault
feed_stop feed_errors.Memory = stops.Memory

-- why a call stops before it has a report
abbrev pub IsStopped : List Text → Option (List ℕ) → ℕ → ℕ → Stop → Type 0
IsStopped words left before now (stops.Answer status) = HasCause words left before now status
IsStopped words left before now stops.Memory = Unit {0}

-- why a feed has no operations
abbrev pub IsFeedStop : List Field → Option (List ℕ) → ℕ → ℕ → Stop → Type 0
IsFeedStop fields left before now (stops.Answer (BadFeed fault)) =
    OfBytes left (λ bytes. ops_in fields bytes ≡ Err (BadFeed fault))
IsFeedStop fields left before now (stops.Answer ReadFault) = Rose before now
IsFeedStop fields left before now (stops.Answer _) = ⊥
IsFeedStop fields left before now stops.Memory = Unit {0}

-- why a run has no operations
abbrev pub IsUnfed : Run → Option (List ℕ) → ℕ → ℕ → Stop → Type 0
IsUnfed run left before now (stops.Answer (BadFeed fault)) =
    (run.make ≡ None) × OfBytes left (λ bytes. fed run bytes ≡ Err (BadFeed fault))
IsUnfed run left before now (stops.Answer ReadFault) = (run.make ≡ None) × Rose before now
IsUnfed run left before now (stops.Answer _) = ⊥
IsUnfed run left before now stops.Memory = Unit {0}

-- a stop because of the words
abbrev pub IsWordsStop : Stop → Type 0
IsWordsStop (stops.Answer Help) = Unit {0}
IsWordsStop (stops.Answer (Usage cause)) = IsProper (Usage cause)
IsWordsStop (stops.Answer _) = ⊥
IsWordsStop stops.Memory = Unit {0}

abbrev pub IsProperStop : Stop → Type 0
IsProperStop (stops.Answer status) = IsProper status
IsProperStop stops.Memory = Unit {0}

-- what holds if a run has ended: lawful words request it, and the source was read accordingly
pub record HasEnded (words : List Text) (left new : Option (List ℕ)) : Type 0 where
  pub asks : IsOkAnd (asked words) (IsAskedBy words)
  pub reads : OfRun words left (λ run ops. ReadsAsAsked run left new)

-- the answer of a call that stopped: it is not exhausted memory, and its text is the status's own
pub record IsEarly (stop : Stop) (status : Status) (progress : Progress) (text : List ℕ)
    : Type 0 where
  pub answers : stop ≡ stops.Answer status
  pub no_run : HasNoRun progress
  pub own_text : text ≡ answer_text status

-- the effect of an answer: the text that is due is written, or a front of it, or nothing
abbrev pub IsAnswer : List Text → Option (List ℕ) → ℕ → ℕ → Option (List ℕ) → Option (List ℕ)
    → ℕ → ℕ → Status → Progress → Type 0
IsAnswer words left before now old new sink_before sink_now WriteFault progress =
    Rose sink_before sink_now × WritesFront words left before now progress old new
IsAnswer words left before now old new sink_before sink_now Memory progress =
    Keeps old new × HasNoRun progress
IsAnswer words left before now old new sink_before sink_now status progress =
    (text : List ℕ) × IsDue words left before now status progress text × Appends old new text

-- the status of a run that ended, by the operation that ran out of space, if any
abbrev pub ended_status : Option NoRoom → Status
ended_status None = Done
ended_status (Some room) = Full room.operation room.active room.held

-- no read failed, or the status says so
abbrev pub TellsFault : ℕ → ℕ → Status → Type 0
TellsFault before now status = (now ≡ before) ⊎ (status ≡ ReadFault)

-- a query is refused by its rule
abbrev pub IsRuled : List Text → Status → Type 0
IsRuled line (Usage (usage.Query number error)) = AsksBadQuery line number error
IsRuled line _ = Unit {0}

abbrev pub IsRuledStop : List Text → Stop → Type 0
IsRuledStop line (stops.Answer status) = IsRuled line status
IsRuledStop line stops.Memory = Unit {0}
