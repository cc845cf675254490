-- What words and a feed's bytes say to do, step by step.
use Rattle.std.proofs.Common.{◌≡◌, ◌∙◌, sym, ap, refl, subst, ℕ, ◌≤◌, ◌<◌, nat_lt, true}
use Rattle.std.proofs.Common.{false, List, [], ◌++◌, length, append-nil, Option, Some, None}
use Rattle.std.proofs.Common.{Result, Ok, Err, IfOk, IfErr, IsOkAnd, arith}
use Rattle.std.proofs.lemmas.Bool.Decides.{nat_tests}
use Rattle.std.specs.Io.KnownBytes.{Consumes, IsAtEnd}
use Rattle.clap.specs.Walk.{Text}
use Rattle.attr_io.specs.Bytes.{OfBytes, HasMoreThan}
use Rattle.attr_io.specs.Faults.{Rose}
use Rattle.attr_types.specs.declared.field.Field.{Field}
use Rattle.attr_types.specs.declared.op.Op.{Op}
use Rattle.feed_reader.specs.Feed.{feed_of, most_bytes, FeedSays, OnLines, ReadsAll}
use Rattle.feed_reader.specs.declared.refusal.Refusal.{Refusal}
use Rattle.feed_reader.specs.declared.refusal.Refusal.TheVariants as refusals
use Rattle.feed_reader.specs.declared.error.FeedError.{FeedError}
use Rattle.feed_reader.specs.declared.error.FeedError.TheVariants as errors
use Rattle.attr_run.specs.Made.{made}
use Rattle.attr_report.specs.Run.{Run, Progress}
use Rattle.attr_report.specs.declared.request.Make.{Make}
use Rattle.attr_run.specs.Run.{Task, asked, ReadsFeed, refusal_number, ops_or_refused, ops_in, fed_by, fed}
use Rattle.attr_run.specs.Run.{task_of}
use Rattle.attr_run.specs.Texts.{answer_text}
use Rattle.attr_run.specs.Answers.{EndsRun, OfRun, HasCause, HasNoRun, IsDue, IsFullRunOf, IsRunOfMemory, IsProper, progress_of}
use Rattle.attr_run.specs.declared.outcome.Outcome.{Outcome}
use Rattle.attr_run.specs.Steps.{Says, IsStopped, IsWordsStop, IsProperStop, IsEarly, IsFeedStop, IsUnfed, feed_stop}
use Rattle.attr_run.specs.declared.outcome.Status.{Status}
use Rattle.attr_run.specs.declared.outcome.Status.TheVariants.{Done, Help, Usage, BadFeed}
use Rattle.attr_run.specs.declared.outcome.Status.TheVariants.{ReadFault, WriteFault, Full, Memory}
use Rattle.attr_run.specs.declared.outcome.FeedFault.TheVariants as feed
use Rattle.attr_run.specs.declared.stop.Stop.{Stop}
use Rattle.attr_run.specs.declared.stop.Stop.TheVariants as stops

-- ---- bytes that are told, or are there

pub some_bytes : (left : Option (List ℕ)) (P : List ℕ → Type 0) → ((bytes : List ℕ) → P bytes) → OfBytes left P
some_bytes None P all = ([], tt, all [])
some_bytes (Some told) P all = (told, refl, all told)

pub OfBytes-weaker : (left : Option (List ℕ)) (P Q : List ℕ → Type 0) → ((bytes : List ℕ) → P bytes → Q bytes) → OfBytes left P → OfBytes left Q
OfBytes-weaker left P Q follows of = (of.0, of.1, follows of.0 of.2)

pub at_told : (bytes : List ℕ) (P : List ℕ → Type 0) → OfBytes (Some bytes) P → P bytes
at_told bytes P of = subst P (sym of.1) of.2

-- all that a source had was read
pub read_whole : (left new : Option (List ℕ)) (bytes : List ℕ) (P : List ℕ → Type 0) → Consumes left new bytes → IsAtEnd new → P bytes → OfBytes left P
read_whole None new bytes P taken end holds = (bytes, tt, holds)
read_whole (Some told) None bytes P taken end holds = absurd taken
read_whole (Some told) (Some rest) bytes P taken end holds =
    (bytes, taken ∙ ap (λ (more : List ℕ). bytes ++ more) end ∙ append-nil bytes, holds)

-- ---- what words and bytes say

task-asked : (words : List Text) (bytes : List ℕ) (run : Run) (ops : List Op) → asked words ≡ Ok run → fed run bytes ≡ Ok ops
    → task_of words bytes ≡ Ok (record { run = run; ops = ops })
unfolding task_of
task-asked words bytes run ops asks feeds = rw (asks, feeds) refl

task-unfed : (words : List Text) (bytes : List ℕ) (run : Run) (status : Status) → asked words ≡ Ok run → fed run bytes ≡ Err status
    → task_of words bytes ≡ Err status
unfolding task_of
task-unfed words bytes run status asks feeds = rw (asks, feeds) refl

-- and where the words ask for no run
pub task-unasked : (words : List Text) (bytes : List ℕ) (status : Status) → asked words ≡ Err status
    → task_of words bytes ≡ Err status
unfolding task_of
task-unasked words bytes status asks = rw asks refl

-- so these say nothing of a run
pub unasked-run : {A : Type 0} (words : List Text) (left : Option (List ℕ)) (status : Status) (P : Run → List Op → Type 0) → asked words ≡ Err status
    → OfRun words left P → A
unasked-run words left status P asks of =
    absurd (subst (λ (r : Result Task Status). IsOkAnd r (λ task. P task.run task.ops)) (task-unasked words of.0 status asks) of.2)

-- ---- the bytes of a feed

short : (bytes : List ℕ) → length bytes ≤ most_bytes → nat_lt most_bytes (length bytes) ≡ false
short bytes few = grind (arith, nat_tests)

long : (bytes : List ℕ) → most_bytes < length bytes → nat_lt most_bytes (length bytes) ≡ true
long bytes many = grind (arith, nat_tests)

ops_in-short : (fields : List Field) (bytes : List ℕ) (said : Result (List Op) (ℕ × Refusal)) → length bytes ≤ most_bytes
    → feed_of fields bytes ≡ said → ops_in fields bytes ≡ ops_or_refused said
unfolding ops_in
ops_in-short fields bytes said few says = rw (short bytes few, says) refl

ops_in-long : (fields : List Field) (bytes : List ℕ) → most_bytes < length bytes
    → ops_in fields bytes ≡ Err (BadFeed feed.TooLong)
unfolding ops_in
ops_in-long fields bytes many = rw (long bytes many) refl

-- a feed that gives operations
pub read-ops : (fields : List Field) (bytes : List ℕ) (ops : List Op)
    → feed_of fields bytes ≡ Ok ops → length bytes ≤ most_bytes → ops_in fields bytes ≡ Ok ops
read-ops fields bytes ops says short = ops_in-short fields bytes (Ok ops) short says

refused-line : (fields : List Field) (bytes : List ℕ) (line : ℕ) (refusal : Refusal)
    → feed_of fields bytes ≡ Err (line, refusal) → length bytes ≤ most_bytes
    → OfBytes (Some bytes) (λ told. ops_in fields told ≡ Err (BadFeed (feed.Line line (refusal_number refusal))))
refused-line fields bytes line refusal says short = (bytes, refl, ops_in-short fields bytes (Err (line, refusal)) short says)

-- a feed that is too long
pub refused-long : (fields : List Field) (left : Option (List ℕ)) → HasMoreThan most_bytes left
    → OfBytes left (λ bytes. ops_in fields bytes ≡ Err (BadFeed feed.TooLong))
refused-long fields left many =
    OfBytes-weaker left (λ bytes. most_bytes < length bytes) (λ bytes. ops_in fields bytes ≡ Err (BadFeed feed.TooLong)) (λ bytes more. ops_in-long fields bytes more) many

-- a feed whose bytes are told, and which is refused
pub feed-stopped : (fields : List Field) (bytes : List ℕ) (before now : ℕ) (e : FeedError)
    → FeedSays (Err e) (feed_of fields bytes)
    → OnLines (Err e) (length bytes ≤ most_bytes)
    → (e ≡ errors.FeedTooLong → most_bytes < length bytes)
    → (e ≡ errors.ReadFault → ⊥)
    → IsFeedStop fields (Some bytes) before now (feed_stop e)
feed-stopped fields bytes before now (errors.NotJson line) says short many fault =
    refused-line fields bytes line refusals.NotJson says short
feed-stopped fields bytes before now (errors.NoOperation line) says short many fault =
    refused-line fields bytes line refusals.NoOperation says short
feed-stopped fields bytes before now (errors.BadId line) says short many fault =
    refused-line fields bytes line refusals.BadId says short
feed-stopped fields bytes before now (errors.BadValue line) says short many fault =
    refused-line fields bytes line refusals.BadValue says short
feed-stopped fields bytes before now (errors.Unsupported line) says short many fault =
    refused-line fields bytes line refusals.Unsupported says short
feed-stopped fields bytes before now (errors.TooManyItems line) says short many fault =
    refused-line fields bytes line refusals.TooManyItems says short
feed-stopped fields bytes before now errors.FeedTooLong says short many fault = refused-long fields (Some bytes) (bytes, refl, many refl)
feed-stopped fields bytes before now errors.ReadFault says short many fault = absurd (fault refl)
feed-stopped fields bytes before now errors.Memory says short many fault = tt

-- the same of a source that these bytes were read of; bytes in memory give no fault
pub read-stopped : (fields : List Field) (left new : Option (List ℕ)) (bytes : List ℕ) (before now : ℕ) (stop : Stop) → Consumes left new bytes → IsAtEnd new
    → IsFeedStop fields (Some bytes) 0 0 stop → IsFeedStop fields left before now stop
read-stopped fields left new bytes before now (stops.Answer (BadFeed fault)) taken end is =
    read_whole left new bytes (λ told. ops_in fields told ≡ Err (BadFeed fault)) taken end (at_told bytes (λ told. ops_in fields told ≡ Err (BadFeed fault)) is)
read-stopped fields left new bytes before now (stops.Answer ReadFault) taken end is = absurd (omega (arith, is))
read-stopped fields left new bytes before now (stops.Answer Done) taken end is = absurd is
read-stopped fields left new bytes before now (stops.Answer Help) taken end is = absurd is
read-stopped fields left new bytes before now (stops.Answer (Usage cause)) taken end is = absurd is
read-stopped fields left new bytes before now (stops.Answer WriteFault) taken end is = absurd is
read-stopped fields left new bytes before now (stops.Answer (Full operation active held)) taken end is = absurd is
read-stopped fields left new bytes before now (stops.Answer Memory) taken end is = absurd is
read-stopped fields left new bytes before now stops.Memory taken end is = tt

pub feed_stop-proper : (e : FeedError) → IsProperStop (feed_stop e)
feed_stop-proper (errors.NotJson line) = (omega arith, omega arith)
feed_stop-proper (errors.NoOperation line) = (omega arith, omega arith)
feed_stop-proper (errors.BadId line) = (omega arith, omega arith)
feed_stop-proper (errors.BadValue line) = (omega arith, omega arith)
feed_stop-proper (errors.Unsupported line) = (omega arith, omega arith)
feed_stop-proper (errors.TooManyItems line) = (omega arith, omega arith)
feed_stop-proper errors.FeedTooLong = tt
feed_stop-proper errors.ReadFault = tt
feed_stop-proper errors.Memory = tt

-- ---- the operations of a run

pub fed-made : (run : Run) (make : Make) (left : Option (List ℕ)) → run.make ≡ Some make
    → OfBytes left (λ bytes. fed run bytes ≡ Ok (made make.count make.seed run.fields))
unfolding fed
fed-made run make left is = some_bytes left _ (λ bytes. ap (λ (m : Option Make). fed_by m run.fields bytes) is)

pub fed-read : (run : Run) (left : Option (List ℕ)) (said : Result (List Op) Status) → run.make ≡ None
    → OfBytes left (λ bytes. ops_in run.fields bytes ≡ said) → OfBytes left (λ bytes. fed run bytes ≡ said)
unfolding fed
fed-read run left said none is = OfBytes-weaker left (λ bytes. ops_in run.fields bytes ≡ said) _
    (λ bytes says. ap (λ (m : Option Make). fed_by m run.fields bytes) none ∙ says) is

pub unfed-read : (run : Run) (left : Option (List ℕ)) (before now : ℕ) (stop : Stop) → run.make ≡ None
    → IsFeedStop run.fields left before now stop → IsUnfed run left before now stop
unfed-read run left before now (stops.Answer (BadFeed fault)) none is = (none, fed-read run left (Err (BadFeed fault)) none is)
unfed-read run left before now (stops.Answer ReadFault) none is = (none, is)
unfed-read run left before now (stops.Answer Done) none is = absurd is
unfed-read run left before now (stops.Answer Help) none is = absurd is
unfed-read run left before now (stops.Answer (Usage cause)) none is = absurd is
unfed-read run left before now (stops.Answer WriteFault) none is = absurd is
unfed-read run left before now (stops.Answer (Full operation active held)) none is = absurd is
unfed-read run left before now (stops.Answer Memory) none is = absurd is
unfed-read run left before now stops.Memory none is = tt

pub err_then : {A E : Type 0} (r : Result A E) (P Q : E → Type 0) → ((e : E) → P e → Q e) → IfErr r P → IfErr r Q
err_then (Ok a) P Q follows holds = tt
err_then (Err e) P Q follows holds = follows e holds

pub ok_always : {A E : Type 0} (r : Result A E) (P : Type 0) → P → IfOk r (λ _. P)
ok_always (Ok a) P holds = holds
ok_always (Err e) P holds = tt

pub of-run : (words : List Text) (left : Option (List ℕ)) (run : Run) (ops : List Op) (P : Run → List Op → Type 0)
    → asked words ≡ Ok run → OfBytes left (λ bytes. fed run bytes ≡ Ok ops) → P run ops → OfRun words left P
of-run words left run ops P asks feeds holds = OfBytes-weaker left (λ bytes. fed run bytes ≡ Ok ops) _ (λ bytes is.
    subst (λ (r : Result Task Status). IsOkAnd r (λ task. P task.run task.ops)) (sym (task-asked words bytes run ops asks is)) holds) feeds

refused : (words : List Text) (left : Option (List ℕ)) (run : Run) (why : Status) → asked words ≡ Ok run
    → OfBytes left (λ bytes. fed run bytes ≡ Err why) → OfBytes left (λ bytes. task_of words bytes ≡ Err why)
refused words left run why asks is = OfBytes-weaker left (λ bytes. fed run bytes ≡ Err why) (λ bytes. task_of words bytes ≡ Err why)
    (λ bytes says. task-unfed words bytes run why asks says) is

reads_feed : (words : List Text) (run : Run) → asked words ≡ Ok run → run.make ≡ None → ReadsFeed (asked words)
reads_feed words run asks none = subst ReadsFeed (sym asks) none

pub unfed-stopped : (words : List Text) (left : Option (List ℕ)) (before now : ℕ) (run : Run) (stop : Stop)
    → asked words ≡ Ok run → IsUnfed run left before now stop → IsStopped words left before now stop
unfed-stopped words left before now run (stops.Answer (BadFeed fault)) asks is =
    (reads_feed words run asks is.0, refused words left run (BadFeed fault) asks is.1)
unfed-stopped words left before now run (stops.Answer ReadFault) asks is = (reads_feed words run asks is.0, is.1)
unfed-stopped words left before now run (stops.Answer Done) asks is = absurd is
unfed-stopped words left before now run (stops.Answer Help) asks is = absurd is
unfed-stopped words left before now run (stops.Answer (Usage cause)) asks is = absurd is
unfed-stopped words left before now run (stops.Answer WriteFault) asks is = absurd is
unfed-stopped words left before now run (stops.Answer (Full operation active held)) asks is = absurd is
unfed-stopped words left before now run (stops.Answer Memory) asks is = absurd is
unfed-stopped words left before now run stops.Memory asks is = tt

-- a source that the words do not ask for
pub unread-run : {A : Type 0} (words : List Text) (run : Run) (old new : A) → asked words ≡ Ok run
    → ((run.make ≡ None → ⊥) → new ≡ old) → (ReadsFeed (asked words) → ⊥) → new ≡ old
unread-run words run old new asks stays none = stays (λ is. none (reads_feed words run asks is))

-- ---- words that ask for no run

pub words-stopped : {A : Type 0} (shown : A → Run) (words : List Text) (left : Option (List ℕ)) (before now : ℕ)
    (stop : Stop)
    → Says shown (Err stop) (asked words) → IsWordsStop stop → IsStopped words left before now stop
words-stopped shown words left before now (stops.Answer Help) said refusal = said
words-stopped shown words left before now (stops.Answer (Usage cause)) said refusal = said
words-stopped shown words left before now (stops.Answer Done) said refusal = absurd refusal
words-stopped shown words left before now (stops.Answer (BadFeed fault)) said refusal = absurd refusal
words-stopped shown words left before now (stops.Answer ReadFault) said refusal = absurd refusal
words-stopped shown words left before now (stops.Answer WriteFault) said refusal = absurd refusal
words-stopped shown words left before now (stops.Answer (Full operation active held)) said refusal = absurd refusal
words-stopped shown words left before now (stops.Answer Memory) said refusal = absurd refusal
words-stopped shown words left before now stops.Memory said refusal = tt

pub words-proper : (stop : Stop) → IsWordsStop stop → IsProperStop stop
words-proper (stops.Answer Help) refusal = tt
words-proper (stops.Answer (Usage cause)) refusal = refusal
words-proper (stops.Answer Done) refusal = absurd refusal
words-proper (stops.Answer (BadFeed fault)) refusal = absurd refusal
words-proper (stops.Answer ReadFault) refusal = absurd refusal
words-proper (stops.Answer WriteFault) refusal = absurd refusal
words-proper (stops.Answer (Full operation active held)) refusal = absurd refusal
words-proper (stops.Answer Memory) refusal = absurd refusal
words-proper stops.Memory refusal = tt

-- ---- an answer before any run

due-answer : (words : List Text) (left : Option (List ℕ)) (before now : ℕ) (status : Status) (progress : Progress)
    (text : List ℕ)
    → HasCause words left before now status → HasNoRun progress → text ≡ answer_text status
    → IsDue words left before now status progress text
due-answer words left before now Done progress text cause none is = absurd cause
due-answer words left before now Help progress text cause none is = (cause, none, is)
due-answer words left before now (Usage why) progress text cause none is = (cause, none, is)
due-answer words left before now (BadFeed fault) progress text cause none is = (cause, none, is)
due-answer words left before now ReadFault progress text cause none is = (cause, none, is)
due-answer words left before now WriteFault progress text cause none is = absurd cause
due-answer words left before now (Full operation active held) progress text cause none is = absurd cause
due-answer words left before now Memory progress text cause none is = absurd cause

pub due-early : (words : List Text) (left : Option (List ℕ)) (before now : ℕ) (stop : Stop) (status : Status)
    (progress : Progress) (text : List ℕ)
    → IsStopped words left before now stop → IsEarly stop status progress text
    → IsDue words left before now status progress text
due-early words left before now stop status progress text cause early =
    due-answer words left before now status progress text (subst
    (IsStopped words left before now) early.answers cause) early.no_run early.own_text

pub proper-early : (stop : Stop) (status : Status) (progress : Progress) (text : List ℕ)
    → IsProperStop stop → IsEarly stop status progress text → IsProper status
proper-early stop status progress text proper early = subst IsProperStop early.answers proper

unended : {A : Type 0} (words : List Text) (left : Option (List ℕ)) (before now : ℕ) (status : Status) (full : Option ℕ)
    → HasCause words left before now status → EndsRun status full → A
unended words left before now Done full cause ends = absurd cause
unended words left before now Help full cause ends = absurd ends
unended words left before now (Usage why) full cause ends = absurd ends
unended words left before now (BadFeed fault) full cause ends = absurd ends
unended words left before now ReadFault full cause ends = absurd ends
unended words left before now WriteFault full cause ends = absurd ends
unended words left before now (Full operation active held) full cause ends = absurd cause
unended words left before now Memory full cause ends = absurd ends

-- a call that stopped ended no run
pub unended-early : {A : Type 0} (words : List Text) (left : Option (List ℕ)) (before now : ℕ) (stop : Stop) (status : Status)
    (progress : Progress) (text : List ℕ) (full : Option ℕ)
    → IsStopped words left before now stop → IsEarly stop status progress text → EndsRun status full → A
unended-early words left before now stop status progress text full cause early ends = unended words left before now
    status full (subst (IsStopped words left before now) early.answers cause) ends

-- and ran out of space at no operation
pub unfull-early : (words : List Text) (left : Option (List ℕ)) (before now : ℕ) (stop : Stop) (outcome : Outcome) (text : List ℕ)
    → IsStopped words left before now stop → IsEarly stop outcome.status (progress_of outcome) text → IsFullRunOf words left outcome
unfull-early words left before now stop outcome text cause early = λ operation active held is.
    let why = subst (IsStopped words left before now) early.answers cause in
    absurd (subst (HasCause words left before now) is why)

pub unfull-memory : (words : List Text) (left : Option (List ℕ)) (outcome : Outcome) → outcome.status ≡ Memory → IsFullRunOf words left outcome
unfull-memory words left outcome status = λ operation active held is.
    absurd (let e : Memory ≡ Full operation active held = sym status ∙ is in cc)

-- a call that ended no run claims nothing of rounds
pub unmade-early : (words : List Text) (left : Option (List ℕ)) (before now : ℕ) (stop : Stop) (outcome : Outcome) (text : List ℕ)
    → IsStopped words left before now stop → IsEarly stop outcome.status (progress_of outcome) text → IsRunOfMemory words left outcome
unmade-early words left before now stop outcome text cause early = λ full ends.
    unended-early words left before now stop outcome.status (progress_of outcome) text full cause early ends

pub unmade-by : (words : List Text) (left : Option (List ℕ)) (outcome : Outcome) (status : Status) → outcome.status ≡ status → ((full : Option ℕ) → EndsRun status full → ⊥)
    → IsRunOfMemory words left outcome
unmade-by words left outcome status is never = λ full ends. absurd (never full (subst (λ (s : Status). EndsRun s full) is ends))
