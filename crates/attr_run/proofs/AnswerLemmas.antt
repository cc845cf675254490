-- What an answer of a call says, status by status.
use Rattle.std.proofs.Common.{◌≡◌, ◌+◌, ◌≤◌, ◌⊎◌, inl, inr, sym, refl, subst, ℕ, List}
use Rattle.std.proofs.Common.{length, Option, Some, None, Result, Ok, Err, IsOk, IfSome}
use Rattle.std.proofs.Common.{IsOkAnd}
use Rattle.std.specs.Io.KnownBytes.{Appends}
use Rattle.clap.specs.Walk.{Text}
use Rattle.clap.specs.Faults.{fault_of}
use Rattle.attr_io.specs.Bytes.{OfBytes}
use Rattle.attr_io.specs.Faults.{Rose}
use Rattle.attr_types.specs.declared.op.Op.{Op}
use Rattle.command_line.specs.CommandLine.{attr_app}
use Rattle.command_line.specs.Reading.{AskForHelp}
use Rattle.attr_report.specs.Run.{Run, Progress}
use Rattle.attr_report.specs.Report.{written}
use Rattle.attr_run.specs.Run.{Task, asked, ReadsFeed, task_of}
use Rattle.attr_run.specs.Texts.{answer_text}
use Rattle.attr_run.specs.Answers.{EndsRun, IsEnd, IsRefusedFeed, OfRun, ComesExactly, ComesExactlyOfFeed}
use Rattle.attr_run.specs.Answers.{IsBeforeRun, HasNoRun, IsRunUntil, IsFullRun, IsDue, IsSmallRun}
use Rattle.attr_run.specs.Settings.{QueriesAreRefused}
use Rattle.attr_run.specs.Refusals.{IsRefusedFor}
use Rattle.attr_run.specs.Steps.{IsAnswer, IsRuled}
use Rattle.attr_run.specs.declared.outcome.Status.{Status}
use Rattle.attr_run.specs.declared.outcome.Status.TheVariants.{Done, Help, Usage, BadFeed}
use Rattle.attr_run.specs.declared.outcome.Status.TheVariants.{ReadFault, WriteFault, Full, Memory}
use Rattle.attr_run.specs.declared.outcome.UsageCause.{UsageCause}
use Rattle.attr_run.specs.declared.outcome.UsageCause.TheVariants as usage
use Rattle.attr_run.specs.declared.outcome.FeedFault.{FeedFault}
use Rattle.attr_run.proofs.AskedLemmas.{help-asked, refusal-asked, asked-help, asked-refused}
use Rattle.attr_run.proofs.RuleLemmas.{kind-asked, value-asked, size-asked, also-asked, asked-kind, asked-value, asked-size, asked-also, asked-query}
use Rattle.attr_run.proofs.TaskLemmas.{at_told, task-unasked, unasked-run}

-- the text that is due was written
pub answer-written : (words : List Text) (left : Option (List ℕ)) (before now : ℕ) (old new : Option (List ℕ))
    (s t : ℕ) (status : Status) (progress : Progress) (text : List ℕ)
    → IsDue words left before now status progress text → Appends old new text
    → IsAnswer words left before now old new s t status progress
answer-written words left before now old new s t Done progress text due written = (text, due, written)
answer-written words left before now old new s t Help progress text due written = (text, due, written)
answer-written words left before now old new s t (Usage cause) progress text due written = (text, due, written)
answer-written words left before now old new s t (BadFeed fault) progress text due written = (text, due, written)
answer-written words left before now old new s t ReadFault progress text due written = (text, due, written)
answer-written words left before now old new s t (Full operation active held) progress text due written =
    (text, due, written)
answer-written words left before now old new s t WriteFault progress text due written = absurd due.0
answer-written words left before now old new s t Memory progress text due written = absurd due.0

-- ---- what follows of a run

weaker : (r : Result Task Status) (P Q : Run → List Op → Type 0) → ((run : Run) (ops : List Op) → P run ops → Q run ops)
    → IsOkAnd r (λ task. P task.run task.ops) → IsOkAnd r (λ task. Q task.run task.ops)
weaker (Ok task) P Q follows holds = follows task.run task.ops holds
weaker (Err status) P Q follows holds = absurd holds

pub OfRun-weaker : (words : List Text) (left : Option (List ℕ)) (P Q : Run → List Op → Type 0)
    → ((run : Run) (ops : List Op) → P run ops → Q run ops)
    → OfRun words left P → OfRun words left Q
OfRun-weaker words left P Q follows holds = (holds.0, holds.1, weaker (task_of words holds.0) P Q follows holds.2)

-- ---- an answer to a call that met these words, source and sink

pub record Met : Type 0 where
  pub words : List Text
  pub left : Option (List ℕ)
  pub before : ℕ
  pub now : ℕ
  pub old : Option (List ℕ)
  pub new : Option (List ℕ)
  pub sink_before : ℕ
  pub sink_now : ℕ

abbrev pub Answers : Met → Status → Progress → Type 0
Answers met status progress = IsAnswer met.words met.left met.before met.now met.old met.new met.sink_before met.sink_now status progress

pub at : (met : Met) (status named : Status) (progress : Progress)
    → Answers met status progress → status ≡ named → Answers met named progress
at met status named progress answer is = subst (λ (s : Status). Answers met s progress) is answer

-- of an answer that ends a run, what holds of the run and what was written
ended-text : (met : Met) (status : Status) (progress : Progress) (full : Option ℕ)
    → Answers met status progress → EndsRun status full
    → (text : List ℕ) × OfRun met.words met.left (IsRunUntil progress full text) × Appends met.old met.new text
ended-text met Done progress full answer ends =
    subst (λ (f : Option ℕ). (text : List ℕ) × OfRun met.words met.left (IsRunUntil progress f text)
    × Appends met.old met.new text) (sym ends) answer
ended-text met (Full operation active held) progress full answer ends =
    subst (λ (f : Option ℕ). (text : List ℕ) × OfRun met.words met.left (IsRunUntil progress f text)
    × Appends met.old met.new text) (sym ends) (
      answer.0,
      OfRun-weaker met.words met.left (IsFullRun progress operation active held answer.0) (IsRunUntil progress (Some operation) answer.0)
          (λ run ops is. is.until) answer.1,
      answer.2,
    )
ended-text met Help progress full answer ends = absurd ends
ended-text met (Usage cause) progress full answer ends = absurd ends
ended-text met (BadFeed fault) progress full answer ends = absurd ends
ended-text met ReadFault progress full answer ends = absurd ends
ended-text met WriteFault progress full answer ends = absurd ends
ended-text met Memory progress full answer ends = absurd ends

pub ended-report : (met : Met) (status : Status) (progress : Progress) → Answers met status progress
    → (full : Option ℕ) → EndsRun status full
    → OfRun met.words met.left (λ run ops. Appends met.old met.new (written run ops progress full))
ended-report met status progress answer full ends =
    let ended = ended-text met status progress full answer ends in
    OfRun-weaker met.words met.left (IsRunUntil progress full ended.0) _ (λ run ops due. subst (λ
    (text : List ℕ). Appends met.old met.new text) due.is_written ended.2) ended.1

pub ended-run : (met : Met) (status : Status) (progress : Progress) (Q : Option ℕ → Run → List Op → Type 0)
    → ((full : Option ℕ) (text : List ℕ) (run : Run) (ops : List Op) → IsRunUntil progress full text run ops → Q full run ops)
    → Answers met status progress → (full : Option ℕ) → EndsRun status full → OfRun met.words met.left (Q full)
ended-run met status progress Q follows answer full ends =
    let ended = ended-text met status progress full answer ends in
    OfRun-weaker met.words met.left (IsRunUntil progress full ended.0) (Q full) (follows full ended.0) ended.1

-- what holds of a run that ran out of space
pub full-run : (met : Met) (status : Status) (progress : Progress) → Answers met status progress → (operation active held : ℕ) (Q : Run → List Op → Type 0)
    → ((text : List ℕ) (run : Run) (ops : List Op) → IsFullRun progress operation active held text run ops → Q run ops)
    → status ≡ Full operation active held → OfRun met.words met.left Q
full-run met status progress answer operation active held Q follows is =
    let here = at met status (Full operation active held) progress answer is in
    OfRun-weaker met.words met.left (IsFullRun progress operation active held here.0) Q (follows here.0) here.1

-- ---- the words

unasked-feed : (words : List Text) (status : Status) → ReadsFeed (asked words) → asked words ≡ Err status → ⊥
unasked-feed words status reads err = subst ReadsFeed err reads

-- where the words ask for no run, the answer is why, or a failed write or want of memory in its place
pub refused-words : (met : Met) (status : Status) (progress : Progress) (why : Status)
    → Answers met status progress → asked met.words ≡ Err why
    → (status ≡ why) ⊎ ((status ≡ WriteFault) ⊎ (status ≡ Memory))
refused-words met Done progress why answer asks = unasked-run met.words met.left why _ asks answer.1
refused-words met Help progress why answer asks = let is : Help ≡ why = cc (answer.1.0) in inl is
refused-words met (Usage cause) progress why answer asks = let is : Usage cause ≡ why = cc (answer.1.0) in inl is
refused-words met (BadFeed fault) progress why answer asks = absurd (unasked-feed met.words why answer.1.0.0 asks)
refused-words met ReadFault progress why answer asks = absurd (unasked-feed met.words why answer.1.0.0 asks)
refused-words met WriteFault progress why answer asks = inr (inl refl)
refused-words met (Full operation active held) progress why answer asks = unasked-run met.words met.left why _ asks answer.1
refused-words met Memory progress why answer asks = inr (inr refl)

-- by the rule of each cause
usage-asked : (met : Met) (cause : UsageCause) → length (fault_of attr_app met.words) ≤ 1 → IsRuled met.words (Usage cause) → asked met.words ≡ Err (Usage cause) → IsRefusedFor met.words cause
usage-asked met usage.Words one ruled is = refusal-asked met.words one is
usage-asked met usage.KindName one ruled is = kind-asked met.words is
usage-asked met usage.ValueName one ruled is = value-asked met.words is
usage-asked met (usage.Size buffers each) one ruled is = size-asked met.words buffers each is
usage-asked met (usage.Also place) one ruled is = also-asked met.words place is
usage-asked met (usage.Query number error) one ruled is = ruled

asked-usage : QueriesAreRefused → (words : List Text) (cause : UsageCause) → IsRefusedFor words cause → asked words ≡ Err (Usage cause)
asked-usage law words usage.Words rule = asked-refused words rule
asked-usage law words usage.KindName rule = asked-kind words rule
asked-usage law words usage.ValueName rule = asked-value words rule
asked-usage law words (usage.Size buffers each) rule = asked-size words buffers each rule
asked-usage law words (usage.Also place) rule = asked-also words place rule
asked-usage law words (usage.Query number error) rule = asked-query law words number error rule

pub exactly-usage : (met : Met) (status : Status) (progress : Progress) → QueriesAreRefused → length (fault_of attr_app met.words) ≤ 1
    → IsRuled met.words status → Answers met status progress → (cause : UsageCause) → ComesExactly (IsRefusedFor met.words cause) (Usage cause) status
exactly-usage met status progress law one ruled answer cause = record {
  only = λ is. usage-asked met cause one (subst (IsRuled met.words) is ruled) (at met status (Usage cause) progress answer is).1.0;
  always = λ rule. refused-words met status progress (Usage cause) answer (asked-usage law met.words cause rule);
}

pub exactly-help : (met : Met) (status : Status) (progress : Progress)
    → length (fault_of attr_app met.words) ≤ 1 → Answers met status progress
    → ComesExactly (AskForHelp met.words) Help status
exactly-help met status progress one answer = record {
  only = λ is. help-asked met.words one (at met status Help progress answer is).1.0;
  always = λ help. refused-words met status progress Help answer (asked-help met.words help);
}

-- ---- the feed

-- a run is not refused
unfed : (words : List Text) (bytes : List ℕ) (left : Option (List ℕ)) (why : Status) (P : Run → List Op → Type 0) → left ≡ Some bytes
    → OfRun words left P → task_of words bytes ≡ Err why → ⊥
unfed words bytes left why P told of is =
    let here = at_told bytes (λ b. IsOkAnd (task_of words b) (λ task. P task.run task.ops)) (subst (λ (l : Option (List ℕ)). OfRun words l P) told of) in
    subst (λ (r : Result Task Status). IsOkAnd r (λ task. P task.run task.ops)) is here

same_refusal : (r : Result Task Status) (a b : Status) → r ≡ Err a → r ≡ Err b → a ≡ b
same_refusal r a b first second = cc

-- a feed is refused for one reason
one_reason : (words : List Text) (bytes : List ℕ) (left : Option (List ℕ)) (a b : Status) → left ≡ Some bytes
    → OfBytes left (λ told. task_of words told ≡ Err a) → task_of words bytes ≡ Err b → a ≡ b
one_reason words bytes left a b told of is =
    same_refusal (task_of words bytes) a b (at_told bytes (λ b. task_of words b ≡ Err a) (subst (λ (l : Option (List ℕ)). OfBytes l (λ b. task_of words b ≡ Err a)) told of)) is

other_refusal : (words : List Text) (bytes : List ℕ) (a b : Status) → asked words ≡ Err a → task_of words bytes ≡ Err b → a ≡ b
other_refusal words bytes a b asks is = same_refusal (task_of words bytes) a b (task-unasked words bytes a asks) is

-- where the feed is refused, the answer is why, or a fault or want of memory in its place
refused-feed : (met : Met) (bytes : List ℕ) (status : Status) (progress : Progress)
    (fault : FeedFault) → met.left ≡ Some bytes → Answers met status progress
    → task_of met.words bytes ≡ Err (BadFeed fault) → (status
    ≡ BadFeed fault) ⊎ ((status ≡ ReadFault) ⊎ ((status ≡ WriteFault) ⊎ (status ≡ Memory)))
refused-feed met bytes Done progress fault told answer refused = absurd (unfed met.words bytes met.left _ _ told answer.1 refused)
refused-feed met bytes (Full operation active held) progress fault told answer refused =
    absurd (unfed met.words bytes met.left _ _ told answer.1 refused)
refused-feed met bytes Help progress fault told answer refused =
    let same = other_refusal met.words bytes Help (BadFeed fault) answer.1.0 refused in absurd (cc)
refused-feed met bytes (Usage cause) progress fault told answer refused =
    let same = other_refusal met.words bytes (Usage cause) (BadFeed fault) answer.1.0 refused in absurd (cc)
refused-feed met bytes (BadFeed other) progress fault told answer refused =
    inl (one_reason met.words bytes met.left (BadFeed other) (BadFeed fault) told answer.1.0.1 refused)
refused-feed met bytes ReadFault progress fault told answer refused = inr (inl refl)
refused-feed met bytes WriteFault progress fault told answer refused = inr (inr (inl refl))
refused-feed met bytes Memory progress fault told answer refused = inr (inr (inr refl))

pub exactly-feed : (met : Met) (status : Status) (progress : Progress) (fault : FeedFault)
    → Answers met status progress
    → (left : Option (List ℕ)) → met.left ≡ left → IfSome left (λ bytes. ComesExactlyOfFeed
    (task_of met.words bytes ≡ Err (BadFeed fault)) (BadFeed fault) status)
exactly-feed met status progress fault answer None told = tt
exactly-feed met status progress fault answer (Some bytes) told = record {
  only = λ is. at_told bytes (λ b. task_of met.words b ≡ Err (BadFeed fault))
      (subst (λ (l : Option (List ℕ)). OfBytes l (λ b. task_of met.words b ≡ Err (BadFeed fault))) told (at met status (BadFeed fault) progress answer is).1.0.1);
  always = refused-feed met bytes status progress fault told answer;
}

-- ---- what is written and left

pub early-text : (met : Met) (status : Status) (progress : Progress)
    → Answers met status progress → IsBeforeRun status → Appends met.old met.new (answer_text status)
early-text met Help progress answer early = subst (λ
    (text : List ℕ). Appends met.old met.new text) answer.1.2 answer.2
early-text met (Usage cause) progress answer early = subst (λ
    (text : List ℕ). Appends met.old met.new text) answer.1.2 answer.2
early-text met (BadFeed fault) progress answer early = subst (λ
    (text : List ℕ). Appends met.old met.new text) answer.1.2 answer.2
early-text met ReadFault progress answer early = subst (λ
    (text : List ℕ). Appends met.old met.new text) answer.1.2 answer.2
early-text met Done progress answer early = absurd early
early-text met WriteFault progress answer early = absurd early
early-text met (Full operation active held) progress answer early = absurd early
early-text met Memory progress answer early = absurd early

pub early-no_run : (met : Met) (status : Status) (progress : Progress)
    → Answers met status progress → IsBeforeRun status → HasNoRun progress
early-no_run met Help progress answer early = answer.1.1
early-no_run met (Usage cause) progress answer early = answer.1.1
early-no_run met (BadFeed fault) progress answer early = answer.1.1
early-no_run met ReadFault progress answer early = answer.1.1
early-no_run met Done progress answer early = absurd early
early-no_run met WriteFault progress answer early = absurd early
early-no_run met (Full operation active held) progress answer early = absurd early
early-no_run met Memory progress answer early = absurd early

-- ---- where nothing is refused and nothing fails

unasked-ok : (words : List Text) (why : Status) → IsOk (asked words) → asked words ≡ Err why → ⊥
unasked-ok words why ok asks = cc

pub complete-told : (met : Met) (status : Status) (progress : Progress) → Answers met status progress
    → IsOk (asked met.words) → (Rose met.before met.now → ⊥) → (Rose met.sink_before met.sink_now → ⊥)
    → IsEnd status ⊎ (IsRefusedFeed status ⊎ (status ≡ Memory))
complete-told met Done progress answer ok reads writes = inl tt
complete-told met Help progress answer ok reads writes = absurd (unasked-ok met.words Help ok answer.1.0)
complete-told met (Usage cause) progress answer ok reads writes = absurd (unasked-ok met.words (Usage cause) ok answer.1.0)
complete-told met (BadFeed fault) progress answer ok reads writes = inr (inl (fault, refl))
complete-told met ReadFault progress answer ok reads writes = absurd (reads answer.1.0.1)
complete-told met WriteFault progress answer ok reads writes = absurd (writes answer.0)
complete-told met (Full operation active held) progress answer ok reads writes = inl tt
complete-told met Memory progress answer ok reads writes = inr (inr refl)

-- ---- a small run

no_task : (r : Result Task Status) (why : Status) (P : Task → Type 0) → r ≡ Err why → IsOkAnd r P → ⊥
no_task r why P is holds = subst (λ (x : Result Task Status). IsOkAnd x P) is holds

too_small : (r : Result Task Status) (progress : Progress) (operation active held : ℕ) (text : List ℕ)
    → IsOkAnd r (λ task. IsFullRun progress operation active held text task.run task.ops) → IsOkAnd r (λ task. IsSmallRun task.run task.ops) → ⊥
too_small (Ok task) progress operation active held text full small = full.large small
too_small (Err why) progress operation active held text full small = small

small-by : (met : Met) (bytes : List ℕ) (status : Status) (progress : Progress) → met.left ≡ Some bytes → Answers met status progress
    → IsOkAnd (task_of met.words bytes) (λ task. IsSmallRun task.run task.ops) → (Rose met.before met.now → ⊥) → (Rose met.sink_before met.sink_now → ⊥)
    → (status ≡ Done) ⊎ (status ≡ Memory)
small-by met bytes Done progress told answer small reads writes = inl refl
small-by met bytes Help progress told answer small reads writes = absurd (no_task (task_of met.words bytes) Help _ (task-unasked met.words bytes Help answer.1.0) small)
small-by met bytes (Usage cause) progress told answer small reads writes =
    absurd (no_task (task_of met.words bytes) (Usage cause) _ (task-unasked met.words bytes (Usage cause) answer.1.0) small)
small-by met bytes (BadFeed fault) progress told answer small reads writes = absurd (no_task (task_of met.words bytes) (BadFeed fault) _
    (at_told bytes (λ b. task_of met.words b ≡ Err (BadFeed fault)) (subst (λ (l : Option (List ℕ)). OfBytes l (λ b. task_of met.words b ≡ Err (BadFeed fault))) told answer.1.0.1)) small)
small-by met bytes ReadFault progress told answer small reads writes = absurd (reads answer.1.0.1)
small-by met bytes WriteFault progress told answer small reads writes = absurd (writes answer.0)
small-by met bytes (Full operation active held) progress told answer small reads writes = absurd (too_small (task_of met.words bytes) progress operation active held answer.0
    (at_told bytes (λ b. IsOkAnd (task_of met.words b) (λ task. IsFullRun progress operation active held answer.0 task.run task.ops))
    (subst (λ (l : Option (List ℕ)). OfRun met.words l (IsFullRun progress operation active held answer.0)) told answer.1)) small)
small-by met bytes Memory progress told answer small reads writes = inr refl

pub small-told : (met : Met) (status : Status) (progress : Progress) → Answers met status progress → (left : Option (List ℕ)) → met.left ≡ left
    → IfSome left (λ bytes. IsOkAnd (task_of met.words bytes) (λ task. IsSmallRun task.run task.ops) → (Rose met.before met.now → ⊥) → (Rose met.sink_before met.sink_now → ⊥)
    → (status ≡ Done) ⊎ (status ≡ Memory))
small-told met status progress answer None told = tt
small-told met status progress answer (Some bytes) told = small-by met bytes status progress told answer
