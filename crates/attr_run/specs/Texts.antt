-- What an answer before any run writes, and the exit statuses.
use Rattle.std.specs.Prelude.{ℕ, ◌==◌, if◌then◌else◌, List, [], ◌++◌, codes}
use Rattle.std.specs.Fmt.{decimal}
use Rattle.attr_types.specs.declared.error.QueryError.{QueryError}
use Rattle.attr_types.specs.declared.error.QueryError.TheVariants as refusal
use Rattle.attr_run.specs.declared.outcome.Status.{Status}
use Rattle.attr_run.specs.declared.outcome.Status.TheVariants as status
use Rattle.attr_run.specs.declared.outcome.UsageCause.TheVariants as usage
use Rattle.attr_run.specs.declared.outcome.FeedFault.TheVariants as feed

unfoldable pub help_text : List ℕ
help_text =
    codes "attr --kind single|array|weightedset --value long|string [--field F] [--batch B] [--readers R]\n"
    ++ codes "     [--rounds N] [--buffers U] [--words W] [--after] [--make N] [--seed S]"
    ++ codes " [--wide] [--dense] [--also A] [--save] [QUERY..]\n"

-- the text of a refused query
unfoldable pub query_refusal : QueryError → List ℕ
query_refusal (refusal.Syntax place) = codes "Syntax at " ++ decimal place
query_refusal (refusal.NoField place) = codes "NoField"
query_refusal refusal.WrongType = codes "WrongType"
query_refusal refusal.OutOfRange = codes "OutOfRange"
query_refusal refusal.TooDeep = codes "TooDeep"
query_refusal refusal.Memory = codes "Memory"

unfoldable pub query_line : ℕ → QueryError → List ℕ
query_line number error =
    codes "attr: usage: query " ++ decimal number ++ codes ": " ++ query_refusal error ++ codes "\n"

-- the refusals of a feed's line, by their numbers
unfoldable pub line_refusal : ℕ → List ℕ
line_refusal number =
    if number == 1 then codes "NotJson"
    else (if number == 2 then codes "NoOperation"
    else (if number == 3 then codes "BadId"
    else (if number == 4 then codes "BadValue"
    else (if number == 5 then codes "Unsupported" else codes "TooManyItems"))))

unfoldable pub feed_line : ℕ → ℕ → List ℕ
feed_line line number =
    codes "attr: feed line " ++ decimal line ++ codes ": " ++ line_refusal number ++ codes "\n"

-- what an answer before any run writes; what a run writes is `written` of attr_report
unfoldable pub answer_text : Status → List ℕ
answer_text status.Done = []
answer_text status.Help = help_text
answer_text (status.Usage usage.Words) = codes "attr: usage: words\n"
answer_text (status.Usage usage.KindName) = codes "attr: usage: kind\n"
answer_text (status.Usage usage.ValueName) = codes "attr: usage: value\n"
answer_text (status.Usage (usage.Size buffers words)) = codes "attr: usage: size\n"
answer_text (status.Usage (usage.Also place)) = codes "attr: usage: also\n"
answer_text (status.Usage (usage.Query number error)) = query_line number error
answer_text (status.BadFeed (feed.Line line number)) = feed_line line number
answer_text (status.BadFeed feed.TooLong) = codes "attr: feed: FeedTooLong\n"
answer_text status.ReadFault = codes "attr: read fault\n"
answer_text status.WriteFault = []
answer_text (status.Full operation active held) = []
answer_text status.Memory = []

-- ---- the exit status of the program

abbrev pub exit_code : Status → ℕ
exit_code status.Done = 0
exit_code status.Help = 0
exit_code (status.Usage cause) = 2
exit_code (status.BadFeed fault) = 3
exit_code status.ReadFault = 4
exit_code status.WriteFault = 5
exit_code (status.Full operation active held) = 6
exit_code status.Memory = 7
