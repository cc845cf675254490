-- What a run writes, line by line.
use Rattle.std.specs.Prelude.{ℕ, ◌+◌, List, [], ◌∷◌, ◌++◌, length, codes, Option, Some, None}
use Rattle.std.specs.List.{flat_map}
use Rattle.std.specs.Fmt.{decimal, signed_decimal}
use Rattle.attr_saver.specs.Bytes.{saved_bytes}
use Rattle.attr_saver.specs.Lawful.{save_of}
use Rattle.attr_types.specs.Scores.{AskTree, Answer, documents, scored, answer_on, documents_in}
use Rattle.attr_types.specs.declared.score.Score.{Score}
use Rattle.attr_types.specs.Table.{Table}
use Rattle.attr_types.specs.declared.field.Field.{Field}
use Rattle.attr_types.specs.declared.op.Op.{Op}
use Rattle.attr_report.specs.Run.{Run, Progress, table_after, skipped_at}
use Rattle.attr_report.specs.declared.request.Make.{Make}

-- ---- the report

unfoldable pub score_text : Score → List ℕ
score_text score = codes " " ++ decimal score.doc ++ codes "=" ++ signed_decimal score.score

-- `Q:`, and each document after a space, with its score if it has one
unfoldable pub answer_line : ℕ → Answer → List ℕ
answer_line number (documents docs) =
    decimal number ++ codes ":" ++ flat_map (λ doc. codes " " ++ decimal doc) docs ++ codes "\n"
answer_line number (scored list) =
    decimal number ++ codes ":" ++ flat_map score_text list ++ codes "\n"

-- the answers to the asks, numbered from `number` on, over a table
unfoldable pub answers_from : ℕ → List AskTree → Table → List ℕ
answers_from number [] table = []
answers_from number (ask ∷ asks) table =
    answer_line number (answer_on ask table) ++ answers_from (number + 1) asks table

-- the answers of a run at its first n operations
unfoldable pub answers_at : Run → List Op → ℕ → List ℕ
answers_at run ops n = answers_from 1 run.asks (table_after run ops n)

unfoldable pub reader_line : ℕ → ℕ → ℕ → List ℕ
reader_line reader round n =
    codes "reader " ++ decimal reader ++ codes " round " ++ decimal round
    ++ codes " at " ++ decimal n ++ codes "\n"

-- a reader's rounds, from number `round` on, at these counts of operations
unfoldable pub rounds_from : Run → List Op → ℕ → ℕ → List ℕ → List ℕ
rounds_from run ops reader round [] = []
rounds_from run ops reader round (n ∷ counts) =
    reader_line reader round n ++ answers_at run ops n
    ++ rounds_from run ops reader (round + 1) counts

-- the rounds of the readers from number `reader` on
unfoldable pub readers_from : Run → List Op → ℕ → List (List ℕ) → List ℕ
readers_from run ops reader [] = []
readers_from run ops reader (counts ∷ rounds) =
    rounds_from run ops reader 1 counts ++ readers_from run ops (reader + 1) rounds

unfoldable pub final_line : ℕ → List ℕ
final_line loaded = codes "final at " ++ decimal loaded ++ codes "\n"

-- the operation that ran out of space, if any
unfoldable pub full_line : Option ℕ → List ℕ
full_line None = []
full_line (Some operation) = codes "full at operation " ++ decimal operation ++ codes "\n"

unfoldable pub done_line : ℕ → ℕ → List ℕ
done_line loaded skipped =
    codes "done " ++ decimal loaded ++ codes " operations " ++ decimal skipped ++ codes " skipped\n"

-- the report of a run with this progress, and of the operation that ran out of space, if any
unfoldable pub report : Run → List Op → Progress → Option ℕ → List ℕ
report run ops progress full =
    readers_from run ops 1 progress.rounds
    ++ final_line progress.loaded ++ answers_at run ops progress.loaded
    ++ full_line full
    ++ done_line progress.loaded (skipped_at run ops progress.loaded)

-- ---- the summary of made operations

unfoldable pub made_line : Make → List ℕ
made_line make = codes "made " ++ decimal make.count ++ codes " seed " ++ decimal make.seed ++ codes "\n"

unfoldable pub documents_line : ℕ → ℕ → List ℕ
documents_line loaded count =
    codes "final at " ++ decimal loaded ++ codes " documents " ++ decimal count ++ codes "\n"

unfoldable pub count_line : ℕ → ℕ → List ℕ
count_line number count = decimal number ++ codes ": " ++ decimal count ++ codes "\n"

-- the number of documents of each answer, numbered from `number` on
unfoldable pub counts_from : ℕ → List AskTree → Table → List ℕ
counts_from number [] table = []
counts_from number (ask ∷ asks) table =
    count_line number (documents_in (answer_on ask table)) ++ counts_from (number + 1) asks table

-- the summary of a run with this progress; it has no rounds
unfoldable pub summary : Make → Run → List Op → Progress → Option ℕ → List ℕ
summary make run ops progress full =
    made_line make
    ++ documents_line progress.loaded (length (table_after run ops progress.loaded))
    ++ counts_from 1 run.asks (table_after run ops progress.loaded)
    ++ full_line full
    ++ done_line progress.loaded (skipped_at run ops progress.loaded)

-- ---- what is written

-- the first attribute of a table, saved
abbrev pub saved_text : List Field → Table → ℕ → List ℕ
saved_text [] table operations = []
saved_text (field ∷ fields) table operations = saved_bytes (save_of field.kind field.value operations table)

-- the report, or the summary if the operations were made
abbrev pub told_by : Option Make → Run → List Op → Progress → Option ℕ → List ℕ
told_by None run ops progress full = report run ops progress full
told_by (Some make) run ops progress full = summary make run ops progress full

-- the same, or instead the table after this many operations
abbrev pub saved_or_told : Option ℕ → Run → List Op → Progress → Option ℕ → List ℕ
saved_or_told None run ops progress full = told_by run.make run ops progress full
saved_or_told (Some n) run ops progress full = saved_text run.fields (table_after run ops n) n

-- what a run with this progress writes
unfoldable pub written : Run → List Op → Progress → Option ℕ → List ℕ
written run ops progress full = saved_or_told progress.saved run ops progress full
