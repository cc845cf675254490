-- What is written of a run is what its report's statement wants.
use Rattle.std.proofs.Common.{◌≡◌, ◌∙◌, refl, sym, ap, ap₂, subst, ℕ, ◌+◌, List, [], ◌∷◌, ◌++◌, append_assoc, map, length, string_bytes}
use Rattle.std.specs.Prelude.{true, false, Option, Some, None, is_some, All, Vec, IfSome}
use Rattle.std.specs.Global.{Global}
use Rattle.std.specs.List.{AllByRecursion}
use Rattle.attr_types.specs.Scores.{AskTree, answer_on, documents_in}
use Rattle.attr_types.specs.Table.{Table}
use Rattle.attr_types.specs.declared.op.Op.{Op}
use Rattle.attr_rounds.specs.declared.rounds.Round.{Round}
use Rattle.attr_rounds.specs.declared.asked.Told.{Told}
use Rattle.attr_rounds.specs.Lines.{TellsTable, lines_from}
use Rattle.attr_report.specs.Run.{Run, Progress, table_after}
use Rattle.attr_report.specs.Report.{answer_line, answers_from, answers_at, count_line, counts_from, reader_line, rounds_from, readers_from, final_line, full_line}
use Rattle.attr_report.specs.Report.{done_line, report, made_line, documents_line, summary, told_by, written, saved_text}
use Rattle.attr_report.specs.declared.request.Make.{Make}
use Rattle.attr_engine.specs.declared.run_result.RunResult.{RunResult}
use Rattle.attr_engine.specs.declared.run_result.Save.{Save}
use Rattle.atomic_table.specs.declared.badge.Badge.{Badge}
use Rattle.word_arena.specs.declared.rule.Watched.{Watched}
use Rattle.attr_engine.specs.FullWriter.{IsFullAtEnd}
use Rattle.attr_engine.specs.Run.{full_of, progress_of, IsRunOf}
use Rattle.attr_engine.specs.declared.written.Written.{Written}
use Rattle.attr_engine.proofs.MemoryLemmas.{are_of_memory}
use Rattle.attr_engine.proofs.ReaderLemmas.{all_first, all_rest}
use Rattle.attr_engine.proofs.HistoryLemmas.{in_rounds, afterwards}
use Rattle.attr_loader.specs.declared.loaded.NoRoom.{NoRoom}
use Rattle.attr_engine.specs.FullStore.{IsJustified}
use Rattle.attr_report.specs.History.{IsLoaded, IsRounds, IsAfterwards, IsSaved}
use Rattle.attr_engine.specs.Rounds.{IsRoundAt, AreRoundsAt, IsRunResult, IsSaveOf, seen_before, progress_at}
use Rattle.attr_engine.specs.Writing.{round_text, rounds_text, readers_text, report_text, summary_text, text_of, operations_of_rounds, IsWrittenOf, IsSavedOf}

-- ---- one after another

pub rounds_text-next : (front : List ℕ) (reader number : ℕ) (round : Round Told) (rounds : List (Round Told)) (text : List ℕ) → text ≡ front ++ round_text reader number round
    → text ++ rounds_text reader (number + 1) rounds ≡ front ++ rounds_text reader number (round ∷ rounds)
rounds_text-next front reader number round rounds text written =
    ap (λ t. t ++ rounds_text reader (number + 1) rounds) written ∙ append_assoc front (round_text reader number round) (rounds_text reader (number + 1) rounds)

pub readers_text-next : (front : List ℕ) (reader : ℕ) (made : Vec (Round Told) Global) (others : List (Vec (Round Told) Global)) (text : List ℕ)
    → text ≡ front ++ rounds_text reader 1 made.items → text ++ readers_text (reader + 1) others ≡ front ++ readers_text reader (made ∷ others)
readers_text-next front reader made others text written =
    ap (λ t. t ++ readers_text (reader + 1) others) written ∙ append_assoc front (rounds_text reader 1 made.items) (readers_text (reader + 1) others)

-- ---- the lines that are told

lines-answers : (number : ℕ) (asks : List AskTree) (table : Table) → lines_from false number asks table ≡ answers_from number asks table
unfolding answers_from
lines-answers number [] table = refl
lines-answers number (ask ∷ asks) table = ap (λ t. answer_line number (answer_on ask table) ++ t) (lines-answers (number + 1) asks table)

lines-counts : (number : ℕ) (asks : List AskTree) (table : Table) → lines_from true number asks table ≡ counts_from number asks table
unfolding counts_from
lines-counts number [] table = refl
lines-counts number (ask ∷ asks) table = ap (λ t. count_line number (documents_in (answer_on ask table)) ++ t) (lines-counts (number + 1) asks table)

told_lines : (run : Run) (ops : List Op) (n : ℕ) (told : Told) → run.make ≡ None → TellsTable (is_some run.make) run.asks (table_after run ops n) told
    → string_bytes told.lines ≡ answers_at run ops n
unfolding answers_at
told_lines run ops n told none tells =
    tells.lines ∙ ap (λ (m : Option Make). lines_from (is_some m) 1 run.asks (table_after run ops n)) none ∙ lines-answers 1 run.asks (table_after run ops n)

told_counts : (run : Run) (table : Table) (make : Make) (told : Told) → run.make ≡ Some make → TellsTable (is_some run.make) run.asks table told
    → string_bytes told.lines ≡ counts_from 1 run.asks table
told_counts run table make told some tells =
    tells.lines ∙ ap (λ (m : Option Make). lines_from (is_some m) 1 run.asks table) some ∙ lines-counts 1 run.asks table

-- ---- the rounds

module _ (run : Run) (ops : List Op) (none : run.make ≡ None) where
  rounds-told : (last reader number : ℕ) (rounds : List (Round Told)) → All (IsRoundAt run ops last) rounds
      → rounds_text reader number rounds ≡ rounds_from run ops reader number (operations_of_rounds rounds)
  unfolding rounds_from
  rounds-told last reader number [] all = refl
  rounds-told last reader number (round ∷ rounds) all =
      ap₂ (λ (a b : List ℕ). reader_line reader number round.operations ++ a ++ b)
      (told_lines run ops round.operations round.answer none (all_first (IsRoundAt run ops last) round rounds all).tells)
      (rounds-told last reader (number + 1) rounds (all_rest (IsRoundAt run ops last) round rounds all))

  readers-told : (seen last reader : ℕ) (all_rounds : List (Vec (Round Told) Global)) → AllByRecursion (λ r. AreRoundsAt run ops seen last r.items) all_rounds
      → readers_text reader all_rounds ≡ readers_from run ops reader (map (λ r. operations_of_rounds r.items) all_rounds)
  unfolding readers_from
  readers-told seen last reader [] all = refl
  readers-told seen last reader (made ∷ others) all =
      ap₂ (λ (a b : List ℕ). a ++ b) (rounds-told last reader 1 made.items all.0.each)
      (readers-told seen last (reader + 1) others all.1)

-- ---- the whole

-- the end of a text, after what stands before it
ends : (front full done : List ℕ) → front ++ (full ++ done) ≡ front ++ full ++ done
ends front full done = sym (append_assoc front full done)

report-told : (run : Run) (ops : List Op) (run_result : RunResult) → IsRunResult run ops run_result → run.make ≡ None
    → report_text run_result ≡ report run ops (progress_at run_result None) (full_of run_result.loaded.full)
unfolding report
report-told run ops run_result is none =
    let loaded = run_result.loaded.operations in
    let full = full_line (full_of run_result.loaded.full) in
    ends (readers_text 1 run_result.rounds.items ++ final_line loaded ++ string_bytes run_result.last.lines) full (done_line loaded run_result.loaded.skipped)
    ∙ ap₂ (λ (a b : List ℕ). a ++ final_line loaded ++ b ++ full ++ done_line loaded run_result.loaded.skipped)
    (readers-told run ops none (seen_before run.after is.last) is.last 1 run_result.rounds.items is.rounds) (told_lines run ops loaded run_result.last none is.tells)
    ∙ ap (λ k. readers_from run ops 1 (map (λ r. operations_of_rounds r.items) run_result.rounds.items) ++ final_line loaded ++ answers_at run ops loaded ++ full ++ done_line loaded k) is.skips

summary-told : (run : Run) (ops : List Op) (run_result : RunResult) (make : Make) → IsRunResult run ops run_result → run.make ≡ Some make
    → summary_text make run_result ≡ summary make run ops (progress_at run_result None) (full_of run_result.loaded.full)
unfolding summary
summary-told run ops run_result make is some =
    let loaded = run_result.loaded.operations in
    let full = full_line (full_of run_result.loaded.full) in
    let table = table_after run ops loaded in
    ends (made_line make ++ documents_line loaded run_result.last.documents ++ string_bytes run_result.last.lines) full (done_line loaded run_result.loaded.skipped)
    ∙ ap₂ (λ (n : ℕ) (b : List ℕ). made_line make ++ documents_line loaded n ++ b ++ full ++ done_line loaded run_result.loaded.skipped)
    is.tells.documents (told_counts run table make run_result.last some is.tells)
    ∙ ap (λ k. made_line make ++ documents_line loaded (length table) ++ counts_from 1 run.asks table ++ full ++ done_line loaded k) is.skips

told-by : (run : Run) (ops : List Op) (run_result : RunResult) (make : Option Make) → IsRunResult run ops run_result → run.make ≡ make
    → text_of make run_result ≡ told_by make run ops (progress_at run_result None) (full_of run_result.loaded.full)
told-by run ops run_result None is none = report-told run ops run_result is none
told-by run ops run_result (Some make) is some = summary-told run ops run_result make is some

-- what is written of a run that saves no table
pub written-told : (run : Run) (ops : List Op) (run_result : RunResult) → IsRunResult run ops run_result
    → text_of run.make run_result ≡ written run ops (progress_at run_result None) (full_of run_result.loaded.full)
unfolding written
written-told run ops run_result is = told-by run ops run_result run.make is refl

end_on : (run : Run) (ops : List Op) (run_result : RunResult) (w : Written) → IsRunResult run ops run_result → w.loaded ≡ run_result.loaded.operations → w.full ≡ run_result.loaded.full
    → w.writer ≡ run_result.writer → IfSome w.full (IsFullAtEnd run ops w.loaded w.writer)
end_on run ops run_result w is loaded full writer =
    subst (λ (seat : Badge Watched). IfSome w.full (IsFullAtEnd run ops w.loaded seat)) (sym writer)
    (subst (λ k. IfSome w.full (IsFullAtEnd run ops k run_result.writer)) (sym loaded)
    (subst (λ (f : Option NoRoom). IfSome f (IsFullAtEnd run ops run_result.loaded.operations run_result.writer)) (sym full) is.full))

-- and so it is a run, where none was to be saved
pub run_of : (run : Run) (ops : List Op) (run_result : RunResult) (w : Written) → IsRunResult run ops run_result → run.save ≡ false → IsWrittenOf run.make run_result w → IsRunOf run ops w
run_of run ops run_result w is unsaved wrote =
    let same : progress_of w ≡ progress_at run_result None = λ i. record { loaded = wrote.loaded i; rounds = wrote.rounds i; saved = wrote.saved i } in
    record {
      is_loaded = subst (λ n. IsLoaded run (length ops) n (full_of w.full)) (sym wrote.loaded)
          (subst (λ (f : Option NoRoom). IsLoaded run (length ops) run_result.loaded.operations (full_of f)) (sym wrote.full) is.is_loaded);
      in_rounds = subst (IsRounds run (length ops)) (sym same) (in_rounds run ops run_result None is);
      afterwards = subst (IsAfterwards run) (sym same) (afterwards run ops run_result None is);
      in_save = subst (IsSaved run (length ops)) (sym same) (sym unsaved, tt);
      is_written = wrote.text ∙ written-told run ops run_result is ∙ ap₂ (λ (p : Progress) (f : Option ℕ). written run ops p f) (sym same) (ap full_of (sym wrote.full));
      room = subst (λ (f : Option NoRoom). IfSome f (λ r. r.active + r.held ≡ run.buffers)) (sym wrote.full) is.room;
      justified = subst (λ k. IfSome w.full (IsJustified run ops k)) (sym wrote.loaded)
          (subst (λ (f : Option NoRoom). IfSome f (IsJustified run ops run_result.loaded.operations)) (sym wrote.full) is.justified);
      full_at_end = end_on run ops run_result w is wrote.loaded wrote.full wrote.writer;
      of_memory = are_of_memory run ops (seen_before run.after is.last) is.last run_result.loaded.operations
          w.loaded run_result.writer w.writer run_result.rounds.items w.rounds is.rounds is.memory wrote.writer is.point wrote.loaded wrote.rounds;
    }

saved-written : (run : Run) (ops : List Op) (run_result : RunResult) (n : ℕ) (full : Option ℕ)
    → saved_text run.fields (table_after run ops n) n ≡ written run ops (progress_at run_result (Some n)) full
unfolding written
saved-written run ops run_result n full = refl

-- the same, where the table was saved
pub saved_run_of : (run : Run) (ops : List Op) (run_result : RunResult) (save : Save) (w : Written)
    → IsRunResult run ops run_result → run_result.saved ≡ Some save → IsSavedOf run_result save w → IsRunOf run ops w
saved_run_of run ops run_result save w is saves wrote =
    let n = save.operations in
    let at : Option ℕ = Some n in
    let same : progress_of w ≡ progress_at run_result at = λ i. record { loaded = wrote.loaded i; rounds = wrote.rounds i; saved = wrote.saved i } in
    let of : IsSaveOf run ops run_result.loaded.operations save = subst (λ (o : Option Save). IfSome o (IsSaveOf run ops run_result.loaded.operations)) saves is.saved in
    record {
      is_loaded = subst (λ k. IsLoaded run (length ops) k (full_of w.full)) (sym wrote.loaded)
          (subst (λ (f : Option NoRoom). IsLoaded run (length ops) run_result.loaded.operations (full_of f)) (sym wrote.full) is.is_loaded);
      in_rounds = subst (IsRounds run (length ops)) (sym same) (in_rounds run ops run_result at is);
      afterwards = subst (IsAfterwards run) (sym same) (afterwards run ops run_result at is);
      in_save = subst (IsSaved run (length ops)) (sym same) (ap is_some (sym saves) ∙ is.asked, of.at);
      is_written = ap (λ (b : Vec ℕ Global). b.items) wrote.text ∙ of.bytes ∙ saved-written run ops run_result n (full_of run_result.loaded.full)
          ∙ ap₂ (λ (p : Progress) (f : Option ℕ). written run ops p f) (sym same) (ap full_of (sym wrote.full));
      room = subst (λ (f : Option NoRoom). IfSome f (λ r. r.active + r.held ≡ run.buffers)) (sym wrote.full) is.room;
      justified = subst (λ k. IfSome w.full (IsJustified run ops k)) (sym wrote.loaded)
          (subst (λ (f : Option NoRoom). IfSome f (IsJustified run ops run_result.loaded.operations)) (sym wrote.full) is.justified);
      full_at_end = end_on run ops run_result w is wrote.loaded wrote.full wrote.writer;
      of_memory = are_of_memory run ops (seen_before run.after is.last) is.last run_result.loaded.operations
          w.loaded run_result.writer w.writer run_result.rounds.items w.rounds is.rounds is.memory wrote.writer is.point wrote.loaded wrote.rounds;
    }
