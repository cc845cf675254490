-- A run of the engine is what its answer says.
use Rattle.std.proofs.Common.{◌≡◌, ◌+◌, ◌*◌, ◌≤◌, ◌<◌, refl, sym, subst, ℕ, List, length, Option, Some, None, true, false, IfSome, Ok, arith}
use Rattle.std.proofs.lemmas.Bool.Decides.{nat_tests}
use Rattle.std.proofs.Common.{◌∙◌}
use Rattle.atomic_table.specs.declared.badge.Badge.{Badge}
use Rattle.word_arena.specs.declared.rule.Watched.{Watched}
use Rattle.std.proofs.Math.Nat.{mul-le-mul}
use Rattle.clap.specs.Walk.{Text}
use Rattle.attr_io.specs.Bytes.{OfBytes}
use Rattle.attr_types.specs.declared.op.Op.{Op}
use Rattle.command_line.specs.Settings.{are_too_many}
use Rattle.attr_engine.specs.FullStore.{NoRoom, IsJustified}
use Rattle.attr_report.specs.Run.{Run, Progress}
use Rattle.attr_report.specs.Report.{written}
use Rattle.attr_report.specs.History.{IsLoaded}
use Rattle.attr_report.proofs.HistoryLemmas.{histories_are_legal}
use Rattle.attr_engine.specs.FullWriter.{IsFullAtEnd}
use Rattle.attr_engine.specs.Memory.{AreOfMemory}
use Rattle.attr_engine.specs.Run.{IsRunOf, full_of, progress_of}
use Rattle.attr_engine.specs.declared.written.Written.{Written}
use Rattle.attr_run.specs.Answers.{EndsRun, IsRunUntil, IsFullRun, IsFullRunOf, IsRunOfMemory, IsDue, IsProper}
use Rattle.attr_run.specs.Run.{asked, fed}
use Rattle.attr_run.specs.Steps.{ended_status}
use Rattle.attr_run.specs.declared.outcome.Outcome.{Outcome}
use Rattle.attr_run.specs.declared.outcome.Status.{Status}
use Rattle.attr_run.specs.declared.outcome.Status.TheVariants.{Done, Full}
use Rattle.attr_run.proofs.TaskLemmas.{of-run}

-- ---- how far it came

abbrev so_far : ℕ → List (List ℕ) → Option ℕ → Progress
so_far loaded rounds saved = record { loaded = loaded; rounds = rounds; saved = saved }

until : (run : Run) (ops : List Op) (w : Written) (full : Option NoRoom) → IsRunOf run ops w → w.full ≡ full
    → IsRunUntil (progress_of w) (full_of full) w.text.items run ops
until run ops w full is at = record {
  all_loaded = subst (λ (f : Option NoRoom). IsLoaded run (length ops) w.loaded (full_of f)) at is.is_loaded;
  in_rounds = is.in_rounds;
  afterwards = is.afterwards;
  in_save = is.in_save;
  legal = histories_are_legal run ops (progress_of w) is.in_rounds;
  is_written = subst (λ (f : Option NoRoom). w.text.items ≡ written run ops (progress_of w) (full_of f)) at is.is_written;
}

-- its text is due at its answer
due-by : (words : List Text) (left : Option (List ℕ)) (before now : ℕ) (run : Run) (ops : List Op) (w : Written) (full : Option NoRoom)
    → 8 ≤ run.buffers → asked words ≡ Ok run → OfBytes left (λ bytes. fed run bytes ≡ Ok ops) → IsRunOf run ops w → w.full ≡ full
    → IsDue words left before now (ended_status full) (progress_of w) w.text.items
due-by words left before now run ops w None many asks feeds is at =
    of-run words left run ops (IsRunUntil (progress_of w) None w.text.items) asks feeds (until run ops w None is at)
due-by words left before now run ops w (Some room) many asks feeds is at =
    of-run words left run ops (IsFullRun (progress_of w) room.operation room.active room.held w.text.items) asks feeds (record {
      until = until run ops w (Some room) is at;
      room = subst (λ (f : Option NoRoom). IfSome f (λ r. r.active + r.held ≡ run.buffers)) at is.room;
      owed = (subst (λ (f : Option NoRoom). IfSome f (IsJustified run ops w.loaded)) at is.justified).owed;
      large = λ small. (subst (λ (f : Option NoRoom). IfSome f (IsJustified run ops w.loaded)) at is.justified).large small.0 many small.1;
      quiet = (subst (λ (f : Option NoRoom). IfSome f (IsJustified run ops w.loaded)) at is.justified).quiet;
    })

pub due-of : (words : List Text) (left : Option (List ℕ)) (before now : ℕ) (run : Run) (ops : List Op) (w : Written)
    → 8 ≤ run.buffers → asked words ≡ Ok run → OfBytes left (λ bytes. fed run bytes ≡ Ok ops) → IsRunOf run ops w
    → IsDue words left before now (ended_status w.full) (progress_of w) w.text.items
due-of words left before now run ops w many asks feeds is = due-by words left before now run ops w w.full many asks feeds is refl

-- the same of an answer with these parts
pub answered : (words : List Text) (left : Option (List ℕ)) (before now : ℕ) (run : Run) (ops : List Op) (w : Written)
    (status : Status) (loaded : ℕ) (rounds : List (List ℕ)) (saved : Option ℕ) (text : List ℕ)
    → status ≡ ended_status w.full → loaded ≡ w.loaded → rounds ≡ w.rounds → saved ≡ w.saved → text ≡ w.text.items
    → 8 ≤ run.buffers → asked words ≡ Ok run → OfBytes left (λ bytes. fed run bytes ≡ Ok ops) → IsRunOf run ops w
    → IsDue words left before now status (record { loaded = loaded; rounds = rounds; saved = saved }) text
answered words left before now run ops w status loaded rounds saved text st l r s t many asks feeds is =
    let same : progress_of w ≡ so_far loaded rounds saved = λ i. record { loaded = sym l i; rounds = sym r i; saved = sym s i } in
    subst (λ (x : Status). IsDue words left before now x (so_far loaded rounds saved) text) (sym st)
    (subst (λ (p : Progress). IsDue words left before now (ended_status w.full) p text) same
    (subst (λ (x : List ℕ). IsDue words left before now (ended_status w.full) (progress_of w) x) (sym t) (due-of words left before now run ops w many asks feeds is)))

-- it ran out of space only where it was refused
refused-by : (run : Run) (ops : List Op) (loaded operation active held : ℕ) (seat : Badge Watched) (full : Option NoRoom) → ended_status full ≡ Full operation active held
    → IfSome full (IsFullAtEnd run ops loaded seat) → IsFullAtEnd run ops loaded seat (record { operation = operation; active = active; held = held })
refused-by run ops loaded operation active held seat None is at = absurd (let e : Done ≡ Full operation active held = is in cc)
refused-by run ops loaded operation active held seat (Some room) is at =
    let e : Full room.operation room.active room.held ≡ Full operation active held = is in
    let a : room.operation ≡ operation = cc e in
    let b : room.active ≡ active = cc e in
    let d : room.held ≡ held = cc e in
    subst (IsFullAtEnd run ops loaded seat) (λ i. record { operation = a i; active = b i; held = d i }) at

pub refused-of : (words : List Text) (left : Option (List ℕ)) (run : Run) (ops : List Op) (w : Written) (outcome : Outcome)
    → outcome.status ≡ ended_status w.full → outcome.loaded ≡ w.loaded → outcome.writer ≡ w.writer
    → asked words ≡ Ok run → OfBytes left (λ bytes. fed run bytes ≡ Ok ops) → IsRunOf run ops w → IsFullRunOf words left outcome
refused-of words left run ops w outcome status loaded writer asks feeds is = λ operation active held is_full.
    of-run words left run ops (λ r o. IsFullAtEnd r o outcome.loaded outcome.writer (record { operation = operation; active = active; held = held })) asks feeds
    (subst (λ k. IsFullAtEnd run ops k outcome.writer (record { operation = operation; active = active; held = held })) (sym loaded)
    (subst (λ (seat : Badge Watched). IsFullAtEnd run ops w.loaded seat (record { operation = operation; active = active; held = held })) (sym writer)
    (refused-by run ops w.loaded operation active held w.writer w.full (sym status ∙ is_full) is.full_at_end)))

-- its rounds are those of its memory
pub memory-of : (words : List Text) (left : Option (List ℕ)) (run : Run) (ops : List Op) (w : Written) (outcome : Outcome) → outcome.loaded ≡ w.loaded → outcome.rounds ≡ w.rounds → outcome.writer ≡ w.writer
    → asked words ≡ Ok run → OfBytes left (λ bytes. fed run bytes ≡ Ok ops) → IsRunOf run ops w → IsRunOfMemory words left outcome
memory-of words left run ops w outcome loaded rounds writer asks feeds is = λ full ends.
    of-run words left run ops (λ r o. AreOfMemory r o outcome.loaded outcome.writer outcome.rounds) asks feeds
    (subst (λ k. AreOfMemory run ops k outcome.writer outcome.rounds) (sym loaded)
    (subst (λ (list : List (List ℕ)). AreOfMemory run ops w.loaded outcome.writer list) (sym rounds)
    (subst (λ (seat : Badge Watched). AreOfMemory run ops w.loaded seat w.rounds) (sym writer) is.of_memory)))

proper-by : (full : Option NoRoom) → IsProper (ended_status full)
proper-by None = tt
proper-by (Some room) = tt

pub proper-of : (status : Status) (full : Option NoRoom) → status ≡ ended_status full → IsProper status
proper-of status full is = subst IsProper (sym is) (proper-by full)

-- ---- the size of its store

pub wide-fits : (buffers words : ℕ) → are_too_many true buffers words ≡ false → buffers * words ≤ 67108864
wide-fits buffers words room = grind (arith, nat_tests)

pub narrow-few : (buffers words : ℕ) → are_too_many false buffers words ≡ false → buffers < 1024
narrow-few buffers words room = grind (arith, nat_tests)

pub narrow-fits : (buffers words : ℕ) → are_too_many false buffers words ≡ false → words ≤ 65536 → buffers * words ≤ 67108864
narrow-fits buffers words room few =
    let most : buffers ≤ 1023 = grind (arith, nat_tests) in
    let product : buffers * words ≤ 1023 * 65536 = mul-le-mul most few in omega (arith, product)
