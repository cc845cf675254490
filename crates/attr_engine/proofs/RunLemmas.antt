-- Rounds of commits are rounds of the plain table, and the rounds of a run are what its report tells.
use Rattle.std.proofs.Common.{◌≡◌, ◌≤◌, ◌+◌, ℕ, List, [], ◌∷◌, length, map, Some, inl, inr, refl, sym, ap, ap₂, subst, ◌∙◌, arith}
use Rattle.std.specs.Prelude.{Bool, true, false, if◌then◌else◌, is_some, Option, None, IfSome, Vec}
use Rattle.std.specs.Global.{Global}
use Rattle.std.proofs.lemmas.Option.{slice_get_within}
use Rattle.entry_ref.specs.declared.images.Image.{Image}
use Rattle.entry_ref.specs.Images.{no_image, words_at}
use Rattle.entry_ref.specs.Records.{Records}
use Rattle.atomic_table.specs.declared.badge.Badge.{Badge}
use Rattle.word_arena.specs.declared.rule.Watched.{Watched}
use Rattle.gen_core.specs.declared.views.WriterView.{WriterView}
use Rattle.gen_core.specs.Views.{last_number}
use Rattle.image_format.specs.Images.{table_of}
use Rattle.image_format.specs.Shapes.{shape_of, types_of}
use Rattle.attr_types.specs.Scores.{AskTree}
use Rattle.std.specs.List.{AllByRecursion}
use Rattle.list_lemmas.proofs.Each.{AllByRecursion-weaker}
use Rattle.attr_types.specs.Table.{Table, after}
use Rattle.attr_types.specs.declared.op.Op.{Op}
use Rattle.attr_loader.specs.Loading.{AreCommits, EndsAt, commit_point}
use Rattle.attr_loader.specs.Room.{load_of}
use Rattle.attr_loader.specs.declared.loaded.Loaded.{Loaded}
use Rattle.attr_loader.specs.declared.loaded.NoRoom.{NoRoom}
use Rattle.attr_rounds.specs.Rounds.{IsOfCommit}
use Rattle.attr_rounds.specs.declared.rounds.Round.{Round}
use Rattle.attr_rounds.specs.declared.asked.Told.{Told}
use Rattle.attr_rounds.specs.Lines.{TellsTable}
use Rattle.attr_report.specs.Run.{Run, table_after}
use Rattle.attr_report.specs.History.{IsLoaded}
use Rattle.attr_loader.specs.Runs.{IsOwed, IsQuiet, IsSmall}
use Rattle.attr_engine.specs.FullStore.{load_in, readers_of, IsJustified}
use Rattle.attr_engine.specs.FullWriter.{IsFullAtEnd}
use Rattle.attr_engine.specs.Memory.{IsOfMemory}
use Rattle.attr_engine.specs.Run.{full_of}
use Rattle.attr_engine.specs.Rounds.{IsRoundAt, AreRoundsAt, commits_of, IsRunResult, IsSaveOf, seen_before}
use Rattle.attr_engine.specs.declared.run_result.Save.{Save}
use Rattle.attr_engine.specs.Saver.{one_if, save_parts}
use Rattle.attr_engine.specs.Steps.{KeepsWriter, parts, AreRoundsOf, IsLastAnswer, LoadsInto}
use Rattle.attr_engine.specs.Rounds.{operations_of, tells_of}
use Rattle.attr_engine.proofs.ReaderLemmas.{AllOf}

-- what is answered at an image, by its table
abbrev pub over_table : {A : Type 0} → (Table → A → Type 0) → ℕ → Records → ℕ → A → Type 0
over_table Answers shape m root answer = Answers (table_of shape m root) answer

module _ (run : Run) (ops : List Op) (last : ℕ) (commits : List Image) (are : AreCommits run.fields run.batch ops last commits) (count : length commits ≡ last + 1)
    (shape : ℕ) (shape_is : shape ≡ shape_of (types_of run.fields)) where
  pub round_at : (round : Round Told) → IsOfCommit operations_of (tells_of (is_some run.make) run.asks) shape commits round → IsRoundAt run ops last round
  round_at round of =
      let at = are.each round.commit of.image of.there in
      let n : round.operations ≡ commit_point run.batch (length ops) round.commit = of.is.count ∙ at.operations in
      let table_is : table_of shape (words_at of.image) of.image.root ≡ table_after run ops round.operations =
      ap (λ s. table_of s (words_at of.image) of.image.root) shape_is ∙ at.table ∙ ap (λ k. after run.fields ops k) (sym n) in
      record {
        commit = (let within = slice_get_within commits round.commit of.image of.there in omega (arith, within, count));
        point = n;
        tells = subst (λ table. TellsTable (is_some run.make) run.asks table round.answer) table_is of.is.answer;
      }

  pub rounds_at : (seen : ℕ) (rounds : List (Round Told)) → AreRoundsOf (is_some run.make) run.asks shape seen run.rounds commits rounds → AreRoundsAt run ops seen last rounds
  rounds_at seen rounds taken = record {
    made = taken.made;
    each = λ k d below. round_at _ (taken.each k d below);
    forward = taken.forward;
    guarded = taken.guarded;
  }

  -- a round of the last commit answers from the table of all that was loaded
  pub last_at : {A : Type 0} (Answers : Table → A → Type 0) (loaded : ℕ) → loaded ≡ commit_point run.batch (length ops) last → (round : Round A)
      → IsOfCommit operations_of (over_table Answers) shape commits round → last ≤ round.commit → Answers (table_after run ops loaded) round.answer
  last_at Answers loaded point round of later =
      let within = slice_get_within commits round.commit of.image of.there in
      let same : round.commit ≡ last = omega (arith, within, count, later) in
      let here : commit_point run.batch (length ops) round.commit ≡ loaded = ap (commit_point run.batch (length ops)) same ∙ sym point in
      let table_is : table_of shape (words_at of.image) of.image.root ≡ table_after run ops loaded =
      ap (λ s. table_of s (words_at of.image) of.image.root) shape_is ∙ (are.each round.commit of.image of.there).table ∙ ap (λ k. after run.fields ops k) here in
      subst (λ (table : Table). Answers table round.answer) table_is of.is.answer

-- those of the readers that a run has: after the loading or beside it
pub chosen_rounds : {C : Type 0} (P : ℕ → C → Type 0) (last readers : ℕ) (b : Bool) (first later chosen : List C) → chosen ≡ (if b then later else first)
    → AllOf (P 0) (parts b readers).0 first → AllOf (P last) (parts b readers).1 later → AllOf (P (seen_before b last)) readers chosen
chosen_rounds P last readers true first later chosen is one two = subst (AllOf (P last) readers) (sym is) two
chosen_rounds P last readers false first later chosen is one two = subst (AllOf (P 0) readers) (sym is) one

each_at : {C : Type 0} (P Q : C → Type 0) (n : ℕ) (xs : List C) → ((c : C) → P c → Q c) → AllOf P n xs → AllOf Q n xs
each_at P Q n xs step all = record { each = AllByRecursion-weaker P Q step xs all.each; count = all.count }

ended : (run : Run) (total loaded : ℕ) (full : Option NoRoom) → EndsAt run.batch total run.buffers loaded full → IsLoaded run total loaded (full_of full) × IfSome full (λ r. r.active + r.held ≡ run.buffers)
ended run total loaded None ends = (ends, tt)
ended run total loaded (Some room) ends = ((ends.0, ends.1, ends.2), ends.3)

-- no reader runs beside the loading, and no saver
alone : (run : Run) → IsQuiet (readers_of run) → (parts run.after run.readers).0 + one_if (save_parts run.after run.save).0 ≡ 0
alone run quiet = elim quiet [
  | inl after ↦ ap (λ b. (parts b run.readers).0 + one_if (save_parts b run.save).0) after
  | inr few ↦ none_beside run.after run.readers run.save few.0 few.1
]
  where
    none_beside : (b : Bool) (readers : ℕ) (save : Bool) → readers ≡ 0 → save ≡ false → (parts b readers).0 + one_if (save_parts b save).0 ≡ 0
    none_beside true readers save few unsaved = refl
    none_beside false readers save few unsaved = ap₂ (λ n s. n + one_if s) few unsaved

justified_by : (run : Run) (ops : List Op) (loaded : ℕ) (full : Option NoRoom)
    → (run.dense ≡ false → length run.fields ≡ 1 → IfSome full (λ f. IsOwed (load_in run ops) f.operation loaded)) → (IsQuiet (readers_of run) → IfSome full (λ f. f.held ≡ 0))
    → (length run.fields ≡ 1 → 8 ≤ run.buffers → IsSmall (load_in run ops) → full ≡ None) → IfSome full (IsJustified run ops loaded)
justified_by run ops loaded None owed quiet small = tt
justified_by run ops loaded (Some full) owed quiet small = record { owed = owed; large = λ one many is. absurd (let e : Some full ≡ None = small one many is in cc); quiet = quiet }

-- what a run came to, by the writer before and after the loading
module _ (run : Run) (ops : List Op) (w v : WriterView) (loaded : Loaded) (loads : LoadsInto run.fields run.dense run.batch ops w v loaded)
    (buffers : w.sizes.buffers ≡ run.buffers) (words : w.sizes.words ≡ run.words)
    (made : v.made ≡ (parts run.after run.readers).0 + one_if (save_parts run.after run.save).0) (shape : w.sizes.shape ≡ shape_of (types_of run.fields)) (none : w.commits ≡ no_image ∷ []) where
  abbrev counted : Bool
  counted = is_some run.make

  abbrev pub TakenAt : ℕ → Vec (Round Told) Global → Type 0
  TakenAt seen rounds = AreRoundsOf counted run.asks v.sizes.shape seen run.rounds v.commits rounds.items

  abbrev At : ℕ → Vec (Round Told) Global → Type 0
  At seen rounds = AreRoundsAt run ops seen loads.last rounds.items

  at : (seen : ℕ) (rounds : Vec (Round Told) Global) → TakenAt seen rounds → At seen rounds
  at seen rounds taken = rounds_at run ops loads.last v.commits loads.commits loads.count v.sizes.shape (loads.shape_is ∙ shape) seen rounds.items taken

  -- what is answered last is of the table of all that was loaded
  answers_last : {A : Type 0} (Answers : Table → A → Type 0) (answer : A) → IsLastAnswer operations_of (over_table Answers) v answer → Answers (table_after run ops loaded.operations) answer
  answers_last Answers answer is =
      let count = loads.count in
      let later = is.later in
      let final : loads.last ≤ is.round.commit = omega (arith, count, later) in
      subst (Answers (table_after run ops loaded.operations)) (sym is.is)
      (last_at run ops loads.last v.commits loads.commits loads.count v.sizes.shape (loads.shape_is ∙ shape) Answers loaded.operations loads.point is.round is.of_commit final)

  pub run_result_of : (first later : List (Vec (Round Told) Global)) (rounds : Vec (Vec (Round Told) Global) Global) (last : Told) (saved : Option Save) (writer : Badge Watched)
      → rounds.items ≡ (if run.after then later else first)
      → AllOf (TakenAt (last_number w.commits)) (parts run.after run.readers).0 first → AllOf (TakenAt (last_number v.commits)) (parts run.after run.readers).1 later
      → IsLastAnswer operations_of (tells_of counted run.asks) v last → is_some saved ≡ run.save → IfSome saved (IsSaveOf run ops loaded.operations)
      → IfSome loaded.full (IsFullAtEnd run ops loaded.operations writer)
      → (length rounds.items ≡ run.readers → IsOfMemory run ops loads.last writer (map (λ r. commits_of r.items) rounds.items))
      → IsRunResult run ops (record { loaded = loaded; rounds = rounds; last = last; saved = saved; writer = writer })
  run_result_of first later rounds last saved writer is one two told asked saves full memory =
      let count = loads.count in
      let zero : last_number w.commits ≡ 0 = ap last_number none in
      let final : last_number v.commits ≡ loads.last = omega (arith, count) in
      let ends = ended run (length ops) loaded.operations loaded.full (subst (λ n. EndsAt run.batch (length ops) n loaded.operations loaded.full) buffers loads.ends) in
      let early = each_at (TakenAt 0) (At 0) _ first (at 0) (subst (λ n. AllOf (TakenAt n) (parts run.after run.readers).0 first) zero one) in
      let late = each_at (TakenAt loads.last) (At loads.last) _ later (at loads.last) (subst (λ n. AllOf (TakenAt n) (parts run.after run.readers).1 later) final two) in
      let all = chosen_rounds At loads.last run.readers run.after first later rounds.items is early late in
      record {
        last = loads.last;
        is_loaded = ends.0;
        point = loads.point;
        skips = loads.skips;
        room = ends.1;
        justified = justified_by run ops loaded.operations loaded.full
            (λ off one. subst (λ n. IfSome loaded.full (λ (f : NoRoom). IsOwed (load_of run.buffers n run.fields run.batch ops) f.operation loaded.operations)) words
            (subst (λ n. IfSome loaded.full (λ (f : NoRoom). IsOwed (load_of n w.sizes.words run.fields run.batch ops) f.operation loaded.operations)) buffers (loads.owed off one)))
            (λ quiet. loads.unheld (made ∙ alone run quiet))
            (λ one many is. loads.small one (subst (λ n. 8 ≤ n) (sym buffers) many)
            (subst (λ n. IsSmall (load_of n w.sizes.words run.fields run.batch ops)) (sym buffers) (subst (λ n. IsSmall (load_of run.buffers n run.fields run.batch ops)) (sym words) is)));
        full = full;
        readers = all.count;
        rounds = all.each;
        memory = memory all.count;
        tells = answers_last (TellsTable counted run.asks) last told;
        asked = asked;
        saved = saves;
      }

-- what is asked, under its other names
module _ (counted counted' : Bool) (asks asks' : List AskTree) (flag : counted ≡ counted') (trees : asks ≡ asks') where
  pub asked_as : (shape seen count : ℕ) (commits : List Image) (rounds : List (Vec (Round Told) Global)) → AllByRecursion (λ r. AreRoundsOf counted asks shape seen count commits r.items) rounds
      → AllByRecursion (λ r. AreRoundsOf counted' asks' shape seen count commits r.items) rounds
  asked_as shape seen count commits rounds all =
      subst (λ b. AllByRecursion (λ r. AreRoundsOf b asks' shape seen count commits r.items) rounds) flag
      (subst (λ (ts : List AskTree). AllByRecursion (λ r. AreRoundsOf counted ts shape seen count commits r.items) rounds) trees all)

  pub last_as : (w : WriterView) (told : Told) → IsLastAnswer operations_of (tells_of counted asks) w told → IsLastAnswer operations_of (tells_of counted' asks') w told
  last_as w told is =
      subst (λ b. IsLastAnswer operations_of (tells_of b asks') w told) flag (subst (λ (ts : List AskTree). IsLastAnswer operations_of (tells_of counted ts) w told) trees is)

-- what the last commit answers, of a writer with the same commits
pub last_on : {A : Type 0} (operations : ℕ → Records → ℕ → ℕ) (answers : ℕ → Records → ℕ → A → Type 0) (v x : WriterView) (answer : A) → KeepsWriter v x
    → IsLastAnswer operations answers x answer → IsLastAnswer operations answers v answer
last_on operations answers v x answer keeps is =
    let moved = subst (λ (y : WriterView). IsLastAnswer operations answers y answer) keeps is in
    record { round = moved.round; is = moved.is; of_commit = moved.of_commit; later = moved.later }

-- each reader runs beside the loading or after it
pub all_parts : (b : Bool) (readers : ℕ) → (parts b readers).0 + (parts b readers).1 ≡ readers
all_parts true readers = omega arith
all_parts false readers = omega arith
