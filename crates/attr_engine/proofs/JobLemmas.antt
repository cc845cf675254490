-- The tasks of readers, what they give, and these taken in.
use Rattle.std.proofs.Common.{◌≡◌, ◌∙◌, slice_index_or, ℕ, List, length, map, sym, ap, subst}
use Rattle.std.specs.Prelude.{All, Result, Ok, Err, IfOk, IsOkAnd, Vec}
use Rattle.std.specs.Global.{Global}
use Rattle.std.specs.List.{AllByRecursion, AllZip}
use Rattle.std.specs.declared.alloc.AllocError.{AllocError}
use Rattle.list_lemmas.proofs.Each.{AllByRecursion-weaker}
use Rattle.atomic_table.specs.Seated.{TableId}
use Rattle.gen_core.specs.declared.views.Sizes.{Sizes}
use Rattle.gen_core.specs.declared.views.WriterView.{WriterView}
use Rattle.gen_core.specs.Views.{last_number}
use Rattle.gen_core.specs.declared.views.Event.{Event}
use Rattle.gen_core.specs.Reads.{reads_of}
use Rattle.word_arena.specs.Ruled.{reader_of}
use Rattle.image_format.specs.Images.{IsLawfulImage}
use Rattle.image_format.specs.declared.layout.AttrLayout.{AttrLayout}
use Rattle.attr_types.specs.Scores.{ask_tree}
use Rattle.attr_rounds.specs.Rounds.{MakesRounds}
use Rattle.attr_rounds.specs.declared.job.Job.{Job}
use Rattle.attr_rounds.specs.declared.rounds.Reading.{Reading}
use Rattle.attr_rounds.specs.declared.rounds.Round.{Round}
use Rattle.attr_rounds.specs.Lines.{CanAsk}
use Rattle.attr_rounds.specs.declared.asked.Asked.{Asked}
use Rattle.attr_rounds.specs.declared.asked.Told.{Told}
use Rattle.attr_engine.specs.Steps.{AllFrom, KeepsWriter, IsReader, HasRead, IsReading, IsTakenFrom, AreRoundsOf}
use Rattle.attr_engine.specs.Rounds.{operations_of, tells_of, commits_of}
use Rattle.attr_engine.proofs.MemoryLemmas.{from_zip}
use Rattle.attr_engine.proofs.ReaderLemmas.{AllOf, zip_all, zip_length, zip_each, reading_of, taken_of}

module _ (bits : ℕ) (G : Type 0) (w : WriterView) (home : TableId) (count : ℕ) (asked : Asked) where
  abbrev pub Made : Type 0
  Made = Result (Reading bits AttrLayout Told) AllocError

  abbrev pub IsJob : Job bits AttrLayout Asked G → Type 0
  IsJob job = IsReader w home (reader_of job.reader.place.me.0) job.reader.place.table_id × (job.count ≡ count) × (job.question.now ≡ asked)

  abbrev pub Gives : Job bits AttrLayout Asked G → Made → Type 0
  Gives job made = IfOk made (λ r.
      MakesRounds operations_of (tells_of job.question.now.counted (map ask_tree job.question.now.asks.now)) IsLawfulImage (reader_of job.reader.place.me.0) (reader_of r.reader.place.me.0) r.rounds.items
      × (length r.rounds.items ≡ job.count) × (r.reader.place.table_id ≡ job.reader.place.table_id))

  abbrev pub Has : Made → Type 0
  Has made = IfOk made (λ r. HasRead asked.counted (map ask_tree asked.asks.now) w home count (reader_of r.reader.place.me.0) r.reader.place.table_id r.rounds.items)

  abbrev pub IsNumbered : ℕ → Made → Type 0
  IsNumbered k made = IfOk made (λ r. (reader_of r.reader.place.me.0).number ≡ k)

  abbrev pub IsReadBy : List Event → Made → Vec (Round Told) Global → Type 0
  IsReadBy events made taken = IsOkAnd made (λ r. commits_of taken.items ≡ reads_of (reader_of r.reader.place.me.0).number events)

  given : (job : Job bits AttrLayout Asked G) (made : Made) → IsJob job → Gives job made → Has made
  given job (Err e) is gives = tt
  given job (Ok r) is gives = record {
    start = reader_of job.reader.place.me.0;
    seat = job.reader.place.table_id;
    is = is.0;
    makes = subst (λ (q : Asked). MakesRounds operations_of (tells_of q.counted (map ask_tree q.asks.now)) IsLawfulImage (reader_of job.reader.place.me.0) (reader_of r.reader.place.me.0) r.rounds.items)
        is.2 gives.0;
    made = gives.1 ∙ is.1;
    same = gives.2;
  }

  pub all_given : (jobs : List (Job bits AttrLayout Asked G)) (readings : List Made) → All IsJob jobs → AllZip Gives jobs readings → AllOf Has (length jobs) readings
  all_given jobs readings are zip = record { each = zip_all IsJob Gives Has given jobs readings are zip; count = zip_length Gives jobs readings zip }

  -- the readings have the numbers of their readers
  pub all_numbered : (n : ℕ) (jobs : List (Job bits AttrLayout Asked G)) (readings : List Made) → AllFrom (λ k job. (reader_of job.reader.place.me.0).number ≡ k) n jobs
      → AllZip Gives jobs readings → AllFrom IsNumbered n readings
  all_numbered n jobs readings are zip = from_zip (λ k job. (reader_of job.reader.place.me.0).number ≡ k) Gives IsNumbered numbered n jobs readings are zip
    where
      numbered : (k : ℕ) (job : Job bits AttrLayout Asked G) (made : Made) → (reader_of job.reader.place.me.0).number ≡ k → Gives job made → IsNumbered k made
      numbered k job (Err e) is gives = tt
      numbered k job (Ok r) is gives = gives.0.same_number ∙ is

  -- and so the rounds that are taken in are the reads of these numbers
  pub all_read_by : (events : List Event) (n : ℕ) (readings : List Made) (rounds : List (Vec (Round Told) Global)) → AllFrom IsNumbered n readings
      → AllZip (IsReadBy events) readings rounds → AllFrom (λ k r. commits_of r.items ≡ reads_of k events) n rounds
  all_read_by events n readings rounds are zip = from_zip IsNumbered (IsReadBy events) (λ k r. commits_of r.items ≡ reads_of k events) step n readings rounds are zip
    where
      step : (k : ℕ) (made : Made) (r : Vec (Round Told) Global) → IsNumbered k made → IsReadBy events made r → commits_of r.items ≡ reads_of k events
      step k (Err e) r is by = absurd by
      step k (Ok x) r is by = by ∙ ap (λ j. reads_of j events) is

  pub can_ask : (jobs : List (Job bits AttrLayout Asked G)) → CanAsk asked.fields.now (length asked.asks.now) w.sizes.shape → All IsJob jobs
      → All (λ job. CanAsk job.question.now.fields.now (length job.question.now.asks.now) (reader_of job.reader.place.me.0).sizes.shape) jobs
  can_ask jobs can are = λ k d below.
      let is = are k d below in
      subst (λ (q : Asked). CanAsk q.fields.now (length q.asks.now) (reader_of (slice_index_or jobs k d).reader.place.me.0).sizes.shape) (sym is.2)
      (subst (λ (z : Sizes). CanAsk asked.fields.now (length asked.asks.now) z.shape) (sym is.0.same_sizes) can)

  module _ (v : WriterView) (here : TableId) (shape : v.sizes.shape ≡ w.sizes.shape) (same : here ≡ home) where
    abbrev Reads : Made → Type 0
    Reads made = IfOk made (λ r. IsReading asked.counted (map ask_tree asked.asks.now) v.sizes.shape here (reader_of r.reader.place.me.0) r.reader.place.table_id r.rounds.items)

    reads : (made : Made) → Has made → Reads made
    reads (Err e) has = tt
    reads (Ok r) has = reading_of asked.counted (map ask_tree asked.asks.now) w home count (reader_of r.reader.place.me.0) r.reader.place.table_id r.rounds.items has v here shape same

    pub all_read : (readings : List Made) → AllByRecursion Has readings → AllByRecursion Reads readings
    all_read readings has = AllByRecursion-weaker Has Reads reads readings has

    abbrev pub TakenBy : Made → Vec (Round Told) Global → Type 0
    TakenBy made rounds = IsOkAnd made (λ r. IsTakenFrom asked.counted (map ask_tree asked.asks.now) v.sizes.shape v.commits r.rounds.items rounds.items)

    abbrev pub Taken : Vec (Round Told) Global → Type 0
    Taken rounds = AreRoundsOf asked.counted (map ask_tree asked.asks.now) v.sizes.shape (last_number w.commits) count v.commits rounds.items

    taken : (made : Made) (rounds : Vec (Round Told) Global) → Has made → TakenBy made rounds → Taken rounds
    taken (Err e) rounds has by = absurd by
    taken (Ok r) rounds has by =
        taken_of asked.counted (map ask_tree asked.asks.now) w home count (reader_of r.reader.place.me.0) r.reader.place.table_id r.rounds.items has v.sizes.shape v.commits rounds.items by

    pub all_taken : (readings : List Made) (rounds : List (Vec (Round Told) Global)) → AllByRecursion Has readings → AllZip TakenBy readings rounds
        → AllOf Taken (length readings) rounds
    all_taken readings rounds has zip = record { each = zip_each Has TakenBy Taken taken readings rounds has zip; count = zip_length TakenBy readings rounds zip }

    -- the same of the writer that the readers were made of, which has the same commits
    home_again : KeepsWriter w v → (rounds : Vec (Round Told) Global) → Taken rounds
        → AreRoundsOf asked.counted (map ask_tree asked.asks.now) w.sizes.shape (last_number w.commits) count w.commits rounds.items
    home_again keeps rounds is =
        subst (λ (x : WriterView). AreRoundsOf asked.counted (map ask_tree asked.asks.now) x.sizes.shape (last_number w.commits) count x.commits rounds.items) keeps is

    pub all_home : KeepsWriter w v → (rounds : List (Vec (Round Told) Global)) → AllByRecursion Taken rounds
        → AllByRecursion (λ r. AreRoundsOf asked.counted (map ask_tree asked.asks.now) w.sizes.shape (last_number w.commits) count w.commits r.items) rounds
    all_home keeps rounds all =
        AllByRecursion-weaker Taken (λ r. AreRoundsOf asked.counted (map ask_tree asked.asks.now) w.sizes.shape (last_number w.commits) count w.commits r.items) (home_again keeps) rounds all
