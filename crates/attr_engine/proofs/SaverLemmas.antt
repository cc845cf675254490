-- A saver, its round taken in, and the save that its bytes are.
use Rattle.std.proofs.Common.{◌≡◌, ◌≤◌, ◌+◌, ℕ, suc, true≢false, List, [], ◌∷◌, length, refl, sym, ap, subst, ◌∙◌, arith, Some}
use Rattle.std.specs.Prelude.{Bool, true, false, if◌then◌else◌, All, Option, None, is_some, IfSome, Result, Ok, Err, IfOk, Vec, slice_get}
use Rattle.std.specs.Global.{Global}
use Rattle.std.specs.declared.alloc.AllocError.{AllocError}
use Rattle.std.proofs.lemmas.Option.{slice_get_within}
use Rattle.list_lemmas.proofs.Options.{same_Some}
use Rattle.atomic_table.specs.Seated.{TableId}
use Rattle.entry_ref.specs.declared.images.Image.{Image}
use Rattle.entry_ref.specs.Images.{words_at}
use Rattle.gen_core.specs.declared.views.Sizes.{Sizes}
use Rattle.gen_core.specs.declared.views.ReaderView.{ReaderView}
use Rattle.gen_core.specs.declared.views.WriterView.{WriterView}
use Rattle.gen_core.specs.Events.{joined}
use Rattle.gen_core.specs.Views.{last_number}
use Rattle.word_arena.specs.Ruled.{reader_of}
use Rattle.image_format.specs.Images.{table_of, IsLawfulImage}
use Rattle.image_format.specs.Shapes.{shape_of, types_of}
use Rattle.image_format.specs.declared.layout.AttrLayout.{AttrLayout}
use Rattle.attr_types.specs.Table.{Table, after, IsCommitPoint}
use Rattle.attr_types.specs.declared.field.Field.{Field}
use Rattle.attr_types.specs.declared.field.TheConstants.{MOST_FIELDS}
use Rattle.attr_types.specs.declared.op.Op.{Op}
use Rattle.attr_saver.proofs.FirstLemmas.{first_is as first_of_shape}
use Rattle.attr_saver.specs.Bytes.{saved_bytes}
use Rattle.attr_saver.specs.Images.{IsFirst}
use Rattle.attr_saver.specs.Lawful.{save_of}
use Rattle.attr_loader.specs.Loading.{AreCommits, commit_point}
use Rattle.attr_rounds.specs.Rounds.{IsOfCommit, MakesRounds}
use Rattle.attr_rounds.specs.Saves.{operations_of, saves_of}
use Rattle.attr_rounds.specs.declared.rounds.Reading.{Reading}
use Rattle.attr_rounds.specs.declared.rounds.Round.{Round}
use Rattle.attr_rounds.specs.declared.saving.Saver.{Saver}
use Rattle.attr_report.specs.Report.{saved_text}
use Rattle.attr_report.specs.Run.{Run, table_after}
use Rattle.attr_engine.specs.Rounds.{IsSaveOf}
use Rattle.attr_engine.specs.Saver.{one_if, save_parts, GivesIfAny, HasSaved, IsSaverDone, IsSaveIn}
use Rattle.attr_engine.specs.Steps.{KeepsWriter, IsReader, IsLastAnswer}
use Rattle.attr_engine.specs.declared.run_result.Save.{Save}
use Rattle.attr_engine.proofs.HistoryLemmas.{is_point, points_rise}
use Rattle.attr_engine.proofs.ReaderLemmas.{all_first}

-- ---- the first attribute

pub first_is : (fields : List Field) (field : Field) (shape : ℕ) → length fields ≤ MOST_FIELDS → shape ≡ shape_of (types_of fields) → slice_get fields 0 ≡ Some field
    → IsFirst field.kind field.value shape
first_is fields field shape few is at = subst (λ s. IsFirst field.kind field.value s) (sym is) (first_of_shape fields field few at)

-- ---- a task, if there is one

pub any_some : {T B : Type 0} (gives : T → B → Type 0) (saver : Option T) (given : Option B) → GivesIfAny gives saver given → is_some given ≡ is_some saver
any_some gives (Some task) (Some x) is = refl
any_some gives None None is = refl
any_some gives (Some task) None is = absurd is
any_some gives None (Some x) is = absurd is

pub any_each : {T B : Type 0} (gives : T → B → Type 0) (P : T → Type 0) (Q : B → Type 0) → ((task : T) (x : B) → P task → gives task x → Q x)
    → (saver : Option T) (given : Option B) → GivesIfAny gives saver given → IfSome saver P → IfSome given Q
any_each gives P Q step (Some task) (Some x) is holds = step task x holds is
any_each gives P Q step None None is holds = tt
any_each gives P Q step (Some task) None is holds = absurd is
any_each gives P Q step None (Some x) is holds = absurd is

-- ---- the saver's round

abbrev Rounds : Type 0
Rounds = List (Round (Vec ℕ Global))

module _ (bits : ℕ) (G : Type 0) (field : Field) (w : WriterView) (home : TableId) where
  abbrev pub IsSaver : Saver bits G → Type 0
  IsSaver saver = IsReader w home (reader_of saver.reader.place.me.0) saver.reader.place.table_id × (saver.saving.now.field.now ≡ field)

  pub can_save : (saver : Option (Saver bits G)) → IfSome saver IsSaver → IsFirst field.kind field.value w.sizes.shape
      → IfSome saver (λ s. IsFirst s.saving.now.field.now.kind s.saving.now.field.now.value (reader_of s.reader.place.me.0).sizes.shape)
  can_save None is first = tt
  can_save (Some s) is first =
      subst (λ (f : Field). IsFirst f.kind f.value (reader_of s.reader.place.me.0).sizes.shape) (sym is.1)
      (subst (λ (z : Sizes). IsFirst field.kind field.value z.shape) (sym is.0.same_sizes) first)

  abbrev pub GivesSave : Saver bits G → Result (Reading bits AttrLayout (Vec ℕ Global)) AllocError → Type 0
  GivesSave saver made = IfOk made (λ r.
      MakesRounds operations_of (saves_of saver.saving.now.field.now) IsLawfulImage (reader_of saver.reader.place.me.0) (reader_of r.reader.place.me.0) r.rounds.items
      × (length r.rounds.items ≡ 1) × (r.reader.place.table_id ≡ saver.reader.place.table_id))

  abbrev pub SavedBy : Result (Reading bits AttrLayout (Vec ℕ Global)) AllocError → Type 0
  SavedBy made = IfOk made (λ r. HasSaved field w home (reader_of r.reader.place.me.0) r.reader.place.table_id r.rounds.items)

  pub saved_by : (saver : Saver bits G) (made : Result (Reading bits AttrLayout (Vec ℕ Global)) AllocError) → IsSaver saver → GivesSave saver made → SavedBy made
  saved_by saver (Err e) is gives = tt
  saved_by saver (Ok r) is gives = record {
    start = reader_of saver.reader.place.me.0;
    seat = saver.reader.place.table_id;
    is = is.0;
    makes = subst (λ (f : Field). MakesRounds operations_of (saves_of f) IsLawfulImage (reader_of saver.reader.place.me.0) (reader_of r.reader.place.me.0) r.rounds.items) is.1 gives.0;
    made = gives.1;
    same = gives.2;
  }

  module _ (v : WriterView) (here : TableId) (shape : v.sizes.shape ≡ w.sizes.shape) (same : here ≡ home) where
    abbrev pub DoneBy : Result (Reading bits AttrLayout (Vec ℕ Global)) AllocError → Type 0
    DoneBy made = IfOk made (λ r. IsSaverDone field v.sizes.shape here (reader_of r.reader.place.me.0) r.reader.place.table_id r.rounds.items)

    pub done_by : (made : Result (Reading bits AttrLayout (Vec ℕ Global)) AllocError) → SavedBy made → DoneBy made
    done_by (Err e) has = tt
    done_by (Ok r) has = record {
      shape_is = ap (λ (x : Sizes). x.shape) (has.makes.same_sizes ∙ has.is.same_sizes) ∙ sym shape;
      are_seen = has.makes.are_seen;
      made = has.made;
      at_home = has.same ∙ has.is.at_home ∙ sym same;
    }

-- a reader of a writer that keeps its commits
pub reader_kept : (w v : WriterView) (home here : TableId) (r : ReaderView) (table : TableId) → KeepsWriter w v → here ≡ home → IsReader v here r table → IsReader w home r table
reader_kept w v home here r table keeps same is =
    let moved = subst (λ (x : WriterView). IsReader x here r table) keeps is in
    record { same_sizes = moved.same_sizes; seen_last = moved.seen_last; nothing = moved.nothing; at_home = moved.at_home ∙ same }

-- the round of a saver, taken in, is of a commit that the writer has
pub save_in : (field : Field) (w v : WriterView) (r : ReaderView) (rounds taken : Rounds) (round : Round (Vec ℕ Global)) (save : Save) → v ≡ joined w r → r.sizes.shape ≡ w.sizes.shape
    → All (IsOfCommit operations_of (saves_of field) r.sizes.shape v.commits) taken → taken ≡ round ∷ [] → save.operations ≡ round.operations → save.bytes ≡ round.answer → IsSaveIn field w save
save_in field w v r rounds taken round save joins shape all one operations bytes =
    let stay : v.commits ≡ w.commits = ap (λ (x : WriterView). x.commits) joins in
    record {
      round = round;
      operations = operations;
      bytes = bytes;
      of_commit = subst (λ n. IsOfCommit operations_of (saves_of field) n w.commits round) shape
          (subst (λ (cs : List Image). IsOfCommit operations_of (saves_of field) r.sizes.shape cs round) stay
          (all_first (IsOfCommit operations_of (saves_of field) r.sizes.shape v.commits) round []
          (subst (All (IsOfCommit operations_of (saves_of field) r.sizes.shape v.commits)) one all)));
    }

-- a save of a writer that keeps its commits
pub save_kept : (field : Field) (w v : WriterView) (save : Save) → KeepsWriter w v → IsSaveIn field v save → IsSaveIn field w save
save_kept field w v save keeps is =
    let moved = subst (λ (x : WriterView). IsSaveIn field x save) keeps is in
    record { round = moved.round; operations = moved.operations; bytes = moved.bytes; of_commit = moved.of_commit }

pub save_moved : (field : Field) (w v : WriterView) (save : Save) → KeepsWriter w v → IsSaveIn field w save → IsSaveIn field v save
save_moved field w v save keeps is =
    subst (λ (x : WriterView). IsSaveIn field x save) (sym keeps) (record { round = is.round; operations = is.operations; bytes = is.bytes; of_commit = is.of_commit })

-- ---- the save of a run

saved_same : (fields : List Field) (field : Field) (table : Table) (n : ℕ) → slice_get fields 0 ≡ Some field → saved_bytes (save_of field.kind field.value n table) ≡ saved_text fields table n
saved_same [] field table n at = cc
saved_same (f ∷ fields) field table n at = ap (λ (x : Field). saved_bytes (save_of x.kind x.value n table)) (sym (same_Some f field at))

module _ (run : Run) (ops : List Op) (field : Field) (first : slice_get run.fields 0 ≡ Some field) (last : ℕ) (commits : List Image)
    (are : AreCommits run.fields run.batch ops last commits) (count : length commits ≡ last + 1) (shape : ℕ) (shape_is : shape ≡ shape_of (types_of run.fields))
    (loaded : ℕ) (point : loaded ≡ commit_point run.batch (length ops) last) where
  -- what a round that answers with a save says of the run
  record SavesAt (round : Round (Vec ℕ Global)) : Type 0 where
    within : round.commit ≤ last
    operations : round.operations ≡ commit_point run.batch (length ops) round.commit
    bytes : round.answer.items ≡ saved_text run.fields (table_after run ops round.operations) round.operations

  saves_at : (round : Round (Vec ℕ Global)) → IsOfCommit operations_of (saves_of field) shape commits round → SavesAt round
  saves_at round of =
      let at = are.each round.commit of.image of.there in
      let m = words_at of.image in
      let n : round.operations ≡ commit_point run.batch (length ops) round.commit = of.is.count ∙ at.operations in
      let table_is : table_of shape m of.image.root ≡ table_after run ops round.operations =
      ap (λ s. table_of s m of.image.root) shape_is ∙ at.table ∙ ap (λ k. after run.fields ops k) (sym n) in
      record {
        within = (let inside = slice_get_within commits round.commit of.image of.there in omega (arith, inside, count));
        operations = n;
        bytes = of.is.answer
            ∙ ap (λ k. saved_bytes (save_of field.kind field.value k (table_of shape m of.image.root))) (sym of.is.count)
            ∙ ap (λ (table : Table). saved_bytes (save_of field.kind field.value round.operations table)) table_is
            ∙ saved_same run.fields field (table_after run ops round.operations) round.operations first;
      }

  text_as : (save : Save) (round : Round (Vec ℕ Global)) → SavesAt round → save.operations ≡ round.operations → save.bytes ≡ round.answer
      → save.bytes.items ≡ saved_text run.fields (table_after run ops save.operations) save.operations
  text_as save round at operations bytes =
      ap (λ (b : Vec ℕ Global). b.items) bytes ∙ at.bytes ∙ ap (λ k. saved_text run.fields (table_after run ops k) k) (sym operations)

  -- one that was made beside the loading is of a commit point that was loaded
  pub save_beside : (v : WriterView) (save : Save) → v.sizes.shape ≡ shape → v.commits ≡ commits → run.after ≡ false → IsSaveIn field v save → IsSaveOf run ops loaded save
  save_beside v save shapes commits_are beside is =
      let of = subst (λ n. IsOfCommit operations_of (saves_of field) n commits is.round) shapes
      (subst (λ (cs : List Image). IsOfCommit operations_of (saves_of field) v.sizes.shape cs is.round) commits_are is.of_commit) in
      let at = saves_at is.round of in
      let n : save.operations ≡ commit_point run.batch (length ops) is.round.commit = is.operations ∙ at.operations in
      let rise = points_rise run.batch (length ops) is.round.commit last at.within in
      record {
        at = (subst (λ k. IsCommitPoint run.batch (length ops) k) (sym n) (is_point run.batch (length ops) is.round.commit), omega (arith, n, rise, point), λ after. absurd (true≢false (sym after ∙ beside)));
        bytes = text_as save is.round at is.operations is.bytes;
      }

  -- one that was made after the loading is of all that was loaded
  pub save_after : (v : WriterView) (save : Save) → v.sizes.shape ≡ shape → v.commits ≡ commits → save.operations ≡ loaded → last ≤ last_number v.commits
      → IsLastAnswer operations_of (saves_of field) v save.bytes → IsSaveOf run ops loaded save
  save_after v save shapes commits_are operations final is =
      let of = subst (λ n. IsOfCommit operations_of (saves_of field) n commits is.round) shapes
      (subst (λ (cs : List Image). IsOfCommit operations_of (saves_of field) v.sizes.shape cs is.round) commits_are is.of_commit) in
      let at = saves_at is.round of in
      let within = at.within in
      let later = is.later in
      let same : is.round.commit ≡ last = omega (arith, within, later, final) in
      let n : save.operations ≡ is.round.operations = operations ∙ point ∙ ap (commit_point run.batch (length ops)) (sym same) ∙ sym at.operations in
      record {
        at = (subst (λ k. IsCommitPoint run.batch (length ops) k) (sym (operations ∙ point)) (is_point run.batch (length ops) last), omega (arith, operations), λ after. operations);
        bytes = text_as save is.round at n is.is;
      }

-- a saver takes one seat, beside the loading or after it
pub one_part : (after save : Bool) → one_if (save_parts after save).0 + one_if (save_parts after save).1 ≤ 1
one_part true true = omega arith
one_part true false = omega arith
one_part false true = omega arith
one_part false false = omega arith

-- ---- the save that a run chose

pub chosen_asked : (after save : Bool) (first later chosen : Option Save) → chosen ≡ (if after then later else first) → is_some first ≡ (save_parts after save).0
    → is_some later ≡ (save_parts after save).1 → is_some chosen ≡ save
chosen_asked true save first later chosen is one two = ap is_some is ∙ two
chosen_asked false save first later chosen is one two = ap is_some is ∙ one

pub chosen_is : (P : Save → Type 0) (after b : Bool) (first later chosen : Option Save) → after ≡ b → chosen ≡ (if b then later else first)
    → (after ≡ false → IfSome first P) → IfSome later P → IfSome chosen P
chosen_is P after true first later chosen same is one two = subst (λ (o : Option Save). IfSome o P) (sym is) two
chosen_is P after false first later chosen same is one two = subst (λ (o : Option Save). IfSome o P) (sym is) (one same)

pub if_both : {A : Type 0} (P Q R : A → Type 0) (o : Option A) → ((a : A) → P a → Q a → R a) → IfSome o P → IfSome o Q → IfSome o R
if_both P Q R (Some a) step p q = step a p q
if_both P Q R None step p q = tt

-- what a loading came to, and what it gave beside
pub given_both : {A E : Type 0} (P Q : A → Type 0) (r : Result A E) → IfOk r P → IfOk r Q → IfOk r (λ a. P a × Q a)
given_both P Q (Ok a) p q = (p, q)
given_both P Q (Err e) p q = tt
