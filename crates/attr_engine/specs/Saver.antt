-- The saver of a run: a reader beside the loading, or one more after it.
use Rattle.std.specs.Prelude.{◌≡◌, ℕ, Bool, true, false, List, length, Option, Some, None, Vec}
use Rattle.std.specs.Global.{Global}
use Rattle.atomic_table.specs.Seated.{TableId}
use Rattle.gen_core.specs.declared.views.ReaderView.{ReaderView}
use Rattle.gen_core.specs.declared.views.WriterView.{WriterView}
use Rattle.image_format.specs.Images.{IsLawfulImage}
use Rattle.attr_rounds.specs.Rounds.{AreSeen, IsOfCommit, MakesRounds}
use Rattle.attr_rounds.specs.Saves.{operations_of, saves_of}
use Rattle.attr_rounds.specs.declared.rounds.Round.{Round}
use Rattle.attr_types.specs.declared.field.Field.{Field}
use Rattle.attr_engine.specs.Steps.{IsReader}
use Rattle.attr_engine.specs.declared.run_result.Save.{Save}

-- whether the table is saved beside the loading, and whether after it
abbrev pub save_parts : Bool → Bool → Bool × Bool
save_parts true save = (false, save)
save_parts false save = (save, false)

-- how many seats a saver takes
abbrev pub one_if : Bool → ℕ
one_if true = 1
one_if false = 0

-- a task, if there is one, gives what it gives, and nothing is given where there is none
abbrev pub GivesIfAny : {T B : Type 0} → (T → B → Type 0) → Option T → Option B → Type 0
GivesIfAny gives (Some task) (Some given) = gives task given
GivesIfAny gives None None = Unit {0}
GivesIfAny gives (Some task) None = ⊥
GivesIfAny gives None (Some given) = ⊥

-- a saver after its round, that was made of this writer
pub record HasSaved (field : Field) (w : WriterView) (home : TableId) (r : ReaderView) (table : TableId)
    (rounds : List (Round (Vec ℕ Global))) : Type 0 where
  pub start : ReaderView
  pub seat : TableId
  pub is : IsReader w home start seat
  pub makes : MakesRounds operations_of (saves_of field) IsLawfulImage start r rounds
  pub made : length rounds ≡ 1
  pub same : table ≡ seat

-- a saver after its round, which can be taken in
pub record IsSaverDone (field : Field) (shape : ℕ) (home : TableId) (r : ReaderView) (table : TableId)
    (rounds : List (Round (Vec ℕ Global))) : Type 0 where
  pub shape_is : r.sizes.shape ≡ shape
  pub are_seen : AreSeen operations_of (saves_of field) IsLawfulImage r rounds
  pub made : length rounds ≡ 1
  pub at_home : table ≡ home

-- a save is of one of a writer's commits
pub record IsSaveIn (field : Field) (w : WriterView) (save : Save) : Type 0 where
  pub round : Round (Vec ℕ Global)
  pub operations : save.operations ≡ round.operations
  pub bytes : save.bytes ≡ round.answer
  pub of_commit : IsOfCommit operations_of (saves_of field) w.sizes.shape w.commits round
