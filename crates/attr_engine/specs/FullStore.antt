-- What the crates above see of a loading that ran out of space.
use Rattle.std.specs.Prelude.{◌≡◌, ◌≤◌, ℕ, false, List, length}
use Rattle.attr_loader.specs.Room.{load_of}
use Rattle.attr_report.specs.Run.{Run}
use Rattle.attr_loader.specs.Runs.{Load, Readers}
use Rattle.attr_types.specs.declared.op.Op.{Op}
pub use Rattle.attr_loader.specs.declared.loaded.NoRoom.{NoRoom}
pub use Rattle.attr_loader.specs.Runs.{IsOwed, IsQuiet, IsSmall}

-- what a run loads, and its readers
abbrev pub load_in : Run → List Op → Load
load_in run ops = load_of run.buffers run.words run.fields run.batch ops

abbrev pub readers_of : Run → Readers
readers_of run = record { readers = run.readers; after = run.after; save = run.save }

-- why a run of operations, of which so many were committed, ran out of space: with one attribute, what was made can
-- fill all buffers if there are no bit vectors, and the run is not small; and if no reader is active while operations are
-- loaded, nothing is held
pub record IsJustified (run : Run) (ops : List Op) (loaded : ℕ) (full : NoRoom) : Type 0 where
  pub owed : run.dense ≡ false → length run.fields ≡ 1 → IsOwed (load_in run ops) full.operation loaded
  pub large : length run.fields ≡ 1 → 8 ≤ run.buffers → ¬ IsSmall (load_in run ops)
  pub quiet : IsQuiet (readers_of run) → full.held ≡ 0
