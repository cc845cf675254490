-- What a run that ran out of space leaves in the memory of its writer.
use Rattle.std.specs.Prelude.{◌≡◌, ℕ, ◌+◌, Bool, List, [], ◌∷◌, length, min, slice_get}
use Rattle.atomic_table.specs.Seated.{TableId}
use Rattle.atomic_table.specs.declared.badge.Badge.{Badge}
use Rattle.arena_api.specs.Works.{free_count, Buffer as ApiBuffer}
use Rattle.store_api.specs.Ledgers.{Ledger, active_count, held_count}
use Rattle.gen_core.specs.declared.views.WriterView.{WriterView}
use Rattle.word_arena.specs.Knows.{view_of, api_buffer}
use Rattle.word_arena.specs.Ruled.{writer_of}
use Rattle.word_arena.specs.declared.rule.Watched.{Watched}
use Rattle.attr_types.specs.Table.{after}
use Rattle.attr_types.specs.declared.field.Field.{Field}
use Rattle.attr_types.specs.declared.op.Op.{Op}
use Rattle.attr_loader.specs.Refusals.{IsRefusedCall}
use Rattle.attr_loader.specs.declared.loaded.NoRoom.{NoRoom}
use Rattle.attr_report.specs.Run.{Run}

-- the buffers of a writer
abbrev pub buffers_of : WriterView → ℕ → ApiBuffer
buffers_of w b = api_buffer (slice_get w.buffers b)

-- no buffer is free: this many are in use, and the others are held for readers. The store over this writer had refused the
-- operation of that number, after those before it, or the commit of the batch of which it is the last; other readers may have
-- been made since
pub record IsFullWriter (fields : List Field) (dense : Bool) (batch : ℕ) (ops : List Op) (loaded : ℕ) (w : WriterView) (room : NoRoom)
    : Type 0 where
  pub free : free_count (buffers_of w) w.sizes.buffers ≡ 0
  pub active_is : room.active ≡ active_count (buffers_of w) w.sizes.buffers
  pub held_is : room.held ≡ held_count (buffers_of w) w.sizes.buffers
  pub home : TableId
  pub store : Ledger TableId
  pub knows : store.work ≡ record (view_of home w) { made = store.work.made }
  pub applied : ℕ
  pub refused : IsRefusedCall fields dense (after fields ops applied) ops applied (min (loaded + batch) (length ops)) store room

-- the same of the writer of a run, by what its seat knew at the end
pub record IsFullAtEnd (run : Run) (ops : List Op) (loaded : ℕ) (seat : Badge Watched) (room : NoRoom) : Type 0 where
  pub knew : Watched
  pub is : seat.views ≡ knew ∷ []
  pub full : IsFullWriter run.fields run.dense run.batch ops loaded (writer_of knew) room
