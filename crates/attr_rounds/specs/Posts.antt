-- A reader between two rounds, with or without a guard.
use Rattle.std.specs.Prelude.{ℕ}
use Rattle.atomic_table.specs.Seated.{TableId}
use Rattle.gen_core.specs.declared.views.ReaderView.{ReaderView}
use Rattle.word_arena.specs.Ruled.{reader_of}
use Rattle.attr_rounds.specs.declared.rounds.Post.{Post}
use Rattle.attr_rounds.specs.declared.rounds.Post.TheVariants.{Idle, Under}

-- what it knows
abbrev pub view_at : {bits : ℕ} {L : Type 0} → Post bits L → ReaderView
view_at (Idle reader) = reader_of reader.place.me.0
view_at (Under guard) = reader_of guard.place.me.0

-- its arena
abbrev pub table_at : {bits : ℕ} {L : Type 0} → Post bits L → TableId
table_at (Idle reader) = reader.place.table_id
table_at (Under guard) = guard.place.table_id
