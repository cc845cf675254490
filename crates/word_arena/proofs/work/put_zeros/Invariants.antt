use Rattle.std.proofs.Common.{◌≡◌, ◌≢◌, ℕ, ◌<◌, ◌≤◌, Some}
use Rattle.gen_core.specs.Work.{writer_records}
use Rattle.word_arena.specs.Ruled.{writer_of}
use Rattle.word_arena.specs.Knows.{known_by, KeepsDesk}
use Rattle.word_arena.proofs.work.put_zeros.Given as goal

abbrev pub invariant-loop-i : goal.invariant-loop-i
invariant-loop-i g l = record {
  desk : KeepsDesk g.row.OFFSET_BITS l.fn.arena.table.shared.table_id l.fn.arena.sizes l.fn.seat l.seat;
  knows :
      known_by l.seat
      ≡ record (known_by l.fn.seat) { stored = (known_by l.seat).stored };
  behind : l.fn.start ≤ l.i;
  filled : (j : ℕ) → l.fn.start ≤ j → j < l.i → (known_by l.seat).stored l.entry j ≡ Some 0;
  kept :
      (j : ℕ) → j < l.fn.start → (known_by l.seat).stored l.entry j
      ≡ (known_by l.fn.seat).stored l.entry j;
  apart : (q j : ℕ) → q ≢ l.entry → (known_by l.seat).stored q j ≡ (known_by l.fn.seat).stored q j;
  others : (q : ℕ) → q ≢ l.entry → writer_records (writer_of l.seat.me.0) q ≡ writer_records (writer_of l.fn.seat.me.0) q;
  shape : (writer_of l.seat.me.0).sizes.shape ≡ (writer_of l.fn.seat.me.0).sizes.shape;
}
