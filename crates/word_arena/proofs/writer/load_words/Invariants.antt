use Rattle.std.proofs.Common.{◌≡◌, length, take, drop}
use Rattle.gen_core.specs.Work.{writer_records}
use Rattle.word_arena.specs.Ruled.{writer_of}
use Rattle.word_arena.proofs.writer.load_words.Given as goal

abbrev pub invariant-loop-i : goal.invariant-loop-i
invariant-loop-i g l =
    record {
      same : l.seat ≡ l.fn.seat;
      room : length l.into ≡ length l.fn.into;
      read : take l.i l.into ≡ take l.i (drop l.fn.first (writer_records (writer_of l.fn.seat.me.0) l.fn.entry));
    }
