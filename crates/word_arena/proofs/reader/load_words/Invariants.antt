use Rattle.std.proofs.Common.{◌≡◌, length, take, drop}
use Rattle.entry_ref.specs.Images.{words_at}
use Rattle.word_arena.specs.Ruled.{reader_of, seen_image}
use Rattle.word_arena.proofs.reader.load_words.Given as goal

abbrev pub invariant-loop-i : goal.invariant-loop-i
invariant-loop-i g l =
    record {
      same : l.seat ≡ l.fn.seat;
      room : length l.into ≡ length l.fn.into;
      read : take l.i l.into ≡ take l.i (drop l.fn.first (words_at (seen_image (reader_of l.fn.seat.me.0)) l.fn.entry));
    }
