use Rattle.std.proofs.Common.{◌≡◌, ◌+◌, ◌≤◌, length}
use Rattle.feed_reader.specs.Feed.{ops_of_lines, feed_of, with_front}
use Rattle.feed_reader.specs.Lines.{lines_of}
use Rattle.feed_reader.proofs.feed.read_lines.Given as goal

-- the operations so far, and what the other lines say, are what the feed says
abbrev pub invariant-loop-rest : goal.invariant-loop-rest
invariant-loop-rest l = record {
  said : with_front l.ops (ops_of_lines l.fields l.number (lines_of l.rest)) ≡ feed_of l.fields l.bytes;
  small_read : l.number + length l.rest ≤ length l.bytes + 1;
  few : length l.ops + length l.rest ≤ length l.bytes;
}

abbrev pub decreases-loop-rest : goal.decreases-loop-rest
decreases-loop-rest l = length l.rest
