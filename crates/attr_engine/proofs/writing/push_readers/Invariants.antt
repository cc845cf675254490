use Rattle.std.proofs.Common.{◌≡◌, ◌+◌, ◌++◌, drop, string_bytes}
use Rattle.attr_engine.specs.Writing.{readers_text}
use Rattle.attr_engine.proofs.writing.push_readers.Given as goal

-- the readers so far, and the others, are all of them
abbrev pub invariant-loop-made : goal.invariant-loop-made
invariant-loop-made l = record {
  written : string_bytes l.text ++ readers_text l.reader (drop l.made-index l.rounds) ≡ string_bytes l.fn.text ++ readers_text 1 l.rounds;
  counted : l.reader ≡ l.made-index + 1;
}
