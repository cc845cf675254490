use Rattle.std.proofs.Common.{◌≡◌, ◌+◌, ◌++◌, drop, string_bytes}
use Rattle.attr_engine.specs.Writing.{rounds_text}
use Rattle.attr_engine.proofs.writing.push_rounds.Given as goal

-- the rounds so far, and the others, are all of them
abbrev pub invariant-loop-round : goal.invariant-loop-round
invariant-loop-round l = record {
  written : string_bytes l.text ++ rounds_text l.reader l.number (drop l.round-index l.rounds) ≡ string_bytes l.fn.text ++ rounds_text l.reader 1 l.rounds;
  counted : l.number ≡ l.round-index + 1;
}
