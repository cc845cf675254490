use Rattle.std.proofs.Common.{◌≡◌, ◌+◌, map, drop, string_bytes}
use Rattle.attr_types.specs.Scores.{ask_tree}
use Rattle.attr_run.specs.Run.{asks_from}
use Rattle.attr_run.proofs.AsksLemmas.{after_front}
use Rattle.attr_run.proofs.request.asks_in.Given as goal

-- what is read so far, before what is said of the other texts, is what is said of all
abbrev pub invariant-loop-text : goal.invariant-loop-text
invariant-loop-text l = record {
  read : after_front (map ask_tree l.asks.items) (asks_from l.fields l.number (map (λ t. string_bytes t)
      (drop l.text-index l.texts)))
      ≡ asks_from l.fields 1 (map (λ t. string_bytes t) l.texts);
  counted : l.number ≡ l.text-index + 1;
}
