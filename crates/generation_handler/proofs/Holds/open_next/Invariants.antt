use Rattle.std.proofs.Common.{◌≡◌, ◌<◌, ℕ, true}
use Rattle.generation_handler.specs.Queues.{has_hold}
use Rattle.generation_handler.proofs.Holds.open_next.Given as goal

abbrev pub invariant-loop-hold : goal.invariant-loop-hold
invariant-loop-hold l = (k : ℕ) → k < l.hold → has_hold l.self-inside.queue.items k ≡ true
