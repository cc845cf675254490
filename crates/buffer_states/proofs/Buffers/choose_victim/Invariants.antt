use Rattle.buffer_states.proofs.Victims.{IsBest}
use Rattle.buffer_states.proofs.Buffers.choose_victim.Given as goal

abbrev pub invariant-loop-number : goal.invariant-loop-number
invariant-loop-number l = IsBest l.self-inside.buffers.items l.number l.victim l.most
