use Rattle.std.proofs.Common.{◌≡◌, ◌*◌, ◌≤◌, take, sum_by}
use Rattle.buffer_states.specs.declared.Buffer.{Buffer}
use Rattle.buffer_states.proofs.Buffers.words.Given as goal

-- the words of the buffers so far
abbrev pub invariant-loop-number : goal.invariant-loop-number
invariant-loop-number l = record {
  used : l.words.used ≡ sum_by (λ (b : Buffer). b.used) (take l.number l.self);
  dead : l.words.dead ≡ sum_by (λ (b : Buffer). b.dead) (take l.number l.self);
  held : l.words.held ≡ sum_by (λ (b : Buffer). b.held) (take l.number l.self);
  few_used : l.words.used ≤ l.number * 4294967295;
  few_dead : l.words.dead ≤ l.number * 4294967295;
  few_held : l.words.held ≤ l.number * 4294967295;
}
