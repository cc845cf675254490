use Rattle.std.proofs.Common.{◌≡◌, ◌≤◌, length, All}
use Rattle.word_arena.proofs.seats.Owners.new.Given as goal

abbrev pub invariant-loop : goal.invariant-loop
invariant-loop g l = record {
  same : All (λ a. a.value ≡ l.arena.value) l.spare.items;
  long : length l.spare.items ≡ l.counter;
  behind : l.counter ≤ 64;
}
