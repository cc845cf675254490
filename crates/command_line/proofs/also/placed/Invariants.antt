use Rattle.std.proofs.Common.{◌≡◌, ◌+◌, ◌++◌, map, drop}
use Rattle.command_line.specs.Also.{piece_of, placed, span}
use Rattle.command_line.proofs.also.placed.Given as goal

-- the parts so far, before those of the other texts, are all; and the other texts reach to the end
abbrev pub invariant-loop-text : goal.invariant-loop-text
invariant-loop-text l = record {
  read : map piece_of l.parts.items ++ placed l.place (map (λ t. t.now) (drop l.text-index l.texts))
      ≡ placed l.fn.place (map (λ t. t.now) l.texts);
  reach : l.place + span (map (λ t. t.now) (drop l.text-index l.texts)) ≡ l.fn.place + span (map (λ t. t.now) l.texts);
}
