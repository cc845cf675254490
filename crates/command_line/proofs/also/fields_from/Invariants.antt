use Rattle.std.proofs.Common.{◌≡◌, ◌∷◌, [], map, drop}
use Rattle.std.specs.List.{AllByRecursion}
use Rattle.command_line.specs.Also.{EndsBefore, piece_of, fields_from}
use Rattle.command_line.proofs.also.fields_from.Given as goal

-- the attributes so far, with those of the other fields, are all
abbrev pub invariant-loop-part : goal.invariant-loop-part
invariant-loop-part l = record {
  read : fields_from l.fields (map piece_of (drop l.part-index l.parts))
      ≡ fields_from (l.fn.first ∷ []) (map piece_of l.parts);
  left : AllByRecursion (EndsBefore 18446744073709551614) (map piece_of (drop l.part-index l.parts));
}
