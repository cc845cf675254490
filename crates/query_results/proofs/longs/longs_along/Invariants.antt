use Rattle.std.proofs.Common.{◌≡◌, ◌+◌, ◌≤◌, pos, length, map, take, drop}
use Rattle.std.specs.List.{filter_map}
use Rattle.std.specs.Option.{unwrap_or}
use Rattle.query_results.specs.Attributes.{number_in}
use Rattle.query_results.specs.Longs.{presence}
use Rattle.query_results.specs.Walks.{IsWalk}
use Rattle.query_results.proofs.longs.longs_along.Given as goal

-- the numbers that are written, and how many documents of those that are left have one
abbrev pub invariant-loop-i : goal.invariant-loop-i
invariant-loop-i g l =
    let m = g.F.Frozen.records l.fn.frozen in
    record {
      same : l.frozen ≡ l.fn.frozen;
      walk : IsWalk m l.attribute.documents l.walk;
      numbers : take l.i l.numbers ≡ take l.i (map (λ document. unwrap_or (number_in g.row.OFFSET_BITS m l.attribute document) (pos 0)) l.documents);
      present : take l.i l.present ≡ take l.i (map (λ document. presence (number_in g.row.OFFSET_BITS m l.attribute document)) l.documents);
      numbers_fit : length l.numbers ≡ length l.documents;
      present_fit : length l.present ≡ length l.documents;
      few : l.found ≤ l.i;
      whole : l.found + length (filter_map (number_in g.row.OFFSET_BITS m l.attribute) (drop l.i l.documents))
          ≡ length (filter_map (number_in g.row.OFFSET_BITS m l.attribute) l.documents);
    }
