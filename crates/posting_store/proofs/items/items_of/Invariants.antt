use Rattle.std.proofs.Common.{◌≡◌, ◌≤◌, ◌+◌, ◌++◌, length, map}
use Rattle.image_format.specs.Words.{unpacked}
use Rattle.posting_store.specs.Lists.{list_at}
use Rattle.posting_store.specs.Walks.{postings_from, IsListPlace}
use Rattle.posting_store.proofs.items.items_of.Given as goal

abbrev pub invariant-loop-cursor : goal.invariant-loop-cursor
invariant-loop-cursor g l =
    let m = g.F.Frozen.records l.fn.frozen in
    record {
      same : l.frozen ≡ l.fn.frozen;
      place : IsListPlace m l.cursor;
      done : map unpacked l.items.items ++ postings_from m l.cursor ≡ list_at m l.fn.list;
      few : length l.items.items + length (postings_from m l.cursor) ≤ 9;
    }

abbrev pub decreases-loop-cursor : goal.decreases-loop-cursor
decreases-loop-cursor g l = length (postings_from (g.F.Frozen.records l.fn.frozen) l.cursor)
